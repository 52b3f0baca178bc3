-- Name announcements: what the payload of a frame to the name service says.
-- Source: struct rpmsg_ns_msg of Linux (include/linux/rpmsg/ns.h): name (32 bytes), addr, flags (4 bytes each). The name
-- is the bytes before the first NUL among the first 31, or all 31. Flags 0 creates, and 1 destroys.
use Rattle.std.specs.Prelude.{◌≡◌, ℕ, ◌-◌, Bool, not, ◌&&◌, ◌==◌, nat_lt, nat_le, IsTrue, List, [], ◌∷◌, ◌++◌, length, take, take_while, replicate, if◌then◌else◌}
use Rattle.std.specs.List.{list_all}
use Rattle.byteorder.specs.Endian.{little_bytes}
use Rattle.mc_base.specs.Limits.{announcement_size, name_size}
use Rattle.mc_base.specs.Bytes.{number_at}
use Rattle.mc_base.specs.FaultRow.{FaultRow, row}
use Rattle.mc_base.specs.declared.fault.NsFault.{NsFault}
use Rattle.mc_base.specs.declared.fault.NsFault.TheVariants.{NsSize, NsFlags, NsName}

-- the bytes before the first NUL among the first 31, or all 31
abbrev pub name_in : List ℕ → List ℕ
name_in payload = take_while (λ b. not (b == 0)) (take name_size payload)

-- a byte that a name may have
abbrev pub is_printable : ℕ → Bool
is_printable b = nat_le 0x20 b && nat_le b 0x7e

-- the bytes of a name: some, and all printable
abbrev pub is_name : List ℕ → Bool
is_name name = nat_lt 0 (length name) && list_all is_printable name

-- what the flags say
abbrev pub flags_of : Bool → ℕ
flags_of create = if create then 0 else 1

-- the payload announces that this name has this address, or has it no more
pub record IsNs (payload : List ℕ) (name : List ℕ) (address : ℕ) (create : Bool) : Type 0 where
  pub whole : length payload ≡ announcement_size
  pub named : name ≡ name_in payload
  pub lawful : IsTrue (is_name name)
  pub addressed : address ≡ number_at 32 4 payload
  pub flagged : number_at 36 4 payload ≡ flags_of create

-- the spelling that is written: NUL after the name
abbrev pub announcement : List ℕ → ℕ → Bool → List ℕ
announcement name address create = name ++ (replicate (32 - length name) 0 ++ (little_bytes 4 address ++ little_bytes 4 (flags_of create)))

-- the faults in their order, with their places in a frame
abbrev pub announcement_faults : List ℕ → List (FaultRow NsFault)
announcement_faults payload =
    row NsSize (not (length payload == announcement_size)) 12
    ∷ row NsFlags (nat_lt 1 (number_at 36 4 payload)) 52
    ∷ row NsName (not (is_name (name_in payload))) 16
    ∷ []
