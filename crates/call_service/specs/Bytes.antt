-- Requests and replies as bytes.
-- Source: docs/PROFILE.md, "Numbered calls".
use Rattle.std.specs.Prelude.{ℕ, nat_lt, Bool, not, ◌&&◌, ◌==◌, List, ◌∷◌, ◌++◌, length, slice_index, Result, Ok, Err, if◌then◌else◌}
use Rattle.byteorder.specs.Endian.{little_bytes}
use Rattle.mc_base.specs.Bytes.{number_at}
use Rattle.mc_base.specs.Limits.{domain_limit}
use Rattle.call_service.specs.declared.reply.Reply.{Reply}
use Rattle.call_service.specs.declared.reply.Status.{Status}
use Rattle.call_service.specs.declared.reply.Status.TheVariants.{Done, Over, Old, Gap}
use Rattle.call_service.specs.declared.request.Request.{Request}
use Rattle.call_service.specs.declared.request.ServiceFault.{ServiceFault}
use Rattle.call_service.specs.declared.request.ServiceFault.TheVariants.{Form, Client, Cell}

-- ---- requests

abbrev pub has_form : List ℕ → Bool
has_form b = length b == 16 && (slice_index b 0 == 81 && slice_index b 3 == 0)

abbrev pub is_client : ℕ → Bool
is_client n = nat_lt 0 n && nat_lt n domain_limit

abbrev pub is_cell : ℕ → Bool
is_cell n = nat_lt n 16

abbrev pub request_of : List ℕ → Request
request_of b = record { client = slice_index b 1; cell = slice_index b 2; number = number_at 4 4 b; amount = number_at 8 8 b }

-- the request that these bytes are, or the first of its faults
abbrev pub request_in : List ℕ → Result Request ServiceFault
request_in b =
    if not (has_form b) then Err Form
    else if not (is_client (slice_index b 1)) then Err Client
    else if not (is_cell (slice_index b 2)) then Err Cell
    else Ok (request_of b)

-- ---- replies

abbrev pub status_byte : Status → ℕ
status_byte Done = 0
status_byte Over = 1
status_byte Old = 2
status_byte Gap = 3

abbrev pub reply_head : Status → ℕ → List ℕ
reply_head status number = 82 ∷ status_byte status ∷ 0 ∷ 0 ∷ little_bytes 4 number

-- the reply to a call of this number
abbrev pub reply_bytes : ℕ → Reply → List ℕ
reply_bytes number r = reply_head r.status number ++ little_bytes 8 r.value
