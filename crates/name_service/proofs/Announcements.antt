-- Name announcements, their fields and their spelling.
use Rattle.std.proofs.Common.{◌≡◌, ◌<◌, ◌≤◌, ◌+◌, ◌-◌, ◌^◌, ◌∙◌, ℕ, Bool, true, false, List, [], ◌∷◌, ◌++◌, length, take, drop, replicate, refl, sym, ap, arith, append_assoc, length-append, length-drop, append-nil, take_all}
use Rattle.std.proofs.lemmas.List.{drop-append-le, drop-drop, drop-replicate, length-replicate, take-append-le}
use Rattle.std.proofs.Math.Seq.{drop-length}
use borrow.Rule.Slice.PartMut.{put_mid}
use Rattle.std.specs.Prelude.{◌==◌, not, nat_lt, None}
use Rattle.byteorder.specs.Endian.{little_bytes, little_number}
use Rattle.byteorder.specs.Numbers.{little_number-reads_back}
use Rattle.mc_base.specs.Announcement.{IsNs, announcement, announcement_faults, flags_of, is_name, name_in}
use Rattle.mc_base.specs.Bytes.{number_at}
use Rattle.mc_base.specs.FaultRow.{first_fault, row}
use Rattle.mc_base.specs.declared.fault.NsFault.TheVariants.{NsSize, NsFlags, NsName}
use Rattle.mc_base.proofs.FaultRows.{first_fault-passed}
use Rattle.mc_base.proofs.NameFields.{nuls, length-field, drop-field, name_in-announcement}
use Rattle.name_service.specs.Laws.{AnnouncementsReadBack}

take-field : (name rest : List ℕ) → length name ≤ 31 → take 32 (name ++ (nuls name ++ rest)) ≡ name ++ nuls name
take-field name rest short =
    let field = name ++ nuls name in
    let long : length field ≡ 32 = length-field name short in
    ap (take 32) (sym (append_assoc name (nuls name) rest)) ∙ take-append-le 32 field rest (omega arith) ∙ take_all 32 field (omega arith)

-- a write to all that stands behind a name's field
pub put_behind : (name rest new out : List ℕ) → length name ≤ 31 → out ≡ name ++ (nuls name ++ rest)
    → put_mid 32 (length out - 32) out new ≡ name ++ (nuls name ++ new)
put_behind name rest new out short is =
    let front : take 32 out ≡ name ++ nuls name = ap (take 32) is ∙ take-field name rest short in
    let len : length out - 32 ≡ length (drop 32 out) = sym (length-drop 32 out) in
    let none : drop (length out - 32) (drop 32 out) ≡ [] = ap (λ n. drop n (drop 32 out)) len ∙ drop-length (drop 32 out) in
    rw (front, none) (append_assoc name (nuls name) (new ++ []) ∙ ap (λ (xs : List ℕ). name ++ (nuls name ++ xs)) (append-nil new))

-- a field of NUL, behind a name's place
pub drop-nuls : (name rest : List ℕ) → length name ≤ 31 → drop (length name) (replicate 32 0 ++ rest) ≡ nuls name ++ rest
drop-nuls name rest short =
    drop-append-le (length name) (replicate 32 0) rest (omega (arith, length-replicate {A = ℕ} 32 0)) ∙ ap (λ (xs : List ℕ). xs ++ rest) (drop-replicate (length name) 32 0)

flags_fit : (create : Bool) → flags_of create < 256 ^ 4
flags_fit true = omega arith
flags_fit false = omega arith

flags_are_lawful : (create : Bool) → nat_lt 1 (flags_of create) ≡ false
flags_are_lawful true = refl
flags_are_lawful false = refl

-- what announces something has no fault
pub announced_has_no_fault : (payload name : List ℕ) (addr : ℕ) (create : Bool) → IsNs payload name addr create → first_fault (announcement_faults payload) ≡ None
announced_has_no_fault payload name addr create said =
    let whole : not (length payload == 40) ≡ false = ap (λ (n : ℕ). not (n == 40)) said.whole in
    let flags : nat_lt 1 (number_at 36 4 payload) ≡ false = ap (nat_lt 1) said.flagged ∙ flags_are_lawful create in
    let lawful : not (is_name (name_in payload)) ≡ false = ap (λ (n : List ℕ). not (is_name n)) (sym said.named) ∙ ap not said.lawful in
    let third = row NsName (not (is_name (name_in payload))) 16 in
    let second = row NsFlags (nat_lt 1 (number_at 36 4 payload)) 52 in
    let first = row NsSize (not (length payload == 40)) 12 in
    first_fault-passed first (second ∷ third ∷ []) whole ∙ first_fault-passed second (third ∷ []) flags ∙ first_fault-passed third [] lawful

pub announcements_read_back : AnnouncementsReadBack
announcements_read_back name addr create lawful short small =
    let numbers = little_bytes 4 addr ++ little_bytes 4 (flags_of create) in
    let payload = announcement name addr create in
    let said : IsNs payload name addr create = record {
      whole = omega (arith, length-append name (nuls name ++ numbers), length-append (nuls name) numbers, length-replicate {A = ℕ} (32 - length name) 0);
      named = sym (name_in-announcement name numbers short lawful);
      lawful = lawful;
      addressed = sym (ap (little_number 4) (drop-field name numbers short) ∙ little_number-reads_back 4 addr (little_bytes 4 (flags_of create)) small);
      flagged = ap (little_number 4) (sym (drop-drop 4 32 payload) ∙ ap (drop 4) (drop-field name numbers short)) ∙ little_number-reads_back 4 (flags_of create) [] (flags_fit create);
    } in
    (said, announced_has_no_fault payload name addr create said)
