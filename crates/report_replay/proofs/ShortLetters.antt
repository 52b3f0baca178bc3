-- What is read from a frame fits into an item.
use Rattle.std.proofs.Common.{◌≡◌, ℕ, ◌+◌, ◌-◌, ◌≤◌, Bool, true, false, not, cond, ◌&&◌, List, [], ◌∷◌, drop, length, length-drop, Option, Some, None, option_map, refl, subst, arith}
use Rattle.std.specs.Prelude.{◌==◌, nat_lt, nat_le}
use Rattle.std.specs.List.{AllByRecursion}
use Rattle.std.proofs.lemmas.Bool.{cond_both, leb-true, eqb-true}
use Rattle.mc_base.specs.Limits.{single_size, item_size, name_service_address}
use Rattle.mc_base.specs.FaultRow.{FaultRow, first, first_fault, widened}
use Rattle.mc_base.specs.Frame.{destination_of, payload_of, source_of}
use Rattle.mc_base.specs.Fault.{fault, faults}
use Rattle.mc_base.specs.Letter.{Fields, plain_letter, saying_of}
use Rattle.mc_base.specs.LetterFaults.{a_channel, a_part, allows, fields_in, form, form_in, forms, from_to, letter_faults, offset_in, only, part_forms, total_in}
use Rattle.mc_base.specs.Announcement.{announcement_faults}
use Rattle.mc_base.specs.Reading.{says, says_so, brings, announced_in, letter_of, piece_of, reading, reading_by}
use Rattle.mc_base.specs.declared.fault.Fault.{Fault}
use Rattle.mc_base.specs.declared.letter.Letter.{Letter}
use Rattle.mc_base.specs.declared.letter.Letter.TheVariants as letter
use Rattle.report_replay.specs.ShortLetters.{IsShort, IsShortReading}
use Rattle.report_replay.specs.Replayed.{most_bytes}
use Rattle.mc_base.specs.declared.fault.Fault.TheVariants as fault_of

and-left : (a b : Bool) → (a && b) ≡ true → a ≡ true
and-left true b e = refl
and-left false b e = absurd cc

and-right : (a b : Bool) → (a && b) ≡ true → b ≡ true
and-right true b e = e
and-right false b e = absurd cc

none_stands : {F : Type 0} (rows : List (FaultRow F)) → first_fault rows ≡ None → AllByRecursion (λ r. r.stands ≡ false) rows
none_stands [] e = tt
none_stands {F} (r ∷ rs) e = go r.stands refl e (none_stands rs)
  where
    go : (b : Bool) → r.stands ≡ b → option_map (λ (x : FaultRow F). x.fault) (cond b (Some r) (first rs)) ≡ None → (first_fault rs ≡ None → AllByRecursion (λ (x : FaultRow F). x.stands ≡ false) rs) → (r.stands ≡ false) × AllByRecursion (λ (x : FaultRow F). x.stands ≡ false) rs
    go true is e rest = absurd cc
    go false is e rest = (is, rest e)

not_false : (b : Bool) → not b ≡ false → b ≡ true
not_false true e = refl
not_false false e = absurd cc

-- a letter whose form allows its content
module _ (f : Fields) (fits : allows (form_in f.kind forms) (λ form. form.content f) ≡ true) where
  as_kind : (k : ℕ) → (f.kind == k) ≡ true → allows (form_in k forms) (λ form. form.content f) ≡ true
  as_kind k is = subst (λ n. allows (form_in n forms) (λ form. form.content f) ≡ true) (eqb-true f.kind k is) fits

  pub short : IsShort (letter_of f)
  short =
      cond_both (f.kind == 1) _ _ IsShort (λ is. omega (arith, leb-true (length f.content) single_size (as_kind 1 is))) (λ n1.
      cond_both (f.kind == 2) _ _ IsShort (λ is. tt) (λ n2.
      cond_both (f.kind == 3) _ _ IsShort (λ is. tt) (λ n3.
      cond_both (f.kind == 4) _ _ IsShort (λ is. tt) (λ n4.
      cond_both (f.kind == 5) _ _ IsShort (λ is. tt) (λ n5.
      cond_both (f.kind == 6) _ _ IsShort (λ is. tt) (λ n6.
      cond_both (f.kind == 7) _ _ IsShort (λ is. omega (arith, leb-true (length f.content) single_size (as_kind 7 is))) (λ n7.
      cond_both (f.kind == 8) _ _ IsShort (λ is. tt) (λ n8.
      cond_both (f.kind == 9) _ _ IsShort (λ is. tt) (λ n9. tt)))))))))

-- a part of one
piece_short : (f : Fields) → allows (form_in f.kind part_forms) (λ form. form.content f) ≡ true → length (drop 4 f.content) ≤ most_bytes
piece_short f fits = bound (go (1 == f.kind) (7 == f.kind) fits)
  where
    go : (a b : Bool) → allows (cond a (Some (form 1 (from_to 0 3) (only 0) a_part)) (cond b (Some (form 7 (only 0) a_channel a_part)) None)) (λ form. form.content f) ≡ true → a_part f ≡ true
    go true b e = e
    go false true e = e
    go false false e = absurd cc

    bound : a_part f ≡ true → length (drop 4 f.content) ≤ most_bytes
    bound e =
        let a = nat_le (offset_in f + (length f.content - 4)) (total_in f) in
        let b = nat_le (total_in f) item_size in
        let within = and-right (nat_lt 4 (length f.content)) (a && b) e in
        let one = leb-true (offset_in f + (length f.content - 4)) (total_in f) (and-left a b within) in
        let other = leb-true (total_in f) item_size (and-right a b within) in
        omega (arith, length-drop 4 f.content, one, other)

-- what any frame says
pub short_reading : (frame : List ℕ) → IsShortReading (reading frame)
unfolding reading
short_reading frame = go (fault frame) refl
  where
    f : Fields
    f = fields_in (payload_of frame)

    whole : (b : Bool) → allows (form_in f.kind (cond b part_forms forms)) (λ form. form.content f) ≡ true
        → IsShortReading (cond b (brings (source_of frame) (destination_of frame) (piece_of f)) (says (source_of frame) (destination_of frame) (letter_of f)))
    whole true fits = piece_short f fits
    whole false fits = short f fits

    by : (b : Bool) → AllByRecursion (λ r. r.stands ≡ false) (cond b (widened fault_of.Ns (announcement_faults (payload_of frame))) (widened fault_of.Letter (letter_faults (payload_of frame))))
        → IsShortReading (cond b (announced_in (payload_of frame)) (cond (f.version == 2) (brings (source_of frame) (destination_of frame) (piece_of f)) (says (source_of frame) (destination_of frame) (letter_of f))))
    by true none = tt
    by false none = whole (f.version == 2) (not_false _ none.1.1.1.1.1.1.0)

    go : (o : Option Fault) → fault frame ≡ o → IsShortReading (reading_by o frame)
    go (Some x) is = tt
    go None is = by (destination_of frame == name_service_address) (none_stands (faults frame) is).1.1.1

-- of a letter as of what it says
pub letter_short : (source destination : ℕ) (l : Letter) → IsShortReading (says_so source destination (saying_of l)) → IsShort (plain_letter l)
letter_short a b (letter.Msg priority bytes) h = h
letter_short a b (letter.Connect channel kind) h = tt
letter_short a b (letter.Accept channel) h = tt
letter_short a b (letter.Reject channel reason) h = tt
letter_short a b (letter.RecvOpen channel) h = tt
letter_short a b (letter.SendOpen channel) h = tt
letter_short a b (letter.Packet channel bytes) h = h
letter_short a b (letter.Scalar channel bits value) h = tt
letter_short a b (letter.SendClose channel) h = tt
letter_short a b (letter.RecvClose channel) h = tt
letter_short a b (letter.MsgPart priority total offset bytes) h = h
letter_short a b (letter.PacketPart channel total offset bytes) h = h
