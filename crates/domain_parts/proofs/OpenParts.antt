-- Open parts, by the book of buffers.
use Rattle.std.proofs.Common.{◌≡◌, List, [], ◌∷◌, Option, sym, ap, ◌∙◌, subst, arith, refl}
use Rattle.std.specs.List.{AllByRecursion}
use Rattle.mc_base.specs.declared.request.Slot.{Slot}
use Rattle.board_model.proofs.ListsCounts.{count-cons}
use Rattle.buffer_book.specs.Book.{Book}
use Rattle.domain_parts.specs.declared.parts.OpenPart.{OpenPart}
use Rattle.domain_parts.specs.InBook.{Whole, open_parts, part_by, part_read, whole_at}
use Rattle.domain_parts.specs.InPlaces.{AreOpen, IsOpenAs, IsOpenBy, is_same, one_if, times_in}
use Rattle.domain_parts.specs.Records.{part_slots}
use Rattle.domain_parts.specs.Table.{PartRead}
use Rattle.domain_parts.proofs.Books.{Others, differ-back}
use Rattle.domain_parts.proofs.Placed.{no-one}

-- ---- a slot that changes is none of theirs

module _ (b b' : Book) (s : Slot) (others : Others b b' s) where
  one_stays : (o : OpenPart) (os : List OpenPart) → times_in s (part_slots (o ∷ os)) ≡ 0 → (whole_at b' o.slot ≡ whole_at b o.slot) × (times_in s (part_slots os) ≡ 0)
  one_stays o os none =
      let sum = count-cons (λ (x : Slot). is_same x s) o.slot (part_slots os) in
      let here : one_if (is_same o.slot s) ≡ 0 = omega (arith, sum, none) in
      (others o.slot (differ-back o.slot s (no-one (is_same o.slot s) here)), omega (arith, sum, none))

  pub parts-stay : (os : List OpenPart) → times_in s (part_slots os) ≡ 0 → open_parts b' os ≡ open_parts b os
  parts-stay [] none = refl
  parts-stay (o ∷ os) none =
      let one = one_stays o os none in
      ap (λ (w : Option Whole). part_by w o ∷ open_parts b' os) one.0 ∙ ap (λ (xs : List PartRead). part_read b o ∷ xs) (parts-stay os one.1)

  each_stays : (os : List OpenPart) → times_in s (part_slots os) ≡ 0 → AllByRecursion (IsOpenAs b) os → AllByRecursion (IsOpenAs b') os
  each_stays [] none all = tt
  each_stays (o ∷ os) none all =
      let one = one_stays o os none in
      (subst (λ (w : Option Whole). IsOpenBy w o) (sym one.0) all.0, each_stays os one.1 all.1)

  pub open-stay : (os : List OpenPart) → times_in s (part_slots os) ≡ 0 → AreOpen b os → AreOpen b' os
  open-stay os none are = record { each = each_stays os none are.each; apart = are.apart }
