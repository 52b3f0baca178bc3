-- The label that a packet is lent under is told by what its line was answered.
use Rattle.std.proofs.Common.{◌≡◌, ℕ, suc, ◌+◌, Bool, true, List, [], ◌∷◌, map, Option, Some, None, position, option_map, option_and_then, refl, sym, ap, ◌∙◌, subst, arith}
use Rattle.std.specs.Prelude.{find, slice_get}
use Rattle.std.specs.Borrow.{Bor}
use Rattle.std.specs.List.{AllByRecursion}
use Rattle.std.specs.Option.{option_or}
use Rattle.std.specs.Slice.{IsItemAt}
use Rattle.std.proofs.lemmas.Option.{slice_get-get_or, slice_get-map, slice_get_past}
use Rattle.arrayvec.specs.ArrayVec.{ArrayVec}
use Rattle.mc_base.specs.declared.refusal.Refusal.{Refusal}
use Rattle.mc_base.specs.declared.request.PacketId.{PacketId}
use Rattle.board_model.specs.declared.scenario.Call.{Call}
use Rattle.board_model.specs.declared.scenario.Call.TheVariants.{WaitAny}
use Rattle.board_model.specs.Answer.{answer, answer_by, is_complete_at, place_said, refusal, success, unless_refused}
use Rattle.board_model.specs.DomainCall.{DomainCall, wait_for}
use Rattle.board_model.specs.Journal.{PlainAnswer}
use Rattle.board_model.specs.Labels.{Labels, call_of, is_complete_label, lending_label, packet_given, place_of_label, success_packet}
use Rattle.board_model.specs.State.{DomainState}
use Rattle.board_model.proofs.MessageLists.{get-position}
use Rattle.board_model.proofs.SerialRequests.{position-map}
use Rattle.board_runner.specs.Held.{PacketIds, id_for, told_for, TellsId}
use Rattle.board_runner.specs.LendingLabels.{label_told, lending_label_by, place_in}

-- a place counted from 1
label_at : (xs : List (List ℕ)) (o : Option ℕ) → label_told xs (option_map (λ i. i + 1) o) ≡ option_and_then (λ i. slice_get xs i) o
label_at xs None = refl
label_at xs (Some i) = let next : i + 1 ≡ suc i = omega arith in ap (λ (n : ℕ). label_told xs (Some n)) next

none_told : {A : Type 0} (label : Option (List ℕ)) (other : List ℕ) → told_for {A = A} label None other ≡ None
none_told None other = refl
none_told (Some l) other = refl

module _ (labels : Labels) (s : DomainState) where
  abbrev is_done : List ℕ → Bool
  is_done l = is_complete_label labels s l

  alike : (names : List (ArrayVec ℕ)) → AllByRecursion (λ l. is_done l.items ≡ is_done l.items) names
  alike [] = tt
  alike (l ∷ ls) = (refl, alike ls)

  -- the label at the place that the answer says is the first whose request is complete
  first_said : (names : List (ArrayVec ℕ)) → label_told (map (λ l. l.items) names) (place_said s (map (λ l. place_of_label labels.requests s l.items) names) true) ≡ find is_done (map (λ l. l.items) names)
  first_said names =
      let xs : List (List ℕ) = map (λ (l : ArrayVec ℕ). l.items) names in
      let places : List (Option ℕ) = map (λ (l : ArrayVec ℕ). place_of_label labels.requests s l.items) names in
      let one : position (λ (l : ArrayVec ℕ). is_done l.items) names ≡ position is_done xs = position-map (λ (l : ArrayVec ℕ). is_done l.items) is_done (λ (l : ArrayVec ℕ). l.items) names (alike names) in
      let two : position (λ (l : ArrayVec ℕ). is_done l.items) names ≡ position (is_complete_at s) places =
      position-map (λ (l : ArrayVec ℕ). is_done l.items) (is_complete_at s) (λ (l : ArrayVec ℕ). place_of_label labels.requests s l.items) names (alike names) in
      label_at xs (position (is_complete_at s) places) ∙ ap (option_and_then (λ i. slice_get xs i)) (sym two ∙ one) ∙ get-position is_done xs

  -- what is held under the one label is held under the other
  pub lent_under : (node : ℕ) (call : Call) (own : Option (List ℕ)) (a : PlainAnswer) (lent : Option PacketId) (held more : PacketIds) → a ≡ answer s node (call_of labels s call) → option_map (λ i. i.serial) lent ≡ packet_given s node (call_of labels s call) →
      TellsId (lending_label_by call a own) lent held more → TellsId (lending_label labels s call own) lent held more
  lent_under node (WaitAny names limit) own a None held more is gave tells = λ other.
      tells other ∙ ap (option_or (id_for held other)) (none_told (label_told (map (λ l. l.items) names.items) (place_in a)) other ∙ sym (none_told (find is_done (map (λ l. l.items) names.items)) other))
  lent_under node (WaitAny names limit) own a (Some id) held more is gave tells =
      subst (λ (o : Option (List ℕ)). TellsId o (Some id) held more) (go (refusal s node call) is gave) tells
    where
      call : DomainCall
      call = wait_for (map (λ l. place_of_label labels.requests s l.items) names.items) true

      go : (o : Option Refusal) → a ≡ answer_by o (success s node call) → Some id.serial ≡ unless_refused o None (success_packet s call) → label_told (map (λ l. l.items) names.items) (place_in a) ≡ find is_done (map (λ l. l.items) names.items)
      go (Some w) is gave = absurd cc
      go None is gave = ap (λ (x : PlainAnswer). label_told (map (λ l. l.items) names.items) (place_in x)) is ∙ first_said names.items
  lent_under node other own a lent held more is gave tells = tells

-- the label that is found at a place
pub label-found : (xs : List (ArrayVec ℕ)) (place : Option ℕ) (p i : ℕ) (r : Option (Bor (ArrayVec ℕ))) → place ≡ Some p → p ≡ i + 1 → IsItemAt xs i r → option_map (λ l. l.now.items) r ≡ label_told (map (λ l. l.items) xs) place
label-found xs place p i r told next is =
    at r is ∙ sym (slice_get-map (λ (l : ArrayVec ℕ). l.items) xs i) ∙ ap (λ (n : ℕ). label_told (map (λ (l : ArrayVec ℕ). l.items) xs) (Some n)) (suc_is ∙ sym next) ∙ ap (label_told (map (λ (l : ArrayVec ℕ). l.items) xs)) (sym told)
  where
    suc_is : suc i ≡ i + 1
    suc_is = omega arith

    at : (r : Option (Bor (ArrayVec ℕ))) → IsItemAt xs i r → option_map (λ (l : Bor (ArrayVec ℕ)). l.now.items) r ≡ option_map (λ (l : ArrayVec ℕ). l.items) (slice_get xs i)
    at None is = sym (ap (option_map (λ (l : ArrayVec ℕ). l.items)) (slice_get_past xs i is.3))
    at (Some l) is = ap (λ (x : ArrayVec ℕ). Some x.items) is.1 ∙ sym (ap (option_map (λ (x : ArrayVec ℕ). x.items)) (slice_get-get_or xs i l.now is.3.0))
