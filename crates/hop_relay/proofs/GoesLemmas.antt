-- An actor that goes on, as the contract of its call has it.
use Rattle.std.proofs.Common.{◌≡◌, ℕ, suc, ◌+◌, ◌≤◌, ◌<◌, true, List, [], ◌∷◌, drop, map, Option, Some, None, refl, ap, sym, subst, ◌∙◌, arith, Vec, Global}
use Rattle.std.specs.Prelude.{IfNone, IfSome, MatchOption}
use Rattle.std.specs.List.{All}
use Rattle.std.proofs.Math.Seq.{drop-nil}
use Rattle.board_model.specs.declared.scenario.Call.{Call}
use Rattle.board_model.specs.declared.scenario.CallLine.{CallLine}
use Rattle.board_model.specs.Journal.{PlainAnswer}
use Rattle.board_model.specs.Logs.{LoggedCall}
use Rattle.board_runner.specs.ActorLogs.{IsToldFor, log_so_far, lines_in_log, MayFollow}
use Rattle.hop_relay.specs.declared.first.First.{First}
use Rattle.hop_relay.specs.declared.progress.Progress.{Progress}
use Rattle.hop_relay.specs.declared.role.Role.{Role}
use Rattle.hop_relay.specs.declared.role.Role.TheVariants as role
use Rattle.hop_relay.specs.declared.role.Role.TheVariants.{Middle, Last}
use Rattle.hop_relay.specs.declared.step.Step.{Step}
use Rattle.hop_relay.specs.declared.step.Step.TheVariants.{Opening, Receiving, Sending, Releasing, ClosingSender, ClosingReceiver, Ended}
use Rattle.hop_relay.specs.declared.taker.Taker.{Taker}
use Rattle.hop_relay.specs.Places.{as_first, place_of_first, place_of_taker}
use Rattle.hop_relay.specs.Roles.{HasEnded}
use Rattle.hop_relay.specs.Steps.{Place, step_of, step_for, receives_at, sends_at, are_of_opening, is_agreed, next_of, opening_next, opening_after, or_else, behind, next_line, GoesOn, SendsBytes, left_to_ask, FitsRelay}
use Rattle.hop_relay.proofs.PlaceLemmas.{fits_after, ends_after}
use Rattle.hop_relay.proofs.TodoLemmas.{IsWithin, TakesSome, Steps, middle_steps, last_steps, within_next, no_more, falls}
use Rattle.hop_relay.proofs.FollowLemmas.{if_holds, next_holds, middle_goes, middle_sends, last_goes, last_sends}

if_none : {A : Type 0} (o : Option A) (P Q : Type 0) → (P → Q) → IfNone o P → IfNone o Q
if_none None P Q given p = given p
if_none (Some x) P Q given p = tt

if_some : {A : Type 0} (o : Option A) (P Q : A → Type 0) → ((x : A) → P x → Q x) → IfSome o P → IfSome o Q
if_some None P Q given p = tt
if_some (Some x) P Q given p = given x p

-- ---- its role and its most packets stay

module _ (role role_then : Role) (same : role_then ≡ role) (p q : Place) (asked : Option CallLine) (told : Option PlainAnswer) (next : Option CallLine) (fit : IsToldFor asked told) (goes : GoesOn role p told next q) where
  pub fits_so : (now : Option CallLine) → now ≡ next → (log : List LoggedCall) → FitsRelay role p asked log → FitsRelay role_then q now (log_so_far log asked told)
  fits_so now is log f =
      subst (λ (r : Role). FitsRelay r q now (log_so_far log asked told)) (sym same)
      (subst (λ (o : Option CallLine). FitsRelay role q o (log_so_far log asked told)) (sym is) (fits_after role p next q asked told log fit f goes))

  pub ends_so : IfNone next ((log : List LoggedCall) → FitsRelay role p asked log → HasEnded role_then (log_so_far log asked told))
  ends_so = if_none next _ _ (λ ends log f. subst (λ (r : Role). HasEnded r (log_so_far log asked told)) (sym same) (ends log f)) (ends_after role p asked told next q fit goes)

module _ (role : Role) (p q : Place) (told : Option PlainAnswer) (next : Option CallLine) (goes : GoesOn role p told next q) (most most_then : ℕ) (same : most_then ≡ most) (plain : are_of_opening p.opening_left ≡ true) (takes : TakesSome most p.receives_asked p.packets_left p.step (behind role p.packets_left p.receives_asked p.step told)) where
  pub todo_so : left_to_ask most_then q ≤ left_to_ask most p
  todo_so = subst (λ (n : ℕ). left_to_ask n q ≤ left_to_ask most p) (sym same) (no_more role p told next q goes most plain takes)

  pub falls_so : IfSome next (λ l. left_to_ask most_then q < left_to_ask most p)
  falls_so = subst (λ (n : ℕ). IfSome next (λ l. left_to_ask n q < left_to_ask most p)) (sym same) (falls role p told next q goes most plain takes)

-- ---- a domain that receives

pub taker_goes : (role : Role) (p mid q : Taker) (told : Option PlainAnswer) (next : Option CallLine) → next ≡ next_line role (place_of_taker p) told → q.progress.step ≡ step_for next → mid.progress.opening ≡ opening_after p.progress.step p.progress.opening told
    → q.progress.opening ≡ mid.progress.opening
    → mid.receives ≡ p.receives
    → q.receives ≡ mid.receives + receives_at (step_for next)
    → GoesOn role (place_of_taker p) told next (place_of_taker q)
taker_goes role p mid q told next line step opening_mid opening_then receives_mid receives_then = record {
  line = line;
  step = step;
  opening_left = opening_then ∙ opening_mid;
  packets_left = sym (drop-nil (sends_at (step_for next)));
  receives_asked = receives_then ∙ ap (λ n. n + receives_at (step_for next)) receives_mid;
}

-- with the bounds that it keeps
module _ (role : Role) (t : Taker) (told : Option PlainAnswer) (next : Option CallLine) (is : next ≡ next_line role (place_of_taker t) told) (steps : IsWithin t.most t.progress.step t.receives → Steps t.most t.receives t.progress.step (behind role [] t.receives t.progress.step told)) where
  bounds : IsWithin t.most t.progress.step t.receives
  bounds = record { some = t.some; few = t.within }

  pub taker_takes : TakesSome t.most t.receives [] t.progress.step (behind role [] t.receives t.progress.step told)
  taker_takes = (steps bounds).takes

  pub taker_within : (mid : Taker) → mid.most ≡ t.most → mid.receives ≡ t.receives → IsWithin mid.most (step_for next) (mid.receives + receives_at (step_for next))
  taker_within mid most receives =
      subst (λ (m : ℕ). IsWithin m (step_for next) (mid.receives + receives_at (step_for next))) (sym most)
      (subst (λ (k : ℕ). IsWithin t.most (step_for next) (k + receives_at (step_for next))) (sym receives) (within_next role (place_of_taker t) told next t.most refl t.progress.plain bounds (steps bounds) is))

pub middle_so : (t : Taker) (told : Option PlainAnswer) → IsWithin t.most t.progress.step t.receives → Steps t.most t.receives t.progress.step (behind (Middle t.domain t.most) [] t.receives t.progress.step told)
middle_so t told w = middle_steps t.domain t.most t.receives t.progress.step told w

pub last_so : (t : Taker) (told : Option PlainAnswer) → IsWithin t.most t.progress.step t.receives → Steps t.most t.receives t.progress.step (behind (Last t.domain t.most) [] t.receives t.progress.step told)
last_so t told w = last_steps t.domain t.most t.receives t.progress.step told w

pub middle_lines : (t : Taker) (q : Place) (asked : Option CallLine) (told : Option PlainAnswer) (next : Option CallLine) → t.domain ≤ 6 → IsToldFor asked told → GoesOn (Middle t.domain t.most) (place_of_taker t) told next q → IfSome next (λ l. SendsBytes l.call)
    → IfSome next (λ l. (log : List LoggedCall) → FitsRelay (Middle t.domain t.most) (place_of_taker t) asked log → MayFollow t.domain (lines_in_log (log_so_far log asked told)) l)
middle_lines t q asked told next small fit goes bytes =
    middle_goes (place_of_taker t) asked told next q fit t.domain t.most small t.few goes refl (record { some = t.some; few = t.within }) (middle_sends t.domain t.most (place_of_taker t) asked told next fit refl t.progress.plain goes.line bytes)

pub last_lines : (t : Taker) (q : Place) (asked : Option CallLine) (told : Option PlainAnswer) (next : Option CallLine) → t.domain ≤ 7 → IsToldFor asked told → GoesOn (Last t.domain t.most) (place_of_taker t) told next q
    → IfSome next (λ l. (log : List LoggedCall) → FitsRelay (Last t.domain t.most) (place_of_taker t) asked log → MayFollow t.domain (lines_in_log (log_so_far log asked told)) l)
last_lines t q asked told next small fit goes =
    last_goes (place_of_taker t) asked told next q fit t.domain t.most small t.few goes refl (record { some = t.some; few = t.within }) (last_sends t.domain t.most (place_of_taker t) told next refl t.progress.plain goes.line)

-- ---- the first domain

abbrev pub first_place : Progress → List (Vec ℕ Global) → Place
first_place r packets = record { step = r.step; opening_left = r.opening; packets_left = map (λ p. p.items) packets; receives_asked = 0 }

same_behind : (ps qs left : List (List ℕ)) (s : Step) (told : Option PlainAnswer) → behind (role.First ps) left 0 s told ≡ behind (role.First qs) left 0 s told
same_behind ps qs left Opening told = refl
same_behind ps qs left Receiving told = refl
same_behind ps qs left Sending told = refl
same_behind ps qs left Releasing told = refl
same_behind ps qs left ClosingSender told = refl
same_behind ps qs left ClosingReceiver told = refl
same_behind ps qs left Ended told = refl

-- it receives nothing
abbrev ReceivesNone : Call → Type 0
ReceivesNone call = receives_at (step_of call) ≡ 0

opening_none : (call : Call) → step_of call ≡ Opening → ReceivesNone call
opening_none call is = ap receives_at is

next_none : (left : List (List ℕ)) → ReceivesNone (next_of left).call
next_none [] = refl
next_none (p ∷ ps) = refl

first_none : (ps left : List (List ℕ)) (s : Step) (told : Option PlainAnswer) → IfSome (behind (role.First ps) left 0 s told) (λ l. ReceivesNone l.call)
first_none ps left Opening told = if_holds ReceivesNone opening_none (is_agreed told) (Some (next_of left)) (next_none left)
first_none ps left Sending told = if_holds ReceivesNone opening_none (is_agreed told) (Some (next_of left)) (next_none left)
first_none ps left Receiving told = tt
first_none ps left Releasing told = if_holds ReceivesNone opening_none (is_agreed told) None tt
first_none ps left ClosingSender told = if_holds ReceivesNone opening_none (is_agreed told) None tt
first_none ps left ClosingReceiver told = if_holds ReceivesNone opening_none (is_agreed told) None tt
first_none ps left Ended told = if_holds ReceivesNone opening_none (is_agreed told) None tt

none_at : (o : Option CallLine) → IfSome o (λ l. ReceivesNone l.call) → receives_at (step_for o) ≡ 0
none_at None none = refl
none_at (Some l) none = none

pub first_on : (f mid : First) (r : Progress) (told : Option PlainAnswer) (next : Option CallLine) → next ≡ or_else (opening_next f.progress.step f.progress.opening told) (behind (role.First []) (map (λ p. p.items) f.packets) 0 f.progress.step told)
    → r.step ≡ step_for next
    → mid.progress.opening ≡ opening_after f.progress.step f.progress.opening told
    → r.opening ≡ mid.progress.opening
    → map (λ p. p.items) mid.packets ≡ drop (sends_at (step_for next)) (map (λ p. p.items) f.packets)
    → GoesOn (as_first f) (place_of_first f) told next (first_place r mid.packets)
first_on f mid r told next line step opening_mid opening_then packets =
    let left : List (List ℕ) = map (λ p. p.items) f.packets in
    let none : receives_at (step_for next) ≡ 0 = none_at next (subst (λ (o : Option CallLine). IfSome o (λ l. ReceivesNone l.call)) (sym line) (next_holds ReceivesNone opening_none f.progress.step f.progress.opening told (behind (role.First []) left 0 f.progress.step told) f.progress.plain (first_none [] left f.progress.step told))) in
    record {
      line = line ∙ ap (or_else (opening_next f.progress.step f.progress.opening told)) (same_behind [] (map (λ p. p.items) f.all.value.items) left f.progress.step told);
      step = step;
      opening_left = opening_then ∙ opening_mid;
      packets_left = packets;
      receives_asked = omega (arith, none);
    }

-- a packet less
pub still_all : {A : Type 0} (P : A → Type 0) (o : Option A) (old new : List A) → MatchOption o ((old ≡ []) × (new ≡ [])) (λ x. old ≡ x ∷ new) → All P old → All P new
still_all P None old new taken all = subst (All P) (sym taken.1) (λ k d within. absurd (omega (arith, within)))
still_all P (Some x) old new taken all = λ k d within. (subst (All P) taken all) (suc k) d (omega (arith, within))
