-- Each line takes some of what an actor has left to ask, and the number of receives stays within its bounds.
use Rattle.std.proofs.Common.{◌≡◌, ℕ, ◌+◌, ◌-◌, ◌*◌, ◌≤◌, ◌<◌, nat_lt, Bool, true, false, cond, inl, inr, List, [], ◌∷◌, length, drop, Option, Some, None, ap, sym, subst, arith}
use Rattle.std.specs.Prelude.{IfSome}
use Rattle.std.proofs.lemmas.Bool.{and_parts, cases_Bool, ltb-false}
use Rattle.board_model.specs.declared.scenario.CallLine.{CallLine}
use Rattle.board_model.specs.Journal.{PlainAnswer, gives, refuses}
use Rattle.hop_relay.specs.declared.role.Role.{Role}
use Rattle.hop_relay.specs.declared.role.Role.TheVariants.{First, Middle, Last}
use Rattle.hop_relay.specs.declared.step.Step.{Step}
use Rattle.hop_relay.specs.declared.step.Step.TheVariants.{Opening, Receiving, Sending, Releasing, ClosingSender, ClosingReceiver, Ended}
use Rattle.hop_relay.specs.Roles.{send_line, release_line}
use Rattle.hop_relay.specs.Steps.{Place, step_of, step_for, sends_at, receives_at, is_opening, are_of_opening, is_agreed, was_refused, is_closed, next_of, after_receive, behind, opening_next, opening_after, or_else, next_line, GoesOn, lines_asked, least_receives, most_receives, rank, left_to_ask}
use Rattle.hop_relay.proofs.PlaceLemmas.{opens}

-- the number of receives is within the bounds of a step
pub record IsWithin (most : ℕ) (s : Step) (k : ℕ) : Type 0 where
  pub some : least_receives s ≤ k
  pub few : k ≤ most_receives most s

-- what is left to ask falls with a line, and does not rise without one
abbrev pub TakesSome : (most k : ℕ) (left : List (List ℕ)) → Step → Option CallLine → Type 0
TakesSome most k left s o = length (drop (sends_at (step_for o)) left) + 4 * (most + 1 - (k + receives_at (step_for o))) + rank (step_for o) + lines_asked o ≤ length left + 4 * (most + 1 - k) + rank s

-- ---- the first domain

next_takes : (left : List (List ℕ)) (s : Step) → 3 ≤ rank s → TakesSome 0 0 left s (Some (next_of left))
next_takes [] s high = omega (arith, high)
next_takes (p ∷ ps) s high = omega (arith, high)

if_takes : (most k : ℕ) (left : List (List ℕ)) (s : Step) (b : Bool) (o : Option CallLine) → TakesSome most k left s o → TakesSome most k left s (cond b o None)
if_takes most k left s true o takes = takes
if_takes most k left s false o takes = omega arith

none_takes : (most k : ℕ) (left : List (List ℕ)) (s : Step) → TakesSome most k left s None
none_takes most k left s = omega arith

pub first_takes : (packets left : List (List ℕ)) (s : Step) (told : Option PlainAnswer) → TakesSome 0 0 left s (behind (First packets) left 0 s told)
first_takes packets left Opening told = if_takes 0 0 left Opening (is_agreed told) (Some (next_of left)) (next_takes left Opening (omega arith))
first_takes packets left Sending told = if_takes 0 0 left Sending (is_agreed told) (Some (next_of left)) (next_takes left Sending (omega arith))
first_takes packets left Receiving told = none_takes 0 0 left Receiving
first_takes packets left Releasing told = if_takes 0 0 left Releasing (is_agreed told) None (none_takes 0 0 left Releasing)
first_takes packets left ClosingSender told = if_takes 0 0 left ClosingSender (is_agreed told) None (none_takes 0 0 left ClosingSender)
first_takes packets left ClosingReceiver told = if_takes 0 0 left ClosingReceiver (is_agreed told) None (none_takes 0 0 left ClosingReceiver)
first_takes packets left Ended told = if_takes 0 0 left Ended (is_agreed told) None (none_takes 0 0 left Ended)

-- ---- domains that receive

pub record Steps (most k : ℕ) (s : Step) (o : Option CallLine) : Type 0 where
  pub within : IsWithin most (step_for o) (k + receives_at (step_for o))
  pub takes : TakesSome most k [] s o

bounded : (most : ℕ) (s : Step) → most_receives most s ≤ most + 1
bounded most Opening = omega arith
bounded most Sending = omega arith
bounded most Releasing = omega arith
bounded most s = omega arith

ends : (most k : ℕ) (s : Step) → IsWithin most s k → Steps most k s None
ends most k s w = let b = bounded most s in record { within = record { some = omega arith; few = omega (arith, b, w.few) }; takes = omega arith }

if_steps : (most k : ℕ) (s : Step) (b : Bool) (o : Option CallLine) → IsWithin most s k → Steps most k s o → Steps most k s (cond b o None)
if_steps most k s true o w steps = steps
if_steps most k s false o w steps = ends most k s w

unless_many : (most k : ℕ) (o : Option CallLine) → IsWithin most Receiving k → (k ≤ most → Steps most k Receiving o) → Steps most k Receiving (cond (nat_lt most k) None o)
unless_many most k o w steps = elim (cases_Bool (nat_lt most k)) [
  | inl many ↦ rw many (ends most k Receiving w)
  | inr few ↦ let low = ltb-false most k few in rw few (steps (omega (arith, low)))
]

middle_received : (d most k : ℕ) (told : Option PlainAnswer) → IsWithin most Receiving k → Steps most k Receiving (after_receive (Middle d most) k told)
middle_received d most k (Some (gives size bytes)) w = unless_many most k (Some (send_line d bytes)) w (λ low. record { within = record { some = omega (arith, w.some); few = omega (arith, low) }; takes = omega arith })
middle_received d most k (Some (refuses word)) w = if_steps most k Receiving (is_closed word) _ w (record { within = record { some = omega arith; few = omega (arith, w.few) }; takes = omega arith })
middle_received d most k told w = ends most k Receiving w

last_received : (d most k : ℕ) (told : Option PlainAnswer) → IsWithin most Receiving k → Steps most k Receiving (after_receive (Last d most) k told)
last_received d most k (Some (gives size bytes)) w = unless_many most k (Some (release_line d k)) w (λ low. record { within = record { some = omega (arith, w.some); few = omega (arith, low) }; takes = omega arith })
last_received d most k (Some (refuses word)) w = if_steps most k Receiving (is_closed word) _ w (record { within = record { some = omega arith; few = omega (arith, w.few) }; takes = omega arith })
last_received d most k told w = ends most k Receiving w

pub middle_steps : (d most k : ℕ) (s : Step) (told : Option PlainAnswer) → IsWithin most s k → Steps most k s (behind (Middle d most) [] k s told)
middle_steps d most k Opening told w = if_steps most k Opening (is_agreed told) _ w (record { within = record { some = omega arith; few = omega (arith, w.few) }; takes = omega (arith, w.few) })
middle_steps d most k Receiving told w = middle_received d most k told w
middle_steps d most k Sending told w = if_steps most k Sending (is_agreed told) _ w (record { within = record { some = omega (arith, w.some); few = omega (arith, w.few) }; takes = omega arith })
middle_steps d most k Releasing told w = if_steps most k Releasing (is_agreed told) _ w (record { within = record { some = omega arith; few = omega (arith, w.few) }; takes = omega (arith, w.few) })
middle_steps d most k ClosingSender told w = if_steps most k ClosingSender (is_agreed told) _ w (record { within = record { some = omega arith; few = omega (arith, w.few) }; takes = omega arith })
middle_steps d most k ClosingReceiver told w = if_steps most k ClosingReceiver (is_agreed told) None w (ends most k ClosingReceiver w)
middle_steps d most k Ended told w = if_steps most k Ended (is_agreed told) None w (ends most k Ended w)

pub last_steps : (d most k : ℕ) (s : Step) (told : Option PlainAnswer) → IsWithin most s k → Steps most k s (behind (Last d most) [] k s told)
last_steps d most k Opening told w = if_steps most k Opening (is_agreed told) _ w (record { within = record { some = omega arith; few = omega (arith, w.few) }; takes = omega (arith, w.few) })
last_steps d most k Receiving told w = last_received d most k told w
last_steps d most k Releasing told w = if_steps most k Releasing (is_agreed told) _ w (record { within = record { some = omega arith; few = omega (arith, w.few) }; takes = omega (arith, w.few) })
last_steps d most k Sending told w = if_steps most k Sending (is_agreed told) None w (ends most k Sending w)
last_steps d most k ClosingSender told w = if_steps most k ClosingSender (is_agreed told) None w (ends most k ClosingSender w)
last_steps d most k ClosingReceiver told w = if_steps most k ClosingReceiver (is_agreed told) None w (ends most k ClosingReceiver w)
last_steps d most k Ended told w = if_steps most k Ended (is_agreed told) None w (ends most k Ended w)

-- ---- with the lines of the opening

pub first_opens : (line : CallLine) (lines : List CallLine) → are_of_opening (line ∷ lines) ≡ true → step_of line.call ≡ Opening
first_opens line lines plain = opens (step_of line.call) (and_parts (is_opening (step_of line.call)) (are_of_opening lines) plain).0

abbrev pub TakesAll : (most k : ℕ) (left : List (List ℕ)) → Step → List CallLine → Option PlainAnswer → Option CallLine → Type 0
TakesAll most k left s lines told o =
    length (opening_after s lines told) + length (drop (sends_at (step_for o)) left) + 4 * (most + 1 - (k + receives_at (step_for o))) + rank (step_for o) + lines_asked o ≤ length lines + length left + 4 * (most + 1 - k) + rank s

module _ (most k : ℕ) (left : List (List ℕ)) (told : Option PlainAnswer) (o : Option CallLine) where
  opening_takes : (line : CallLine) (lines : List CallLine) → are_of_opening (line ∷ lines) ≡ true → TakesSome most k left Opening o → TakesAll most k left Opening (line ∷ lines) told (or_else (opening_next Opening (line ∷ lines) told) o)
  opening_takes line lines plain takes = go (was_refused told)
    where
      go : (b : Bool) →
          length (cond b (line ∷ lines) lines) + length (drop (sends_at (step_for (or_else (cond b None (Some line)) o))) left) + 4 * (most + 1 - (k + receives_at (step_for (or_else (cond b None (Some line)) o)))) + rank (step_for (or_else (cond b None (Some line)) o)) + lines_asked (or_else (cond b None (Some line)) o)
          ≤ length (line ∷ lines) + length left + 4 * (most + 1 - k) + rank Opening
      go true = omega (arith, takes)
      go false =
          subst (λ (t : Step). length lines + length (drop (sends_at t) left) + 4 * (most + 1 - (k + receives_at t)) + rank t + 1 ≤ length (line ∷ lines) + length left + 4 * (most + 1 - k) + rank Opening)
          (sym (first_opens line lines plain)) (omega arith)

  all_take : (s : Step) (lines : List CallLine) → are_of_opening lines ≡ true → TakesSome most k left s o → TakesAll most k left s lines told (or_else (opening_next s lines told) o)
  all_take Opening [] plain takes = omega (arith, takes)
  all_take Opening (line ∷ lines) plain takes = opening_takes line lines plain takes
  all_take s lines plain takes = omega (arith, takes)

  pub opening_within : (s : Step) (lines : List CallLine) → are_of_opening lines ≡ true → IsWithin most s k → IsWithin most (step_for o) (k + receives_at (step_for o))
      → IsWithin most (step_for (or_else (opening_next s lines told) o)) (k + receives_at (step_for (or_else (opening_next s lines told) o)))
  opening_within Opening [] plain w then_within = then_within
  opening_within Opening (line ∷ lines) plain w then_within = go (was_refused told)
    where
      go : (b : Bool) → IsWithin most (step_for (or_else (cond b None (Some line)) o)) (k + receives_at (step_for (or_else (cond b None (Some line)) o)))
      go true = then_within
      go false = subst (λ (t : Step). IsWithin most t (k + receives_at t)) (sym (first_opens line lines plain)) (record { some = omega arith; few = omega (arith, w.few) })
  opening_within s lines plain w then_within = then_within

-- ---- as the contracts have it

fallen : (o : Option CallLine) (m n : ℕ) → m + lines_asked o ≤ n → IfSome o (λ l. m < n)
fallen None m n less = tt
fallen (Some l) m n less = omega (arith, less)

module _ (role : Role) (p : Place) (told : Option PlainAnswer) (next : Option CallLine) (q : Place) (goes : GoesOn role p told next q) (most : ℕ) (plain : are_of_opening p.opening_left ≡ true) (takes : TakesSome most p.receives_asked p.packets_left p.step (behind role p.packets_left p.receives_asked p.step told)) where
  less : left_to_ask most q + lines_asked next ≤ left_to_ask most p
  less =
      let all = subst (TakesAll most p.receives_asked p.packets_left p.step p.opening_left told) (sym goes.line) (all_take most p.receives_asked p.packets_left told (behind role p.packets_left p.receives_asked p.step told) p.step p.opening_left plain takes) in
      omega (arith, all, ap length goes.opening_left, ap length goes.packets_left, goes.receives_asked, ap rank goes.step)

  pub no_more : left_to_ask most q ≤ left_to_ask most p
  no_more = omega (arith, less)

  pub falls : IfSome next (λ l. left_to_ask most q < left_to_ask most p)
  falls = fallen next (left_to_ask most q) (left_to_ask most p) less

-- of a domain that receives, whose next line is the one behind the opening where it is no line of it
module _ (role : Role) (p : Place) (told : Option PlainAnswer) (next : Option CallLine) (most : ℕ) (none : p.packets_left ≡ []) (plain : are_of_opening p.opening_left ≡ true) (w : IsWithin most p.step p.receives_asked) (steps : Steps most p.receives_asked p.step (behind role [] p.receives_asked p.step told)) where
  pub takes_some : TakesSome most p.receives_asked p.packets_left p.step (behind role p.packets_left p.receives_asked p.step told)
  takes_some = subst (λ (left : List (List ℕ)). TakesSome most p.receives_asked left p.step (behind role left p.receives_asked p.step told)) (sym none) steps.takes

  pub within_next : next ≡ next_line role p told → IsWithin most (step_for next) (p.receives_asked + receives_at (step_for next))
  within_next is =
      subst (λ (o : Option CallLine). IsWithin most (step_for o) (p.receives_asked + receives_at (step_for o))) (sym is)
      (opening_within most p.receives_asked [] told (behind role p.packets_left p.receives_asked p.step told) p.step p.opening_left plain w
      (subst (λ (left : List (List ℕ)). IsWithin most (step_for (behind role left p.receives_asked p.step told)) (p.receives_asked + receives_at (step_for (behind role left p.receives_asked p.step told)))) (sym none) steps.within))
