-- A client goes to a place of its calls, and what holds of it then, as the contract of its step has it.
use Rattle.std.proofs.Common.{◌≡◌, ◌≢◌, ℕ, ◌+◌, ◌<◌, ◌≤◌, Bool, true, false, cond, ltb, List, ◌++◌, length, slice_get, Option, Some, None, option_to_list, refl, sym, subst, arith}
use Rattle.std.specs.Prelude.{IfNone}
use Rattle.std.proofs.lemmas.Bool.{ltb-true}
use Rattle.board_model.specs.declared.scenario.CallLine.{CallLine}
use Rattle.board_model.specs.Journal.{PlainAnswer}
use Rattle.board_model.specs.Logs.{LoggedCall, bytes_answered}
use Rattle.call_logs.specs.declared.got.Got.{Got}
use Rattle.board_runner.specs.ActorLogs.{IsToldFor, log_so_far}
use Rattle.call_logs.specs.Following.{is_refused}
use Rattle.call_logs.specs.CallBytes.{got_in}
use Rattle.call_logs.specs.Roles.{receive_line, due}
use Rattle.call_actor.specs.declared.place.Going.{Going}
use Rattle.call_actor.specs.declared.place.ClientPlace.{ClientPlace}
use Rattle.call_actor.specs.declared.place.ClientPlace.TheVariants.{New, Created, LookedUp, Waited, Sent, Received, Left, Ended}
use Rattle.call_actor.specs.ClientSteps.{ClientRole, goes, ends, asks_call, after_sent, is_expected, kept, after_expected, after_received, going_on, going_told, going}
use Rattle.call_actor.specs.ClientStands.{role_of, IsWithin, ClientFits}
use Rattle.call_actor.proofs.Places.{within_get}
use Rattle.call_actor.proofs.ClientNext.{fits_next, ends_next}

module _ (c : ClientRole) (some : 1 ≤ c.repeat) where
  pub record GoesOn (g : Going) : Type 0 where
    pub within : IsWithin c g.place
    pub begun : g.place ≢ New

  ended_on : (first : List ℕ) → GoesOn (ends first)
  ended_on first = record { within = (omega arith, omega arith, omega arith); begun = λ is. cc }

  asks_on : (n times : ℕ) (first : List ℕ) (got : Option Got) (o : Option (ℕ × ℕ)) → slice_get c.calls n ≡ o → 1 ≤ times → times ≤ c.repeat → GoesOn (asks_call c n times first got o)
  asks_on n times first got (Some k) there low high = record { within = (within_get c.calls n k there, low, high); begun = λ is. cc }
  asks_on n times first got None past low high = record { within = (omega arith, omega arith, omega arith); begun = λ is. cc }

  sent_on : (n times : ℕ) (first : List ℕ) → n < length c.calls → GoesOn (after_sent c n times first)
  sent_on n times first less = go (ltb times c.repeat) refl
    where
      go : (b : Bool) → ltb times c.repeat ≡ b → GoesOn (cond b (asks_call c n (times + 1) first None (slice_get c.calls n)) (goes (Received n 1) first None (receive_line c.domain)))
      go true again = asks_on n (times + 1) first None (slice_get c.calls n) refl (omega arith) (omega (arith, ltb-true times c.repeat again))
      go false last = record { within = (less, omega arith, some); begun = λ is. cc }

  expected_on : (n times : ℕ) (first : List ℕ) → n < length c.calls → GoesOn (after_expected c n times first)
  expected_on n times first less = go (ltb times c.repeat) refl
    where
      go : (b : Bool) → ltb times c.repeat ≡ b → GoesOn (cond b (goes (Received n (times + 1)) first None (receive_line c.domain)) (asks_call c (n + 1) 1 first (Some (got_in first)) (slice_get c.calls (n + 1))))
      go true again = record { within = (less, omega arith, omega (arith, ltb-true times c.repeat again)); begun = λ is. cc }
      go false last = asks_on (n + 1) 1 first (Some (got_in first)) (slice_get c.calls (n + 1)) refl (omega arith) some

  received_on : (n times : ℕ) (first message : List ℕ) → n < length c.calls → GoesOn (after_received c n times first message)
  received_on n times first message less = go (is_expected n times first message)
    where
      go : (b : Bool) → GoesOn (cond b (after_expected c n times (kept times first message)) (ends first))
      go true = expected_on n times (kept times first message) less
      go false = ended_on first

  on : (place : ClientPlace) (first : List ℕ) (a : PlainAnswer) → IsWithin c place → GoesOn (going_on c place first a)
  on New first a within = ended_on first
  on Created first a within = record { within = (omega arith, omega arith, omega arith); begun = λ is. cc }
  on LookedUp first a within = record { within = (omega arith, omega arith, omega arith); begun = λ is. cc }
  on Waited first a within = asks_on 0 1 first None (slice_get c.calls 0) refl (omega arith) some
  on (Sent n times) first a within = sent_on n times first within.0
  on (Received n times) first a within = received_on n times first (bytes_answered a) within.0
  on Left first a within = ended_on first
  on Ended first a within = ended_on first

  told_on : (place : ClientPlace) (first : List ℕ) (a : PlainAnswer) → IsWithin c place → GoesOn (going_told c place first a)
  told_on place first a within = go (is_refused a)
    where
      go : (b : Bool) → GoesOn (cond b (ends first) (going_on c place first a))
      go true = ended_on first
      go false = on place first a within

  pub goes_on : (place : ClientPlace) (first : List ℕ) (told : Option PlainAnswer) → IsWithin c place → GoesOn (going c place first told)
  goes_on place first (Some a) within = told_on place first a within
  goes_on New first None within = record { within = (omega arith, omega arith, omega arith); begun = λ is. cc }
  goes_on place first None within = ended_on first

  -- ---- as the contract of a step has it

  none_given : {A : Type 0} (o : Option A) (P : Type 0) → (o ≡ None → P) → IfNone o P
  none_given None P given = given refl
  none_given (Some x) P given = tt

  module _ (place : ClientPlace) (first : List ℕ) (gots : List Got) (asked : Option CallLine) (told : Option PlainAnswer) (g : Going) (is : g ≡ going c place first told) (within : IsWithin c place) where
    pub within_after : IsWithin c g.place
    within_after = subst (λ (x : Going). IsWithin c x.place) (sym is) (goes_on place first told within).within

    pub fits_after : IsToldFor asked told → (more : List Got) → more ≡ gots ++ option_to_list g.got → (o : Option CallLine) → o ≡ g.line → (log : List LoggedCall) → ClientFits c place first gots asked log → ClientFits c g.place g.first more o (log_so_far log asked told)
    fits_after fit more more_is o o_is log f =
        subst (λ gs. ClientFits c g.place g.first gs o (log_so_far log asked told)) (sym more_is)
        (subst (λ p. ClientFits c g.place g.first (gots ++ option_to_list g.got) p (log_so_far log asked told)) (sym o_is)
        (subst (λ (x : Going). ClientFits c x.place x.first (gots ++ option_to_list x.got) x.line (log_so_far log asked told)) (sym is) (fits_next c some place first gots asked told log fit within f)))

    pub ends_after : IsToldFor asked told → IfNone g.line ((log : List LoggedCall) → ClientFits c place first gots asked log → due (role_of c) (log_so_far log asked told) ≡ None)
    ends_after fit = none_given g.line _ (λ none log f.
        ends_next c some g.place g.first (gots ++ option_to_list g.got) (log_so_far log asked told) (subst (λ (x : Going). x.place ≢ New) (sym is) (goes_on place first told within).begun)
        (fits_after fit (gots ++ option_to_list g.got) refl None (sym none) log f))
