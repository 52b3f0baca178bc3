-- The server goes to a place of its clients, with no more messages than may come, and what holds of it then, as the contract of its step has it.
use Rattle.std.proofs.Common.{◌≡◌, ◌≢◌, ℕ, ◌+◌, ◌<◌, ◌≤◌, Bool, true, false, cond, ltb, leb, List, Option, Some, None, refl, sym, subst, arith}
use Rattle.std.specs.Prelude.{IfNone, Result, Ok, Err, is_some}
use Rattle.std.proofs.lemmas.Bool.{leb-true, ltb-false}
use Rattle.board_model.specs.declared.scenario.CallLine.{CallLine}
use Rattle.board_model.specs.Journal.{PlainAnswer}
use Rattle.board_model.specs.Logs.{LoggedCall, bytes_answered}
use Rattle.board_runner.specs.ActorLogs.{IsToldFor, log_so_far}
use Rattle.call_service.specs.declared.request.ServiceFault.{ServiceFault}
use Rattle.call_service.specs.Handled.{handled}
use Rattle.call_logs.specs.Following.{is_refused}
use Rattle.call_logs.specs.CallBytes.{bye_in}
use Rattle.call_logs.specs.Roles.{receive_line, due}
use Rattle.call_actor.specs.declared.rules.ServerRole.{ServerRole}
use Rattle.call_actor.specs.declared.place.ServerPlace.{ServerPlace}
use Rattle.call_actor.specs.declared.place.ServerPlace.TheVariants.{New, Created, LookedUp, Waited, Receiving, Replying, Ended}
use Rattle.call_actor.specs.ServerLimits.{limit}
use Rattle.call_actor.specs.ServerSteps.{Held, ServerGoing, goes, ends, lookup_line, looks_up, with_message, have_left, bye_goes, replies, takes_message, going_on, going_told, going}
use Rattle.call_actor.specs.ServerStands.{role_of, IsWithin, ServerFits}
use Rattle.call_actor.proofs.ServerNext.{fits_next, ends_next}

module _ (c : ServerRole) where
  pub record GoesOn (g : ServerGoing) : Type 0 where
    pub within : IsWithin c g.place g.held
    pub begun : g.place ≢ New

  ended_on : (held : Held) → held.received ≤ limit c + 1 → GoesOn (ends held)
  ended_on held le = record { within = (omega arith, omega arith, le); begun = λ is. cc }

  looks_on : (d : ℕ) (held : Held) → 1 ≤ d → held.received ≤ limit c → GoesOn (looks_up c d held)
  looks_on d held some le = go (leb d c.clients) refl
    where
      go : (b : Bool) → leb d c.clients ≡ b → GoesOn (cond b (goes (LookedUp d) held (lookup_line d)) (goes Receiving held (receive_line 0)))
      go true within = record { within = (some, leb-true d c.clients within, le); begun = λ is. cc }
      go false past = record { within = (omega arith, omega arith, le); begun = λ is. cc }

  by_tests : (held : Held) (bye all : Bool) (o : Result ℕ ServiceFault) → held.received ≤ limit c → GoesOn (cond bye (cond all (ends held) (goes Receiving held (receive_line 0))) (replies held o))
  by_tests held true true o le = ended_on held (omega (arith, le))
  by_tests held true false o le = record { within = (omega arith, omega arith, le); begun = λ is. cc }
  by_tests held false all (Ok to) le = record { within = (omega arith, omega arith, le); begun = λ is. cc }
  by_tests held false all (Err fault) le = ended_on held (omega (arith, le))

  message_on : (held : Held) (message : List ℕ) → held.received ≤ limit c → GoesOn (takes_message c held message)
  message_on held message le = go (ltb (limit c) kept.received) refl
    where
      kept : Held
      kept = with_message held (handled held.service message held.reply) message

      go : (b : Bool) → ltb (limit c) (with_message held (handled held.service message held.reply) message).received ≡ b →
          GoesOn (cond b (ends (with_message held (handled held.service message held.reply) message)) (cond (is_some (bye_in message)) (bye_goes c (with_message held (handled held.service message held.reply) message)) (replies (with_message held (handled held.service message held.reply) message) (handled held.service message held.reply).answer)))
      go true over = ended_on (with_message held (handled held.service message held.reply) message) (omega (arith, le))
      go false within =
          by_tests (with_message held (handled held.service message held.reply) message) (is_some (bye_in message)) (have_left c.clients (with_message held (handled held.service message held.reply) message).left) (handled held.service message held.reply).answer
          (omega (arith, ltb-false (limit c) (with_message held (handled held.service message held.reply) message).received within))

  on : (place : ServerPlace) (held : Held) (a : PlainAnswer) → IsWithin c place held → GoesOn (going_on c place held a)
  on New held a within = ended_on held (omega (arith, within.2))
  on Created held a within = looks_on 1 held (omega arith) within.2
  on (LookedUp d) held a within = record { within = within; begun = λ is. cc }
  on (Waited d) held a within = looks_on (d + 1) held (omega arith) within.2
  on Receiving held a within = message_on held (bytes_answered a) within.2
  on Replying held a within = record { within = within; begun = λ is. cc }
  on Ended held a within = ended_on held within.2

  most : (place : ServerPlace) (held : Held) → IsWithin c place held → held.received ≤ limit c + 1
  most New held within = omega (arith, within.2)
  most Created held within = omega (arith, within.2)
  most (LookedUp d) held within = omega (arith, within.2)
  most (Waited d) held within = omega (arith, within.2)
  most Receiving held within = omega (arith, within.2)
  most Replying held within = omega (arith, within.2)
  most Ended held within = within.2

  told_on : (place : ServerPlace) (held : Held) (a : PlainAnswer) → IsWithin c place held → GoesOn (going_told c place held a)
  told_on place held a within = go (is_refused a)
    where
      go : (b : Bool) → GoesOn (cond b (ends held) (going_on c place held a))
      go true = ended_on held (most place held within)
      go false = on place held a within

  pub goes_on : (place : ServerPlace) (held : Held) (told : Option PlainAnswer) → IsWithin c place held → GoesOn (going c place held told)
  goes_on place held (Some a) within = told_on place held a within
  goes_on New held None within = record { within = within; begun = λ is. cc }
  goes_on place held None within = ended_on held (most place held within)

  none_given : {A : Type 0} (o : Option A) (P : Type 0) → (o ≡ None → P) → IfNone o P
  none_given None P given = given refl
  none_given (Some x) P given = tt

  module _ (few : c.clients < 8) (place : ServerPlace) (held : Held) (asked : Option CallLine) (told : Option PlainAnswer) (next : ServerPlace) (kept : Held) (line : Option CallLine) (is : record { place = next; held = kept; line = line } ≡ going c place held told) (within : IsWithin c place held) where
    pub within_after : IsWithin c next kept
    within_after = subst (λ (x : ServerGoing). IsWithin c x.place x.held) (sym is) (goes_on place held told within).within

    pub fits_after : IsToldFor asked told → (o : Option CallLine) → o ≡ line → (log : List LoggedCall) → ServerFits c place held asked log → ServerFits c next kept o (log_so_far log asked told)
    fits_after fit o o_is log f =
        subst (λ p. ServerFits c next kept p (log_so_far log asked told)) (sym o_is)
        (subst (λ (x : ServerGoing). ServerFits c x.place x.held x.line (log_so_far log asked told)) (sym is) (fits_next c few place held asked told log fit f))

    pub ends_after : IsToldFor asked told → IfNone line ((log : List LoggedCall) → ServerFits c place held asked log → due (role_of c) (log_so_far log asked told) ≡ None)
    ends_after fit = none_given line _ (λ none log f.
        ends_next c few next kept (log_so_far log asked told) (subst (λ (x : ServerGoing). x.place ≢ New) (sym is) (goes_on place held told within).begun) (fits_after fit None (sym none) log f))
