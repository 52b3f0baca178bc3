-- With each line that an actor gives, fewer are left.
use Rattle.std.proofs.Common.{◌≡◌, ℕ, ◌+◌, ◌<◌, ◌≤◌, Bool, true, false, cond, ltb, leb, List, length, slice_get, Option, Some, None, refl, sym, subst, arith}
use Rattle.std.specs.Prelude.{IfSome, Result, Ok, Err, is_some}
use Rattle.std.proofs.lemmas.Bool.{ltb-true, ltb-false, leb-true}
use Rattle.board_model.specs.declared.scenario.CallLine.{CallLine}
use Rattle.board_model.specs.Journal.{PlainAnswer}
use Rattle.board_model.specs.Logs.{bytes_answered}
use Rattle.call_service.specs.declared.request.ServiceFault.{ServiceFault}
use Rattle.call_service.specs.Handled.{handled}
use Rattle.call_logs.specs.declared.got.Got.{Got}
use Rattle.call_logs.specs.Following.{is_refused}
use Rattle.call_logs.specs.CallBytes.{bye_in, got_in}
use Rattle.call_logs.specs.Roles.{receive_line}
use Rattle.call_actor.specs.declared.place.ClientPlace.{ClientPlace}
use Rattle.call_actor.specs.declared.place.ClientPlace.TheVariants as client
use Rattle.call_actor.specs.declared.place.Going.{Going}
use Rattle.call_actor.specs.declared.place.ServerPlace.{ServerPlace}
use Rattle.call_actor.specs.declared.place.ServerPlace.TheVariants as server
use Rattle.call_actor.specs.declared.rules.ServerRole.{ServerRole}
use Rattle.call_actor.specs.ClientStands.{IsWithin}
use Rattle.call_actor.specs.ClientSteps as c
use Rattle.call_actor.specs.ClientSteps.{ClientRole}
use Rattle.call_actor.specs.LinesLeft.{left_of_client, left_of_server, exchanges_left}
use Rattle.call_actor.specs.ServerLimits.{limit}
use Rattle.call_actor.specs.ServerStands as stands
use Rattle.call_actor.specs.ServerSteps as s
use Rattle.call_actor.specs.ServerSteps.{Held, ServerGoing}
use Rattle.call_actor.proofs.Places.{within_get}

-- a line counts as one
abbrev pub lines_given : Option CallLine → ℕ
lines_given None = 0
lines_given (Some line) = 1

fallen : (o : Option CallLine) (m n : ℕ) → m + lines_given o ≤ n → IfSome o (λ l. m < n)
fallen None m n less = tt
fallen (Some l) m n less = omega (arith, less)

-- ---- a client

module _ (role : ClientRole) (some : 1 ≤ role.repeat) (few : role.repeat ≤ 4) where
  abbrev left : ClientPlace → ℕ
  left place = left_of_client (length role.calls) place

  abbrev Falls : ℕ → Going → Type 0
  Falls before g = left g.place + lines_given g.line ≤ before

  asks_fall : (before n times : ℕ) (first : List ℕ) (got : Option Got) (o : Option (ℕ × ℕ)) → slice_get role.calls n ≡ o → 1 ≤ before → (n < length role.calls → left (client.Sent n times) + 1 ≤ before) → Falls before (c.asks_call role n times first got o)
  asks_fall before n times first got (Some k) there more fits = fits (within_get role.calls n k there)
  asks_fall before n times first got None past more fits = more

  sent_falls : (n times : ℕ) (first : List ℕ) → IsWithin role (client.Sent n times) → Falls (left (client.Sent n times)) (c.after_sent role n times first)
  sent_falls n times first within = go (ltb times role.repeat) refl
    where
      go : (b : Bool) → ltb times role.repeat ≡ b → Falls (left (client.Sent n times)) (cond b (c.asks_call role n (times + 1) first None (slice_get role.calls n)) (c.goes (client.Received n 1) first None (receive_line role.domain)))
      go true again = let less = ltb-true times role.repeat again in asks_fall (left (client.Sent n times)) n (times + 1) first None (slice_get role.calls n) refl (omega arith) (λ within_calls. omega (arith, less, few))
      go false last = omega (arith, within.2, few)

  expected_falls : (n times : ℕ) (first : List ℕ) → IsWithin role (client.Received n times) → Falls (left (client.Received n times)) (c.after_expected role n times first)
  expected_falls n times first within = go (ltb times role.repeat) refl
    where
      go : (b : Bool) → ltb times role.repeat ≡ b →
          Falls (left (client.Received n times)) (cond b (c.goes (client.Received n (times + 1)) first None (receive_line role.domain)) (c.asks_call role (n + 1) 1 first (Some (got_in first)) (slice_get role.calls (n + 1))))
      go true again = omega (arith, ltb-true times role.repeat again, few)
      go false last = asks_fall (left (client.Received n times)) (n + 1) 1 first (Some (got_in first)) (slice_get role.calls (n + 1)) refl (omega (arith, within.2, few)) (λ next. omega (arith, next, within.2, few))

  received_falls : (n times : ℕ) (first message : List ℕ) → IsWithin role (client.Received n times) → Falls (left (client.Received n times)) (c.after_received role n times first message)
  received_falls n times first message within = go (c.is_expected n times first message)
    where
      go : (b : Bool) → Falls (left (client.Received n times)) (cond b (c.after_expected role n times (c.kept times first message)) (c.ends first))
      go true = expected_falls n times (c.kept times first message) within
      go false = omega arith

  on_falls : (place : ClientPlace) (first : List ℕ) (a : PlainAnswer) → IsWithin role place → Falls (left place) (c.going_on role place first a)
  on_falls client.New first a within = omega arith
  on_falls client.Created first a within = omega arith
  on_falls client.LookedUp first a within = omega arith
  on_falls client.Waited first a within = asks_fall (left client.Waited) 0 1 first None (slice_get role.calls 0) refl (omega arith) (λ next. omega (arith, next))
  on_falls (client.Sent n times) first a within = sent_falls n times first within
  on_falls (client.Received n times) first a within = received_falls n times first (bytes_answered a) within
  on_falls client.Left first a within = omega arith
  on_falls client.Ended first a within = omega arith

  told_falls : (place : ClientPlace) (first : List ℕ) (a : PlainAnswer) → IsWithin role place → Falls (left place) (c.going_told role place first a)
  told_falls place first a within = go (is_refused a)
    where
      go : (b : Bool) → Falls (left place) (cond b (c.ends first) (c.going_on role place first a))
      go true = omega arith
      go false = on_falls place first a within

  going_falls : (place : ClientPlace) (first : List ℕ) (told : Option PlainAnswer) → IsWithin role place → Falls (left place) (c.going role place first told)
  going_falls place first (Some a) within = told_falls place first a within
  going_falls client.New first None within = omega arith
  going_falls place first None within = omega arith

  module _ (place : ClientPlace) (first : List ℕ) (told : Option PlainAnswer) (g : Going) (is : g ≡ c.going role place first told) (within : IsWithin role place) where
    client_falls : Falls (left place) g
    client_falls = subst (λ (x : Going). Falls (left place) x) (sym is) (going_falls place first told within)

    pub client_no_more : left g.place ≤ left place
    client_no_more = omega (arith, client_falls)

    pub client_fewer : IfSome g.line (λ l. left g.place < left place)
    client_fewer = fallen g.line (left g.place) (left place) client_falls

-- ---- the server

module _ (role : ServerRole) where
  abbrev FallsTo : ℕ → ServerGoing → Type 0
  FallsTo before g = left_of_server role g.place g.held.received + lines_given g.line ≤ before

  looks_fall : (before d : ℕ) (held : Held) → 1 ≤ d → (d ≤ role.clients → left_of_server role (server.LookedUp d) held.received + 1 ≤ before) → exchanges_left role held.received + 1 ≤ before → FallsTo before (s.looks_up role d held)
  looks_fall before d held some found none = go (leb d role.clients) refl
    where
      go : (b : Bool) → leb d role.clients ≡ b → FallsTo before (cond b (s.goes (server.LookedUp d) held (s.lookup_line d)) (s.goes server.Receiving held (receive_line 0)))
      go true within = found (leb-true d role.clients within)
      go false past = none

  by_tests : (before : ℕ) (held : Held) (bye all : Bool) (o : Result ℕ ServiceFault) → exchanges_left role held.received + 2 ≤ before → FallsTo before (cond bye (cond all (s.ends held) (s.goes server.Receiving held (receive_line 0))) (s.replies held o))
  by_tests before held true true o less = omega arith
  by_tests before held true false o less = omega (arith, less)
  by_tests before held false all (Ok to) less = omega (arith, less)
  by_tests before held false all (Err fault) less = omega arith

  message_falls : (held : Held) (message : List ℕ) → FallsTo (exchanges_left role held.received) (s.takes_message role held message)
  message_falls held message = go (ltb (limit role) (s.with_message held (handled held.service message held.reply) message).received) refl
    where
      go : (b : Bool) → ltb (limit role) (s.with_message held (handled held.service message held.reply) message).received ≡ b →
          FallsTo (exchanges_left role held.received)
          (cond b (s.ends (s.with_message held (handled held.service message held.reply) message))
          (cond (is_some (bye_in message)) (s.bye_goes role (s.with_message held (handled held.service message held.reply) message)) (s.replies (s.with_message held (handled held.service message held.reply) message) (handled held.service message held.reply).answer)))
      go true over = omega arith
      go false within =
          by_tests (exchanges_left role held.received) (s.with_message held (handled held.service message held.reply) message) (is_some (bye_in message)) (s.have_left role.clients (s.with_message held (handled held.service message held.reply) message).left) (handled held.service message held.reply).answer
          (omega (arith, ltb-false (limit role) (s.with_message held (handled held.service message held.reply) message).received within))

  on_server : (place : ServerPlace) (held : Held) (a : PlainAnswer) → stands.IsWithin role place held → FallsTo (left_of_server role place held.received) (s.going_on role place held a)
  on_server server.New held a within = omega arith
  on_server server.Created held a within = looks_fall (left_of_server role server.Created held.received) 1 held (omega arith) (λ found. omega (arith, found)) (omega arith)
  on_server (server.LookedUp d) held a within = omega arith
  on_server (server.Waited d) held a within = looks_fall (left_of_server role (server.Waited d) held.received) (d + 1) held (omega arith) (λ found. omega (arith, found)) (omega arith)
  on_server server.Receiving held a within = message_falls held (bytes_answered a)
  on_server server.Replying held a within = omega arith
  on_server server.Ended held a within = omega arith

  told_server : (place : ServerPlace) (held : Held) (a : PlainAnswer) → stands.IsWithin role place held → FallsTo (left_of_server role place held.received) (s.going_told role place held a)
  told_server place held a within = go (is_refused a)
    where
      go : (b : Bool) → FallsTo (left_of_server role place held.received) (cond b (s.ends held) (s.going_on role place held a))
      go true = omega arith
      go false = on_server place held a within

  going_server : (place : ServerPlace) (held : Held) (told : Option PlainAnswer) → stands.IsWithin role place held → FallsTo (left_of_server role place held.received) (s.going role place held told)
  going_server place held (Some a) within = told_server place held a within
  going_server server.New held None within = omega arith
  going_server place held None within = omega arith

  module _ (place : ServerPlace) (held : Held) (told : Option PlainAnswer) (next : ServerPlace) (kept : Held) (line : Option CallLine) (is : record { place = next; held = kept; line = line } ≡ s.going role place held told) (within : stands.IsWithin role place held) where
    server_falls : FallsTo (left_of_server role place held.received) (record { place = next; held = kept; line = line })
    server_falls = subst (λ (x : ServerGoing). FallsTo (left_of_server role place held.received) x) (sym is) (going_server place held told within)

    pub server_no_more : left_of_server role next kept.received ≤ left_of_server role place held.received
    server_no_more = omega (arith, server_falls)

    pub server_fewer : IfSome line (λ l. left_of_server role next kept.received < left_of_server role place held.received)
    server_fewer = fallen line (left_of_server role next kept.received) (left_of_server role place held.received) server_falls
