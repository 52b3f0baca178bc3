-- A log that fits the role of a domain between, call by call: the opening sends and receives nothing; after it, what is held is nothing, or
-- the packet of the send that is due.
use Rattle.std.proofs.Common.{◌≡◌, ℕ, ◌≤◌, nat_lt, Bool, true, false, cond, List, [], ◌∷◌, ◌++◌, length, drop, Option, Some, None, refl, ap, sym, subst, ◌∙◌, arith, append_assoc, append-nil}
use Rattle.std.specs.Prelude.{◌==◌}
use Rattle.std.proofs.lemmas.List.{drop_at}
use Rattle.mc_base.specs.declared.refusal.Refusal.{Refusal}
use Rattle.mc_base.specs.declared.refusal.Refusal.TheVariants.{ChanClosed}
use Rattle.board_model.specs.declared.scenario.Call.{Call}
use Rattle.board_model.specs.declared.scenario.Call.TheVariants.{OpenSend, PktRecv, PktSend, Release, CloseSend}
use Rattle.board_model.specs.declared.scenario.CallLine.{CallLine}
use Rattle.board_model.specs.Journal.{PlainAnswer, agrees, gives, refuses}
use Rattle.board_model.specs.Logs.{LoggedCall}
use Rattle.hop_relay.specs.declared.role.Role.{Role}
use Rattle.hop_relay.specs.declared.role.Role.TheVariants.{Middle}
use Rattle.hop_relay.specs.Roles.{sends, receives, send_line, due_after, due, FitsFrom, FitsRole}
use Rattle.hop_relay.specs.Hop.{received_by, sent_by, received, sent, held, SendsOn, IsHop}
use Rattle.hop_relay.proofs.RoleLogs.{received_more, sent_more, IsPlain, PlainOrNone, along_role}

-- ---- what is held, by the line that is due

abbrev NextCall : Call → List (List ℕ) → Type 0
NextCall (PktSend port bytes) rest = (port ≡ 1) × (rest ≡ bytes ∷ [])
NextCall (PktRecv port) rest = (port ≡ 2) × (rest ≡ [])
NextCall other rest = rest ≡ []

abbrev Next : Option CallLine → List (List ℕ) → Type 0
Next None rest = length rest ≤ 1
Next (Some line) rest = NextCall line.call rest

few : (rest : List (List ℕ)) → rest ≡ [] → length rest ≤ 1
few rest none = let n = ap length none in omega (arith, n)

one : (rest : List (List ℕ)) (bytes : List ℕ) → rest ≡ bytes ∷ [] → length rest ≤ 1
one rest bytes is = let n = ap length is in omega (arith, n)

call_few : (call : Call) (rest : List (List ℕ)) → NextCall call rest → length rest ≤ 1
call_few (PktSend port bytes) rest is = one rest bytes is.1
call_few (PktRecv port) rest is = few rest is.1
call_few call rest is = few rest is

next_few : (o : Option CallLine) (rest : List (List ℕ)) → Next o rest → length rest ≤ 1
next_few None rest next = next
next_few (Some line) rest next = call_few line.call rest next

-- ---- one call more

-- what is held then
record Moves (call : Call) (answer : PlainAnswer) (rest more : List (List ℕ)) : Type 0 where
  lacks : rest ++ received_by call answer ≡ sent_by call answer ++ more

stays : (call : Call) (answer : PlainAnswer) (rest : List (List ℕ)) → received_by call answer ≡ [] → sent_by call answer ≡ [] → Moves call answer rest rest
stays call answer rest no_in no_out = record { lacks = ap (λ xs. rest ++ xs) no_in ∙ append-nil rest ∙ ap (λ xs. xs ++ rest) (sym no_out) }

-- after the opening
module _ (d most : ℕ) where
  abbrev role : Role
  role = Middle d most

  record Behind (n k : ℕ) (call : Call) (answer : PlainAnswer) (rest : List (List ℕ)) : Type 0 where
    more : List (List ℕ)
    moves : Moves call answer rest more
    next : Next (due_after role n k call answer) more

  sent_or_none : (b : Bool) (bytes : List ℕ) → Next (cond b None (Some (send_line d bytes))) (bytes ∷ [])
  sent_or_none true bytes = omega arith
  sent_or_none false bytes = (refl, refl)

  refused : (n k port : ℕ) (w : Refusal) (rest : List (List ℕ)) → rest ≡ [] → Next (due_after role n k (PktRecv port) (refuses w)) rest
  refused n k port ChanClosed rest none = none
  refused n k port w rest none = few rest none

  got : (n k port size : ℕ) (bytes : List ℕ) (rest : List (List ℕ)) → port ≡ 2 → rest ≡ [] → Behind n k (PktRecv port) (gives size bytes) rest
  got n k port size bytes rest at none = record {
    more = bytes ∷ [];
    moves = record { lacks = ap (λ p. rest ++ cond (p == 2) (bytes ∷ []) []) at ∙ ap (λ xs. xs ++ bytes ∷ []) none };
    next = sent_or_none (nat_lt most k) bytes;
  }

  put : (n k port : ℕ) (bytes : List ℕ) (rest : List (List ℕ)) → port ≡ 1 → rest ≡ bytes ∷ [] → Behind n k (PktSend port bytes) agrees rest
  put n k port bytes rest at is = record {
    more = [];
    moves = record { lacks = append-nil rest ∙ is ∙ ap (λ p. cond (p == 1) (bytes ∷ []) [] ++ []) (sym at) };
    next = refl;
  }

  behind : (n k : ℕ) (call : Call) (answer : PlainAnswer) (rest : List (List ℕ)) → NextCall call rest → Behind n k call answer rest
  behind n k (PktSend port bytes) agrees rest is = put n k port bytes rest is.0 is.1
  behind n k (PktSend port bytes) answer rest is = record { more = rest; moves = stays (PktSend port bytes) answer rest refl refl; next = one rest bytes is.1 }
  behind n k (PktRecv port) (gives size bytes) rest is = got n k port size bytes rest is.0 is.1
  behind n k (PktRecv port) (refuses w) rest is = record { more = rest; moves = stays (PktRecv port) (refuses w) rest refl refl; next = refused n k port w rest is.1 }
  behind n k (PktRecv port) answer rest is = record { more = rest; moves = stays (PktRecv port) answer rest refl refl; next = few rest is.1 }
  behind n k (OpenSend port kind) agrees rest is = record { more = rest; moves = stays (OpenSend port kind) agrees rest refl refl; next = (refl, is) }
  behind n k (Release label) agrees rest is = record { more = rest; moves = stays (Release label) agrees rest refl refl; next = (refl, is) }
  behind n k (CloseSend port) agrees rest is = record { more = rest; moves = stays (CloseSend port) agrees rest refl refl; next = is }
  behind n k call answer rest is = record { more = rest; moves = stays call answer rest refl refl; next = few rest is }

-- ---- in the opening

plain_next : (o : Option CallLine) (rest : List (List ℕ)) → PlainOrNone o → rest ≡ [] → Next o rest
plain_next None rest plain none = few rest none
plain_next (Some line) rest plain none = go line.call plain
  where
    go : (call : Call) → IsPlain call → NextCall call rest
    go (PktSend port bytes) is = absurd is
    go (PktRecv port) is = absurd is
    go call is = none

plain_none : (call : Call) (rest : List (List ℕ)) → IsPlain call → NextCall call rest → rest ≡ []
plain_none (PktSend port bytes) rest plain is = absurd plain
plain_none (PktRecv port) rest plain is = absurd plain
plain_none call rest plain is = is

plain_stays : (call : Call) (answer : PlainAnswer) (rest : List (List ℕ)) → IsPlain call → Moves call answer rest rest
plain_stays (PktSend port bytes) answer rest plain = absurd plain
plain_stays (PktRecv port) answer rest plain = absurd plain
plain_stays call answer rest plain = stays call answer rest refl refl

-- ---- along a log

lacks_more : (log : List LoggedCall) (l : LoggedCall) (rest more : List (List ℕ)) → received log ≡ sent log ++ rest → Moves l.line.call l.answer rest more → received (log ++ l ∷ []) ≡ sent (log ++ l ∷ []) ++ more
lacks_more log l rest more lacks moves =
    received_more log l
    ∙ ap (λ xs. xs ++ received_by l.line.call l.answer) lacks
    ∙ append_assoc (sent log) rest (received_by l.line.call l.answer)
    ∙ ap (λ xs. sent log ++ xs) moves.lacks
    ∙ sym (append_assoc (sent log) (sent_by l.line.call l.answer) more)
    ∙ ap (λ xs. xs ++ more) (sym (sent_more log l))

record Lacks (log : List LoggedCall) (o : Option CallLine) : Type 0 where
  rest : List (List ℕ)
  lacks : received log ≡ sent log ++ rest
  next : Next o rest

opens : (log : List LoggedCall) (l : LoggedCall) (o : Option CallLine) → IsPlain l.line.call → PlainOrNone o → Lacks log (Some l.line) → Lacks (log ++ l ∷ []) o
opens log l o own plain a =
    let none = plain_none l.line.call a.rest own a.next in
    record { rest = a.rest; lacks = lacks_more log l a.rest a.rest a.lacks (plain_stays l.line.call l.answer a.rest own); next = plain_next o a.rest plain none }

module _ (d most : ℕ) where
  follows : (log : List LoggedCall) (l : LoggedCall) → Lacks log (Some l.line) → Lacks (log ++ l ∷ []) (due_after (Middle d most) (sends (log ++ l ∷ [])) (receives (log ++ l ∷ [])) l.line.call l.answer)
  follows log l a =
      let to = behind d most (sends (log ++ l ∷ [])) (receives (log ++ l ∷ [])) l.line.call l.answer a.rest a.next in
      record { rest = to.more; lacks = lacks_more log l a.rest to.more a.lacks to.moves; next = to.next }

  along : (log : List LoggedCall) → FitsRole (Middle d most) log → Lacks log (due (Middle d most) log)
  along log fits = along_role (Middle d most) Lacks (tt, (tt, (tt, (tt, (tt, (tt, (tt, (tt, tt)))))))) opens follows (record { rest = []; lacks = refl; next = refl }) log fits

  front_fits : (first front back : List LoggedCall) → FitsFrom (Middle d most) first (front ++ back) → FitsFrom (Middle d most) first front
  front_fits first [] back fits = tt
  front_fits first (l ∷ ls) back fits = (fits.0, front_fits (first ++ l ∷ []) ls back fits.1)

sends_on : (log : List LoggedCall) (rest : List (List ℕ)) → received log ≡ sent log ++ rest → length rest ≤ 1 → SendsOn log
sends_on log rest lacks few =
    let is : held log ≡ rest = ap (drop (length (sent log))) lacks ∙ drop_at (sent log) rest (length (sent log)) refl in
    record { kept = lacks ∙ ap (λ xs. sent log ++ xs) (sym is); few = subst (λ xs. length xs ≤ 1) (sym is) few }

pub is_hop : (d most : ℕ) (log : List LoggedCall) → FitsRole (Middle d most) log → IsHop log
is_hop d most log fits front back is =
    let a = along d most front (front_fits d most [] front back (subst (FitsRole (Middle d most)) is fits)) in
    sends_on front a.rest a.lacks (next_few (due (Middle d most) front) a.rest a.next)
