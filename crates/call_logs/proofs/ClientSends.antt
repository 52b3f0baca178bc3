-- What a client sends, where its log fits its role: to the server, requests of its calls, each under its number, and byes.
use Rattle.std.proofs.Common.{◌≡◌, ◌⊎◌, inl, inr, ℕ, zero, suc, ◌+◌, List, [], ◌∷◌, length, replicate, slice_get, Some, refl, ap, ◌∙◌, arith}
use Rattle.std.specs.List.{AllByRecursion, list_any}
use Rattle.mc_base.specs.Limits.{single_size}
use Rattle.board_model.specs.declared.scenario.Call.{Call}
use Rattle.board_model.specs.declared.scenario.Call.TheVariants.{MsgSend, MsgRecv}
use Rattle.board_model.specs.declared.scenario.CallLine.{CallLine}
use Rattle.board_model.specs.Journal.{PlainAnswer, agrees}
use Rattle.board_model.specs.Logs.{LoggedCall}
use Rattle.board_model.proofs.ListsApart.{all-joined}
use Rattle.board_model.proofs.MessageAlls.{all-append, all-at, all-weaken}
use Rattle.call_logs.specs.LogMessages.{MessageSent, sent_by, messages_sent, messages_received, contents_received}
use Rattle.call_logs.specs.Following.{is_refused, Follows}
use Rattle.call_logs.specs.CallBytes.{request_bytes, bye_bytes}
use Rattle.call_logs.specs.Roles.{client, request_line, receive_line, call_lines, client_lines, are_as_said, due_unrefused, due}
use Rattle.call_logs.proofs.Followed.{DueAt, each_due, not_none, some_one, Asks, all_few}

pub record IsRequest (d : ℕ) (calls : List (ℕ × ℕ)) (bytes : List ℕ) : Type 0 where
  pub place : ℕ
  pub call : ℕ × ℕ
  pub at : slice_get calls place ≡ Some call
  pub is : bytes ≡ request_bytes d (place + 1) call.0 call.1

-- what a client sends
pub record IsOwn (d : ℕ) (calls : List (ℕ × ℕ)) (m : MessageSent) : Type 0 where
  pub to_server : m.to.domain ≡ 0
  pub own : IsRequest d calls m.content ⊎ (m.content ≡ bye_bytes d)

pub all_same : {A : Type 0} (P : A → Type 0) (n : ℕ) (x : A) → P x → AllByRecursion P (replicate n x)
all_same P zero x p = tt
all_same P (suc n) x p = (p, all_same P n x p)

module _ (d repeat : ℕ) (calls : List (ℕ × ℕ)) where
  abbrev OfCall : Call → Type 0
  OfCall (MsgSend port to priority bytes) = (to.domain ≡ 0) × (IsRequest d calls bytes ⊎ (bytes ≡ bye_bytes d))
  OfCall (MsgRecv port max) = max ≡ single_size
  OfCall other = Unit {0}

  abbrev OfLine : CallLine → Type 0
  OfLine line = OfCall line.call

  -- the calls from a place on
  calls_from : (offset number : ℕ) (ks : List (ℕ × ℕ)) → number ≡ offset + 1 → ((i : ℕ) (k : ℕ × ℕ) → slice_get ks i ≡ Some k → slice_get calls (offset + i) ≡ Some k) → AllByRecursion OfLine (call_lines d repeat number ks)
  calls_from offset number [] is within = tt
  calls_from offset number (k ∷ ks) is within =
      let here : slice_get calls offset ≡ Some k = ap (slice_get calls) (omega arith) ∙ within 0 k refl in
      let request : IsRequest d calls (request_bytes d number k.0 k.1) = record { place = offset; call = k; at = here; is = ap (λ n. request_bytes d n k.0 k.1) is } in
      all-append OfLine (replicate repeat (request_line d number k)) _ (all_same OfLine repeat (request_line d number k) (refl, inl request))
      (all-append OfLine (replicate repeat (receive_line d)) _ (all_same OfLine repeat (receive_line d) refl)
      (calls_from (offset + 1) (number + 1) ks (omega (arith, is)) (λ i j at. ap (slice_get calls) (omega arith) ∙ within (suc i) j at)))

  all_lines : AllByRecursion OfLine (client_lines d repeat calls)
  all_lines = (tt, (tt, (tt, all-append OfLine (call_lines d repeat 1 calls) _ (calls_from 0 1 calls refl (λ i k at. ap (slice_get calls) (omega arith) ∙ at)) ((refl, inr refl), tt))))

  due_line : (log : List LoggedCall) (line : CallLine) → due (client d repeat calls) log ≡ Some line → OfLine line
  due_line log line is =
      let unrefused = not_none (list_any (λ (l : LoggedCall). is_refused l.answer) log) (due_unrefused (client d repeat calls) log) line is in
      all-at OfLine (client_lines d repeat calls) (length log) line all_lines (some_one (are_as_said repeat 1 calls (contents_received log)) (slice_get (client_lines d repeat calls) (length log)) line unrefused)

  sent_own : (call : Call) (answer : PlainAnswer) → OfCall call → AllByRecursion (IsOwn d calls) (sent_by call answer)
  sent_own (MsgSend port to priority bytes) agrees of = (record { to_server = of.0; own = of.1 }, tt)
  sent_own (MsgSend port to priority bytes) answer of = tt
  sent_own call answer of = tt

  asks : (call : Call) → OfCall call → Asks call
  asks (MsgRecv port max) of = of
  asks call of = tt

  pub client_asks : (log : List LoggedCall) → Follows (due (client d repeat calls)) log → AllByRecursion (λ m. m.max ≡ single_size) (messages_received log)
  client_asks log fits = all_few (due (client d repeat calls)) log fits (λ front line is. asks line.call (due_line front line is))

  pub client_sends : (log : List LoggedCall) → Follows (due (client d repeat calls)) log → AllByRecursion (IsOwn d calls) (messages_sent log)
  client_sends log fits =
      all-joined (IsOwn d calls) (λ (l : LoggedCall). sent_by l.line.call l.answer) log
      (all-weaken (DueAt (due (client d repeat calls)) log) (λ l. AllByRecursion (IsOwn d calls) (sent_by l.line.call l.answer)) (λ l at. sent_own l.line.call l.answer (due_line at.front l.line at.is_due)) log
      (each_due (due (client d repeat calls)) log fits))
