-- What the server sends, where its log fits its role: what its service replied to the last of the messages that came before, to the client
-- that its service named. It asks for as many bytes as one frame carries.
use Rattle.std.proofs.Common.{◌≡◌, ℕ, ◌+◌, ◌*◌, Bool, true, false, cond, ltb, List, ◌∷◌, ◌++◌, length, slice_get, Option, Some, None, refl, ap, ◌∙◌, subst}
use Rattle.std.specs.Prelude.{Result, Ok, Err, is_some, codes, decimal}
use Rattle.std.specs.List.{AllByRecursion, list_any}
use Rattle.mc_base.specs.Limits.{single_size}
use Rattle.board_model.specs.declared.scenario.Call.{Call}
use Rattle.board_model.specs.declared.scenario.Call.TheVariants.{MsgSend, MsgRecv}
use Rattle.board_model.specs.declared.scenario.CallLine.{CallLine}
use Rattle.board_model.specs.Journal.{PlainAnswer, agrees}
use Rattle.board_model.specs.Logs.{LoggedCall, bytes_answered}
use Rattle.board_model.proofs.ListsApart.{all-joined}
use Rattle.board_model.proofs.ListsOne.{all-any}
use Rattle.board_model.proofs.MessageAlls.{all-at, all-weaken}
use Rattle.call_service.specs.declared.request.ServiceFault.{ServiceFault}
use Rattle.call_service.specs.Served.{rising}
use Rattle.call_logs.specs.LogMessages.{MessageSent, sent_by, messages_sent, messages_received, contents_received}
use Rattle.call_logs.specs.Following.{is_refused, last_call, Follows}
use Rattle.call_logs.specs.CallBytes.{bye_in}
use Rattle.call_logs.specs.Roles.{server, finding, receive_line, server_opening, handled_all, reply_due, all_left, is_receive, due_after_message, due_behind, due_of_server, due_unrefused, due}
use Rattle.call_logs.proofs.Followed.{DueAt, each_due, contents-append, not_none, Asks, all_few}

-- a reply, by these messages and the ones before and after it
pub record IsReplied (calls : ℕ) (messages : List (List ℕ)) (m : MessageSent) : Type 0 where
  pub before : List (List ℕ)
  pub later : List (List ℕ)
  pub parts : messages ≡ before ++ later
  pub to : (handled_all calls before).answer ≡ Ok m.to.domain
  pub content : m.content ≡ (handled_all calls before).reply

module _ (clients repeat calls : ℕ) where
  abbrev OfCall : List (List ℕ) → Call → Type 0
  OfCall messages (MsgSend port to priority bytes) = ((handled_all calls messages).answer ≡ Ok to.domain) × (bytes ≡ (handled_all calls messages).reply)
  OfCall messages (MsgRecv port max) = max ≡ single_size
  OfCall messages other = Unit {0}

  abbrev OfLine : List (List ℕ) → CallLine → Type 0
  OfLine messages line = OfCall messages line.call

  opening_lines : (messages : List (List ℕ)) → AllByRecursion (OfLine messages) (server_opening clients)
  opening_lines messages =
      (tt, all-joined (OfLine messages) (λ d. finding 0 (codes "a" ++ decimal d) d) (rising 1 clients) (all-any (λ d. AllByRecursion (OfLine messages) (finding 0 (codes "a" ++ decimal d) d)) (λ d. (tt, (tt, tt))) (rising 1 clients)))

  receives : (messages : List (List ℕ)) (line : CallLine) → Some (receive_line 0) ≡ Some line → OfLine messages line
  receives messages line is = let same : receive_line 0 ≡ line = cc in subst (OfLine messages) same refl

  by_answer : (messages : List (List ℕ)) (line : CallLine) (o : Result ℕ ServiceFault) → (handled_all calls messages).answer ≡ o → reply_due o (handled_all calls messages).reply ≡ Some line → OfLine messages line
  by_answer messages line (Err fault) answer is = absurd cc
  by_answer messages line (Ok to) answer is = let same = is in subst (λ (x : Option CallLine). IfLine x) is (answer, refl)
    where
      IfLine : Option CallLine → Type 0
      IfLine None = Unit {0}
      IfLine (Some l) = OfLine messages l

  after_message : (messages : List (List ℕ)) (message : List ℕ) (line : CallLine) → due_after_message clients repeat calls messages message ≡ Some line → OfLine messages line
  after_message messages message line is =
      let within = not_none (ltb (repeat * calls + clients) (length messages)) _ line is in
      by_bye (is_some (bye_in message)) within
    where
      by_bye : (b : Bool) → cond b (cond (all_left clients messages) None (Some (receive_line 0))) (reply_due (handled_all calls messages).answer (handled_all calls messages).reply) ≡ Some line → OfLine messages line
      by_bye true given = receives messages line (not_none (all_left clients messages) (Some (receive_line 0)) line given)
      by_bye false given = by_answer messages line (handled_all calls messages).answer refl given

  behind : (log : List LoggedCall) (o : Option LoggedCall) (line : CallLine) → due_behind clients repeat calls log o ≡ Some line → OfLine (contents_received log) line
  behind log None line is = absurd cc
  behind log (Some l) line is = by_call (is_receive l.line.call) is
    where
      by_call : (b : Bool) → cond b (due_after_message clients repeat calls (contents_received log) (bytes_answered l.answer)) (Some (receive_line 0)) ≡ Some line → OfLine (contents_received log) line
      by_call true given = after_message (contents_received log) (bytes_answered l.answer) line given
      by_call false given = receives (contents_received log) line given

  by_opening : (log : List LoggedCall) (o : Option CallLine) (line : CallLine) → slice_get (server_opening clients) (length log) ≡ o → due_of_server clients repeat calls log o ≡ Some line → OfLine (contents_received log) line
  by_opening log (Some l) line at is = all-at (OfLine (contents_received log)) (server_opening clients) (length log) line (opening_lines (contents_received log)) (at ∙ is)
  by_opening log None line at is = behind log (last_call log) line is

  due_line : (log : List LoggedCall) (line : CallLine) → due (server clients repeat calls) log ≡ Some line → OfLine (contents_received log) line
  due_line log line is =
      by_opening log (slice_get (server_opening clients) (length log)) line refl (not_none (list_any (λ (l : LoggedCall). is_refused l.answer) log) (due_unrefused (server clients repeat calls) log) line is)

  -- ---- what is sent and received

  sent_replies : (messages before later : List (List ℕ)) → messages ≡ before ++ later → (call : Call) (answer : PlainAnswer) → OfCall before call → AllByRecursion (IsReplied calls messages) (sent_by call answer)
  sent_replies messages before later parts (MsgSend port to priority bytes) agrees of = (record { before = before; later = later; parts = parts; to = of.0; content = of.1 }, tt)
  sent_replies messages before later parts (MsgSend port to priority bytes) answer of = tt
  sent_replies messages before later parts call answer of = tt

  asks : (messages : List (List ℕ)) (call : Call) → OfCall messages call → Asks call
  asks messages (MsgRecv port max) of = of
  asks messages call of = tt

  module _ (log : List LoggedCall) (fits : Follows (due (server clients repeat calls)) log) where
    all_due : AllByRecursion (DueAt (due (server clients repeat calls)) log) log
    all_due = each_due (due (server clients repeat calls)) log fits

    pub server_sends : AllByRecursion (IsReplied calls (contents_received log)) (messages_sent log)
    server_sends =
        all-joined (IsReplied calls (contents_received log)) (λ (l : LoggedCall). sent_by l.line.call l.answer) log
        (all-weaken (DueAt (due (server clients repeat calls)) log) (λ l. AllByRecursion (IsReplied calls (contents_received log)) (sent_by l.line.call l.answer)) one log all_due)
      where
        one : (l : LoggedCall) → DueAt (due (server clients repeat calls)) log l → AllByRecursion (IsReplied calls (contents_received log)) (sent_by l.line.call l.answer)
        one l at =
            sent_replies (contents_received log) (contents_received at.front) (contents_received (l ∷ at.back)) (ap contents_received at.parts ∙ contents-append at.front (l ∷ at.back)) l.line.call l.answer
            (due_line at.front l.line at.is_due)

    pub server_asks : AllByRecursion (λ m. m.max ≡ single_size) (messages_received log)
    server_asks = all_few (due (server clients repeat calls)) log fits (λ front line is. asks (contents_received front) line.call (due_line front line is))
