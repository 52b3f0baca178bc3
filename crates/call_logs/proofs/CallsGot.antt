-- On a board the server's service has room for each call, and what a client got of a call is what the server carried out.
use Rattle.std.proofs.Common.{◌≡◌, inl, inr, ltb, ℕ, zero, suc, ◌<◌, ◌≤◌, ◌^◌, List, [], ◌∷◌, ◌++◌, length, map, filter, take, refl, sym, ap, ◌∙◌, subst, arith, append_assoc, append-nil, length-append}
use Rattle.std.specs.Prelude.{◌==◌, Ok, slice_index, count_by}
use Rattle.std.specs.List.{AllByRecursion, cons_option}
use Rattle.std.proofs.lemmas.Bool.{ltb-true, and_parts}
use Rattle.std.proofs.lemmas.List.{length-map}
use Rattle.std.proofs.lemmas.List.Elements.{filter_map-append}
use Rattle.std.proofs.lemmas.List.Sums.{length-filter}
use Rattle.byteorder.specs.Endian.{little_bytes}
use Rattle.byteorder.specs.Numbers.{little_number-reads_back}
use Rattle.mc_base.specs.Bytes.{number_at}
use Rattle.mc_base.specs.Limits.{domain_limit, single_size}
use Rattle.board_model.specs.declared.scenario.Scenario.{Scenario}
use Rattle.board_model.specs.Board.{DomainJournal}
use Rattle.board_model.proofs.ListsApart.{all-map}
use Rattle.board_model.proofs.ListsOne.{all-any}
use Rattle.board_model.proofs.MessageAlls.{all-parts, all-weaken, all-with}
use Rattle.board_model.proofs.WholeHas.{Has, has-gives}
use Rattle.call_service.specs.declared.carried.Carried.{Carried}
use Rattle.call_service.specs.declared.reply.Reply.{Reply}
use Rattle.call_service.specs.declared.request.Request.{Request}
use Rattle.call_service.specs.Bytes.{request_in, reply_bytes, status_byte}
use Rattle.call_service.specs.Handled.{Handled}
use Rattle.call_service.specs.Served.{calls_of, served, history, history_from}
use Rattle.call_service.proofs.Histories.{history-append, numbered_from}
use Rattle.call_logs.specs.LogMessages.{MessageSent, MessageReceived, messages_sent, messages_received, contents_received}
use Rattle.call_logs.specs.MessageDeeds.{log_at, WasSent}
use Rattle.call_logs.specs.CallBytes.{got_in}
use Rattle.call_logs.specs.declared.got.Got.{Got}
use Rattle.call_logs.specs.Roles.{handled_all, request_or_none, requests_in, requests_received, got_lines}
use Rattle.call_logs.specs.declared.numbered.NumberedCall.{NumberedCall}
use Rattle.call_logs.specs.CallsBoard.{CallBoard, IsCallBoard, IsCallsRun, calls_of_client, role_of, carried_calls}
use Rattle.call_logs.specs.CallsLaw.{IsOfCarried, GotInOrder}
use Rattle.call_logs.proofs.SentTo.{was_sent}
use Rattle.call_logs.proofs.ClientSends.{client_asks}
use Rattle.call_logs.proofs.ServerSends.{IsReplied}
use Rattle.call_logs.proofs.Requests.{reads, handled-more, last_or_none, serves}
use Rattle.call_logs.proofs.Carried.{all_requests, all_carried}
use Rattle.call_logs.proofs.CallsCarried.{contained, OfDomain, sends_of, few, within, IsCallIn, all_calls_in, carried_in_order}
use Rattle.call_logs.proofs.Room.{history_grows, has_room, no_longer}
use Rattle.call_logs.proofs.Replies.{IsReplyOf, reply_is_of, stays_in, AreSmall, small_from, the_call}
use Rattle.call_logs.proofs.GotReplies.{FromReply, all_got}

-- ---- replies as bytes

reply_short : (number : ℕ) (p : Reply) → take single_size (reply_bytes number p) ≡ reply_bytes number p
reply_short number p = refl

reply_read : (number : ℕ) (p : Reply) → number < 2 ^ 32 → p.value < 2 ^ 64 → got_in (reply_bytes number p) ≡ record { number = number; status = status_byte p.status; value = p.value }
reply_read number p few small =
    let n : number_at 4 4 (reply_bytes number p) ≡ number = little_number-reads_back 4 number (little_bytes 8 p.value) few in
    let v : number_at 8 8 (reply_bytes number p) ≡ p.value = little_number-reads_back 8 p.value [] small in
    ap (λ x. record { number = x; status = status_byte p.status; value = number_at 8 8 (reply_bytes number p) }) n ∙ ap (λ x. record { number = number; status = status_byte p.status; value = x }) v

module _ (board : CallBoard) (s : Scenario) (js : List DomainJournal) (is_board : IsCallBoard board) (runs : IsCallsRun board s js) where
  abbrev messages : List (List ℕ)
  messages = contents_received (log_at s js 0)

  abbrev carried : List Carried
  carried = carried_calls s js

  -- ---- room

  low_client : (m : List ℕ) (r : Request) → Unit {0} → request_in m ≡ Ok r → r.client < 8
  low_client m r any is =
      let read = reads m r is in
      let c = slice_index m 1 in
      let low : c < domain_limit = ltb-true c domain_limit (and_parts (ltb 0 c) (ltb c domain_limit) read.client).1 in
      omega (arith, low, ap (λ (x : Request). x.client) read.is)

  low_clients : AllByRecursion (λ e. e.client < 8) carried
  low_clients =
      all_carried (λ e. e.client < 8) (λ r. r.client < 8) (λ r over v is. is) [] (requests_received (log_at s js 0)) tt
      (all_requests (λ m. Unit {0}) (λ r. r.client < 8) low_client messages (all-any (λ m. Unit {0}) (λ m. tt) messages))

  fewer : (c : ℕ) → count_by (λ (e : Carried). e.client == c) carried ≤ count_by (λ (k : NumberedCall). k.client == c) board.calls
  fewer c =
      let first = (carried_in_order board s js is_board runs c).calls_first in
      omega (
        arith,
        ap length first.1,
        length-append (map pair_of (calls_of c carried)) first.0,
        length-map (calls_of c carried) pair_of,
        length-filter (λ (e : Carried). e.client == c) carried,
        length-map (filter (λ (k : NumberedCall). k.client == c) board.calls) call_of,
        length-filter (λ (k : NumberedCall). k.client == c) board.calls,
      )
    where
      pair_of : Carried → ℕ × ℕ
      pair_of e = (e.cell, e.amount)

      call_of : NumberedCall → ℕ × ℕ
      call_of k = (k.cell, k.amount)

  no_more : length carried ≤ length board.calls
  no_more = no_longer (λ (e : Carried). e.client) (λ (k : NumberedCall). k.client) carried board.calls fewer 8 low_clients

  -- of any of the first messages, the service held the history
  room_for : (before later : List (List ℕ)) → messages ≡ before ++ later → (handled_all (length board.calls) before).service.history ≡ history (requests_in before)
  room_for before later parts =
      let all : carried ≡ history_from (history (requests_in before)) (requests_in later) =
      ap (λ ms. history (requests_in ms)) parts
      ∙ ap history (filter_map-append (λ m. request_or_none (request_in m)) before later)
      ∙ history-append [] (requests_in before) (requests_in later) in
      has_room (handled_all (length board.calls) []) before (omega (arith, no_more, ap length all, history_grows (history (requests_in before)) (requests_in later)))

  pub never_full : (handled_all (length board.calls) messages).service.history ≡ carried
  never_full = room_for messages [] (sym (append-nil messages))

  -- ---- replies

  -- a reply to a client's request, by the requests before and after it
  pub record FromServer (d : ℕ) (bytes : List ℕ) : Type 0 where
    pub before : List Request
    pub request : Request
    pub later : List Request
    pub parts : requests_received (log_at s js 0) ≡ before ++ request ∷ later
    pub client : request.client ≡ d
    pub is : bytes ≡ reply_bytes request.number (served (history before) request).reply

  replied_by : (d : ℕ) (bytes : List ℕ) (m : MessageSent) → IsReplied (length board.calls) messages m → m.to.domain ≡ d → bytes ≡ take single_size m.content → FromServer d bytes
  replied_by d bytes m replied reaches short = elim (last_or_none replied.before) [
    | inl none ↦ let nothing = sym (ap (λ ms. (handled_all (length board.calls) ms).answer) none) ∙ replied.to in absurd cc
    | inr one ↦
        let start : Handled = handled_all (length board.calls) one.front in
        let last = ap (handled_all (length board.calls)) one.parts ∙ handled-more (handled_all (length board.calls) []) one.front one.last in
        let served_as = serves start.service one.last start.reply m.to.domain (sym (ap (λ h. h.answer) last) ∙ replied.to) in
        let parts : messages ≡ one.front ++ one.last ∷ replied.later = replied.parts ∙ ap (λ ms. ms ++ replied.later) one.parts ∙ append_assoc one.front (one.last ∷ []) replied.later in
        let held : start.service.history ≡ history (requests_in one.front) = room_for one.front (one.last ∷ replied.later) parts in
        record {
          before = requests_in one.front;
          request = served_as.request;
          later = requests_in replied.later;
          parts = ap requests_in parts
              ∙ filter_map-append (λ m. request_or_none (request_in m)) one.front (one.last ∷ replied.later)
              ∙ ap (λ o. requests_in one.front ++ cons_option (request_or_none o) (requests_in replied.later)) served_as.is_request;
          client = sym served_as.to_it ∙ reaches;
          is = short
              ∙ ap (take single_size) (replied.content ∙ ap (λ h. h.reply) last ∙ served_as.reply ∙ ap (λ h. reply_bytes served_as.request.number (served h served_as.request).reply) held)
              ∙ reply_short served_as.request.number (served (history (requests_in one.front)) served_as.request).reply;
        }
  ]

  from_server : (n : ℕ) (m : MessageReceived) → m.max ≡ single_size → WasSent s js (suc n) m → FromServer (suc n) m.bytes
  from_server n m max sent = by_sender sent.sender (contained (OfDomain board s js is_board runs sent.sender) (messages_sent (log_at s js sent.sender)) sent.sent (sends_of board s js is_board runs sent.sender) sent.is_sent)
    where
      by_sender : (d : ℕ) → OfDomain board s js is_board runs d sent.sent → FromServer (suc n) m.bytes
      by_sender zero replied = replied_by (suc n) m.bytes sent.sent replied sent.reaches (sent.first ∙ ap (λ k. take k sent.sent.content) max)
      by_sender (suc k) own = absurd (omega (arith, own.to_server, sent.reaches))

  all_from_server : (n : ℕ) → AllByRecursion (FromServer (suc n)) (contents_received (log_at s js (suc n)))
  all_from_server n =
      all-map (FromServer (suc n)) (λ (m : MessageReceived). m.bytes) (messages_received (log_at s js (suc n)))
      (all-with (λ m. m.max ≡ single_size) (WasSent s js (suc n)) (λ m. FromServer (suc n) m.bytes) (from_server n) (messages_received (log_at s js (suc n)))
      (client_asks (suc n) board.repeat (calls_of_client board (suc n)) (log_at s js (suc n)) (runs.fits (suc n))) (was_sent s js runs.linked runs.run (suc n)))

  -- ---- what a client got

  small_number : (r : Request) → IsCallIn board s js is_board runs r → r.number < 2 ^ 32
  small_number r is =
      let at = within board s js is_board runs (calls_of_client board r.client) is.place (r.cell, r.amount) is.at in
      omega (arith, at, is.number_is, few board s js is_board runs r.client, is_board.few_calls)

  all_small : AreSmall carried
  all_small = small_from [] (requests_received (log_at s js 0)) (record { cells = λ cell. omega arith; calls = tt })

  of_carried : (d : ℕ) (g : Got) → FromReply (FromServer d) g → IsOfCarried carried d g
  of_carried d g got =
      let from = got.holds in
      let r = from.request in
      let h : List Carried = history from.before in
      let p : Reply = (served h r).reply in
      let low : status_byte p.status < 2 = subst (λ bytes. slice_index bytes 1 < 2) from.is got.status in
      let of : IsReplyOf (served h r).history r p = reply_is_of h r low in
      let all : carried ≡ history_from (served h r).history from.later = ap history from.parts ∙ history-append [] from.before (r ∷ from.later) in
      let here : Has (λ x. x ≡ of.call) carried = subst (Has (λ x. x ≡ of.call)) (sym all) (stays_in of.call (served h r).history from.later of.carried) in
      let value : of.call.value < 2 ^ 64 = has-gives (λ (e : Carried). e.value < 2 ^ 64) (λ e. e ≡ of.call) (of.call.value < 2 ^ 64) (λ e low is. subst (λ (x : Carried). x.value < 2 ^ 64) is low) carried all_small.calls here in
      let number : r.number < 2 ^ 32 = small_number r (all-parts (IsCallIn board s js is_board runs) from.before (r ∷ from.later) (subst (AllByRecursion (IsCallIn board s js is_board runs)) from.parts (all_calls_in board s js is_board runs))).1.0 in
      let read = got.is ∙ ap got_in from.is ∙ reply_read r.number p number (subst (λ (q : Reply). q.value < 2 ^ 64) (sym of.is) value) in
      let g_number : g.number ≡ r.number = ap (λ (x : Got). x.number) read in
      let g_status : g.status ≡ status_byte p.status = ap (λ (x : Got). x.status) read in
      let g_value : g.value ≡ p.value = ap (λ (x : Got). x.value) read in
      record {
        call = of.call;
        is_carried = the_call carried d g.number of.call (numbered_from [] (requests_received (log_at s js 0)) (λ c. refl) d) here (of.client ∙ from.client) (of.number ∙ sym g_number);
        status = g_status ∙ ap (λ (q : Reply). status_byte q.status) of.is;
        value = g_value ∙ ap (λ (q : Reply). q.value) of.is;
      }

  pub got_in_order : (d : ℕ) → GotInOrder carried d (got_lines (role_of board d) (log_at s js d))
  got_in_order zero = record { numbered = refl; carried = tt }
  got_in_order (suc n) =
      let all = all_got (FromServer (suc n)) board.repeat 1 (calls_of_client board (suc n)) (contents_received (log_at s js (suc n))) (all_from_server n) in
      record { numbered = all.numbered; carried = all-weaken (FromReply (FromServer (suc n))) (IsOfCarried carried (suc n)) (of_carried (suc n)) (got_lines (role_of board (suc n)) (log_at s js (suc n))) all.each }
