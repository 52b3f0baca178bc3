-- On a board each request that the server receives is one of its client's calls, under its number. So what it carries out is.
use Rattle.std.proofs.Common.{◌≡◌, ◌⊎◌, inl, inr, ltb, ℕ, zero, suc, ◌+◌, ◌<◌, ◌≤◌, ◌^◌, true, List, [], ◌∷◌, length, filter, take, slice_get, Some, Contains, refl, sym, ap, ◌∙◌, subst, arith}
use Rattle.std.specs.Prelude.{◌==◌, Ok, slice_index}
use Rattle.std.specs.List.{AllByRecursion}
use Rattle.std.proofs.lemmas.Bool.{eqb-true, ltb-true, and_parts}
use Rattle.std.proofs.lemmas.List.{length-map}
use Rattle.std.proofs.lemmas.List.Sums.{length-filter, count_by-le-length}
use Rattle.mc_base.specs.Limits.{domain_limit, single_size}
use Rattle.board_model.specs.declared.scenario.Scenario.{Scenario}
use Rattle.board_model.specs.Board.{DomainJournal}
use Rattle.board_model.proofs.ListsApart.{all-map}
use Rattle.board_model.proofs.MessageAlls.{all-at, all-filter, all-weaken, all-with}
use Rattle.board_model.proofs.WholeHas.{has-gives}
use Rattle.call_service.specs.declared.carried.Carried.{Carried}
use Rattle.call_service.specs.declared.request.Request.{Request}
use Rattle.call_service.specs.Bytes.{request_in, request_of}
use Rattle.call_service.specs.Served.{calls_of}
use Rattle.call_service.proofs.Histories.{numbered_from}
use Rattle.call_logs.specs.LogMessages.{MessageSent, MessageReceived, messages_sent, messages_received, contents_received}
use Rattle.call_logs.specs.MessageDeeds.{log_at, WasSent}
use Rattle.call_logs.specs.CallBytes.{bye_bytes}
use Rattle.call_logs.specs.Roles.{handled_all, requests_received}
use Rattle.call_logs.specs.declared.numbered.NumberedCall.{NumberedCall}
use Rattle.call_logs.specs.CallsBoard.{CallBoard, IsCall, IsCallBoard, IsCallsRun, calls_of_client, carried_calls}
use Rattle.call_logs.specs.CallsLaw.{CarriedInOrder}
use Rattle.call_logs.proofs.ListsHad.{contained_has}
use Rattle.call_logs.proofs.SentTo.{was_sent}
use Rattle.call_logs.proofs.ClientSends.{IsRequest, IsOwn, client_sends}
use Rattle.call_logs.proofs.ServerSends.{IsReplied, server_sends, server_asks}
use Rattle.call_logs.proofs.Requests.{reads, request_read, request_short, bye_short, no_request, handled-more, last_or_none, serves}
use Rattle.call_logs.proofs.Carried.{all_requests, all_carried, all_kept, IsCallOf, calls_first}

pub contained : {A : Type 0} (P : A → Type 0) (xs : List A) (x : A) → AllByRecursion P xs → Contains xs x → P x
contained P xs x all here = has-gives P (λ y. y ≡ x) (P x) (λ y p is. subst P is p) xs all (contained_has x xs here)

-- a service names a client, 1 or more
pub names_client : (calls : ℕ) (messages : List (List ℕ)) (to : ℕ) → (handled_all calls messages).answer ≡ Ok to → 1 ≤ to
names_client calls messages to is = elim (last_or_none messages) [
  | inl none ↦ let nothing = ap (λ ms. (handled_all calls ms).answer) none in absurd cc
  | inr one ↦
      let last = handled-more (handled_all calls []) one.front one.last in
      let answer = ap (λ h. h.answer) (sym last) ∙ ap (λ ms. (handled_all calls ms).answer) (sym one.parts) ∙ is in
      let served = serves (handled_all calls one.front).service one.last (handled_all calls one.front).reply to answer in
      let read = reads one.last served.request served.is_request in
      let c = slice_index one.last 1 in
      let low : 0 < c = ltb-true 0 c (and_parts (ltb 0 c) (ltb c domain_limit) read.client).0 in
      omega (arith, low, served.to_it, ap (λ (r : Request). r.client) read.is)
]

module _ (board : CallBoard) (s : Scenario) (js : List DomainJournal) (is_board : IsCallBoard board) (runs : IsCallsRun board s js) where
  abbrev calls : ℕ → List (ℕ × ℕ)
  calls d = calls_of_client board d

  -- what each domain sends
  abbrev pub OfDomain : ℕ → MessageSent → Type 0
  OfDomain zero m = IsReplied (length board.calls) (contents_received (log_at s js 0)) m
  OfDomain (suc n) m = IsOwn (suc n) (calls (suc n)) m

  pub sends_of : (d : ℕ) → AllByRecursion (OfDomain d) (messages_sent (log_at s js d))
  sends_of zero = server_sends board.clients board.repeat (length board.calls) (log_at s js 0) (runs.fits 0)
  sends_of (suc n) = client_sends (suc n) board.repeat (calls (suc n)) (log_at s js (suc n)) (runs.fits (suc n))

  -- ---- the calls of the board are in their ranges

  abbrev pair_of : NumberedCall → ℕ × ℕ
  pair_of k = (k.cell, k.amount)

  pub few : (d : ℕ) → length (calls d) ≤ length board.calls
  few d =
      omega (
        arith,
        length-map (filter (λ (k : NumberedCall). k.client == d) board.calls) pair_of,
        length-filter (λ (k : NumberedCall). k.client == d) board.calls,
        count_by-le-length (λ (k : NumberedCall). k.client == d) board.calls,
      )

  small : (d : ℕ) → AllByRecursion (λ k. k.1 < 2 ^ 64) (calls d)
  small d =
      all-map (λ (k : ℕ × ℕ). k.1 < 2 ^ 64) (λ (k : NumberedCall). (k.cell, k.amount)) (filter (λ (k : NumberedCall). k.client == d) board.calls)
      (all-filter (λ (k : NumberedCall). k.amount < 2 ^ 64) (λ (k : NumberedCall). k.client == d) board.calls (all-weaken (IsCall board.clients) (λ k. k.amount < 2 ^ 64) (λ k is. is.amount) board.calls is_board.calls))

  pub within : {A : Type 0} (xs : List A) (i : ℕ) (x : A) → slice_get xs i ≡ Some x → i < length xs
  within [] i x is = absurd cc
  within (y ∷ ys) zero x is = omega arith
  within (y ∷ ys) (suc i) x is = let less = within ys i x is in omega arith

  -- ---- requests

  -- what a client sends, as the server receives it
  pub record FromClient (bytes : List ℕ) : Type 0 where
    pub client : ℕ
    pub own : IsRequest client (calls client) bytes ⊎ (bytes ≡ bye_bytes client)

  pub from_client : (m : MessageReceived) → m.max ≡ single_size → WasSent s js 0 m → FromClient m.bytes
  from_client m max sent = by_sender sent.sender (contained (OfDomain sent.sender) (messages_sent (log_at s js sent.sender)) sent.sent (sends_of sent.sender) sent.is_sent)
    where
      shortened : m.bytes ≡ take single_size sent.sent.content
      shortened = sent.first ∙ ap (λ n. take n sent.sent.content) max

      by_sender : (d : ℕ) → OfDomain d sent.sent → FromClient m.bytes
      by_sender zero replied = let some = names_client (length board.calls) replied.before sent.sent.to.domain replied.to in absurd (omega (arith, some, sent.reaches))
      by_sender (suc n) own = record { client = suc n; own = by_content own.own }
        where
          by_content : IsRequest (suc n) (calls (suc n)) sent.sent.content ⊎ (sent.sent.content ≡ bye_bytes (suc n)) → IsRequest (suc n) (calls (suc n)) m.bytes ⊎ (m.bytes ≡ bye_bytes (suc n))
          by_content (inl request) = inl (record {
            place = request.place;
            call = request.call;
            at = request.at;
            is = shortened ∙ ap (take single_size) request.is ∙ request_short (suc n) (request.place + 1) request.call.0 request.call.1;
          })
          by_content (inr bye) = inr (shortened ∙ ap (take single_size) bye ∙ bye_short (suc n))

  pub all_from_clients : AllByRecursion FromClient (contents_received (log_at s js 0))
  all_from_clients =
      all-map FromClient (λ (m : MessageReceived). m.bytes) (messages_received (log_at s js 0))
      (all-with (λ m. m.max ≡ single_size) (WasSent s js 0) (λ m. FromClient m.bytes) from_client (messages_received (log_at s js 0))
      (server_asks board.clients board.repeat (length board.calls) (log_at s js 0) (runs.fits 0)) (was_sent s js runs.linked runs.run 0))

  -- a request is a call of its client
  abbrev pub IsCallIn : Request → Type 0
  IsCallIn r = IsCallOf (calls r.client) r.number r.cell r.amount

  call_in : (bytes : List ℕ) (r : Request) → FromClient bytes → request_in bytes ≡ Ok r → IsCallIn r
  call_in bytes r from is = by_own from.own
    where
      by_own : IsRequest from.client (calls from.client) bytes ⊎ (bytes ≡ bye_bytes from.client) → IsCallIn r
      by_own (inr bye) = absurd (no_request from.client r (ap request_in (sym bye) ∙ is))
      by_own (inl request) =
          let at = within (calls from.client) request.place request.call request.at in
          let amount = all-at (λ (k : ℕ × ℕ). k.1 < 2 ^ 64) (calls from.client) request.place request.call (small from.client) request.at in
          let read : r ≡ record { client = from.client; cell = request.call.0; number = request.place + 1; amount = request.call.1 } =
          (reads bytes r is).is ∙ ap request_of request.is ∙ request_read from.client (request.place + 1) request.call.0 request.call.1 (omega (arith, at, few from.client, is_board.few_calls)) amount in
          subst IsCallIn (sym read) (record { place = request.place; at = request.at; number_is = refl })

  pub all_calls_in : AllByRecursion IsCallIn (requests_received (log_at s js 0))
  all_calls_in = all_requests FromClient IsCallIn call_in (contents_received (log_at s js 0)) all_from_clients

  -- ---- what is carried out

  abbrev pub IsCarriedCall : Carried → Type 0
  IsCarriedCall e = IsCallOf (calls e.client) e.number e.cell e.amount

  pub all_carried_calls : AllByRecursion IsCarriedCall (carried_calls s js)
  all_carried_calls = all_carried IsCarriedCall IsCallIn (λ r over v is. record { place = is.place; at = is.at; number_is = is.number_is }) [] (requests_received (log_at s js 0)) tt all_calls_in

  pub carried_in_order : (d : ℕ) → CarriedInOrder (carried_calls s js) d (calls d)
  carried_in_order d =
      let numbered = numbered_from [] (requests_received (log_at s js 0)) (λ c. refl) d in
      let own : AllByRecursion (λ e. IsCallOf (calls d) e.number e.cell e.amount) (calls_of d (carried_calls s js)) =
      all-weaken (λ e. IsCarriedCall e × ((e.client == d) ≡ true)) (λ e. IsCallOf (calls d) e.number e.cell e.amount)
      (λ e is. subst (λ c. IsCallOf (calls c) e.number e.cell e.amount) (eqb-true e.client d is.1) is.0) (calls_of d (carried_calls s js))
      (all_kept IsCarriedCall (λ (e : Carried). e.client == d) (carried_calls s js) all_carried_calls) in
      record { calls_first = calls_first (calls d) 0 (calls_of d (carried_calls s js)) numbered own; numbered = numbered }
