-- Calls: what a success changes at once is the state to which its changes lead, and the items that it returns are the same.
use Rattle.std.proofs.Common.{◌≡◌, ℕ, Bool, false, List, [], ◌∷◌, map, Option, Some, None, refl, sym, ap, ap₂, ◌∙◌}
use Rattle.std.specs.Prelude.{find, option_map, option_to_list, is_some, unwrap_or}
use Rattle.mc_base.specs.declared.name.Local.{Local}
use Rattle.mc_base.specs.declared.refusal.Refusal.TheVariants.{EndpInvalid}
use Rattle.board_model.specs.Lists.{changed_first, with_rising, without}
use Rattle.board_model.specs.State as state
use Rattle.board_model.specs.State.{Item, Endpoint, message_at, has_item, DomainState, is_at, is_numbered, place_at, live_at, address_at, queue_in, queue_at}
use Rattle.board_model.specs.Choice.{best, oldest}
use Rattle.board_model.specs.DomainCall.{DomainCall, create_at, delete_at, receive_at, request_at, test_of, wait_for, close_at, release_of, raw_to, scalar_at}
use Rattle.mc_base.specs.declared.channel.Side.TheVariants.{Receiver, Sender}
use Rattle.board_model.specs.Answer.{local}
use Rattle.board_model.specs.Change.{endpoint_gone, best_gone, request_added, waiting_ended, end_announced, ended_in, changed, changed_all}
use Rattle.board_model.specs.CallChanges.{at_live, best_item, success_changes, success_returned}
use Rattle.board_model.proofs.MessageAlls.{found-passes}
use Rattle.board_model.proofs.MessageLists.{changed-position, without-position, get-position, some-position}
use Rattle.board_model.proofs.ListsMapped.{changed-found, changed-nothing}
use Rattle.board_model.proofs.StateEnds.{Ends, by_address, named_so}
use Rattle.domain_parts.specs.PlacedCalls.{ended_by_word, used_one, received, best_queued, with_announced, with_endpoint, with_request, with_received, with_used, without_endpoint, success_returns}

pub at-live : (s : DomainState) (at : Local) → state.endpoint_at s at ≡ live_at s at
at-live s at = get-position (is_at at) s.endpoints

-- where a name has a place, there is its endpoint
pub there_at : (u : DomainState) (at : Local) (i : ℕ) → place_at u at ≡ Some i → (e : Endpoint) × (live_at u at ≡ Some e)
there_at u at i there = go (live_at u at) (sym (some-position (is_at at) u.endpoints) ∙ ap is_some there)
  where
    go : (o : Option Endpoint) → is_some o ≡ is_some (Some i) → (e : Endpoint) × (o ≡ Some e)
    go None same = absurd cc
    go (Some e) same = (e, refl)

changed_none : {A : Type 0} (p : A → Bool) (f : A → A) (xs : List A) → find p xs ≡ None → changed_first p f xs ≡ xs
changed_none p f xs none = changed-found p f (λ x. x) xs (λ x found. absurd cc) ∙ changed-nothing p xs

module _ (u : DomainState) where
  -- the best of the queue of the endpoint of a name is gone
  received_by : (ends : Ends u) (at : Local) (o : Option Endpoint) → live_at u at ≡ o → changed_all u (at_live o (λ e. best_gone e.address ∷ [])) ≡ with_received u at
  received_by ends at None live = ap (λ es. record u { endpoints = es }) (sym (changed-position (is_at at) received u.endpoints ∙ changed_none (is_at at) received u.endpoints live))
  received_by ends at (Some e) live =
      ap (λ es. record u { endpoints = es }) ((by_address at u.endpoints e ends.apart live).changes received ∙ sym (changed-position (is_at at) received u.endpoints))

  requested_by : (ends : Ends u) (at : Local) (max : ℕ) (e : Endpoint) → live_at u at ≡ Some e →
      changed_all u (best_gone e.address ∷ request_added (message_at e.local max) (option_map has_item (best_item e)) ∷ []) ≡ with_request (with_received u at) (message_at at max) (option_map has_item (best (λ i. i.priority) (queue_at u at)))
  requested_by ends at max e live =
      let own = named_so at e (found-passes (is_at at) u.endpoints e live) in
      let queue : queue_at u at ≡ e.queue = ap queue_in (at-live u at ∙ live) in
      ap₂ (λ l q. with_request (changed u (best_gone e.address)) (message_at l max) (option_map has_item (best (λ (i : Item). i.priority) q))) own (sym queue)
      ∙ ap (λ s. with_request s (message_at at max) (option_map has_item (best (λ (i : Item). i.priority) (queue_at u at)))) (received_by ends at (Some e) live)

  deleted_by : (ends : Ends u) (at : Local) (e : Endpoint) → live_at u at ≡ Some e →
      changed_all u (waiting_ended e.address EndpInvalid ∷ endpoint_gone e.address ∷ end_announced (record { local = e.local; address = e.address; create = false }) ∷ []) ≡ without_endpoint u at (unwrap_or (address_at u at) 0)
  deleted_by ends at e live =
      let own = named_so at e (found-passes (is_at at) u.endpoints e live) in
      let by = by_address at u.endpoints e ends.apart live in
      let address : unwrap_or (address_at u at) 0 ≡ e.address = ap (λ (o : Option Endpoint). unwrap_or (option_map (λ (d : Endpoint). d.address) o) 0) (at-live u at ∙ live) in
      ap₂ (λ es o. with_announced (record u { endpoints = es; ended = with_rising e.address u.ended; requests = ended_in o EndpInvalid u.requests }) (record { local = e.local; address = e.address; create = false }))
      (by.gone ∙ sym (without-position (is_at at) u.endpoints)) by.found
      ∙ ap₂ (λ l a. with_announced (record u { endpoints = without (place_at u at) u.endpoints; ended = with_rising a u.ended; requests = map (ended_by_word EndpInvalid l) u.requests }) (record { local = l; address = a; create = false })) own (sym address)

  pub raw-agrees : (node to : ℕ) (bytes : List ℕ) → with_used u to ≡ changed_all u (success_changes u node (raw_to to bytes))
  raw-agrees node to bytes = ap (λ ps. record u { peers = ps }) (changed-position (is_numbered to) used_one u.peers)

  pub create-agrees : (at : Local) → with_endpoint u at ≡ changed_all u (success_changes u at.node (create_at at.port))
  create-agrees at = refl

  pub receive-agrees : Ends u → (at : Local) (max : ℕ) → with_received u at ≡ changed_all u (success_changes u at.node (receive_at at.port max))
  receive-agrees ends at max = sym (received_by ends at (live_at u at) refl)

  pub request-agrees : Ends u → (at : Local) (max i : ℕ) → place_at u at ≡ Some i → with_request (with_received u at) (message_at at max) (option_map has_item (best_queued u at)) ≡ changed_all u (success_changes u at.node (request_at at.port max))
  request-agrees ends at max i there =
      let e = there_at u at i there in
      sym (ap (λ o. changed_all u (at_live o (λ e. best_gone e.address ∷ request_added (message_at e.local max) (option_map has_item (best_item e)) ∷ []))) e.1 ∙ requested_by ends at max e.0 e.1)

  pub delete-agrees : Ends u → (at : Local) (i : ℕ) → place_at u at ≡ Some i → without_endpoint u at (unwrap_or (address_at u at) 0) ≡ changed_all u (success_changes u at.node (delete_at at.port))
  delete-agrees ends at i there =
      let e = there_at u at i there in
      sym (ap (λ o. changed_all u (at_live o (λ e. waiting_ended e.address EndpInvalid ∷ endpoint_gone e.address ∷ end_announced (record { local = e.local; address = e.address; create = false }) ∷ []))) e.1 ∙ deleted_by ends at e.0 e.1)

-- ---- what is returned

pub returned-agrees : (u : DomainState) (node : ℕ) (call : DomainCall) → success_returns u node call ≡ success_returned u node call
returned-agrees u node (delete_at port) = ap queue_in (at-live u (local node port)) ∙ go (live_at u (local node port))
  where
    go : (o : Option Endpoint) → queue_in o ≡ at_live o (λ e. e.queue)
    go None = refl
    go (Some e) = refl
returned-agrees u node (receive_at port max) = ap (λ o. option_to_list (best (λ (i : Item). i.priority) (queue_in o))) (at-live u (local node port)) ∙ go (live_at u (local node port))
  where
    go : (o : Option Endpoint) → option_to_list (best (λ (i : Item). i.priority) (queue_in o)) ≡ at_live o (λ e. option_to_list (best_item e))
    go None = refl
    go (Some e) = refl
returned-agrees u node (scalar_at port bits) = ap (λ o. option_to_list (oldest (queue_in o))) (at-live u (local node port)) ∙ go (live_at u (local node port))
  where
    go : (o : Option Endpoint) → option_to_list (oldest (queue_in o)) ≡ at_live o (λ e. option_to_list (oldest e.queue))
    go None = refl
    go (Some e) = refl
returned-agrees u node (release_of place) = refl
returned-agrees u node (close_at port Receiver) = ap queue_in (at-live u (local node port)) ∙ go (live_at u (local node port))
  where
    go : (o : Option Endpoint) → queue_in o ≡ at_live o (λ e. e.queue)
    go None = refl
    go (Some e) = refl
returned-agrees u node (close_at port Sender) = refl
returned-agrees u node (test_of place) = refl
returned-agrees u node (wait_for places says_place) = refl
returned-agrees u node other = refl
