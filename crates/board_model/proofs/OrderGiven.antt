-- How many requests a deed gives.
use Rattle.board_model.specs.Parts.{came_from, said_from}
use Rattle.mc_base.specs.Letter.{packet}
use Rattle.mc_base.specs.Pieces.{frames_needed}
use Rattle.std.proofs.Common.{◌≡◌, ℕ, ◌+◌, ◌≤◌, false, List, [], ◌∷◌, Option, Some, None, option_map, sym, subst, arith}
use Rattle.mc_base.specs.declared.fate.Fate.{Fate}
use Rattle.mc_base.specs.declared.channel.Side.{Side}
use Rattle.mc_base.specs.declared.channel.Side.TheVariants.{Sender, Receiver}
use Rattle.mc_base.specs.declared.refusal.Refusal.{Refusal}
use Rattle.mc_base.specs.declared.refusal.Refusal.TheVariants.{EndpInvalid}
use Rattle.board_model.specs.DomainCall.{DomainCall, create_at, delete_at, lookup_of, send_from, receive_at, request_at, available_at, connect_from, open_at, packet_from, lend_at, packet_request_at, release_of, scalar_from, scalar_at, close_at, test_of, wait_for, cancel_of, raw_to, turn_alone}
use Rattle.board_model.specs.Journal.{PlainAnswer}
use Rattle.board_model.specs.Choice.{oldest}
use Rattle.board_model.specs.State.{Item, ChannelEnd, Endpoint, channel_of, message_at, packet_at, has_item, DomainState, live_at, request_at_place}
use Rattle.board_model.specs.Answer.{first_complete, local, refusal, success, answer, answer_by, unless_refused}
use Rattle.board_model.specs.Change.{Change, end_announced, best_gone, oldest_gone, channel_set, request_added, endpoint_gone, waiting_ended, buffers_used, channel_given}
use Rattle.board_model.specs.ChannelEnds.{opened_end}
use Rattle.board_model.specs.CallChanges.{at_live, at_channel, at_end, best_item, new_sender, closing, lending, lent_by_test, success_changes, call_changes}
use Rattle.board_model.specs.TakenFrames.{row_from}
use Rattle.board_model.specs.Deeds.{Deed, takes, calls, happens_by}
use Rattle.board_model.proofs.DeedRuns.{count_taken}
use Rattle.board_model.proofs.StateEnds.{tested-are}
use Rattle.board_model.proofs.OrderChannels.{row_does}
use Rattle.board_model.proofs.OrderDeeds.{Does}
use Rattle.board_model.proofs.OrderSerials.{given_by_all, succeeds}
use Rattle.board_model.proofs.OrderMoments.{Moment, takes_does, named_last}
use Rattle.board_model.proofs.OrderEffects.{test_given}

-- ---- how many requests a deed gives

pub takes_given : (room : ℕ) (before : List Deed) (s : DomainState) (peer : ℕ) (name : Option ℕ) (frame : List ℕ) (word : Fate) → Moment room before s → (row_from s peer name frame).word ≡ word → name ≡ Some (count_taken peer before) →
    Does room before s (takes peer name frame word) × (given_by_all (happens_by s (takes peer name frame word)) ≤ 0)
takes_given room before s peer name frame word moment is named =
    let none : given_by_all (row_from s peer name frame).happens ≡ 0 = (row_does before s moment.sound moment.serials.differ peer (came_from s peer name frame) (named_last before s peer name frame named) (said_from s peer frame)).gives_none in
    (takes_does room before s peer name frame word moment is named, omega (arith, none))

live_given : (o : Option Endpoint) (f : Endpoint → List Change) (n : ℕ) → ((e : Endpoint) → given_by_all (f e) ≤ n) → given_by_all (at_live o f) ≤ n
live_given None f n each = omega arith
live_given (Some e) f n each = each e

end_given : (o : Option Endpoint) (f : Endpoint → ChannelEnd → List Change) → ((e : Endpoint) (c : ChannelEnd) → given_by_all (f e c) ≤ 0) → given_by_all (at_end o f) ≤ 0
end_given None f each = omega arith
end_given (Some e) f each = go e.channel
  where
    go : (c : Option ChannelEnd) → given_by_all (at_channel c (f e)) ≤ 0
    go None = omega arith
    go (Some c) = each e c

closing_given : (side : Side) (e : Endpoint) (c : ChannelEnd) → given_by_all (closing side e c) ≤ 0
closing_given Sender e c = omega arith
closing_given Receiver e c = omega arith

zero_less : {n m : ℕ} → n ≤ 0 → n ≤ m
zero_less le = omega arith

success_given : (s : DomainState) (node : ℕ) (call : DomainCall) → given_by_all (success_changes s node call) ≤ succeeds (calls node call (success s node call))
success_given s node (create_at port) = omega arith
success_given s node (delete_at port) = live_given (live_at s (local node port)) (λ e. waiting_ended e.address EndpInvalid ∷ endpoint_gone e.address ∷ end_announced (record { local = e.local; address = e.address; create = false }) ∷ []) 1 (λ e. omega arith)
success_given s node (lookup_of name) = omega arith
success_given s node (send_from port to priority bytes) = omega arith
success_given s node (receive_at port max) = zero_less (live_given (live_at s (local node port)) (λ e. best_gone e.address ∷ []) 0 (λ e. omega arith))
success_given s node (request_at port max) = live_given (live_at s (local node port)) (λ e. best_gone e.address ∷ request_added (message_at e.local max) (option_map has_item (best_item e)) ∷ []) 1 (λ e. omega arith)
success_given s node (available_at port) = omega arith
success_given s node (connect_from port to kind) = live_given (live_at s (local node port)) (λ e. buffers_used to.domain 1 ∷ channel_set e.address (Some (new_sender s to kind)) ∷ request_added (channel_of (s.channels_given + 1)) None ∷ channel_given ∷ []) 1 (λ e. omega arith)
success_given s node (open_at port side kind) = zero_less (end_given (live_at s (local node port)) (λ e c. buffers_used c.peer 1 ∷ channel_set e.address (Some (opened_end c)) ∷ []) (λ e c. omega arith))
success_given s node (packet_from port bytes) = zero_less (end_given (live_at s (local node port)) (λ e c. buffers_used c.peer (frames_needed (packet c.number bytes)) ∷ []) (λ e c. omega arith))
success_given s node (lend_at port) = zero_less (live_given (live_at s (local node port)) (λ e. oldest_gone e.address ∷ lending (oldest e.queue)) 0 (λ e. lends_given e.address (oldest e.queue)))
  where
    lends_given : (a : ℕ) (o : Option Item) → given_by_all (oldest_gone a ∷ lending o) ≤ 0
    lends_given a None = omega arith
    lends_given a (Some i) = omega arith
success_given s node (packet_request_at port) = live_given (live_at s (local node port)) (λ e. oldest_gone e.address ∷ request_added (packet_at e.local) (option_map has_item (oldest e.queue)) ∷ []) 1 (λ e. omega arith)
success_given s node (release_of place) = omega arith
success_given s node (scalar_from port bits value) = zero_less (end_given (live_at s (local node port)) (λ e c. buffers_used c.peer 1 ∷ []) (λ e c. omega arith))
success_given s node (scalar_at port bits) = zero_less (live_given (live_at s (local node port)) (λ e. oldest_gone e.address ∷ []) 0 (λ e. omega arith))
success_given s node (close_at port side) = zero_less (end_given (live_at s (local node port)) (closing side) (closing_given side))
success_given s node (test_of place) = omega (arith, test_given (lent_by_test (request_at_place s place)) (tested-are (request_at_place s place)))
success_given s node (wait_for requests says_place) = omega (arith, test_given (lent_by_test (request_at_place s (first_complete s requests))) (tested-are (request_at_place s (first_complete s requests))))
success_given s node (cancel_of place) = omega arith
success_given s node (raw_to to bytes) = omega arith
success_given s node turn_alone = omega arith

pub call_given : (s : DomainState) (node : ℕ) (call : DomainCall) (a : PlainAnswer) → a ≡ answer s node call → given_by_all (call_changes s node call) ≤ succeeds (calls node call a)
call_given s node call a is = subst (λ x. given_by_all (call_changes s node call) ≤ succeeds (calls node call x)) (sym is) (go (refusal s node call))
  where
    go : (o : Option Refusal) → given_by_all (unless_refused o [] (success_changes s node call)) ≤ succeeds (calls node call (answer_by o (success s node call)))
    go None = success_given s node call
    go (Some w) = omega arith
