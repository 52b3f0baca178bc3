-- What a call answers, puts and does in a state whose frames have other names is as in the state.
use Rattle.mc_base.specs.Pieces.{frames_needed}
use Rattle.std.proofs.Common.{◌≡◌, ℕ, ◌+◌, true, false, not, ◌||◌, cond, List, [], ◌∷◌, map, length, Option, Some, None, refl, sym, ap, ap₂, ◌∙◌, ◌&&◌, Bool}
use Rattle.std.specs.Prelude.{nat_le, option_map, ◌==◌, is_some, unwrap_or, option_and_then, nat_lt, ◌||◌}
use Rattle.std.proofs.lemmas.List.{length-map}
use Rattle.mc_base.specs.Limits.{record_limit, request_limit, item_size}
use Rattle.mc_base.specs.Letter.{PlainLetter, msg, connect, packet, scalar}
use Rattle.mc_base.specs.declared.name.Local.{Local}
use Rattle.mc_base.specs.declared.name.EndName.{EndName}
use Rattle.mc_base.specs.declared.channel.Bits.{Bits}
use Rattle.mc_base.specs.declared.channel.Side.{Side}
use Rattle.mc_base.specs.declared.channel.Side.TheVariants.{Sender, Receiver}
use Rattle.mc_base.specs.declared.refusal.Refusal.{Refusal}
use Rattle.mc_base.specs.declared.refusal.Refusal.TheVariants.{ExistsAlready, EndpLimit, EndpInvalid, PeerInvalid, OnChannel, ChanConnected, EndpBusy, NotConnected, ChanDirection, ChanType, ChanClosed, AlreadyOpen, NotOpen, SclSize, BufInvalid, NoBuffer, Empty, RequestLimit, RequestInvalid, Pending, TooLate, Timeout, LinkInvalid, MsgSize, PktSize}
use Rattle.std.specs.List.{list_all, list_any, flat_map}
use Rattle.board_model.specs.State.{Item, ChannelEnd, Endpoint, Outcome, has_address, is_accepted, is_rejected, has_item, has_ended, Asked, name_of, channel_of, message_at, packet_at, Request, DomainState, is_at, live_at, endpoint_at, address_at, channel_in, queue_in, queue_at, request_at_place, packet_at_place, peer_of}
use Rattle.board_model.specs.Renamed.{renamed, renamed_end, renamed_item, renamed_outcome, renamed_packet, renamed_request}
use Rattle.board_model.specs.Choice.{best, oldest}
use Rattle.board_model.specs.DomainCall.{DomainCall, create_at, delete_at, lookup_of, send_from, receive_at, request_at, available_at, connect_from, open_at, packet_from, lend_at, packet_request_at, release_of, scalar_from, scalar_at, close_at, test_of, wait_for, cancel_of, raw_to, turn_alone}
use Rattle.board_model.specs.Journal.{tells, completes}
use Rattle.board_model.specs.Answer.{first_complete, local, here, known_address, address_of, has_channel, named, end_call, holds_at_end, channel_at, post, puts_of, over_channel, over_end, opening_letter, closing_letter, request_named, is_complete, packet_named, is_of_other_size, success_posts, success_puts, lacks_buffers, holds, words_of, refusal, lent_whole, value_of, given, result_by, result_of, success, answer_by, answer, unless_refused, puts, is_complete_at, stands_at, lacks_request, lacks_complete, lacks_lane, place_said, passes_lane, content_size}
use Rattle.board_model.specs.Change.{Change, endpoint_gone, best_gone, oldest_gone, channel_set, request_added, waiting_ended, request_gone, end_announced, buffers_used, channel_given}
use Rattle.board_model.specs.ChannelEnds.{connecting_end, opened_end}
use Rattle.board_model.specs.CallChanges.{at_live, at_channel, at_end, new_sender, closing, lending, lent_by, lent_by_test, best_item, success_changes, call_changes, tested}
use Rattle.board_model.proofs.MessageLists.{get-position}
use Rattle.board_model.proofs.ListsMapped.{is_some-map, option-map-map, get-mapped, find-alike, best-mapped, position-alike}
use Rattle.board_model.proofs.RenamedChanges.{live-renamed, place-renamed, one_waits-renamed, renamed_change}

pub at-live : (s : DomainState) (at : Local) → endpoint_at s at ≡ live_at s at
at-live s at = get-position (is_at at) s.endpoints

module _ (names : ℕ → ℕ → ℕ) where
  -- ---- endpoints

  end_renamed : (s : DomainState) (at : Local) → endpoint_at (renamed names s) at ≡ option_map (renamed_end names) (endpoint_at s at)
  end_renamed s at = at-live (renamed names s) at ∙ (live-renamed names s at ∙ ap (option_map (renamed_end names)) (sym (at-live s at)))

  address_renamed : (s : DomainState) (at : Local) → address_at (renamed names s) at ≡ address_at s at
  address_renamed s at = ap (option_map (λ e. e.address)) (end_renamed s at) ∙ option-map-map (λ e. e.address) (renamed_end names) (endpoint_at s at)

  queue_renamed_in : (o : Option Endpoint) → queue_in (option_map (renamed_end names) o) ≡ map (renamed_item names) (queue_in o)
  queue_renamed_in None = refl
  queue_renamed_in (Some e) = refl

  pub queue-renamed : (s : DomainState) (at : Local) → queue_at (renamed names s) at ≡ map (renamed_item names) (queue_at s at)
  queue-renamed s at = ap queue_in (end_renamed s at) ∙ queue_renamed_in (endpoint_at s at)

  queue_length : (s : DomainState) (at : Local) → length (queue_at (renamed names s) at) ≡ length (queue_at s at)
  queue_length s at = ap (λ q. length q) (queue-renamed s at) ∙ length-map (queue_at s at) (renamed_item names)

  address_of_renamed : (s : DomainState) (n : EndName) → address_of (renamed names s) n ≡ address_of s n
  address_of_renamed s n = ap (λ o. cond (n.domain == s.number) o (known_address n (peer_of s n.domain))) (address_renamed s (local n.node n.port))

  channel_renamed : (o : Option Endpoint) → has_channel (option_map (renamed_end names) o) ≡ has_channel o
  channel_renamed None = refl
  channel_renamed (Some e) = refl

  -- ---- their channels

  has_renamed : (o : Option Endpoint) → channel_in (option_map (renamed_end names) o) ≡ channel_in o
  has_renamed None = refl
  has_renamed (Some e) = refl

  pub channel-renamed : (s : DomainState) (at : Local) → channel_at (renamed names s) at ≡ channel_at s at
  channel-renamed s at = ap channel_in (live-renamed names s at) ∙ has_renamed (live_at s at)

  over_renamed : (o : Option Endpoint) (c : Option ChannelEnd) (letter : ℕ → PlainLetter) → over_channel (option_map (renamed_end names) o) c letter ≡ over_channel o c letter
  over_renamed None c letter = refl
  over_renamed (Some e) None letter = refl
  over_renamed (Some e) (Some c) letter = refl

  over_end_renamed : (s : DomainState) (at : Local) (letter : ℕ → PlainLetter) → over_end (renamed names s) at letter ≡ over_end s at letter
  over_end_renamed s at letter = ap₂ (λ o c. over_channel o c letter) (live-renamed names s at) (channel-renamed s at) ∙ over_renamed (live_at s at) (channel_at s at) letter

  -- ---- requests

  pub request-renamed : (s : DomainState) (place : Option ℕ) → request_at_place (renamed names s) place ≡ option_map (renamed_request names) (request_at_place s place)
  request-renamed s None = refl
  request-renamed s (Some i) = get-mapped (renamed_request names) s.requests i

  complete_renamed : (o : Option Request) → is_complete (option_map (renamed_request names) o) ≡ is_complete o
  complete_renamed None = refl
  complete_renamed (Some r) = is_some-map (renamed_outcome names) r.outcome

  named_renamed : (s : DomainState) (call : DomainCall) → request_named (renamed names s) call ≡ option_map (renamed_request names) (request_named s call)
  named_renamed s (test_of request) = request-renamed s request
  named_renamed s (cancel_of request) = request-renamed s request
  named_renamed s other = refl

  pub complete-renamed : (s : DomainState) (request : Option ℕ) → is_complete_at (renamed names s) request ≡ is_complete_at s request
  complete-renamed s request = ap is_complete (request-renamed s request) ∙ complete_renamed (request_at_place s request)

  pub stands-renamed : (s : DomainState) (request : Option ℕ) → stands_at (renamed names s) request ≡ stands_at s request
  stands-renamed s request = ap is_some (request-renamed s request) ∙ is_some-map (renamed_request names) (request_at_place s request)

  all_stand_renamed : (s : DomainState) (requests : List (Option ℕ)) → list_all (stands_at (renamed names s)) requests ≡ list_all (stands_at s) requests
  all_stand_renamed s [] = refl
  all_stand_renamed s (r ∷ rs) = ap₂ (λ a b. a && b) (stands-renamed s r) (all_stand_renamed s rs)

  one_complete_renamed : (s : DomainState) (requests : List (Option ℕ)) → list_any (is_complete_at (renamed names s)) requests ≡ list_any (is_complete_at s) requests
  one_complete_renamed s [] = refl
  one_complete_renamed s (r ∷ rs) = ap₂ (λ a b. a || b) (complete-renamed s r) (one_complete_renamed s rs)

  pub first-renamed : (s : DomainState) (requests : List (Option ℕ)) → first_complete (renamed names s) requests ≡ first_complete s requests
  first-renamed s requests = ap (option_and_then (λ r. r)) (find-alike (is_complete_at (renamed names s)) (is_complete_at s) (complete-renamed s) requests)

  place_said_renamed : (s : DomainState) (requests : List (Option ℕ)) (says_place : Bool) → place_said (renamed names s) requests says_place ≡ place_said s requests says_place
  place_said_renamed s requests false = refl
  place_said_renamed s requests true = ap (option_map (λ i. i + 1)) (position-alike (is_complete_at (renamed names s)) (is_complete_at s) (complete-renamed s) requests)

  lacks_request_renamed : (s : DomainState) (call : DomainCall) → lacks_request (renamed names s) call ≡ lacks_request s call
  lacks_request_renamed s (wait_for requests says_place) = ap not (all_stand_renamed s requests)
  lacks_request_renamed s (test_of request) = ap not (stands-renamed s request)
  lacks_request_renamed s (cancel_of request) = ap not (stands-renamed s request)
  lacks_request_renamed s other = refl

  lacks_complete_renamed : (s : DomainState) (call : DomainCall) → lacks_complete (renamed names s) call ≡ lacks_complete s call
  lacks_complete_renamed s (wait_for requests says_place) = ap not (one_complete_renamed s requests)
  lacks_complete_renamed s other = refl

  lacks_lane_renamed : (s : DomainState) (call : DomainCall) → lacks_lane (renamed names s) call ≡ lacks_lane s call
  lacks_lane_renamed s (raw_to to bytes) = refl
  lacks_lane_renamed s other = refl

  addressed_renamed : (s : DomainState) (call : DomainCall) → named (renamed names s) call ≡ named s call
  addressed_renamed s (send_from port to priority bytes) = address_of_renamed s to
  addressed_renamed s (connect_from port to kind) = address_of_renamed s to
  addressed_renamed s other = refl

  -- ---- lent packets

  pub packet-renamed : (s : DomainState) (place : Option ℕ) → packet_at_place (renamed names s) place ≡ option_map (renamed_packet names) (packet_at_place s place)
  packet-renamed s None = refl
  packet-renamed s (Some i) = get-mapped (renamed_packet names) s.lent i

  packet_named_renamed : (s : DomainState) (call : DomainCall) → packet_named (renamed names s) call ≡ option_map (renamed_packet names) (packet_named s call)
  packet_named_renamed s (release_of place) = packet-renamed s place
  packet_named_renamed s other = refl

  size_renamed : (call : DomainCall) (q : List Item) → is_of_other_size call (map (renamed_item names) q) ≡ is_of_other_size call q
  size_renamed (scalar_at port bits) [] = refl
  size_renamed (scalar_at port bits) (i ∷ q) = refl
  size_renamed other q = refl

  -- ---- words of refusal

  pub posts-renamed : (s : DomainState) (node : ℕ) (call : DomainCall) → success_posts (renamed names s) node call ≡ success_posts s node call
  posts-renamed s node (send_from port to priority bytes) =
      ap₂ (λ from at. post to.domain (unwrap_or from 0) (unwrap_or at 0) (msg priority bytes) ∷ []) (address_renamed s (local node port)) (address_of_renamed s to)
  posts-renamed s node (connect_from port to kind) =
      ap₂ (λ from at. post to.domain (unwrap_or from 0) (unwrap_or at 0) (connect (s.channels_given + 1) kind) ∷ []) (address_renamed s (local node port)) (address_of_renamed s to)
  posts-renamed s node (open_at port side kind) = over_end_renamed s (local node port) (opening_letter side)
  posts-renamed s node (packet_from port bytes) = over_end_renamed s (local node port) (λ number. packet number bytes)
  posts-renamed s node (scalar_from port bits value) = over_end_renamed s (local node port) (λ number. scalar number bits value)
  posts-renamed s node (close_at port side) = over_end_renamed s (local node port) (closing_letter side)
  posts-renamed s node other = refl

  success_puts_renamed : (s : DomainState) (node : ℕ) (call : DomainCall) → success_puts (renamed names s) node call ≡ success_puts s node call
  success_puts_renamed s node (raw_to to bytes) = refl
  success_puts_renamed s node other = ap (flat_map puts_of) (posts-renamed s node other)

  lacks_renamed : (s : DomainState) (ps : List (ℕ × List ℕ)) → lacks_buffers (renamed names s) ps ≡ lacks_buffers s ps
  lacks_renamed s [] = refl
  lacks_renamed s (p ∷ ps) = refl

  passes_renamed : (s : DomainState) (ps : List (ℕ × List ℕ)) → passes_lane (renamed names s) ps ≡ passes_lane s ps
  passes_renamed s [] = refl
  passes_renamed s (p ∷ ps) = refl

  module _ (s : DomainState) (node : ℕ) (call : DomainCall) where
    size_refused : (nat_lt item_size (content_size call) || passes_lane (renamed names s) (success_puts (renamed names s) node call)) ≡ (nat_lt item_size (content_size call) || passes_lane s (success_puts s node call))
    size_refused = ap (λ b. nat_lt item_size (content_size call) || b) (ap (passes_lane (renamed names s)) (success_puts_renamed s node call) ∙ passes_renamed s (success_puts s node call))

    at_end_renamed : (word : Refusal) → holds_at_end (end_call (length (queue_at (renamed names s) (here node call))) call) (channel_at (renamed names s) (here node call)) word ≡ holds_at_end (end_call (length (queue_at s (here node call))) call) (channel_at s (here node call)) word
    at_end_renamed word = ap₂ (λ n c. holds_at_end (end_call n call) c word) (queue_length s (here node call)) (channel-renamed s (here node call))

    holds_renamed : (word : Refusal) → holds (renamed names s) node call word ≡ holds s node call word
    holds_renamed ExistsAlready = ap is_some (place-renamed names s (here node call))
    holds_renamed EndpLimit = ap (λ n. nat_le record_limit (n + length s.ended)) (length-map s.endpoints (renamed_end names))
    holds_renamed EndpInvalid = ap (λ o. not (is_some o)) (place-renamed names s (here node call))
    holds_renamed PeerInvalid = ap (λ o. not (is_some o)) (addressed_renamed s call)
    holds_renamed OnChannel = ap has_channel (end_renamed s (here node call)) ∙ channel_renamed (endpoint_at s (here node call))
    holds_renamed ChanConnected = ap has_channel (end_renamed s (here node call)) ∙ channel_renamed (endpoint_at s (here node call))
    holds_renamed EndpBusy = ap₂ (λ n b. not (n == 0) || b) (queue_length s (here node call)) (one_waits-renamed names s (here node call))
    holds_renamed NotConnected = at_end_renamed NotConnected
    holds_renamed ChanDirection = at_end_renamed ChanDirection
    holds_renamed ChanType = at_end_renamed ChanType
    holds_renamed ChanClosed = at_end_renamed ChanClosed
    holds_renamed AlreadyOpen = at_end_renamed AlreadyOpen
    holds_renamed NotOpen = at_end_renamed NotOpen
    holds_renamed MsgSize = size_refused
    holds_renamed PktSize = size_refused
    holds_renamed SclSize = ap (is_of_other_size call) (queue-renamed s (here node call)) ∙ size_renamed call (queue_at s (here node call))
    holds_renamed BufInvalid = ap (λ o. not (is_some o)) (packet_named_renamed s call) ∙ ap not (is_some-map (renamed_packet names) (packet_named s call))
    holds_renamed NoBuffer = ap (lacks_buffers (renamed names s)) (success_puts_renamed s node call) ∙ lacks_renamed s (success_puts s node call)
    holds_renamed Empty = ap (λ n. n == 0) (queue_length s (here node call))
    holds_renamed RequestLimit = ap (λ n. nat_le request_limit n) (length-map s.requests (renamed_request names))
    holds_renamed RequestInvalid = lacks_request_renamed s call
    holds_renamed Timeout = lacks_complete_renamed s call
    holds_renamed LinkInvalid = lacks_lane_renamed s call
    holds_renamed Pending = ap (λ o. not (is_complete o)) (named_renamed s call) ∙ ap not (complete_renamed (request_named s call))
    holds_renamed TooLate = ap is_complete (named_renamed s call) ∙ complete_renamed (request_named s call)
    holds_renamed other = refl

    pub refusal-renamed : refusal (renamed names s) node call ≡ refusal s node call
    refusal-renamed = find-alike (holds (renamed names s) node call) (holds s node call) holds_renamed (words_of call)

    pub puts-renamed : puts (renamed names s) node call ≡ puts s node call
    puts-renamed = ap₂ (λ o ps. unless_refused o [] ps) refusal-renamed (success_puts_renamed s node call)

  -- ---- answers

  result_renamed : (asked : Asked) (o : Option Outcome) → result_by asked (option_map (renamed_outcome names) o) ≡ result_by asked o
  result_renamed asked None = refl
  result_renamed asked (Some (has_address a)) = refl
  result_renamed asked (Some is_accepted) = refl
  result_renamed asked (Some (is_rejected reason)) = refl
  result_renamed asked (Some (has_item i)) = refl
  result_renamed asked (Some (has_ended word)) = refl

  result_of_renamed : (o : Option Request) → result_of (option_map (renamed_request names) o) ≡ result_of o
  result_of_renamed None = refl
  result_of_renamed (Some r) = result_renamed r.asked r.outcome

  given_renamed : (max : ℕ) (o : Option Item) → given max (option_map (renamed_item names) o) ≡ given max o
  given_renamed max None = refl
  given_renamed max (Some i) = refl

  whole_renamed : (q : List Item) → lent_whole (oldest (map (renamed_item names) q)) ≡ lent_whole (oldest q)
  whole_renamed [] = refl
  whole_renamed (i ∷ q) = refl

  value_renamed : (bits : Bits) (q : List Item) → value_of bits (oldest (map (renamed_item names) q)) ≡ value_of bits (oldest q)
  value_renamed bits [] = refl
  value_renamed bits (i ∷ q) = refl

  pub oldest-renamed : (q : List Item) → oldest (map (renamed_item names) q) ≡ option_map (renamed_item names) (oldest q)
  oldest-renamed [] = refl
  oldest-renamed (i ∷ q) = refl

  pub best-renamed : (q : List Item) → best (λ (i : Item). i.priority) (map (renamed_item names) q) ≡ option_map (renamed_item names) (best (λ i. i.priority) q)
  best-renamed q = best-mapped (renamed_item names) (λ i. i.priority) (λ i. refl) q

  module _ (s : DomainState) (node : ℕ) where
    success_renamed : (call : DomainCall) → success (renamed names s) node call ≡ success s node call
    success_renamed (create_at port) = refl
    success_renamed (delete_at port) = ap tells (queue_length s (local node port))
    success_renamed (lookup_of name) = refl
    success_renamed (send_from port to priority bytes) = refl
    success_renamed (receive_at port max) =
        ap (λ q. given max (best (λ (i : Item). i.priority) q)) (queue-renamed s (local node port))
        ∙ (ap (given max) (best-renamed (queue_at s (local node port))) ∙ given_renamed max (best (λ i. i.priority) (queue_at s (local node port))))
    success_renamed (request_at port max) = refl
    success_renamed (available_at port) = ap tells (queue_length s (local node port))
    success_renamed (connect_from port to kind) = refl
    success_renamed (open_at port side kind) = refl
    success_renamed (packet_from port bytes) = refl
    success_renamed (lend_at port) = ap (λ q. lent_whole (oldest q)) (queue-renamed s (local node port)) ∙ whole_renamed (queue_at s (local node port))
    success_renamed (packet_request_at port) = refl
    success_renamed (release_of place) = refl
    success_renamed (scalar_from port bits value) = refl
    success_renamed (scalar_at port bits) = ap (λ q. value_of bits (oldest q)) (queue-renamed s (local node port)) ∙ value_renamed bits (queue_at s (local node port))
    success_renamed (close_at port Sender) = refl
    success_renamed (close_at port Receiver) = ap tells (queue_length s (local node port))
    success_renamed (test_of request) = ap (λ o. completes None (result_of o)) (request-renamed s request) ∙ ap (completes None) (result_of_renamed (request_at_place s request))
    success_renamed (wait_for requests says_place) =
        ap₂ (λ o p. completes o (result_of (request_at_place (renamed names s) p))) (place_said_renamed s requests says_place) (first-renamed s requests)
        ∙ (ap (λ o. completes (place_said s requests says_place) (result_of o)) (request-renamed s (first_complete s requests))
        ∙ ap (completes (place_said s requests says_place)) (result_of_renamed (request_at_place s (first_complete s requests))))
    success_renamed (cancel_of request) = refl
    success_renamed (raw_to to bytes) = refl
    success_renamed turn_alone = refl

    pub answer-renamed : (call : DomainCall) → answer (renamed names s) node call ≡ answer s node call
    answer-renamed call = ap₂ (λ o a. answer_by o a) (refusal-renamed s node call) (success_renamed call)

    -- ---- what happens by success

    live_changes : (f : Endpoint → List Change) → ((e : Endpoint) → map (renamed_change names) (f e) ≡ f (renamed_end names e)) → (o : Option Endpoint) → map (renamed_change names) (at_live o f) ≡ at_live (option_map (renamed_end names) o) f
    live_changes f same None = refl
    live_changes f same (Some e) = same e

    at_renamed : (f : Endpoint → List Change) → ((e : Endpoint) → map (renamed_change names) (f e) ≡ f (renamed_end names e)) → (at : Local) → map (renamed_change names) (at_live (live_at s at) f) ≡ at_live (live_at (renamed names s) at) f
    at_renamed f same at = live_changes f same (live_at s at) ∙ ap (λ o. at_live o f) (sym (live-renamed names s at))

    end_changes : (f : Endpoint → ChannelEnd → List Change) → ((e : Endpoint) (c : ChannelEnd) → map (renamed_change names) (f e c) ≡ f (renamed_end names e) c) → (o : Option Endpoint) → map (renamed_change names) (at_end o f) ≡ at_end (option_map (renamed_end names) o) f
    end_changes f same None = refl
    end_changes f same (Some e) = go e.channel
      where
        go : (c : Option ChannelEnd) → map (renamed_change names) (at_channel c (f e)) ≡ at_channel c (f (renamed_end names e))
        go None = refl
        go (Some c) = same e c

    end_renamed_at : (f : Endpoint → ChannelEnd → List Change) → ((e : Endpoint) (c : ChannelEnd) → map (renamed_change names) (f e c) ≡ f (renamed_end names e) c) → (at : Local) → map (renamed_change names) (at_end (live_at s at) f) ≡ at_end (live_at (renamed names s) at) f
    end_renamed_at f same at = end_changes f same (live_at s at) ∙ ap (λ o. at_end o f) (sym (live-renamed names s at))

    closing_renamed : (side : Side) (e : Endpoint) (c : ChannelEnd) → map (renamed_change names) (closing side e c) ≡ closing side (renamed_end names e) c
    closing_renamed Sender e c = refl
    closing_renamed Receiver e c = refl

    item_renamed : (o : Option Item) → option_map (renamed_outcome names) (option_map has_item o) ≡ option_map has_item (option_map (renamed_item names) o)
    item_renamed None = refl
    item_renamed (Some i) = refl

    found_renamed : (o : Option ℕ) → option_map (renamed_outcome names) (option_map has_address o) ≡ option_map has_address o
    found_renamed None = refl
    found_renamed (Some a) = refl

    lending_renamed : (a : ℕ) (q : List Item) → map (renamed_change names) (oldest_gone a ∷ lending (oldest q)) ≡ oldest_gone a ∷ lending (oldest (map (renamed_item names) q))
    lending_renamed a [] = refl
    lending_renamed a (i ∷ q) = refl

    lent_renamed : (asked : Asked) (o : Option Outcome) → map (renamed_change names) (lent_by asked o) ≡ lent_by asked (option_map (renamed_outcome names) o)
    lent_renamed (packet_at at) None = refl
    lent_renamed (packet_at at) (Some (has_address a)) = refl
    lent_renamed (packet_at at) (Some is_accepted) = refl
    lent_renamed (packet_at at) (Some (is_rejected reason)) = refl
    lent_renamed (packet_at at) (Some (has_item i)) = refl
    lent_renamed (packet_at at) (Some (has_ended word)) = refl
    lent_renamed asked o = refl

    tested_renamed : (o : Option Request) → map (renamed_change names) (lent_by_test o) ≡ lent_by_test (option_map (renamed_request names) o)
    tested_renamed None = refl
    tested_renamed (Some r) = lent_renamed r.asked r.outcome

    told_renamed : (request : Option ℕ) → map (renamed_change names) (tested s request) ≡ tested (renamed names s) request
    told_renamed request = ap (λ cs. request_gone request ∷ cs) (tested_renamed (request_at_place s request) ∙ ap lent_by_test (sym (request-renamed s request)))

    changes_renamed : (call : DomainCall) → map (renamed_change names) (success_changes s node call) ≡ success_changes (renamed names s) node call
    changes_renamed (create_at port) = refl
    changes_renamed (delete_at port) =
        at_renamed (λ e. waiting_ended e.address EndpInvalid ∷ endpoint_gone e.address ∷ end_announced (record { local = e.local; address = e.address; create = false }) ∷ []) (λ e. refl) (local node port)
    changes_renamed (lookup_of name) =
        ap (λ o. request_added (name_of name) o ∷ []) (found_renamed (address_of s name) ∙ ap (option_map has_address) (sym (address_of_renamed s name)))
    changes_renamed (send_from port to priority bytes) = refl
    changes_renamed (receive_at port max) = at_renamed (λ e. best_gone e.address ∷ []) (λ e. refl) (local node port)
    changes_renamed (request_at port max) =
        at_renamed (λ e. best_gone e.address ∷ request_added (message_at e.local max) (option_map has_item (best_item e)) ∷ [])
        (λ e. ap (λ o. best_gone e.address ∷ request_added (message_at e.local max) o ∷ []) (item_renamed (best_item e) ∙ ap (option_map has_item) (sym (best-renamed e.queue)))) (local node port)
    changes_renamed (available_at port) = refl
    changes_renamed (connect_from port to kind) =
        at_renamed (λ e. buffers_used to.domain 1 ∷ channel_set e.address (Some (new_sender s to kind)) ∷ request_added (channel_of (s.channels_given + 1)) None ∷ channel_given ∷ []) (λ e. refl) (local node port)
        ∙ ap (λ (a : Option ℕ). at_live (live_at (renamed names s) (local node port)) (λ e. buffers_used to.domain 1 ∷ channel_set e.address (Some (connecting_end kind s.number (s.channels_given + 1) to.domain (unwrap_or a 0))) ∷ request_added (channel_of (s.channels_given + 1)) None ∷ channel_given ∷ [])) (sym (address_of_renamed s to))
    changes_renamed (open_at port side kind) = end_renamed_at (λ e c. buffers_used c.peer 1 ∷ channel_set e.address (Some (opened_end c)) ∷ []) (λ e c. refl) (local node port)
    changes_renamed (packet_from port bytes) = end_renamed_at (λ e c. buffers_used c.peer (frames_needed (packet c.number bytes)) ∷ []) (λ e c. refl) (local node port)
    changes_renamed (lend_at port) = at_renamed (λ e. oldest_gone e.address ∷ lending (oldest e.queue)) (λ e. lending_renamed e.address e.queue) (local node port)
    changes_renamed (packet_request_at port) =
        at_renamed (λ e. oldest_gone e.address ∷ request_added (packet_at e.local) (option_map has_item (oldest e.queue)) ∷ [])
        (λ e. ap (λ o. oldest_gone e.address ∷ request_added (packet_at e.local) o ∷ []) (item_renamed (oldest e.queue) ∙ ap (option_map has_item) (sym (oldest-renamed e.queue)))) (local node port)
    changes_renamed (release_of place) = refl
    changes_renamed (scalar_from port bits value) = end_renamed_at (λ e c. buffers_used c.peer 1 ∷ []) (λ e c. refl) (local node port)
    changes_renamed (scalar_at port bits) = at_renamed (λ e. oldest_gone e.address ∷ []) (λ e. refl) (local node port)
    changes_renamed (close_at port side) = end_renamed_at (closing side) (closing_renamed side) (local node port)
    changes_renamed (test_of request) = told_renamed request
    changes_renamed (wait_for requests says_place) = told_renamed (first_complete s requests) ∙ ap (tested (renamed names s)) (sym (first-renamed s requests))
    changes_renamed (cancel_of request) = refl
    changes_renamed (raw_to to bytes) = refl
    changes_renamed turn_alone = refl

    pub call-renamed : (call : DomainCall) → map (renamed_change names) (call_changes s node call) ≡ call_changes (renamed names s) node call
    call-renamed call = go (refusal s node call) ∙ ap₂ (λ o cs. unless_refused o [] cs) (sym (refusal-renamed s node call)) (changes_renamed call)
      where
        go : (o : Option Refusal) → map (renamed_change names) (unless_refused o [] (success_changes s node call)) ≡ unless_refused o [] (map (renamed_change names) (success_changes s node call))
        go None = refl
        go (Some word) = refl
