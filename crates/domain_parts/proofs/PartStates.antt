-- Open parts that begin, grow, or are whole: what the state of a domain is then.
use Rattle.std.proofs.Common.{◌≡◌, ℕ, ◌+◌, ◌-◌, ◌≤◌, Bool, true, false, cond, List, [], ◌∷◌, ◌++◌, map, drop, take, Option, Some, None, refl, sym, ap, ap₂, ◌∙◌, subst, ne_eqb, eq-eqb, append-nil, append_assoc}
use Rattle.std.specs.Prelude.{filter, find, not, option_map, position, slice_get, ◌==◌}
use Rattle.std.proofs.lemmas.List.{map-append}
use Rattle.std.proofs.lemmas.List.Elements.{filter-append}
use Rattle.mc_base.specs.Frame.{source_of}
use Rattle.mc_base.specs.Limits.{item_size}
use Rattle.mc_base.specs.Stored.{Stored}
use Rattle.mc_base.specs.declared.request.RequestId.{RequestId}
use Rattle.mc_base.specs.declared.request.Slot.{Slot}
use Rattle.lane_end.specs.Numbers.{AreApart}
use Rattle.lane_end.specs.ReceiveMoves.{Took}
use Rattle.board_model.specs.Change as change
use Rattle.board_model.specs.Change.{changed, changed_all, frame_taken, held_as, item_handed, item_queued}
use Rattle.board_model.specs.Lists as lists
use Rattle.board_model.specs.Lists.{changed_at, changed_first}
use Rattle.board_model.specs.State as state
use Rattle.board_model.specs.State.{DomainState, HeldFrame, LentPacket, Part, endpoint_of, has_address_of, holds_from, is_numbered}
use Rattle.board_model.proofs.MessageLists.{changed-position}
use Rattle.buffer_book.specs.Book.{Book, kept_in_buffer, with_queued}
use Rattle.message_queue.specs.Queue.{Waiting, waiting}
use Rattle.request_set.specs.declared.ask.Ask.{Ask}
use Rattle.request_set.specs.declared.ask.Complete.{Complete}
use Rattle.request_set.specs.Requests.{IsPending, Requests, is_id, with_complete}
use Rattle.domain_parts.specs.declared.parts.OpenPart.{OpenPart}
use Rattle.domain_parts.specs.declared.peer.Peer.{Peer}
use Rattle.domain_parts.specs.InBook.{Whole, channel_of, content_in, endpoints_in, frames_at, item_read, numbered_at, open_parts, packets_in, part_by, part_read, priority_in, priority_of, request_in, requests_in, whole_at}
use Rattle.domain_parts.specs.InPlaces.{slot_at}
use Rattle.domain_parts.specs.InRequests.{handed_by}
use Rattle.domain_parts.specs.LaneMoves.{LaneMove, receiver}
use Rattle.domain_parts.specs.LaneSeen.{LaneSeen, after_moves}
use Rattle.domain_parts.specs.Parts.{Parts, Sound, parts_read, plain, state_of}
use Rattle.domain_parts.specs.Peers.{held_in, is_read_of, part_from, peer_in, peers_in}
use Rattle.domain_parts.specs.Pieces.{carrier_channel, carrier_of, carrier_priority, part_with}
use Rattle.domain_parts.specs.PlacedFrames.{complete_with, queued_last}
use Rattle.domain_parts.specs.Records.{Records, is_part_of, part_open, with_part, with_part_open, with_waiting_at, without_part, without_part_of}
use Rattle.domain_parts.specs.Steps.{at_peer, done, moved_peer, part_begun, part_grown, part_handed, part_queued}
use Rattle.domain_parts.specs.Table.{PartRead}
use Rattle.domain_parts.specs.Verdicts.{item_with}
use Rattle.domain_parts.proofs.Books.{Others}
use Rattle.domain_parts.proofs.Handed.{packets-stay, requests-stay}
use Rattle.domain_parts.proofs.Joining.{join-content, join-frames_at, join-reads}
use Rattle.domain_parts.proofs.OpenParts.{parts-stay}
use Rattle.domain_parts.proofs.PartLists.{gone-found, held-without, none-gone, none-here, other-found, read-found}
use Rattle.domain_parts.proofs.PartPlaces.{HasPiece, begun-handed, begun-here, begun-lent, begun-open, begun-rest, begun-waiting, begun_book, grown, grown-apart, grown-handed, grown-item, grown-lent, grown-others, grown-own, grown-stand, grown-waiting, grown-was, grown_book}
use Rattle.domain_parts.proofs.PeersAt.{changed-place}
use Rattle.domain_parts.proofs.Queuing.{content-in_buffer, handed-item}
use Rattle.domain_parts.proofs.Receives.{complete-at, complete_now, map-changed}
use Rattle.domain_parts.proofs.Stepping.{quiet-peers, set-is-map}
use Rattle.domain_parts.proofs.Waits.{endpoints-more, endpoints-stay}

-- ---- one more part is read

read-last : (xs : List PartRead) (y : PartRead) (n : ℕ) → part_from xs n ≡ None → (y.peer == n) ≡ true → part_from (xs ++ y ∷ []) n ≡ Some y.part
read-last [] y n none own = ap (λ (c : Bool). option_map (λ (z : PartRead). z.part) (cond c (Some y) None)) own
read-last (x ∷ xs) y n none own = go (x.peer == n) none (λ e. read-last xs y n e own)
  where
    go : (c : Bool) → option_map (λ (z : PartRead). z.part) (cond c (Some x) (find (is_read_of n) xs)) ≡ None → (part_from xs n ≡ None → part_from (xs ++ y ∷ []) n ≡ Some y.part)
        → option_map (λ (z : PartRead). z.part) (cond c (Some x) (find (is_read_of n) (xs ++ y ∷ []))) ≡ Some y.part
    go true e later = absurd cc
    go false e later = later e

read-before : (xs : List PartRead) (y : PartRead) (n : ℕ) → (y.peer == n) ≡ false → part_from (xs ++ y ∷ []) n ≡ part_from xs n
read-before [] y n other = ap (λ (c : Bool). option_map (λ (z : PartRead). z.part) (cond c (Some y) None)) other
read-before (x ∷ xs) y n other = go (x.peer == n) (read-before xs y n other)
  where
    go : (c : Bool) → part_from (xs ++ y ∷ []) n ≡ part_from xs n
        → option_map (λ (z : PartRead). z.part) (cond c (Some x) (find (is_read_of n) (xs ++ y ∷ []))) ≡ option_map (λ (z : PartRead). z.part) (cond c (Some x) (find (is_read_of n) xs))
    go true rest = refl
    go false rest = rest

held-last : (xs : List PartRead) (y : PartRead) → held_in (xs ++ y ∷ []) ≡ held_in xs ++ map (held_as y.peer) y.names
held-last [] y = append-nil (map (held_as y.peer) y.names)
held-last (x ∷ xs) y = ap (λ (hs : List HeldFrame). map (held_as x.peer) x.names ++ hs) (held-last xs y) ∙ sym (append_assoc (map (held_as x.peer) x.names) (held_in xs) (map (held_as y.peer) y.names))

-- ---- a frame is taken, and this part is open after it

module _ (p : Parts) (sound : Sound p) (i : ℕ) (x : Peer LaneSeen) (there : slice_get p.peers i ≡ Some x) (number : ℕ) (frame : List ℕ) (b : Book) (o : OpenPart) (own : o.slot.peer ≡ x.number)
    (stay : open_parts b (without_part x.number p.records.parts) ≡ open_parts p.book (without_part x.number p.records.parts)) where
  abbrev n : ℕ
  n = x.number

  abbrev left : List PartRead
  left = open_parts p.book (without_part n p.records.parts)

  abbrev new : PartRead
  new = part_read b o

  abbrev ms : List LaneMove
  ms = receiver (Took number frame) ∷ []

  abbrev now_peers : List (Peer LaneSeen)
  now_peers = map (moved_peer (at_peer n ms)) p.peers

  abbrev taken_by : state.Peer → state.Peer
  taken_by y = record y { shown = y.shown - 1; part = Some new.part }

  parts-now : open_parts b (with_part o p.records.parts) ≡ left ++ new ∷ []
  parts-now = map-append (part_read b) (without_part o.slot.peer p.records.parts) (o ∷ []) ∙ ap (λ (k : ℕ). open_parts b (without_part k p.records.parts) ++ new ∷ []) own ∙ ap (λ (xs : List PartRead). xs ++ new ∷ []) stay

  none-left : part_from left n ≡ None
  none-left = read-found p.book n (without_part n p.records.parts) ∙ ap (option_map (λ (z : OpenPart). (part_read p.book z).part)) (gone-found n p.records.parts)

  others-left : (m : ℕ) → (m ≡ n → ⊥) → part_from left m ≡ part_from (parts_read p) m
  others-left m differ = read-found p.book m (without_part n p.records.parts) ∙ ap (option_map (λ (z : OpenPart). (part_read p.book z).part)) (other-found n m differ p.records.parts) ∙ sym (read-found p.book m p.records.parts)

  peers-now : peers_in plain (left ++ new ∷ []) p.table now_peers ≡ changed_first (is_numbered n) taken_by (peers_in plain (parts_read p) p.table p.peers)
  peers-now =
      let x' = record x { ends = after_moves ms x.ends } in
      ap (peers_in plain (left ++ new ∷ []) p.table) (sym (set-is-map n ms p.peers i x sound.peers.rising there refl))
      ∙ sym (changed-place plain (parts_read p) (left ++ new ∷ []) p.table p.table taken_by i p.peers x x' sound.peers.rising there
      (ap (λ (q : Option Part). record (peer_in plain (parts_read p) p.table x) { shown = x.ends.shown - 1; part = q }) (sym (read-last left new n none-left (eq-eqb o.slot.peer n own))))
      (λ z differs. ap (λ (q : Option Part). record (peer_in plain (parts_read p) p.table z) { part = q }) (sym (read-before left new z.number (ne_eqb o.slot.peer z.number (λ same. differs (sym same ∙ own))) ∙ others-left z.number differs))))

  held-now : held_in (left ++ new ∷ []) ≡ filter (λ h. not (holds_from n h)) (held_in (parts_read p)) ++ map (held_as n) new.names
  held-now =
      held-last left new
      ∙ ap (λ (hs : List HeldFrame). hs ++ map (held_as o.slot.peer) new.names) (held-without p.book n p.records.parts)
      ∙ ap (λ (k : ℕ). filter (λ h. not (holds_from n h)) (held_in (parts_read p)) ++ map (held_as k) new.names) own

  pub taken-open : endpoints_in b p.records.endpoints ≡ endpoints_in p.book p.records.endpoints → requests_in b p.requests.standing ≡ requests_in p.book p.requests.standing → packets_in b p.records.lent ≡ packets_in p.book p.records.lent → b.lends ≡ p.book.lends
      → state_of (record { book = b; records = record p.records { parts = with_part o p.records.parts }; requests = p.requests; table = p.table; peers = now_peers }) ≡ changed (state_of p) (frame_taken n (Some new.part) new.names)
  taken-open endpoints requests packets lends =
      let now : Parts = record { book = b; records = record p.records { parts = with_part o p.records.parts }; requests = p.requests; table = p.table; peers = now_peers } in
      let peers = changed_first (is_numbered n) taken_by (peers_in plain (parts_read p) p.table p.peers) in
      ap (λ (k : ℕ). record (state_of now) { packets_lent = k }) lends
      ∙ ap (λ (es : List state.Endpoint). record (state_of now) { packets_lent = p.book.lends; endpoints = es }) endpoints
      ∙ ap (λ (rs : List state.Request). record (state_of now) { packets_lent = p.book.lends; endpoints = (state_of p).endpoints; requests = rs }) requests
      ∙ ap (λ (ls : List LentPacket). record (state_of p) { peers = (state_of now).peers; held = (state_of now).held; lent = ls }) packets
      ∙ ap (λ (os : List PartRead). record (state_of p) { peers = peers_in plain os p.table now_peers; held = held_in os }) parts-now
      ∙ ap (λ (xs : List state.Peer). record (state_of p) { peers = xs; held = held_in (left ++ new ∷ []) }) peers-now
      ∙ ap (λ (hs : List HeldFrame). record (state_of p) { peers = peers; held = hs }) held-now

-- ---- a frame is taken, and no part is open after it

-- what was left is left where a part of the same peer comes and goes
pub gone-again : (n : ℕ) (os : List OpenPart) (o : OpenPart) → o.slot.peer ≡ n → without_part n (without_part n os ++ o ∷ []) ≡ without_part n os
gone-again n os o own =
    filter-append (λ z. not (is_part_of n z)) (without_part n os) (o ∷ [])
    ∙ ap₂ (λ (xs ys : List OpenPart). xs ++ ys) (none-gone n (without_part n os) (gone-found n os)) (ap (λ (c : Bool). cond (not c) (o ∷ []) []) (eq-eqb o.slot.peer n own))
    ∙ append-nil (without_part n os)

module _ (p : Parts) (sound : Sound p) (i : ℕ) (x : Peer LaneSeen) (there : slice_get p.peers i ≡ Some x) (number : ℕ) (frame : List ℕ) (b : Book) (r : Records) (q : Requests)
    (stay : open_parts b r.parts ≡ open_parts p.book (without_part x.number p.records.parts)) where
  abbrev m : ℕ
  m = x.number

  abbrev kept_open : List PartRead
  kept_open = open_parts p.book (without_part m p.records.parts)

  abbrev took : List LaneMove
  took = receiver (Took number frame) ∷ []

  abbrev then_peers : List (Peer LaneSeen)
  then_peers = map (moved_peer (at_peer m took)) p.peers

  abbrev shut_by : state.Peer → state.Peer
  shut_by y = record y { shown = y.shown - 1; part = None }

  none-kept : part_from kept_open m ≡ None
  none-kept = read-found p.book m (without_part m p.records.parts) ∙ ap (option_map (λ (z : OpenPart). (part_read p.book z).part)) (gone-found m p.records.parts)

  others-kept : (k : ℕ) → (k ≡ m → ⊥) → part_from kept_open k ≡ part_from (parts_read p) k
  others-kept k differ = read-found p.book k (without_part m p.records.parts) ∙ ap (option_map (λ (z : OpenPart). (part_read p.book z).part)) (other-found m k differ p.records.parts) ∙ sym (read-found p.book k p.records.parts)

  peers-then : peers_in plain kept_open p.table then_peers ≡ changed_first (is_numbered m) shut_by (peers_in plain (parts_read p) p.table p.peers)
  peers-then =
      let x' = record x { ends = after_moves took x.ends } in
      ap (peers_in plain kept_open p.table) (sym (set-is-map m took p.peers i x sound.peers.rising there refl))
      ∙ sym (changed-place plain (parts_read p) kept_open p.table p.table shut_by i p.peers x x' sound.peers.rising there
      (ap (λ (o : Option Part). record (peer_in plain (parts_read p) p.table x) { shown = x.ends.shown - 1; part = o }) (sym none-kept))
      (λ z differs. ap (λ (o : Option Part). record (peer_in plain (parts_read p) p.table z) { part = o }) (sym (others-kept z.number differs))))

  held-then : held_in kept_open ≡ filter (λ h. not (holds_from m h)) (held_in (parts_read p)) ++ []
  held-then = held-without p.book m p.records.parts ∙ sym (append-nil (filter (λ h. not (holds_from m h)) (held_in (parts_read p))))

  pub taken-shut : q.given ≡ p.requests.given → r.channels ≡ p.records.channels → packets_in b r.lent ≡ packets_in p.book p.records.lent → b.lends ≡ p.book.lends
      → state_of (record { book = b; records = r; requests = q; table = p.table; peers = then_peers }) ≡ record (changed (state_of p) (frame_taken m None [])) { endpoints = endpoints_in b r.endpoints; requests = requests_in b q.standing }
  taken-shut given channels packets lends =
      let now : Parts = record { book = b; records = r; requests = q; table = p.table; peers = then_peers } in
      let peers = changed_first (is_numbered m) shut_by (peers_in plain (parts_read p) p.table p.peers) in
      let made : List LentPacket → List state.Peer → List HeldFrame → DomainState = λ ls ps hs. record (state_of p) { endpoints = endpoints_in b r.endpoints; requests = requests_in b q.standing; lent = ls; peers = ps; held = hs } in
      ap (λ (k : ℕ). record (state_of now) { packets_lent = k }) lends
      ∙ ap (λ (k : ℕ). record (state_of now) { packets_lent = p.book.lends; channels_given = k }) channels
      ∙ ap (λ (k : ℕ). record (state_of now) { packets_lent = p.book.lends; channels_given = p.records.channels; requests_given = k }) given
      ∙ ap (λ (ls : List LentPacket). made ls (state_of now).peers (state_of now).held) packets
      ∙ ap (λ (os : List PartRead). made (state_of p).lent (peers_in plain os p.table then_peers) (held_in os)) stay
      ∙ ap (λ (ps : List state.Peer). made (state_of p).lent ps (held_in kept_open)) peers-then
      ∙ ap (λ (hs : List HeldFrame). made (state_of p).lent peers hs) held-then

-- ---- the bytes of a piece lie behind 28 bytes of headers

module _ (p : Parts) (sound : Sound p) (i : ℕ) (x : Peer LaneSeen) (there : slice_get p.peers i ≡ Some x) (buffer : Stored) (len : ℕ) (apart : AreApart x.ends.size_from (x.ends.out ++ buffer.number ∷ [])) where
  abbrev the_frame : List ℕ
  the_frame = take len buffer.bytes

  -- ---- a part begins

  module _ (o : OpenPart) (slot : o.slot ≡ slot_at x.number buffer.number) (closed : part_open p.records x.number ≡ None) (has : HasPiece buffer len o.size)
      (source : source_of the_frame ≡ o.source) (priority : priority_of the_frame ≡ carrier_priority (carrier_of o)) (channel : channel_of the_frame ≡ carrier_channel (carrier_of o)) (within : o.size ≤ o.total) (most : o.total ≤ item_size) (bytes : List ℕ) (is : bytes ≡ take o.size (drop 28 the_frame)) where
    abbrev b2 : Book
    b2 = begun_book p sound i x there buffer len apart o slot closed has source priority channel within most

    abbrev own_slot : Slot
    own_slot = slot_at x.number buffer.number

    none-others : without_part x.number p.records.parts ≡ p.records.parts
    none-others = none-gone x.number p.records.parts closed

    rest : Others p.book b2 own_slot
    rest = begun-rest p sound i x there buffer len apart o slot closed has source priority channel within most

    first-stay : open_parts b2 (without_part x.number p.records.parts) ≡ open_parts p.book (without_part x.number p.records.parts)
    first-stay =
        subst (λ (os : List OpenPart). open_parts b2 os ≡ open_parts p.book os) (sym none-others)
        (parts-stay p.book b2 own_slot rest p.records.parts (begun-open p sound i x there buffer len apart o slot closed has source priority channel within most))

    read-first : part_read b2 o ≡ record { peer = o.slot.peer; part = part_with o bytes; names = buffer.number ∷ [] }
    read-first =
        ap (λ (s : Slot). part_by (whole_at b2 s) o) slot
        ∙ ap (λ (w : Option Whole). part_by w o) (begun-here p sound i x there buffer len apart o slot closed has source priority channel within most)
        ∙ ap (λ (xs : List ℕ). record { peer = o.slot.peer; part = part_with o xs; names = buffer.number ∷ [] }) (append-nil (take o.size (drop 28 buffer.bytes)) ∙ sym (content-in_buffer buffer.bytes len 28 o.size has.inside) ∙ sym is)

    pub part_begun-is : state_of (done (part_begun o buffer len) p) ≡ changed (state_of p) (frame_taken x.number (Some (part_with o bytes)) (buffer.number ∷ []))
    part_begun-is =
        let own : o.slot.peer ≡ x.number = ap (λ (s : Slot). s.peer) slot in
        ap (λ (s : Slot). state_of (record { book = with_queued p.book s (kept_in_buffer buffer 28 o.size); records = with_part_open p.records o; requests = p.requests; table = p.table; peers = map (moved_peer (at_peer s.peer (receiver (Took buffer.number the_frame) ∷ []))) p.peers })) slot
        ∙ taken-open p sound i x there buffer.number the_frame b2 o own first-stay
        (endpoints-stay p.book b2 own_slot rest p.records.endpoints (begun-waiting p sound i x there buffer len apart o slot closed has source priority channel within most))
        (requests-stay p.book b2 own_slot rest p.requests.standing (begun-handed p sound i x there buffer len apart o slot closed has source priority channel within most))
        (packets-stay p.book b2 own_slot rest p.records.lent (begun-lent p sound i x there buffer len apart o slot closed has source priority channel within most))
        refl
        ∙ ap (λ (z : PartRead). changed (state_of p) (frame_taken x.number (Some z.part) z.names)) read-first

  -- ---- a part grows

  module _ (o : OpenPart) (found : part_open p.records x.number ≡ Some o) (size : ℕ) (has : HasPiece buffer len size) (within : o.size + size ≤ o.total) (bytes : List ℕ) (is : bytes ≡ take size (drop 28 the_frame)) where
    abbrev g : OpenPart
    g = grown p sound i x there buffer len apart o found size has within

    abbrev b3 : Book
    b3 = grown_book p sound i x there buffer len apart o found size has within

    abbrev p3 : Parts
    p3 = done (part_grown g buffer len size) p

    abbrev whole_bytes : List ℕ
    whole_bytes = content_in (whole_at p.book o.slot) ++ bytes

    abbrev whole_names : List ℕ
    whole_names = frames_at p.book o.slot ++ buffer.number ∷ []

    own : o.slot.peer ≡ x.number
    own = grown-own p sound i x there buffer len apart o found size has within

    others : Others p.book b3 o.slot
    others = grown-others p sound i x there buffer len apart o found size has within

    grown-stay : open_parts b3 (without_part x.number p.records.parts) ≡ open_parts p.book (without_part x.number p.records.parts)
    grown-stay =
        subst (λ (n : ℕ). open_parts b3 (without_part n p.records.parts) ≡ open_parts p.book (without_part n p.records.parts)) own
        (parts-stay p.book b3 o.slot others (without_part o.slot.peer p.records.parts) (none-here o.slot p.records.parts))

    content-is : content_in (whole_at b3 o.slot) ≡ whole_bytes
    content-is =
        let item = grown-item p sound i x there buffer len apart o found size has within in
        join-content _ _ p.book (grown-stand p sound i x there buffer len apart o found size has within) o.slot item.0 item.1 item.2 (kept_in_buffer buffer 28 size) (grown-apart p sound i x there buffer len apart o found size has within)
        ∙ ap (λ (xs : List ℕ). content_in (whole_at p.book o.slot) ++ xs) (sym (content-in_buffer buffer.bytes len 28 size has.inside) ∙ sym is)

    names-are : frames_at b3 o.slot ≡ whole_names
    names-are =
        let item = grown-item p sound i x there buffer len apart o found size has within in
        join-frames_at _ _ p.book (grown-stand p sound i x there buffer len apart o found size has within) o.slot item.0 item.1 item.2 (kept_in_buffer buffer 28 size) (grown-apart p sound i x there buffer len apart o found size has within)

    endpoints-are : endpoints_in b3 p.records.endpoints ≡ endpoints_in p.book p.records.endpoints
    endpoints-are = endpoints-stay p.book b3 o.slot others p.records.endpoints (grown-waiting p sound i x there buffer len apart o found size has within)

    requests-are : requests_in b3 p.requests.standing ≡ requests_in p.book p.requests.standing
    requests-are = requests-stay p.book b3 o.slot others p.requests.standing (grown-handed p sound i x there buffer len apart o found size has within)

    packets-are : packets_in b3 p.records.lent ≡ packets_in p.book p.records.lent
    packets-are = packets-stay p.book b3 o.slot others p.records.lent (grown-lent p sound i x there buffer len apart o found size has within)

    pub part_grown-is : state_of p3 ≡ changed (state_of p) (frame_taken x.number (Some (part_with g whole_bytes)) whole_names)
    part_grown-is =
        ap (λ (n : ℕ). state_of (record { book = b3; records = with_part_open p.records g; requests = p.requests; table = p.table; peers = map (moved_peer (at_peer n (receiver (Took buffer.number the_frame) ∷ []))) p.peers })) own
        ∙ taken-open p sound i x there buffer.number the_frame b3 g own grown-stay endpoints-are requests-are packets-are refl
        ∙ ap₂ (λ (xs ns : List ℕ). changed (state_of p) (frame_taken x.number (Some (part_with g xs)) ns)) content-is names-are

    -- ---- it is whole, and goes to a queue or a request

    abbrev whole_item : ℕ → state.Item
    whole_item priority = item_with whole_names x.number o.source priority (carrier_channel (carrier_of o)) whole_bytes

    item-read : (priority : ℕ) → item_read (whole_at b3 o.slot) o.slot priority ≡ whole_item priority
    item-read priority =
        let item = grown-item p sound i x there buffer len apart o found size has within in
        let was = grown-was p sound i x there buffer len apart o found size has within in
        let reads = join-reads _ _ p.book (grown-stand p sound i x there buffer len apart o found size has within) o.slot item.0 item.1 item.2 (kept_in_buffer buffer 28 size) (grown-apart p sound i x there buffer len apart o found size has within) in
        ap (λ (n : ℕ). record (item_read (whole_at b3 o.slot) o.slot priority) { peer = n }) own
        ∙ ap (λ (n : ℕ). record (item_read (whole_at b3 o.slot) o.slot priority) { peer = x.number; source = n }) (reads.0 ∙ was.source)
        ∙ ap (λ (k : Option ℕ). record (item_read (whole_at b3 o.slot) o.slot priority) { peer = x.number; source = o.source; channel = k }) (reads.2 ∙ was.channel)
        ∙ ap₂ (λ (xs ns : List ℕ). item_with ns x.number o.source priority (carrier_channel (carrier_of o)) xs) content-is names-are

    left-stay : open_parts b3 (without_part o.slot.peer (with_part g p.records.parts)) ≡ open_parts p.book (without_part x.number p.records.parts)
    left-stay = ap (open_parts b3) (gone-again o.slot.peer p.records.parts g refl ∙ ap (λ (n : ℕ). without_part n p.records.parts) own) ∙ grown-stay

    grown-peers : map (moved_peer (λ k. [])) p3.peers ≡ map (moved_peer (at_peer x.number (receiver (Took buffer.number the_frame) ∷ []))) p.peers
    grown-peers = quiet-peers p3.peers ∙ ap (λ (n : ℕ). map (moved_peer (at_peer n (receiver (Took buffer.number the_frame) ∷ []))) p.peers) own

    module _ (j priority destination : ℕ) (at : position (has_address_of destination) (endpoints_in p.book p.records.endpoints) ≡ Some j) where
      abbrev w : Waiting
      w = waiting o.slot priority

      pub part_queued-is : state_of (done (part_queued o.slot j priority) p3) ≡ changed_all (state_of p) (frame_taken x.number None [] ∷ item_queued destination (whole_item priority) ∷ [])
      part_queued-is =
          let r' = with_waiting_at (without_part_of p3.records o.slot.peer) j w in
          let shut = changed (state_of p) (frame_taken x.number None []) in
          ap (λ (ps : List (Peer LaneSeen)). state_of (record { book = b3; records = r'; requests = p.requests; table = p.table; peers = ps })) grown-peers
          ∙ taken-shut p sound i x there buffer.number the_frame b3 r' p.requests left-stay refl refl packets-are refl
          ∙ ap₂ (λ es rs. record shut { endpoints = es; requests = rs })
          (endpoints-more b3 w p.records.endpoints j
          ∙ ap₂ (λ z es. changed_at (queued_last z) j es) (item-read priority) endpoints-are
          ∙ ap (λ (k : Option ℕ). lists.changed (queued_last (whole_item priority)) k (endpoints_in p.book p.records.endpoints)) (sym at)
          ∙ changed-position (has_address_of destination) (queued_last (whole_item priority)) (endpoints_in p.book p.records.endpoints))
          requests-are

    module _ (id : RequestId) (a : Ask) (destination : ℕ) (e : state.Endpoint) (pending : IsPending p.requests id) (named : endpoint_of (state_of p) destination ≡ Some e) (waits : position (state.waits_at e.local) (state_of p).requests ≡ position (is_id id) p.requests.standing) where
      abbrev how : Complete
      how = handed_by a o.slot

      abbrev own_priority : ℕ
      own_priority = carrier_priority (carrier_of o)

      priority-is : priority_in (whole_at b3 o.slot) ≡ own_priority
      priority-is =
          let item = grown-item p sound i x there buffer len apart o found size has within in
          let was = grown-was p sound i x there buffer len apart o found size has within in
          let reads = join-reads _ _ p.book (grown-stand p sound i x there buffer len apart o found size has within) o.slot item.0 item.1 item.2 (kept_in_buffer buffer 28 size) (grown-apart p sound i x there buffer len apart o found size has within) in
          reads.1 ∙ was.priority

      item-numbered : numbered_at b3 o.slot ≡ whole_item own_priority
      item-numbered = ap (item_read (whole_at b3 o.slot) o.slot) priority-is ∙ item-read own_priority

      pub part_handed-is : state_of (done (part_handed o.slot id a) p3) ≡ changed_all (state_of p) (frame_taken x.number None [] ∷ item_handed destination (whole_item own_priority) ∷ [])
      part_handed-is =
          let r' = without_part_of p3.records o.slot.peer in
          let q' = with_complete p.requests id how in
          let shut = changed (state_of p) (frame_taken x.number None []) in
          let place = position (is_id id) p.requests.standing in
          ap (λ (ps : List (Peer LaneSeen)). state_of (record { book = b3; records = r'; requests = q'; table = p.table; peers = ps })) grown-peers
          ∙ taken-shut p sound i x there buffer.number the_frame b3 r' q' left-stay refl refl packets-are refl
          ∙ ap₂ (λ es rs. record shut { endpoints = es; requests = rs })
          endpoints-are
          (ap (requests_in b3) (complete-at id how p.requests.standing sound.receives.differ)
          ∙ map-changed (request_in b3) (complete_now how) (complete_with (numbered_at b3 o.slot)) (λ z. ap (λ (k : state.Outcome). record (request_in b3 z) { outcome = Some k }) (handed-item b3 a o.slot)) place p.requests.standing
          ∙ ap₂ (λ z rs. lists.changed (complete_with z) place rs) item-numbered requests-are
          ∙ ap (λ (k : Option ℕ). lists.changed (complete_with (whole_item own_priority)) k (state_of p).requests) (sym waits)
          ∙ changed-position (state.waits_at e.local) (complete_with (whole_item own_priority)) (state_of p).requests
          ∙ ap (λ (k : Option state.Endpoint). change.handed_in k (whole_item own_priority) (state_of p).requests) (sym named))
