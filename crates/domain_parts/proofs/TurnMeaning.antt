-- What the steps of a turn mean for the state: each is the changes of a deed.
use Rattle.domain_parts.proofs.Filters.{filter-every}
use Rattle.buffer_book.specs.Book.{Book}
use Rattle.std.proofs.Common.{◌≡◌, ℕ, zero, suc, ◌+◌, ◌-◌, ◌<◌, ◌≤◌, true, false, cond, List, [], ◌∷◌, ◌++◌, length, map, drop, take, Option, Some, None, refl, sym, ap, ◌∙◌, arith}
use Rattle.std.specs.Prelude.{filter, find, option_map, position, slice_get, slice_set, ◌==◌, not}
use Rattle.std.specs.List.{list_any}
use Rattle.std.proofs.lemmas.List.{drop-map, length-map, map_push, append-nil}
use Rattle.mc_base.specs.NameMap.{Names}
use Rattle.mc_base.specs.Stored.{Stored}
use Rattle.mc_base.specs.declared.name.EndName.{EndName}
use Rattle.mc_base.specs.declared.request.RequestId.{RequestId}
use Rattle.board_model.specs.Change.{changed, changed_all, first_put, buffers_back, frame_taken, frames_shown, item_handed, item_queued, name_found, names_known}
use Rattle.board_model.specs.Change as change
use Rattle.domain_parts.specs.PlacedFrames.{complete_with, queued_last}
use Rattle.board_model.specs.Lists.{changed_at, changed_first}
use Rattle.board_model.specs.Lists as lists
use Rattle.board_model.specs.State as state
use Rattle.board_model.specs.State.{Announcement, endpoint_of, has_address_of, is_numbered, is_owed_end, HeldFrame, Part, holds_from}
use Rattle.board_model.proofs.MessageLists.{changed-position}
use Rattle.lane_end.specs.Numbers.{AreApart}
use Rattle.lane_end.specs.ReceiveMoves.{Gave, Took}
use Rattle.lane_end.specs.ReceiveMoves as receiving
use Rattle.lane_end.specs.SendMoves.{Looked, Sent}
use Rattle.endpoint_table.specs.declared.announced.Announced.{Announced}
use Rattle.endpoint_table.specs.Table.{Owing, Table, owes_gone, owing_to, paid_to, is_in_use}
use Rattle.request_set.specs.Requests.{IsPending, is_id}
use Rattle.packet_channel.specs.End.{end_of}
use Rattle.packet_channel.specs.declared.channel.Channel.{Channel}
use Rattle.request_set.specs.declared.ask.Ask.{Ask}
use Rattle.request_set.specs.declared.ask.Complete.{Complete}
use Rattle.mc_base.specs.declared.name.Local.{Local}
use Rattle.mc_base.specs.declared.refusal.Refusal.{Refusal}
use Rattle.domain_parts.specs.declared.endpoints.Endpoint.{Endpoint}
use Rattle.domain_parts.specs.declared.replies.Reply.{Reply}
use Rattle.domain_parts.specs.PlacedCalls.{ended_by_word}
use Rattle.domain_parts.specs.Records.{with_end, part_open}
use Rattle.domain_parts.specs.declared.peer.Peer.{Peer}
use Rattle.domain_parts.specs.AllMoved.{numbers_of}
use Rattle.domain_parts.specs.InBook.{endpoint_in, endpoints_in, outcome_in, priority_of, open_parts, part_read}
use Rattle.domain_parts.specs.LaneMoves.{LaneMove, receiver, sender}
use Rattle.domain_parts.specs.LaneSeen.{LaneSeen, after_moves}
use Rattle.domain_parts.specs.Owed.{owed_by}
use Rattle.domain_parts.specs.Parts.{Parts, Sound, plain, state_of, parts_read}
use Rattle.domain_parts.specs.Peers.{announcement_in, ended_in, peer_in, peers_in, reply_in, held_in, part_from}
use Rattle.domain_parts.specs.Steps.{at_peer, changed_peer, channel_given, channel_set, connect_settled, done, frame_handed, frame_queued, frame_returned, looked_ahead, looked_back, moved_peer, name_told, names_told, owed_put, receives_ended, reply_owed, reply_put, with_names, with_reply, with_reply_put}
use Rattle.domain_parts.specs.Verdicts.{framed_item}
use Rattle.domain_parts.specs.InPlaces.{slot_at}
use Rattle.domain_parts.specs.Table as held
use Rattle.domain_parts.proofs.ChangedPeers.{changed-same, set-changed}
use Rattle.domain_parts.proofs.Completing.{requests-ended, requests-found, requests-settled}
use Rattle.domain_parts.proofs.PaidTables.{filter-same, ended-left, owed-other, owed-own, paid-is, told-peers, told_times, with_owing}
use Rattle.domain_parts.proofs.PeersAt.{any-owed, changed-place, ends_at, numbers-set, owed-ends}
use Rattle.domain_parts.proofs.Queuing.{handed-table, queued-table}
use Rattle.domain_parts.proofs.Stepping.{quiet-peers, set-is-map}
use Rattle.domain_parts.proofs.TurnSteps.{but-one}
use Rattle.mc_base.specs.Limits.{item_size}
use Rattle.domain_parts.specs.declared.parts.OpenPart.{OpenPart}
use Rattle.domain_parts.specs.Table.{PartRead}
use Rattle.domain_parts.proofs.PartLists.{held-without, none-gone, read-found}

not_none : {X : Type 0} (xs : List X) → 0 < length xs → (length xs == 0) ≡ false
not_none [] some = absurd (omega (arith, some))
not_none (x ∷ xs) some = grind arith

module _ (p : Parts) (sound : Sound p) (i : ℕ) (x : Peer LaneSeen) (there : slice_get p.peers i ≡ Some x) where
  -- moves at the peer at a place change it alone
  one_changed : (ms : List LaneMove) (f : state.Peer → state.Peer) → f (peer_in plain (parts_read p) p.table x) ≡ peer_in plain (parts_read p) p.table (record x { ends = after_moves ms x.ends })
      → peers_in plain (parts_read p) p.table (map (moved_peer (at_peer x.number ms)) p.peers) ≡ changed_first (is_numbered x.number) f (peers_in plain (parts_read p) p.table p.peers)
  one_changed ms f is =
      let x' = record x { ends = after_moves ms x.ends } in
      ap (peers_in plain (parts_read p) p.table) (sym (set-is-map x.number ms p.peers i x sound.peers.rising there refl))
      ∙ sym (changed-place plain (parts_read p) (parts_read p) p.table p.table f i p.peers x x' sound.peers.rising there is (λ z differs. refl))

  abbrev with_all : List state.Peer → state.DomainState
  with_all ps = record (state_of p) { peers = ps }

  pub looked_back-is : (count : ℕ) → state_of (done (looked_back x.number count) p) ≡ changed (state_of p) (buffers_back x.number count)
  looked_back-is count = ap with_all (one_changed (sender (Looked count) ∷ []) (λ y. record y { free = y.free + count }) refl)

  pub looked_ahead-is : (count : ℕ) → state_of (done (looked_ahead x.number count) p) ≡ changed (state_of p) (frames_shown x.number count)
  looked_ahead-is count = ap with_all (one_changed (receiver (receiving.Looked count) ∷ []) (λ y. record y { shown = count }) refl)

  -- no part of the peer is open, and none of its frames is held
  module _ (closed : part_open p.records x.number ≡ None) where
    none-open : part_from (parts_read p) x.number ≡ None
    none-open = read-found p.book x.number p.records.parts ∙ ap (option_map (λ (o : OpenPart). (part_read p.book o).part)) closed

    pub none-held : held_in (parts_read p) ≡ filter (λ h. not (holds_from x.number h)) (held_in (parts_read p)) ++ []
    none-held = ap (λ (os : List OpenPart). held_in (open_parts p.book os)) (sym (none-gone x.number p.records.parts closed)) ∙ held-without p.book x.number p.records.parts ∙ sym (append-nil (filter (λ h. not (holds_from x.number h)) (held_in (parts_read p))))

    -- a frame fewer is shown
    pub shown-fewer : (ms : List LaneMove) → (after_moves ms x.ends).size_from ≡ x.ends.size_from → (after_moves ms x.ends).free ≡ x.ends.free → (after_moves ms x.ends).shown ≡ x.ends.shown - 1
        → peers_in plain (parts_read p) p.table (map (moved_peer (at_peer x.number ms)) p.peers) ≡ changed_first (is_numbered x.number) (λ y. record y { shown = y.shown - 1; part = None }) (peers_in plain (parts_read p) p.table p.peers)
    shown-fewer ms size free shown =
        let was = peer_in plain (parts_read p) p.table x in
        one_changed ms (λ y. record y { shown = y.shown - 1; part = None })
        (ap (λ (o : Option Part). record was { shown = x.ends.shown - 1; part = o }) (sym none-open)
        ∙ ap (λ (k : ℕ). record was { shown = k }) (sym shown)
        ∙ ap (λ (k : ℕ). record was { shown = (after_moves ms x.ends).shown; free = k }) (sym free)
        ∙ ap (λ (k : ℕ). record was { shown = (after_moves ms x.ends).shown; free = (after_moves ms x.ends).free; size = k }) (sym size))

    pub frame_returned-is : (n : ℕ) (frame : List ℕ) → state_of (done (frame_returned x.number n frame) p) ≡ changed (state_of p) (frame_taken x.number None [])
    frame_returned-is n frame =
        ap with_all (shown-fewer (receiver (Took n frame) ∷ receiver (Gave n) ∷ []) refl refl refl)
        ∙ ap (λ (hs : List HeldFrame). record (with_all (changed_first (is_numbered x.number) (λ y. record y { shown = y.shown - 1; part = None }) (peers_in plain (parts_read p) p.table p.peers))) { held = hs }) none-held

  -- ---- the oldest announcement that is owed is put

  module _ (frame : List ℕ) where
    abbrev n : ℕ
    n = x.number

    abbrev owing : List Owing
    owing = map (told_times 1 n) p.table.owing

    abbrev paid : Table
    paid = with_owing p.table owing

    paid_so : paid_to p.table n ≡ paid
    paid_so = paid-is 1 p.table n sound.tied.used

    abbrev put : List LaneMove
    put = sender (Sent frame) ∷ []

    abbrev x' : Peer LaneSeen
    x' = record x { ends = after_moves put x.ends }

    first : (q : state.Peer) → (length q.announcements == 0) ≡ false → first_put q ≡ record q { free = q.free - 1; announcements = drop 1 q.announcements }
    first q some = ap (λ b. cond b (record q { free = q.free - 1; replies = drop 1 q.replies }) (record q { free = q.free - 1; announcements = drop 1 q.announcements })) some

    announcements_so : map announcement_in (owed_by (find (λ (o : Owing). o.peer == n) owing)) ≡ drop 1 (map announcement_in (owed_by (owing_to p.table n)))
    announcements_so = ap (map announcement_in) (owed-own 1 n p.table.owing) ∙ sym (drop-map announcement_in 1 (owed_by (owing_to p.table n)))

    peer_so : 0 < length (owed_by (owing_to p.table n)) → first_put (peer_in plain (parts_read p) p.table x) ≡ peer_in plain (parts_read p) paid x'
    peer_so some = first (peer_in plain (parts_read p) p.table x) (not_none (map announcement_in (owed_by (owing_to p.table n))) (let long = length-map (owed_by (owing_to p.table n)) announcement_in in omega (arith, long, some))) ∙ ap (λ (xs : List Announcement). record (peer_in plain (parts_read p) paid x') { announcements = xs }) (sym announcements_so)

    others_so : (z : Peer LaneSeen) → (z.number ≡ n → ⊥) → peer_in plain (parts_read p) p.table z ≡ peer_in plain (parts_read p) paid z
    others_so z differs = ap (λ (xs : List Announced). record (peer_in plain (parts_read p) p.table z) { announcements = map announcement_in xs }) (sym (owed-other 1 n z.number p.table.owing differs))

    abbrev after : List (Peer LaneSeen)
    after = slice_set p.peers i x'

    peers_so : 0 < length (owed_by (owing_to p.table n)) → changed_first (is_numbered n) first_put (peers_in plain (parts_read p) p.table p.peers) ≡ peers_in plain (parts_read p) paid after
    peers_so some = changed-place plain (parts_read p) (parts_read p) p.table paid first_put i p.peers x x' sound.peers.rising there (peer_so some) others_so

    ends_so : (a : ℕ) → is_owed_end (peers_in plain (parts_read p) paid after) a ≡ list_any (owes_gone a) owing
    ends_so a =
        owed-ends plain (parts_read p) paid a after
        ∙ ap (λ (ns : List ℕ). list_any (ends_at a owing) ns) (numbers-set i p.peers x x' there refl)
        ∙ any-owed a p.records.number (numbers_of p.peers) owing (told-peers 1 n p.table.owing ∙ sound.tied.linked) sound.peers.rising

    ended_so : ended_in paid.records ≡ filter (is_owed_end (peers_in plain (parts_read p) paid after)) (ended_in p.table.records)
    ended_so = ended-left owing p.table.records ∙ sym (filter-same (is_owed_end (peers_in plain (parts_read p) paid after)) (λ a. list_any (owes_gone a) owing) ends_so (ended_in p.table.records))

    abbrev with_both : List ℕ → List state.Peer → state.DomainState
    with_both ended ps = record (state_of p) { ended = ended; peers = ps }

    pub owed_put-is : 0 < length (owed_by (owing_to p.table x.number)) → state_of (done (owed_put x.number frame) p) ≡ changed (state_of p) (change.owed_put x.number)
    owed_put-is some =
        ap (λ (t : Table). state_of (record (done (owed_put x.number frame) p) { table = t })) paid_so
        ∙ ap (λ (ps : List (Peer LaneSeen)). with_both (ended_in paid.records) (peers_in plain (parts_read p) paid ps)) (sym (set-is-map n put p.peers i x sound.peers.rising there refl))
        ∙ ap (λ (es : List ℕ). with_both es (peers_in plain (parts_read p) paid after)) ended_so
        ∙ ap (λ (ps : List state.Peer). with_both (filter (is_owed_end ps) (ended_in p.table.records)) ps) (sym (peers_so some))

  -- ---- a change of the peer at a place

  module _ (f : Peer LaneSeen → Peer LaneSeen) (g : state.Peer → state.Peer) (is : g (peer_in plain (parts_read p) p.table x) ≡ peer_in plain (parts_read p) p.table (f x)) where
    changed_is : peers_in plain (parts_read p) p.table (map (changed_peer x.number f) p.peers) ≡ changed_first (is_numbered x.number) g (peers_in plain (parts_read p) p.table p.peers)
    changed_is =
        ap (peers_in plain (parts_read p) p.table) (sym (set-changed x.number f p.peers i x sound.peers.rising there refl))
        ∙ sym (changed-place plain (parts_read p) (parts_read p) p.table p.table g i p.peers x (f x) sound.peers.rising there is (λ z differs. refl))

  pub names_told-is : (names : Names) → state_of (done (names_told x.number names) p) ≡ changed (state_of p) (names_known x.number names)
  names_told-is names = ap with_all (changed_is (with_names names) (λ y. record y { known = names }) refl)

  pub reply_owed-is : (r : Reply) → state_of (done (reply_owed x.number r) p) ≡ changed (state_of p) (change.reply_owed x.number (reply_in r))
  reply_owed-is r = ap with_all (changed_is (with_reply r) (λ y. record y { replies = y.replies ++ reply_in r ∷ [] }) (ap (λ (rs : List state.Reply). record (peer_in plain (parts_read p) p.table x) { replies = rs }) (sym (map_push reply_in x.replies r))))

  -- ---- the oldest reply that is owed is put, where no announcement is owed

  module _ (frame : List ℕ) (none : owed_by (owing_to p.table x.number) ≡ []) where
    no_announcements : (length (map announcement_in (owed_by (owing_to p.table x.number))) == 0) ≡ true
    no_announcements = ap (λ (xs : List Announced). length (map announcement_in xs) == 0) none

    reply_so : first_put (peer_in plain (parts_read p) p.table x) ≡ peer_in plain (parts_read p) p.table (with_reply_put frame x)
    reply_so =
        let y = peer_in plain (parts_read p) p.table x in
        ap (λ b. cond b (record y { free = y.free - 1; replies = drop 1 y.replies }) (record y { free = y.free - 1; announcements = drop 1 y.announcements })) no_announcements
        ∙ ap (λ (rs : List state.Reply). record y { free = y.free - 1; replies = rs }) (drop-map reply_in 1 x.replies)

    abbrev replied : List (Peer LaneSeen)
    replied = map (changed_peer x.number (with_reply_put frame)) p.peers

    replied_so : peers_in plain (parts_read p) p.table replied ≡ changed_first (is_numbered x.number) first_put (peers_in plain (parts_read p) p.table p.peers)
    replied_so = changed_is (with_reply_put frame) first_put reply_so

    same_ends : (a : ℕ) → is_owed_end (peers_in plain (parts_read p) p.table replied) a ≡ list_any (owes_gone a) p.table.owing
    same_ends a =
        owed-ends plain (parts_read p) p.table a replied
        ∙ ap (λ (ns : List ℕ). list_any (ends_at a p.table.owing) ns) (changed-same x.number (with_reply_put frame) (λ z. z.number) (λ z. refl) p.peers)
        ∙ any-owed a p.records.number (numbers_of p.peers) p.table.owing sound.tied.linked sound.peers.rising

    same_ended : ended_in p.table.records ≡ filter (is_owed_end (peers_in plain (parts_read p) p.table replied)) (ended_in p.table.records)
    same_ended =
        ap ended_in (sym (filter-every (is_in_use p.table.owing) p.table.records sound.tied.used))
        ∙ ended-left p.table.owing p.table.records
        ∙ sym (filter-same (is_owed_end (peers_in plain (parts_read p) p.table replied)) (λ a. list_any (owes_gone a) p.table.owing) same_ends (ended_in p.table.records))

    abbrev with_ended : (List state.Peer → List ℕ) → List state.Peer → state.DomainState
    with_ended ended ps = record (state_of p) { ended = ended ps; peers = ps }

    pub reply_put-is : state_of (done (reply_put x.number frame) p) ≡ changed (state_of p) (change.owed_put x.number)
    reply_put-is =
        ap (λ (es : List ℕ). with_ended (λ k. es) (peers_in plain (parts_read p) p.table replied)) same_ended
        ∙ ap (λ (ps : List state.Peer). with_ended (λ qs. filter (is_owed_end qs) (ended_in p.table.records)) ps) replied_so

pub name_told-is : (p : Parts) (name : EndName) (address : ℕ) → state_of (done (name_told name address) p) ≡ changed (state_of p) (name_found name address)
name_told-is p name address =
    ap (λ (ps : List (Peer LaneSeen)). state_of (record (done (name_told name address) p) { peers = ps })) (quiet-peers p.peers)
    ∙ ap (λ (rs : List state.Request). record (state_of p) { requests = rs }) (requests-found p.book name address p.requests.standing)

-- ---- endpoints, channels and requests

pub endpoints-set : (b : Book) (c : Option Channel) (es : List Endpoint) (j : ℕ) → endpoints_in b (changed_at (with_end c) j es) ≡ changed_at (change.with_channel (option_map end_of c)) j (endpoints_in b es)
endpoints-set b c [] j = refl
endpoints-set b c (e ∷ es) zero = refl
endpoints-set b c (e ∷ es) (suc j) = ap (λ (xs : List state.Endpoint). endpoint_in b e ∷ xs) (endpoints-set b c es j)

module _ (p : Parts) where
  -- no peer moves
  unmoved : (c : Parts → Parts) → state_of (record (c p) { peers = map (moved_peer (λ n. [])) p.peers }) ≡ state_of (record (c p) { peers = p.peers })
  unmoved c = ap (λ (ps : List (Peer LaneSeen)). state_of (record (c p) { peers = ps })) (quiet-peers p.peers)

  pub channel_set-is : (j address : ℕ) (c : Option Channel) → position (has_address_of address) (endpoints_in p.book p.records.endpoints) ≡ Some j → state_of (done (channel_set j c) p) ≡ changed (state_of p) (change.channel_set address (option_map end_of c))
  channel_set-is j address c at =
      unmoved (done (channel_set j c))
      ∙ ap (λ (es : List state.Endpoint). record (state_of p) { endpoints = es })
      (endpoints-set p.book c p.records.endpoints j
      ∙ ap (λ (o : Option ℕ). lists.changed (change.with_channel (option_map end_of c)) o (endpoints_in p.book p.records.endpoints)) (sym at)
      ∙ changed-position (has_address_of address) (change.with_channel (option_map end_of c)) (endpoints_in p.book p.records.endpoints))

  pub channel_given-is : state_of (done channel_given p) ≡ changed (state_of p) change.channel_given
  channel_given-is = unmoved (done channel_given)

  pub connect_settled-is : (number : ℕ) (how : Complete) → state_of (done (connect_settled number how) p) ≡ changed (state_of p) (change.connect_settled number (outcome_in p.book how))
  connect_settled-is number how =
      unmoved (done (connect_settled number how))
      ∙ ap (λ (rs : List state.Request). record (state_of p) { requests = rs }) (requests-settled p.book number how p.requests.standing)

  pub receives_ended-is : (at : Local) (word : Refusal) (address : ℕ) (e : state.Endpoint) → endpoint_of (state_of p) address ≡ Some e → e.local ≡ at → state_of (done (receives_ended at word) p) ≡ changed (state_of p) (change.waiting_ended address word)
  receives_ended-is at word address e there named =
      unmoved (done (receives_ended at word))
      ∙ ap (λ (rs : List state.Request). record (state_of p) { requests = rs })
      (requests-ended p.book word at p.requests.standing
      ∙ ap (λ (l : Local). map (ended_by_word word l) (state_of p).requests) (sym named)
      ∙ ap (λ (o : Option state.Endpoint). change.ended_in o word (state_of p).requests) (sym there))

-- ---- a frame is taken and its item kept

module _ (p : Parts) (sound : Sound p) (i : ℕ) (x : Peer LaneSeen) (there : slice_get p.peers i ≡ Some x) (buffer : Stored) (len headers size : ℕ) (apart : AreApart x.ends.size_from (x.ends.out ++ buffer.number ∷ []))
    (small : size ≤ item_size) (behind : 24 ≤ headers) (inside : headers + size ≤ length (take len buffer.bytes)) (closed : part_open p.records x.number ≡ None) where
  abbrev frame : List ℕ
  frame = take len buffer.bytes

  abbrev said : state.Item
  said = framed_item (buffer.number ∷ []) x.number frame headers size

  pub shown_less : peers_in plain (parts_read p) p.table (map (moved_peer (at_peer x.number (receiver (Took buffer.number frame) ∷ []))) p.peers) ≡ changed_first (is_numbered x.number) (λ y. record y { shown = y.shown - 1; part = None }) (peers_in plain (parts_read p) p.table p.peers)
  shown_less = shown-fewer p sound i x there closed (receiver (Took buffer.number frame) ∷ []) refl refl refl

  -- the state with other endpoints, requests, lent packets and open parts
  abbrev with_held : List state.Endpoint → List state.Request → List state.LentPacket → List PartRead → List (Peer LaneSeen) → state.DomainState
  with_held es rs ls os ps = record (state_of p) { endpoints = es; requests = rs; lent = ls; peers = peers_in plain os p.table ps; held = held_in os }

  abbrev taken_peers : List (Peer LaneSeen)
  taken_peers = map (moved_peer (at_peer x.number (receiver (Took buffer.number frame) ∷ []))) p.peers

  -- what is held is read so after the frame is taken
  now_read : (es es' : List state.Endpoint) (rs rs' : List state.Request) (ls : List state.LentPacket) (os : List PartRead) → es ≡ es' → rs ≡ rs' → ls ≡ (state_of p).lent → os ≡ parts_read p
      → with_held es rs ls os taken_peers ≡ record (changed (state_of p) (frame_taken x.number None [])) { endpoints = es'; requests = rs' }
  now_read es es' rs rs' ls os es_same rs_same ls_same os_same =
      let shown = changed_first (is_numbered x.number) (λ y. record y { shown = y.shown - 1; part = None }) (peers_in plain (parts_read p) p.table p.peers) in
      ap (λ (xs : List state.Endpoint). with_held xs rs ls os taken_peers) es_same
      ∙ ap (λ (xs : List state.Request). with_held es' xs ls os taken_peers) rs_same
      ∙ ap (λ (xs : List state.LentPacket). with_held es' rs' xs os taken_peers) ls_same
      ∙ ap (λ (xs : List PartRead). with_held es' rs' (state_of p).lent xs taken_peers) os_same
      ∙ ap (λ (xs : List state.Peer). record (state_of p) { endpoints = es'; requests = rs'; peers = xs }) shown_less
      ∙ ap (λ (hs : List HeldFrame). record (state_of p) { endpoints = es'; requests = rs'; peers = shown; held = hs }) (none-held p sound i x there closed)

  pub frame_queued-is : (j priority destination : ℕ) → priority_of frame ≡ priority → position (has_address_of destination) (endpoints_in p.book p.records.endpoints) ≡ Some j
      → state_of (done (frame_queued x.number buffer len headers size j priority) p) ≡ changed_all (state_of p) (frame_taken x.number None [] ∷ item_queued destination said ∷ [])
  frame_queued-is j priority destination says at =
      let now = done (frame_queued x.number buffer len headers size j priority) p in
      let is = queued-table p.records p.requests p.book now.book _ x.number (slot_at x.number buffer.number) buffer headers size len (but-one p sound i x there buffer.number apart) refl refl small behind inside now.records j priority says refl in
      now_read _ _ _ _ _ _
      (ap (λ (t : held.Table). t.held.endpoints) is ∙ ap (λ (o : Option ℕ). lists.changed (queued_last said) o (endpoints_in p.book p.records.endpoints)) (sym at) ∙ changed-position (has_address_of destination) (queued_last said) (endpoints_in p.book p.records.endpoints))
      (ap (λ (t : held.Table). t.held.requests) is)
      (ap (λ (t : held.Table). t.held.lent) is)
      (ap (λ (t : held.Table). t.held.parts) is)

  pub frame_handed-is : (id : RequestId) (a : Ask) (destination : ℕ) (e : state.Endpoint) → IsPending p.requests id → endpoint_of (state_of p) destination ≡ Some e → position (state.waits_at e.local) (state_of p).requests ≡ position (is_id id) p.requests.standing
      → state_of (done (frame_handed x.number buffer len headers size id a) p) ≡ changed_all (state_of p) (frame_taken x.number None [] ∷ item_handed destination said ∷ [])
  frame_handed-is id a destination e pending named waits =
      let now = done (frame_handed x.number buffer len headers size id a) p in
      let is = handed-table p.records p.requests p.book now.book _ x.number (slot_at x.number buffer.number) buffer headers size len (but-one p sound i x there buffer.number apart) refl refl small behind inside now.requests id a sound.receives pending refl in
      now_read _ _ _ _ _ _
      (ap (λ (t : held.Table). t.held.endpoints) is)
      (ap (λ (t : held.Table). t.held.requests) is
      ∙ ap (λ (o : Option ℕ). lists.changed (complete_with said) o (state_of p).requests) (sym waits)
      ∙ changed-position (state.waits_at e.local) (complete_with said) (state_of p).requests
      ∙ ap (λ (o : Option state.Endpoint). change.handed_in o said (state_of p).requests) (sym named))
      (ap (λ (t : held.Table). t.held.lent) is)
      (ap (λ (t : held.Table). t.held.parts) is)
