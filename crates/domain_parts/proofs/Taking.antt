-- A frame that is taken, by what it does with the open part of its peer and the verdict on it.
use Rattle.std.proofs.Common.{◌≡◌, ℕ, zero, suc, ◌+◌, ◌<◌, ◌≤◌, Bool, true, List, [], ◌∷◌, ◌++◌, length, map, take, Option, Some, None, refl, sym, ap, ap₂, ◌∙◌, subst, arith, append-nil}
use Rattle.std.specs.Prelude.{Contains, find, if◌then◌else◌, option_and_then, nat_lt, position, slice_get, slice_set}
use Rattle.std.proofs.lemmas.List.{length-append, length-map, map-append}
use Rattle.mc_base.specs.Limits.{domain_limit, item_size}
use Rattle.mc_base.specs.NameMap.{Names}
use Rattle.mc_base.specs.Stored.{Stored}
use Rattle.mc_base.specs.declared.fate.Fate.{Fate}
use Rattle.mc_base.specs.declared.fate.Fate.TheVariants.{Queued, Handed, Part}
use Rattle.mc_base.specs.declared.request.RequestId.{RequestId}
use Rattle.lane_end.specs.Numbers.{AreApart}
use Rattle.lane_end.specs.ReceiveMoves.{Gave, Took}
use Rattle.lane_end.proofs.CountLemmas.{length-apart}
use Rattle.board_model.specs.Change.{Change, changed, changed_all, frame_taken, item_handed, item_queued}
use Rattle.board_model.specs.Deeds.{taken_change, takes}
use Rattle.board_model.specs.Journal.{Line, take_line, taken}
use Rattle.board_model.specs.Parts.{came_from, part_in}
use Rattle.board_model.specs.Returns.{given_at_once, given_by_frame}
use Rattle.board_model.specs.State as state
use Rattle.board_model.specs.State.{DomainState, has_address_of, held_of, waits_at}
use Rattle.board_model.specs.TakenFrames.{Row, names_of, replies_to, row, row_from}
use Rattle.buffer_book.specs.Book as book
use Rattle.buffer_book.specs.Book.{Book, IsAway, IsQueued, if_state, kept_in_buffer, queued_at, with_joined, with_queued}
use Rattle.buffer_book.proofs.Sets.{set-same}
use Rattle.endpoint_table.specs.Table as endpoint_table
use Rattle.message_queue.specs.Queue.{waiting}
use Rattle.request_set.specs.declared.ask.Ask.{Ask}
use Rattle.request_set.specs.Requests.{Requests, with_complete}
use Rattle.domain_parts.specs.declared.parts.OpenPart.{OpenPart}
use Rattle.domain_parts.specs.declared.parts.Piece.{Piece}
use Rattle.domain_parts.specs.declared.peer.Peer.{Peer}
use Rattle.domain_parts.specs.declared.replies.Reply.{Reply}
use Rattle.domain_parts.specs.AllMoved.{ends_of}
use Rattle.domain_parts.specs.Dealt.{IsBegun, ShowsPart, grown_bytes, grown_to, item_whole, piece_bytes}
use Rattle.domain_parts.specs.Doing.{Doing, Takes, ids_in}
use Rattle.domain_parts.specs.EndedParts.{ended, ending, frames_open, without_open}
use Rattle.domain_parts.specs.GivingBack.{AreOut}
use Rattle.domain_parts.specs.Growing.{begun_by}
use Rattle.domain_parts.specs.InBook.{channel_of, endpoint_in, frames_at, open_parts, priority_of}
use Rattle.domain_parts.specs.InPlaces.{AreInPlaces, IsOpenAs, slot_at, slots_of}
use Rattle.domain_parts.specs.InRequests.{handed_by, handed_slots}
use Rattle.domain_parts.specs.LaneMoves.{LaneMove, receiver}
use Rattle.domain_parts.specs.LaneSeen.{LaneSeen, after_move, after_moves}
use Rattle.domain_parts.specs.Parts.{Holding, Parts, Sound, holding_in, parts_in, peer_at, peer_seen, peers_seen, plain, state_of}
use Rattle.domain_parts.specs.Peers.{reply_in}
use Rattle.domain_parts.specs.Pieces.{carrier_channel, carrier_in, carrier_of, carrier_priority, part_with}
use Rattle.domain_parts.specs.Records.{Records, all_waiting, lent_slots, part_open, part_slots, with_part, with_part_open, with_waiting_at, without_part, without_part_of}
use Rattle.domain_parts.specs.Sound.{out_at}
use Rattle.domain_parts.specs.Steps.{Step, all_moves, at_peer, book_after, changed_peer, done, done_all, frame_handed, frame_queued, frame_returned, moved_peer, part_begun, part_grown, part_handed, part_queued, peers_after, records_after, requests_after, step_moves, table_after}
use Rattle.domain_parts.specs.Verdicts.{Desk, Effect, Fits, IsHanded, IsQueued as IsQueuedBy, IsReturned, Shows, desk, effect_changes, framed_item, item_with, records_left}
use Rattle.domain_parts.specs.Verdicts as verdicts
use Rattle.domain_parts.specs.VisitMoves.{giving, taking}
use Rattle.domain_parts.proofs.ChangedPeers.{set-changed}
use Rattle.domain_parts.proofs.Effects.{effect-done, effect-ids, effect-is, effect-keeps, effect-lent, effect-moves, effect_steps, placed-same, with_left}
use Rattle.domain_parts.proofs.Fitting.{held-fits}
use Rattle.domain_parts.proofs.GivingLemmas.{all-stand, some-lane}
use Rattle.domain_parts.proofs.Outs.{is-out}
use Rattle.domain_parts.proofs.PartLists.{all-found, found-peer, gone-found, none-gone, read-found, with-apart, with-found}
use Rattle.domain_parts.proofs.PartPlaces.{HasPiece, few-peer, grown-apart, part_begun-keeps, part_grown-keeps, part_handed-keeps, part_queued-keeps}
use Rattle.domain_parts.proofs.PartStates.{gone-again, part_begun-is, part_grown-is, part_handed-is, part_queued-is}
use Rattle.domain_parts.proofs.PartTakes.{ended-after, ended-apart, ended-closed, ended-keeps, ended-parts, ended-set, ended-taken, ended-there, ending-done, ending-moves, ending-plainly, held-are, map-same, open-queued, peer_ended, set-again, still-out}
use Rattle.domain_parts.proofs.PeerPlaces.{All-from}
use Rattle.domain_parts.proofs.PeersAt.{Fit, find-place, outs-room}
use Rattle.domain_parts.proofs.Placed.{away-item, lane-of}
use Rattle.domain_parts.proofs.Pieces.{carrier-begun}
use Rattle.domain_parts.proofs.Placing.{lane-away}
use Rattle.domain_parts.proofs.Receives.{ids-stay}
use Rattle.domain_parts.proofs.Slots.{length-all}
use Rattle.domain_parts.proofs.Stepping.{quiet-peers, seen-set, set-is-map}
use Rattle.domain_parts.proofs.TurnMeaning.{frame_handed-is, frame_queued-is, frame_returned-is}
use Rattle.domain_parts.proofs.TurnSteps.{but-one, frame_handed-keeps, frame_queued-keeps, frame_returned-keeps}
use Rattle.domain_parts.proofs.Turning.{doing-by, peer-is, peers-are, seen-then, seen-there}

-- ---- lists

-- what is seen of the ends is the same, whatever is known of the peer and owed to it
ends-known : {L : Type 0} (ps : List (Peer L)) (i : ℕ) (x : Peer L) (e : L) (names : Names) (rs : List Reply) → ends_of (slice_set ps i (record x { ends = e; known = names; replies = rs })) ≡ ends_of (slice_set ps i (record x { ends = e }))
ends-known [] i x e names rs = refl
ends-known (z ∷ ps) zero x e names rs = refl
ends-known {L} (z ∷ ps) (suc i) x e names rs = ap (λ (es : List L). z.ends ∷ es) (ends-known ps i x e names rs)

giving-append : (xs ys : List ℕ) → giving (xs ++ ys) ≡ giving xs ++ giving ys
giving-append xs ys = map-append (λ (n : ℕ). receiver (Gave n)) xs ys

-- a frame changes no part
left-apart : (e : Effect) (r : Records) (peer : ℕ) → without_part_of (records_left e r) peer ≡ records_left e (without_part_of r peer)
left-apart (verdicts.accepts place address c x) r peer = refl
left-apart (verdicts.sets place address c) r peer = refl
left-apart (verdicts.settles place address c number how) r peer = refl
left-apart (verdicts.ends place address c at) r peer = refl
left-apart other r peer = refl

-- ---- the frame

module _ {L : Type 0} (M : L → List LaneMove → L → Type 0) (m-none : (l : L) → M l [] l) (m-both : (a b c : L) (xs ys : List LaneMove) → M a xs b → M b ys c → M a (xs ++ ys) c) (v : L → LaneSeen) (b : Book) (r : Records) (q : Requests) (t : endpoint_table.Table) (ps : List (Peer L)) (sound : Sound (parts_in v b r q t ps))
    (i : ℕ) (x : Peer L) (there : slice_get ps i ≡ Some x) (buffer : Stored) (len : ℕ) (lines lines' : List Line) (found : Option OpenPart) (open_is : found ≡ part_open r x.number) where
  abbrev old : Parts
  old = parts_in v b r q t ps

  abbrev y : Peer LaneSeen
  y = peer_seen v x

  abbrev n : ℕ
  n = x.number

  abbrev m : ℕ
  m = buffer.number

  abbrev frame : List ℕ
  frame = take len buffer.bytes

  abbrev s : DomainState
  s = state_of old

  at : slice_get (peers_seen v ps) i ≡ Some (peer_seen v x)
  at = seen-there M m-none v b r q t ps sound i x there

  is : part_open r n ≡ found
  is = sym open_is

  pub shows : Shows s n b (desk r q x.known x.replies)
  shows =
      let here = find-place plain (open_parts b r.parts) t i (peers_seen v ps) (peer_seen v x) sound.peers.rising at in
      record { endpoints = refl; requests = refl; known = ap names_of here; owed = ap replies_to here ∙ length-map x.replies reply_in }

  open-as : (o : OpenPart) → part_open r n ≡ Some o → IsOpenAs b o
  open-as o there_is = all-found (IsOpenAs b) n r.parts o (some-lane plain b r q t (peers_seen v ps) sound).1.parts.each there_is

  pub shows-part : ShowsPart s n b r
  shows-part = record {
    part = ap part_in (find-place plain (open_parts b r.parts) t i (peers_seen v ps) (peer_seen v x) sound.peers.rising at) ∙ read-found b n r.parts;
    size = λ o f. (open-as o f).size;
    most = λ o f. (open-as o f).most;
  }

  pub small : (o : OpenPart) → part_open r n ≡ Some o → o.size ≤ item_size
  small o f = let within = (open-as o f).within in let most = (open-as o f).most in omega (arith, within, most)

  number : (peer_at old i).number ≡ n
  number = ap (λ (z : Peer LaneSeen). z.number) (peer-is M m-none v b r q t ps sound i x there)

  abbrev fs : List ℕ
  fs = frames_open b found

  held-is : held_of s n ≡ fs
  held-is = held-are old sound i y at found is

  abbrev took : List LaneMove
  took = receiver (Took m frame) ∷ []

  -- the moves that it makes, by what it gives back
  taking-is : (fate : Fate) (gs : List ℕ) → given_by_frame s n (Some m) frame fate ≡ gs → taking s (peer_at old i).number (m ∷ []) (taken frame fate ∷ []) ≡ receiver (Took m frame) ∷ giving gs
  taking-is fate gs gives =
      ap (λ (k : ℕ). taking s k (m ∷ []) (taken frame fate ∷ [])) number
      ∙ ap (λ (ms : List LaneMove). receiver (Took m frame) ∷ ms) (append-nil (giving (given_by_frame s n (Some m) frame fate)))
      ∙ ap (λ (ks : List ℕ). receiver (Took m frame) ∷ giving ks) gives

  takes-one : (fate : Fate) (ms : List LaneMove) (new : Holding L) → taking s (peer_at old i).number (m ∷ []) (taken frame fate ∷ []) ≡ ms → Doing M (peer_at old i).number (takes (peer_at old i).number (Some m) frame fate ∷ []) ms (holding_in v b r q t ps) new → lines' ≡ lines ++ take_line n frame fate ∷ [] → Takes M i 1 (holding_in v b r q t ps) new lines lines'
  takes-one fate ms new moves doing told =
      record {
        takes = taken frame fate ∷ [];
        numbers = m ∷ [];
        many = refl;
        each = refl;
        doing = subst (λ (zs : List LaneMove). Doing M (peer_at old i).number (takes (peer_at old i).number (Some m) frame fate ∷ []) zs (holding_in v b r q t ps) new) (sym moves) doing;
        told = subst (λ (k : ℕ). lines' ≡ lines ++ take_line k frame fate ∷ []) (sym number) told;
      }

  -- what its deed changes, by its row
  changes-so : (c : Change) (applies : Bool) (fate : Fate) (happens : List Change) → taken_change n (came_from s n (Some m) frame) ≡ c → row_from s n (Some m) frame ≡ row applies fate happens
      → changed_all s (c ∷ happens) ≡ changed_all s (taken_change n (came_from s n (Some m) frame) ∷ (row_from s n (Some m) frame).happens)
  changes-so c applies fate happens change its = ap (λ (z : Change). changed_all s (z ∷ happens)) (sym change) ∙ ap (λ (z : Row). changed_all s (taken_change n (came_from s n (Some m) frame) ∷ z.happens)) (sym its)

  module _ (e : L) (seen : v e ≡ after_move (receiver (Took m frame)) (v x.ends)) (moved : M x.ends (receiver (Took m frame) ∷ []) e) (apart : AreApart (v e).size_from (v e).out) where
    apart-then : AreApart (v x.ends).size_from ((v x.ends).out ++ m ∷ [])
    apart-then = subst (λ (l : LaneSeen). AreApart l.size_from l.out) seen apart

    -- ---- the open part, before it ends

    pub end-queued : (o : OpenPart) → found ≡ Some o → IsQueued b o.slot
    end-queued o f = open-queued old sound i y at o (is ∙ f)

    pub end-out : AreOut (v e).out fs
    end-out = subst (λ (l : LaneSeen). AreOut l.out fs) (sym seen) (still-out old sound i y at m apart-then found is)

    -- ---- and after it

    abbrev p1 : Parts
    p1 = ended found old

    abbrev b1 : Book
    b1 = without_open b found

    abbrev r1 : Records
    r1 = without_part_of r n

    abbrev y1 : Peer LaneSeen
    y1 = peer_ended old sound i y at found

    sound1 : Sound p1
    sound1 = ended-keeps old sound i y at found is

    at1 : slice_get p1.peers i ≡ Some y1
    at1 = ended-there old sound i y at found is

    apart1 : AreApart y1.ends.size_from (y1.ends.out ++ m ∷ [])
    apart1 = ended-apart old sound i y at m apart-then found is

    abbrev plain1 : Parts
    plain1 = record { book = b1; records = r1; requests = q; table = t; peers = p1.peers }

    parts1 : p1 ≡ plain1
    parts1 = ended-parts old sound i y at found is

    closed1 : part_open r1 n ≡ None
    closed1 = ap (λ (p : Parts). part_open p.records n) (sym parts1) ∙ ended-closed old sound i y at found is

    sound-plain : Sound plain1
    sound-plain = subst Sound parts1 sound1

    pub away-slot : IsAway b1 (slot_at n m)
    away-slot = lane-away n _ b1 m [] (lane-of (lent_slots r1) n _ (slots_of r1 q) b1 (m ∷ []) (but-one plain1 sound-plain i y1 at1 m apart1).each)

    -- it names nothing
    pub unqueued-slot : queued_at b1 (slot_at n m) ≡ None
    unqueued-slot = ap (λ (o : Option book.Item). option_and_then (if_state None) o) (away-item (slots_of r1 q) (lent_slots r1) b1 (all-stand plain b1 r1 q t p1.peers sound-plain) (slot_at n m) away-slot)

    -- there is room for it
    pub room-left : length (all_waiting r.endpoints) < r.room
    room-left =
        let fit = All-from (λ (z : Peer LaneSeen). AreInPlaces z.number r q b (out_at plain z)) (Fit plain) (λ z placed. length-apart z.ends.size_from z.ends.out placed.each.apart) (peers_seen v ps) sound.places in
        let most = outs-room plain i (peers_seen v ps) (peer_seen v x) fit at in
        let out = length-apart (v x.ends).size_from ((v x.ends).out ++ m ∷ []) apart-then in
        let more = length-append (v x.ends).out (m ∷ []) in
        let both = length-all (part_slots r.parts) (all_waiting r.endpoints) (handed_slots q.standing) in
        let total = held-fits plain b r q t (peers_seen v ps) sound in
        let room = sound.room in
        omega (arith, most, out, more, both, total, room)

    module _ (e2 : L) (seen2 : v e2 ≡ after_moves (giving fs) (v e)) (moved2 : M e (giving fs) e2) where
      abbrev back : List LaneMove
      back = receiver (Took m frame) ∷ giving fs

      abbrev back_none : List LaneMove
      back_none = receiver (Took m frame) ∷ (giving fs ++ [])

      seen-back : v e2 ≡ after_moves back (v x.ends)
      seen-back = seen2 ∙ ap (after_moves (giving fs)) seen

      moved-back : M x.ends back e2
      moved-back = m-both x.ends e e2 took (giving fs) moved moved2

      abbrev end_ps : Names → List Reply → List (Peer L)
      end_ps names rs = slice_set ps i (record x { ends = e2; known = names; replies = rs })

      -- ---- it is kept, alone

      module _ (c : Step) (moves : (k : ℕ) → step_moves c k ≡ at_peer n took k) (plainly : (zs : List (Peer LaneSeen)) → peers_after c zs ≡ map (moved_peer (step_moves c)) zs) where
        back-moves : (k : ℕ) → step_moves (ending b found c) k ≡ at_peer n back k
        back-moves k = ending-moves old sound i y at c m frame [] moves found is k ∙ ap (λ (ms : List LaneMove). at_peer n (receiver (Took m frame) ∷ ms) k) (append-nil (giving fs))

        one-step : done (ending b found c) old ≡ done c p1
        one-step = ending-done old sound i y at c m frame [] moves plainly found is

        end-peers : (names : Names) (rs : List Reply) → names ≡ x.known → rs ≡ x.replies → peers_seen v (end_ps names rs) ≡ (done c p1).peers
        end-peers names rs same same_rs =
            ap (λ (ns : Names). peers_seen v (end_ps ns rs)) same ∙ ap (λ (zs : List Reply). peers_seen v (end_ps x.known zs)) same_rs
            ∙ peers-are M m-none v b r q t ps sound i x there e2 back seen-back moved-back
            ∙ map-same (moved_peer (at_peer n back)) (moved_peer (step_moves (ending b found c))) (λ z. ap (λ (ks : List LaneMove). record z { ends = after_moves ks z.ends }) (sym (back-moves z.number))) (peers_seen v ps)
            ∙ sym (ending-plainly old sound i y at c m frame [] moves plainly found (peers_seen v ps))
            ∙ ap (λ (p : Parts). p.peers) one-step

        module _ (b' : Book) (r' : Records) (q' : Requests) (names : Names) (same : names ≡ x.known) (rs : List Reply) (same_rs : rs ≡ x.replies) (books : b' ≡ book_after c b1) (records : r' ≡ records_after c r1) (requests : q' ≡ requests_after c q) (table : t ≡ table_after c t) where
          kept-after : parts_in v b' r' q' t (end_ps names rs) ≡ done c p1
          kept-after =
              let peers = end-peers names rs same same_rs in
              ap (λ (z : Book). record { book = z; records = r'; requests = q'; table = t; peers = peers_seen v (end_ps names rs) }) books
              ∙ ap (λ (z : Records). record { book = book_after c b1; records = z; requests = q'; table = t; peers = peers_seen v (end_ps names rs) }) records
              ∙ ap (λ (z : Requests). record { book = book_after c b1; records = records_after c r1; requests = z; table = t; peers = peers_seen v (end_ps names rs) }) requests
              ∙ ap (λ (z : endpoint_table.Table). record { book = book_after c b1; records = records_after c r1; requests = requests_after c q; table = z; peers = peers_seen v (end_ps names rs) }) table
              ∙ ap (λ (z : List (Peer LaneSeen)). record { book = book_after c b1; records = records_after c r1; requests = requests_after c q; table = table_after c t; peers = z }) peers
              ∙ ap (λ (p : Parts). record { book = book_after c p.book; records = records_after c p.records; requests = requests_after c p.requests; table = table_after c p.table; peers = (done c p1).peers }) (sym parts1)

          kept-keeps : Sound (done c p1) → Sound (parts_in v b' r' q' t (end_ps names rs))
          kept-keeps keeps = subst Sound (sym kept-after) keeps

          kept-takes : (part : Option state.Part) (held : List ℕ) (applies : Bool) (fate : Fate) (happens : List Change) → taken_change n (came_from s n (Some m) frame) ≡ frame_taken n part held → row_from s n (Some m) frame ≡ row applies fate happens
              → state_of (done c p1) ≡ changed_all (state_of p1) (frame_taken n part held ∷ happens) → given_by_frame s n (Some m) frame fate ≡ held_of s n ++ [] → ids_in (parts_in v b' r' q' t (end_ps names rs)) ≡ ids_in old → r'.lent ≡ r.lent → lines' ≡ lines ++ take_line n frame fate ∷ [] → Takes M i 1 (holding_in v b r q t ps) (holding_in v b' r' q' t (end_ps names rs)) lines lines'
          kept-takes part held applies fate happens change its means gives ids packets told =
              takes-one fate back (holding_in v b' r' q' t (end_ps names rs)) (taking-is fate fs (gives ∙ append-nil (held_of s n) ∙ held-is))
              (doing-by M m-none v b r q t ps sound i x there e2 back seen-back moved-back (ending b found c ∷ []) (λ k. takes k (Some m) frame fate ∷ []) (holding_in v b' r' q' t (end_ps names rs))
              back-moves (kept-after ∙ sym one-step) (ends-known ps i x e2 names rs) (ap (λ (z : Row). z.word) its, tt)
              (ap state_of one-step ∙ means ∙ ap (λ (z : DomainState). changed_all z happens) (ended-taken old sound i y at part held found is) ∙ changes-so (frame_taken n part held) applies fate happens change its) ids packets)
              told

      -- the rest is done where no part of the peer is open
      abbrev now1 : DomainState
      now1 = state_of p1

      state-read : now1 ≡ state_of plain1
      state-read = ap state_of parts1

      endpoints-same : now1.endpoints ≡ s.endpoints
      endpoints-same = ap (λ (z : DomainState). z.endpoints) (ended-taken old sound i y at None [] found is)

      requests-same : now1.requests ≡ s.requests
      requests-same = ap (λ (z : DomainState). z.requests) (ended-taken old sound i y at None [] found is)

      plain-endpoints : (state_of plain1).endpoints ≡ s.endpoints
      plain-endpoints = ap (λ (z : DomainState). z.endpoints) (sym state-read) ∙ endpoints-same

      plain-requests : (state_of plain1).requests ≡ s.requests
      plain-requests = ap (λ (z : DomainState). z.requests) (sym state-read) ∙ requests-same

      from-plain : (c : Step) (cs : List Change) → state_of (done c plain1) ≡ changed_all (state_of plain1) cs → state_of (done c p1) ≡ changed_all (state_of p1) cs
      from-plain c cs means = subst (λ (p : Parts). state_of (done c p) ≡ changed_all (state_of p) cs) (sym parts1) means

      keeps-plain : (c : Step) → Sound (done c plain1) → Sound (done c p1)
      keeps-plain c keeps = subst (λ (p : Parts). Sound (done c p)) (sym parts1) keeps

      module _ (headers size : ℕ) (fits : Fits frame headers size) (b' : Book) (books : b' ≡ with_queued b1 (slot_at n m) (kept_in_buffer buffer headers size)) (names : Names) (same : names ≡ x.known) (rs : List Reply) (same_rs : rs ≡ x.replies) (shut : taken_change n (came_from s n (Some m) frame) ≡ frame_taken n None []) where
        abbrev said : state.Item
        said = framed_item (m ∷ []) n frame headers size

        -- its message is queued
        module _ (j priority : ℕ) (its : IsQueuedBy s (row_from s n (Some m) frame) said j) (says : priority_of frame ≡ priority) (gives : given_by_frame s n (Some m) frame Queued ≡ held_of s n ++ []) (r' : Records) (q' : Requests) (records : r' ≡ with_waiting_at r1 j (waiting (slot_at n m) priority)) (requests : q' ≡ q) where
          abbrev as_queued : Step
          as_queued = frame_queued n buffer len headers size j priority

          within-queued : j < length r1.endpoints
          within-queued = let within = its.within in let long = length-map r.endpoints (endpoint_in b) in omega (arith, within, long)

          pub queued-keeps : Sound (parts_in v b' r' q' t (end_ps names rs))
          queued-keeps =
              kept-keeps as_queued (λ k. refl) (λ zs. refl) b' r' q' names same rs same_rs books records requests refl
              (keeps-plain as_queued (frame_queued-keeps plain1 sound-plain i y1 at1 buffer len headers size apart1 fits.short fits.behind fits.inside j priority within-queued says))

          pub queued-takes : lines' ≡ lines ++ take_line n frame Queued ∷ [] → Takes M i 1 (holding_in v b r q t ps) (holding_in v b' r' q' t (end_ps names rs)) lines lines'
          queued-takes told =
              kept-takes as_queued (λ k. refl) (λ zs. refl) b' r' q' names same rs same_rs books records requests refl None [] its.applies Queued (item_queued its.destination said ∷ []) shut its.row_is
              (from-plain as_queued (frame_taken n None [] ∷ item_queued its.destination said ∷ []) (frame_queued-is plain1 sound-plain i y1 at1 buffer len headers size apart1 fits.short fits.behind fits.inside closed1 j priority its.destination says (ap (position (has_address_of its.destination)) plain-endpoints ∙ its.at)))
              gives (ap (λ (z : Requests). map (λ c. c.id) z.standing) requests) (ap (λ (z : Records). z.lent) records) told

        -- it is handed to a request
        module _ (id : RequestId) (a : Ask) (its : IsHanded s q (row_from s n (Some m) frame) said id a) (gives : given_by_frame s n (Some m) frame Handed ≡ held_of s n ++ []) (r' : Records) (q' : Requests) (records : r' ≡ r1) (requests : q' ≡ with_complete q id (handed_by a (slot_at n m))) where
          abbrev as_handed : Step
          as_handed = frame_handed n buffer len headers size id a

          pub handed-keeps : Sound (parts_in v b' r' q' t (end_ps names rs))
          handed-keeps =
              kept-keeps as_handed (λ k. refl) (λ zs. refl) b' r' q' names same rs same_rs books records requests refl
              (keeps-plain as_handed (frame_handed-keeps plain1 sound-plain i y1 at1 buffer len headers size apart1 fits.short fits.behind fits.inside id a its.pending its.asks its.endpoint.local its.receives))

          pub handed-takes : lines' ≡ lines ++ take_line n frame Handed ∷ [] → Takes M i 1 (holding_in v b r q t ps) (holding_in v b' r' q' t (end_ps names rs)) lines lines'
          handed-takes told =
              kept-takes as_handed (λ k. refl) (λ zs. refl) b' r' q' names same rs same_rs books records requests refl None [] its.applies Handed (item_handed its.destination said ∷ []) shut its.row_is
              (from-plain as_handed (frame_taken n None [] ∷ item_handed its.destination said ∷ []) (frame_handed-is plain1 sound-plain i y1 at1 buffer len headers size apart1 fits.short fits.behind fits.inside closed1 id a its.destination its.endpoint its.pending (ap (λ (es : List state.Endpoint). find (has_address_of its.destination) es) plain-endpoints ∙ its.named) (ap (position (waits_at its.endpoint.local)) plain-requests ∙ its.waits)))
              gives (ap (λ (z : Requests). map (λ c. c.id) z.standing) requests ∙ ids-stay id (handed_by a (slot_at n m)) q.standing) (ap (λ (z : Records). z.lent) records) told

      -- a part begins with it
      module _ (p : Piece) (d d' : Desk) (its : IsBegun s (Some m) n b frame d d' p) (b' : Book) (books : b' ≡ with_queued b1 (slot_at n m) (kept_in_buffer buffer 28 p.size)) (names : Names) (same : names ≡ x.known) (rs : List Reply) (same_rs : rs ≡ x.replies) (r' : Records) (q' : Requests) where
        abbrev new : OpenPart
        new = begun_by (slot_at n m) p

        abbrev as_begun : Step
        as_begun = part_begun new buffer len

        carrier-is : carrier_of new ≡ carrier_in p.carrier
        carrier-is = carrier-begun p.carrier

        priority-is : priority_of frame ≡ carrier_priority (carrier_of new)
        priority-is = its.priority ∙ ap carrier_priority (sym carrier-is)

        channel-is : channel_of frame ≡ carrier_channel (carrier_of new)
        channel-is = its.channel ∙ ap carrier_channel (sym carrier-is)

        has : HasPiece buffer len p.size
        has = record { inside = its.inside }

        opened : with_part_open r new ≡ records_after as_begun r1
        opened = ap (λ (os : List OpenPart). record r { parts = os ++ new ∷ [] }) (sym (none-gone n (without_part n r.parts) (gone-found n r.parts)))

        pub begun-keeps : r' ≡ with_part_open r new → q' ≡ q → Sound (parts_in v b' r' q' t (end_ps names rs))
        begun-keeps records requests =
            kept-keeps as_begun (λ k. refl) (λ zs. refl) b' r' q' names same rs same_rs books (records ∙ opened) requests refl
            (keeps-plain as_begun (part_begun-keeps plain1 sound-plain i y1 at1 buffer len apart1 new refl closed1 has its.source priority-is channel-is its.within its.most))

        pub begun-takes : r' ≡ with_part_open r new → q' ≡ q → lines' ≡ lines ++ take_line n frame Part ∷ [] → Takes M i 1 (holding_in v b r q t ps) (holding_in v b' r' q' t (end_ps names rs)) lines lines'
        begun-takes records requests told =
            kept-takes as_begun (λ k. refl) (λ zs. refl) b' r' q' names same rs same_rs books (records ∙ opened) requests refl (Some (part_with new (piece_bytes frame p.size))) (m ∷ []) true Part [] (its.opens (slot_at n m)) its.row_is
            (from-plain as_begun (frame_taken n (Some (part_with new (piece_bytes frame p.size))) (m ∷ []) ∷ []) (part_begun-is plain1 sound-plain i y1 at1 buffer len apart1 new refl closed1 has its.source priority-is channel-is its.within its.most (piece_bytes frame p.size) refl))
            its.gives (ap (λ (z : Requests). map (λ c. c.id) z.standing) requests) (ap (λ (z : Records). z.lent) records) told

      -- it is given back
      pub given-out : Contains (v e2).out m
      given-out =
          let size = ap (λ (l : LaneSeen). l) seen-back in
          subst (λ (l : LaneSeen). Contains l.out m) (sym (seen-back ∙ ap (λ (ms : List LaneMove). after_moves (receiver (Took m frame) ∷ ms) (v x.ends)) (sym (append-nil (giving fs))) ∙ ended-after old sound i y at m frame [] found is))
          (is-out n r1 q b1 _ m [] (but-one plain1 sound-plain i y1 at1 m apart1))

      module _ (e3 : L) (seen3 : v e3 ≡ after_move (receiver (Gave m)) (v e2)) (moved3 : M e2 (receiver (Gave m) ∷ []) e3) (fate : Fate) (d' : Desk) (its : IsReturned s n (row_from s n (Some m) frame) fate (desk r q x.known x.replies) d')
          (shut : taken_change n (came_from s n (Some m) frame) ≡ frame_taken n None []) (gives : given_by_frame s n (Some m) frame fate ≡ held_of s n ++ given_at_once fate (m ∷ [])) where
        abbrev last : List LaneMove
        last = receiver (Gave m) ∷ []

        abbrev all : List LaneMove
        all = receiver (Took m frame) ∷ (giving fs ++ last)

        abbrev both : List LaneMove
        both = receiver (Took m frame) ∷ last

        abbrev does : Effect
        does = its.effect

        abbrev as_returned : Step
        as_returned = frame_returned n m frame

        abbrev back_ps : List (Peer L)
        back_ps = slice_set ps i (record x { ends = e3; known = d'.names; replies = d'.replies })

        seen-all : v e3 ≡ after_moves all (v x.ends)
        seen-all = seen3 ∙ ap (after_move (receiver (Gave m))) seen-back ∙ sym (seen-then back last (v x.ends))

        moved-all : M x.ends all e3
        moved-all = m-both x.ends e2 e3 back last moved-back moved3

        seen-ended : v e3 ≡ after_moves both y1.ends
        seen-ended = seen-all ∙ ended-after old sound i y at m frame last found is

        abbrev returned : Parts
        returned = done as_returned plain1

        abbrev y' : Peer LaneSeen
        y' = record y1 { ends = after_moves both y1.ends }

        sound' : Sound returned
        sound' = frame_returned-keeps plain1 sound-plain i y1 at1 m apart1 frame

        set_peers : slice_set p1.peers i y' ≡ returned.peers
        set_peers = set-is-map n both p1.peers i y1 sound-plain.peers.rising at1 refl

        set_old : slice_set (peers_seen v ps) i y' ≡ returned.peers
        set_old = sym (set-again (peers_seen v ps) i y1 y') ∙ ap (λ (zs : List (Peer LaneSeen)). slice_set zs i y') (ended-set old sound i y at found is) ∙ set_peers

        there' : slice_get returned.peers i ≡ Some y'
        there' = subst (λ (zs : List (Peer LaneSeen)). slice_get zs i ≡ Some y') set_peers (set-same p1.peers i y1 y' at1)

        back-peers : peers_seen v back_ps ≡ map (changed_peer n (with_left does)) returned.peers
        back-peers =
            seen-set v ps i (record x { ends = e3; known = d'.names; replies = d'.replies })
            ∙ ap (λ (l : LaneSeen). slice_set (peers_seen v ps) i (record y { ends = l; known = d'.names; replies = d'.replies })) seen-ended
            ∙ ap (λ (z : Desk). slice_set (peers_seen v ps) i (record y' { known = z.names; replies = z.replies })) its.left
            ∙ sym (set-again (peers_seen v ps) i y' (with_left does y'))
            ∙ ap (λ (zs : List (Peer LaneSeen)). slice_set zs i (with_left does y')) set_old
            ∙ set-changed n (with_left does) returned.peers i y' sound'.peers.rising there' refl

        back-done : parts_in v b1 (without_part_of d'.records n) d'.requests t back_ps ≡ done_all (effect_steps n does) returned
        back-done =
            ap (λ (zs : List (Peer LaneSeen)). record plain1 { records = without_part_of d'.records n; requests = d'.requests; peers = zs }) back-peers
            ∙ ap (λ (z : Desk). record plain1 { records = without_part_of z.records n; requests = z.requests; peers = map (changed_peer n (with_left does)) returned.peers }) its.left
            ∙ ap (λ (z : Records). record plain1 { records = z; requests = verdicts.requests_left does q; peers = map (changed_peer n (with_left does)) returned.peers }) (left-apart does r n)
            ∙ sym (effect-done returned n does)

        one-returned : done (ending b found as_returned) old ≡ returned
        one-returned = ending-done old sound i y at as_returned m frame last (λ k. refl) (λ zs. refl) found is ∙ ap (done as_returned) parts1

        pub back-keeps : Sound (parts_in v b1 (without_part_of d'.records n) d'.requests t back_ps)
        back-keeps = subst Sound (sym back-done) (effect-keeps returned n sound' does)

        back-state : state_of (done_all (effect_steps n does) returned) ≡ changed_all s (taken_change n (came_from s n (Some m) frame) ∷ (row_from s n (Some m) frame).happens)
        back-state =
            effect-is returned n sound' i y' there' refl does (placed-same s (state_of returned) plain-endpoints does its.placed)
            ∙ ap (λ (z : DomainState). changed_all z (effect_changes n does)) (frame_returned-is plain1 sound-plain i y1 at1 closed1 m frame ∙ ap (λ (z : DomainState). changed z (frame_taken n None [])) (sym state-read) ∙ ended-taken old sound i y at None [] found is)
            ∙ changes-so (frame_taken n None []) its.applies fate (effect_changes n does) shut its.row_is

        once-back : held_of s n ++ given_at_once fate (m ∷ []) ≡ fs ++ m ∷ []
        once-back = ap₂ (λ (xs ys : List ℕ). xs ++ ys) held-is (ap (λ (k : Bool). if k then [] else m ∷ []) its.returned)

        pub back-takes : lines' ≡ lines ++ take_line n frame fate ∷ [] → Takes M i 1 (holding_in v b r q t ps) (holding_in v b1 (without_part_of d'.records n) d'.requests t back_ps) lines lines'
        back-takes told =
            takes-one fate all (holding_in v b1 (without_part_of d'.records n) d'.requests t back_ps) (taking-is fate (fs ++ m ∷ []) (gives ∙ once-back) ∙ ap (λ (ms : List LaneMove). receiver (Took m frame) ∷ ms) (giving-append fs (m ∷ [])))
            (doing-by M m-none v b r q t ps sound i x there e3 all seen-all moved-all (ending b found as_returned ∷ effect_steps n does) (λ k. takes k (Some m) frame fate ∷ []) (holding_in v b1 (without_part_of d'.records n) d'.requests t back_ps)
            (λ k. effect-moves n does (ending b found as_returned) k ∙ ending-moves old sound i y at as_returned m frame last (λ j. refl) found is k)
            (back-done ∙ sym (ap (done_all (effect_steps n does)) one-returned)) (ends-known ps i x e3 d'.names d'.replies) (ap (λ (z : Row). z.word) its.row_is, tt)
            (ap (λ (p : Parts). state_of (done_all (effect_steps n does) p)) one-returned ∙ back-state)
            (ap (λ (z : Desk). map (λ c. c.id) z.requests.standing) its.left ∙ effect-ids does q) (ap (λ (z : Desk). z.records.lent) its.left ∙ effect-lent does r))
            told

    -- ---- it goes on with the open part

    module _ (o : OpenPart) (size : ℕ) (was : part_open r n ≡ Some o) (inside : 28 + size ≤ length frame) (within : o.size + size ≤ o.total) where
      abbrev g : OpenPart
      g = grown_to s (Some m) n b frame (desk r q x.known x.replies) (desk r q x.known x.replies) o size

      has_piece : HasPiece buffer len size
      has_piece = record { inside = inside }

      abbrev as_grown : Step
      as_grown = part_grown g buffer len size

      abbrev p3 : Parts
      p3 = done as_grown old

      own : o.slot.peer ≡ n
      own = found-peer n r.parts o was

      names-held : held_of s n ≡ frames_at b o.slot
      names-held = held-are old sound i y at (Some o) was

      sound3 : Sound p3
      sound3 = part_grown-keeps old sound i y at buffer len apart-then o was size has_piece within

      -- the part is an item in a queue, and the buffer is none of the book's
      pub join-queued : IsQueued b o.slot
      join-queued = open-queued old sound i y at o was

      pub join-away : IsAway b (slot_at o.slot.peer m)
      join-away = grown-apart old sound i y at buffer len apart-then o was size has_piece within

      grown-moves : (k : ℕ) → step_moves as_grown k ≡ at_peer n took k
      grown-moves k = ap (λ (z : ℕ). at_peer z took k) own

      abbrev took_ps : Names → List Reply → List (Peer L)
      took_ps names rs = slice_set ps i (record x { ends = e; known = names; replies = rs })

      took_peers : (names : Names) (rs : List Reply) → names ≡ x.known → rs ≡ x.replies → peers_seen v (took_ps names rs) ≡ p3.peers
      took_peers names rs same same_rs =
          ap (λ (ns : Names). peers_seen v (took_ps ns rs)) same ∙ ap (λ (zs : List Reply). peers_seen v (took_ps x.known zs)) same_rs
          ∙ peers-are M m-none v b r q t ps sound i x there e took seen moved
          ∙ ap (λ (z : ℕ). map (moved_peer (at_peer z took)) (peers_seen v ps)) (sym own)

      module _ (b' : Book) (books : b' ≡ with_joined b o.slot (kept_in_buffer buffer 28 size)) (names : Names) (same : names ≡ x.known) (rs : List Reply) (same_rs : rs ≡ x.replies) (r' : Records) (q' : Requests) where
        module _ (opens : taken_change n (came_from s n (Some m) frame) ≡ frame_taken n (Some (part_with g (grown_bytes b o frame size))) (held_of s n ++ m ∷ [])) (row_is : row_from s n (Some m) frame ≡ row true Part []) (gives : given_by_frame s n (Some m) frame Part ≡ []) (records : r' ≡ with_part_open r g) (requests : q' ≡ q) where
          grown-after : parts_in v b' r' q' t (took_ps names rs) ≡ p3
          grown-after =
              ap (λ (z : Book). record { book = z; records = r'; requests = q'; table = t; peers = peers_seen v (took_ps names rs) }) books
              ∙ ap (λ (z : Records). record { book = p3.book; records = z; requests = q'; table = t; peers = peers_seen v (took_ps names rs) }) records
              ∙ ap (λ (z : Requests). record { book = p3.book; records = p3.records; requests = z; table = t; peers = peers_seen v (took_ps names rs) }) requests
              ∙ ap (λ (z : List (Peer LaneSeen)). record { book = p3.book; records = p3.records; requests = q; table = t; peers = z }) (took_peers names rs same same_rs)

          pub grown-keeps : Sound (parts_in v b' r' q' t (took_ps names rs))
          grown-keeps = subst Sound (sym grown-after) sound3

          pub grown-takes : lines' ≡ lines ++ take_line n frame Part ∷ [] → Takes M i 1 (holding_in v b r q t ps) (holding_in v b' r' q' t (took_ps names rs)) lines lines'
          grown-takes told =
              let part = Some (part_with g (grown_bytes b o frame size)) in
              takes-one Part took (holding_in v b' r' q' t (took_ps names rs)) (taking-is Part [] gives)
              (doing-by M m-none v b r q t ps sound i x there e took seen moved (as_grown ∷ []) (λ k. takes k (Some m) frame Part ∷ []) (holding_in v b' r' q' t (took_ps names rs))
              grown-moves grown-after (ends-known ps i x e names rs) (ap (λ (z : Row). z.word) row_is, tt)
              (part_grown-is old sound i y at buffer len apart-then o was size has_piece within (piece_bytes frame size) refl
              ∙ ap (λ (ns : List ℕ). changed s (frame_taken n part (ns ++ m ∷ []))) (sym names-held)
              ∙ changes-so (frame_taken n part (held_of s n ++ m ∷ [])) true Part [] opens row_is)
              (ap (λ (z : Requests). map (λ c. c.id) z.standing) requests) (ap (λ (z : Records). z.lent) records))
              told

        -- it is whole

        module _ (shut : taken_change n (came_from s n (Some m) frame) ≡ frame_taken n None []) where
          abbrev whole_said : state.Item
          whole_said = item_whole s (Some m) n b frame (desk r q x.known x.replies) (desk r q x.known x.replies) o size

          item-same : item_with (frames_at b o.slot ++ m ∷ []) n o.source (carrier_priority (carrier_of o)) (carrier_channel (carrier_of o)) (grown_bytes b o frame size) ≡ whole_said
          item-same = ap (λ (ns : List ℕ). item_with (ns ++ m ∷ []) n o.source (carrier_priority (carrier_of o)) (carrier_channel (carrier_of o)) (grown_bytes b o frame size)) (sym names-held)

          open-now : part_open p3.records g.slot.peer ≡ Some g
          open-now = with-found g r.parts

          closed-now : without_part_of r n ≡ without_part_of p3.records g.slot.peer
          closed-now = ap (λ (os : List OpenPart). record r { parts = os }) (sym (gone-again o.slot.peer r.parts g refl ∙ ap (λ (k : ℕ). without_part k r.parts) own))

          whole_peers : peers_seen v (took_ps names rs) ≡ map (moved_peer (λ k. [])) p3.peers
          whole_peers = took_peers names rs same same_rs ∙ sym (quiet-peers p3.peers)

          whole-moves : (c : Step) → ((k : ℕ) → step_moves c k ≡ []) → (k : ℕ) → all_moves (as_grown ∷ c ∷ []) k ≡ at_peer n took k
          whole-moves c none k = ap (λ (ms : List LaneMove). step_moves as_grown k ++ ms) (none k) ∙ append-nil (step_moves as_grown k) ∙ grown-moves k

          module _ (j priority : ℕ) (its : IsQueuedBy s (row_from s n (Some m) frame) whole_said j) (says : carrier_priority (carrier_of o) ≡ priority) (gives : given_by_frame s n (Some m) frame Queued ≡ []) (records : r' ≡ with_waiting_at (without_part_of r n) j (waiting o.slot priority)) (requests : q' ≡ q) where
            abbrev to_queue : Step
            to_queue = part_queued o.slot j priority

            whole_queued-after : parts_in v b' r' q' t (took_ps names rs) ≡ done to_queue p3
            whole_queued-after =
                ap (λ (z : Book). record { book = z; records = r'; requests = q'; table = t; peers = peers_seen v (took_ps names rs) }) books
                ∙ ap (λ (z : Records). record { book = p3.book; records = z; requests = q'; table = t; peers = peers_seen v (took_ps names rs) }) (records ∙ ap (λ (z : Records). with_waiting_at z j (waiting o.slot priority)) closed-now)
                ∙ ap (λ (z : Requests). record { book = p3.book; records = with_waiting_at (without_part_of p3.records g.slot.peer) j (waiting o.slot priority); requests = z; table = t; peers = peers_seen v (took_ps names rs) }) requests
                ∙ ap (λ (z : List (Peer LaneSeen)). record { book = p3.book; records = with_waiting_at (without_part_of p3.records g.slot.peer) j (waiting o.slot priority); requests = q; table = t; peers = z }) whole_peers

            within-there : j < length r.endpoints
            within-there = let within = its.within in let long = length-map r.endpoints (endpoint_in b) in omega (arith, within, long)

            pub whole_queued-keeps : Sound (parts_in v b' r' q' t (took_ps names rs))
            whole_queued-keeps =
                subst Sound (sym whole_queued-after)
                (subst (λ (zs : List (Peer LaneSeen)). Sound (record (done to_queue p3) { peers = zs })) (sym (quiet-peers p3.peers)) (part_queued-keeps p3 sound3 g open-now j priority within-there says))

            pub whole_queued-takes : lines' ≡ lines ++ take_line n frame Queued ∷ [] → Takes M i 1 (holding_in v b r q t ps) (holding_in v b' r' q' t (took_ps names rs)) lines lines'
            whole_queued-takes told =
                takes-one Queued took (holding_in v b' r' q' t (took_ps names rs)) (taking-is Queued [] gives)
                (doing-by M m-none v b r q t ps sound i x there e took seen moved (as_grown ∷ to_queue ∷ []) (λ k. takes k (Some m) frame Queued ∷ []) (holding_in v b' r' q' t (took_ps names rs))
                (whole-moves to_queue (λ k. refl)) whole_queued-after (ends-known ps i x e names rs) (ap (λ (z : Row). z.word) its.row_is, tt)
                (part_queued-is old sound i y at buffer len apart-then o was size has_piece within (piece_bytes frame size) refl j priority its.destination its.at
                ∙ ap (λ (k : ℕ). changed_all s (frame_taken n None [] ∷ item_queued its.destination (item_with (frames_at b o.slot ++ m ∷ []) n o.source k (carrier_channel (carrier_of o)) (grown_bytes b o frame size)) ∷ [])) (sym says)
                ∙ ap (λ (z : state.Item). changed_all s (frame_taken n None [] ∷ item_queued its.destination z ∷ [])) item-same
                ∙ changes-so (frame_taken n None []) its.applies Queued (item_queued its.destination whole_said ∷ []) shut its.row_is)
                (ap (λ (z : Requests). map (λ c. c.id) z.standing) requests) (ap (λ (z : Records). z.lent) records))
                told

          module _ (id : RequestId) (a : Ask) (its : IsHanded s q (row_from s n (Some m) frame) whole_said id a) (gives : given_by_frame s n (Some m) frame Handed ≡ []) (records : r' ≡ without_part_of r n) (requests : q' ≡ with_complete q id (handed_by a o.slot)) where
            abbrev to_request : Step
            to_request = part_handed o.slot id a

            whole_handed-after : parts_in v b' r' q' t (took_ps names rs) ≡ done to_request p3
            whole_handed-after =
                ap (λ (z : Book). record { book = z; records = r'; requests = q'; table = t; peers = peers_seen v (took_ps names rs) }) books
                ∙ ap (λ (z : Records). record { book = p3.book; records = z; requests = q'; table = t; peers = peers_seen v (took_ps names rs) }) (records ∙ closed-now)
                ∙ ap (λ (z : Requests). record { book = p3.book; records = without_part_of p3.records g.slot.peer; requests = z; table = t; peers = peers_seen v (took_ps names rs) }) requests
                ∙ ap (λ (z : List (Peer LaneSeen)). record { book = p3.book; records = without_part_of p3.records g.slot.peer; requests = with_complete q id (handed_by a o.slot); table = t; peers = z }) whole_peers

            pub whole_handed-keeps : Sound (parts_in v b' r' q' t (took_ps names rs))
            whole_handed-keeps =
                subst Sound (sym whole_handed-after)
                (subst (λ (zs : List (Peer LaneSeen)). Sound (record (done to_request p3) { peers = zs })) (sym (quiet-peers p3.peers)) (part_handed-keeps p3 sound3 g open-now id a its.pending its.asks its.endpoint.local its.receives))

            pub whole_handed-takes : lines' ≡ lines ++ take_line n frame Handed ∷ [] → Takes M i 1 (holding_in v b r q t ps) (holding_in v b' r' q' t (took_ps names rs)) lines lines'
            whole_handed-takes told =
                takes-one Handed took (holding_in v b' r' q' t (took_ps names rs)) (taking-is Handed [] gives)
                (doing-by M m-none v b r q t ps sound i x there e took seen moved (as_grown ∷ to_request ∷ []) (λ k. takes k (Some m) frame Handed ∷ []) (holding_in v b' r' q' t (took_ps names rs))
                (whole-moves to_request (λ k. refl)) whole_handed-after (ends-known ps i x e names rs) (ap (λ (z : Row). z.word) its.row_is, tt)
                (part_handed-is old sound i y at buffer len apart-then o was size has_piece within (piece_bytes frame size) refl id a its.destination its.endpoint its.pending its.named its.waits
                ∙ ap (λ (z : state.Item). changed_all s (frame_taken n None [] ∷ item_handed its.destination z ∷ [])) item-same
                ∙ changes-so (frame_taken n None []) its.applies Handed (item_handed its.destination whole_said ∷ []) shut its.row_is)
                (ap (λ (z : Requests). map (λ c. c.id) z.standing) requests ∙ ids-stay id (handed_by a o.slot) q.standing) (ap (λ (z : Records). z.lent) records))
                told

    -- ---- there is room for one more open part

    pub few-open : (o : OpenPart) → o.slot.peer ≡ n → length (without_part o.slot.peer r.parts) < domain_limit
    few-open o own =
        let are = (some-lane plain b r q t (peers_seen v ps) sound).1.parts in
        let apart = with-apart o r.parts are.apart (subst (λ (k : ℕ). nat_lt k domain_limit ≡ true) (sym own) (few-peer old sound i y at)) in
        let most = length-apart domain_limit (map (λ (z : OpenPart). z.slot.peer) (with_part o r.parts)) apart in
        let long = length-map (with_part o r.parts) (λ (z : OpenPart). z.slot.peer) in
        let one = length-append (without_part o.slot.peer r.parts) (o ∷ []) in
        omega (arith, most, long, one)
