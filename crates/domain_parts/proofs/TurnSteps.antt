-- The steps of a turn keep what the parts keep.
use Rattle.std.proofs.Common.{◌≡◌, ℕ, zero, suc, ◌+◌, ◌<◌, ◌≤◌, Bool, true, false, cond, List, [], ◌∷◌, ◌++◌, length, map, take, Some, refl, sym, ap, ◌∙◌, subst, arith, eq-eqb, Option}
use Rattle.std.specs.Prelude.{Contains, is_some, option_map, slice_get, nat_lt, ◌==◌}
use Rattle.std.specs.List.{AllByRecursion}
use Rattle.mc_base.specs.NameMap.{Names}
use Rattle.mc_base.specs.Stored.{Stored}
use Rattle.mc_base.specs.declared.name.EndName.{EndName}
use Rattle.mc_base.specs.declared.name.Local.{Local}
use Rattle.mc_base.specs.declared.request.RequestId.{RequestId}
use Rattle.lane_end.specs.Numbers.{AreApart, often}
use Rattle.lane_end.specs.ReceiveMoves.{Gave, Took}
use Rattle.lane_end.specs.ReceiveMoves as receiving
use Rattle.lane_end.specs.ReceiverContract.{without}
use Rattle.lane_end.specs.SendMoves.{Looked, Sent}
use Rattle.mc_base.specs.Numbers.{inside}
use Rattle.lane_end.proofs.CountLemmas.{often-append, tick, tick-same}
use Rattle.buffer_book.specs.Book.{Book, kept_in_buffer, shelf_of}
use Rattle.endpoint_table.specs.Table.{Table}
use Rattle.message_queue.specs.Queue.{Waiting, waiting}
use Rattle.board_model.specs.Lists.{changed_at}
use Rattle.request_set.specs.declared.ask.Ask.{Ask}
use Rattle.request_set.specs.declared.ask.Complete.TheVariants as complete
use Rattle.request_set.specs.Requests.{IsPending, Requests, request_of, receives_at}
use Rattle.domain_parts.specs.declared.endpoints.Endpoint.{Endpoint}
use Rattle.packet_channel.specs.declared.channel.Channel.{Channel}
use Rattle.mc_base.specs.declared.refusal.Refusal.{Refusal}
use Rattle.request_set.specs.declared.ask.Complete.{Complete}
use Rattle.domain_parts.specs.declared.requests.Waiters.{Waiters}
use Rattle.domain_parts.specs.declared.replies.Reply.{Reply}
use Rattle.domain_parts.specs.declared.peer.Peer.{Peer}
use Rattle.domain_parts.specs.declared.requests.Waiters.TheVariants as waiters
use Rattle.domain_parts.specs.AllMoved.{numbers_of}
use Rattle.domain_parts.specs.InBook.{priority_of}
use Rattle.domain_parts.specs.InPlaces.{AreInPlaces, AreInPlacesBut, KeepOthers, slot_at}
use Rattle.domain_parts.specs.InRequests.{AreReceives, MayEnd, with_all_complete}
use Rattle.domain_parts.specs.LaneMoves.{LaneMove, receiver, sender}
use Rattle.domain_parts.specs.LaneSeen.{LaneSeen, after_move, after_moves}
use Rattle.domain_parts.specs.Out.{Out, out_of}
use Rattle.domain_parts.specs.Parts.{Parts, Sound, plain}
use Rattle.domain_parts.specs.Records.{Records, all_waiting, with_channel_at, with_channel_given, with_end, with_waiting, with_waiting_at}
use Rattle.domain_parts.specs.Sound.{ArePeers, AreRising, IsSized, buffers_count, out_at}
use Rattle.domain_parts.specs.Steps.{at_peer, changed_peer, channel_given, channel_set, connect_settled, done, frame_handed, frame_queued, frame_returned, looked_ahead, looked_back, moved_peer, name_told, names_told, owed_put, receives_ended, reply_owed, reply_put, with_names, with_reply, with_reply_put}
use Rattle.domain_parts.specs.Tied.{AreTied, live_record}
use Rattle.domain_parts.proofs.Books.{queued-shelves}
use Rattle.domain_parts.proofs.ChangedPeers.{changed-same}
use Rattle.domain_parts.proofs.Completing.{handed-all, receives-all}
use Rattle.domain_parts.proofs.GivingLemmas.{All-at, SameEndpoints, same-endpoints, same-tied}
use Rattle.domain_parts.proofs.Outs.{taken-places}
use Rattle.domain_parts.proofs.PaidTables.{paid-is, tied-told}
use Rattle.domain_parts.proofs.PeerPlaces.{All-from, set-same}
use Rattle.domain_parts.proofs.PeersAt.{all-set}
use Rattle.domain_parts.proofs.Queuing.{handed-others, handed-places, handed-receives, queued-others, queued-places, same-held}
use Rattle.domain_parts.proofs.Sending.{Outline, outline, same-sound}
use Rattle.domain_parts.proofs.Stepping.{moved-numbers, quiet-peers, set-is-map}
use Rattle.mc_base.specs.Limits.{item_size}

-- ---- a move that changes no outline

abbrev outlined : ℕ → LaneSeen → Outline
outlined n l = record { number = n; size_to = l.size_to; size_from = l.size_from; out = l.out }

module _ (p : Parts) (d : ℕ) (m : LaneMove) (same : (n : ℕ) (l : LaneSeen) → outlined n (after_move m l) ≡ outlined n l) where
  same_outline : (x : Peer LaneSeen) (b : Bool) → outlined x.number (after_moves (cond b (m ∷ []) []) x.ends) ≡ outline plain x
  same_outline x true = same x.number x.ends
  same_outline x false = refl

  same_outlines : (ps : List (Peer LaneSeen)) → map (outline plain) (map (moved_peer (at_peer d (m ∷ []))) ps) ≡ map (outline plain) ps
  same_outlines [] = refl
  same_outlines (x ∷ ps) = let here = same_outline x (d == x.number) in let rest = same_outlines ps in cc

  pub quiet-keeps : Sound p → Sound (record p { peers = map (moved_peer (at_peer d (m ∷ []))) p.peers })
  quiet-keeps sound = same-sound plain plain p.book p.records p.requests p.table p.peers _ (same_outlines p.peers) sound

pub looked_back-keeps : (p : Parts) (d count : ℕ) → Sound p → Sound (done (looked_back d count) p)
looked_back-keeps p d count sound = quiet-keeps p d (sender (Looked count)) (λ n l. refl) sound

pub looked_ahead-keeps : (p : Parts) (d count : ℕ) → Sound p → Sound (done (looked_ahead d count) p)
looked_ahead-keeps p d count sound = quiet-keeps p d (receiver (receiving.Looked count)) (λ n l. refl) sound

pub owed_put-keeps : (p : Parts) (d : ℕ) (frame : List ℕ) → Sound p → Sound (done (owed_put d frame) p)
owed_put-keeps p d frame sound =
    let q = quiet-keeps p d (sender (Sent frame)) (λ n l. refl) sound in
    let ns = numbers_of (map (moved_peer (at_peer d (sender (Sent frame) ∷ []))) p.peers) in
    record {
      peers = q.peers;
      places = q.places;
      shelves = q.shelves;
      room = q.room;
      receives = q.receives;
      tied = subst (λ (t : Table). AreTied p.records t ns) (sym (paid-is 1 p.table d sound.tied.used)) (tied-told p.records p.table 1 d ns q.tied);
      given = q.given;
    }

-- ---- names that are known, and lookups that are complete

-- a change of one peer that leaves its outline
changed-keeps : (p : Parts) (d : ℕ) (f : Peer LaneSeen → Peer LaneSeen) → ((x : Peer LaneSeen) → outline plain (f x) ≡ outline plain x) → Sound p → Sound (record p { peers = map (changed_peer d f) p.peers })
changed-keeps p d f same sound = same-sound plain plain p.book p.records p.requests p.table p.peers _ (changed-same d f (outline plain) same p.peers) sound

pub names_told-keeps : (p : Parts) (d : ℕ) (names : Names) → Sound p → Sound (done (names_told d names) p)
names_told-keeps p d names sound = changed-keeps p d (with_names names) (λ x. refl) sound

pub reply_owed-keeps : (p : Parts) (d : ℕ) (r : Reply) → Sound p → Sound (done (reply_owed d r) p)
reply_owed-keeps p d r sound = changed-keeps p d (with_reply r) (λ x. refl) sound

pub reply_put-keeps : (p : Parts) (d : ℕ) (frame : List ℕ) → Sound p → Sound (done (reply_put d frame) p)
reply_put-keeps p d frame sound = changed-keeps p d (with_reply_put frame) (λ x. refl) sound

-- requests that ask so are complete, and nothing moves
module _ (p : Parts) (who : Waiters) (how : Complete) (ends : MayEnd who how) (sound : Sound p) where
  pub completed-keeps : Sound (record p { requests = with_all_complete p.requests who how; peers = map (moved_peer (λ n. [])) p.peers })
  completed-keeps =
      let q' = with_all_complete p.requests who how in
      let handed = handed-all who how p.requests.standing ends in
      subst (λ (ps : List (Peer LaneSeen)). Sound (record p { requests = q'; peers = ps })) (sym (quiet-peers p.peers))
      (record {
        peers = sound.peers;
        places = All-from (λ x. AreInPlaces x.number p.records p.requests p.book (out_at plain x)) (λ x. AreInPlaces x.number p.records q' p.book (out_at plain x)) (λ x placed. same-held p.records p.records p.requests q' p.book x.number (out_at plain x) refl refl refl handed placed) p.peers sound.places;
        shelves = sound.shelves;
        room = sound.room;
        receives = receives-all p.requests who how ends sound.receives;
        tied = sound.tied;
        given = sound.given;
      })

pub name_told-keeps : (p : Parts) (name : EndName) (address : ℕ) → Sound p → Sound (done (name_told name address) p)
name_told-keeps p name address sound = completed-keeps p (waiters.Lookups name) (complete.Address address) tt sound

pub receives_ended-keeps : (p : Parts) (at : Local) (word : Refusal) → Sound p → Sound (done (receives_ended at word) p)
receives_ended-keeps p at word sound = completed-keeps p (waiters.Receives at) (complete.Ended word) tt sound

pub connect_settled-keeps : (p : Parts) (number : ℕ) (how : Complete) → MayEnd (waiters.Connects number) how → Sound p → Sound (done (connect_settled number how) p)
connect_settled-keeps p number how ends sound = completed-keeps p (waiters.Connects number) how ends sound

-- ---- an endpoint's end of a channel

live_set : (c : Option Channel) (j : ℕ) (es : List Endpoint) → map live_record (changed_at (with_end c) j es) ≡ map live_record es
live_set c j [] = refl
live_set c zero (e ∷ es) = refl
live_set c (suc j) (e ∷ es) = ap (λ xs. live_record e ∷ xs) (live_set c j es)

waiting_set : (c : Option Channel) (j : ℕ) (es : List Endpoint) → all_waiting (changed_at (with_end c) j es) ≡ all_waiting es
waiting_set c j [] = refl
waiting_set c zero (e ∷ es) = refl
waiting_set c (suc j) (e ∷ es) = ap (λ ws. e.queue.waiting ++ ws) (waiting_set c j es)

-- other endpoints, at which the same waits
pub records-keep : (p : Parts) (r : Records) → SameEndpoints p.records r → r.lent ≡ p.records.lent → r.parts ≡ p.records.parts → all_waiting r.endpoints ≡ all_waiting p.records.endpoints → Sound p → Sound (record p { records = r; peers = map (moved_peer (λ n. [])) p.peers })
records-keep p r same lends opens waits sound =
    subst (λ (ps : List (Peer LaneSeen)). Sound (record p { records = r; peers = ps })) (sym (quiet-peers p.peers))
    (record {
      peers = subst (λ (k : ℕ). ArePeers plain k p.peers) (sym same.number) sound.peers;
      places = All-from (λ x. AreInPlaces x.number p.records p.requests p.book (out_at plain x)) (λ x. AreInPlaces x.number r p.requests p.book (out_at plain x)) (λ x placed. same-held p.records r p.requests p.requests p.book x.number (out_at plain x) lends opens waits refl placed) p.peers sound.places;
      shelves = sound.shelves;
      room = let room = sound.room in let room_same = same.room in omega (arith, room, room_same);
      receives = sound.receives;
      tied = same-tied p.records r p.table (numbers_of p.peers) same sound.tied;
      given = let given = sound.given in let given_same = same.given in omega (arith, given, given_same);
    })

pub channel_set-keeps : (p : Parts) (j : ℕ) (c : Option Channel) → Sound p → Sound (done (channel_set j c) p)
channel_set-keeps p j c sound = records-keep p (with_channel_at p.records j c) (record { number = refl; given = refl; room = refl; live = live_set c j p.records.endpoints }) refl refl (waiting_set c j p.records.endpoints) sound

pub channel_given-keeps : (p : Parts) → Sound p → Sound (done channel_given p)
channel_given-keeps p sound = records-keep p (with_channel_given p.records) (record { number = refl; given = refl; room = refl; live = refl }) refl refl refl sound

-- ---- a frame is taken from the peer at a place

size_kept : (m : LaneMove) (l : LaneSeen) → ((after_move m l).size_to ≡ l.size_to) × ((after_move m l).size_from ≡ l.size_from)
size_kept (sender (Sent f)) l = (refl, refl)
size_kept (sender (Looked n)) l = (refl, refl)
size_kept (receiver (Gave n)) l = (refl, refl)
size_kept (receiver (Took n f)) l = (refl, refl)
size_kept (receiver (receiving.Looked n)) l = (refl, refl)

sizes_kept : (ms : List LaneMove) (l : LaneSeen) → ((after_moves ms l).size_to ≡ l.size_to) × ((after_moves ms l).size_from ≡ l.size_from)
sizes_kept [] l = (refl, refl)
sizes_kept (m ∷ ms) l = let one = size_kept m l in let rest = sizes_kept ms (after_move m l) in (rest.0 ∙ one.0, rest.1 ∙ one.1)

module _ (moves : ℕ → List LaneMove) where
  sized_moved : (ps : List (Peer LaneSeen)) → AllByRecursion (IsSized plain) ps → AllByRecursion (IsSized plain) (map (moved_peer moves) ps)
  sized_moved [] all = tt
  sized_moved (p ∷ ps) all =
      let k = sizes_kept (moves p.number) p.ends in
      (record { same = k.0 ∙ all.0.same ∙ sym k.1; fits = let fits = all.0.fits in let one = k.1 in omega (arith, fits, one) }, sized_moved ps all.1)

  buffers_moved : (ps : List (Peer LaneSeen)) → buffers_count plain (map (moved_peer moves) ps) ≡ buffers_count plain ps
  buffers_moved [] = refl
  buffers_moved (p ∷ ps) = let one = (sizes_kept (moves p.number) p.ends).1 in let rest = buffers_moved ps in omega (arith, one, rest)

  peers_moved : (n : ℕ) (ps : List (Peer LaneSeen)) → ArePeers plain n ps → ArePeers plain n (map (moved_peer moves) ps)
  peers_moved n ps are =
      let same = sym (moved-numbers moves ps) in
      record {
        rising = subst AreRising same are.rising;
        few = subst (AllByRecursion (λ m. m ≤ 7)) same are.few;
        own = subst (λ (ns : List ℕ). Contains ns n) same are.own;
        sizes = sized_moved ps are.sizes;
      }

inside_most : (b : Bool) → cond b 1 0 ≤ 1
inside_most true = omega arith
inside_most false = omega arith

-- a number that was not among others and is last of them goes
without_last : (n : ℕ) (ns : List ℕ) → often n ns ≡ 0 → without n (ns ++ n ∷ []) ≡ ns
without_last n [] none = ap (λ b. cond b [] (n ∷ [])) (eq-eqb n n refl)
without_last n (m ∷ ns) none = go (m == n) refl (without_last n ns (omega (arith, none)))
  where
    go : (b : Bool) → (m == n) ≡ b → without n (ns ++ n ∷ []) ≡ ns → cond (m == n) (ns ++ n ∷ []) (m ∷ without n (ns ++ n ∷ [])) ≡ m ∷ ns
    go true e rest = let one : tick m n ≡ 1 = ap (λ (b : Bool). cond b 1 0) e in absurd (omega (arith, none, one))
    go false e rest = ap (λ b. cond b (ns ++ n ∷ []) (m ∷ without n (ns ++ n ∷ []))) e ∙ ap (λ xs. m ∷ xs) rest

module _ (p : Parts) (sound : Sound p) (i : ℕ) (x : Peer LaneSeen) (there : slice_get p.peers i ≡ Some x) (n : ℕ) (apart : AreApart x.ends.size_from (x.ends.out ++ n ∷ [])) where
  pub not-out : often n x.ends.out ≡ 0
  not-out =
      let most = apart n in
      let inside_once : inside x.ends.size_from n ≤ 1 = inside_most (nat_lt n x.ends.size_from) in
      let sum = often-append n x.ends.out (n ∷ []) in
      let one = tick-same n n refl in
      omega (arith, most, inside_once, sum, one)

  -- it is given back at once
  pub frame_returned-keeps : (frame : List ℕ) → Sound (done (frame_returned x.number n frame) p)
  frame_returned-keeps frame =
      let ms = receiver (Took n frame) ∷ receiver (Gave n) ∷ [] in
      let same : outline plain (record x { ends = after_moves ms x.ends }) ≡ outline plain x = ap (λ (ns : List ℕ). record (outline plain x) { out = ns }) (without_last n x.ends.out not-out) in
      same-sound plain plain p.book p.records p.requests p.table p.peers _
      (ap (map (outline plain)) (sym (set-is-map x.number ms p.peers i x sound.peers.rising there refl)) ∙ set-same (outline plain) p.peers i x (record x { ends = after_moves ms x.ends }) there same)
      sound

  abbrev now : Out
  now = out_of x.ends.size_from (x.ends.out ++ n ∷ [])

  pub but-one : AreInPlacesBut n x.number p.records p.requests p.book now
  but-one = taken-places x.number p.records p.requests p.book n _ _ _ _ refl refl apart (All-at (λ (y : Peer LaneSeen). AreInPlaces y.number p.records p.requests p.book (out_at plain y)) p.peers i x sound.places there)

  -- it is kept
  pub kept-sound : (frame : List ℕ) (b : Book) (r : Records) (q : Requests) → SameEndpoints p.records r → r.lent ≡ p.records.lent → AreInPlaces x.number r q b now → KeepOthers x.number p.records p.requests p.book r q b → ((k : ℕ) → is_some (shelf_of b k) ≡ is_some (shelf_of p.book k)) → AreReceives q
      → Sound (record { book = b; records = r; requests = q; table = p.table; peers = map (moved_peer (at_peer x.number (receiver (Took n frame) ∷ []))) p.peers })
  kept-sound frame b r q same lends placed others shelves receives =
      let ms = receiver (Took n frame) ∷ [] in
      let x' = record x { ends = after_moves ms x.ends } in
      let moves = at_peer x.number ms in
      let set = set-is-map x.number ms p.peers i x sound.peers.rising there refl in
      record {
        peers = subst (λ (k : ℕ). ArePeers plain k (map (moved_peer moves) p.peers)) (sym same.number) (peers_moved moves p.records.number p.peers sound.peers);
        places = subst (AllByRecursion (λ (y : Peer LaneSeen). AreInPlaces y.number r q b (out_at plain y))) set
            (all-set (λ (y : Peer LaneSeen). AreInPlaces y.number p.records p.requests p.book (out_at plain y)) (λ (y : Peer LaneSeen). AreInPlaces y.number r q b (out_at plain y)) i p.peers x x' sound.peers.rising there (λ y differ was. others y.number (out_at plain y) differ was) placed sound.places);
        shelves = λ k is. subst (λ (ns : List ℕ). Contains ns k) (sym (moved-numbers moves p.peers)) (sound.shelves k (sym (shelves k) ∙ is));
        room = let room = sound.room in let room_same = same.room in let buffers = buffers_moved moves p.peers in omega (arith, room, room_same, buffers);
        receives = receives;
        tied = subst (AreTied r p.table) (sym (moved-numbers moves p.peers)) (same-tied p.records r p.table (numbers_of p.peers) same sound.tied);
        given = let given = sound.given in let given_same = same.given in omega (arith, given, given_same);
      }

live_more : (j : ℕ) (w : Waiting) (es : List Endpoint) → map live_record (changed_at (with_waiting w) j es) ≡ map live_record es
live_more j w [] = refl
live_more zero w (e ∷ es) = refl
live_more (suc j) w (e ∷ es) = ap (λ xs. live_record e ∷ xs) (live_more j w es)

pub waiting-same : (r : Records) (j : ℕ) (w : Waiting) → SameEndpoints r (with_waiting_at r j w)
waiting-same r j w = record { number = refl; given = refl; room = refl; live = live_more j w r.endpoints }

module _ (p : Parts) (sound : Sound p) (i : ℕ) (x : Peer LaneSeen) (there : slice_get p.peers i ≡ Some x) (buffer : Stored) (len headers size : ℕ) (apart : AreApart x.ends.size_from (x.ends.out ++ buffer.number ∷ []))
    (small : size ≤ item_size) (behind : 24 ≤ headers) (inside : headers + size ≤ length (take len buffer.bytes)) where
  abbrev placed_but : AreInPlacesBut buffer.number x.number p.records p.requests p.book (out_of x.ends.size_from (x.ends.out ++ buffer.number ∷ []))
  placed_but = but-one p sound i x there buffer.number apart

  pub frame_queued-keeps : (j priority : ℕ) → j < length p.records.endpoints → priority_of (take len buffer.bytes) ≡ priority → Sound (done (frame_queued x.number buffer len headers size j priority) p)
  frame_queued-keeps j priority within says =
      let now = done (frame_queued x.number buffer len headers size j priority) p in
      kept-sound p sound i x there buffer.number apart (take len buffer.bytes) now.book now.records now.requests (waiting-same p.records j (waiting (slot_at x.number buffer.number) priority)) refl
      (queued-places p.records p.requests p.book now.book _ x.number (slot_at x.number buffer.number) buffer headers size len placed_but refl refl small behind inside now.records j priority says refl within)
      (queued-others p.records p.requests p.book now.book _ x.number (slot_at x.number buffer.number) buffer headers size len placed_but refl refl small behind inside now.records j priority says refl within)
      (queued-shelves p.book (slot_at x.number buffer.number) (kept_in_buffer buffer headers size))
      sound.receives

  pub frame_handed-keeps : (id : RequestId) (a : Ask) → IsPending p.requests id → option_map (λ r. r.ask) (request_of p.requests id) ≡ Some a → (at : Local) → receives_at at a ≡ true → Sound (done (frame_handed x.number buffer len headers size id a) p)
  frame_handed-keeps id a pending asks at receives =
      let now = done (frame_handed x.number buffer len headers size id a) p in
      kept-sound p sound i x there buffer.number apart (take len buffer.bytes) now.book now.records now.requests (same-endpoints p.records) refl
      (handed-places p.records p.requests p.book now.book _ x.number (slot_at x.number buffer.number) buffer headers size len placed_but refl refl small behind inside now.requests id a sound.receives pending refl)
      (handed-others p.records p.requests p.book now.book _ x.number (slot_at x.number buffer.number) buffer headers size len placed_but refl refl small behind inside now.requests id a sound.receives pending refl)
      (queued-shelves p.book (slot_at x.number buffer.number) (kept_in_buffer buffer headers size))
      (handed-receives p.records p.requests p.book now.book _ x.number (slot_at x.number buffer.number) buffer headers size len placed_but refl refl small behind inside now.requests id a sound.receives pending refl asks at receives)
