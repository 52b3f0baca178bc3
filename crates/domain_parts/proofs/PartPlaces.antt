-- Open parts that begin, grow, end, or are whole: what the parts of a domain keep.
use Rattle.std.proofs.Common.{◌≡◌, ℕ, ◌+◌, ◌<◌, ◌≤◌, Bool, true, cond, List, [], ◌∷◌, ◌++◌, length, map, drop, take, Option, Some, None, refl, sym, ap, ◌∙◌, subst, arith, eq-eqb}
use Rattle.std.specs.Prelude.{find, is_some, not, option_and_then, option_map, nat_lt, slice_get, ◌==◌}
use Rattle.std.proofs.lemmas.List.{append-nil, length-drop, length-take, length-append}
use Rattle.mc_base.specs.Frame.{source_of}
use Rattle.mc_base.specs.Limits.{domain_limit, item_size}
use Rattle.mc_base.specs.Stored.{Stored}
use Rattle.mc_base.specs.declared.request.RequestId.{RequestId}
use Rattle.mc_base.specs.declared.request.Slot.{Slot}
use Rattle.lane_end.specs.Numbers.{AreApart}
use Rattle.buffer_book.specs.Book.{Book, IsAway, Item, Kept, content, is_state, item_at, kept_in_buffer, with_joined, with_queued}
use Rattle.message_queue.specs.Queue.{Waiting, waiting}
use Rattle.request_set.specs.declared.ask.Ask.{Ask}
use Rattle.request_set.specs.Requests.{IsPending, Requests, receives_at, request_of, with_complete}
use Rattle.mc_base.specs.declared.name.Local.{Local}
use Rattle.domain_parts.specs.declared.parts.OpenPart.{OpenPart}
use Rattle.domain_parts.specs.declared.peer.Peer.{Peer}
use Rattle.domain_parts.specs.InBook.{channel_of, content_in, priority_in, priority_of, whole_at}
use Rattle.domain_parts.specs.InPlaces.{AreInPlaces, AreInPlacesBut, AreOpen, IsOpenAs, IsOpenBy, KeepOthers, is_misplaced, one_if, slot_at, slots_of, times_in, times_waiting}
use Rattle.domain_parts.specs.InRequests.{AreReceives, handed_by, handed_slots}
use Rattle.domain_parts.specs.LaneSeen.{LaneSeen}
use Rattle.domain_parts.specs.Out.{Out, out_of}
use Rattle.domain_parts.specs.Parts.{Parts, Sound, plain}
use Rattle.domain_parts.specs.Pieces.{carrier_channel, carrier_of, carrier_priority}
use Rattle.domain_parts.specs.Records.{Records, all_waiting, lent_slots, part_open, part_slots, with_part_open, with_waiting_at, without_part, without_part_of}
use Rattle.domain_parts.specs.Steps.{done, part_begun, part_grown}
use Rattle.domain_parts.proofs.Books.{Others, queued-shelves, joined-shelves}
use Rattle.domain_parts.proofs.GivingLemmas.{sound-moved}
use Rattle.domain_parts.proofs.Joining.{join-changes, join-content, join-others, join-reads, join-stands, lane-join}
use Rattle.domain_parts.proofs.Leaving.{each-lent}
use Rattle.domain_parts.proofs.OpenParts.{open-stay}
use Rattle.domain_parts.proofs.PartEnds.{are-open, ended-more, ended-opens}
use Rattle.domain_parts.proofs.PartLists.{all-found, all-kept, all-left, found-peer, kept-more, none-gone, none-here, open-more, with-apart}
use Rattle.domain_parts.proofs.Placed.{HasMore, HaveSame, Stands, away-lent, away-none, in-place, lane-of, queued-same, stands-of, stands-slots}
use Rattle.domain_parts.proofs.Placing.{in-changes, in-others, in-stands, in-whole, lane-away, lane-in, lane-same}
use Rattle.domain_parts.proofs.Queuing.{channel-in_buffer, priority-in_buffer, source-in_buffer}
use Rattle.domain_parts.proofs.Slots.{handed-has, misplaced-stay, open-has, times-all, waiting-has}
use Rattle.domain_parts.proofs.TurnSteps.{but-one, kept-sound}
use Rattle.domain_parts.proofs.Waits.{waiting-more}
use Rattle.std.proofs.lemmas.Bool.{lt-ltb}
use Rattle.lane_end.specs.ReceiveMoves.{Took}
use Rattle.buffer_book.specs.Book.{AllDiffer, if_state}
use Rattle.buffer_book.proofs.ItemLemmas.{single}
use Rattle.domain_parts.specs.InBook.{channel_in, source_in}
use Rattle.domain_parts.specs.InPlaces.{is_same}
use Rattle.domain_parts.specs.LaneMoves.{receiver}
use Rattle.domain_parts.specs.Steps.{at_peer, moved_peer}
use Rattle.domain_parts.proofs.Books.{itself}
use Rattle.domain_parts.proofs.GivingLemmas.{number-there}
use Rattle.domain_parts.proofs.Placed.{IsLane, more-queued, queued-not_lent}
use Rattle.domain_parts.proofs.Queuing.{handed-receives_so}
use Rattle.domain_parts.proofs.Receives.{each-complete, handed-more, keys-stay, length-stays}
use Rattle.domain_parts.proofs.Slots.{count-all}
use Rattle.domain_parts.proofs.TurnSteps.{waiting-same}

-- ---- it is whole, and goes to a queue or a request

module _ (p : Parts) (sound : Sound p) (o : OpenPart) (found : part_open p.records o.slot.peer ≡ Some o) where
  abbrev s : Slot
  s = o.slot

  abbrev ended_now : Records
  ended_now = without_part_of p.records s.peer

  open-is : IsOpenAs p.book o
  open-is = all-found (IsOpenAs p.book) s.peer p.records.parts o (are-open p sound o found).each found

  module _ (j priority : ℕ) (within : j < length p.records.endpoints) (says : carrier_priority (carrier_of o) ≡ priority) where
    abbrev w : Waiting
    w = waiting s priority

    abbrev queued_records : Records
    queued_records = with_waiting_at ended_now j w

    queued-slots : HaveSame (slots_of p.records p.requests) (slots_of queued_records p.requests)
    queued-slots test =
        let less = ended-more p sound o found test in
        let has = waiting-has w (part_slots ended_now.parts) (all_waiting p.records.endpoints) (all_waiting queued_records.endpoints) (handed_slots p.requests.standing) (λ t. waiting-more t w p.records.endpoints j within) test in
        omega (arith, less, has)

    matches : one_if (is_misplaced p.book w) ≡ 0
    matches = ap (λ (n : ℕ). one_if (not (priority == n))) (open-is.priority ∙ says) ∙ ap (λ (c : Bool). one_if (not c)) (eq-eqb priority priority refl)

    pub part_queued-keeps : Sound (record p { records = queued_records })
    part_queued-keeps =
        sound-moved plain p.book p.records queued_records p.requests p.requests p.table p.peers
        (record { number = refl; given = refl; room = refl; live = (waiting-same p.records j w).live }) refl (ended-opens p sound o found p.book) queued-slots
        (omega (arith, waiting-more (is_misplaced p.book) w p.records.endpoints j within, matches)) sound.receives sound

  module _ (id : RequestId) (a : Ask) (pending : IsPending p.requests id) (asks : option_map (λ r. r.ask) (request_of p.requests id) ≡ Some a) (at : Local) (receives : receives_at at a ≡ true) where
    abbrev handed_requests : Requests
    handed_requests = with_complete p.requests id (handed_by a s)

    handed-slots : HaveSame (slots_of p.records p.requests) (slots_of ended_now handed_requests)
    handed-slots test =
        let less = ended-more p sound o found test in
        let has = handed-has s (part_slots ended_now.parts) (all_waiting p.records.endpoints) (handed_slots p.requests.standing) (handed_slots handed_requests.standing) (λ t. handed-more t id s a p.requests.standing sound.receives.differ pending) test in
        omega (arith, less, has)

    pub part_handed-receives : AreReceives handed_requests
    part_handed-receives = record {
      each = each-complete id a (handed_by a s) (handed-receives_so a s at receives) p.requests.standing sound.receives.differ asks sound.receives.each;
      differ = subst AllDiffer (sym (keys-stay id (handed_by a s) p.requests.standing)) sound.receives.differ;
      few = let same = length-stays id (handed_by a s) p.requests.standing in let few = sound.receives.few in omega (arith, same, few);
    }

    pub part_handed-keeps : Sound (record p { records = ended_now; requests = handed_requests })
    part_handed-keeps =
        sound-moved plain p.book p.records ended_now p.requests handed_requests p.table p.peers
        (record { number = refl; given = refl; room = refl; live = refl }) refl (ended-opens p sound o found p.book) handed-slots (omega arith) part_handed-receives sound

-- ---- a frame that is taken begins a part, or goes on with the open one

-- a peer has a number of a domain
pub few-peer : (p : Parts) → Sound p → (i : ℕ) (x : Peer LaneSeen) → slice_get p.peers i ≡ Some x → nat_lt x.number domain_limit ≡ true
few-peer p sound i x there = let most = number-there (λ n. n ≤ 7) p.peers i x sound.peers.few there in lt-ltb x.number domain_limit (omega (arith, most))

-- it has room for the piece, behind 28 bytes of headers
pub record HasPiece (buffer : Stored) (len size : ℕ) : Type 0 where
  pub inside : 28 + size ≤ length (take len buffer.bytes)

-- so many bytes of it are the piece'one
piece-size : (buffer : Stored) (len size : ℕ) → HasPiece buffer len size → length (content (kept_in_buffer buffer 28 size)) ≡ size
piece-size buffer len size has =
    let inside = has.inside in
    let cut = length-take len buffer.bytes in
    let behind = length-drop 28 buffer.bytes in
    let all = length-take size (drop 28 buffer.bytes) in
    omega (arith, inside, cut, behind, all)

module _ (p : Parts) (sound : Sound p) (i : ℕ) (x : Peer LaneSeen) (there : slice_get p.peers i ≡ Some x) (buffer : Stored) (len : ℕ) (apart : AreApart x.ends.size_from (x.ends.out ++ buffer.number ∷ [])) where
  abbrev frame : List ℕ
  frame = take len buffer.bytes

  abbrev q : Requests
  q = p.requests

  abbrev r : Records
  r = p.records

  abbrev ws : List Waiting
  ws = all_waiting r.endpoints

  abbrev hs : List Slot
  hs = handed_slots q.standing

  abbrev now_out : Out
  now_out = out_of x.ends.size_from (x.ends.out ++ buffer.number ∷ [])

  places : AreInPlacesBut buffer.number x.number r q p.book now_out
  places = but-one p sound i x there buffer.number apart

  -- ---- it begins one

  module _ (o : OpenPart) (slot : o.slot ≡ slot_at x.number buffer.number) (closed : part_open r x.number ≡ None) (has : HasPiece buffer len o.size)
      (source : source_of frame ≡ o.source) (priority : priority_of frame ≡ carrier_priority (carrier_of o)) (channel : channel_of frame ≡ carrier_channel (carrier_of o)) (within : o.size ≤ o.total) (most : o.total ≤ item_size) where
    abbrev one : Slot
    one = slot_at x.number buffer.number

    abbrev k : Kept
    k = kept_in_buffer buffer 28 o.size

    abbrev pub begun_book : Book
    begun_book = with_queued p.book one k

    abbrev r2 : Records
    r2 = with_part_open r o

    st : Stands (slots_of r q) (lent_slots r) p.book
    st = stands-of (lent_slots r) x.number now_out (slots_of r q) p.book (buffer.number ∷ []) places.each

    away : IsAway p.book one
    away = lane-away x.number now_out p.book buffer.number [] (lane-of (lent_slots r) x.number now_out (slots_of r q) p.book (buffer.number ∷ []) places.each)

    pub begun-rest : Others p.book begun_book one
    begun-rest = in-others (slots_of r q) (lent_slots r) p.book st one away k

    pub begun-here : whole_at begun_book one ≡ Some (record { item = single buffer.number; pieces = k ∷ [] })
    begun-here = in-whole (slots_of r q) (lent_slots r) p.book st one away k

    none : times_in one (slots_of r q) ≡ 0
    none = away-none (slots_of r q) (lent_slots r) p.book st one away

    pub begun-open : times_in one (part_slots r.parts) ≡ 0
    begun-open = omega (arith, none, times-all one (part_slots r.parts) ws hs)

    pub begun-waiting : times_waiting one ws ≡ 0
    begun-waiting = omega (arith, none, times-all one (part_slots r.parts) ws hs)

    pub begun-handed : times_in one hs ≡ 0
    begun-handed = omega (arith, none, times-all one (part_slots r.parts) ws hs)

    pub begun-lent : times_in one (lent_slots r) ≡ 0
    begun-lent = away-lent (slots_of r q) (lent_slots r) p.book st one away

    none-of : without_part o.slot.peer r.parts ≡ r.parts
    none-of = none-gone o.slot.peer r.parts (ap (λ (t : Slot). find (λ (z : OpenPart). z.slot.peer == t.peer) r.parts) slot ∙ closed)

    more : HasMore one (slots_of r q) (slots_of r2 q)
    more = open-has one (part_slots r.parts) (part_slots r2.parts) ws hs (subst (λ (t : Slot). HasMore t (part_slots r.parts) (part_slots r2.parts)) slot (subst (λ (os : List OpenPart). HasMore o.slot (part_slots os) (part_slots r2.parts)) none-of (kept-more o r.parts)))

    long : length (content k) ≡ o.size
    long = piece-size buffer len o.size has

    new-open : IsOpenAs begun_book o
    new-open =
        let inside : 24 + o.size ≤ length frame = let inside = has.inside in omega (arith, inside) in
        subst (λ (t : Slot). IsOpenBy (whole_at begun_book t) o) (sym slot)
        (record {
          size = ap (λ w. length (content_in w)) begun-here ∙ ap length (append-nil (content k)) ∙ long;
          source = ap source_in begun-here ∙ sym (source-in_buffer buffer.bytes len o.size inside) ∙ source;
          priority = ap priority_in begun-here ∙ sym (priority-in_buffer buffer.bytes len o.size inside) ∙ priority;
          channel = ap channel_in begun-here ∙ sym (channel-in_buffer buffer.bytes len o.size inside) ∙ channel;
          within = within;
          most = most;
        })

    open-now : AreOpen begun_book r2.parts
    open-now =
        let was = open-stay p.book begun_book one begun-rest r.parts begun-open places.parts in
        record {
          each = all-kept (IsOpenAs begun_book) (without_part o.slot.peer r.parts) o (all-left (IsOpenAs begun_book) o.slot.peer r.parts was.each) new-open;
          apart = with-apart o r.parts was.apart (ap (λ (t : Slot). nat_lt t.peer domain_limit) slot ∙ few-peer p sound i x there);
        }

    in_short : length (content k) ≤ item_size
    in_short = omega (arith, long, within, most)

    begun-each : AreInPlaces x.number r2 q begun_book now_out
    begun-each = record {
      each = in-place (lent_slots r) x.number now_out (slots_of r2 q) begun_book [] (in-stands (slots_of r q) (lent_slots r) p.book st one away k (slots_of r2 q) more in_short) (lane-in (slots_of r q) (lent_slots r) x.number now_out p.book buffer.number [] k st away (lane-of (lent_slots r) x.number now_out (slots_of r q) p.book (buffer.number ∷ []) places.each));
      priorities = misplaced-stay p.book begun_book one begun-rest ws begun-waiting ∙ places.priorities;
      lent = each-lent p.book begun_book one begun-rest r.lent begun-lent places.lent;
      parts = open-now;
    }

    begun-others : KeepOthers x.number r q p.book r2 q begun_book
    begun-others n o' differ placed = record {
      each = in-place (lent_slots r) n o' (slots_of r2 q) begun_book [] (in-stands (slots_of r q) (lent_slots r) p.book st one away k (slots_of r2 q) more in_short) (lane-same n o' p.book begun_book [] one (buffer.number ∷ []) _ (in-changes (slots_of r q) (lent_slots r) p.book st one away k) differ (lane-of (lent_slots r) n o' (slots_of r q) p.book [] placed.each));
      priorities = misplaced-stay p.book begun_book one begun-rest ws begun-waiting ∙ places.priorities;
      lent = each-lent p.book begun_book one begun-rest r.lent begun-lent places.lent;
      parts = open-now;
    }

    pub part_begun-keeps : Sound (done (part_begun o buffer len) p)
    part_begun-keeps =
        subst (λ (t : Slot). Sound (record { book = with_queued p.book t k; records = r2; requests = q; table = p.table; peers = map (moved_peer (at_peer t.peer (receiver (Took buffer.number frame) ∷ []))) p.peers })) (sym slot)
        (kept-sound p sound i x there buffer.number apart frame begun_book r2 q (record { number = refl; given = refl; room = refl; live = refl }) refl begun-each begun-others (queued-shelves p.book one k) sound.receives)

  -- ---- it goes on with the open one

  module _ (o : OpenPart) (found : part_open r x.number ≡ Some o) (size : ℕ) (has : HasPiece buffer len size) (within : o.size + size ≤ o.total) where
    abbrev pub grown : OpenPart
    grown = record o { size = o.size + size }

    abbrev t : Slot
    t = o.slot

    abbrev c : Kept
    c = kept_in_buffer buffer 28 size

    abbrev pub grown_book : Book
    grown_book = with_joined p.book t c

    abbrev r3 : Records
    r3 = with_part_open r grown

    pub grown-own : o.slot.peer ≡ x.number
    grown-own = found-peer x.number r.parts o found

    pub grown-its : part_open r o.slot.peer ≡ Some o
    grown-its = ap (λ (m : ℕ). part_open r m) grown-own ∙ found

    pub grown-stand : Stands (slots_of r q) (lent_slots r) p.book
    grown-stand = stands-of (lent_slots r) x.number now_out (slots_of r q) p.book (buffer.number ∷ []) places.each

    less : HasMore t (slots_of (without_part_of r o.slot.peer) q) (slots_of r q)
    less = ended-more p sound o grown-its

    pub grown-item : (z : Item) × (item_at p.book t ≡ Some z) × (is_state z.lent None ≡ true)
    grown-item = queued-same (item_at p.book t) (more-queued (slots_of r q) (lent_slots r) p.book grown-stand t (slots_of (without_part_of r o.slot.peer) q) less)

    pub grown-apart : IsAway p.book (slot_at t.peer buffer.number)
    grown-apart = subst (λ (m : ℕ). IsAway p.book (slot_at m buffer.number)) (sym grown-own) (lane-away x.number now_out p.book buffer.number [] (lane-of (lent_slots r) x.number now_out (slots_of r q) p.book (buffer.number ∷ []) places.each))

    pub grown-was : IsOpenAs p.book o
    grown-was = all-found (IsOpenAs p.book) x.number r.parts o places.parts.each found

    piece-long : length (content c) ≡ size
    piece-long = piece-size buffer len size has

    joined_short : length (content_in (whole_at p.book t)) + length (content c) ≤ item_size
    joined_short = let was = grown-was.size in let most = grown-was.most in omega (arith, was, most, piece-long, within)

    pub grown-others : Others p.book grown_book t
    grown-others = join-others (slots_of r q) (lent_slots r) p.book grown-stand t grown-item.0 grown-item.1 grown-item.2 c grown-apart

    same-slots : HaveSame (slots_of r q) (slots_of r3 q)
    same-slots test =
        let gone = open-more o.slot.peer r.parts o places.parts.apart grown-its test in
        let new = kept-more grown r.parts test in
        omega (arith, gone, new, count-all test (part_slots r.parts) ws hs, count-all test (part_slots r3.parts) ws hs)

    -- it stands among the open parts alone
    once-open : 0 < times_in t (part_slots r.parts)
    once-open = let gone = open-more o.slot.peer r.parts o places.parts.apart grown-its (λ (z : Slot). is_same z t) in let one : one_if (is_same t t) ≡ 1 = ap one_if (itself t) in omega (arith, gone, one)

    once : times_in t (slots_of r q) ≡ 1
    once = grown-stand.stands_once t ∙ ap (λ (w : Option Item). one_if (is_some (option_and_then (if_state None) w))) grown-item.1 ∙ ap (λ (y : Bool). one_if (is_some (cond y (Some grown-item.0) None))) grown-item.2

    pub grown-waiting : times_waiting t ws ≡ 0
    grown-waiting = omega (arith, once, once-open, times-all t (part_slots r.parts) ws hs)

    pub grown-handed : times_in t hs ≡ 0
    grown-handed = omega (arith, once, once-open, times-all t (part_slots r.parts) ws hs)

    pub grown-lent : times_in t (lent_slots r) ≡ 0
    grown-lent = queued-not_lent (slots_of r q) (lent_slots r) p.book grown-stand t (more-queued (slots_of r q) (lent_slots r) p.book grown-stand t (slots_of (without_part_of r o.slot.peer) q) less)

    new-part : IsOpenAs grown_book grown
    new-part =
        let reads = join-reads (slots_of r q) (lent_slots r) p.book grown-stand t grown-item.0 grown-item.1 grown-item.2 c grown-apart in
        let all = ap length (join-content (slots_of r q) (lent_slots r) p.book grown-stand t grown-item.0 grown-item.1 grown-item.2 c grown-apart) ∙ length-append (content_in (whole_at p.book t)) (content c) in
        let was = grown-was.size in
        record {
          size = omega (arith, all, was, piece-long);
          source = reads.0 ∙ grown-was.source;
          priority = reads.1 ∙ grown-was.priority;
          channel = reads.2 ∙ grown-was.channel;
          within = within;
          most = grown-was.most;
        }

    open-grown : AreOpen grown_book r3.parts
    open-grown =
        let left = open-stay p.book grown_book t grown-others (without_part t.peer r.parts) (none-here t r.parts) (ended-opens p sound o grown-its p.book places.parts) in
        record {
          each = all-kept (IsOpenAs grown_book) (without_part t.peer r.parts) grown left.each new-part;
          apart = with-apart grown r.parts places.parts.apart (subst (λ (m : ℕ). nat_lt m domain_limit ≡ true) (sym grown-own) (few-peer p sound i x there));
        }

    grown-stands : Stands (slots_of r3 q) (lent_slots r) grown_book
    grown-stands = stands-slots (slots_of r q) (slots_of r3 q) (lent_slots r) grown_book same-slots (join-stands (slots_of r q) (lent_slots r) p.book grown-stand t grown-item.0 grown-item.1 grown-item.2 c grown-apart joined_short)

    grown-lane : IsLane x.number now_out grown_book []
    grown-lane = subst (λ (m : ℕ). IsLane m now_out grown_book []) grown-own (lane-join (slots_of r q) (lent_slots r) p.book grown-stand t grown-item.0 grown-item.1 grown-item.2 c grown-apart now_out [] (subst (λ (m : ℕ). IsLane m now_out p.book (buffer.number ∷ [])) (sym grown-own) (lane-of (lent_slots r) x.number now_out (slots_of r q) p.book (buffer.number ∷ []) places.each)))

    grown-each : AreInPlaces x.number r3 q grown_book now_out
    grown-each = record {
      each = in-place (lent_slots r) x.number now_out (slots_of r3 q) grown_book [] grown-stands grown-lane;
      priorities = misplaced-stay p.book grown_book t grown-others ws grown-waiting ∙ places.priorities;
      lent = each-lent p.book grown_book t grown-others r.lent grown-lent places.lent;
      parts = open-grown;
    }

    grown-keep : KeepOthers x.number r q p.book r3 q grown_book
    grown-keep m out differ placed = record {
      each = in-place (lent_slots r) m out (slots_of r3 q) grown_book [] grown-stands (lane-same m out p.book grown_book [] t (buffer.number ∷ []) _ (join-changes (slots_of r q) (lent_slots r) p.book grown-stand t grown-item.0 grown-item.1 grown-item.2 c grown-apart) (λ same. differ (same ∙ grown-own)) (lane-of (lent_slots r) m out (slots_of r q) p.book [] placed.each));
      priorities = misplaced-stay p.book grown_book t grown-others ws grown-waiting ∙ places.priorities;
      lent = each-lent p.book grown_book t grown-others r.lent grown-lent places.lent;
      parts = open-grown;
    }

    pub part_grown-keeps : Sound (done (part_grown grown buffer len size) p)
    part_grown-keeps =
        subst (λ (m : ℕ). Sound (record { book = grown_book; records = r3; requests = q; table = p.table; peers = map (moved_peer (at_peer m (receiver (Took buffer.number frame) ∷ []))) p.peers })) (sym grown-own)
        (kept-sound p sound i x there buffer.number apart frame grown_book r3 q (record { number = refl; given = refl; room = refl; live = refl }) refl grown-each grown-keep (joined-shelves p.book t c) sound.receives)
