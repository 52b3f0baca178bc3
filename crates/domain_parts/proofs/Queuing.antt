-- A buffer that is queued or received: the table of endpoints after it, and the places.
use Rattle.std.proofs.Common.{◌≡◌, ℕ, ◌+◌, ◌-◌, ◌<◌, ◌≤◌, Bool, true, false, List, [], ◌∷◌, ◌++◌, length, map, Option, None, Some, refl, sym, ap, ◌∙◌, subst, arith, take, drop, eq-eqb}
use Rattle.std.specs.Prelude.{count_by, if◌then◌else◌, not, option_map, position, slice_get, slice_index, ◌==◌}
use Rattle.std.specs.List.{AllByRecursion}
use Rattle.std.proofs.lemmas.Bool.{eqb-true}
use Rattle.std.proofs.lemmas.List.{append-nil, drop-take, get_or-take, length-take, take-take}
use Rattle.byteorder.specs.Endian.{little_number}
use Rattle.byteorder.specs.Numbers.{little_from-take}
use Rattle.mc_base.specs.Bytes.{number_at}
use Rattle.mc_base.specs.Limits.{item_size}
use Rattle.mc_base.specs.Stored.{Stored}
use Rattle.mc_base.specs.Frame.{source_of}
use Rattle.mc_base.specs.declared.name.Local.{Local}
use Rattle.mc_base.specs.declared.request.PacketId.{PacketId}
use Rattle.mc_base.specs.declared.request.RequestId.{RequestId}
use Rattle.mc_base.specs.declared.request.Slot.{Slot}
use Rattle.board_model.specs.Lists.{changed, changed_at}
use Rattle.board_model.specs.State as state
use Rattle.board_model.specs.State.{Item, LentPacket}
use Rattle.board_model.specs.Choice.{best}
use Rattle.domain_parts.specs.PlacedFrames.{complete_with, queued_last}
use Rattle.buffer_book.specs.Book.{AllDiffer, Book, IsAway, Kept, content, kept_in_buffer, slot_of, with_queued}
use Rattle.buffer_book.proofs.ItemLemmas.{single}
use Rattle.message_queue.specs.Queue.{Waiting, waiting}
use Rattle.request_set.specs.declared.ask.Ask.TheVariants as ask
use Rattle.request_set.specs.declared.ask.Complete.{Complete}
use Rattle.request_set.specs.declared.ask.Ask.{Ask}
use Rattle.request_set.specs.Requests.{IsPending, Requests, Standing, is_id, receives_at, request_of, with_complete}
use Rattle.domain_parts.specs.declared.endpoints.Endpoint.{Endpoint}
use Rattle.domain_parts.specs.declared.parts.OpenPart.{OpenPart}
use Rattle.domain_parts.specs.Table.{Held, PartRead, with_held}
use Rattle.domain_parts.specs.Records.{Records, all_waiting, lent_slots, part_slots, waiting_in, with_best_taken, with_waiting, with_waiting_at}
use Rattle.domain_parts.specs.Out.{Out}
use Rattle.domain_parts.specs.InBook.{Whole, channel_of, endpoints_in, held_by, item_in, item_read, numbered_at, open_parts, outcome_in, packets_in, priority_in, priority_of, request_in, requests_in, table_in, whole_at}
use Rattle.domain_parts.specs.InRequests.{AreReceives, Receives, handed_by, handed_slots}
use Rattle.domain_parts.specs.InPlaces.{AreInPlaces, AreInPlacesBut, AreOpen, EachInPlace, IsLentAs, KeepOthers, is_misplaced, one_if, slot_at, slots_of, times_in, times_waiting}
use Rattle.domain_parts.specs.Verdicts.{framed_item, item_with}
use Rattle.domain_parts.proofs.Handed.{packets-stay, requests-stay}
use Rattle.domain_parts.proofs.Leaving.{each-lent}
use Rattle.domain_parts.proofs.OpenParts.{open-stay, parts-stay}
use Rattle.domain_parts.proofs.Books.{Others}
use Rattle.domain_parts.proofs.Placed.{HasMore, IsLane, Stands, away-lent, away-none, in-place, lane-of, stands-of}
use Rattle.domain_parts.proofs.Placing.{in-changes, in-others, in-stands, in-whole, lane-away, lane-in, lane-same}
use Rattle.domain_parts.proofs.Receives.{complete-at, complete_now, each-complete, handed-more, ids-stay, keys-stay, length-stays, map-changed}
use Rattle.domain_parts.proofs.Slots.{handed-has, misplaced-stay, slots, times-all, waiting-has}
use Rattle.domain_parts.proofs.Waits.{endpoints-more, endpoints-stay, waiting-less, waiting-more}

-- ---- what a frame says lies in its buffer

pub content-in_buffer : (bytes : List ℕ) (len headers size : ℕ) → headers + size ≤ length (take len bytes) → take size (drop headers (take len bytes)) ≡ take size (drop headers bytes)
content-in_buffer bytes len headers size fits =
    let bound : headers + size ≤ len = omega (arith, length-take len bytes) in
    let split : len ≡ headers + (len - headers) = omega arith in
    let le : size ≤ len - headers = omega arith in
    ap (λ (n : ℕ). take size (drop headers (take n bytes))) split ∙ ap (λ (xs : List ℕ). take size xs) (drop-take headers (len - headers) bytes) ∙ take-take size (len - headers) (drop headers bytes) le

pub source-in_buffer : (bytes : List ℕ) (len size : ℕ) → 24 + size ≤ length (take len bytes) → source_of (take len bytes) ≡ source_of bytes
source-in_buffer bytes len size fits =
    let bound : 0 + 4 ≤ len = omega (arith, length-take len bytes) in
    little_from-take 0 4 len bytes bound

kind-in_buffer : (bytes : List ℕ) (len size : ℕ) → 24 + size ≤ length (take len bytes) → slice_index (take len bytes) 18 ≡ slice_index bytes 18
kind-in_buffer bytes len size fits =
    let bound : 18 < len = omega (arith, length-take len bytes) in
    get_or-take len bytes 18 0 bound

pub priority-in_buffer : (bytes : List ℕ) (len size : ℕ) → 24 + size ≤ length (take len bytes) → priority_of (take len bytes) ≡ priority_of bytes
priority-in_buffer bytes len size fits =
    let bound : 19 < len = omega (arith, length-take len bytes) in
    ap (λ (k : ℕ). if k == 1 then slice_index (take len bytes) 19 else 0) (kind-in_buffer bytes len size fits)
    ∙ ap (λ (n : ℕ). if slice_index bytes 18 == 1 then n else 0) (get_or-take len bytes 19 0 bound)

pub channel-in_buffer : (bytes : List ℕ) (len size : ℕ) → 24 + size ≤ length (take len bytes) → channel_of (take len bytes) ≡ channel_of bytes
channel-in_buffer bytes len size fits =
    let cut = length-take len bytes in
    let split : len ≡ 20 + (len - 20) = omega (arith, cut) in
    let bound : 0 + 4 ≤ len - 20 = omega (arith, cut) in
    let number : number_at 20 4 (take len bytes) ≡ number_at 20 4 bytes = ap (λ (n : ℕ). number_at 20 4 (take n bytes)) split ∙ ap (little_number 4) (drop-take 20 (len - 20) bytes) ∙ little_from-take 0 4 (len - 20) (drop 20 bytes) bound in
    ap (λ (k : ℕ). if k == 1 then None else Some (number_at 20 4 (take len bytes))) (kind-in_buffer bytes len size fits)
    ∙ ap (λ (n : ℕ). if slice_index bytes 18 == 1 then None else Some n) number

-- ---- a message is queued or handed

matched : (n m : ℕ) → n ≡ m → one_if (not (n == m)) ≡ 0
matched n m same = ap (λ (b : Bool). one_if (not b)) (eq-eqb n m same)

-- how a receive is complete with an item
pub handed-item : (b : Book) (a : Ask) (s : Slot) → outcome_in b (handed_by a s) ≡ state.has_item (numbered_at b s)
handed-item b (ask.Message at max) s = refl
handed-item b (ask.Packet at) s = refl
handed-item b (ask.Lookup name) s = refl
handed-item b (ask.Connect channel) s = refl

pub handed-receives_so : (a : Ask) (s : Slot) (at : Local) → receives_at at a ≡ true → Receives a (Some (handed_by a s))
handed-receives_so (ask.Message l max) s at is = refl
handed-receives_so (ask.Packet l) s at is = tt
handed-receives_so (ask.Lookup name) s at is = absurd cc
handed-receives_so (ask.Connect channel) s at is = absurd cc

-- a buffer of the lane from a peer is put into the book
module _ (r : Records) (q : Requests) (b b' : Book) (p : Out) (peer : ℕ) (s : Slot) (buffer : Stored) (headers size len : ℕ)
    (places : AreInPlacesBut buffer.number peer r q b p) (at : s ≡ slot_at peer buffer.number)
    (book : b' ≡ with_queued b s (kept_in_buffer buffer headers size)) (size_fits : size ≤ item_size) (behind : 24 ≤ headers) (inside : headers + size ≤ length (take len buffer.bytes)) where
  abbrev s' : Slot
  s' = slot_at peer buffer.number

  abbrev k : Kept
  k = kept_in_buffer buffer headers size

  abbrev ws : List Waiting
  ws = all_waiting r.endpoints

  abbrev os : List Slot
  os = part_slots r.parts

  abbrev hs : List Slot
  hs = handed_slots q.standing

  abbrev frame : List ℕ
  frame = take len buffer.bytes

  fits : 24 + size ≤ length frame
  fits = omega (arith, behind, inside)

  book-is : b' ≡ with_queued b s' k
  book-is = book ∙ ap (λ (x : Slot). with_queued b x k) at

  abbrev b2 : Book
  b2 = with_queued b s' k

  st : Stands (slots_of r q) (lent_slots r) b
  st = stands-of (lent_slots r) peer p (slots_of r q) b (buffer.number ∷ []) places.each

  own-lane : IsLane peer p b (buffer.number ∷ [])
  own-lane = lane-of (lent_slots r) peer p (slots_of r q) b (buffer.number ∷ []) places.each

  away : IsAway b s'
  away = lane-away peer p b buffer.number [] own-lane

  -- it stands nowhere yet
  none : times_in s' (slots_of r q) ≡ 0
  none = away-none (slots_of r q) (lent_slots r) b st s' away

  none-waiting : times_waiting s' ws ≡ 0
  none-waiting = omega (arith, none, times-all s' os ws hs)

  none-handed : times_in s' hs ≡ 0
  none-handed = omega (arith, none, times-all s' os ws hs)

  none-open : times_in s' os ≡ 0
  none-open = omega (arith, none, times-all s' os ws hs)

  none-lent : times_in s' (lent_slots r) ≡ 0
  none-lent = away-lent (slots_of r q) (lent_slots r) b st s' away

  here : whole_at b2 s' ≡ Some (record { item = single buffer.number; pieces = k ∷ [] })
  here = in-whole (slots_of r q) (lent_slots r) b st s' away k

  others : Others b b2 s'
  others = in-others (slots_of r q) (lent_slots r) b st s' away k

  short : length (content k) ≤ item_size
  short = omega (arith, length-take size (drop headers buffer.bytes), size_fits)

  -- what is lent is lent in other slots
  lent-still : AllByRecursion (IsLentAs b2) r.lent
  lent-still = each-lent b b2 s' others r.lent none-lent places.lent

  -- what is open stays so
  open-still : AreOpen b2 r.parts
  open-still = open-stay b b2 s' others r.parts none-open places.parts

  -- what was there stays
  stay : held_by b2 r q ≡ held_by b r q
  stay =
      ap (λ (es : List state.Endpoint). record { endpoints = es; requests = requests_in b2 q.standing; lent = packets_in b2 r.lent; parts = open_parts b2 r.parts }) (endpoints-stay b b2 s' others r.endpoints none-waiting)
      ∙ ap (λ (rs : List state.Request). record { endpoints = endpoints_in b r.endpoints; requests = rs; lent = packets_in b2 r.lent; parts = open_parts b2 r.parts }) (requests-stay b b2 s' others q.standing none-handed)
      ∙ ap (λ (ls : List LentPacket). record (held_by b r q) { lent = ls; parts = open_parts b2 r.parts }) (packets-stay b b2 s' others r.lent none-lent)
      ∙ ap (λ (xs : List PartRead). record (held_by b r q) { parts = xs }) (parts-stay b b2 s' others r.parts none-open)

  -- the message of the frame, as many of whose bytes as it has stand in the buffer
  item-is : item_with (buffer.number ∷ []) peer (source_of buffer.bytes) (priority_of buffer.bytes) (channel_of buffer.bytes) (take size (drop headers buffer.bytes) ++ []) ≡ framed_item (buffer.number ∷ []) peer frame headers size
  item-is =
      ap (λ (xs : List ℕ). item_with (buffer.number ∷ []) peer (source_of buffer.bytes) (priority_of buffer.bytes) (channel_of buffer.bytes) xs) (append-nil (take size (drop headers buffer.bytes)))
      ∙ ap (λ (n : ℕ). item_with (buffer.number ∷ []) peer n (priority_of buffer.bytes) (channel_of buffer.bytes) (take size (drop headers buffer.bytes))) (sym (source-in_buffer buffer.bytes len size fits))
      ∙ ap (λ (n : ℕ). item_with (buffer.number ∷ []) peer (source_of frame) n (channel_of buffer.bytes) (take size (drop headers buffer.bytes))) (sym (priority-in_buffer buffer.bytes len size fits))
      ∙ ap (λ (o : Option ℕ). item_with (buffer.number ∷ []) peer (source_of frame) (priority_of frame) o (take size (drop headers buffer.bytes))) (sym (channel-in_buffer buffer.bytes len size fits))
      ∙ ap (λ (xs : List ℕ). item_with (buffer.number ∷ []) peer (source_of frame) (priority_of frame) (channel_of frame) xs) (sym (content-in_buffer buffer.bytes len headers size inside))

  item-here : numbered_at b2 s' ≡ framed_item (buffer.number ∷ []) peer frame headers size
  item-here = ap (λ (o : Option Whole). item_read o s' (priority_in o)) here ∙ item-is

  -- its lane and every other, where it stands among these slots
  own-each : (ts : List Slot) → HasMore s' (slots_of r q) ts → EachInPlace peer p ts (lent_slots r) b2 []
  own-each ts more = in-place (lent_slots r) peer p ts b2 [] (in-stands (slots_of r q) (lent_slots r) b st s' away k ts more short) (lane-in (slots_of r q) (lent_slots r) peer p b buffer.number [] k st away own-lane)

  other-each : (ts : List Slot) → HasMore s' (slots_of r q) ts → (n : ℕ) (o : Out) → (n ≡ peer → ⊥) → AreInPlaces n r q b o → EachInPlace n o ts (lent_slots r) b2 []
  other-each ts more n o differ placed =
      in-place (lent_slots r) n o ts b2 [] (in-stands (slots_of r q) (lent_slots r) b st s' away k ts more short)
      (lane-same n o b b2 [] s' (buffer.number ∷ []) (Some (single buffer.number)) (in-changes (slots_of r q) (lent_slots r) b st s' away k) differ (lane-of (lent_slots r) n o (slots_of r q) b [] placed.each))

  -- ---- into a queue

  module _ (r' : Records) (i priority : ℕ) (says : priority_of frame ≡ priority) (records : r' ≡ with_waiting_at r i (waiting s priority)) where
    abbrev w : Waiting
    w = waiting s' priority

    abbrev vs : List Waiting
    vs = all_waiting (changed_at (with_waiting w) i r.endpoints)

    priority-is : priority ≡ priority_of buffer.bytes
    priority-is = sym says ∙ priority-in_buffer buffer.bytes len size fits

    records-are : r' ≡ with_waiting_at r i w
    records-are = records ∙ ap (λ (x : Slot). with_waiting_at r i (waiting x priority)) at

    more : i < length r.endpoints → HasMore s' (slots_of r q) (os ++ (slots vs ++ hs))
    more lt = waiting-has w os ws vs hs (λ test. waiting-more test w r.endpoints i lt)

    priorities : i < length r.endpoints → count_by (is_misplaced b2) vs ≡ 0
    priorities lt =
        let matches : one_if (is_misplaced b2 w) ≡ 0 = ap (λ (o : Option Whole). one_if (not (priority == priority_in o))) here ∙ matched priority (priority_of buffer.bytes) priority-is in
        omega (arith, waiting-more (is_misplaced b2) w r.endpoints i lt, misplaced-stay b b2 s' others ws none-waiting, places.priorities, matches)

    queued-moved : (n : ℕ) (o : Out) → AreInPlaces n (with_waiting_at r i w) q (with_queued b s' k) o → AreInPlaces n r' q b' o
    queued-moved n o placed = subst (λ (x : Records). AreInPlaces n x q b' o) (sym records-are) (subst (λ (x : Book). AreInPlaces n (with_waiting_at r i w) q x o) (sym book-is) placed)

    pub queued-places : i < length r.endpoints → AreInPlaces peer r' q b' p
    queued-places lt = queued-moved peer p (record {
      each = own-each (os ++ (slots vs ++ hs)) (more lt);
      priorities = priorities lt;
      lent = lent-still;
      parts = open-still;
    })

    pub queued-others : i < length r.endpoints → KeepOthers peer r q b r' q b'
    queued-others lt n o differ placed = queued-moved n o (record {
      each = other-each (os ++ (slots vs ++ hs)) (more lt) n o differ placed;
      priorities = priorities lt;
      lent = lent-still;
      parts = open-still;
    })

    pub queued-table : table_in b' r' q ≡ with_held (table_in b r q) (record (held_by b r q) { endpoints = changed_at (queued_last (framed_item (buffer.number ∷ []) peer frame headers size)) i (endpoints_in b r.endpoints) })
    queued-table =
        let b'' = with_queued b s' k in
        let es = r.endpoints in
        let item : item_in b'' w ≡ item_with (buffer.number ∷ []) peer (source_of buffer.bytes) (priority_of buffer.bytes) (channel_of buffer.bytes) (take size (drop headers buffer.bytes) ++ []) = ap (λ (o : Option Whole). item_read o s' priority) here ∙ ap (λ (n : ℕ). item_with (buffer.number ∷ []) peer (source_of buffer.bytes) n (channel_of buffer.bytes) (take size (drop headers buffer.bytes) ++ [])) priority-is in
        ap (λ (x : Records). table_in b' x q) records-are
        ∙ ap (λ (x : Book). table_in x (with_waiting_at r i w) q) book-is
        ∙ ap (λ (xs : List state.Endpoint). with_held (table_in b r q) (record { endpoints = xs; requests = requests_in b'' q.standing; lent = packets_in b'' r.lent; parts = open_parts b'' r.parts })) (endpoints-more b'' w es i)
        ∙ ap (λ (h : Held). with_held (table_in b r q) (record h { endpoints = changed_at (queued_last (item_in b'' w)) i h.endpoints })) stay
        ∙ ap (λ (x : Item). with_held (table_in b r q) (record (held_by b r q) { endpoints = changed_at (queued_last x) i (endpoints_in b es) })) (item ∙ item-is)

  -- ---- to a request

  module _ (q' : Requests) (id : RequestId) (a : Ask) (receives : AreReceives q) (pending : IsPending q id) (requests : q' ≡ with_complete q id (handed_by a s)) where
    abbrev q'' : Requests
    q'' = with_complete q id (handed_by a s')

    abbrev gs : List Slot
    gs = handed_slots q''.standing

    requests-are : q' ≡ q''
    requests-are = requests ∙ ap (λ (x : Slot). with_complete q id (handed_by a x)) at

    one-handed : HasMore s' (slots_of r q) (os ++ (slots ws ++ gs))
    one-handed = handed-has s' os ws hs gs (λ test. handed-more test id s' a q.standing receives.differ pending)

    handed-moved : (n : ℕ) (o : Out) → AreInPlaces n r q'' (with_queued b s' k) o → AreInPlaces n r q' b' o
    handed-moved n o placed = subst (λ (x : Requests). AreInPlaces n r x b' o) (sym requests-are) (subst (λ (x : Book). AreInPlaces n r q'' x o) (sym book-is) placed)

    pub handed-places : AreInPlaces peer r q' b' p
    handed-places = handed-moved peer p (record {
      each = own-each (os ++ (slots ws ++ gs)) one-handed;
      priorities = misplaced-stay b b2 s' others ws none-waiting ∙ places.priorities;
      lent = lent-still;
      parts = open-still;
    })

    pub handed-others : KeepOthers peer r q b r q' b'
    handed-others n o differ placed = handed-moved n o (record {
      each = other-each (os ++ (slots ws ++ gs)) one-handed n o differ placed;
      priorities = misplaced-stay b b2 s' others ws none-waiting ∙ places.priorities;
      lent = lent-still;
      parts = open-still;
    })

    pub handed-table : table_in b' r q' ≡ with_held (table_in b r q) (record (held_by b r q) { requests = changed (complete_with (framed_item (buffer.number ∷ []) peer frame headers size)) (position (is_id id) q.standing) (requests_in b q.standing) })
    handed-table =
        let b'' = with_queued b s' k in
        let how : Complete = handed_by a s' in
        let place = position (is_id id) q.standing in
        ap (λ (x : Requests). table_in b' r x) requests-are
        ∙ ap (λ (x : Book). table_in x r q'') book-is
        ∙ ap (λ (xs : List Standing). with_held (table_in b r q) (record { endpoints = endpoints_in b'' r.endpoints; requests = requests_in b'' xs; lent = packets_in b'' r.lent; parts = open_parts b'' r.parts })) (complete-at id how q.standing receives.differ)
        ∙ ap (λ (xs : List state.Request). with_held (table_in b r q) (record { endpoints = endpoints_in b'' r.endpoints; requests = xs; lent = packets_in b'' r.lent; parts = open_parts b'' r.parts })) (map-changed (request_in b'') (complete_now how) (complete_with (numbered_at b'' s')) (λ x. ap (λ (o : state.Outcome). record (request_in b'' x) { outcome = Some o }) (handed-item b'' a s')) place q.standing)
        ∙ ap (λ (h : Held). with_held (table_in b r q) (record h { requests = changed (complete_with (numbered_at b'' s')) place h.requests })) stay
        ∙ ap (λ (x : Item). with_held (table_in b r q) (record (held_by b r q) { requests = changed (complete_with x) place (requests_in b q.standing) })) item-here

    pub handed-receives : option_map (λ x. x.ask) (request_of q id) ≡ Some a → (at : Local) → receives_at at a ≡ true → AreReceives q'
    handed-receives asks l receives_it =
        subst AreReceives (sym requests) (record {
          each = each-complete id a (handed_by a s) (handed-receives_so a s l receives_it) q.standing receives.differ asks receives.each;
          differ = subst AllDiffer (sym (keys-stay id (handed_by a s) q.standing)) receives.differ;
          few = let same = length-stays id (handed_by a s) q.standing in let few = receives.few in omega (arith, same, few);
        })

    pub handed-ids : map (λ (x : Standing). x.id) q'.standing ≡ map (λ (x : Standing). x.id) q.standing
    handed-ids = ap (λ (x : Requests). map (λ (y : Standing). y.id) x.standing) requests ∙ ids-stay id (handed_by a s) q.standing

-- ---- a message is received

module _ (r : Records) (q : Requests) (b : Book) (i : ℕ) (w : Waiting) (is : best (λ (x : Waiting). x.priority) (waiting_in (slice_get r.endpoints i)) ≡ Some w) where
  abbrev ws2 : List Waiting
  ws2 = all_waiting r.endpoints

  abbrev vs2 : List Waiting
  vs2 = all_waiting (changed_at with_best_taken i r.endpoints)

  abbrev hs2 : List Slot
  hs2 = handed_slots q.standing

  -- one slot more was there
  pub received-more : HasMore w.slot (part_slots r.parts ++ (slots vs2 ++ hs2)) (slots_of r q)
  received-more = waiting-has w (part_slots r.parts) vs2 ws2 hs2 (λ test. sym (waiting-less test w r.endpoints i is))

  pub received-fewer : count_by (is_misplaced b) vs2 ≤ count_by (is_misplaced b) ws2
  received-fewer = let l = waiting-less (is_misplaced b) w r.endpoints i is in omega (arith, l)

  module _ (number : ℕ) (p : Out) (places : AreInPlaces number r q b p) where
    pub received-priority : w.priority ≡ priority_in (whole_at b w.slot)
    received-priority =
        let none : one_if (is_misplaced b w) ≡ 0 = let l = waiting-less (is_misplaced b) w r.endpoints i is in let all = places.priorities in omega (arith, l, all) in
        eqb-true w.priority (priority_in (whole_at b w.slot)) (matches (w.priority == priority_in (whole_at b w.slot)) none)
      where
        matches : (x : Bool) → one_if (not x) ≡ 0 → x ≡ true
        matches true e = refl
        matches false e = absurd (omega (arith, e))

-- ---- a message is taken out of its queue, wherever it stands

module _ (r : Records) (q : Requests) (b : Book) (es : List Endpoint) (w : Waiting)
    (one-less : (test : Waiting → Bool) → count_by test (all_waiting es) + one_if (test w) ≡ count_by test (all_waiting r.endpoints)) where
  abbrev r4 : Records
  r4 = record r { endpoints = es }

  pub out-more : HasMore w.slot (slots_of r4 q) (slots_of r q)
  out-more = waiting-has w (part_slots r.parts) (all_waiting es) (all_waiting r.endpoints) (handed_slots q.standing) (λ test. sym (one-less test))

  pub out-fewer : count_by (is_misplaced b) (all_waiting es) ≤ count_by (is_misplaced b) (all_waiting r.endpoints)
  out-fewer = let l = one-less (is_misplaced b) in omega (arith, l)

-- ---- what a request held is given back

module _ (r : Records) (q q' : Requests) (b : Book) (s : Slot) (fewer : HasMore s (handed_slots q'.standing) (handed_slots q.standing)) where
  pub ended-more : HasMore s (slots_of r q') (slots_of r q)
  ended-more = handed-has s (part_slots r.parts) (all_waiting r.endpoints) (handed_slots q'.standing) (handed_slots q.standing) fewer

-- ---- a request that holds nothing is gone, or is new

-- what waits and what was handed are the same
pub same-held : (r r' : Records) (q q' : Requests) (b : Book) (number : ℕ) (p : Out) → r'.lent ≡ r.lent → r'.parts ≡ r.parts → all_waiting r'.endpoints ≡ all_waiting r.endpoints → handed_slots q'.standing ≡ handed_slots q.standing → AreInPlaces number r q b p → AreInPlaces number r' q' b p
same-held r r' q q' b number p lends opens waits hands places = record {
  each = subst (λ (ids : List PacketId). EachInPlace number p (slots_of r' q') (map slot_of ids) b []) (sym lends)
      (subst (λ (os : List OpenPart). EachInPlace number p (part_slots os ++ (slots (all_waiting r'.endpoints) ++ handed_slots q'.standing)) (lent_slots r) b []) (sym opens)
      (subst (λ (ws : List Waiting). EachInPlace number p (part_slots r.parts ++ (slots ws ++ handed_slots q'.standing)) (lent_slots r) b []) (sym waits)
      (subst (λ (hs : List Slot). EachInPlace number p (part_slots r.parts ++ (slots (all_waiting r.endpoints) ++ hs)) (lent_slots r) b []) (sym hands) places.each)));
  priorities = ap (count_by (is_misplaced b)) waits ∙ places.priorities;
  lent = subst (AllByRecursion (IsLentAs b)) (sym lends) places.lent;
  parts = subst (AreOpen b) (sym opens) places.parts;
}
