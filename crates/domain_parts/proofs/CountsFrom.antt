-- How many frames from a peer are held, by the lists of slots and by the book.
use Rattle.std.proofs.Common.{◌≡◌, ℕ, zero, suc, ◌+◌, ◌*◌, ◌<◌, ◌≤◌, Bool, true, false, cond, List, [], ◌∷◌, ◌++◌, length, map, take, Option, Some, None, refl, sym, ap, ◌∙◌, subst, arith, eq-eqb, length-append, ne_eqb, is_some, add-one, ap₂}
use Rattle.std.specs.Prelude.{count_by, filter, is_none, nat_lt, option_and_then, option_map, position, slice_get, sum_by, ◌==◌, ◌-◌}
use Rattle.std.specs.List.{AllByRecursion, flat_map}
use Rattle.std.proofs.lemmas.Bool.{eqb-true, ltb-true, ltb-false}
use Rattle.std.proofs.lemmas.List.{length-map, take_all, map-append}
use Rattle.std.proofs.lemmas.List.Sums.{sum_by-append, sum_by-cons}
use Rattle.std.proofs.lemmas.Simd.{map-map}
use Rattle.mc_base.specs.declared.request.PacketId.{PacketId}
use Rattle.mc_base.specs.declared.request.Slot.{Slot}
use Rattle.board_model.specs.State as state
use Rattle.board_model.specs.State.{Item, LentPacket, Request, frames_from, is_from, lent_from, queued_from, HeldFrame, holds_from}
use Rattle.board_model.proofs.ListsCounts.{count-cons}
use Rattle.buffer_book.specs.Book as book
use Rattle.buffer_book.specs.Book.{AreNone, Aside, Book, IsQueued, Shelf, aside_frames, count_of, frames_of, if_state, is_state, item_at, item_on, kept_at, lent_frames, queued_at, queued_frames, shelf_of, slot_of}
use Rattle.endpoint_table.specs.Table as endpoint_table
use Rattle.lane_end.specs.Numbers.{often}
use Rattle.lane_end.specs.ReceiverContract.{without}
use Rattle.lane_end.proofs.CountLemmas.{length-apart, often-append, often-without, tick, tick-same}
use Rattle.message_queue.specs.Queue.{Waiting}
use Rattle.request_set.specs.Requests.{Requests, Standing}
use Rattle.domain_parts.specs.LaneSeen.{LaneSeen}
use Rattle.domain_parts.specs.declared.peer.Peer.{Peer}
use Rattle.domain_parts.specs.AllMoved.{numbers_of}
use Rattle.domain_parts.specs.InBook.{frames_at, frames_count, item_in, numbered_at, packet_in, packets_in, requests_in, slot_at, open_parts}
use Rattle.domain_parts.specs.InPlaces.{AreInPlaces, has_frame, is_of, is_same, one_if, slots_of, times_in}
use Rattle.domain_parts.specs.InRequests.{handed_slots, slots_in}
use Rattle.domain_parts.specs.Peers.{state_in, held_in}
use Rattle.domain_parts.specs.Records.{Records, all_waiting, lent_slots, part_slots}
use Rattle.domain_parts.specs.Sound.{AreRising, AreSound, IsSized, out_at, outs_count}
use Rattle.domain_parts.proofs.Books.{frames-some, itself}
use Rattle.domain_parts.proofs.Fitting.{buffers, buffers-often, held-fits, length-within}
use Rattle.domain_parts.proofs.GivingLemmas.{all-stand}
use Rattle.domain_parts.proofs.Handed.{Listing, items-handed, listing, none-listed, none-past, nothing-there}
use Rattle.domain_parts.proofs.PeerPlaces.{All-at, peer-at}
use Rattle.domain_parts.proofs.Placed.{Stands, frame-parts, no-frame, one-there}
use Rattle.domain_parts.proofs.Slots.{length-all, slots, times-all}
use Rattle.domain_parts.proofs.Waits.{items-are}
use Rattle.domain_parts.specs.declared.parts.OpenPart.{OpenPart}
use Rattle.board_model.specs.Change.{held_as}
use Rattle.std.proofs.lemmas.List.Elements.{filter-append}

-- ---- frames of the items that slots name

-- how many frames a slot of a peer names
abbrev weight : Book → ℕ → Slot → ℕ
weight b peer s = cond (is_of peer s) (length (frames_at b s)) 0

module _ (b : Book) (peer : ℕ) {X : Type 0} (item : X → Item) (slot : X → Slot) (one : (x : X) → ((item x).peer ≡ (slot x).peer) × ((item x).frames ≡ frames_at b (slot x))) where
  frames-counted : (xs : List X) → length (frames_from peer (map item xs)) ≡ sum_by (λ x. weight b peer (slot x)) xs
  frames-counted [] = refl
  frames-counted (x ∷ xs) =
      go ((item x).peer == peer) (frames-counted xs)
      ∙ ap (λ (n : ℕ). cond (n == peer) (length (frames_at b (slot x))) 0 + sum_by (λ y. weight b peer (slot y)) xs) (one x).0
      ∙ sym (sum_by-cons (λ y. weight b peer (slot y)) x xs)
    where
      go : (t : Bool) → length (frames_from peer (map item xs)) ≡ sum_by (λ y. weight b peer (slot y)) xs
          → length (flat_map (λ (i : Item). i.frames) (cond t (item x ∷ filter (is_from peer) (map item xs)) (filter (is_from peer) (map item xs)))) ≡ cond t (length (frames_at b (slot x))) 0 + sum_by (λ y. weight b peer (slot y)) xs
      go true rest = let is = ap (λ (ns : List ℕ). length (ns ++ frames_from peer (map item xs))) (one x).1 in let both = length-append (frames_at b (slot x)) (frames_from peer (map item xs)) in omega (arith, rest, is, both)
      go false rest = omega (arith, rest)

pub count-sum : (b : Book) (peer : ℕ) (ss : List Slot) → frames_count b peer ss ≡ sum_by (weight b peer) ss
count-sum b peer ss = frames-counted b peer (numbered_at b) (λ s. s) (λ s. (refl, refl)) ss

sum-map : {X : Type 0} (f : Slot → ℕ) (g : X → Slot) (xs : List X) → sum_by f (map g xs) ≡ sum_by (λ x. f (g x)) xs
sum-map f g [] = refl
sum-map f g (x ∷ xs) = sum_by-cons f (g x) (map g xs) ∙ ap (λ (n : ℕ). f (g x) + n) (sum-map f g xs) ∙ sym (sum_by-cons (λ y. f (g y)) x xs)

pub count-both : (b : Book) (peer : ℕ) (ss ts : List Slot) → frames_count b peer (ss ++ ts) ≡ frames_count b peer ss + frames_count b peer ts
count-both b peer ss ts = count-sum b peer (ss ++ ts) ∙ sum_by-append (weight b peer) ss ts ∙ (let one = count-sum b peer ss in let two = count-sum b peer ts in omega (arith, one, two))

waiting-from : (b : Book) (peer : ℕ) (ws : List Waiting) → length (frames_from peer (map (item_in b) ws)) ≡ frames_count b peer (slots ws)
waiting-from b peer ws = frames-counted b peer (item_in b) (λ w. w.slot) (λ w. (refl, refl)) ws ∙ sym (sum-map (weight b peer) (λ (w : Waiting). w.slot) ws) ∙ sym (count-sum b peer (slots ws))

packets-from : (b : Book) (peer : ℕ) (ids : List PacketId) → length (frames_from peer (map (λ (p : LentPacket). p.item) (packets_in b ids))) ≡ frames_count b peer (map slot_of ids)
packets-from b peer ids =
    ap (λ (is : List Item). length (frames_from peer is)) (map-map (λ (p : LentPacket). p.item) (packet_in b) ids)
    ∙ frames-counted b peer (λ i. numbered_at b (slot_of i)) slot_of (λ i. (refl, refl)) ids
    ∙ sym (sum-map (weight b peer) slot_of ids) ∙ sym (count-sum b peer (map slot_of ids))

frames-both : (peer : ℕ) (is js : List Item) → length (frames_from peer (is ++ js)) ≡ length (frames_from peer is) + length (frames_from peer js)
frames-both peer [] js = omega arith
frames-both peer (i ∷ is) js = go (i.peer == peer) (frames-both peer is js)
  where
    go : (t : Bool) → length (frames_from peer (is ++ js)) ≡ length (frames_from peer is) + length (frames_from peer js)
        → length (flat_map (λ (x : Item). x.frames) (cond t (i ∷ filter (is_from peer) (is ++ js)) (filter (is_from peer) (is ++ js)))) ≡ length (flat_map (λ (x : Item). x.frames) (cond t (i ∷ filter (is_from peer) is) (filter (is_from peer) is))) + length (frames_from peer js)
    go true rest = omega (arith, rest, length-append i.frames (frames_from peer (is ++ js)), length-append i.frames (frames_from peer is))
    go false rest = rest

-- the frames of open parts
pub held-is : (b : Book) (peer : ℕ) (os : List OpenPart) → map (λ (h : HeldFrame). h.name) (filter (holds_from peer) (held_in (open_parts b os))) ≡ frames_from peer (map (numbered_at b) (part_slots os))
held-is b peer [] = refl
held-is b peer (o ∷ os) =
    ap (map (λ (h : HeldFrame). h.name)) (filter-append (holds_from peer) (map (held_as o.slot.peer) names) (held_in (open_parts b os)))
    ∙ map-append (λ (h : HeldFrame). h.name) (filter (holds_from peer) (map (held_as o.slot.peer) names)) (filter (holds_from peer) (held_in (open_parts b os)))
    ∙ ap₂ (λ (xs ys : List ℕ). xs ++ ys) (own names) (held-is b peer os)
    ∙ all (o.slot.peer == peer)
  where
    names : List ℕ
    names = frames_at b o.slot

    own : (ns : List ℕ) → map (λ (h : HeldFrame). h.name) (filter (holds_from peer) (map (held_as o.slot.peer) ns)) ≡ cond (o.slot.peer == peer) ns []
    own [] = empty (o.slot.peer == peer) []
      where
        empty : (c : Bool) (xs : List ℕ) → xs ≡ cond c xs xs
        empty true xs = refl
        empty false xs = refl
    own (n ∷ ns) = go (o.slot.peer == peer) (own ns)
      where
        go : (c : Bool) → map (λ (h : HeldFrame). h.name) (filter (holds_from peer) (map (held_as o.slot.peer) ns)) ≡ cond c ns [] → map (λ (h : HeldFrame). h.name) (cond c (held_as o.slot.peer n ∷ filter (holds_from peer) (map (held_as o.slot.peer) ns)) (filter (holds_from peer) (map (held_as o.slot.peer) ns))) ≡ cond c (n ∷ ns) []
        go true rest = ap (λ (xs : List ℕ). n ∷ xs) rest
        go false rest = rest

    all : (c : Bool) → cond c names [] ++ frames_from peer (map (numbered_at b) (part_slots os)) ≡ flat_map (λ (i : Item). i.frames) (cond c (numbered_at b o.slot ∷ filter (is_from peer) (map (numbered_at b) (part_slots os))) (filter (is_from peer) (map (numbered_at b) (part_slots os))))
    all true = refl
    all false = refl

-- as the state tells them
module _ {L : Type 0} (v : L → LaneSeen) (b : Book) (r : Records) (q : Requests) (t : endpoint_table.Table) (ps : List (Peer L)) (peer : ℕ) where
  pub queued-is : queued_from peer (state_in v b r q t ps) ≡ frames_count b peer (slots (all_waiting r.endpoints)) + frames_count b peer (part_slots r.parts)
  queued-is =
      let is = ap (λ (is : List Item). length (frames_from peer is)) (items-are b r.endpoints) ∙ waiting-from b peer (all_waiting r.endpoints) in
      let held = ap length (held-is b peer r.parts) in
      omega (arith, is, held)

  pub lent-is : lent_from peer (state_in v b r q t ps) ≡ frames_count b peer (lent_slots r) + frames_count b peer (handed_slots q.standing)
  lent-is =
      let packets = map (λ (p : LentPacket). p.item) (packets_in b r.lent) in
      let handed = flat_map (λ (x : Request). state.item_in x.outcome) (requests_in b q.standing) in
      let lent = packets-from b peer r.lent in
      let hands = ap (λ (is : List Item). length (frames_from peer is)) (items-handed b q.standing) in
      omega (arith, lent, hands, frames-both peer packets handed)

-- ---- what the book has of a peer

none-often : (xs : List ℕ) → ((n : ℕ) → often n xs ≡ 0) → xs ≡ []
none-often [] none = refl
none-often (x ∷ xs) none = absurd (omega (arith, none x, tick-same x x refl))

sum-without : (w : ℕ → ℕ) (a : ℕ) (xs : List ℕ) → 0 < often a xs → sum_by w xs ≡ w a + sum_by w (without a xs)
sum-without w a [] some = absurd (let none : often a [] ≡ 0 = refl in omega (arith, none, some))
sum-without w a (x ∷ xs) some = go (x == a) refl (λ left. sum-without w a xs left)
  where
    go : (b : Bool) → (x == a) ≡ b → (0 < often a xs → sum_by w xs ≡ w a + sum_by w (without a xs)) → sum_by w (x ∷ xs) ≡ w a + sum_by w (cond (x == a) xs (x ∷ without a xs))
    go true same later = sum_by-cons w x xs ∙ ap (λ (n : ℕ). w n + sum_by w xs) (eqb-true x a same) ∙ ap (λ (c : Bool). w a + sum_by w (cond c xs (x ∷ without a xs))) (sym same)
    go false other later =
        let none : tick x a ≡ 0 = ap (λ (c : Bool). cond c 1 0) other in
        let rest = later (omega (arith, none, some)) in
        let here = sum_by-cons w x (without a xs) in
        sum_by-cons w x xs ∙ omega (arith, rest, here) ∙ ap (λ (c : Bool). w a + sum_by w (cond c xs (x ∷ without a xs))) (sym other)

-- the items of one kind at the names from `a` on
module _ (kind : book.Item → Bool) where
  abbrev is_kind : Option book.Item → Bool
  is_kind None = false
  is_kind (Some i) = kind i

  abbrev counted : Option book.Item → ℕ
  counted None = 0
  counted (Some i) = cond (kind i) (count_of i) 0

  -- numbers that stand once where a name has such an item, and no others, have as many frames as these items
  abbrev AreCounted : List (Option book.Item) → Type 0
  AreCounted items = (a : ℕ) (w : ℕ → ℕ) (xs : List ℕ) → ((n : ℕ) → n < a → often n xs ≡ 0) → ((n : ℕ) → often (a + n) xs ≡ one_if (is_kind (item_on items n))) → ((n : ℕ) (i : book.Item) → item_on items n ≡ Some i → w (a + n) ≡ count_of i)
      → sum_by counted items ≡ sum_by w xs

  items-none : AreCounted []
  items-none a w xs below each weighs = ap (sum_by w) (sym (none-often xs (λ n. go n (nat_lt n a) refl)))
    where
      go : (n : ℕ) (b : Bool) → nat_lt n a ≡ b → often n xs ≡ 0
      go n true lt = below n (ltb-true n a lt)
      go n false ge =
          let le = ltb-false n a ge in
          let d = n - a in
          let is : a + d ≡ n = omega (arith, le) in
          ap (λ (k : ℕ). often k xs) (sym is) ∙ each d

  -- the first name has none
  first-none : (o : Option book.Item) (items : List (Option book.Item)) → AreCounted items → (a : ℕ) (w : ℕ → ℕ) (xs : List ℕ) → ((n : ℕ) → n < a → often n xs ≡ 0) → ((n : ℕ) → often (a + n) xs ≡ one_if (is_kind (item_on (o ∷ items) n))) → ((n : ℕ) (i : book.Item) → item_on (o ∷ items) n ≡ Some i → w (a + n) ≡ count_of i)
      → is_kind o ≡ false → sum_by counted items ≡ sum_by w xs
  first-none o items rest a w xs below each weighs none =
      rest (suc a) w xs (λ n lt. go n (n == a) refl lt) (λ n. let is : suc a + n ≡ a + suc n = omega arith in ap (λ (k : ℕ). often k xs) is ∙ each (suc n)) (λ n i at. let is : suc a + n ≡ a + suc n = omega arith in ap w is ∙ weighs (suc n) i at)
    where
      here : often a xs ≡ 0
      here = let is : a ≡ a + 0 = omega arith in ap (λ (k : ℕ). often k xs) is ∙ each 0 ∙ ap one_if none

      both : (n a : ℕ) → n ≡ a → (n == a) ≡ false → ⊥
      both n a e f = grind (arith, e, f)

      go : (n : ℕ) (b : Bool) → (n == a) ≡ b → n < suc a → often n xs ≡ 0
      go n true same lt = ap (λ (k : ℕ). often k xs) (eqb-true n a same) ∙ here
      go n false other lt = below n (let differs : n ≡ a → ⊥ = λ e. both n a e other in omega (arith, lt, differs))

  -- it has one
  first-one : (i : book.Item) (items : List (Option book.Item)) → AreCounted items → (a : ℕ) (w : ℕ → ℕ) (xs : List ℕ) → ((n : ℕ) → n < a → often n xs ≡ 0) → ((n : ℕ) → often (a + n) xs ≡ one_if (is_kind (item_on (Some i ∷ items) n))) → ((n : ℕ) (x : book.Item) → item_on (Some i ∷ items) n ≡ Some x → w (a + n) ≡ count_of x)
      → kind i ≡ true → count_of i + sum_by counted items ≡ sum_by w xs
  first-one i items rest a w xs below each weighs is_one =
      let some : 0 < often a xs = omega (arith, here) in
      let next = rest (suc a) w (without a xs) (λ n lt. go n (n == a) refl lt) (λ n. after n) (λ n x at. let is : suc a + n ≡ a + suc n = omega arith in ap w is ∙ weighs (suc n) x at) in
      let own : w a ≡ count_of i = let is : a ≡ a + 0 = omega arith in ap w is ∙ weighs 0 i refl in
      omega (arith, next, own, sum-without w a xs some)
    where
      here : often a xs ≡ 1
      here = let is : a ≡ a + 0 = omega arith in ap (λ (k : ℕ). often k xs) is ∙ each 0 ∙ ap one_if is_one

      left : (n : ℕ) → often n xs ≡ often n (without a xs) + tick a n
      left n = often-without n a xs (omega (arith, here))

      both : (n a : ℕ) → n ≡ a → (n == a) ≡ false → ⊥
      both n a e f = grind (arith, e, f)

      go : (n : ℕ) (b : Bool) → (n == a) ≡ b → n < suc a → often n (without a xs) ≡ 0
      go n true same lt = let is = eqb-true n a same in let was : often n xs ≡ 1 = ap (λ (k : ℕ). often k xs) is ∙ here in omega (arith, was, left n, tick-same a n (sym is))
      go n false other lt = let was = below n (let differs : n ≡ a → ⊥ = λ e. both n a e other in omega (arith, lt, differs)) in omega (arith, was, left n)

      after : (n : ℕ) → often (suc a + n) (without a xs) ≡ one_if (is_kind (item_on items n))
      after n =
          let is : suc a + n ≡ a + suc n = omega arith in
          let was : often (suc a + n) xs ≡ one_if (is_kind (item_on items n)) = ap (λ (k : ℕ). often k xs) is ∙ each (suc n) in
          let other : tick a (suc a + n) ≡ 0 = ap (λ (b : Bool). cond b 1 0) (ne_eqb a (suc a + n) (λ e. omega (arith, e))) in
          omega (arith, was, left (suc a + n), other)

  items-counted : (items : List (Option book.Item)) → AreCounted items
  items-counted [] a w xs below each weighs = items-none a w xs below each weighs
  items-counted (None ∷ items) a w xs below each weighs = sum_by-cons counted None items ∙ (let rest = first-none None items (items-counted items) a w xs below each weighs refl in omega (arith, rest))
  items-counted (Some i ∷ items) a w xs below each weighs = sum_by-cons counted (Some i) items ∙ go (items-counted items) (kind i) refl
    where
      go : AreCounted items → (b : Bool) → kind i ≡ b → cond (kind i) (count_of i) 0 + sum_by counted items ≡ sum_by w xs
      go rest true e = ap (λ (x : Bool). cond x (count_of i) 0 + sum_by counted items) e ∙ first-one i items rest a w xs below each weighs e
      go rest false e = ap (λ (x : Bool). cond x (count_of i) 0 + sum_by counted items) e ∙ (let it = first-none (Some i) items rest a w xs below each weighs e in omega (arith, it))

  -- of a shelf, or none
  abbrev counted_in : Option Shelf → ℕ
  counted_in None = 0
  counted_in (Some s) = sum_by counted s.items

  shelf-counted : (o : Option Shelf) (w : ℕ → ℕ) (xs : List ℕ) → ((n : ℕ) → often n xs ≡ one_if (is_kind (option_and_then (λ (s : Shelf). item_on s.items n) o))) → ((n : ℕ) (i : book.Item) → option_and_then (λ (s : Shelf). item_on s.items n) o ≡ Some i → w n ≡ count_of i) → counted_in o ≡ sum_by w xs
  shelf-counted None w xs each weighs = ap (sum_by w) (sym (none-often xs each))
  shelf-counted (Some s) w xs each weighs =
      items-counted s.items 0 w xs (λ n lt. absurd (omega (arith, lt))) (λ n. let is : 0 + n ≡ n = omega arith in ap (λ (k : ℕ). often k xs) is ∙ each n) (λ n i at. let is : 0 + n ≡ n = omega arith in ap w is ∙ weighs n i at)

-- ---- both kinds

abbrev in_queue : book.Item → Bool
in_queue i = is_none i.lent

abbrev is_lent : book.Item → Bool
is_lent i = is_some i.lent

sum-same : {X : Type 0} (f g : X → ℕ) → ((x : X) → f x ≡ g x) → (xs : List X) → sum_by f xs ≡ sum_by g xs
sum-same f g same [] = refl
sum-same f g same (x ∷ xs) = let here = same x in let rest = sum-same f g same xs in sum_by-cons f x xs ∙ omega (arith, here, rest) ∙ sym (sum_by-cons g x xs)

queued-counted : (o : Option book.Item) → queued_frames o ≡ counted in_queue o
queued-counted None = refl
queued-counted (Some i) = refl

lent-counted : (o : Option book.Item) → lent_frames o ≡ counted is_lent o
lent-counted None = refl
lent-counted (Some i) = refl

asides-none : (aside : List (Option Aside)) → AreNone aside → sum_by aside_frames aside ≡ 0
asides-none [] none = refl
asides-none (None ∷ aside) none = let rest = asides-none aside (λ l a is. none (suc l) a is) in sum_by-cons aside_frames None aside ∙ omega (arith, rest)
asides-none (Some a ∷ aside) none = absurd (none 0 a refl)

in-queue : (o : Option book.Item) → is_some (option_and_then (if_state None) o) ≡ is_kind in_queue o
in-queue None = refl
in-queue (Some i) = by i.lent
  where
    by : (l : Option ℕ) → is_some (cond (is_state l None) (Some i) None) ≡ is_none l
    by None = refl
    by (Some n) = refl

either-way : (o : Option book.Item) → one_if (is_kind is_lent o) + one_if (is_kind in_queue o) ≡ one_if (is_some o)
either-way None = refl
either-way (Some i) = by i.lent
  where
    by : (l : Option ℕ) → one_if (is_some l) + one_if (is_none l) ≡ 1
    by None = refl
    by (Some n) = refl

-- what slots of a peer weigh, by their buffers
weighed : (b : Book) (peer : ℕ) (ss : List Slot) → frames_count b peer ss ≡ sum_by (λ n. length (frames_at b (slot_at peer n))) (buffers peer ss)
weighed b peer ss = count-sum b peer ss ∙ by ss
  where
    by : (xs : List Slot) → sum_by (weight b peer) xs ≡ sum_by (λ n. length (frames_at b (slot_at peer n))) (buffers peer xs)
    by [] = refl
    by (s ∷ xs) = sum_by-cons (weight b peer) s xs ∙ go (s.peer == peer) refl (by xs)
      where
        go : (t : Bool) → (s.peer == peer) ≡ t → sum_by (weight b peer) xs ≡ sum_by (λ n. length (frames_at b (slot_at peer n))) (buffers peer xs)
            → cond (s.peer == peer) (length (frames_at b s)) 0 + sum_by (weight b peer) xs ≡ sum_by (λ n. length (frames_at b (slot_at peer n))) (map (λ (x : Slot). x.buffer) (cond (s.peer == peer) (s ∷ filter (is_of peer) xs) (filter (is_of peer) xs)))
        go true same rest =
            let own : slot_at peer s.buffer ≡ s = ap (λ (n : ℕ). slot_at n s.buffer) (sym (eqb-true s.peer peer same)) in
            let here : length (frames_at b (slot_at peer s.buffer)) ≡ length (frames_at b s) = ap (λ (x : Slot). length (frames_at b x)) own in
            ap (λ (t : Bool). cond t (length (frames_at b s)) 0 + sum_by (weight b peer) xs) same
            ∙ omega (arith, rest, here)
            ∙ sym (sum_by-cons (λ n. length (frames_at b (slot_at peer n))) s.buffer (buffers peer xs))
            ∙ ap (λ (t : Bool). sum_by (λ n. length (frames_at b (slot_at peer n))) (map (λ (x : Slot). x.buffer) (cond t (s ∷ filter (is_of peer) xs) (filter (is_of peer) xs)))) (sym same)
        go false other rest =
            ap (λ (t : Bool). cond t (length (frames_at b s)) 0 + sum_by (weight b peer) xs) other
            ∙ omega (arith, rest)
            ∙ ap (λ (t : Bool). sum_by (λ n. length (frames_at b (slot_at peer n))) (map (λ (x : Slot). x.buffer) (cond t (s ∷ filter (is_of peer) xs) (filter (is_of peer) xs)))) (sym other)

module _ (ss ls : List Slot) (b : Book) (st : Stands ss ls b) (peer : ℕ) where
  abbrev weighs : ℕ → ℕ
  weighs n = length (frames_at b (slot_at peer n))

  item-weighs : (n : ℕ) (i : book.Item) → item_at b (slot_at peer n) ≡ Some i → weighs n ≡ count_of i
  item-weighs n i is = ap length (frames-some b (slot_at peer n) i is)

  -- of a peer the book has as many frames in queues as wait and were handed, and as many that are lent
  pub queued-are : book.queued_from b peer ≡ frames_count b peer ss
  queued-are =
      by (shelf_of b peer)
      ∙ shelf-counted in_queue (shelf_of b peer) weighs (buffers peer ss) (λ n. buffers-often peer n ss ∙ st.stands_once (slot_at peer n) ∙ ap one_if (in-queue (item_at b (slot_at peer n)))) item-weighs
      ∙ sym (weighed b peer ss)
    where
      by : (o : Option Shelf) → book.queued_in o ≡ counted_in in_queue o
      by None = refl
      by (Some s) = sum-same queued_frames (counted in_queue) queued-counted s.items

  pub lent-are : book.lent_from b peer ≡ frames_count b peer ls
  lent-are =
      by (shelf_of b peer) refl
      ∙ shelf-counted is_lent (shelf_of b peer) weighs (buffers peer ls)
      (λ n. buffers-often peer n ls ∙ (let once = st.lent_once (slot_at peer n) in let queue = ap one_if (in-queue (item_at b (slot_at peer n))) in let either = either-way (item_at b (slot_at peer n)) in omega (arith, once, queue, either))) item-weighs
      ∙ sym (weighed b peer ls)
    where
      by : (o : Option Shelf) → shelf_of b peer ≡ o → book.lent_in o ≡ counted_in is_lent o
      by None e = refl
      by (Some s) e = let none = asides-none s.aside (st.none_aside peer s e) in let same = sum-same lent_frames (counted is_lent) lent-counted s.items in omega (arith, none, same)

  -- their frames are held
  frame-times : (n : ℕ) (s : Slot) → often n (cond (is_of peer s) (frames_at b s) []) ≡ one_if (has_frame b (slot_at peer n) s)
  frame-times n s = go (has_frame b (slot_at peer n) s) refl (is_of peer s) refl
    where
      go : (x : Bool) → has_frame b (slot_at peer n) s ≡ x → (y : Bool) → is_of peer s ≡ y → often n (cond y (frames_at b s) []) ≡ one_if x
      go true has true own = let parts = frame-parts b (slot_at peer n) s has in let most = st.differ s n in omega (arith, parts.1, most)
      go true has false other = let parts = frame-parts b (slot_at peer n) s has in let own : is_of peer s ≡ true = eq-eqb s.peer peer parts.0 in absurd (cc (own, other))
      go false not true own = no-frame b (slot_at peer n) s not (eqb-true s.peer peer own)
      go false not false other = refl

  frames-often : (n : ℕ) (xs : List Slot) → often n (frames_from peer (map (numbered_at b) xs)) ≡ count_by (has_frame b (slot_at peer n)) xs
  frames-often n [] = refl
  frames-often n (s ∷ xs) = go (s.peer == peer) (frames-often n xs) ∙ ap (λ (k : ℕ). k + count_by (has_frame b (slot_at peer n)) xs) (frame-times n s) ∙ sym (count-cons (has_frame b (slot_at peer n)) s xs)
    where
      go : (t : Bool) → often n (frames_from peer (map (numbered_at b) xs)) ≡ count_by (has_frame b (slot_at peer n)) xs
          → often n (flat_map (λ (i : Item). i.frames) (cond t (numbered_at b s ∷ filter (is_from peer) (map (numbered_at b) xs)) (filter (is_from peer) (map (numbered_at b) xs)))) ≡ often n (cond t (frames_at b s) []) + count_by (has_frame b (slot_at peer n)) xs
      go true rest = let both = often-append n (frames_at b s) (frames_from peer (map (numbered_at b) xs)) in omega (arith, rest, both)
      go false rest = let zero : often n [] ≡ 0 = refl in omega (arith, rest, zero)

  -- and there are as many as buffers are out
  pub frames-all : (out : List ℕ) → ((n : ℕ) → one_if (is_some (kept_at b (slot_at peer n))) ≡ often n out) → frames_count b peer ss + frames_count b peer ls ≡ length out
  frames-all out held =
      let xs = frames_from peer (map (numbered_at b) (ss ++ ls)) in
      let same : (n : ℕ) → often n xs ≡ often n out = λ n. frames-often n (ss ++ ls) ∙ st.framed (slot_at peer n) ∙ held n in
      let within = length-within xs out (λ n. let e = same n in omega (arith, e)) in
      let back = length-within out xs (λ n. let e = same n in omega (arith, e)) in
      omega (arith, within, back, count-both b peer ss ls)

-- of each peer of a domain
module _ {L : Type 0} (v : L → LaneSeen) (b : Book) (r : Records) (q : Requests) (t : endpoint_table.Table) (ps : List (Peer L)) (sound : AreSound v b r q t ps) (peer : ℕ) where
  pub count-three : frames_count b peer (slots_of r q) ≡ frames_count b peer (part_slots r.parts) + (frames_count b peer (slots (all_waiting r.endpoints)) + frames_count b peer (handed_slots q.standing))
  count-three =
      count-both b peer (part_slots r.parts) (slots (all_waiting r.endpoints) ++ handed_slots q.standing)
      ∙ ap (λ (k : ℕ). frames_count b peer (part_slots r.parts) + k) (count-both b peer (slots (all_waiting r.endpoints)) (handed_slots q.standing))

  pub queue-from : book.queued_from b peer ≡ frames_count b peer (part_slots r.parts) + (frames_count b peer (slots (all_waiting r.endpoints)) + frames_count b peer (handed_slots q.standing))
  queue-from = queued-are (slots_of r q) (lent_slots r) b (all-stand v b r q t ps sound) peer ∙ count-three

  pub lent-from : book.lent_from b peer ≡ frames_count b peer (lent_slots r)
  lent-from = lent-are (slots_of r q) (lent_slots r) b (all-stand v b r q t ps sound) peer

  -- as many as are out of its lane
  module _ (i : ℕ) (x : Peer L) (there : slice_get ps i ≡ Some x) (is : x.number ≡ peer) where
    pub held-out : frames_count b peer (slots_of r q) + frames_count b peer (lent_slots r) ≡ length (v x.ends).out
    held-out =
        let places = All-at (λ p. AreInPlaces p.number r q b (out_at v p)) ps i x sound.places there in
        frames-all (slots_of r q) (lent_slots r) b (all-stand v b r q t ps sound) peer (v x.ends).out
        (λ n. let once = places.each.once n in let none : often n [] ≡ 0 = refl in let own : one_if (is_some (kept_at b (slot_at x.number n))) ≡ one_if (is_some (kept_at b (slot_at peer n))) = ap (λ (k : ℕ). one_if (is_some (kept_at b (slot_at k n)))) is in omega (arith, once, none, own))

    held-most : length (v x.ends).out ≤ 256
    held-most =
        let places = All-at (λ p. AreInPlaces p.number r q b (out_at v p)) ps i x sound.places there in
        let sized = All-at (IsSized v) ps i x sound.peers.sizes there in
        let most = length-apart (v x.ends).size_from (v x.ends).out places.each.apart in
        omega (arith, most, sized.fits)

  -- at most as many as a lane has
  pub held-few : (i : ℕ) → Some i ≡ position (λ (p : Peer L). p.number == peer) ps → frames_count b peer (handed_slots q.standing) + frames_count b peer (lent_slots r) ≤ 256
  held-few i at =
      let found = peer-at ps peer i at in
      omega (arith, held-out i found.0 found.1 found.2, held-most i found.0 found.1 found.2, count-three)

  -- each slot that was handed names an item in a queue
  pub handed-queued : AllByRecursion (IsQueued b) (handed_slots q.standing)
  handed-queued = by (handed_slots q.standing) (λ s some. let all = times-all s (part_slots r.parts) (all_waiting r.endpoints) (handed_slots q.standing) in one-there (is_some (queued_at b s)) (let once = (all-stand v b r q t ps sound).stands_once s in omega (arith, some, all, once)))
    where
      by : (hs : List Slot) → ((s : Slot) → 0 < times_in s hs → IsQueued b s) → AllByRecursion (IsQueued b) hs
      by [] each = tt
      by (s ∷ hs) each =
          (each s (let one : one_if (is_same s s) ≡ 1 = ap one_if (itself s) in omega (arith, one, count-cons (λ (x : Slot). is_same x s) s hs)), by hs (λ x some. each x (omega (arith, some, count-cons (λ (y : Slot). is_same y x) s hs))))

-- ---- the frames that complete requests hold, one request after the other

module _ (b : Book) (peer : ℕ) where
  abbrev pub held_there : Option Standing → ℕ
  held_there None = 0
  held_there (Some r) = frames_count b peer (slots_in r.complete)

  -- one request more
  handed-take : (rs : List Standing) (k : ℕ) → frames_count b peer (handed_slots (take (suc k) rs)) ≡ frames_count b peer (handed_slots (take k rs)) + held_there (slice_get rs k)
  handed-take [] k = ap (λ (xs : List Standing). frames_count b peer (handed_slots xs) + 0) (sym (nothing-there k))
  handed-take (r ∷ rs) zero = let none : frames_count b peer [] ≡ 0 = refl in omega (arith, none, count-both b peer (slots_in r.complete) [])
  handed-take (r ∷ rs) (suc k) =
      let rest = handed-take rs k in
      let now = count-both b peer (slots_in r.complete) (handed_slots (take (suc k) rs)) in
      let before = count-both b peer (slots_in r.complete) (handed_slots (take k rs)) in
      omega (arith, rest, now, before)

  pub handed-next : (rs : List Standing) (k : ℕ) → frames_count b peer (handed_slots (take (k + 1) rs)) ≡ frames_count b peer (handed_slots (take k rs)) + held_there (slice_get rs k)
  handed-next rs k = rw add-one (handed-take rs k)

  pub handed-most : (rs : List Standing) (k : ℕ) → frames_count b peer (handed_slots (take k rs)) ≤ frames_count b peer (handed_slots rs)
  handed-most [] k = ap-least (nothing-there k)
    where
      ap-least : {xs : List Standing} → xs ≡ [] → frames_count b peer (handed_slots xs) ≤ 0
      ap-least e = let none = ap (λ (xs : List Standing). frames_count b peer (handed_slots xs)) e in omega (arith, none)
  handed-most (r ∷ rs) zero = omega arith
  handed-most (r ∷ rs) (suc k) = omega (arith, handed-most rs k, count-both b peer (slots_in r.complete) (handed_slots (take k rs)), count-both b peer (slots_in r.complete) (handed_slots rs))

  pub held-listed : (o : Option Standing) (told : Listing) → Some told ≡ option_map listing o → held_there o ≡ frames_count b peer (slots_in told.2)
  held-listed None told e = absurd cc
  held-listed (Some r) told e = let same : told ≡ listing r = cc in ap (λ (x : Listing). frames_count b peer (slots_in x.2)) (sym same)

  pub all-handed : (rs : List Standing) (k : ℕ) → length rs ≤ k → frames_count b peer (handed_slots (take k rs)) ≡ frames_count b peer (handed_slots rs)
  all-handed rs k le = ap (λ (xs : List Standing). frames_count b peer (handed_slots xs)) (take_all k rs le)

  pub all-listed : (rs : List Standing) (k : ℕ) → None ≡ option_map listing (slice_get rs k) → frames_count b peer (handed_slots (take k rs)) ≡ frames_count b peer (handed_slots rs)
  all-listed rs k e = all-handed rs k (none-past rs k (none-listed (slice_get rs k) e))

-- what holds of all that was handed holds of one request's
pub listed-all : (P : Slot → Type 0) (rs : List Standing) (k : ℕ) (told : Listing) → Some told ≡ option_map listing (slice_get rs k) → AllByRecursion P (handed_slots rs) → AllByRecursion P (slots_in told.2)
listed-all P [] k told e all = absurd cc
listed-all P (r ∷ rs) zero told e all = let same : told ≡ listing r = cc in subst (λ (x : Listing). AllByRecursion P (slots_in x.2)) (sym same) (first (slots_in r.complete) (handed_slots rs) all)
  where
    first : (xs ys : List Slot) → AllByRecursion P (xs ++ ys) → AllByRecursion P xs
    first [] ys all = tt
    first (x ∷ xs) ys all = (all.0, first xs ys all.1)
listed-all P (r ∷ rs) (suc k) told e all = listed-all P rs k told e (rest (slots_in r.complete) (handed_slots rs) all)
  where
    rest : (xs ys : List Slot) → AllByRecursion P (xs ++ ys) → AllByRecursion P ys
    rest [] ys all = all
    rest (x ∷ xs) ys all = rest xs ys all.1

-- ---- how many are held at most: there are 8 peers at most

few-rising : (n : ℕ) (ns : List ℕ) → n ≤ 7 → AllByRecursion (λ m. n < m) ns → AllByRecursion (λ m. m ≤ 7) ns → AreRising ns → n + length ns ≤ 7
few-rising n [] few above fits rising = omega (arith, few)
few-rising n (m ∷ ns) few above fits rising = omega (arith, above.0, few-rising m ns fits.0 rising.0 fits.1 rising.1)

few-peers : (ns : List ℕ) → AllByRecursion (λ m. m ≤ 7) ns → AreRising ns → length ns ≤ 8
few-peers [] fits rising = omega arith
few-peers (n ∷ ns) fits rising = omega (arith, few-rising n ns fits.0 rising.0 fits.1 rising.1)

outs-fit : {L : Type 0} (v : L → LaneSeen) (r : Records) (q : Requests) (b : Book) (ps : List (Peer L)) → AllByRecursion (λ p. AreInPlaces p.number r q b (out_at v p)) ps → AllByRecursion (IsSized v) ps → outs_count v ps ≤ 256 * length ps
outs-fit v r q b [] places sizes = omega arith
outs-fit v r q b (p ∷ ps) places sizes =
    let here = length-apart (v p.ends).size_from (v p.ends).out places.0.each.apart in
    omega (arith, here, sizes.0.fits, outs-fit v r q b ps places.1 sizes.1)

pub waiting-fits : {L : Type 0} (v : L → LaneSeen) (b : Book) (r : Records) (q : Requests) (t : endpoint_table.Table) (ps : List (Peer L)) → AreSound v b r q t ps → length (all_waiting r.endpoints) ≤ 2048
waiting-fits v b r q t ps sound =
    let few = few-peers (numbers_of ps) sound.peers.few sound.peers.rising in
    let fit = outs-fit v r q b ps sound.places sound.peers.sizes in
    omega (arith, few, length-map ps (λ p. p.number), fit, held-fits v b r q t ps sound, length-all (part_slots r.parts) (all_waiting r.endpoints) (handed_slots q.standing))
