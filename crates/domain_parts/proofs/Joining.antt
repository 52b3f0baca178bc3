-- A frame joins an item that is in a queue: what stands in the book after it, of all slots and of its lane.
use Rattle.std.proofs.Common.{◌≡◌, ℕ, ◌+◌, ◌<◌, ◌≤◌, Bool, true, false, cond, List, [], ◌∷◌, ◌++◌, length, map, Option, Some, None, refl, sym, ap, ap₂, ◌∙◌, subst, arith, eq-eqb, length-append, append_assoc}
use Rattle.std.specs.Prelude.{count_by, is_some, option_and_then, option_to_list, nat_lt, ◌==◌, ◌&&◌}
use Rattle.std.proofs.lemmas.Bool.{eqb-true}
use Rattle.std.proofs.lemmas.List.{append-nil}
use Rattle.mc_base.specs.Limits.{item_size}
use Rattle.mc_base.specs.declared.request.Slot.{Slot}
use Rattle.buffer_book.specs.Book.{Book, IsAway, Item, Kept, content, frames_of, if_state, is_state, item_at, kept_at, with_frame, with_joined}
use Rattle.buffer_book.proofs.ItemLemmas.{joined-place}
use Rattle.lane_end.specs.Numbers.{often}
use Rattle.lane_end.proofs.CountLemmas.{often-append}
use Rattle.domain_parts.specs.InBook.{Whole, channel_in, content_in, frames_at, frames_in, joined_content, pieces_in, pieces_of, priority_in, slot_at, source_in, whole_at, whole_of}
use Rattle.domain_parts.specs.InPlaces.{IsNamed, has_frame, is_same, one_if, times_in}
use Rattle.domain_parts.specs.Out.{Out}
use Rattle.domain_parts.proofs.Books.{Changes, changed-item, differ-back, each-slot, frames-some, itself, joined-changes, kept-by, often-other, often-own, pieces-same, whole-some}
use Rattle.domain_parts.proofs.Placed.{IsLane, Stands, away-frame, count-each, frame-kept, frame-true, item-times, no-frame, whole-there}
use Rattle.domain_parts.proofs.Placing.{often-one, stands-after}

-- ---- lists of pieces

pieces-append : (b : Book) (peer : ℕ) (xs ys : List ℕ) → pieces_of b peer (xs ++ ys) ≡ pieces_of b peer xs ++ pieces_of b peer ys
pieces-append b peer [] ys = refl
pieces-append b peer (x ∷ xs) ys =
    ap (λ (ks : List Kept). option_to_list (kept_at b (slot_at peer x)) ++ ks) (pieces-append b peer xs ys)
    ∙ sym (append_assoc (option_to_list (kept_at b (slot_at peer x))) (pieces_of b peer xs) (pieces_of b peer ys))

content-last : (ps : List Kept) (k : Kept) → joined_content (map content (ps ++ k ∷ [])) ≡ joined_content (map content ps) ++ content k
content-last [] k = append-nil (content k)
content-last (p ∷ ps) k = ap (λ (xs : List ℕ). content p ++ xs) (content-last ps k) ∙ sym (append_assoc (content p) (joined_content (map content ps)) (content k))

module _ (ss ls : List Slot) (b : Book) (st : Stands ss ls b) (s : Slot) (i : Item) (is : item_at b s ≡ Some i) (queued : is_state i.lent None ≡ true) (k : Kept) (away : IsAway b (slot_at s.peer k.buffer.number)) where
  abbrev n : ℕ
  n = k.buffer.number

  abbrev own : Slot
  own = slot_at s.peer n

  abbrev new_book : Book
  new_book = with_joined b s k

  abbrev after : Item
  after = with_frame n i

  pub join-changes : Changes b new_book s (n ∷ []) (Some after)
  join-changes = joined-changes b s k i is away

  not-kept : is_some (kept_at b own) ≡ false
  not-kept = ap (λ (o : Option (Option Kept)). is_some (option_and_then (λ p. p) o)) away

  -- all else is as it was
  pub join-others : (t : Slot) → is_same s t ≡ false → whole_at new_book t ≡ whole_at b t
  join-others = whole-there ss ls b st new_book s (n ∷ []) (Some after) join-changes
      (λ f among t differ. subst (λ (m : ℕ). has_frame b (slot_at s.peer m) t ≡ false) (often-one n f among) (away-frame ss ls b st own t not-kept))

  kept-join : kept_at new_book own ≡ Some k
  kept-join = ap (λ (o : Option (Option Kept)). option_and_then (λ p. p) o) (joined-place b s k away)

  -- the item has one frame more
  pub join-frames_at : frames_at new_book s ≡ frames_at b s ++ n ∷ []
  join-frames_at = frames-some new_book s after (changed-item join-changes) ∙ sym (ap (λ (fs : List ℕ). fs ++ n ∷ []) (frames-some b s i is))

  not-among : often n (frames_at b s) ≡ 0
  not-among = no-frame b own s (away-frame ss ls b st own s not-kept) refl

  kept-there : (f : ℕ) → (n == f) ≡ false → kept_at new_book (slot_at s.peer f) ≡ kept_at b (slot_at s.peer f)
  kept-there f differ = kept-by b new_book (slot_at s.peer f) (join-changes.places (slot_at s.peer f) (λ e. often-other n f [] differ))

  own-apart : (f : ℕ) → 0 < often f (frames_at b s) → (n == f) ≡ false
  own-apart f among = go (n == f) refl
    where
      go : (x : Bool) → (n == f) ≡ x → (n == f) ≡ false
      go true same = let none = subst (λ (m : ℕ). often m (frames_at b s) ≡ 0) (eqb-true n f same) not-among in absurd (omega (arith, none, among))
      go false differ = differ

  was-whole : whole_at b s ≡ Some (whole_of b s.peer i)
  was-whole = whole-some b s i is

  pub join-whole : whole_at new_book s ≡ Some (record { item = after; pieces = pieces_in (whole_at b s) ++ k ∷ [] })
  join-whole =
      whole-some new_book s after (changed-item join-changes)
      ∙ ap (λ (ks : List Kept). Some (record { item = after; pieces = ks }))
      (pieces-append new_book s.peer (frames_of i) (n ∷ [])
      ∙ ap₂ (λ (xs ys : List Kept). xs ++ ys)
      (pieces-same b new_book s.peer (frames_of i) (λ f among. kept-there f (own-apart f (subst (λ (fs : List ℕ). 0 < often f fs) (sym (frames-some b s i is)) among))) ∙ sym (ap pieces_in was-whole))
      (ap (λ (o : Option Kept). option_to_list o ++ []) kept-join))

  pub join-content : content_in (whole_at new_book s) ≡ content_in (whole_at b s) ++ content k
  join-content = ap content_in join-whole ∙ content-last (pieces_in (whole_at b s)) k

  -- its first frame is the same
  first-there : (p : Kept) × (ps : List Kept) × (pieces_in (whole_at b s) ≡ p ∷ ps)
  first-there = go (kept_at b (slot_at s.peer i.first)) (frame-kept ss ls b st (slot_at s.peer i.first) s (frame-true b s i.first (subst (λ (fs : List ℕ). 0 < often i.first fs) (sym (frames-some b s i is)) (omega (arith, often-own i.first i.more))))) (ap pieces_in was-whole)
    where
      go : (o : Option Kept) → is_some o ≡ true → pieces_in (whole_at b s) ≡ option_to_list o ++ pieces_of b s.peer i.more → (p : Kept) × (ps : List Kept) × (pieces_in (whole_at b s) ≡ p ∷ ps)
      go None some e = absurd cc
      go (Some p) some e = (p, pieces_of b s.peer i.more, e)

  pub join-reads : (source_in (whole_at new_book s) ≡ source_in (whole_at b s)) × (priority_in (whole_at new_book s) ≡ priority_in (whole_at b s)) × (channel_in (whole_at new_book s) ≡ channel_in (whole_at b s))
  join-reads = (rw (join-whole, first-there.2) refl, rw (join-whole, first-there.2) refl, rw (join-whole, first-there.2) refl)

  -- each buffer that is held is a frame of one item
  own-frame : has_frame new_book own s ≡ true
  own-frame = frame-true new_book s n (subst (λ (fs : List ℕ). 0 < often n fs) (sym join-frames_at) (omega (arith, often-append n (frames_at b s) (n ∷ []), often-own n [])))

  frames-there : (f t : Slot) → is_same s t ≡ false → has_frame new_book f t ≡ has_frame b f t
  frames-there f t differ = ap (λ (w : Option Whole). t.peer == f.peer && nat_lt 0 (often f.buffer (frames_in w))) (join-others t differ)

  own-only : (t : Slot) → has_frame new_book own t ≡ is_same t s
  own-only = each-slot s (λ t. has_frame new_book own t ≡ is_same t s)
      (own-frame ∙ sym (itself s))
      (λ t differ. frames-there own t differ ∙ away-frame ss ls b st own t not-kept ∙ sym (differ-back s t differ))

  other-frame : (f : Slot) → is_same own f ≡ false → has_frame new_book f s ≡ has_frame b f s
  other-frame f differ = go (s.peer == f.peer) refl
    where
      go : (x : Bool) → (s.peer == f.peer) ≡ x → has_frame new_book f s ≡ has_frame b f s
      go true same =
          let apart : (n == f.buffer) ≡ false = sym (ap (λ (x : Bool). x && n == f.buffer) same) ∙ differ in
          let none = often-other n f.buffer [] apart in
          let zero : often f.buffer [] ≡ 0 = refl in
          let many : often f.buffer (frames_at new_book s) ≡ often f.buffer (frames_at b s) = ap (often f.buffer) join-frames_at ∙ omega (arith, often-append f.buffer (frames_at b s) (n ∷ []), none, zero) in
          ap (λ (m : ℕ). s.peer == f.peer && nat_lt 0 m) many
      go false other = ap (λ (x : Bool). x && nat_lt 0 (often f.buffer (frames_at new_book s))) other ∙ sym (ap (λ (x : Bool). x && nat_lt 0 (often f.buffer (frames_at b s))) other)

  join-framed : (f : Slot) → count_by (has_frame new_book f) (ss ++ ls) ≡ one_if (is_some (kept_at new_book f))
  join-framed = each-slot own (λ f. count_by (has_frame new_book f) (ss ++ ls) ≡ one_if (is_some (kept_at new_book f)))
      (count-each (λ (t : Slot). is_same t s) (has_frame new_book own) (ss ++ ls) own-only
      ∙ item-times ss ls b st s ∙ ap (λ (o : Option Item). one_if (is_some o)) is ∙ sym (ap (λ (o : Option Kept). one_if (is_some o)) kept-join))
      (λ f differ.
      count-each (has_frame b f) (has_frame new_book f) (ss ++ ls) (each-slot s (λ t. has_frame new_book f t ≡ has_frame b f t) (other-frame f differ) (λ t apart. frames-there f t apart))
      ∙ st.framed f ∙ sym (ap (λ (o : Option Kept). one_if (is_some o)) (kept-by b new_book f (join-changes.places f (λ e. apart-own f differ e)))))
    where
      apart-own : (f : Slot) → is_same own f ≡ false → f.peer ≡ s.peer → often f.buffer (n ∷ []) ≡ 0
      apart-own f differ e = often-other n f.buffer [] (sym (ap (λ (x : Bool). x && n == f.buffer) (eq-eqb s.peer f.peer (sym e))) ∙ differ)

  once : (f : ℕ) → often f (frames_at new_book s) ≤ 1
  once f = go (n == f) refl
    where
      both : often f (frames_at new_book s) ≡ often f (frames_at b s) + often f (n ∷ [])
      both = ap (often f) join-frames_at ∙ often-append f (frames_at b s) (n ∷ [])

      go : (x : Bool) → (n == f) ≡ x → often f (frames_at new_book s) ≤ 1
      go true same = subst (λ (m : ℕ). often m (frames_at new_book s) ≤ 1) (eqb-true n f same) (let all = ap (often n) join-frames_at ∙ often-append n (frames_at b s) (n ∷ []) in omega (arith, all, not-among, often-own n []))
      go false other = let none = often-other n f [] other in let zero : often f [] ≡ 0 = refl in let was = st.differ s f in omega (arith, both, none, zero, was)

  pub join-stands : length (content_in (whole_at b s)) + length (content k) ≤ item_size → Stands ss ls new_book
  join-stands short =
      let one : times_in s ss ≡ 1 = st.stands_once s ∙ ap (λ (o : Option Item). one_if (is_some (option_and_then (if_state None) o))) is ∙ ap (λ (x : Bool). one_if (is_some (cond x (Some i) None))) queued in
      let now : one_if (is_some (if_state None after)) ≡ 1 = ap (λ (x : Bool). one_if (is_some (cond x (Some after) None))) queued in
      let was : one_if (is_some (option_and_then (if_state None) (item_at b s))) ≡ 1 = ap (λ (o : Option Item). one_if (is_some (option_and_then (if_state None) o))) is ∙ ap (λ (x : Bool). one_if (is_some (cond x (Some i) None))) queued in
      let item : one_if (is_some (item_at b s)) ≡ 1 = ap (λ (o : Option Item). one_if (is_some o)) is in
      stands-after ss ls ss ls b new_book s (n ∷ []) (Some after) st join-changes join-others
      (λ t differ. refl) (λ t differ. refl)
      (omega (arith, one, now))
      (let lent = st.lent_once s in omega (arith, lent, was, now, item))
      join-framed once
      (subst (IsNamed s) is (st.named s))
      (let all = ap length join-content ∙ length-append (content_in (whole_at b s)) (content k) in omega (arith, all, short))

  -- the lane from which it was taken
  pub lane-join : (o : Out) (ns : List ℕ) → IsLane s.peer o b (n ∷ ns) → IsLane s.peer o new_book ns
  lane-join o ns l = record {
    known = λ m. join-changes.known (slot_at s.peer m) ∙ l.known m;
    once = λ m. go m (n == m) refl;
    apart = l.apart;
  }
    where
      go : (m : ℕ) (x : Bool) → (n == m) ≡ x → often m ns + one_if (is_some (kept_at new_book (slot_at s.peer m))) ≡ often m o.numbers
      go m true same =
          let here : one_if (is_some (kept_at new_book own)) ≡ 1 = ap (λ (x : Option Kept). one_if (is_some x)) kept-join in
          let free : one_if (is_some (kept_at b own)) ≡ 0 = ap one_if not-kept in
          subst (λ (j : ℕ). often j ns + one_if (is_some (kept_at new_book (slot_at s.peer j))) ≡ often j o.numbers) (eqb-true n m same) (let was = l.once n in omega (arith, was, here, free, often-own n ns))
      go m false other =
          let stays = ap (λ (x : Option Kept). one_if (is_some x)) (kept-there m other) in
          let was = l.once m in
          omega (arith, was, stays, often-other n m ns other)
