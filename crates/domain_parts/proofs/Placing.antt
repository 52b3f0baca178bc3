-- The places of all items after one came in, was lent, or left: of all slots, and of each lane.
use Rattle.std.proofs.Common.{◌≡◌, ℕ, zero, suc, ◌+◌, ◌<◌, ◌≤◌, Bool, true, false, cond, List, [], ◌∷◌, ◌++◌, length, Option, Some, None, refl, sym, ap, ap₂, ◌∙◌, subst, arith, eq-eqb}
use Rattle.std.specs.Prelude.{count_by, is_some, option_and_then, option_to_list, nat_lt, ◌==◌, ◌&&◌}
use Rattle.std.proofs.lemmas.List.{append-nil}
use Rattle.board_model.proofs.ListsCounts.{count-append}
use Rattle.std.proofs.lemmas.Bool.{eqb-true, false_from_ne_true}
use Rattle.mc_base.specs.declared.request.Slot.{Slot}
use Rattle.buffer_book.specs.Book.{Book, IsAway, Item, Kept, content, frames_of, if_state, is_state, item_at, kept_at, lent_under, place_at, queued_at, with_lent, with_queued}
use Rattle.buffer_book.proofs.ItemLemmas.{single}
use Rattle.lane_end.specs.Numbers.{often}
use Rattle.lane_end.proofs.CountLemmas.{often-append}
use Rattle.domain_parts.specs.InBook.{content_in, frames_at, frames_in, slot_at, whole_at, whole_of}
use Rattle.domain_parts.specs.InPlaces.{IsNamed, IsShort, has_frame, is_same, one_if, times_in}
use Rattle.domain_parts.specs.Out.{Out}
use Rattle.domain_parts.specs.Steps.{without_frames}
use Rattle.domain_parts.proofs.Books.{Changes, TakesOut, changed-item, each-slot, frames-none, frames-some, kept-by, lent-changes, often-other, often-own, pieces-same, queued-changes, queued-place, same-slot, takes-out, whole-none, whole-some}
use Rattle.domain_parts.proofs.Placed.{HasMore, IsLane, Stands, away-frame, away-free, away-none, away-nowhere, count-each, count-stays, frame-kept, frame-own, frame-parts, beside_by, frame-true, item-times, not-held, more-before, no-frame, times-here, times-there, whole-there}
use Rattle.mc_base.specs.Limits.{item_size}

-- ---- a slot is changed, and what stands elsewhere stays

module _ (ss ls ss' ls' : List Slot) (b b' : Book) (s : Slot) (fs : List ℕ) (after : Option Item) (st : Stands ss ls b) (c : Changes b b' s fs after) (others : (t : Slot) → is_same s t ≡ false → whole_at b' t ≡ whole_at b t) where
  frames-there : (t : Slot) → is_same s t ≡ false → frames_at b' t ≡ frames_at b t
  frames-there t differ = ap frames_in (others t differ)

  frame-there : (f t : Slot) → is_same s t ≡ false → has_frame b' f t ≡ has_frame b f t
  frame-there f t differ = ap (λ (ns : List ℕ). t.peer == f.peer && nat_lt 0 (often f.buffer ns)) (frames-there t differ)

  queued-there : (t : Slot) → is_same s t ≡ false → queued_at b' t ≡ queued_at b t
  queued-there t differ = ap (λ (o : Option Item). option_and_then (if_state None) o) (c.items t differ)

  pub stands-after : ((t : Slot) → is_same s t ≡ false → times_in t ss' ≡ times_in t ss) → ((t : Slot) → is_same s t ≡ false → times_in t ls' ≡ times_in t ls)
      → times_in s ss' ≡ one_if (is_some (option_and_then (if_state None) after)) → times_in s ls' + one_if (is_some (option_and_then (if_state None) after)) ≡ one_if (is_some after)
      → ((f : Slot) → count_by (has_frame b' f) (ss' ++ ls') ≡ one_if (is_some (kept_at b' f))) → ((f : ℕ) → often f (frames_at b' s) ≤ 1) → IsNamed s after → IsShort (whole_at b' s) → Stands ss' ls' b'
  stands-after same same' stands lends frames once named short =
      let item = changed-item c in
      record {
        stands_once = each-slot s (λ t. times_in t ss' ≡ one_if (is_some (queued_at b' t)))
            (stands ∙ sym (ap (λ (o : Option Item). one_if (is_some (option_and_then (if_state None) o))) item))
            (λ t differ. same t differ ∙ st.stands_once t ∙ sym (ap (λ (o : Option Item). one_if (is_some o)) (queued-there t differ)));
        lent_once = each-slot s (λ t. times_in t ls' + one_if (is_some (queued_at b' t)) ≡ one_if (is_some (item_at b' t)))
            (ap (λ (o : Option Item). times_in s ls' + one_if (is_some (option_and_then (if_state None) o))) item ∙ lends ∙ sym (ap (λ (o : Option Item). one_if (is_some o)) item))
            (λ t differ.
            ap₂ (λ (n : ℕ) (o : Option Item). n + one_if (is_some o)) (same' t differ) (queued-there t differ)
            ∙ st.lent_once t
            ∙ sym (ap (λ (o : Option Item). one_if (is_some o)) (c.items t differ)));
        framed = frames;
        differ = each-slot s (λ t. (f : ℕ) → often f (frames_at b' t) ≤ 1) once (λ t differ f. let least = st.differ t f in subst (λ (ns : List ℕ). often f ns ≤ 1) (sym (frames-there t differ)) least);
        named = each-slot s (λ t. IsNamed t (item_at b' t)) (subst (IsNamed s) (sym item) named) (λ t differ. subst (IsNamed t) (sym (c.items t differ)) (st.named t));
        none_aside = c.aside st.none_aside;
        names = λ t. c.names t ∙ st.names t ∙ sym (c.known t);
        short = each-slot s (λ t. IsShort (whole_at b' t)) short (λ t differ. subst IsShort (sym (others t differ)) (st.short t));
      }

-- a buffer beside the book is not in it
pub lane-away : (number : ℕ) (o : Out) (b : Book) (n : ℕ) (ns : List ℕ) → IsLane number o b (n ∷ ns) → IsAway b (slot_at number n)
lane-away number o b n ns l =
    let here = is_some (kept_at b (slot_at number n)) in
    let beside = beside_by here (nat_lt n o.size) (often n ns) (often n o.numbers) (ap (λ (k : ℕ). k + one_if here) (sym (often-own n ns)) ∙ l.once n) (l.apart n) in
    not-held (place_at b (slot_at number n)) (l.known n ∙ beside.1) beside.0

-- another lane than that of the peer
pub lane-same : (number : ℕ) (o : Out) (b b' : Book) (ns : List ℕ) (s : Slot) (fs : List ℕ) (after : Option Item) → Changes b b' s fs after → (number ≡ s.peer → ⊥) → IsLane number o b ns → IsLane number o b' ns
lane-same number o b b' ns s fs after c differ l = record {
  known = λ n. c.known (slot_at number n) ∙ l.known n;
  once = λ n. ap (λ (x : Option Kept). often n ns + one_if (is_some x)) (kept-by b b' (slot_at number n) (c.places (slot_at number n) (λ own. absurd (differ own)))) ∙ l.once n;
  apart = l.apart;
}

-- ---- an item of one frame comes in

pub often-one : (n f : ℕ) → 0 < often f (n ∷ []) → n ≡ f
often-one n f among = go (n == f) refl
  where
    go : (x : Bool) → (n == f) ≡ x → n ≡ f
    go true same = eqb-true n f same
    go false other = absurd (let none = often-other n f [] other in let zero : often f [] ≡ 0 = refl in omega (arith, none, zero, among))

module _ (ss ls : List Slot) (b : Book) (st : Stands ss ls b) (s : Slot) (away : IsAway b s) (k : Kept) where
  abbrev new_book : Book
  new_book = with_queued b s k

  not-kept : is_some (kept_at b s) ≡ false
  not-kept = ap (λ (o : Option (Option Kept)). is_some (option_and_then (λ p. p) o)) away

  pub in-changes : Changes b new_book s (s.buffer ∷ []) (Some (single s.buffer))
  in-changes = queued-changes b s k (away-free ss ls b st s away) away

  -- all else is as it was
  pub in-others : (t : Slot) → is_same s t ≡ false → whole_at new_book t ≡ whole_at b t
  in-others = whole-there ss ls b st new_book s (s.buffer ∷ []) (Some (single s.buffer)) in-changes
      (λ f among t differ. subst (λ (n : ℕ). has_frame b (slot_at s.peer n) t ≡ false) (often-one s.buffer f among) (away-frame ss ls b st s t not-kept))

  kept-in : kept_at new_book s ≡ Some k
  kept-in = ap (λ (o : Option (Option Kept)). option_and_then (λ p. p) o) (queued-place b s k (away-free ss ls b st s away) away)

  -- and the slot names an item of this frame
  pub in-whole : whole_at new_book s ≡ Some (record { item = single s.buffer; pieces = k ∷ [] })
  in-whole =
      whole-some new_book s (single s.buffer) (changed-item in-changes)
      ∙ ap (λ (o : Option Kept). Some (record { item = single s.buffer; pieces = option_to_list o ++ [] })) kept-in

  module _ (ts : List Slot) (more : HasMore s ss ts) (short : length (content k) ≤ item_size) where
    in-frames : (f : Slot) → count_by (has_frame new_book f) (ts ++ ls) ≡ one_if (is_some (kept_at new_book f))
    in-frames f =
        let m = more-before s ss ts ls more (has_frame new_book f) in
        let same = count-stays (has_frame b f) (has_frame new_book f) s (ss ++ ls) (away-nowhere ss ls b st s away) (λ t differ. ap (λ (ns : List ℕ). t.peer == f.peer && nat_lt 0 (often f.buffer ns)) (ap frames_in (in-others t differ))) in
        let was = st.framed f in
        go (is_same s f) refl m same was
      where
        go : (x : Bool) → is_same s f ≡ x → count_by (has_frame new_book f) (ts ++ ls) ≡ count_by (has_frame new_book f) (ss ++ ls) + one_if (has_frame new_book f s) → count_by (has_frame new_book f) (ss ++ ls) ≡ count_by (has_frame b f) (ss ++ ls)
            → count_by (has_frame b f) (ss ++ ls) ≡ one_if (is_some (kept_at b f)) → count_by (has_frame new_book f) (ts ++ ls) ≡ one_if (is_some (kept_at new_book f))
        go true is m same was =
            let slot = same-slot s f is in
            let free : one_if (is_some (kept_at b f)) ≡ 0 = ap (λ (x : Slot). one_if (is_some (kept_at b x))) (sym slot) ∙ ap one_if not-kept in
            let one : one_if (has_frame new_book f s) ≡ 1 = ap (λ (x : Slot). one_if (has_frame new_book x s)) (sym slot) ∙ ap one_if (frame-true new_book s s.buffer (let o = ap (λ w. often s.buffer (frames_in w)) in-whole in omega (arith, o, often-own s.buffer []))) in
            let now : one_if (is_some (kept_at new_book f)) ≡ 1 = ap (λ (x : Slot). one_if (is_some (kept_at new_book x))) (sym slot) ∙ ap (λ (o : Option Kept). one_if (is_some o)) kept-in in
            omega (arith, m, same, was, free, one, now)
        go false other m same was =
            let none : one_if (has_frame new_book f s) ≡ 0 = ap one_if (false_from_ne_true (has_frame new_book f s) (λ has. not-other other has)) in
            let kept : kept_at new_book f ≡ kept_at b f = kept-by b new_book f (in-changes.places f (λ own. by own (often f.buffer (s.buffer ∷ [])) refl)) in
            let stays : one_if (is_some (kept_at new_book f)) ≡ one_if (is_some (kept_at b f)) = ap (λ (o : Option Kept). one_if (is_some o)) kept in
            omega (arith, m, same, was, none, stays)
          where
            differs : (n : ℕ) → is_same s f ≡ false → f.peer ≡ s.peer → s.buffer ≡ f.buffer → ⊥
            differs n apart own numbers = let is : is_same s f ≡ true = ap₂ (λ (x y : Bool). x && y) (eq-eqb s.peer f.peer (sym own)) (eq-eqb s.buffer f.buffer numbers) in absurd (cc (is, apart))

            by : f.peer ≡ s.peer → (n : ℕ) → often f.buffer (s.buffer ∷ []) ≡ n → often f.buffer (s.buffer ∷ []) ≡ 0
            by own zero none = none
            by own (suc n) some = absurd (differs n other own (often-one s.buffer f.buffer (omega (arith, some))))

            not-other : is_same s f ≡ false → has_frame new_book f s ≡ true → ⊥
            not-other apart has =
                let parts = frame-parts new_book f s has in
                let among : 0 < often f.buffer (s.buffer ∷ []) = subst (λ w. 0 < often f.buffer (frames_in w)) in-whole parts.1 in
                differs 0 apart (sym parts.0) (often-one s.buffer f.buffer among)

    pub in-stands : Stands ts ls new_book
    in-stands =
        stands-after ss ls ts ls b new_book s (s.buffer ∷ []) (Some (single s.buffer)) st in-changes in-others
        (λ t differ. times-there s t ss ts more differ) (λ t differ. refl)
        (omega (arith, times-here s ss ts more, away-none ss ls b st s away))
        (omega (arith, away-nowhere ss ls b st s away, count-append (λ (x : Slot). is_same x s) ss ls))
        in-frames
        (λ f. let is = ap (λ w. often f (frames_in w)) in-whole in let most = often-most f s.buffer in omega (arith, is, most))
        refl
        (let is = ap (λ w. length (content_in w)) in-whole in let long : length (content k ++ []) ≡ length (content k) = ap length (append-nil (content k)) in omega (arith, is, long, short))
      where
        often-most : (f n : ℕ) → often f (n ∷ []) ≤ 1
        often-most f n = go (n == f) refl
          where
            go : (x : Bool) → (n == f) ≡ x → often f (n ∷ []) ≤ 1
            go true same = subst (λ (m : ℕ). often m (n ∷ []) ≤ 1) (eqb-true n f same) (omega (arith, often-own n []))
            go false other = omega (arith, often-other n f [] other)

-- the lane from which it was taken
pub lane-in : (ss ls : List Slot) (number : ℕ) (o : Out) (b : Book) (n : ℕ) (ns : List ℕ) (k : Kept) → Stands ss ls b → IsAway b (slot_at number n) → IsLane number o b (n ∷ ns) → IsLane number o (with_queued b (slot_at number n) k) ns
lane-in ss ls number o b n ns k st away l =
    let s = slot_at number n in
    let c = in-changes ss ls b st s away k in
    record {
      known = λ m. c.known (slot_at number m) ∙ l.known m;
      once = λ m. go m (n == m) refl;
      apart = l.apart;
    }
  where
    go : (m : ℕ) (x : Bool) → (n == m) ≡ x → often m ns + one_if (is_some (kept_at (with_queued b (slot_at number n) k) (slot_at number m))) ≡ often m o.numbers
    go m true same =
        let here : one_if (is_some (kept_at (with_queued b (slot_at number n) k) (slot_at number n))) ≡ 1 = ap (λ (x : Option Kept). one_if (is_some x)) (kept-in ss ls b st (slot_at number n) away k) in
        let free : one_if (is_some (kept_at b (slot_at number n))) ≡ 0 = ap one_if (not-kept ss ls b st (slot_at number n) away k) in
        subst (λ (j : ℕ). often j ns + one_if (is_some (kept_at (with_queued b (slot_at number n) k) (slot_at number j))) ≡ often j o.numbers) (eqb-true n m same) (let was = l.once n in omega (arith, was, here, free, often-own n ns))
    go m false other =
        let c = in-changes ss ls b st (slot_at number n) away k in
        let kept : kept_at (with_queued b (slot_at number n) k) (slot_at number m) ≡ kept_at b (slot_at number m) = kept-by b (with_queued b (slot_at number n) k) (slot_at number m) (c.places (slot_at number m) (λ own. often-other n m [] other)) in
        let stays = ap (λ (x : Option Kept). one_if (is_some x)) kept in
        let was = l.once m in
        omega (arith, was, stays, often-other n m ns other)

-- ---- an item is taken out

module _ (ss ls ss' ls' : List Slot) (b : Book) (st : Stands ss ls b) (s : Slot) (lent : Option ℕ) (i : Item) (is : item_at b s ≡ Some i) (in_state : is_state i.lent lent ≡ true) where
  abbrev out_book : Book
  out_book = without_frames b s lent (frames_at b s)

  own-frame : (f : ℕ) → 0 < often f (frames_of i) → has_frame b (slot_at s.peer f) s ≡ true
  own-frame f among = frame-true b s f (subst (λ (fs : List ℕ). 0 < often f fs) (sym (frames-some b s i is)) among)

  place-kept : (o : Option (Option Kept)) → is_some (option_and_then (λ p. p) o) ≡ true → is_some o ≡ true
  place-kept None e = e
  place-kept (Some p) e = refl

  takes : TakesOut b out_book s (frames_of i)
  takes = subst (λ (fs : List ℕ). TakesOut b (without_frames b s lent fs) s (frames_of i)) (sym (frames-some b s i is))
      (takes-out b s lent i.lent i.first i.more is in_state (λ f among. place-kept (place_at b (slot_at s.peer f)) (frame-kept ss ls b st (slot_at s.peer f) s (own-frame f among))))

  pub out-changes : Changes b out_book s (frames_of i) None
  out-changes = takes.changes

  pub out-others : (t : Slot) → is_same s t ≡ false → whole_at out_book t ≡ whole_at b t
  out-others = whole-there ss ls b st out_book s (frames_of i) None out-changes (λ f among t differ. frame-own ss ls b st (slot_at s.peer f) s t differ (own-frame f among))

  pub out-whole : whole_at out_book s ≡ None
  out-whole = whole-none out_book s (changed-item out-changes)

  -- what is held still
  out-kept : (f : Slot) → one_if (is_some (kept_at out_book f)) + one_if (has_frame b f s) ≡ one_if (is_some (kept_at b f))
  out-kept f = go (has_frame b f s) refl
    where
      go : (x : Bool) → has_frame b f s ≡ x → one_if (is_some (kept_at out_book f)) + one_if x ≡ one_if (is_some (kept_at b f))
      go true has =
          let parts = frame-parts b f s has in
          let among : 0 < often f.buffer (frames_of i) = subst (λ (fs : List ℕ). 0 < often f.buffer fs) (frames-some b s i is) parts.1 in
          let slot : slot_at s.peer f.buffer ≡ f = ap (λ (n : ℕ). slot_at n f.buffer) parts.0 in
          let away : one_if (is_some (kept_at out_book f)) ≡ 0 = ap (λ (x : Slot). one_if (is_some (kept_at out_book x))) (sym slot) ∙ ap (λ (o : Option (Option Kept)). one_if (is_some (option_and_then (λ p. p) o))) (takes.away f.buffer among) in
          let was : one_if (is_some (kept_at b f)) ≡ 1 = ap one_if (frame-kept ss ls b st f s has) in
          omega (arith, away, was)
      go false not =
          let kept = kept-by b out_book f (out-changes.places f (λ own. sym (ap (often f.buffer) (frames-some b s i is)) ∙ no-frame b f s not (sym own))) in
          let stays = ap (λ (o : Option Kept). one_if (is_some o)) kept in
          omega (arith, stays)

  module _ (fewer : HasMore s (ss' ++ ls') (ss ++ ls)) (same : (t : Slot) → is_same s t ≡ false → times_in t ss' ≡ times_in t ss) (same' : (t : Slot) → is_same s t ≡ false → times_in t ls' ≡ times_in t ls) where
    gone : times_in s (ss' ++ ls') ≡ 0
    gone = let one : one_if (is_some (item_at b s)) ≡ 1 = ap (λ (o : Option Item). one_if (is_some o)) is in omega (arith, one, item-times ss ls b st s, times-here s (ss' ++ ls') (ss ++ ls) fewer)

    out-frames : (f : Slot) → count_by (has_frame out_book f) (ss' ++ ls') ≡ one_if (is_some (kept_at out_book f))
    out-frames f =
        let stays = count-stays (has_frame b f) (has_frame out_book f) s (ss' ++ ls') gone (λ t differ. ap (λ (ns : List ℕ). t.peer == f.peer && nat_lt 0 (often f.buffer ns)) (ap frames_in (out-others t differ))) in
        let less = fewer (has_frame b f) in
        let was = st.framed f in
        omega (arith, stays, less, was, out-kept f)

    pub out-stands : Stands ss' ls' out_book
    out-stands =
        let both = count-append (λ (x : Slot). is_same x s) ss' ls' in
        stands-after ss ls ss' ls' b out_book s (frames_of i) None st out-changes out-others same same'
        (omega (arith, gone, both)) (omega (arith, gone, both)) out-frames
        (λ f. let none = ap (often f) (frames-none out_book s (changed-item out-changes)) in let zero : often f [] ≡ 0 = refl in omega (arith, none, zero))
        tt (let none = ap (λ w. length (content_in w)) out-whole in let zero : length (content_in None) ≡ 0 = refl in omega (arith, none, zero))

  -- its lane, whose buffers its frames are
  pub lane-out : (o : Out) (ns : List ℕ) → IsLane s.peer o b ns → IsLane s.peer o out_book (frames_at b s ++ ns)
  lane-out o ns l = record {
    known = λ m. out-changes.known (slot_at s.peer m) ∙ l.known m;
    once = λ m.
        let kept = out-kept (slot_at s.peer m) in
        let both = often-append m (frames_at b s) ns in
        let was = l.once m in
        let one = frame-one m in
        omega (arith, kept, both, was, one);
    apart = l.apart;
  }
    where
      frame-one : (m : ℕ) → often m (frames_at b s) ≡ one_if (has_frame b (slot_at s.peer m) s)
      frame-one m = go (has_frame b (slot_at s.peer m) s) refl
        where
          go : (x : Bool) → has_frame b (slot_at s.peer m) s ≡ x → often m (frames_at b s) ≡ one_if x
          go true has = let parts = frame-parts b (slot_at s.peer m) s has in let most = st.differ s m in omega (arith, parts.1, most)
          go false not = no-frame b (slot_at s.peer m) s not refl

-- ---- an item is lent

module _ (ss ls : List Slot) (b : Book) (st : Stands ss ls b) (s : Slot) (i : Item) (is : item_at b s ≡ Some i) (queued : is_state i.lent None ≡ true) where
  abbrev lent_book : Book
  lent_book = with_lent b s

  pub lending-changes : Changes b lent_book s [] (Some (lent_under b.lends i))
  lending-changes = lent-changes b s i is

  pub lending-others : (t : Slot) → is_same s t ≡ false → whole_at lent_book t ≡ whole_at b t
  lending-others = whole-there ss ls b st lent_book s [] (Some (lent_under b.lends i)) lending-changes (λ f among t differ. absurd (let zero : often f [] ≡ 0 = refl in omega (arith, zero, among)))

  kept-still : (f : Slot) → kept_at lent_book f ≡ kept_at b f
  kept-still f = kept-by b lent_book f (lending-changes.places f (λ own. refl))

  pub lending-whole : whole_at lent_book s ≡ Some (record { item = lent_under b.lends i; pieces = (whole_of b s.peer i).pieces })
  lending-whole =
      whole-some lent_book s (lent_under b.lends i) (changed-item lending-changes)
      ∙ ap (λ ks. Some (record { item = lent_under b.lends i; pieces = ks })) (pieces-same b lent_book s.peer (frames_of i) (λ f among. kept-still (slot_at s.peer f)))

  lending-frames_at : (t : Slot) → frames_at lent_book t ≡ frames_at b t
  lending-frames_at = each-slot s (λ t. frames_at lent_book t ≡ frames_at b t)
      (ap frames_in lending-whole ∙ sym (frames-some b s i is))
      (λ t differ. ap frames_in (lending-others t differ))

  module _ (vs ls' : List Slot) (fewer : HasMore s vs ss) (more : HasMore s ls ls') where
    lending-frames : (f : Slot) → count_by (has_frame lent_book f) (vs ++ ls') ≡ one_if (is_some (kept_at lent_book f))
    lending-frames f =
        let less = fewer (has_frame b f) in
        let has = more (has_frame b f) in
        let stays = count-each (has_frame b f) (has_frame lent_book f) (vs ++ ls') (λ t. ap (λ (ns : List ℕ). t.peer == f.peer && nat_lt 0 (often f.buffer ns)) (lending-frames_at t)) in
        let kept = ap (λ (o : Option Kept). one_if (is_some o)) (kept-still f) in
        omega (arith, less, has, stays, kept, st.framed f, count-append (has_frame b f) ss ls, count-append (has_frame b f) vs ls')

    pub lending-stands : Stands vs ls' lent_book
    lending-stands =
        let one : times_in s ss ≡ 1 = st.stands_once s ∙ ap (λ (o : Option Item). one_if (is_some (option_and_then (if_state None) o))) is ∙ ap (λ (x : Bool). one_if (is_some (cond x (Some i) None))) queued in
        let none = times-here s vs ss fewer in
        let lent = times-here s ls ls' more in
        let item : one_if (is_some (item_at b s)) ≡ 1 = ap (λ (o : Option Item). one_if (is_some o)) is in
        stands-after ss ls vs ls' b lent_book s [] (Some (lent_under b.lends i)) st lending-changes lending-others
        (λ t differ. sym (times-there s t vs ss fewer differ)) (λ t differ. times-there s t ls ls' more differ)
        (omega (arith, one, none))
        (omega (arith, one, lent, item, st.stands_once s, st.lent_once s))
        lending-frames
        (λ f. let same = ap (often f) (lending-frames_at s) in omega (arith, same, st.differ s f))
        (subst (IsNamed s) is (st.named s))
        (subst IsShort (sym lending-whole) (subst IsShort (whole-some b s i is) (st.short s)))

  pub lane-lent : (number : ℕ) (o : Out) (ns : List ℕ) → IsLane number o b ns → IsLane number o lent_book ns
  lane-lent number o ns l = record {
    known = λ n. lending-changes.known (slot_at number n) ∙ l.known n;
    once = λ n. ap (λ (x : Option Kept). often n ns + one_if (is_some x)) (kept-still (slot_at number n)) ∙ l.once n;
    apart = l.apart;
  }
