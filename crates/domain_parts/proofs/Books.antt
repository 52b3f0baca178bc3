-- Slots, the items that they name in a book of buffers, and what a change at one slot leaves of all others.
use Rattle.std.proofs.Common.{◌≡◌, ◌≢◌, ℕ, zero, suc, ◌<◌, ◌+◌, Bool, true, false, cond, List, [], ◌∷◌, ◌++◌, map, find, Option, Some, None, refl, sym, ap, ◌∙◌, subst, eq-eqb, arith}
use Rattle.std.specs.Prelude.{is_some, option_and_then, option_map, option_to_list, slice_get, ◌==◌}
use Rattle.std.proofs.lemmas.Bool.{eqb-true, eqb-false, and_parts, and_from, both_ways, false_from_ne_true}
use Rattle.std.proofs.lemmas.Option.{option_and_then_some}
use Rattle.mc_base.specs.Numbers.{often}
use Rattle.mc_base.specs.declared.request.Slot.{Slot}
use Rattle.buffer_book.specs.Book.{Book, IsAway, IsFree, Item, Kept, NoneAside, Shelf, frames_of, is_state, item_at, kept_at, left_of, lent_on, lent_under, name_at, place_at, shelf_of, taken, with_lent, with_own, with_queued, with_shelf, with_taken, enqueued, joined, with_frame, with_joined}
use Rattle.buffer_book.proofs.Sets.{set-other}
use Rattle.buffer_book.proofs.ShelfLemmas.{KeepsPeer, enqueued-peer, taken-peer}
use Rattle.buffer_book.proofs.ItemLemmas.{at-other_peer, at-own, enqueued-name, enqueued-name_kept, enqueued-place, enqueued-place_kept, item-name, joined-name, joined-name_kept, joined-place, joined-place_kept, lent-name, lent-name_kept, lent-place_kept, name-item, single, taken-name, taken-name_kept, taken-place, taken-shelf}
use Rattle.buffer_book.proofs.NoneAside.{none-enqueued, none-joined, none-lent, none-taken}
use Rattle.domain_parts.specs.InBook.{Whole, frames_at, frames_in, pieces_of, slot_at, whole_at, whole_of}
use Rattle.domain_parts.specs.InPlaces.{is_same}
use Rattle.domain_parts.specs.Steps.{without_frames}

pub itself : (s : Slot) → is_same s s ≡ true
itself s = and_from _ _ (eq-eqb s.peer s.peer refl) (eq-eqb s.buffer s.buffer refl)

pub same-slot : (s t : Slot) → is_same s t ≡ true → s ≡ t
same-slot s t same =
    let parts = and_parts (s.peer == t.peer) (s.buffer == t.buffer) same in
    ap (λ (n : ℕ). slot_at n s.buffer) (eqb-true s.peer t.peer parts.0) ∙ ap (λ (n : ℕ). slot_at t.peer n) (eqb-true s.buffer t.buffer parts.1)

pub differ-back : (s t : Slot) → is_same s t ≡ false → is_same t s ≡ false
differ-back s t differ =
    false_from_ne_true (is_same t s) (λ same. both_ways (is_same s t) differ (subst (λ (x : Slot). is_same x t ≡ true) (same-slot t s same) (itself t)))

-- what holds at one slot and at each that differs from it holds at all
pub each-slot : (s : Slot) (P : Slot → Type 0) → P s → ((t : Slot) → is_same s t ≡ false → P t) → (t : Slot) → P t
each-slot s P here there t = go (is_same s t) refl
  where
    go : (b : Bool) → is_same s t ≡ b → P t
    go true same = subst P (same-slot s t same) here
    go false differ = there t differ

pub often-own : (n : ℕ) (ns : List ℕ) → often n (n ∷ ns) ≡ 1 + often n ns
often-own n ns = ap (λ (b : Bool). cond b 1 0 + often n ns) (eq-eqb n n refl)

pub often-other : (n m : ℕ) (ns : List ℕ) → (n == m) ≡ false → often m (n ∷ ns) ≡ often m ns
often-other n m ns differ = ap (λ (b : Bool). cond b 1 0 + often m ns) differ ∙ omega arith

-- ---- the item that a slot names, and what its frames hold

pub whole-item : (b : Book) (s : Slot) → option_map (λ (w : Whole). w.item) (whole_at b s) ≡ item_at b s
whole-item b s = go (item_at b s)
  where
    go : (o : Option Item) → option_map (λ (w : Whole). w.item) (option_map (whole_of b s.peer) o) ≡ o
    go None = refl
    go (Some i) = refl

pub same-item : (b b' : Book) (s : Slot) → whole_at b' s ≡ whole_at b s → item_at b' s ≡ item_at b s
same-item b b' s same = sym (whole-item b' s) ∙ ap (option_map (λ (w : Whole). w.item)) same ∙ whole-item b s

pub whole-none : (b : Book) (s : Slot) → item_at b s ≡ None → whole_at b s ≡ None
whole-none b s none = ap (option_map (whole_of b s.peer)) none

pub whole-some : (b : Book) (s : Slot) (i : Item) → item_at b s ≡ Some i → whole_at b s ≡ Some (whole_of b s.peer i)
whole-some b s i is = ap (option_map (whole_of b s.peer)) is

pub frames-none : (b : Book) (s : Slot) → item_at b s ≡ None → frames_at b s ≡ []
frames-none b s none = ap frames_in (whole-none b s none)

pub frames-some : (b : Book) (s : Slot) (i : Item) → item_at b s ≡ Some i → frames_at b s ≡ frames_of i
frames-some b s i is = ap frames_in (whole-some b s i is)

-- what has a frame is an item
pub frame-item : (b : Book) (s : Slot) (f : ℕ) → 0 < often f (frames_at b s) → is_some (item_at b s) ≡ true
frame-item b s f among = go (item_at b s) refl
  where
    go : (o : Option Item) → item_at b s ≡ o → is_some (item_at b s) ≡ true
    go None e = let none : often f (frames_at b s) ≡ 0 = ap (often f) (frames-none b s e) in absurd (omega (arith, none, among))
    go (Some i) e = ap (λ (o : Option Item). is_some o) e

pub pieces-same : (b b' : Book) (peer : ℕ) (fs : List ℕ) → ((f : ℕ) → 0 < often f fs → kept_at b' (slot_at peer f) ≡ kept_at b (slot_at peer f)) → pieces_of b' peer fs ≡ pieces_of b peer fs
pieces-same b b' peer [] same = refl
pieces-same b b' peer (f ∷ fs) same =
    ap (λ (o : Option Kept). option_to_list o ++ pieces_of b' peer fs) (same f (omega (arith, often-own f fs)))
    ∙ ap (λ (ks : List Kept). option_to_list (kept_at b (slot_at peer f)) ++ ks) (pieces-same b b' peer fs (λ g among. same g (omega (arith, among))))

-- where an item stays, and so does what its frames hold
pub whole-kept : (b b' : Book) (t : Slot) → item_at b' t ≡ item_at b t → ((f : ℕ) → 0 < often f (frames_at b t) → kept_at b' (slot_at t.peer f) ≡ kept_at b (slot_at t.peer f)) → whole_at b' t ≡ whole_at b t
whole-kept b b' t items places = go (item_at b t) refl
  where
    go : (o : Option Item) → item_at b t ≡ o → whole_at b' t ≡ whole_at b t
    go None e = whole-none b' t (items ∙ e) ∙ sym (whole-none b t e)
    go (Some i) e =
        whole-some b' t i (items ∙ e)
        ∙ ap (λ (ks : List Kept). Some (record { item = i; pieces = ks })) (pieces-same b b' t.peer (frames_of i) (λ f among. places f (subst (λ (fs : List ℕ). 0 < often f fs) (sym (frames-some b t i e)) among)))
        ∙ sym (whole-some b t i e)

-- each other slot names the same item, whose frames hold the same
abbrev pub Others : Book → Book → Slot → Type 0
Others b b' s = (t : Slot) → is_same s t ≡ false → whole_at b' t ≡ whole_at b t

-- ---- a change at one shelf

abbrev name_of : ℕ → Option Shelf → Option (Option Item)
name_of n o = option_and_then (λ (x : Shelf). slice_get x.items n) o

abbrev place_of : ℕ → Option Shelf → Option (Option Kept)
place_of n o = option_and_then (λ (x : Shelf). slice_get x.places n) o

pub kept-by : (b b' : Book) (s : Slot) → place_at b' s ≡ place_at b s → kept_at b' s ≡ kept_at b s
kept-by b b' s same = ap (λ (o : Option (Option Kept)). option_and_then (λ p. p) o) same

item-by : (b b' : Book) (s : Slot) → name_at b' s ≡ name_at b s → item_at b' s ≡ item_at b s
item-by b b' s same = item-name b' s ∙ ap (λ (o : Option (Option Item)). option_and_then (λ x. x) o) same ∙ sym (item-name b s)

own-apart : (s t : Slot) → is_same s t ≡ false → (s.peer == t.peer) ≡ true → t.buffer ≢ s.buffer
own-apart s t differ same numbers = both_ways (is_same s t) differ (and_from _ _ same (eq-eqb s.buffer t.buffer (sym numbers)))

other-peer : (n m : ℕ) → (n == m) ≡ false → m ≢ n
other-peer n m other peers = eqb-false n m other (sym peers)

name-there : (b : Book) (s t : Slot) (change : Shelf → Shelf) → KeepsPeer change → is_same s t ≡ false → (t.buffer ≢ s.buffer → name_at (with_shelf b s.peer change) t ≡ name_at b t) → name_at (with_shelf b s.peer change) t ≡ name_at b t
name-there b s t change keeps differ own = go (s.peer == t.peer) refl
  where
    go : (x : Bool) → (s.peer == t.peer) ≡ x → name_at (with_shelf b s.peer change) t ≡ name_at b t
    go true same = own (own-apart s t differ same)
    go false other = ap (name_of t.buffer) (at-other_peer b s.peer t.peer change keeps (other-peer s.peer t.peer other))

place-there : (b : Book) (s t : Slot) (change : Shelf → Shelf) → KeepsPeer change → is_same s t ≡ false → (t.buffer ≢ s.buffer → place_at (with_shelf b s.peer change) t ≡ place_at b t) → place_at (with_shelf b s.peer change) t ≡ place_at b t
place-there b s t change keeps differ own = go (s.peer == t.peer) refl
  where
    go : (x : Bool) → (s.peer == t.peer) ≡ x → place_at (with_shelf b s.peer change) t ≡ place_at b t
    go true same = own (own-apart s t differ same)
    go false other = ap (place_of t.buffer) (at-other_peer b s.peer t.peer change keeps (other-peer s.peer t.peer other))

no-shelf : (peer : ℕ) (change : Shelf → Shelf) (ss : List Shelf) → find (λ (x : Shelf). x.peer == peer) ss ≡ None → find (λ (x : Shelf). x.peer == peer) (map (with_own peer change) ss) ≡ None
no-shelf peer change [] e = refl
no-shelf peer change (x ∷ ss) e = by (x.peer == peer) refl e (λ left. no-shelf peer change ss left)
  where
    by : (y : Bool) → (x.peer == peer) ≡ y → cond y (Some x) (find (λ (z : Shelf). z.peer == peer) ss) ≡ None → (find (λ (z : Shelf). z.peer == peer) ss ≡ None → find (λ (z : Shelf). z.peer == peer) (map (with_own peer change) ss) ≡ None)
        → find (λ (z : Shelf). z.peer == peer) (with_own peer change x ∷ map (with_own peer change) ss) ≡ None
    by true is e later = absurd cc
    by false other e later =
        let left : with_own peer change x ≡ x = ap (λ (y : Bool). cond y (change x) x) other in
        ap (λ (y : Shelf). cond (y.peer == peer) (Some y) (find (λ (z : Shelf). z.peer == peer) (map (with_own peer change) ss))) left
        ∙ ap (λ (y : Bool). cond y (Some x) (find (λ (z : Shelf). z.peer == peer) (map (with_own peer change) ss))) other ∙ later e

-- the same peers have shelves
shelf-there : (b : Book) (peer : ℕ) (change : Shelf → Shelf) → KeepsPeer change → (n : ℕ) → is_some (shelf_of (with_shelf b peer change) n) ≡ is_some (shelf_of b n)
shelf-there b peer change keeps n = go (peer == n) refl (own (shelf_of b peer) refl)
  where
    own : (o : Option Shelf) → shelf_of b peer ≡ o → is_some (shelf_of (with_shelf b peer change) peer) ≡ is_some (shelf_of b peer)
    own None e = ap (λ (o : Option Shelf). is_some o) (no-shelf peer change b.shelves e) ∙ sym (ap (λ (o : Option Shelf). is_some o) e)
    own (Some x) e = ap (λ (o : Option Shelf). is_some o) (at-own b peer change x keeps e) ∙ sym (ap (λ (o : Option Shelf). is_some o) e)

    go : (x : Bool) → (peer == n) ≡ x → is_some (shelf_of (with_shelf b peer change) peer) ≡ is_some (shelf_of b peer) → is_some (shelf_of (with_shelf b peer change) n) ≡ is_some (shelf_of b n)
    go true same here = subst (λ (m : ℕ). is_some (shelf_of (with_shelf b peer change) m) ≡ is_some (shelf_of b m)) (eqb-true peer n same) here
    go false other here = ap (λ (o : Option Shelf). is_some o) (at-other_peer b peer n change keeps (other-peer peer n other))

-- What a change at a slot leaves. The slot names an item after it or none, some frames of its peer may be held or not, and all else stays
pub record Changes (b b' : Book) (s : Slot) (fs : List ℕ) (after : Option Item) : Type 0 where
  pub name : name_at b' s ≡ Some after
  pub items : (t : Slot) → is_same s t ≡ false → item_at b' t ≡ item_at b t
  pub places : (f : Slot) → (f.peer ≡ s.peer → often f.buffer fs ≡ 0) → place_at b' f ≡ place_at b f
  pub names : (t : Slot) → is_some (name_at b' t) ≡ is_some (name_at b t)
  pub known : (f : Slot) → is_some (place_at b' f) ≡ is_some (place_at b f)
  pub aside : NoneAside b → NoneAside b'
  pub shelves : (n : ℕ) → is_some (shelf_of b' n) ≡ is_some (shelf_of b n)

pub changed-item : {b b' : Book} {s : Slot} {fs : List ℕ} {after : Option Item} → Changes b b' s fs after → item_at b' s ≡ after
changed-item {b' = b'} {s = s} c = item-name b' s ∙ ap (λ (o : Option (Option Item)). option_and_then (λ x. x) o) c.name

not-own : (s f : Slot) → (f.peer ≡ s.peer → often f.buffer (s.buffer ∷ []) ≡ 0) → is_same s f ≡ false
not-own s f apart = false_from_ne_true (is_same s f) (λ same. let slot = same-slot s f same in let none = apart (ap (λ (x : Slot). x.peer) (sym slot)) in let one = ap (λ (x : Slot). often x.buffer (s.buffer ∷ [])) (sym slot) ∙ often-own s.buffer [] in absurd (omega (arith, none, one)))

-- ---- a buffer comes in

module _ (b : Book) (s : Slot) (k : Kept) (free : IsFree b s) (away : IsAway b s) where
  pub queued-place : place_at (with_queued b s k) s ≡ Some (Some k)
  queued-place = enqueued-place b s k away

  places-there : (f : Slot) → is_same s f ≡ false → place_at (with_queued b s k) f ≡ place_at b f
  places-there f differ = place-there b s f (enqueued s.buffer k) (enqueued-peer s.buffer k) differ (λ other. enqueued-place_kept b s f k other)

  pub queued-changes : Changes b (with_queued b s k) s (s.buffer ∷ []) (Some (single s.buffer))
  queued-changes = record {
    name = enqueued-name b s k free;
    items = λ t differ. item-by b (with_queued b s k) t (name-there b s t (enqueued s.buffer k) (enqueued-peer s.buffer k) differ (λ other. enqueued-name_kept b s t k other));
    places = λ f apart. places-there f (not-own s f apart);
    names = each-slot s (λ t. is_some (name_at (with_queued b s k) t) ≡ is_some (name_at b t))
        (ap (λ (o : Option (Option Item)). is_some o) (enqueued-name b s k free) ∙ sym (ap (λ (o : Option (Option Item)). is_some o) free))
        (λ t differ. ap (λ (o : Option (Option Item)). is_some o) (name-there b s t (enqueued s.buffer k) (enqueued-peer s.buffer k) differ (λ other. enqueued-name_kept b s t k other)));
    known = each-slot s (λ f. is_some (place_at (with_queued b s k) f) ≡ is_some (place_at b f))
        (ap (λ (o : Option (Option Kept)). is_some o) queued-place ∙ sym (ap (λ (o : Option (Option Kept)). is_some o) away))
        (λ f differ. ap (λ (o : Option (Option Kept)). is_some o) (places-there f differ));
    aside = none-enqueued b s k free;
    shelves = shelf-there b s.peer (enqueued s.buffer k) (enqueued-peer s.buffer k);
  }

-- ---- a buffer joins an item

module _ (b : Book) (s : Slot) (k : Kept) (i : Item) (is : item_at b s ≡ Some i) (away : IsAway b (slot_at s.peer k.buffer.number)) where
  abbrev joins : Slot
  joins = slot_at s.peer k.buffer.number

  joined-there : (t : Slot) → is_same s t ≡ false → name_at (with_joined b s k) t ≡ name_at b t
  joined-there t differ = name-there b s t (joined s.buffer k.buffer.number k) (λ x. refl) differ (λ other. joined-name_kept b s t k other)

  joins-there : (f : Slot) → is_same joins f ≡ false → place_at (with_joined b s k) f ≡ place_at b f
  joins-there f differ = place-there b joins f (joined s.buffer k.buffer.number k) (λ x. refl) differ (λ other. joined-place_kept b s f k other)

  pub joined-changes : Changes b (with_joined b s k) s (k.buffer.number ∷ []) (Some (with_frame k.buffer.number i))
  joined-changes = record {
    name = joined-name b s k i is;
    items = λ t differ. item-by b (with_joined b s k) t (joined-there t differ);
    places = λ f apart. joins-there f (not-own joins f apart);
    names = each-slot s (λ t. is_some (name_at (with_joined b s k) t) ≡ is_some (name_at b t))
        (ap (λ (o : Option (Option Item)). is_some o) (joined-name b s k i is) ∙ sym (ap (λ (o : Option (Option Item)). is_some o) (name-item b s i is)))
        (λ t differ. ap (λ (o : Option (Option Item)). is_some o) (joined-there t differ));
    known = each-slot joins (λ f. is_some (place_at (with_joined b s k) f) ≡ is_some (place_at b f))
        (ap (λ (o : Option (Option Kept)). is_some o) (joined-place b s k away) ∙ sym (ap (λ (o : Option (Option Kept)). is_some o) away))
        (λ f differ. ap (λ (o : Option (Option Kept)). is_some o) (joins-there f differ));
    aside = none-joined b s k;
    shelves = joined-shelves_of;
  }
    where
      joined-shelves_of : (n : ℕ) → is_some (shelf_of (with_joined b s k) n) ≡ is_some (shelf_of b n)
      joined-shelves_of = shelf-there b s.peer (joined s.buffer k.buffer.number k) (λ x. refl)

-- the same peers have shelves
pub joined-shelves : (b : Book) (s : Slot) (k : Kept) (n : ℕ) → is_some (shelf_of (with_joined b s k) n) ≡ is_some (shelf_of b n)
joined-shelves b s k = shelf-there b s.peer (joined s.buffer k.buffer.number k) (λ x. refl)

pub queued-shelves : (b : Book) (s : Slot) (k : Kept) (n : ℕ) → is_some (shelf_of (with_queued b s k) n) ≡ is_some (shelf_of b n)
queued-shelves b s k = shelf-there b s.peer (enqueued s.buffer k) (enqueued-peer s.buffer k)

-- ---- an item is lent

pub lent-changes : (b : Book) (s : Slot) (i : Item) → item_at b s ≡ Some i → Changes b (with_lent b s) s [] (Some (lent_under b.lends i))
lent-changes b s i is = record {
  name = lent-name b s i is;
  items = λ t differ. item-by b (with_lent b s) t (there t differ);
  places = λ f apart. lent-place_kept b s f;
  names = each-slot s (λ t. is_some (name_at (with_lent b s) t) ≡ is_some (name_at b t))
      (ap (λ (o : Option (Option Item)). is_some o) (lent-name b s i is) ∙ sym (ap (λ (o : Option (Option Item)). is_some o) (name-item b s i is)))
      (λ t differ. ap (λ (o : Option (Option Item)). is_some o) (there t differ));
  known = λ f. ap (λ (o : Option (Option Kept)). is_some o) (lent-place_kept b s f);
  aside = none-lent b s;
  shelves = shelf-there b s.peer (lent_on s.buffer b.lends) (λ x. refl);
}
  where
    there : (t : Slot) → is_same s t ≡ false → name_at (with_lent b s) t ≡ name_at b t
    there t differ = name-there b s t (lent_on s.buffer b.lends) (λ x. refl) differ (λ other. lent-name_kept b s t other)

-- ---- the first frame of an item is taken out

module _ (b : Book) (s : Slot) (lent : Option ℕ) (i : Item) (is : item_at b s ≡ Some i) (state : is_state i.lent lent ≡ true) where
  own-places : (m : ℕ) → m ≢ i.first → place_at (with_taken b s lent) (slot_at s.peer m) ≡ place_at b (slot_at s.peer m)
  own-places m other =
      option_and_then_some (λ (x : Shelf). slice_get x.items s.buffer) (shelf_of b s.peer) (Some i) (name-item b s i is)
      (λ x found at.
      ap (place_of m) (at-own b s.peer (taken s.buffer lent) x (taken-peer s.buffer lent) found)
      ∙ ap (λ (y : Shelf). slice_get y.places m) (taken-shelf x s.buffer lent i at state)
      ∙ set-other x.places i.first m None other
      ∙ sym (ap (place_of m) found))

  taken-places : (f : Slot) → is_same (slot_at s.peer i.first) f ≡ false → place_at (with_taken b s lent) f ≡ place_at b f
  taken-places f differ = go (s.peer == f.peer) refl
    where
      go : (x : Bool) → (s.peer == f.peer) ≡ x → place_at (with_taken b s lent) f ≡ place_at b f
      go true same = subst (λ (n : ℕ). place_at (with_taken b s lent) (slot_at n f.buffer) ≡ place_at b (slot_at n f.buffer)) (eqb-true s.peer f.peer same) (own-places f.buffer (own-apart (slot_at s.peer i.first) f differ same))
      go false other = ap (place_of f.buffer) (at-other_peer b s.peer f.peer (taken s.buffer lent) (taken-peer s.buffer lent) (other-peer s.peer f.peer other))

  names-there : (t : Slot) → is_same s t ≡ false → name_at (with_taken b s lent) t ≡ name_at b t
  names-there t differ = name-there b s t (taken s.buffer lent) (taken-peer s.buffer lent) differ (λ other. taken-name_kept b s t lent other)

  module _ (p : Option Kept) (there : place_at b (slot_at s.peer i.first) ≡ Some p) where
    pub first-away : IsAway (with_taken b s lent) (slot_at s.peer i.first)
    first-away = taken-place b s lent i p is state there

    pub taken-changes : Changes b (with_taken b s lent) s (i.first ∷ []) (left_of i.lent i.more)
    taken-changes = record {
      name = taken-name b s lent i is state;
      items = λ t differ. item-by b (with_taken b s lent) t (names-there t differ);
      places = λ f apart. taken-places f (not-own (slot_at s.peer i.first) f apart);
      names = each-slot s (λ t. is_some (name_at (with_taken b s lent) t) ≡ is_some (name_at b t))
          (ap (λ (o : Option (Option Item)). is_some o) (taken-name b s lent i is state) ∙ sym (ap (λ (o : Option (Option Item)). is_some o) (name-item b s i is)))
          (λ t differ. ap (λ (o : Option (Option Item)). is_some o) (names-there t differ));
      known = each-slot (slot_at s.peer i.first) (λ f. is_some (place_at (with_taken b s lent) f) ≡ is_some (place_at b f))
          (ap (λ (o : Option (Option Kept)). is_some o) first-away ∙ sym (ap (λ (o : Option (Option Kept)). is_some o) there))
          (λ f differ. ap (λ (o : Option (Option Kept)). is_some o) (taken-places f differ));
      aside = none-taken b s lent;
      shelves = shelf-there b s.peer (taken s.buffer lent) (taken-peer s.buffer lent);
    }

-- ---- an item is taken out whole, frame by frame

pub record TakesOut (b b' : Book) (s : Slot) (fs : List ℕ) : Type 0 where
  pub changes : Changes b b' s fs None
  pub away : (f : ℕ) → 0 < often f fs → IsAway b' (slot_at s.peer f)

some-place : (o : Option (Option Kept)) → is_some o ≡ true → (p : Option Kept) × (o ≡ Some p)
some-place None is = absurd cc
some-place (Some p) is = (p, refl)

abbrev AreThere : Book → ℕ → List ℕ → Type 0
AreThere b peer fs = (f : ℕ) → 0 < often f fs → is_some (place_at b (slot_at peer f)) ≡ true

pub takes-out : (b : Book) (s : Slot) (lent state : Option ℕ) (first : ℕ) (more : List ℕ) → item_at b s ≡ Some (record { lent = state; first = first; more = more }) → is_state state lent ≡ true → AreThere b s.peer (first ∷ more) → TakesOut b (without_frames b s lent (first ∷ more)) s (first ∷ more)
takes-out b s lent state first [] is in_state there =
    let i : Item = record { lent = state; first = first; more = [] } in
    let p = some-place (place_at b (slot_at s.peer first)) (there first (omega (arith, often-own first []))) in
    record {
      changes = taken-changes b s lent i is in_state p.0 p.1;
      away = λ f among. go f (first == f) refl among (first-away b s lent i is in_state p.0 p.1);
    }
  where
    go : (f : ℕ) (x : Bool) → (first == f) ≡ x → 0 < often f (first ∷ []) → IsAway (with_taken b s lent) (slot_at s.peer first) → IsAway (with_taken b s lent) (slot_at s.peer f)
    go f true same among away = subst (λ (n : ℕ). IsAway (with_taken b s lent) (slot_at s.peer n)) (eqb-true first f same) away
    go f false differ among away = let none = often-other first f [] differ in let zero : often f [] ≡ 0 = refl in absurd (omega (arith, none, zero, among))
takes-out b s lent state first (g ∷ gs) is in_state there =
    let i : Item = record { lent = state; first = first; more = g ∷ gs } in
    let p = some-place (place_at b (slot_at s.peer first)) (there first (omega (arith, often-own first (g ∷ gs)))) in
    let one = taken-changes b s lent i is in_state p.0 p.1 in
    let b1 = with_taken b s lent in
    let rest = takes-out b1 s lent state g gs (changed-item one) in_state (λ f among. one.known (slot_at s.peer f) ∙ there f (omega (arith, among))) in
    record {
      changes = record {
        name = rest.changes.name;
        items = λ t differ. rest.changes.items t differ ∙ one.items t differ;
        places = λ f apart. rest.changes.places f (λ own. let none = apart own in omega (arith, none)) ∙ one.places f (λ own. let none = apart own in let zero : often f.buffer [] ≡ 0 = refl in omega (arith, none, zero));
        names = λ t. rest.changes.names t ∙ one.names t;
        known = λ f. rest.changes.known f ∙ one.known f;
        aside = λ none. rest.changes.aside (one.aside none);
        shelves = λ n. rest.changes.shelves n ∙ one.shelves n;
      };
      away = λ f among. go f (first == f) refl among (often f (g ∷ gs)) refl rest (first-away b s lent i is in_state p.0 p.1);
    }
  where
    go : (f : ℕ) (x : Bool) → (first == f) ≡ x → 0 < often f (first ∷ g ∷ gs) → (n : ℕ) → often f (g ∷ gs) ≡ n → TakesOut (with_taken b s lent) (without_frames (with_taken b s lent) s lent (g ∷ gs)) s (g ∷ gs) → IsAway (with_taken b s lent) (slot_at s.peer first) → IsAway (without_frames (with_taken b s lent) s lent (g ∷ gs)) (slot_at s.peer f)
    go f x same among (suc n) many rest away = rest.away f (omega (arith, many))
    go f true same among zero none rest away =
        rest.changes.places (slot_at s.peer f) (λ own. none) ∙ subst (λ (m : ℕ). IsAway (with_taken b s lent) (slot_at s.peer m)) (eqb-true first f same) away
    go f false differ among zero none rest away = let other = often-other first f (g ∷ gs) differ in absurd (omega (arith, other, none, among))

-- the same peers have shelves
pub without-shelves : (b : Book) (s : Slot) (lent : Option ℕ) (fs : List ℕ) (n : ℕ) → is_some (shelf_of (without_frames b s lent fs) n) ≡ is_some (shelf_of b n)
without-shelves b s lent [] n = refl
without-shelves b s lent (f ∷ fs) n = without-shelves (with_taken b s lent) s lent fs n ∙ shelf-there b s.peer (taken s.buffer lent) (taken-peer s.buffer lent) n

pub without-lends : (b : Book) (s : Slot) (lent : Option ℕ) (fs : List ℕ) → (without_frames b s lent fs).lends ≡ b.lends
without-lends b s lent [] = refl
without-lends b s lent (f ∷ fs) = without-lends (with_taken b s lent) s lent fs
