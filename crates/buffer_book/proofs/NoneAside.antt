-- Books in which nothing stands aside.
use Rattle.std.proofs.Common.{◌≡◌, ◌≢◌, ℕ, zero, suc, Bool, true, false, cond, List, [], ◌∷◌, map, replicate, Option, Some, None, refl, sym, ap, subst, ◌∙◌}
use Rattle.std.specs.Prelude.{slice_get, option_and_then, option_map, find, ◌==◌, is_some}
use Rattle.std.specs.Option.{option_or}
use Rattle.std.proofs.lemmas.Bool.{eqb-true, eqb-false}
use Rattle.mc_base.specs.declared.request.Slot.{Slot}
use Rattle.mc_base.specs.declared.request.PacketId.{PacketId}
use Rattle.buffer_book.specs.Book.{Kept, Item, Aside, Shelf, Book, IsFree, NoneAside, AreNone, opening_book, empty_shelf, shelf_of, slot_of, item_at, item_on, item_as, aside_on, place_aside, item_of_shelf, lent_as, if_state, with_own, with_shelf, with_queued, with_joined, with_lent, with_taken, enqueued, joined, lent_on, taken, taken_named, taken_named_of, taken_aside, taken_aside_of}
use Rattle.buffer_book.proofs.ShelfLemmas.{is_shelf_of, KeepsPeer, taken-peer, enqueued-peer}
use Rattle.buffer_book.proofs.ItemLemmas.{at-other_peer, name_of_shelf, free-aside, found-changed, or-none}

-- ---- books in which nothing stands aside

none-on : (aside : List (Option Aside)) (l : ℕ) → AreNone aside → aside_on aside l ≡ None
none-on aside l none = by-what (slice_get aside l) refl
  where
    by-what : (o : Option (Option Aside)) → slice_get aside l ≡ o → option_and_then (λ x. x) (slice_get aside l) ≡ None
    by-what None is = rw is refl
    by-what (Some None) is = rw is refl
    by-what (Some (Some a)) is = absurd (none l a is)

none-found : (aside : List (Option Aside)) (o : Option ℕ) → AreNone aside → option_map (λ (a : Aside). a.item) (option_and_then (aside_on aside) o) ≡ None
none-found aside None none = refl
none-found aside (Some l) none = ap (option_map (λ (a : Aside). a.item)) (none-on aside l none)

-- a lent item is then found by its name
pub lent-plain : (b : Book) (id : PacketId) → NoneAside b → lent_as b id ≡ option_and_then (if_state (Some id.serial)) (item_at b (slot_of id))
lent-plain b id none = by-shelf (shelf_of b id.peer) refl
  where
    by-shelf : (o : Option Shelf) → shelf_of b id.peer ≡ o → option_and_then (λ (s : Shelf). item_of_shelf s id.buffer (Some id.serial)) (shelf_of b id.peer) ≡ option_and_then (if_state (Some id.serial)) (option_and_then (λ (s : Shelf). item_on s.items id.buffer) (shelf_of b id.peer))
    by-shelf None is = rw is refl
    by-shelf (Some s) is = rw is (ap (option_or (item_as s.items id.buffer (Some id.serial))) (none-found s.aside (place_aside s.aside id.buffer (Some id.serial)) (none id.peer s is)) ∙ or-none (item_as s.items id.buffer (Some id.serial)))

mapped : (change : Shelf → Shelf) (o : Option Shelf) (t : Shelf) → option_map change o ≡ Some t → (s : Shelf) × (o ≡ Some s) × (change s ≡ t)
mapped change None t is = absurd cc
mapped change (Some s) t is = (s, refl, cc)

-- a change that leaves what stands aside
pub none-kept : (b : Book) (own : ℕ) (change : Shelf → Shelf) → KeepsPeer change → ((s : Shelf) → shelf_of b own ≡ Some s → (change s).aside ≡ s.aside) → NoneAside b → NoneAside (with_shelf b own change)
none-kept b own change keeps same none peer t found =
    elim (peer == own) as (λ e. (peer == own) ≡ e → AreNone t.aside) [
      | true ↦ λ is.
          let here : peer ≡ own = eqb-true peer own is in
          let there : find (is_shelf_of own) (map (with_own own change) b.shelves) ≡ Some t = subst (λ n. find (is_shelf_of n) (map (with_own own change) b.shelves) ≡ Some t) here found in
          let s = mapped change (shelf_of b own) t (sym (found-changed own change b.shelves keeps) ∙ there) in
          subst AreNone (sym (same s.0 s.1) ∙ ap (λ (x : Shelf). x.aside) s.2) (none own s.0 s.1)
      | false ↦ λ other. none peer t (sym (at-other_peer b own peer change keeps (eqb-false peer own other)) ∙ found)
    ] refl

pub none-enqueued : (b : Book) (slot : Slot) (k : Kept) → IsFree b slot → NoneAside b → NoneAside (with_queued b slot k)
none-enqueued b slot k free none =
    none-kept b slot.peer (enqueued slot.buffer k) (enqueued-peer slot.buffer k)
    (λ s found. ap (λ (x : Shelf). x.aside) (free-aside slot.buffer s (sym (ap (name_of_shelf slot.buffer) found) ∙ free))) none

pub none-joined : (b : Book) (slot : Slot) (k : Kept) → NoneAside b → NoneAside (with_joined b slot k)
none-joined b slot k none = none-kept b slot.peer (joined slot.buffer k.buffer.number k) (λ s. refl) (λ s found. refl) none

pub none-lent : (b : Book) (slot : Slot) → NoneAside b → NoneAside (with_lent b slot)
none-lent b slot none = none-kept b slot.peer (lent_on slot.buffer b.lends) (λ s. refl) (λ s found. refl) none

aside-taken : (name : ℕ) (lent : Option ℕ) (s : Shelf) → AreNone s.aside → (taken name lent s).aside ≡ s.aside
aside-taken name lent s none = by-found (is_some (item_as s.items name lent))
  where
    by-item : (o : Option Item) → (taken_named_of name o s).aside ≡ s.aside
    by-item None = refl
    by-item (Some i) = refl

    by-place : (o : Option ℕ) → (taken_aside o s).aside ≡ s.aside
    by-place None = refl
    by-place (Some l) = ap (λ (o : Option Aside). (taken_aside_of l o s).aside) (none-on s.aside l none)

    by-found : (b : Bool) → (cond b (taken_named name s) (taken_aside (place_aside s.aside name lent) s)).aside ≡ s.aside
    by-found true = by-item (item_on s.items name)
    by-found false = by-place (place_aside s.aside name lent)

pub none-taken : (b : Book) (slot : Slot) (lent : Option ℕ) → NoneAside b → NoneAside (with_taken b slot lent)
none-taken b slot lent none = none-kept b slot.peer (taken slot.buffer lent) (taken-peer slot.buffer lent) (λ s found. aside-taken slot.buffer lent s (none slot.peer s found)) none

pub none-opening : (sizes : List (ℕ × ℕ)) → NoneAside (opening_book sizes)
none-opening [] peer s found l a is = absurd cc
none-opening (size ∷ sizes) peer s found l a is =
    elim (size.0 == peer) as (λ e. cond e (Some (empty_shelf size)) (shelf_of (opening_book sizes) peer) ≡ Some s → ⊥) [
      | true ↦ λ here. let same : empty_shelf size ≡ s = cc in none-there size.1 l a (ap (λ (x : Shelf). slice_get x.aside l) same ∙ is)
      | false ↦ λ there. none-opening sizes peer s there l a is
    ] found
  where
    none-there : (n l : ℕ) (a : Aside) → slice_get (replicate n None) l ≢ Some (Some a)
    none-there zero l a is = absurd cc
    none-there (suc n) zero a is = absurd cc
    none-there (suc n) (suc l) a is = none-there n l a is
