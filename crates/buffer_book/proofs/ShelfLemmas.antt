-- Shelves as the code goes over them.
use Rattle.std.proofs.Common.{◌≡◌, ℕ, zero, suc, ◌+◌, ◌<◌, Bool, true, false, cond, not, List, [], ◌∷◌, length, map, Option, Some, None, refl, sym, ap, subst, ◌∙◌, arith, get_or, take, drop, ◌++◌}
use Rattle.std.specs.Prelude.{position, slice_get, slice_set, option_and_then, find, is_some, ◌==◌, nat_lt, IsSome, IsNone}
use Rattle.std.specs.List.{AllByRecursion, position_or_len}
use Rattle.std.proofs.lemmas.Bool.{eqb-true, ltb-false}
use Rattle.std.proofs.lemmas.List.{length-map}
use Rattle.std.proofs.lemmas.List.Folds.{find_at}
use Rattle.std.proofs.Math.Seq.{take-append_seam}
use Rattle.std.proofs.lemmas.Option.{slice_get_past, slice_get_read, slice_get_within, cond_some}
use Rattle.mc_base.specs.declared.request.Slot.{Slot}
use Rattle.std.specs.Option.{option_or}
use Rattle.buffer_book.specs.Book.{Kept, Item, Aside, Shelf, AllDiffer, empty_shelf, with_own, item_as, item_on, item_at, item_of_shelf, queued_at, if_state, frame_on, frames_of, kept_on_place, place_aside, aside_on, enqueued, aside_of, taken, taken_named, taken_named_of, taken_aside, taken_aside_of}
use Rattle.buffer_book.specs.Shelves.{shelved, place_in, item_in, frame_in, with_shelf_in, PeersDiffer}

-- ---- the shelf of a peer

abbrev pub is_shelf_of : ℕ → Shelf → Bool
is_shelf_of peer s = s.peer == peer

found-by : {X : Type 0} (xs : List X) (n : ℕ) (b : Bool) → nat_lt n (length xs) ≡ b → slice_get xs n ≡ option_and_then (λ i. slice_get xs i) (cond b (Some n) None)
found-by xs n true e = refl
found-by xs n false e = slice_get_past xs n (ltb-false n (length xs) e)

-- what is found first stands at the first place
pub find-position : {X : Type 0} (p : X → Bool) (xs : List X) → find p xs ≡ option_and_then (λ i. slice_get xs i) (position p xs)
find-position p xs = find_at p xs ∙ found-by xs (position_or_len p xs) (nat_lt (position_or_len p xs) (length xs)) refl

-- the shelf at a peer's place is found
pub found-at : (ss : List Shelf) (peer i : ℕ) (s : Shelf) → position (is_shelf_of peer) ss ≡ Some i → i < length ss → s ≡ get_or ss i s → find (is_shelf_of peer) ss ≡ Some s
found-at ss peer i s place lt read = find-position (is_shelf_of peer) ss ∙ ap (option_and_then (λ j. slice_get ss j)) place ∙ slice_get_read ss (length ss) i s refl lt read

-- without a place there is no shelf
pub not-found : (ss : List Shelf) (peer : ℕ) → position (is_shelf_of peer) ss ≡ None → find (is_shelf_of peer) ss ≡ None
not-found ss peer none = find-position (is_shelf_of peer) ss ∙ ap (option_and_then (λ j. slice_get ss j)) none

or-none : {X : Type 0} (o : Option X) → option_or o None ≡ o
or-none None = refl
or-none (Some x) = refl

-- the item that a slot names is one of the shelf
pub item-found : (ss : List Shelf) (slot : Slot) (lent : Option ℕ) (s : Shelf) → find (is_shelf_of slot.peer) ss ≡ Some s → item_in ss slot lent ≡ item_of_shelf s slot.buffer lent
item-found ss slot None s found = ap (λ (o : Option Shelf). option_and_then (if_state None) (option_and_then (λ (x : Shelf). item_on x.items slot.buffer) o)) found ∙ sym (or-none (item_as s.items slot.buffer None))
item-found ss slot (Some serial) s found = ap (λ (o : Option Shelf). option_and_then (λ (x : Shelf). item_of_shelf x slot.buffer (Some serial)) o) found

pub item-missing : (ss : List Shelf) (slot : Slot) (lent : Option ℕ) → find (is_shelf_of slot.peer) ss ≡ None → item_in ss slot lent ≡ None
item-missing ss slot None none = ap (λ (o : Option Shelf). option_and_then (if_state None) (option_and_then (λ (x : Shelf). item_on x.items slot.buffer) o)) none
item-missing ss slot (Some serial) none = ap (λ (o : Option Shelf). option_and_then (λ (x : Shelf). item_of_shelf x slot.buffer (Some serial)) o) none

abbrev frame_of_shelf : ℕ → Option Shelf → Item → Option Kept
frame_of_shelf n o i = option_and_then (λ f. option_and_then (λ p. p) (option_and_then (λ (s : Shelf). slice_get s.places f) o)) (slice_get (frames_of i) n)

-- and so is its frame
pub frame-found : (ss : List Shelf) (slot : Slot) (lent : Option ℕ) (n : ℕ) (s : Shelf) → find (is_shelf_of slot.peer) ss ≡ Some s → option_and_then (frame_in ss slot n) (item_in ss slot lent) ≡ option_and_then (frame_on s n) (item_of_shelf s slot.buffer lent)
frame-found ss slot lent n s found =
    ap (option_and_then (frame_in ss slot n)) (item-found ss slot lent s found)
    ∙ ap (λ (o : Option Shelf). option_and_then (frame_of_shelf n o) (item_of_shelf s slot.buffer lent)) found

pub frame-missing : (ss : List Shelf) (slot : Slot) (lent : Option ℕ) (n : ℕ) → find (is_shelf_of slot.peer) ss ≡ None → option_and_then (frame_in ss slot n) (item_in ss slot lent) ≡ None
frame-missing ss slot lent n none = ap (option_and_then (frame_in ss slot n)) (item-missing ss slot lent none)

-- what a place of a slot tells of the shelf
pub place-there : (ss : List Shelf) (slot : Slot) (s : Shelf) → find (is_shelf_of slot.peer) ss ≡ Some s → place_in ss slot ≡ Some None → slice_get s.places slot.buffer ≡ Some None
place-there ss slot s found away = sym (ap (λ (o : Option Shelf). option_and_then (λ (x : Shelf). slice_get x.places slot.buffer) o) found) ∙ away

pub place-away : (ss : List Shelf) (slot : Slot) (s : Shelf) → find (is_shelf_of slot.peer) ss ≡ Some s → place_in ss slot ≡ Some None → (kept_on_place s.places slot.buffer ≡ None) × (slot.buffer < length s.places)
place-away ss slot s found away =
    let there = place-there ss slot s found away in
    (ap (λ (o : Option (Option Kept)). option_and_then (λ p. p) o) there, slice_get_within s.places slot.buffer None there)

pub no-place : (ss : List Shelf) (slot : Slot) → position (is_shelf_of slot.peer) ss ≡ None → place_in ss slot ≡ Some None → ⊥
no-place ss slot none away =
    let gone : place_in ss slot ≡ None = ap (λ (o : Option Shelf). option_and_then (λ (x : Shelf). slice_get x.places slot.buffer) o) (not-found ss slot.peer none) in
    let no : None ≡ Some None = sym gone ∙ away in
    absurd cc

pub named-there : (ss : List Shelf) (slot : Slot) (s : Shelf) → find (is_shelf_of slot.peer) ss ≡ Some s → item_at (shelved ss) slot ≡ item_on s.items slot.buffer
named-there ss slot s found = ap (λ (o : Option Shelf). option_and_then (λ (x : Shelf). item_on x.items slot.buffer) o) found

pub unqueued-there : (ss : List Shelf) (slot : Slot) (s : Shelf) → find (is_shelf_of slot.peer) ss ≡ Some s → IsNone (queued_at (shelved ss) slot) → IsNone (item_as s.items slot.buffer None)
unqueued-there ss slot s found free = subst (λ (o : Option Shelf). IsNone (option_and_then (if_state None) (option_and_then (λ (x : Shelf). item_on x.items slot.buffer) o))) found free

pub no-item : (ss : List Shelf) (slot : Slot) → position (is_shelf_of slot.peer) ss ≡ None → IsSome (item_at (shelved ss) slot) → ⊥
no-item ss slot none named =
    let gone : item_at (shelved ss) slot ≡ None = ap (λ (o : Option Shelf). option_and_then (λ (x : Shelf). item_on x.items slot.buffer) o) (not-found ss slot.peer none) in
    let no : IsSome {T = Item} None = subst (λ (o : Option Item). IsSome o) gone named in
    absurd cc

-- ---- one shelf changed

-- a shelf of another peer stays
pub other-stays : (peer : ℕ) (change : Shelf → Shelf) (s : Shelf) → (s.peer == peer) ≡ false → with_own peer change s ≡ s
other-stays peer change s other = rw other refl

pub own-changes : (peer : ℕ) (change : Shelf → Shelf) (s : Shelf) → (s.peer == peer) ≡ true → with_own peer change s ≡ change s
own-changes peer change s own = rw own refl

pub others-stay : (own : ℕ) (change : Shelf → Shelf) (peer : ℕ) (ss : List Shelf) → peer ≡ own → AllByRecursion (λ m. (m == peer) ≡ false) (map (λ (s : Shelf). s.peer) ss) → map (with_own own change) ss ≡ ss
others-stay own change peer [] same differ = refl
others-stay own change peer (s ∷ ss) same differ =
    ap (λ (x : Shelf). x ∷ map (with_own own change) ss) (other-stays own change s (subst (λ n. (s.peer == n) ≡ false) same differ.0))
    ∙ ap (λ (xs : List Shelf). s ∷ xs) (others-stay own change peer ss same differ.1)

-- a write at a peer's first shelf is the change of all its shelves, since it has one
set-first : (peer : ℕ) (change : Shelf → Shelf) (ss : List Shelf) (i : ℕ) (s t : Shelf) → PeersDiffer ss → i ≡ position_or_len (is_shelf_of peer) ss → i < length ss → s ≡ get_or ss i s → t ≡ change s → slice_set ss i t ≡ with_shelf_in ss peer change
set-first peer change [] i s t differ first lt read is = absurd (omega arith)
set-first peer change (x ∷ ss) zero s t differ first lt read is =
    elim (x.peer == peer) as (λ b. (x.peer == peer) ≡ b → 0 ≡ cond (not b) (1 + position_or_len (is_shelf_of peer) ss) 0 → t ∷ ss ≡ with_shelf_in (x ∷ ss) peer change) [
      | true ↦ λ own first.
          ap (λ (y : Shelf). y ∷ ss) (is ∙ ap change read ∙ sym (own-changes peer change x own))
          ∙ ap (λ (xs : List Shelf). with_own peer change x ∷ xs) (sym (others-stay peer change x.peer ss (eqb-true x.peer peer own) differ.0))
      | false ↦ λ other first. absurd (omega arith)
    ] refl first
set-first peer change (x ∷ ss) (suc i) s t differ first lt read is =
    elim (x.peer == peer) as (λ b. (x.peer == peer) ≡ b → suc i ≡ cond (not b) (1 + position_or_len (is_shelf_of peer) ss) 0 → x ∷ slice_set ss i t ≡ with_shelf_in (x ∷ ss) peer change) [
      | true ↦ λ own first. absurd (omega arith)
      | false ↦ λ other first.
          ap (λ (xs : List Shelf). x ∷ xs) (set-first peer change ss i s t differ.1 (omega arith) (omega arith) read is)
          ∙ ap (λ (y : Shelf). y ∷ with_shelf_in ss peer change) (sym (other-stays peer change x other))
    ] refl first

first-place : {X : Type 0} (p : X → Bool) (xs : List X) (i : ℕ) → position p xs ≡ Some i → i ≡ position_or_len p xs
first-place p xs i place = sym (cond_some (nat_lt (position_or_len p xs) (length xs)) (position_or_len p xs) i place).1

pub set-at : (ss : List Shelf) (peer : ℕ) (change : Shelf → Shelf) (i : ℕ) (s t : Shelf) → PeersDiffer ss → position (is_shelf_of peer) ss ≡ Some i → i < length ss → s ≡ get_or ss i s → t ≡ change s → slice_set ss i t ≡ with_shelf_in ss peer change
set-at ss peer change i s t differ place lt read is = set-first peer change ss i s t differ (first-place (is_shelf_of peer) ss i place) lt read is

-- what is written as it was leaves the shelves as they were
pub set-back : {X : Type 0} (xs : List X) (i : ℕ) (x : X) → x ≡ get_or xs i x → slice_set xs i x ≡ xs
set-back [] i x read = refl
set-back {X} (y ∷ ys) zero x read = ap (λ (z : X). z ∷ ys) read
set-back {X} (y ∷ ys) (suc i) x read = ap (λ (zs : List X). y ∷ zs) (set-back ys i x read)

-- ---- the peers stay

opening-peers : (sizes : List (ℕ × ℕ)) → map (λ (s : Shelf). s.peer) (map empty_shelf sizes) ≡ map (λ (s : ℕ × ℕ). s.0) sizes
opening-peers [] = refl
opening-peers (s ∷ sizes) = ap (λ ns. s.0 ∷ ns) (opening-peers sizes)

pub opening-differs : (sizes : List (ℕ × ℕ)) → AllDiffer (map (λ (s : ℕ × ℕ). s.0) sizes) → PeersDiffer (map empty_shelf sizes)
opening-differs sizes differ = subst AllDiffer (sym (opening-peers sizes)) differ

-- a change that leaves the peer
abbrev pub KeepsPeer : (Shelf → Shelf) → Type 0
KeepsPeer change = (s : Shelf) → (change s).peer ≡ s.peer

taken_named-peer : (name : ℕ) (o : Option Item) (s : Shelf) → (taken_named_of name o s).peer ≡ s.peer
taken_named-peer name None s = refl
taken_named-peer name (Some i) s = refl

taken_aside-peer : (place : ℕ) (o : Option Aside) (s : Shelf) → (taken_aside_of place o s).peer ≡ s.peer
taken_aside-peer place None s = refl
taken_aside-peer place (Some a) s = refl

taken_at-peer : (o : Option ℕ) (s : Shelf) → (taken_aside o s).peer ≡ s.peer
taken_at-peer None s = refl
taken_at-peer (Some place) s = taken_aside-peer place (aside_on s.aside place) s

taken-peer_by : (name : ℕ) (lent : Option ℕ) (b : Bool) (s : Shelf) → (cond b (taken_named name s) (taken_aside (place_aside s.aside name lent) s)).peer ≡ s.peer
taken-peer_by name lent true s = taken_named-peer name (item_on s.items name) s
taken-peer_by name lent false s = taken_at-peer (place_aside s.aside name lent) s

pub taken-peer : (name : ℕ) (lent : Option ℕ) → KeepsPeer (taken name lent)
taken-peer name lent s = taken-peer_by name lent (is_some (item_as s.items name lent)) s

aside-peer : (name : ℕ) (o : Option Item) (s : Shelf) → (aside_of name o s).peer ≡ s.peer
aside-peer name None s = refl
aside-peer name (Some i) s = refl

pub enqueued-peer : (number : ℕ) (k : Kept) → KeepsPeer (enqueued number k)
enqueued-peer number k s = aside-peer number (item_on s.items number) s

pub peer-stays : (peer : ℕ) (change : Shelf → Shelf) (s : Shelf) → KeepsPeer change → (with_own peer change s).peer ≡ s.peer
peer-stays peer change s keeps =
    elim (s.peer == peer) as (λ b. (s.peer == peer) ≡ b → (with_own peer change s).peer ≡ s.peer)
    [ true ↦ λ own. ap (λ (x : Shelf). x.peer) (own-changes peer change s own) ∙ keeps s | false ↦ λ other. ap (λ (x : Shelf). x.peer) (other-stays peer change s other) ] refl

peers-stay : (peer : ℕ) (change : Shelf → Shelf) (ss : List Shelf) → KeepsPeer change → map (λ (s : Shelf). s.peer) (with_shelf_in ss peer change) ≡ map (λ (s : Shelf). s.peer) ss
peers-stay peer change [] keeps = refl
peers-stay peer change (s ∷ ss) keeps =
    ap (λ n. n ∷ map (λ (x : Shelf). x.peer) (with_shelf_in ss peer change)) (peer-stays peer change s keeps)
    ∙ ap (λ ns. s.peer ∷ ns) (peers-stay peer change ss keeps)

pub differ-stays : (peer : ℕ) (change : Shelf → Shelf) (ss : List Shelf) → KeepsPeer change → PeersDiffer ss → PeersDiffer (with_shelf_in ss peer change)
differ-stays peer change ss keeps differ = subst AllDiffer (sym (peers-stay peer change ss keeps)) differ

-- the slice of the shelves, written back whole
pub differ-back : (peer : ℕ) (change : Shelf → Shelf) (ss old new : List Shelf) (n : ℕ) → KeepsPeer change → n ≡ length old → old ≡ ss → new ≡ with_shelf_in old peer change → PeersDiffer ss → PeersDiffer (take n (new ++ drop (length new) ss))
differ-back peer change ss old new n keeps size same is differ =
    let all : n ≡ length new = size ∙ sym (length-map old (with_own peer change)) ∙ ap length (sym is) in
    rw (all, take-append_seam) (subst PeersDiffer (sym is) (differ-stays peer change old keeps (subst PeersDiffer (sym same) differ)))

-- the same, where nothing changed
pub differ-same : (ss old new : List Shelf) (n : ℕ) → n ≡ length old → old ≡ ss → new ≡ old → PeersDiffer ss → PeersDiffer (take n (new ++ drop (length new) ss))
differ-same ss old new n size same is differ =
    let all : n ≡ length new = size ∙ ap length (sym is) in
    rw (all, take-append_seam) (subst PeersDiffer (sym (is ∙ same)) differ)

pub differ-either : {X : Type 0} (o : Option X) (peer : ℕ) (change : Shelf → Shelf) (ss old new : List Shelf) (n : ℕ) → KeepsPeer change → n ≡ length old → old ≡ ss → (IsSome o → new ≡ with_shelf_in old peer change) → (IsNone o → new ≡ old) → PeersDiffer ss → PeersDiffer (take n (new ++ drop (length new) ss))
differ-either None peer change ss old new n keeps size same some none differ = differ-same ss old new n size same (none refl) differ
differ-either (Some x) peer change ss old new n keeps size same some none differ = differ-back peer change ss old new n keeps size same (some refl) differ
