-- What a write to one cell leaves of the columns, and what is read in one.
use Rattle.std.proofs.Common.{◌≡◌, ℕ, zero, suc, ◌+◌, ◌<◌, ◌≤◌, List, [], ◌∷◌, map, length, take, Option, Some, None, get_or, refl, sym, ap, ◌∙◌, arith}
use Rattle.std.specs.Prelude.{slice_get, slice_set, IsSome, option_map, option_and_then, sum_by}
use Rattle.std.proofs.lemmas.List.{map-set, set-get_or, length-map}
use Rattle.std.proofs.lemmas.Option.{slice_get-map, slice_get_read, slice_get_within}
use Rattle.std.proofs.lemmas.List.Sums.{sum_by-cons}
use Rattle.buffer_book.specs.declared.cell.Cell.{Cell}
use Rattle.buffer_book.specs.declared.cell.Resting.{Resting}
use Rattle.buffer_book.specs.declared.cell.State.{State}
use Rattle.buffer_book.specs.declared.cell.State.TheVariants as state
use Rattle.buffer_book.specs.Book.{Kept, kept_on_place}
use Rattle.buffer_book.specs.Links.{at}
use Rattle.buffer_book.specs.Runs.{Head, Columns, columns_of, head_of, state_head, head_on, link_on, with_held, with_link, with_head, joined_head, lent_head, shortened, rested, head_weight, queued_weight, lent_weight}

-- ---- what is read

pub cell-read : {X : Type 0} (f : Cell → X) (cs : List Cell) (i : ℕ) (x : Cell) → i < length cs → x ≡ get_or cs i x → slice_get (map f cs) i ≡ Some (f x)
cell-read f cs i x lt is = slice_get-map f cs i ∙ ap (option_map f) (slice_get_read cs (length cs) i x refl lt is)

pub held-read : (cs : List Cell) (i : ℕ) (x : Cell) → i < length cs → x ≡ get_or cs i x → kept_on_place (columns_of cs).places i ≡ x.held
held-read cs i x lt is = ap (λ (o : Option (Option Kept)). option_and_then (λ p. p) o) (cell-read (λ (c : Cell). c.held) cs i x lt is)

pub head-read : (cs : List Cell) (i : ℕ) (x : Cell) → i < length cs → x ≡ get_or cs i x → head_on (columns_of cs).heads i ≡ head_of x
head-read cs i x lt is = ap (λ (o : Option (Option Head)). option_and_then (λ p. p) o) (cell-read head_of cs i x lt is)

link-some : (xs : List ℕ) (i x : ℕ) → slice_get xs i ≡ Some x → at xs i ≡ x
link-some [] i x is = absurd cc
link-some (y ∷ xs) zero x is = cc
link-some (y ∷ xs) (suc i) x is = link-some xs i x is

pub next-read : (cs : List Cell) (i : ℕ) (x : Cell) → i < length cs → x ≡ get_or cs i x → link_on (columns_of cs) i ≡ x.next
next-read cs i x lt is = link-some (columns_of cs).next i x.next (cell-read (λ (c : Cell). c.next) cs i x lt is)

-- ---- what is written

unchanged : {X : Type 0} (f : Cell → X) (cs : List Cell) (i : ℕ) (x : Cell) → x ≡ get_or cs i x → slice_set (map f cs) i (f x) ≡ map f cs
unchanged f cs i x is = sym (map-set f cs i x) ∙ ap (map f) (ap (slice_set cs i) is ∙ set-get_or cs i x)

abbrev columns_from : List (Option Kept) → List ℕ → List (Option Head) → Columns
columns_from places next heads = record { places = places; next = next; heads = heads }

columns : (places places' : List (Option Kept)) (next next' : List ℕ) (heads heads' : List (Option Head)) → places ≡ places' → next ≡ next' → heads ≡ heads' → columns_from places next heads ≡ columns_from places' next' heads'
columns places places' next next' heads heads' p n h = cc

pub written-held : (cs : List Cell) (i : ℕ) (k : Option Kept) (x : Cell) → x ≡ get_or cs i x → columns_of (slice_set cs i (record x { held = k })) ≡ with_held (columns_of cs) i k
written-held cs i k x is =
    columns _ _ _ _ _ _
    (map-set (λ (c : Cell). c.held) cs i (record x { held = k }))
    (map-set (λ (c : Cell). c.next) cs i (record x { held = k }) ∙ unchanged (λ (c : Cell). c.next) cs i x is)
    (map-set head_of cs i (record x { held = k }) ∙ unchanged head_of cs i x is)

pub written-next : (cs : List Cell) (i n : ℕ) (x : Cell) → x ≡ get_or cs i x → columns_of (slice_set cs i (record x { next = n })) ≡ with_link (columns_of cs) i n
written-next cs i n x is =
    columns _ _ _ _ _ _
    (map-set (λ (c : Cell). c.held) cs i (record x { next = n }) ∙ unchanged (λ (c : Cell). c.held) cs i x is)
    (map-set (λ (c : Cell). c.next) cs i (record x { next = n }))
    (map-set head_of cs i (record x { next = n }) ∙ unchanged head_of cs i x is)

-- a cell whose buffer and link stay
pub written-head : (cs : List Cell) (i : ℕ) (x y : Cell) → x ≡ get_or cs i x → y.held ≡ x.held → y.next ≡ x.next → columns_of (slice_set cs i y) ≡ with_head (columns_of cs) i (head_of y)
written-head cs i x y is held next =
    columns _ _ _ _ _ _
    (map-set (λ (c : Cell). c.held) cs i y ∙ ap (slice_set (columns_of cs).places i) held ∙ unchanged (λ (c : Cell). c.held) cs i x is)
    (map-set (λ (c : Cell). c.next) cs i y ∙ ap (slice_set (columns_of cs).next i) next ∙ unchanged (λ (c : Cell). c.next) cs i x is)
    (map-set head_of cs i y)

pub head-longer : (s : State) (first last more l : ℕ) → state_head s first l (more + 1) ≡ option_map (joined_head l) (state_head s first last more)
head-longer state.Free first last more l = refl
head-longer state.Queued first last more l = refl
head-longer (state.Lent serial) first last more l = refl

pub head-lent : (s : State) (first last more serial : ℕ) → IsSome (state_head s first last more) → Some (record { first = first; last = last; more = more; lent = Some serial }) ≡ option_map (lent_head serial) (state_head s first last more)
head-lent state.Free first last more serial is = absurd cc
head-lent state.Queued first last more serial is = refl
head-lent (state.Lent n) first last more serial is = refl

pub head-ended : (s : State) (first last more next : ℕ) → more ≡ 0 → None ≡ option_and_then (shortened next) (state_head s first last more)
head-ended state.Free first last more next none = refl
head-ended state.Queued first last more next none = rw none refl
head-ended (state.Lent n) first last more next none = rw none refl

pub head-shorter : (s : State) (first last more next : ℕ) → state_head s next last more ≡ option_and_then (shortened next) (state_head s first last (suc more))
head-shorter state.Free first last more next = refl
head-shorter state.Queued first last more next = refl
head-shorter (state.Lent n) first last more next = refl

head-within-by : (cs : List Cell) (i : ℕ) (o : Option (Option Head)) → slice_get (columns_of cs).heads i ≡ o → IsSome (option_and_then (λ p. p) o) → i < length cs
head-within-by cs i None there is = absurd cc
head-within-by cs i (Some h) there is = let lt = slice_get_within (columns_of cs).heads i h there in let size = length-map cs head_of in omega (arith, size, lt)

pub head-within : (cs : List Cell) (i : ℕ) → IsSome (head_on (columns_of cs).heads i) → i < length cs
head-within cs i is = head-within-by cs i (slice_get (columns_of cs).heads i) refl is

place-within-by : (cs : List Cell) (i : ℕ) (o : Option (Option Kept)) → slice_get (columns_of cs).places i ≡ o → IsSome (option_and_then (λ p. p) o) → i < length cs
place-within-by cs i None there is = absurd cc
place-within-by cs i (Some h) there is = let lt = slice_get_within (columns_of cs).places i h there in let size = length-map cs (λ (c : Cell). c.held) in omega (arith, size, lt)

pub place-within : (cs : List Cell) (i : ℕ) → IsSome (kept_on_place (columns_of cs).places i) → i < length cs
place-within cs i is = place-within-by cs i (slice_get (columns_of cs).places i) refl is

-- ---- the head that a cell has

state-last : (s : State) (first last more : ℕ) (h : Head) → state_head s first last more ≡ Some h → h.last ≡ last
state-last state.Free first last more h is = absurd cc
state-last state.Queued first last more h is = cc
state-last (state.Lent n) first last more h is = cc

pub cell-last : (cs : List Cell) (i : ℕ) (x : Cell) (h : Head) → x ≡ get_or cs i x → slice_get (columns_of cs).heads i ≡ Some (Some h) → h.last ≡ x.last
cell-last cs i x h is there =
    let known : head_on (columns_of cs).heads i ≡ Some h = ap (λ (o : Option (Option Head)). option_and_then (λ p. p) o) there in
    let lt = head-within-by cs i (slice_get (columns_of cs).heads i) refl (rw known refl) in
    state-last x.state x.first x.last x.more h (sym (head-read cs i x lt is) ∙ known)

-- how many frames the items of the first cells have, and of the next
pub cell-counts : (cs : List Cell) (i : ℕ) (x : Cell) → i < length cs → x ≡ get_or cs i x → sum_by queued_weight (columns_of (take i cs)).heads + sum_by lent_weight (columns_of (take i cs)).heads + head_weight (head_of x) ≤ sum_by head_weight (columns_of cs).heads
cell-counts [] i x lt is = absurd (omega arith)
cell-counts (c ∷ cs) zero x lt is =
    let same : head_weight (head_of x) ≡ head_weight (head_of c) = ap (λ (y : Cell). head_weight (head_of y)) is in
    let all = sum_by-cons head_weight (head_of c) (columns_of cs).heads in
    omega (arith, same, all)
cell-counts (c ∷ cs) (suc i) x lt is =
    let q = sum_by-cons queued_weight (head_of c) (columns_of (take i cs)).heads in
    let l = sum_by-cons lent_weight (head_of c) (columns_of (take i cs)).heads in
    let all = sum_by-cons head_weight (head_of c) (columns_of cs).heads in
    omega (arith, q, l, all, state-weighs c.state c.first c.last c.more, cell-counts cs i x (omega arith) is)
  where
    state-weighs : (s : State) (first last more : ℕ) → queued_weight (state_head s first last more) + lent_weight (state_head s first last more) ≡ head_weight (state_head s first last more)
    state-weighs state.Free first last more = refl
    state-weighs state.Queued first last more = omega arith
    state-weighs (state.Lent n) first last more = omega arith

pub queued-weighs : (x : Cell) → x.state ≡ state.Queued → head_weight (head_of x) ≡ suc x.more
queued-weighs x is = ap (λ (s : State). head_weight (state_head s x.first x.last x.more)) is

pub lent-weighs : (x : Cell) (n : ℕ) → x.state ≡ state.Lent n → head_weight (head_of x) ≡ suc x.more
lent-weighs x n is = ap (λ (s : State). head_weight (state_head s x.first x.last x.more)) is

-- ---- an item aside, shortened

pub rested-ended : (next : ℕ) (r : Resting) (more : ℕ) → more ≡ 0 → None ≡ rested next r more
rested-ended next r more none = rw none refl

pub rested-shorter : (next : ℕ) (r : Resting) (more less : ℕ) → more ≡ suc less → Some (record r { first = next; more = less }) ≡ rested next r more
rested-shorter next r more less is = rw is refl
