-- The items that the columns of a shelf tell, where one changes.
use Rattle.std.proofs.Common.{◌≡◌, ◌≢◌, ℕ, zero, suc, ◌+◌, ◌*◌, ◌<◌, ◌≤◌, ◌^◌, Bool, true, false, cond, List, [], ◌∷◌, ◌++◌, length, map, Option, Some, None, refl, sym, ap, subst, ◌∙◌, arith, replicate}
use Rattle.std.specs.Prelude.{slice_get, slice_set, sum_by, ◌==◌, IsSome, IsNone, option_and_then, option_map}
use Rattle.std.specs.List.{AllByRecursion}
use Rattle.std.proofs.lemmas.Bool.{eq-eqb, ne_eqb}
use Rattle.std.proofs.lemmas.Option.{slice_get-map, slice_get_within}
use Rattle.std.proofs.lemmas.List.{length-replicate}
use Rattle.std.proofs.lemmas.List.Sums.{sum_by-cons}
use Rattle.buffer_book.specs.declared.cell.Resting.{Resting}
use Rattle.buffer_book.specs.Book.{Kept, Item, kept_on_place, frames_of, item_on, item_as, if_state, is_state, with_frame, lent_under}
use Rattle.buffer_book.specs.Links.{at, walk, last_of, Lacks, Differ}
use Rattle.buffer_book.specs.Runs.{Head, Columns, with_held, with_link, with_head, named, joined_head, lent_head, head_on, head_as, if_head, item_of, items_of, resting_head, aside_of_resting, asides_of, IsOwn, IsRun, IsSound, head_weight, place_weight, resting_weight, resting_one, empty_columns}
use Rattle.buffer_book.proofs.Sets.{set-in, set-other, set-length, map-set, map-but, map-same, set-each, set-sum}
use Rattle.buffer_book.proofs.Walks.{All-each, All-lacking, All-push, All-last, Differ-push, last-push, more-set, walk-join}

-- ---- the item that a number names

head-item : (next : List ℕ) (o : Option (Option Head)) → option_and_then (λ i. i) (option_map (option_map (item_of next)) o) ≡ option_map (item_of next) (option_and_then (λ h. h) o)
head-item next None = refl
head-item next (Some o) = refl

pub item-head : (next : List ℕ) (heads : List (Option Head)) (name : ℕ) → item_on (items_of next heads) name ≡ option_map (item_of next) (head_on heads name)
item-head next heads name = ap (λ (o : Option (Option Item)). option_and_then (λ i. i) o) (slice_get-map (option_map (item_of next)) heads name) ∙ head-item next (slice_get heads name)

state-item-by : (next : List ℕ) (h : Head) (b : Bool) → cond b (Some (item_of next h)) None ≡ option_map (item_of next) (cond b (Some h) None)
state-item-by next h true = refl
state-item-by next h false = refl

state-item : (next : List ℕ) (lent : Option ℕ) (o : Option Head) → option_and_then (if_state lent) (option_map (item_of next) o) ≡ option_map (item_of next) (option_and_then (if_head lent) o)
state-item next lent None = refl
state-item next lent (Some h) = state-item-by next h (is_state h.lent lent)

pub item-as : (next : List ℕ) (heads : List (Option Head)) (name : ℕ) (lent : Option ℕ) → item_as (items_of next heads) name lent ≡ option_map (item_of next) (head_as heads name lent)
item-as next heads name lent = ap (option_and_then (if_state lent)) (item-head next heads name) ∙ state-item next lent (head_on heads name)

pub flat-some : {X : Type 0} (o : Option (Option X)) (x : X) → option_and_then (λ p. p) o ≡ Some x → o ≡ Some (Some x)
flat-some None x is = absurd cc
flat-some (Some o) x is = ap (λ p. Some p) is

mapped : {X Y : Type 0} (f : X → Y) (o : Option X) (y : Y) → option_map f o ≡ Some y → (x : X) × (o ≡ Some x) × (f x ≡ y)
mapped f None y is = absurd cc
mapped f (Some x) y is = (x, refl, cc)

mapped-both : {X Y : Type 0} (f : X → Y) (o : Option (Option X)) (y : Y) → option_map (option_map f) o ≡ Some (Some y) → (x : X) × (o ≡ Some (Some x)) × (f x ≡ y)
mapped-both f None y is = absurd cc
mapped-both f (Some None) y is = absurd cc
mapped-both f (Some (Some x)) y is = (x, refl, cc)

-- what stands at a place of a list of images
pub image-there : {X Y : Type 0} (f : X → Y) (xs : List (Option X)) (n : ℕ) (y : Y) → slice_get (map (option_map f) xs) n ≡ Some (Some y) → (x : X) × (slice_get xs n ≡ Some (Some x)) × (f x ≡ y)
image-there f xs n y is = mapped-both f (slice_get xs n) y (sym (slice_get-map (option_map f) xs n) ∙ is)

-- the head of an item that is there
pub item-there : (next : List ℕ) (heads : List (Option Head)) (name : ℕ) (i : Item) → item_on (items_of next heads) name ≡ Some i → (h : Head) × (slice_get heads name ≡ Some (Some h)) × (item_of next h ≡ i)
item-there next heads name i is = image-there (item_of next) heads name i (flat-some (slice_get (items_of next heads) name) i is)

none-head : (o : Option (Option Head)) → o ≢ None → option_and_then (λ h. h) o ≡ None → o ≡ Some None
none-head None there none = absurd (there refl)
none-head (Some o) there none = ap (λ (p : Option Head). Some p) none

pub not-past : {X : Type 0} (xs : List X) (i : ℕ) → i < length xs → slice_get xs i ≢ None
not-past [] i lt e = omega arith
not-past (x ∷ xs) zero lt e = absurd cc
not-past (x ∷ xs) (suc i) lt e = not-past xs i (omega arith) e

no-map : {X Y : Type 0} (f : X → Y) (o : Option X) → IsNone (option_map f o) → o ≡ None
no-map f None none = refl
no-map f (Some x) none = absurd cc

pub free-head : (next : List ℕ) (heads : List (Option Head)) (name : ℕ) → name < length heads → IsNone (item_on (items_of next heads) name) → slice_get heads name ≡ Some None
free-head next heads name lt none = none-head (slice_get heads name) (not-past heads name lt) (no-map (item_of next) (head_on heads name) (subst (λ (o : Option Item). IsNone o) (item-head next heads name) none))

empty-place-by : (o : Option (Option Kept)) → o ≢ None → option_and_then (λ p. p) o ≡ None → o ≡ Some None
empty-place-by None there none = absurd (there refl)
empty-place-by (Some p) there none = ap (λ (q : Option Kept). Some q) none

pub empty-place : (places : List (Option Kept)) (n : ℕ) → n < length places → kept_on_place places n ≡ None → slice_get places n ≡ Some None
empty-place places n lt none = empty-place-by (slice_get places n) (not-past places n lt) none

some-within-by : (places : List (Option Kept)) (n : ℕ) (o : Option (Option Kept)) → slice_get places n ≡ o → IsSome (option_and_then (λ p. p) o) → n < length places
some-within-by places n None at is = absurd cc
some-within-by places n (Some p) at is = slice_get_within places n p at

pub held-within : (places : List (Option Kept)) (n : ℕ) → IsSome (kept_on_place places n) → n < length places
held-within places n is = some-within-by places n (slice_get places n) refl is

-- ---- places with a frame of an item

abbrev pub owned : (ℕ → ℕ) → ℕ → ℕ → ℕ → ℕ
owned owner x key f = cond (f == x) key (owner f)

own-put : (places : List (Option Kept)) (owner : ℕ → ℕ) (x : ℕ) (k : Kept) (m n f : ℕ) → kept_on_place places x ≡ None → IsOwn places owner n f → IsOwn (slice_set places x (Some k)) (owned owner x m) n f
own-put places owner x k m n f away own =
    let differs : f ≢ x = λ e. let gone : kept_on_place places f ≡ None = ap (kept_on_place places) e ∙ away in let is : IsSome (kept_on_place places f) = own.0 in absurd cc in
    (subst (λ (o : Option (Option Kept)). IsSome (option_and_then (λ p. p) o)) (sym (set-other places x f (Some k) differs)) own.0, rw (ne_eqb f x differs) own.1)

own-new : (places : List (Option Kept)) (owner : ℕ → ℕ) (x : ℕ) (k : Kept) (m : ℕ) → x < length places → IsOwn (slice_set places x (Some k)) (owned owner x m) m x
own-new places owner x k m lt = (rw (set-in places x (Some k) lt) refl, rw (eq-eqb x x refl) refl)

pub own-take : (places : List (Option Kept)) (owner : ℕ → ℕ) (x n f : ℕ) → f ≢ x → IsOwn places owner n f → IsOwn (slice_set places x None) owner n f
own-take places owner x n f differs own = (subst (λ (o : Option (Option Kept)). IsSome (option_and_then (λ p. p) o)) (sym (set-other places x f None differs)) own.0, own.1)

-- a place of one item is in no other
lacks-own : (places : List (Option Kept)) (owner : ℕ → ℕ) (key n x : ℕ) (fs : List ℕ) → owner x ≡ key → n ≢ key → AllByRecursion (IsOwn places owner n) fs → Lacks fs x
lacks-own places owner key n x fs own differs all = All-each (IsOwn places owner n) (λ f. f ≢ x) fs (λ f o e. differs (sym o.1 ∙ ap owner e ∙ own)) all

-- a place that is away is in none
lacks-away : (places : List (Option Kept)) (owner : ℕ → ℕ) (n x : ℕ) (fs : List ℕ) → kept_on_place places x ≡ None → AllByRecursion (IsOwn places owner n) fs → Lacks fs x
lacks-away places owner n x fs away all = All-each (IsOwn places owner n) (λ f. f ≢ x) fs (λ f o e. let gone : kept_on_place places f ≡ None = ap (kept_on_place places) e ∙ away in let is : IsSome (kept_on_place places f) = o.0 in absurd cc) all

pub even-differs : (n m : ℕ) → n ≢ m → 2 * n ≢ 2 * m
even-differs n m differs e = differs (omega (arith, e))

pub odd-differs : (n m : ℕ) → n ≢ m → 2 * n + 1 ≢ 2 * m + 1
odd-differs n m differs e = differs (omega (arith, e))

pub odd-even : (n m : ℕ) → 2 * n + 1 ≢ 2 * m
odd-even n m e = omega (arith, e)

pub even-odd : (n m : ℕ) → 2 * n ≢ 2 * m + 1
even-odd n m e = omega (arith, e)

-- ---- one item, where another changes

run-put : (places : List (Option Kept)) (next : List ℕ) (owner : ℕ → ℕ) (x m n : ℕ) (k : Kept) (h : Head) → kept_on_place places x ≡ None → IsRun places next owner n h → IsRun (slice_set places x (Some k)) next (owned owner x m) n h
run-put places next owner x m n k h away r = record {
  own = All-each (IsOwn places owner n) (IsOwn (slice_set places x (Some k)) (owned owner x m) n) (frames_of (item_of next h)) (λ f o. own-put places owner x k m n f away o) r.own;
  differ = r.differ;
  last = r.last;
}

run-besides : (places : List (Option Kept)) (next : List ℕ) (owner : ℕ → ℕ) (key n x l : ℕ) (k : Kept) (h : Head) → n ≢ key → owner l ≡ key → kept_on_place places x ≡ None → IsRun places next owner n h → IsRun (slice_set places x (Some k)) (slice_set next l x) (owned owner x key) n h
run-besides places next owner key n x l k h differs own away r =
    let same = more-set next l x h.more h.first (lacks-own places owner key n l (frames_of (item_of next h)) own differs r.own) in
    record {
      own = subst (λ fs. AllByRecursion (IsOwn (slice_set places x (Some k)) (owned owner x key) n) (h.first ∷ fs)) (sym same) (All-each (IsOwn places owner n) (IsOwn (slice_set places x (Some k)) (owned owner x key) n) (frames_of (item_of next h)) (λ f o. own-put places owner x k key n f away o) r.own);
      differ = subst (λ fs. Differ (h.first ∷ fs)) (sym same) r.differ;
      last = r.last ∙ ap (last_of h.first) (sym same);
    }

pub run-apart : (places : List (Option Kept)) (next : List ℕ) (owner : ℕ → ℕ) (key n x : ℕ) (h : Head) → n ≢ key → owner x ≡ key → IsRun places next owner n h → IsRun (slice_set places x None) next owner n h
run-apart places next owner key n x h differs own r = record {
  own = All-lacking (IsOwn places owner n) (IsOwn (slice_set places x None) owner n) x (frames_of (item_of next h)) (λ f apart o. own-take places owner x n f apart o) (lacks-own places owner key n x (frames_of (item_of next h)) own differs r.own) r.own;
  differ = r.differ;
  last = r.last;
}

-- ---- an item in the queue

pub sound-put : (c : Columns) (resting : List (Option Resting)) (count x : ℕ) (k : Kept) → IsSound c resting count → x < length c.places → kept_on_place c.places x ≡ None → IsNone (item_on (items_of c.next c.heads) x) → k.buffer.number ≡ x → IsSound (with_head (with_held c x (Some k)) x (Some (named x))) resting count
sound-put c resting count x k s lt away free number =
    let in_heads : x < length c.heads = omega (arith, s.names) in
    let empty = empty-place c.places x lt away in
    let unnamed = free-head c.next c.heads x in_heads free in
    let more_places = set-sum place_weight c.places x None (Some k) empty in
    let more_heads = set-sum head_weight c.heads x None (Some (named x)) unnamed in
    record {
      fits = rw (set-length c.places x (Some k)) s.fits;
      links = s.links ∙ sym (set-length c.places x (Some k));
      names = set-length c.heads x (Some (named x)) ∙ s.names ∙ sym (set-length c.places x (Some k));
      rests = s.rests ∙ sym (set-length c.places x (Some k));
      numbered = set-each (λ n (j : Kept). j.buffer.number ≡ n) c.places x (Some k) lt (λ j is. let same : k ≡ j = cc in ap (λ (i : Kept). i.buffer.number) (sym same) ∙ number) (λ n j differs there. s.numbered n j there);
      owner = owned s.owner x (2 * x);
      runs = set-each (λ n h. IsRun (slice_set c.places x (Some k)) c.next (owned s.owner x (2 * x)) (2 * n) h) c.heads x (Some (named x)) in_heads
          (λ h is. let same : named x ≡ h = cc in subst (λ g. IsRun (slice_set c.places x (Some k)) c.next (owned s.owner x (2 * x)) (2 * x) g) same (record { own = (own-new c.places s.owner x k (2 * x) lt, tt); differ = (tt, tt); last = refl }))
          (λ n h differs there. run-put c.places c.next s.owner x (2 * x) (2 * n) k h away (s.runs n h there));
      aside = λ l r there. run-put c.places c.next s.owner x (2 * x) (2 * l + 1) k (resting_head l r) away (s.aside l r there);
      few = omega (arith, s.few, more_places, more_heads);
      counted = s.counted;
    }

pub items-put : (next : List ℕ) (heads : List (Option Head)) (x : ℕ) → items_of next (slice_set heads x (Some (named x))) ≡ slice_set (items_of next heads) x (Some (record { lent = None; first = x; more = [] }))
items-put next heads x = map-set (option_map (item_of next)) heads x (Some (named x))

-- ---- a frame more

pub last-own : (places : List (Option Kept)) (next : List ℕ) (owner : ℕ → ℕ) (key : ℕ) (h : Head) → IsRun places next owner key h → IsOwn places owner key h.last
last-own places next owner key h r = subst (IsOwn places owner key) (sym r.last) (All-last (IsOwn places owner key) h.first (walk next h.more (at next h.first)) r.own)

pub last-within : (c : Columns) (resting : List (Option Resting)) (count name : ℕ) (h : Head) → IsSound c resting count → slice_get c.heads name ≡ Some (Some h) → h.last < length c.next
last-within c resting count name h s there =
    let own = last-own c.places c.next s.owner (2 * name) h (s.runs name h there) in
    omega (arith, held-within c.places h.last own.0, s.links)

-- the frames of one item are no more than there are places
places-all : (places : List (Option Kept)) → sum_by place_weight places ≤ length places
places-all [] = omega arith
places-all (None ∷ ps) = let e = sum_by-cons place_weight None ps in omega (arith, e, places-all ps)
places-all (Some k ∷ ps) = let e = sum_by-cons place_weight (Some k) ps in omega (arith, e, places-all ps)

pub all-fit : (c : Columns) (resting : List (Option Resting)) (count : ℕ) → IsSound c resting count → sum_by head_weight c.heads + sum_by resting_weight resting < 2 ^ 32
all-fit c resting count s = omega (arith, s.few, s.fits, places-all c.places)

pub more-fits : (c : Columns) (resting : List (Option Resting)) (count name : ℕ) (h : Head) → IsSound c resting count → slice_get c.heads name ≡ Some (Some h) → h.more + 1 < 2 ^ 32
more-fits c resting count name h s there =
    let one = set-sum head_weight c.heads name (Some h) None there in
    omega (arith, one, all-fit c resting count s)

pub aside-fits : (c : Columns) (resting : List (Option Resting)) (count l : ℕ) (r : Resting) → IsSound c resting count → slice_get resting l ≡ Some (Some r) → r.more + 1 < 2 ^ 32
aside-fits c resting count l r s there =
    let one = set-sum resting_weight resting l (Some r) None there in
    omega (arith, one, all-fit c resting count s)

more-joined : (places : List (Option Kept)) (next : List ℕ) (owner : ℕ → ℕ) (key x : ℕ) (h : Head) → h.last < length next → IsRun places next owner key h → walk (slice_set next h.last x) (h.more + 1) (at (slice_set next h.last x) h.first) ≡ walk next h.more (at next h.first) ++ x ∷ []
more-joined places next owner key x h lt r =
    let one : h.more + 1 ≡ suc h.more = omega arith in
    ap (λ m. walk (slice_set next h.last x) m (at (slice_set next h.last x) h.first)) one ∙ walk-join next h.more h.first h.last x r.last lt r.differ

run-joined : (places : List (Option Kept)) (next : List ℕ) (owner : ℕ → ℕ) (key x : ℕ) (k : Kept) (h : Head) → x < length places → h.last < length next → kept_on_place places x ≡ None → IsRun places next owner key h → IsRun (slice_set places x (Some k)) (slice_set next h.last x) (owned owner x key) key (joined_head x h)
run-joined places next owner key x k h lt in_next away r =
    let own = IsOwn (slice_set places x (Some k)) (owned owner x key) key in
    let old = walk next h.more (at next h.first) in
    let is = more-joined places next owner key x h in_next r in
    let kept : AllByRecursion own (h.first ∷ old) = All-each (IsOwn places owner key) own (h.first ∷ old) (λ f o. own-put places owner x k key key f away o) r.own in
    let lacks : Lacks (h.first ∷ old) x = lacks-away places owner key x (h.first ∷ old) away r.own in
    record {
      own = subst (λ fs. AllByRecursion own (h.first ∷ fs)) (sym is) (All-push own (h.first ∷ old) x kept (own-new places owner x k key lt));
      differ = subst (λ fs. Differ (h.first ∷ fs)) (sym is) (Differ-push (h.first ∷ old) x lacks r.differ);
      last = sym (last-push h.first old x) ∙ ap (last_of h.first) (sym is);
    }

abbrev pub joined_columns : Columns → ℕ → ℕ → Kept → Head → Columns
joined_columns c name x k h = with_held (with_head (with_link c h.last x) name (Some (joined_head x h))) x (Some k)

pub sound-join : (c : Columns) (resting : List (Option Resting)) (count name x : ℕ) (k : Kept) (h : Head) → IsSound c resting count → slice_get c.heads name ≡ Some (Some h) → x < length c.places → kept_on_place c.places x ≡ None → k.buffer.number ≡ x → IsSound (joined_columns c name x k h) resting count
sound-join c resting count name x k h s there lt away number =
    let empty = empty-place c.places x lt away in
    let run = s.runs name h there in
    let in_next = last-within c resting count name h s there in
    let in_heads = slice_get_within c.heads name (Some h) there in
    let more_places = set-sum place_weight c.places x None (Some k) empty in
    let more_heads = set-sum head_weight c.heads name (Some h) (Some (joined_head x h)) there in
    let last = (last-own c.places c.next s.owner (2 * name) h run).1 in
    record {
      fits = rw (set-length c.places x (Some k)) s.fits;
      links = set-length c.next h.last x ∙ s.links ∙ sym (set-length c.places x (Some k));
      names = set-length c.heads name (Some (joined_head x h)) ∙ s.names ∙ sym (set-length c.places x (Some k));
      rests = s.rests ∙ sym (set-length c.places x (Some k));
      numbered = set-each (λ n (j : Kept). j.buffer.number ≡ n) c.places x (Some k) lt (λ j is. let same : k ≡ j = cc in ap (λ (i : Kept). i.buffer.number) (sym same) ∙ number) (λ n j differs at. s.numbered n j at);
      owner = owned s.owner x (2 * name);
      runs = set-each (λ n g. IsRun (slice_set c.places x (Some k)) (slice_set c.next h.last x) (owned s.owner x (2 * name)) (2 * n) g) c.heads name (Some (joined_head x h)) in_heads
          (λ g is. let same : joined_head x h ≡ g = cc in subst (λ e. IsRun (slice_set c.places x (Some k)) (slice_set c.next h.last x) (owned s.owner x (2 * name)) (2 * name) e) same (run-joined c.places c.next s.owner (2 * name) x k h lt in_next away run))
          (λ n g differs at. run-besides c.places c.next s.owner (2 * name) (2 * n) x h.last k g (even-differs n name differs) last away (s.runs n g at));
      aside = λ l r at. run-besides c.places c.next s.owner (2 * name) (2 * l + 1) x h.last k (resting_head l r) (odd-even l name) last away (s.aside l r at);
      few = omega (arith, s.few, more_places, more_heads);
      counted = s.counted;
    }

pub items-join : (c : Columns) (resting : List (Option Resting)) (count name x : ℕ) (h : Head) → IsSound c resting count → slice_get c.heads name ≡ Some (Some h) → items_of (slice_set c.next h.last x) (slice_set c.heads name (Some (joined_head x h))) ≡ slice_set (items_of c.next c.heads) name (option_map (with_frame x) (item_on (items_of c.next c.heads) name))
items-join c resting count name x h s there =
    let after = slice_set c.next h.last x in
    let run = s.runs name h there in
    let in_next = last-within c resting count name h s there in
    let own = last-own c.places c.next s.owner (2 * name) h run in
    let is : item_of after (joined_head x h) ≡ with_frame x (item_of c.next h) = ap (λ (fs : List ℕ). record { lent = h.lent; first = h.first; more = fs }) (more-joined c.places c.next s.owner (2 * name) x h in_next run) in
    let known : item_on (items_of c.next c.heads) name ≡ Some (item_of c.next h) = item-head c.next c.heads name ∙ ap (λ (o : Option (Option Head)). option_map (item_of c.next) (option_and_then (λ g. g) o)) there in
    map-set (option_map (item_of after)) c.heads name (Some (joined_head x h))
    ∙ ap (λ (i : Item). slice_set (items_of after c.heads) name (Some i)) is
    ∙ map-but (option_map (item_of after)) (option_map (item_of c.next)) c.heads name (Some (with_frame x (item_of c.next h)))
    (λ n o differs at. items-besides c resting count s name n x h.last o differs own.1 at)
    ∙ ap (λ (o : Option Item). slice_set (items_of c.next c.heads) name (option_map (with_frame x) o)) (sym known)
  where
    items-besides : (c : Columns) (resting : List (Option Resting)) (count : ℕ) (s : IsSound c resting count) (name n x l : ℕ) (o : Option Head) → n ≢ name → s.owner l ≡ 2 * name → slice_get c.heads n ≡ Some o → option_map (item_of (slice_set c.next l x)) o ≡ option_map (item_of c.next) o
    items-besides c resting count s name n x l None differs own at = refl
    items-besides c resting count s name n x l (Some g) differs own at =
        let same = more-set c.next l x g.more g.first (lacks-own c.places s.owner (2 * name) (2 * n) l (frames_of (item_of c.next g)) own (even-differs n name differs) (s.runs n g at).own) in
        ap (λ (fs : List ℕ). Some (record { lent = g.lent; first = g.first; more = fs })) same

-- those aside stay
pub asides-join : (c : Columns) (resting : List (Option Resting)) (count name x : ℕ) (h : Head) → IsSound c resting count → slice_get c.heads name ≡ Some (Some h) → asides_of (slice_set c.next h.last x) resting ≡ asides_of c.next resting
asides-join c resting count name x h s there =
    let own = last-own c.places c.next s.owner (2 * name) h (s.runs name h there) in
    map-same (option_map (aside_of_resting (slice_set c.next h.last x))) (option_map (aside_of_resting c.next)) resting (λ l o at. besides c resting count s name l x h.last o own.1 at)
  where
    besides : (c : Columns) (resting : List (Option Resting)) (count : ℕ) (s : IsSound c resting count) (name n x l : ℕ) (o : Option Resting) → s.owner l ≡ 2 * name → slice_get resting n ≡ Some o → option_map (aside_of_resting (slice_set c.next l x)) o ≡ option_map (aside_of_resting c.next) o
    besides c resting count s name n x l None own at = refl
    besides c resting count s name n x l (Some r) own at =
        let same = more-set c.next l x r.more r.first (lacks-own c.places s.owner (2 * name) (2 * n + 1) l (frames_of (item_of c.next (resting_head n r))) own (odd-even n name) (s.aside n r at).own) in
        ap (λ (fs : List ℕ). Some (record { name = r.name; item = record { lent = Some r.serial; first = r.first; more = fs } })) same

-- ---- lent

pub sound-lend : (c : Columns) (resting : List (Option Resting)) (count name serial : ℕ) (h : Head) → IsSound c resting count → slice_get c.heads name ≡ Some (Some h) → IsSound (with_head c name (Some (lent_head serial h))) resting count
sound-lend c resting count name serial h s there =
    let run = s.runs name h there in
    let as_many = set-sum head_weight c.heads name (Some h) (Some (lent_head serial h)) there in
    record {
      fits = s.fits;
      links = s.links;
      names = set-length c.heads name (Some (lent_head serial h)) ∙ s.names;
      rests = s.rests;
      numbered = s.numbered;
      owner = s.owner;
      runs = set-each (λ n g. IsRun c.places c.next s.owner (2 * n) g) c.heads name (Some (lent_head serial h)) (slice_get_within c.heads name (Some h) there)
          (λ g is. let same : lent_head serial h ≡ g = cc in subst (λ e. IsRun c.places c.next s.owner (2 * name) e) same (record { own = run.own; differ = run.differ; last = run.last }))
          (λ n g differs at. s.runs n g at);
      aside = s.aside;
      few = omega (arith, s.few, as_many);
      counted = s.counted;
    }

pub items-lend : (next : List ℕ) (heads : List (Option Head)) (name serial : ℕ) (h : Head) → slice_get heads name ≡ Some (Some h) → items_of next (slice_set heads name (Some (lent_head serial h))) ≡ slice_set (items_of next heads) name (option_map (lent_under serial) (item_on (items_of next heads) name))
items-lend next heads name serial h there =
    let known : item_on (items_of next heads) name ≡ Some (item_of next h) = item-head next heads name ∙ ap (λ (o : Option (Option Head)). option_map (item_of next) (option_and_then (λ g. g) o)) there in
    map-set (option_map (item_of next)) heads name (Some (lent_head serial h))
    ∙ ap (λ (o : Option Item). slice_set (items_of next heads) name (option_map (lent_under serial) o)) (sym known)

-- ---- the opening

none-in : {X : Type 0} (n m : ℕ) (x : X) → slice_get (replicate n None) m ≡ Some (Some x) → ⊥
none-in zero m x is = absurd cc
none-in (suc n) zero x is = absurd cc
none-in (suc n) (suc m) x is = none-in n m x is

no-sum : {X : Type 0} (f : Option X → ℕ) (n : ℕ) → f None ≡ 0 → sum_by f (replicate n None) ≡ 0
no-sum f zero none = refl
no-sum f (suc n) none = let e = sum_by-cons f None (replicate n None) in omega (arith, e, none, no-sum f n none)

pub sound-empty : (n : ℕ) → n < 2 ^ 32 → IsSound (empty_columns n) (replicate n None) 0
sound-empty n lt =
    let none : Option Kept = None in
    let no_head : Option Head = None in
    let no_resting : Option Resting = None in
    record {
      fits = rw (length-replicate n none) lt;
      links = length-replicate n 0 ∙ sym (length-replicate n none);
      names = length-replicate n no_head ∙ sym (length-replicate n none);
      rests = length-replicate n no_resting ∙ sym (length-replicate n none);
      numbered = λ m k at. absurd (none-in n m k at);
      owner = λ m. m;
      runs = λ m h at. absurd (none-in n m h at);
      aside = λ m r at. absurd (none-in n m r at);
      few = omega (arith, no-sum head_weight n refl, no-sum resting_weight n refl);
      counted = sym (no-sum resting_one n refl);
    }

pub images-empty : {X Y : Type 0} (f : X → Y) (n : ℕ) → map (option_map f) (replicate n None) ≡ replicate n None
images-empty f zero = refl
images-empty {X} {Y} f (suc n) = ap (λ (l : List (Option Y)). None ∷ l) (images-empty f n)

-- an item aside is counted
pub aside-counts : (c : Columns) (resting : List (Option Resting)) (count l : ℕ) (r : Resting) → IsSound c resting count → slice_get resting l ≡ Some (Some r) → 0 < count
aside-counts c resting count l r s there =
    let none : Option Resting = None in
    let ones = set-sum resting_one resting l (Some r) none there in
    omega (arith, s.counted, ones)
