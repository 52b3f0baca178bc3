-- The items of a shelf after the first frame of one was taken.
use Rattle.std.proofs.Common.{◌≡◌, ℕ, zero, suc, ◌+◌, ◌*◌, ◌≤◌, List, ◌∷◌, Option, Some, None, refl, sym, ap, subst, ◌∙◌, arith}
use Rattle.std.specs.Prelude.{slice_get, slice_set, IsSome, option_and_then, option_map}
use Rattle.std.specs.List.{AllByRecursion}
use Rattle.std.proofs.lemmas.Option.{slice_get_within}
use Rattle.buffer_book.specs.declared.cell.Resting.{Resting}
use Rattle.buffer_book.specs.Book.{Kept, Item, left_of}
use Rattle.buffer_book.specs.Links.{at, walk, last_of, Differ}
use Rattle.buffer_book.specs.Runs.{Head, Columns, with_held, with_head, shortened, shortened_by, rested, item_of, items_of, resting_head, IsOwn, IsRun, IsSound, head_weight, place_weight, resting_weight, resting_one}
use Rattle.buffer_book.proofs.Sets.{set-length, map-set, set-each, set-sum}
use Rattle.buffer_book.proofs.Walks.{All-lacking}
use Rattle.buffer_book.proofs.Items.{own-take, even-differs, odd-differs, odd-even, even-odd, run-apart}

-- ---- the first frame taken

-- the run of an item without its first frame
run-rest : (places : List (Option Kept)) (next : List ℕ) (owner : ℕ → ℕ) (key : ℕ) (h : Head) (more : ℕ) → h.more ≡ suc more → IsRun places next owner key h → IsRun (slice_set places h.first None) next owner key (record h { first = at next h.first; more = more })
run-rest places next owner key h m e r =
    let own : AllByRecursion (IsOwn places owner key) (walk next (suc m) (at next h.first)) = subst (λ n. AllByRecursion (IsOwn places owner key) (walk next n (at next h.first))) e r.own.1 in
    let differ : Differ (h.first ∷ walk next (suc m) (at next h.first)) = subst (λ n. Differ (h.first ∷ walk next n (at next h.first))) e r.differ in
    let last : h.last ≡ last_of h.first (walk next (suc m) (at next h.first)) = r.last ∙ ap (λ n. last_of h.first (walk next n (at next h.first))) e in
    record {
      own = All-lacking (IsOwn places owner key) (IsOwn (slice_set places h.first None) owner key) h.first (walk next (suc m) (at next h.first)) (λ f differs o. own-take places owner h.first key f differs o) differ.0 own;
      differ = differ.1;
      last = last;
    }

run-shortened : (places : List (Option Kept)) (next : List ℕ) (owner : ℕ → ℕ) (key : ℕ) (h : Head) (more : ℕ) → h.more ≡ more → IsRun places next owner key h → (g : Head) → shortened_by (at next h.first) h more ≡ Some g → IsRun (slice_set places h.first None) next owner key g
run-shortened places next owner key h zero e r g is = absurd cc
run-shortened places next owner key h (suc m) e r g is =
    let same : record h { first = at next h.first; more = m } ≡ g = cc in
    subst (λ x. IsRun (slice_set places h.first None) next owner key x) same (run-rest places next owner key h m e r)

run-rested : (places : List (Option Kept)) (next : List ℕ) (owner : ℕ → ℕ) (key l : ℕ) (r : Resting) (more : ℕ) → r.more ≡ more → IsRun places next owner key (resting_head l r) → (g : Resting) → rested (at next r.first) r more ≡ Some g → IsRun (slice_set places r.first None) next owner key (resting_head l g)
run-rested places next owner key l r zero e run g is = absurd cc
run-rested places next owner key l r (suc m) e run g is =
    let same : record r { first = at next r.first; more = m } ≡ g = cc in
    subst (λ x. IsRun (slice_set places r.first None) next owner key (resting_head l x)) same (run-rest places next owner key (resting_head l r) m e run)

short-weight : (next : ℕ) (h : Head) (more : ℕ) → head_weight (shortened_by next h more) ≡ more
short-weight next h zero = refl
short-weight next h (suc m) = refl

rested-weight : (next : ℕ) (r : Resting) (more : ℕ) → resting_weight (rested next r more) ≡ more
rested-weight next r zero = refl
rested-weight next r (suc m) = refl

one-held : (o : Option (Option Kept)) → IsSome (option_and_then (λ p. p) o) → (k : Kept) × (o ≡ Some (Some k))
one-held None is = absurd cc
one-held (Some None) is = absurd cc
one-held (Some (Some k)) is = (k, refl)

pub sound-take : (c : Columns) (resting : List (Option Resting)) (count name : ℕ) (h : Head) → IsSound c resting count → slice_get c.heads name ≡ Some (Some h) → IsSound (with_head (with_held c h.first None) name (shortened (at c.next h.first) h)) resting count
sound-take c resting count name h s there =
    let run = s.runs name h there in
    let held = one-held (slice_get c.places h.first) run.own.0.0 in
    let rest = shortened (at c.next h.first) h in
    let less_places = set-sum place_weight c.places h.first (Some held.0) None held.1 in
    let less_heads = set-sum head_weight c.heads name (Some h) rest there in
    let weight = short-weight (at c.next h.first) h h.more in
    let none : Option Kept = None in
    record {
      fits = rw (set-length c.places h.first none) s.fits;
      links = s.links ∙ sym (set-length c.places h.first None);
      names = set-length c.heads name rest ∙ s.names ∙ sym (set-length c.places h.first None);
      rests = s.rests ∙ sym (set-length c.places h.first None);
      numbered = set-each (λ n (j : Kept). j.buffer.number ≡ n) c.places h.first None (slice_get_within c.places h.first (Some held.0) held.1) (λ j is. absurd cc) (λ n j differs at. s.numbered n j at);
      owner = s.owner;
      runs = set-each (λ n g. IsRun (slice_set c.places h.first None) c.next s.owner (2 * n) g) c.heads name rest (slice_get_within c.heads name (Some h) there)
          (λ g is. run-shortened c.places c.next s.owner (2 * name) h h.more refl run g is)
          (λ n g differs at. run-apart c.places c.next s.owner (2 * name) (2 * n) h.first g (even-differs n name differs) run.own.0.1 (s.runs n g at));
      aside = λ l r at. run-apart c.places c.next s.owner (2 * name) (2 * l + 1) h.first (resting_head l r) (odd-even l name) run.own.0.1 (s.aside l r at);
      few = omega (arith, s.few, less_places, less_heads, weight);
      counted = s.counted;
    }

pub short-item : (next : List ℕ) (h : Head) (more : ℕ) → option_map (item_of next) (shortened_by (at next h.first) h more) ≡ left_of h.lent (walk next more (at next h.first))
short-item next h zero = refl
short-item next h (suc m) = refl

pub items-take : (next : List ℕ) (heads : List (Option Head)) (name : ℕ) (h : Head) → items_of next (slice_set heads name (shortened (at next h.first) h)) ≡ slice_set (items_of next heads) name (left_of h.lent (walk next h.more (at next h.first)))
items-take next heads name h =
    map-set (option_map (item_of next)) heads name (shortened (at next h.first) h)
    ∙ ap (λ (o : Option Item). slice_set (items_of next heads) name o) (short-item next h h.more)

pub resting-weighs : (o : Option Resting) → resting_one o ≤ resting_weight o
resting-weighs None = omega arith
resting-weighs (Some r) = omega arith

-- the first frame of an item aside
pub sound-rest : (c : Columns) (resting : List (Option Resting)) (count left l : ℕ) (r : Resting) → IsSound c resting count → slice_get resting l ≡ Some (Some r) → left + 1 ≡ count + resting_one (rested (at c.next r.first) r r.more) → IsSound (with_held c r.first None) (slice_set resting l (rested (at c.next r.first) r r.more)) left
sound-rest c resting count left l r s there counts =
    let run = s.aside l r there in
    let held = one-held (slice_get c.places r.first) run.own.0.0 in
    let rest = rested (at c.next r.first) r r.more in
    let less_places = set-sum place_weight c.places r.first (Some held.0) None held.1 in
    let less_resting = set-sum resting_weight resting l (Some r) rest there in
    let weight = rested-weight (at c.next r.first) r r.more in
    let ones = set-sum resting_one resting l (Some r) rest there in
    let none : Option Kept = None in
    record {
      fits = rw (set-length c.places r.first none) s.fits;
      links = s.links ∙ sym (set-length c.places r.first None);
      names = s.names ∙ sym (set-length c.places r.first None);
      rests = set-length resting l rest ∙ s.rests ∙ sym (set-length c.places r.first None);
      numbered = set-each (λ n (j : Kept). j.buffer.number ≡ n) c.places r.first None (slice_get_within c.places r.first (Some held.0) held.1) (λ j is. absurd cc) (λ n j differs at. s.numbered n j at);
      owner = s.owner;
      runs = λ n g at. run-apart c.places c.next s.owner (2 * l + 1) (2 * n) r.first g (even-odd n l) run.own.0.1 (s.runs n g at);
      aside = set-each (λ n g. IsRun (slice_set c.places r.first None) c.next s.owner (2 * n + 1) (resting_head n g)) resting l rest (slice_get_within resting l (Some r) there)
          (λ g is. run-rested c.places c.next s.owner (2 * l + 1) l r r.more refl run g is)
          (λ n g differs at. run-apart c.places c.next s.owner (2 * l + 1) (2 * n + 1) r.first (resting_head n g) (odd-differs n l differs) run.own.0.1 (s.aside n g at));
      few = omega (arith, s.few, less_places, less_resting, weight);
      counted = omega (arith, s.counted, ones, counts);
    }
