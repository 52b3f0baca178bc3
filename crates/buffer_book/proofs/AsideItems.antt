-- The items of a shelf after one moved aside.
use Rattle.std.proofs.Common.{◌≡◌, ◌≢◌, ℕ, ◌+◌, ◌*◌, ◌<◌, ◌≤◌, ◌^◌, cond, List, [], ◌∷◌, length, Option, Some, None, refl, sym, subst, ◌∙◌, arith}
use Rattle.std.specs.Prelude.{slice_get, slice_set, sum_by, ◌==◌}
use Rattle.std.proofs.lemmas.Bool.{eq-eqb, ne_eqb}
use Rattle.std.proofs.lemmas.Option.{slice_get_within}
use Rattle.std.proofs.lemmas.List.Sums.{sum_by-cons}
use Rattle.buffer_book.specs.declared.cell.Resting.{Resting}
use Rattle.buffer_book.specs.Book.{Kept, frames_of}
use Rattle.buffer_book.specs.Runs.{Head, Columns, with_head, item_of, resting_head, IsOwn, IsRun, IsSound, head_weight, resting_weight, resting_one}
use Rattle.buffer_book.proofs.Sets.{set-length, set-each, set-sum}
use Rattle.buffer_book.proofs.Walks.{All-each}
use Rattle.buffer_book.proofs.Items.{not-past, held-within, even-differs, odd-even, last-own, all-fit}
use Rattle.buffer_book.proofs.TakenItems.{resting-weighs}

-- ---- an item that moves aside

abbrev moved-owner : (owner : ℕ → ℕ) (key to : ℕ) → ℕ → ℕ
moved-owner owner key to f = cond (owner f == key) to (owner f)

own-moved : (places : List (Option Kept)) (owner : ℕ → ℕ) (key to f : ℕ) → IsOwn places owner key f → IsOwn places (moved-owner owner key to) to f
own-moved places owner key to f own = (own.0, rw (eq-eqb (owner f) key own.1) refl)

own-stays : (places : List (Option Kept)) (owner : ℕ → ℕ) (key to n f : ℕ) → n ≢ key → IsOwn places owner n f → IsOwn places (moved-owner owner key to) n f
own-stays places owner key to n f differs own =
    let other : owner f ≢ key = λ e. differs (sym own.1 ∙ e) in
    (own.0, rw (ne_eqb (owner f) key other) own.1)

run-stays : (places : List (Option Kept)) (next : List ℕ) (owner : ℕ → ℕ) (key to n : ℕ) (h : Head) → n ≢ key → IsRun places next owner n h → IsRun places next (moved-owner owner key to) n h
run-stays places next owner key to n h differs r = record {
  own = All-each (IsOwn places owner n) (IsOwn places (moved-owner owner key to) n) (frames_of (item_of next h)) (λ f o. own-stays places owner key to n f differs o) r.own;
  differ = r.differ;
  last = r.last;
}

-- nothing stands aside at the last frame of an item that a name stands for
pub nothing-aside : (c : Columns) (resting : List (Option Resting)) (count name : ℕ) (h : Head) → IsSound c resting count → slice_get c.heads name ≡ Some (Some h) → slice_get resting h.last ≡ Some None
nothing-aside c resting count name h s there =
    let own = last-own c.places c.next s.owner (2 * name) h (s.runs name h there) in
    let lt : h.last < length resting = omega (arith, held-within c.places h.last own.0, s.rests) in
    by-what c resting count h.last name s own.1 (slice_get resting h.last) refl (not-past resting h.last lt)
  where
    by-what : (c : Columns) (resting : List (Option Resting)) (count l name : ℕ) (s : IsSound c resting count) → s.owner l ≡ 2 * name → (o : Option (Option Resting)) → slice_get resting l ≡ o → o ≢ None → o ≡ Some None
    by-what c resting count l name s own None is there = absurd (there refl)
    by-what c resting count l name s own (Some None) is there = refl
    by-what c resting count l name s own (Some (Some r)) is there =
        let its = last-own c.places c.next s.owner (2 * l + 1) (resting_head l r) (s.aside l r is) in
        absurd (odd-even l name (sym its.1 ∙ own))

pub count-fits : (c : Columns) (resting : List (Option Resting)) (count name : ℕ) (h : Head) → IsSound c resting count → slice_get c.heads name ≡ Some (Some h) → count + 1 < 2 ^ 32
count-fits c resting count name h s there =
    let one = set-sum head_weight c.heads name (Some h) None there in
    omega (arith, one, all-fit c resting count s, s.counted, ones resting)
  where
    ones : (rs : List (Option Resting)) → sum_by resting_one rs ≤ sum_by resting_weight rs
    ones [] = omega arith
    ones (o ∷ rs) =
        let a = sum_by-cons resting_one o rs in
        let b = sum_by-cons resting_weight o rs in
        omega (arith, a, b, resting-weighs o, ones rs)

abbrev pub resting_of : ℕ → ℕ → Head → Resting
resting_of name serial h = record { name = name; first = h.first; more = h.more; serial = serial }

pub sound-aside : (c : Columns) (resting : List (Option Resting)) (count name serial : ℕ) (h : Head) → IsSound c resting count → slice_get c.heads name ≡ Some (Some h) → IsSound (with_head c name None) (slice_set resting h.last (Some (resting_of name serial h))) (count + 1)
sound-aside c resting count name serial h s there =
    let run = s.runs name h there in
    let r = resting_of name serial h in
    let spare = nothing-aside c resting count name h s there in
    let none : Option Head = None in
    let less_heads = set-sum head_weight c.heads name (Some h) none there in
    let more_resting = set-sum resting_weight resting h.last None (Some r) spare in
    let ones = set-sum resting_one resting h.last None (Some r) spare in
    let to = 2 * h.last + 1 in
    record {
      fits = s.fits;
      links = s.links;
      names = set-length c.heads name None ∙ s.names;
      rests = set-length resting h.last (Some r) ∙ s.rests;
      numbered = s.numbered;
      owner = moved-owner s.owner (2 * name) to;
      runs = set-each (λ n g. IsRun c.places c.next (moved-owner s.owner (2 * name) to) (2 * n) g) c.heads name None (slice_get_within c.heads name (Some h) there)
          (λ g is. absurd cc)
          (λ n g differs at. run-stays c.places c.next s.owner (2 * name) to (2 * n) g (even-differs n name differs) (s.runs n g at));
      aside = set-each (λ n g. IsRun c.places c.next (moved-owner s.owner (2 * name) to) (2 * n + 1) (resting_head n g)) resting h.last (Some r) (slice_get_within resting h.last None spare)
          (λ g is. let same : r ≡ g = cc in subst (λ e. IsRun c.places c.next (moved-owner s.owner (2 * name) to) to (resting_head h.last e)) same (record {
            own = All-each (IsOwn c.places s.owner (2 * name)) (IsOwn c.places (moved-owner s.owner (2 * name) to) to) (frames_of (item_of c.next h)) (λ f o. own-moved c.places s.owner (2 * name) to f o) run.own;
            differ = run.differ;
            last = run.last;
          }))
          (λ n g differs at. run-stays c.places c.next s.owner (2 * name) to (2 * n + 1) (resting_head n g) (odd-even n name) (s.aside n g at));
      few = omega (arith, s.few, less_heads, more_resting);
      counted = omega (arith, s.counted, ones);
    }
