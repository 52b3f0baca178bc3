-- Cells that are all free are sound.
use Rattle.std.proofs.Common.{◌≡◌, ◌≢◌, ℕ, zero, suc, ◌+◌, ◌-◌, ◌<◌, ◌≤◌, ◌^◌, List, [], ◌∷◌, length, get_or, refl, sym, ap, subst, ◌∙◌, arith, inl, inr}
use Rattle.std.specs.List.{AllByRecursion}
use Rattle.std.proofs.ByRecursion.{All-weaker}
use Rattle.std.proofs.lemmas.Bool.{cases_lt}
use Rattle.std.proofs.lemmas.List.{get_or_append_left, get_or_push, length_push}
use Rattle.message_queue.specs.declared.cells.Cells.{Cells}
use Rattle.message_queue.specs.Linked.{at, walk, upto, Lacks, Differ}
use Rattle.message_queue.specs.Cells.{columns_of, AreLinked, room_of, order_of, spare_of, IsSound}

length-upto : (n : ℕ) → length (upto n) ≡ n
length-upto zero = refl
length-upto (suc n) = let rest = length-upto n in omega (arith, length_push (upto n) n)

upto-at : (n i : ℕ) → i < n → get_or (upto n) i 0 ≡ i
upto-at zero i lt = absurd (omega arith)
upto-at (suc n) i lt = elim (cases_lt i n) [
  | inl below ↦ get_or_append_left (upto n) (n ∷ []) 0 i (omega (arith, length-upto n)) ∙ upto-at n i below
  | inr above ↦ get_or_push (upto n) n 0 i (omega (arith, length-upto n)) ∙ (let same : n ≡ i = omega arith in same)
]

-- from this number down to 1
abbrev down : ℕ → List ℕ
down zero = []
down (suc n) = suc n ∷ down n

down-below : (n m : ℕ) → n < m → AllByRecursion (λ o. o < m) (down n)
down-below zero m lt = tt
down-below (suc n) m lt = (lt, down-below n m (omega arith))

down-some : (n : ℕ) → Lacks (down n) 0
down-some zero = tt
down-some (suc n) = ((λ is. absurd (omega arith)), down-some n)

down-differ : (n : ℕ) → Differ (down n)
down-differ zero = tt
down-differ (suc n) = (All-weaker (λ o. o < suc n) (λ o. o ≢ suc n) (λ o lt is. absurd (omega arith)) (down n) (down-below n (suc n) (omega arith)), down-differ n)

walk-down : (next : List ℕ) (m n : ℕ) → next ≡ 0 ∷ upto m → n ≤ m → walk next n n ≡ down n
walk-down next m zero is le = refl
walk-down next m (suc n) is le =
    let leads : at next (suc n) ≡ n = ap (λ (ns : List ℕ). at ns (suc n)) is ∙ upto-at m n (omega arith) in
    ap (λ (h : ℕ). suc n ∷ walk next n h) leads ∙ ap (λ (r : List ℕ). suc n ∷ r) (walk-down next m n is (omega arith))

pub fresh : (q : Cells) (n : ℕ) → length q.cells.items ≡ n + 1 → n < 2 ^ 32 → at (columns_of q.cells.items).prev 0 ≡ 0 → (columns_of q.cells.items).next ≡ 0 ∷ upto n → ((p : ℕ) → at q.first p ≡ 0) → q.len ≡ 0 → q.free ≡ n → IsSound q
fresh q n long fits ring is none len free =
    let c = columns_of q.cells.items in
    let order : order_of q ≡ [] = ap (λ (k : ℕ). walk c.next k (at c.next 0)) len in
    let count : room_of q - q.len ≡ n = omega arith in
    let spare : spare_of q ≡ down n = ap (λ (k : ℕ). walk c.next k q.free) count ∙ ap (λ (h : ℕ). walk c.next n h) free ∙ walk-down c.next n n is (omega arith) in
    let size : length c.next ≡ n + 1 = ap length is ∙ (let k = length-upto n in omega arith) in
    let l : AreLinked c q.first q.last [] (down n) = record {
      linked = (ap (λ (ns : List ℕ). at ns 0) is, ring);
      differ = (down-some n, down-differ n);
      inside = (omega arith, subst (λ (k : ℕ). AllByRecursion (λ o. o < k) (down n)) (sym size) (down-below n (n + 1) (omega arith)));
      chains = λ p. none p;
      ends = λ p. tt;
    } in
    record {
      are_linked = subst (λ (os : List ℕ). AreLinked c q.first q.last os (spare_of q)) (sym order) (subst (λ (fs : List ℕ). AreLinked c q.first q.last [] fs) (sym spare) l);
      within = omega arith;
      fits = omega arith;
    }
