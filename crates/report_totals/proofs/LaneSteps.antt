-- The buffers of the lanes from a domain after one more line of its journal, and which back lines fit.
use Rattle.std.proofs.Common.{◌≡◌, ◌≢◌, ℕ, zero, suc, ◌+◌, ◌<◌, ◌≤◌, Bool, true, false, cond, List, [], ◌∷◌, ◌++◌, length, take, drop, Some, refl, sym, ap, ap₂, subst, ◌∙◌, arith, append-nil, length-append, drop-drop, length-set}
use Rattle.std.specs.Prelude.{nat_lt, slice_get, slice_set, ◌==◌}
use Rattle.std.specs.List.{flat_map, list_all}
use Rattle.std.proofs.lemmas.Bool.{eqb-true, eqb-false, ne_eqb, eq-eqb}
use Rattle.std.proofs.lemmas.List.Concat.{flat_map-append}
use Rattle.std.proofs.lemmas.Option.{slice_get_within}
use Rattle.std.proofs.lemmas.List.Sums.{sum_by-cons}
use Rattle.board_model.specs.declared.scenario.Scenario.{Scenario}
use Rattle.ring_numbers.specs.SenderNumbers.{Numbers, Sending, comes_back, puts as puts_bytes, at_start, put_in as number_put, after_sending, after_all, are_put}
use Rattle.report_text.specs.JournalRead.{JournalText}
use Rattle.report_text.specs.LaneLines.{LaneLine, came_back, puts, shows, takes, nothing, back_in, put_in}
use Rattle.report_text.specs.LinkPass.{back_before}
use Rattle.report_text.proofs.LeftLemmas.{got-set, get-other}
use Rattle.report_text.specs.RingPass.{given_to, is_back_of_put}
use Rattle.report_totals.specs.SenderLanes.{sent_on, size_to, numbers_after, AreAfter, FindBuffers, FindTheirs}
use Rattle.report_totals.proofs.BuffersFound.{backs_of}

-- ---- sendings one after the other

pub all-after : (n : Numbers) (xs ys : List Sending) → after_all n (xs ++ ys) ≡ after_all (after_all n xs) ys
all-after n [] ys = refl
all-after n (x ∷ xs) ys = all-after (after_sending n x) xs ys

pub find-front : (n : Numbers) (xs ys : List Sending) → FindBuffers n (xs ++ ys) → FindBuffers n xs
find-front n [] ys find = tt
find-front n (puts_bytes bytes ∷ xs) ys find = (find.0, find-front (after_sending n (puts_bytes bytes)) xs ys find.1)
find-front n (comes_back count ∷ xs) ys find = find-front (after_sending n (comes_back count)) xs ys find

abbrev puts_of : List Sending → ℕ
puts_of [] = 0
puts_of (puts_bytes bytes ∷ es) = 1 + puts_of es
puts_of (comes_back count ∷ es) = puts_of es

put-one : (free : List ℕ) (bytes : ℕ) → 0 < length free → length (number_put free bytes) ≡ 1
put-one [] bytes some = absurd (omega (arith, some))
put-one (n ∷ ns) bytes some = refl

-- where each frame finds a buffer, each has a number
used-count : (n : Numbers) (es : List Sending) → FindBuffers n es → length (after_all n es).used ≡ length n.used + puts_of es
used-count n [] find = omega arith
used-count n (puts_bytes bytes ∷ es) find =
    omega (arith, used-count (after_sending n (puts_bytes bytes)) es find.1, length-append n.used (number_put n.free bytes), put-one n.free bytes find.0)
used-count n (comes_back count ∷ es) find = used-count (after_sending n (comes_back count)) es find

given-left : (n : Numbers) (es : List Sending) → (after_all n es).given ≡ drop (backs_of es) n.given
given-left n [] = refl
given-left n (puts_bytes bytes ∷ es) = given-left (after_sending n (puts_bytes bytes)) es
given-left n (comes_back count ∷ es) = given-left (after_sending n (comes_back count)) es ∙ drop-drop (backs_of es) count n.given

-- ---- by lines

module _ (p : ℕ) where
  puts-lines : (ls : List LaneLine) → puts_of (flat_map (sent_on p) ls) ≡ length (flat_map (put_in p) ls)
  puts-lines [] = refl
  puts-lines (came_back q n ∷ ls) = go (q == p) ∙ puts-lines ls
    where
      go : (b : Bool) → puts_of (cond b (comes_back n ∷ []) [] ++ flat_map (sent_on p) ls) ≡ puts_of (flat_map (sent_on p) ls)
      go true = refl
      go false = refl
  puts-lines (puts q frame ∷ ls) = go (q == p) (puts-lines ls)
    where
      go : (b : Bool) → puts_of (flat_map (sent_on p) ls) ≡ length (flat_map (put_in p) ls) → puts_of (cond b (puts_bytes (length frame) ∷ []) [] ++ flat_map (sent_on p) ls) ≡ length (cond b (frame ∷ []) [] ++ flat_map (put_in p) ls)
      go true rest = omega (arith, rest)
      go false rest = rest
  puts-lines (shows q n ∷ ls) = puts-lines ls
  puts-lines (takes q frame ∷ ls) = puts-lines ls
  puts-lines (nothing ∷ ls) = puts-lines ls

  pub backs-lines : (ls : List LaneLine) → backs_of (flat_map (sent_on p) ls) ≡ back_before p ls
  backs-lines [] = refl
  backs-lines (came_back q n ∷ ls) = go (q == p) (backs-lines ls) ∙ sym (sum_by-cons (back_in p) (came_back q n) ls)
    where
      go : (b : Bool) → backs_of (flat_map (sent_on p) ls) ≡ back_before p ls → backs_of (cond b (comes_back n ∷ []) [] ++ flat_map (sent_on p) ls) ≡ cond b n 0 + back_before p ls
      go true rest = omega (arith, rest)
      go false rest = omega (arith, rest)
  backs-lines (puts q frame ∷ ls) = go (q == p) (backs-lines ls) ∙ sym (sum_by-cons (back_in p) (puts q frame) ls)
    where
      go : (b : Bool) → backs_of (flat_map (sent_on p) ls) ≡ back_before p ls → backs_of (cond b (puts_bytes (length frame) ∷ []) [] ++ flat_map (sent_on p) ls) ≡ 0 + back_before p ls
      go true rest = omega (arith, rest)
      go false rest = omega (arith, rest)
  backs-lines (shows q n ∷ ls) = omega (arith, backs-lines ls, sum_by-cons (back_in p) (shows q n) ls)
  backs-lines (takes q frame ∷ ls) = omega (arith, backs-lines ls, sum_by-cons (back_in p) (takes q frame) ls)
  backs-lines (nothing ∷ ls) = omega (arith, backs-lines ls, sum_by-cons (back_in p) nothing ls)

  sent-more : (before : List LaneLine) (l : LaneLine) → flat_map (sent_on p) (before ++ l ∷ []) ≡ flat_map (sent_on p) before ++ sent_on p l
  sent-more before l = flat_map-append (sent_on p) before (l ∷ []) ∙ ap (λ (es : List Sending). flat_map (sent_on p) before ++ es) (append-nil (sent_on p l))

-- ---- the lanes from a domain

-- what a line that speaks of a lane says of it
abbrev pub said : LaneLine → List Sending
said (came_back p n) = comes_back n ∷ []
said (puts p frame) = puts_bytes (length frame) ∷ []
said other = []

abbrev pub peer_said : LaneLine → ℕ
peer_said (came_back p n) = p
peer_said (puts p frame) = p
peer_said other = 0

said-own : (line : LaneLine) (p : ℕ) → peer_said line ≡ p → sent_on p line ≡ said line
said-own (came_back q n) p same = ap (λ b. cond b (comes_back n ∷ []) []) (eq-eqb q p same)
said-own (puts q frame) p same = ap (λ b. cond b (puts_bytes (length frame) ∷ []) []) (eq-eqb q p same)
said-own (shows q n) p same = refl
said-own (takes q frame) p same = refl
said-own nothing p same = refl

said-other : (line : LaneLine) (p : ℕ) → peer_said line ≢ p → sent_on p line ≡ []
said-other (came_back q n) p other = ap (λ b. cond b (comes_back n ∷ []) []) (ne_eqb q p other)
said-other (puts q frame) p other = ap (λ b. cond b (puts_bytes (length frame) ∷ []) []) (ne_eqb q p other)
said-other (shows q n) p other = refl
said-other (takes q frame) p other = refl
said-other nothing p other = refl

module _ (s : Scenario) (js : List JournalText) (domain : ℕ) (before : List LaneLine) (line : LaneLine) where
  numbers-more : (p : ℕ) → numbers_after s js domain (before ++ line ∷ []) p ≡ after_all (numbers_after s js domain before p) (sent_on p line)
  numbers-more p =
      let start : Numbers = at_start (size_to s domain p) (given_to s js domain p) in
      ap (after_all start) (sent-more p before line) ∙ all-after start (flat_map (sent_on p) before) (sent_on p line)

  numbers-still : (p : ℕ) → sent_on p line ≡ [] → numbers_after s js domain (before ++ line ∷ []) p ≡ numbers_after s js domain before p
  numbers-still p none = numbers-more p ∙ ap (after_all (numbers_after s js domain before p)) none

  module _ (ns : List Numbers) (after : AreAfter s js domain before ns) where
    still-after : ((p : ℕ) → p < 8 → sent_on p line ≡ []) → AreAfter s js domain (before ++ line ∷ []) ns
    still-after none = record { many = after.many; each = λ p n at. after.each p n at ∙ sym (numbers-still p (none p (let within = slice_get_within ns p n at in let many = after.many in omega (arith, within, many)))) }

    -- of a lane that is not there
    pub far-after : 8 ≤ peer_said line → AreAfter s js domain (before ++ line ∷ []) ns
    far-after far = still-after (λ p near. said-other line p (λ same. omega (arith, same, far, near)))

    -- at the lane that it speaks of
    pub changed-after : (old new : Numbers) → slice_get ns (peer_said line) ≡ Some old → new ≡ after_all old (said line) → AreAfter s js domain (before ++ line ∷ []) (slice_set ns (peer_said line) new)
    changed-after old new at is = record {
      many = length-set ns (peer_said line) new ∙ after.many;
      each = λ p n at-p. by p n at-p (peer_said line == p) refl;
    }
      where
        q : ℕ
        q = peer_said line

        by : (p : ℕ) (n : Numbers) → slice_get (slice_set ns q new) p ≡ Some n → (b : Bool) → (q == p) ≡ b → n ≡ numbers_after s js domain (before ++ line ∷ []) p
        by p n at-p true e =
            let same : q ≡ p = eqb-true q p e in
            let got : new ≡ n = got-set ns q n new (ap (slice_get (slice_set ns q new)) same ∙ at-p) in
            sym got ∙ is ∙ ap₂ after_all (after.each q old at ∙ ap (numbers_after s js domain before) same) (sym (said-own line p same)) ∙ sym (numbers-more p)
        by p n at-p false e =
            let other : q ≢ p = eqb-false q p e in
            after.each p n (sym (get-other ns q p new (λ x. other (sym x))) ∙ at-p) ∙ sym (numbers-still p (said-other line p other))

  -- ---- which back lines fit

  back-fits : (finds : FindTheirs s js domain before) (p count : ℕ) (old : Numbers) → p < 8 → old ≡ numbers_after s js domain before p → are_put old count ≡ is_back_of_put (given_to s js domain) before (came_back p count)
  back-fits finds p count old near is =
      let start : Numbers = at_start (size_to s domain p) (given_to s js domain p) in
      let sent : List Sending = flat_map (sent_on p) before in
      let used : length old.used ≡ length (flat_map (put_in p) before) = ap (λ (n : Numbers). length n.used) is ∙ omega (arith, used-count start sent (finds.buffers p near), puts-lines p before) in
      let given : old.given ≡ drop (back_before p before) (given_to s js domain p) = ap (λ (n : Numbers). n.given) is ∙ given-left start sent ∙ ap (λ k. drop k (given_to s js domain p)) (backs-lines p before) in
      ap (λ (places : List ℕ). list_all (λ place. nat_lt place (length old.used)) (take count places)) given
      ∙ ap (λ (k : ℕ). list_all (λ place. nat_lt place k) (take count (drop (back_before p before) (given_to s js domain p)))) used

  pub at-back : (finds : FindTheirs s js domain before) (ns : List Numbers) → AreAfter s js domain before ns → (p count : ℕ) (old : Numbers) → slice_get ns p ≡ Some old → are_put old count ≡ is_back_of_put (given_to s js domain) before (came_back p count)
  at-back finds ns after p count old at =
      let within = slice_get_within ns p old at in
      let many = after.many in
      back-fits finds p count old (omega (arith, within, many)) (after.each p old at)

  pub far-back : FindTheirs s js domain before → (p count : ℕ) → 8 ≤ p → true ≡ is_back_of_put (given_to s js domain) before (came_back p count)
  far-back finds p count far = sym (ap (λ (places : List ℕ). list_all (λ place. nat_lt place (length (flat_map (put_in p) before))) (take count (drop (back_before p before) places))) (finds.far p far) ∙ none (back_before p before) count)
    where
      none : (m n : ℕ) → list_all (λ place. nat_lt place (length (flat_map (put_in p) before))) (take n (drop m [])) ≡ true
      none zero zero = refl
      none zero (suc n) = refl
      none (suc m) zero = refl
      none (suc m) (suc n) = refl

-- what holds along lines holds along the first of them
pub finds-front : (s : Scenario) (js : List JournalText) (domain : ℕ) (before rest : List LaneLine) → FindTheirs s js domain (before ++ rest) → FindTheirs s js domain before
finds-front s js domain before rest finds = record {
  buffers = λ p near.
      let start : Numbers = at_start (size_to s domain p) (given_to s js domain p) in
      find-front start (flat_map (sent_on p) before) (flat_map (sent_on p) rest) (subst (FindBuffers start) (flat_map-append (sent_on p) before rest) (finds.buffers p near));
  far = finds.far;
}
