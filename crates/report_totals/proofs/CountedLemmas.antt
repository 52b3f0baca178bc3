-- A count looks at no more of a line than its counted form has: of an answer at the number that it tells.
use Rattle.std.proofs.Common.{◌≡◌, ℕ, ◌+◌, ◌<◌, ◌^◌, Bool, false, cond, List, [], ◌∷◌, map, refl, sym, ap, subst, ◌∙◌, arith, count_by, sum_by}
use Rattle.std.specs.Prelude.{slice_index, ◌==◌}
use Rattle.std.proofs.lemmas.List.Sums.{sum_by-cons}
use Rattle.board_model.proofs.ListsCounts.{count-cons}
use Rattle.board_model.specs.Journal.{PlainAnswer, tells, Line, idle_line, again_line, spin_line, turn_line, back_line, put_line, see_line, take_line, wait_line, call_line}
use Rattle.board_model.specs.Tallies.{number_told, is_put_to, is_taken_from, is_sent_line, is_brought_line, is_lost_line, deleted_in}
use Rattle.board_numbers.specs.declared.counts.Counts.{Counts}
use Rattle.board_numbers.specs.declared.items.ItemCounts.{ItemCounts}
use Rattle.board_numbers.specs.Counts.{AreCounts}
use Rattle.board_numbers.specs.Items.{is_item_put, is_item_taken, is_item_lost, is_close_put, told_in, closed_after}
use Rattle.board_numbers.specs.ItemCounts.{sent_in, brought_in, dropped_in, CountsLines, EachWith}
use Rattle.board_numbers.proofs.EachLemmas.{each-is}
use Rattle.report_text.specs.CountedLines.{counted_line}
use Rattle.report_totals.specs.Counting.{CountsDeleted}

-- ---- one line

by-call : {A : Type 0} (f : Line → A) → ((k : ℕ) (a : PlainAnswer) → f (call_line k (tells (number_told a))) ≡ f (call_line k a)) → (l : Line) → f (counted_line l) ≡ f l
by-call f same (idle_line n) = refl
by-call f same (again_line w) = refl
by-call f same (spin_line n w) = refl
by-call f same turn_line = refl
by-call f same (back_line p n) = refl
by-call f same (put_line p x) = refl
by-call f same (see_line p n) = refl
by-call f same (take_line p x w) = refl
by-call f same (wait_line k) = refl
by-call f same (call_line k a) = same k a

-- ---- lists of lines

counts-in : (p : Line → Bool) → ((l : Line) → p (counted_line l) ≡ p l) → (ls : List Line) → count_by p (map counted_line ls) ≡ count_by p ls
counts-in p same [] = refl
counts-in p same (l ∷ ls) = count-cons p (counted_line l) (map counted_line ls) ∙ ap (λ b. cond b 1 0 + count_by p (map counted_line ls)) (same l) ∙ ap (λ n. cond (p l) 1 0 + n) (counts-in p same ls) ∙ sym (count-cons p l ls)

sums-in : (f : Line → ℕ) → ((l : Line) → f (counted_line l) ≡ f l) → (ls : List Line) → sum_by f (map counted_line ls) ≡ sum_by f ls
sums-in f same [] = refl
sums-in f same (l ∷ ls) = omega (arith, sum_by-cons f (counted_line l) (map counted_line ls), sum_by-cons f l ls, same l, sums-in f same ls)

closed-in : (owner n : ℕ) (closing : Bool) (ls : List Line) → closed_after owner n closing (map counted_line ls) ≡ closed_after owner n closing ls
closed-in owner n closing [] = refl
closed-in owner n closing (l ∷ ls) =
    ap (λ t. cond closing t 0 + closed_after owner n (is_close_put owner n (counted_line l)) (map counted_line ls)) (by-call told_in (λ k a. refl) l)
    ∙ ap (λ c. cond closing (told_in l) 0 + closed_after owner n c (map counted_line ls)) (by-call (is_close_put owner n) (λ k a. refl) l)
    ∙ ap (λ m. cond closing (told_in l) 0 + m) (closed-in owner n (is_close_put owner n l) ls)

-- lines with the same counted forms
module _ (ls ms : List Line) (e : map counted_line ls ≡ map counted_line ms) where
  count-same : (p : Line → Bool) → ((k : ℕ) (a : PlainAnswer) → p (call_line k (tells (number_told a))) ≡ p (call_line k a)) → count_by p ls ≡ count_by p ms
  count-same p same = sym (counts-in p (by-call p same) ls) ∙ ap (count_by p) e ∙ counts-in p (by-call p same) ms

  sum-same : (f : Line → ℕ) → ((k : ℕ) (a : PlainAnswer) → f (call_line k (tells (number_told a))) ≡ f (call_line k a)) → sum_by f ls ≡ sum_by f ms
  sum-same f same = sym (sums-in f (by-call f same) ls) ∙ ap (sum_by f) e ∙ sums-in f (by-call f same) ms

  closed-same : (owner n : ℕ) → closed_after owner n false ls ≡ closed_after owner n false ms
  closed-same owner n = sym (closed-in owner n false ls) ∙ ap (closed_after owner n false) e ∙ closed-in owner n false ms

  pub counts-same : (c : Counts) → AreCounts c ls → AreCounts c ms
  counts-same c are = record {
    puts = λ n fits. are.puts n fits ∙ count-same (is_put_to n) (λ k a. refl);
    takes = λ n fits. are.takes n fits ∙ count-same (is_taken_from n) (λ k a. refl);
    sent = are.sent ∙ count-same is_sent_line (λ k a. refl);
    brought = are.brought ∙ count-same is_brought_line (λ k a. refl);
    lost = are.lost ∙ count-same is_lost_line (λ k a. refl);
  }

  pub deleted-same : (deletes : List Bool) (n : ℕ) → CountsDeleted deletes ls n → CountsDeleted deletes ms n
  deleted-same deletes n counts script is few =
      let same : sum_by (deleted_in script) ls ≡ sum_by (deleted_in script) ms = sum-same (deleted_in script) (λ k a. refl) in
      counts script is (subst (λ k. k < 2 ^ 64) (sym same) few) ∙ same

  sent-same : (owner n own : ℕ) → sent_in owner n own ls ≡ sent_in owner n own ms
  sent-same owner n own = ap (λ k. cond (own == owner) k 0) (count-same (is_item_put n) (λ k a. refl))

  brought-same : (owner n : ℕ) → brought_in owner n ls ≡ brought_in owner n ms
  brought-same owner n = count-same (is_item_taken owner n) (λ k a. refl)

  dropped-same : (owner n : ℕ) → dropped_in owner n ls ≡ dropped_in owner n ms
  dropped-same owner n = ap (λ k. k + closed_after owner n false ls) (count-same (is_item_lost owner n) (λ k a. refl)) ∙ ap (λ k. count_by (is_item_lost owner n) ms + k) (closed-same owner n)

  lines-same : (own : ℕ) (old new : ItemCounts) → CountsLines own ls old new → CountsLines own ms old new
  lines-same own old new h = record {
    owner = h.owner;
    places = h.places;
    counted = λ room.
        let adds = h.counted (record {
          sent = λ n within. subst (λ k. slice_index old.sent.items n + k < 2 ^ 64) (sym (sent-same old.owner n own)) (room.sent n within);
          brought = λ n within. subst (λ k. slice_index old.brought.items n + k < 2 ^ 64) (sym (brought-same old.owner n)) (room.brought n within);
          dropped = λ n within. subst (λ k. slice_index old.dropped.items n + k < 2 ^ 64) (sym (dropped-same old.owner n)) (room.dropped n within);
        }) in
        record {
          sent = λ n within. adds.sent n within ∙ ap (λ k. slice_index old.sent.items n + k) (sent-same old.owner n own);
          brought = λ n within. adds.brought n within ∙ ap (λ k. slice_index old.brought.items n + k) (brought-same old.owner n);
          dropped = λ n within. adds.dropped n within ∙ ap (λ k. slice_index old.dropped.items n + k) (dropped-same old.owner n);
        };
  }

  pub items-same : (own : ℕ) (old new : List ItemCounts) → EachWith (CountsLines own ls) old new → EachWith (CountsLines own ms) old new
  items-same own old new = each-is (CountsLines own ls) (CountsLines own ms) (λ x y. lines-same own x y) old new
