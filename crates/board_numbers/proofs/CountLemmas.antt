-- Counting the lines of a journal one by one.
use Rattle.std.proofs.Common.{◌≡◌, ℕ, zero, suc, ◌+◌, ◌≤◌, ◌<◌, ◌^◌, Bool, true, false, List, [], ◌∷◌, ◌++◌, length, take, Some, sym, ap, ◌∙◌, arith, add-one, count_by}
use Rattle.std.specs.Prelude.{slice_get, slice_index}
use Rattle.board_model.specs.Journal.{Line}
use Rattle.board_model.specs.Tallies.{is_put_to, is_taken_from, is_sent_line, is_brought_line, is_lost_line}
use Rattle.board_model.proofs.ListsCounts.{count-append, count-cons}
use Rattle.board_numbers.specs.declared.counts.Counts.{Counts}
use Rattle.board_numbers.specs.Counts.{one_if, AreCounts, HaveRoom}

-- one line more
pub count-last : (p : Line → Bool) (lines : List Line) (l : Line) → count_by p (lines ++ l ∷ []) ≡ count_by p lines + one_if (p l)
count-last p lines l = omega (arith, count-append p lines (l ∷ []), count-cons p l [])

take_next : {A : Type 0} (xs : List A) (i : ℕ) (x : A) → Some x ≡ slice_get xs i → take (suc i) xs ≡ take i xs ++ x ∷ []
take_next [] i x at = absurd cc
take_next (y ∷ ys) zero x at = let same : x ≡ y = cc in ap (λ z. z ∷ []) (sym same)
take_next (y ∷ ys) (suc i) x at = ap (λ zs. y ∷ zs) (take_next ys i x at)

pub take-more : {A : Type 0} (xs : List A) (i : ℕ) (x : A) → Some x ≡ slice_get xs i → take (i + 1) xs ≡ take i xs ++ x ∷ []
take-more xs i x at = ap (λ k. take k xs) (add-one i) ∙ take_next xs i x at

-- a line was counted
pub record Counted (l : Line) (old new : Counts) : Type 0 where
  pub puts : (n : ℕ) → n < 8 → slice_index new.puts n ≡ slice_index old.puts n + one_if (is_put_to n l)
  pub takes : (n : ℕ) → n < 8 → slice_index new.takes n ≡ slice_index old.takes n + one_if (is_taken_from n l)
  pub sent : new.sent ≡ old.sent + one_if (is_sent_line l)
  pub brought : new.brought ≡ old.brought + one_if (is_brought_line l)
  pub lost : new.lost ≡ old.lost + one_if (is_lost_line l)

pub counts-more : (l : Line) (old new : Counts) → Counted l old new → (lines : List Line) → AreCounts old lines → AreCounts new (lines ++ l ∷ [])
counts-more l old new more lines are = record {
  puts = λ n fits. omega (arith, more.puts n fits, are.puts n fits, count-last (is_put_to n) lines l);
  takes = λ n fits. omega (arith, more.takes n fits, are.takes n fits, count-last (is_taken_from n) lines l);
  sent = omega (arith, more.sent, are.sent, count-last is_sent_line lines l);
  brought = omega (arith, more.brought, are.brought, count-last is_brought_line lines l);
  lost = omega (arith, more.lost, are.lost, count-last is_lost_line lines l);
}

-- no more is counted than there are lines
count_few : (p : Line → Bool) (lines : List Line) → count_by p lines ≤ length lines
count_few p [] = omega arith
count_few p (l ∷ lines) = omega (arith, count-cons p l lines, few (p l), count_few p lines)
  where
    few : (b : Bool) → one_if b ≤ 1
    few true = omega arith
    few false = omega arith

pub counts-room : (c : Counts) (lines : List Line) → AreCounts c lines → length lines + 1 < 2 ^ 64 → HaveRoom c
counts-room c lines are small = record {
  puts = λ n fits. omega (arith, small, are.puts n fits, count_few (is_put_to n) lines);
  takes = λ n fits. omega (arith, small, are.takes n fits, count_few (is_taken_from n) lines);
  sent = omega (arith, small, are.sent, count_few is_sent_line lines);
  brought = omega (arith, small, are.brought, count_few is_brought_line lines);
  lost = omega (arith, small, are.lost, count_few is_lost_line lines);
}
