-- One more line of a journal is counted.
use Rattle.std.proofs.Common.{◌≡◌, ℕ, ◌+◌, ◌<◌, min, Bool, List, [], ◌∷◌, ◌++◌, length, map, None, Option, refl, sym, ap, ◌∙◌, arith, append_assoc, append-nil, sum_by}
use Rattle.std.proofs.Math.ListN.{length-append}
use Rattle.std.proofs.lemmas.List.{map-append}
use Rattle.std.proofs.lemmas.List.Sums.{sum_by-append, sum_by-cons}
use Rattle.board_model.specs.declared.scenario.CallLine.{CallLine}
use Rattle.board_model.specs.Journal.{Line}
use Rattle.board_model.specs.Tallies.{deleted_in, is_delete}
use Rattle.board_numbers.specs.declared.counts.Counts.{Counts}
use Rattle.board_numbers.specs.declared.items.ChannelKey.{ChannelKey}
use Rattle.board_numbers.specs.declared.items.ItemCounts.{ItemCounts}
use Rattle.board_numbers.specs.Counts.{AreCounts}
use Rattle.board_numbers.specs.ItemCounts.{ClosesLast, CountsLines, EachWith}
use Rattle.board_numbers.proofs.EachLemmas.{each-same}
use Rattle.board_numbers.proofs.ItemCountLemmas.{lines-none}
use Rattle.report_text.specs.CountedLines.{counted_line, lines_counted}
use Rattle.report_totals.specs.Counting.{HasCounted}

pub none-counted : (own : ℕ) (deletes : List Bool) (text : List ℕ) (all : List ItemCounts) (c : Counts) → AreCounts c [] → HasCounted own deletes text text all all c 0 None
none-counted own deletes text all c are = record {
  lines = [];
  told = refl;
  few = omega arith;
  counted = are;
  items = each-same (CountsLines own []) (lines-none own) all;
  closes = λ owner n. refl;
  dropped = λ script is few. refl;
}

pub one-counted : (own : ℕ) (deletes : List Bool) (text rest after : List ℕ) (begun old new : List ItemCounts) (c d : Counts) (deleted more total : ℕ) (closing next : Option ChannelKey) (l : Line)
    → HasCounted own deletes text rest begun old c deleted closing → lines_counted rest ≡ counted_line l ∷ lines_counted after → length after < length rest
    → ((lines : List Line) → AreCounts c lines → AreCounts d (lines ++ l ∷ []))
    → ((script : List CallLine) → deletes ≡ map (λ c. is_delete c.call) script → more ≡ deleted_in script l) → total ≡ min 18446744073709551615 (deleted + more)
    → ((lines : List Line) (first : List ItemCounts) → ClosesLast lines closing → EachWith (CountsLines own lines) first old → EachWith (CountsLines own (lines ++ l ∷ [])) first new)
    → ((lines : List Line) → ClosesLast (lines ++ l ∷ []) next)
    → HasCounted own deletes text after begun new d total next
one-counted own deletes text rest after begun old new c d deleted more total closing next l h front shorter counts drops adds items closes =
    let done : List Line = h.lines in
    record {
      lines = done ++ l ∷ [];
      told =
          h.told ∙ ap (λ (ls : List Line). map counted_line done ++ ls) front
          ∙ sym (append_assoc (map counted_line done) (counted_line l ∷ []) (lines_counted after))
          ∙ ap (λ (ls : List Line). ls ++ lines_counted after) (sym (map-append counted_line done (l ∷ [])));
      few = let few = h.few in omega (arith, few, shorter, length-append done (l ∷ []));
      counted = counts done h.counted;
      items = items done begun h.closes h.items;
      closes = closes done;
      dropped = λ script is small.
          let sums : sum_by (deleted_in script) (done ++ l ∷ []) ≡ sum_by (deleted_in script) done + deleted_in script l = omega (arith, sum_by-append (deleted_in script) done (l ∷ []), sum_by-cons (deleted_in script) l []) in
          let before : deleted ≡ sum_by (deleted_in script) done = h.dropped script is (omega (arith, sums, small)) in
          omega (arith, sums, before, adds, small, drops script is);
    }

-- where no line is left
pub all-counted : (own : ℕ) (deletes : List Bool) (text rest : List ℕ) (begun all : List ItemCounts) (c : Counts) (deleted : ℕ) (closing : Option ChannelKey) (h : HasCounted own deletes text rest begun all c deleted closing) → lines_counted rest ≡ [] → (lines : List Line) → map counted_line lines ≡ lines_counted text → map counted_line h.lines ≡ map counted_line lines
all-counted own deletes text rest begun all c deleted closing h none lines is = sym (append-nil (map counted_line h.lines)) ∙ ap (λ (ls : List Line). map counted_line h.lines ++ ls) (sym none) ∙ sym h.told ∙ sym is
