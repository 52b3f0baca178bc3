-- Counts over the lines of a journal are counts over those of its entries, where no line that is joined is counted.
use Rattle.std.proofs.Common.{◌≡◌, ℕ, ◌+◌, Bool, cond, List, [], ◌∷◌, sum_by, flat_map, refl, ap, ◌∙◌, arith}
use Rattle.std.specs.Prelude.{count_by}
use Rattle.std.specs.List.{AllByRecursion}
use Rattle.std.proofs.lemmas.List.Sums.{sum_by-cons}
use Rattle.board_model.specs.Journal.{PlainEntry, Line, joined}
use Rattle.board_model.proofs.ListsJoined.{entry_lines, JoinsWeighNothing, sum-joined}
use Rattle.board_model.proofs.ListsCounts.{count-append}

module _ (test : Line → Bool) where
  -- what an entry's lines count
  abbrev told_by : PlainEntry → ℕ
  told_by e = count_by test (entry_lines e)

  told_sum : (es : List PlainEntry) → sum_by told_by es ≡ count_by test (flat_map entry_lines es)
  told_sum [] = refl
  told_sum (e ∷ es) = sum_by-cons told_by e es ∙ (ap (λ n. told_by e + n) (told_sum es) ∙ omega (arith, count-append test (entry_lines e) (flat_map entry_lines es)))

  agrees : (es : List PlainEntry) → AllByRecursion (λ e. told_by e ≡ sum_by (λ l. cond (test l) 1 0) (entry_lines e)) es
  agrees [] = tt
  agrees (e ∷ es) = (refl, agrees es)

  pub joined-count : JoinsWeighNothing (λ l. cond (test l) 1 0) → (es : List PlainEntry) → count_by test (joined es) ≡ count_by test (flat_map entry_lines es)
  joined-count joins es = sum-joined (λ l. cond (test l) 1 0) told_by joins es (agrees es) ∙ told_sum es
