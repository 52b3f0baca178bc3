-- A text has no more lines than bytes.
use Rattle.std.proofs.Common.{ℕ, ◌+◌, ◌≤◌, ◌&&◌, cond, List, [], ◌∷◌, length, arith}
use Rattle.std.specs.Prelude.{◌==◌}
use Rattle.std.proofs.lemmas.Bool.{cond_both}
use Rattle.board_model.specs.FileLines.{onto_first, begins_with, lines_of}

onto_few : (b : ℕ) (ws : List (List ℕ)) → length (onto_first b ws) ≤ length ws + 1
onto_few b [] = omega arith
onto_few b (w ∷ ws) = omega arith

pub lines_few : (bs : List ℕ) → length (lines_of bs) ≤ length bs
lines_few [] = omega arith
lines_few (b ∷ bs) =
    cond_both (b == 10) ([] ∷ lines_of bs) (cond ((b == 13) && begins_with 10 bs) (lines_of bs) (onto_first b (lines_of bs))) (λ ls. length ls ≤ length (b ∷ bs)) (λ e. omega (arith, lines_few bs))
    (λ e. cond_both ((b == 13) && begins_with 10 bs) (lines_of bs) (onto_first b (lines_of bs)) (λ ls. length ls ≤ length (b ∷ bs)) (λ f. omega (arith, lines_few bs)) (λ f. omega (arith, lines_few bs, onto_few b (lines_of bs))))
