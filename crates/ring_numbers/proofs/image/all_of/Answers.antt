use Rattle.std.proofs.Common.{rules, arith, ◌≡◌, ℕ, ◌+◌, ◌++◌, ◌∷◌, []}
use Rattle.std.proofs.lemmas.List.FromFn.{map-range_with_len_more}
use Rattle.mc_base.specs.Limits.{buffer_size}
use Rattle.ring_numbers.specs.RingLists.{all_with}
use Rattle.ring_numbers.proofs.image.all_of.Goals as goal

pub loop-number-preserved : goal.loop-number-preserved
loop-number-preserved c =
    let more : all_with buffer_size (c.loop-number.number + 1) ≡ all_with buffer_size c.loop-number.number ++ (c.loop-number.number, buffer_size) ∷ [] = map-range_with_len_more (λ (n : ℕ). (n, buffer_size)) 0 c.loop-number.number c.loop-number.number (omega arith) in
    (search rules, search rules)
