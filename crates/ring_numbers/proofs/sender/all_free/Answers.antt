use Rattle.std.proofs.Common.{rules, ◌≡◌, ◌++◌, ◌∷◌, [], ◌+◌}
use Rattle.std.specs.List.{range_with_len}
use Rattle.ring_numbers.proofs.BuffersBack.{range-more}
use Rattle.ring_numbers.proofs.sender.all_free.Goals as goal

pub loop-number-preserved : goal.loop-number-preserved
loop-number-preserved c =
    let more : range_with_len 0 (c.loop-number.number + 1) ≡ range_with_len 0 c.loop-number.number ++ (0 + c.loop-number.number) ∷ [] = range-more 0 c.loop-number.number in
    search (rules, more)
