use Rattle.std.proofs.Common.{rules}
use Rattle.board_numbers.proofs.CountLemmas.{counts-more}
use Rattle.board_numbers.proofs.counts.Counts.count_entry.Goals as goal

pub returns-in-Put : goal.returns-in-Put
returns-in-Put c = counts-more _ _ _ (search rules)

pub returns-after-is_drop : goal.returns-after-is_drop
returns-after-is_drop c = counts-more _ _ _ (search rules)
