use Rattle.std.proofs.Common.{◌≡◌, ◌≤◌, ◌-◌, true, length, take, not}
use Rattle.std.specs.List.{list_all}
use Rattle.board_model.specs.FileLines.{is_blank}
use Rattle.scenario_lang.proofs.lines.word_length.Given as goal

abbrev pub invariant-loop-count : goal.invariant-loop-count
invariant-loop-count l = record {
  front : list_all (λ b. not (is_blank b)) (take l.count l.text) ≡ true;
  within : l.count ≤ length l.text;
}

abbrev pub decreases-loop-count : goal.decreases-loop-count
decreases-loop-count l = length l.text - l.count
