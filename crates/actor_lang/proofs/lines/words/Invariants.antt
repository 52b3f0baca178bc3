use Rattle.std.proofs.Common.{◌≡◌, ◌≤◌, ◌++◌, true, length}
use Rattle.std.specs.List.{list_all}
use Rattle.board_model.specs.FileLines.{parts_at}
use Rattle.actor_lang.specs.InputLines.{is_word}
use Rattle.actor_lang.specs.Parts.{seen, parts_left, bytes_left}
use Rattle.actor_lang.proofs.lines.words.Given as goal

abbrev pub invariant-loop-rest : goal.invariant-loop-rest
invariant-loop-rest l = record {
  parts : seen l.words.items ++ parts_left 32 l.rest ≡ parts_at 32 l.line;
  all : list_all is_word (seen l.words.items) ≡ true;
  few : length l.words.items ≤ 6;
}

abbrev pub decreases-loop-rest : goal.decreases-loop-rest
decreases-loop-rest l = bytes_left l.rest
