use Rattle.std.proofs.Common.{◌≡◌, length, map}
use Rattle.board_model.specs.FileLines.{parts_at}
use Rattle.board_model.specs.Forms.{request_label}
use Rattle.board_model.specs.LineReasons.{names_wrong_label}
use Rattle.scenario_lang.proofs.above.Above.is_group_named_wrong.Given as goal

abbrev pub invariant-loop-label : goal.invariant-loop-label
invariant-loop-label l = names_wrong_label l.self.told l.domain (map request_label (parts_at 44 l.word)) ≡ names_wrong_label l.self.told l.domain (map request_label (parts_at 44 l.rest))

abbrev pub decreases-loop-label : goal.decreases-loop-label
decreases-loop-label l = length (parts_at 44 l.rest)
