use Rattle.std.proofs.Common.{◌≡◌, drop}
use Rattle.board_model.specs.Forms.{callees, callee_among, callee_of}
use Rattle.scenario_lang.proofs.table.callee_of.Given as goal

abbrev pub invariant-loop-callee : goal.invariant-loop-callee
invariant-loop-callee l = callee_among (drop l.callee-index callees) l.word ≡ callee_of l.word
