use Rattle.std.proofs.Common.{arith}
use Rattle.memchr.specs.Find.{is_byte}
use Rattle.board_model.proofs.WordSearch.{none_passes}
use Rattle.report_text.proofs.lines.place_of.Goals as goal

pub returns-in-Some-clause-front : goal.returns-in-Some-clause-front
returns-in-Some-clause-front c =
    let found = c.in-Some.ensures in
    none_passes (is_byte c.args.stop) c.args.text.now c.in-Some.at (omega (arith, found.0.high)) found.0.before

pub returns-in-None-clause-front : goal.returns-in-None-clause-front
returns-in-None-clause-front c = none_passes (is_byte c.args.stop) c.args.text.now _ (omega arith) c.in-None.ensures
