use Rattle.std.proofs.Common.{rules}
use Rattle.board_model.specs.Grammar.{canonical}
use Rattle.outer_io.proofs.Finishing.{finished, puts_same}
use Rattle.scenario_lang.proofs.writing.write_scenario.Goals as goal

pub returns-in-Ok : goal.returns-in-Ok
returns-in-Ok c =
    let written = finished _ c.new-out.result c.put_scenario.new.out _ c.finish.result (canonical c.args.scenario.now) c.new-out.ensures.sound c.new-out.ensures.empty c.put_scenario.ensures c.finish.ensures in
    let bytes = rw (c.in-Ok.is, c.new-out.ensures.sink, c.new.ensures.items) at written.bytes in
    let same = puts_same _ _ _ _ c.put_scenario.ensures in
    search rules
