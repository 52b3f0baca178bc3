use Rattle.outer_io.proofs.Writing.{puts_nothing, puts_item}
use Rattle.board_model.specs.Grammar.{call_text}
use Rattle.scenario_lang.proofs.canonical.put_calls.Goals as goal

pub loop-line-init : goal.loop-line-init
loop-line-init g c = puts_nothing g.K.Sink c.args.out.now

pub loop-line-preserved : goal.loop-line-preserved
loop-line-preserved g c =
    puts_item g.K.Sink _ _ _ call_text c.args.calls.now c.loop-line.line-index c.line-item.result c.line-item.result c.loop-line-test.true c.line-item.is c.loop-line.invariant c.put_call_line.ensures
