use Rattle.std.proofs.Common.{sym, subst}
use Rattle.board_model.specs.State.{one_waits}
use Rattle.report_replay.specs.Ends.{kept}
use Rattle.report_replay.specs.Verdicts.{Keeps}
use Rattle.report_replay.proofs.Letters.{keeps}
use Rattle.report_replay.proofs.state.State.keep.Goals as goal

pub returns : goal.returns
returns c = λ peer known item.
    subst (λ b. Keeps c.args.at b item (kept c.args.self.now c.args.at c.args.local item)) (sym c.one_waits.ensures) (keeps c.args.at item (one_waits c.args.self.now c.args.local))
