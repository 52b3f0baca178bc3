use Rattle.std.proofs.Common.{refl}
use Rattle.board_runner.proofs.LineLemmas.{makes_call}
use Rattle.board_runner.proofs.line.call_line.Goals as goal

pub returns : goal.returns
returns c = makes_call c.args.line.now c.args.station.now _ c.call_domain.result refl refl refl refl refl c.call_domain.ensures.call c.call_domain.ensures.drops
