use Rattle.std.proofs.Common.{length}
use Rattle.report_view.specs.Texts.{PutsText}
use Rattle.view_text.proofs.missing.put_queued.Given as goal

abbrev pub invariant-loop-rest : goal.invariant-loop-rest
invariant-loop-rest g l = PutsText g.K.Sink l.initial.out l.out

abbrev pub decreases-loop-rest : goal.decreases-loop-rest
decreases-loop-rest g l = length l.rest
