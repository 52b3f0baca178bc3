use Rattle.report_view.specs.Texts.{PutsText}
use Rattle.view_text.proofs.missing.put_requests.Given as goal

abbrev pub invariant-loop-line : goal.invariant-loop-line
invariant-loop-line g l = PutsText g.K.Sink l.initial.out l.out
