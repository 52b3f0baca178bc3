use Rattle.report_view.specs.Texts.{PutsText}
use Rattle.view_text.proofs.text.put_events.Given as goal

abbrev pub invariant-loop-event : goal.invariant-loop-event
invariant-loop-event g l = PutsText g.K.Sink l.initial.out l.out
