use Rattle.std.proofs.Common.{[]}
use Rattle.picture_text.specs.Markup.{PutsElements}
use Rattle.report_sequence.proofs.sequence.put_under.Given as goal

abbrev pub invariant-loop-event : goal.invariant-loop-event
invariant-loop-event g l = PutsElements g.K.Sink l.initial.out l.out []
