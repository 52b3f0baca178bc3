use Rattle.std.proofs.Common.{[]}
use Rattle.picture_text.specs.Markup.{PutsElements}
use Rattle.report_sequence.proofs.sheet.put_domains.Given as goal

abbrev pub invariant-loop-domain : goal.invariant-loop-domain
invariant-loop-domain g l = PutsElements g.K.Sink l.initial.out l.out []
