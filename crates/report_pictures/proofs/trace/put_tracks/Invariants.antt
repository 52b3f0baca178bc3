use Rattle.std.proofs.Common.{[]}
use Rattle.picture_text.specs.Objects.{PutsObjects}
use Rattle.report_pictures.proofs.trace.put_tracks.Given as goal

abbrev pub invariant-loop-domain : goal.invariant-loop-domain
invariant-loop-domain g l = PutsObjects g.K.Sink l.initial.out l.out []
