use Rattle.report_view.specs.Texts.{PutsText}
use Rattle.view_text.proofs.missing.put_peers.Given as goal

abbrev pub invariant-loop-peer : goal.invariant-loop-peer
invariant-loop-peer g l = PutsText g.K.Sink l.initial.out l.out
