use Rattle.std.proofs.Common.{Some, false}
use Rattle.report_check.proofs.NamedLemmas.{goes-nothing}
use Rattle.report_check.proofs.run.Run.waits.Goals as goal

pub returns-clause-run : goal.returns-clause-run
returns-clause-run g c k = record {
  at = record { labels = c.requires.0.labels; shows = λ i. record (c.requires.0.shows i) { waited = Some (record { turns = 0; done_before = false }) } };
  deeds = goes-nothing c.args.self.now.state;
}
