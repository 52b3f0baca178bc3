use Rattle.std.proofs.Common.{sym, ◌∙◌}
use Rattle.board_model.proofs.UnnamedCounts.{queue-unnamed-on}
use Rattle.report_totals.proofs.ended_journal.EndedJournalEndedDomain.queued.Goals as goal

pub returns : goal.returns
returns c = c.queued.ensures ∙ sym (queue-unnamed-on c.args.owner c.args.number c.args.self.now.state.now)
