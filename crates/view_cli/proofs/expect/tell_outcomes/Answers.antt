use Rattle.view_cli.proofs.Showing.{few_done, shows_after, shows_nothing}
use Rattle.view_cli.proofs.expect.tell_outcomes.Goals as goal

pub returns-clause-shows : goal.returns-clause-shows
returns-clause-shows g c =
    let done = few_done _ c.status_of.result c.status_of.ensures in
    shows_after g.K.Sink _ _ c.write_outcomes.result c.status_of.result c.after_write.result (record { text = _; bytes = c.write_outcomes.ensures.bytes; cause = c.write_outcomes.ensures.cause }) c.after_write.ensures.whole c.after_write.ensures.failed done.0 done.1

pub returns-in_default-clause-shows : goal.returns-in_default-clause-shows
returns-in_default-clause-shows g c = shows_nothing g.K.Sink _
