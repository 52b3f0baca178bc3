use Rattle.view_cli.proofs.Showing.{few_done, lists_after, shows_after, shows_nothing}
use Rattle.view_cli.proofs.refused.tell_refused.Goals as goal

pub returns-clause-shows : goal.returns-clause-shows
returns-clause-shows g c =
    let done = few_done _ c.status_of.result c.status_of.ensures in
    shows_after g.K.Sink _ _ c.write_calls.result c.status_of.result c.after_write.result (record { text = _; bytes = c.write_calls.ensures.bytes; cause = c.write_calls.ensures.cause }) c.after_write.ensures.whole c.after_write.ensures.failed done.0 done.1

pub returns-clause-lists : goal.returns-clause-lists
returns-clause-lists g c =
    let all = rw c.deref.ensures.value at c.in-Ok.ensures in
    let bytes = rw c.deref-2.ensures.value at c.write_calls.ensures.bytes in
    let done = rw c.deref-3.ensures.value at c.status_of.ensures in
    lists_after g.K.Sink _ _ c.write_calls.result c.args.view.now.domains.items c.in-Ok.calls.items c.status_of.result c.after_write.result bytes all done c.after_write.ensures.whole c.after_write.ensures.failed

pub returns-in_default-clause-shows : goal.returns-in_default-clause-shows
returns-in_default-clause-shows g c = shows_nothing g.K.Sink _
