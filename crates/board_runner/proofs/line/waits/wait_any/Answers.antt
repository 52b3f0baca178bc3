use Rattle.std.proofs.Common.{Some, true}
use Rattle.domain_core.specs.DomainView.{packet_lent_as}
use Rattle.board_runner.proofs.WaitLemmas.{ends-with, any-without}
use Rattle.board_runner.proofs.line.waits.wait_any.Goals as goal

pub returns-in-Ok : goal.returns-in-Ok
returns-in-Ok c =
    let made = c.ended_with.ensures in
    ends-with c.args.number c.args.limit c.args.ids.now.items true c.args.domain.now c.wait_any.new.self c.args.journal.now.lines c.wait_any.new.journal.lines (Some c.in-Ok.place) c.in-Ok.done c.wait_any.new.out c.ended_with.result
    c.in-Ok.ensures.wait c.in-Ok.ensures.lent made.answer made.given made.lent made.bytes_fit

pub returns-in-Err : goal.returns-in-Err
returns-in-Err c =
    any-without c.args.number c.args.limit c.args.ids.now.items true c.args.domain.now c.wait_any.new.self c.args.journal.now.lines c.wait_any.new.journal.lines c.in-Err.fault c.wait_any.new.out (packet_lent_as c.wait_any.new.self) c.not_ended.result
    c.in-Err.ensures.wait c.not_ended.ensures
