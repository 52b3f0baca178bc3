use Rattle.board_runner.proofs.FinishingLemmas.{taken-out, link-is-run}
use Rattle.board_runner.proofs.finishing.finish_link.Goals as goal

pub returns-clause-finished : goal.returns-clause-finished
returns-clause-finished c moves ran =
    let taken = taken-out c.args.line c.args.ended.now.items c.take_ended.new.ended.items c.take_ended-2.new.ended.items c.in-Some.there c.in-Some-take_ended.back c.requires.apart c.in-Some.ensures.taken c.in-Some.ensures.others c.in-Some-take_ended.ensures.taken c.in-Some-take_ended.ensures.others in
    link-is-run moves c.args.line c.args.rings c.args.ended.now.items c.take_ended.new.ended.items c.take_ended-2.new.ended.items c.in-Some.there c.in-Some-take_ended.back taken ran c.queue_1_returns_are_empty.ensures c.finish_lane-zero.result c.finish_lane-one.result c.finish_lane-zero.ensures.finished c.finish_lane-zero.ensures.run c.finish_lane-one.ensures.finished c.finish_lane-one.ensures.run
