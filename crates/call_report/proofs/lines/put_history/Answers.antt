use Rattle.std.proofs.Common.{◌≡◌, ◌<◌, length, Some, slice_get, arith, sym, ◌∙◌}
use Rattle.std.proofs.lemmas.Option.{get_or_from_slice_get, slice_get_within}
use Rattle.outer_io.proofs.Writing.{puts_item, puts_nothing}
use Rattle.call_report.specs.CallsText.{carried_line}
use Rattle.call_report.proofs.ListLemmas.{some_at}
use Rattle.call_report.proofs.lines.put_history.Goals as goal

pub loop-at-init : goal.loop-at-init
loop-at-init g c = puts_nothing g.K.Sink c.args.out.now

pub unwrap-requires : goal.unwrap-requires
unwrap-requires g c =
    let within : c.loop-at.at < length c.args.service.now.history = omega (arith, c.loop-at-test.true, c.loop-at.auto.at-end, c.len-at-end.ensures) in
    some_at c.args.service.now.history c.loop-at.at c.entry.result c.entry.ensures within

pub loop-at-preserved : goal.loop-at-preserved
loop-at-preserved g c =
    let h = c.args.service.now.history in
    let call = c.unwrap.result in
    let here : slice_get h c.loop-at.at ≡ Some call = sym c.entry.ensures ∙ c.unwrap.ensures in
    puts_item g.K.Sink _ _ _ carried_line h c.loop-at.at call call (slice_get_within h c.loop-at.at call here) (sym (get_or_from_slice_get h c.loop-at.at call call here)) c.loop-at.invariant c.put_call.ensures
