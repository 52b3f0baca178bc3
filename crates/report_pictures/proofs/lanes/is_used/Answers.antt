use Rattle.std.proofs.Common.{refl, sym, ◌∙◌}
use Rattle.report_pictures.proofs.LaneLists.{none_more}
use Rattle.report_pictures.proofs.lanes.is_used.Goals as goal

pub loop-event-preserved : goal.loop-event-preserved
loop-event-preserved c =
    none_more c.args.lane c.args.events.now c.loop-event.event-index _ _ c.loop-event-test.true refl (sym c.moves_on.ensures ∙ c.if-moves_on.false) c.loop-event.invariant
