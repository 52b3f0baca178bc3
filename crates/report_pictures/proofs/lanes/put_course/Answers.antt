use Rattle.std.proofs.Common.{refl}
use Rattle.picture_text.specs.Markup.{line_shown, markup}
use Rattle.report_pictures.specs.Lanes.{line_on}
use Rattle.report_pictures.proofs.PieceLoops.{pieces_each}
use Rattle.report_pictures.proofs.lanes.put_course.Goals as goal

pub loop-event-preserved : goal.loop-event-preserved
loop-event-preserved g c =
    pieces_each markup line_shown g.K.Sink _ _ _ (line_on c.args.band.lane) c.args.subject.events.now c.loop-event.event-index _ _ c.loop-event-test.true refl c.loop-event.invariant c.put_event.ensures
