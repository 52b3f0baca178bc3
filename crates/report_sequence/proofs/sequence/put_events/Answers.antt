use Rattle.std.proofs.Common.{refl, rules}
use Rattle.picture_text.specs.Markup.{line_shown, markup}
use Rattle.report_pictures.proofs.PieceLoops.{pieces_each}
use Rattle.report_sequence.specs.Shown.{line_drawn}
use Rattle.report_sequence.proofs.sequence.put_events.Goals as goal

pub loop-event-preserved : goal.loop-event-preserved
loop-event-preserved g c = record {
  puts = pieces_each markup line_shown g.K.Sink _ _ _ line_drawn c.args.sheet.now.plan.now.events.now c.loop-event.event-index _ _ c.loop-event-test.true refl c.loop-event.invariant.puts c.put_event.ensures;
  fits = search rules;
}
