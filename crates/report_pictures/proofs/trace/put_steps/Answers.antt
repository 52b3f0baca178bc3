use Rattle.std.proofs.Common.{refl, rules}
use Rattle.picture_text.specs.Objects.{line_of_object, object_text}
use Rattle.report_pictures.proofs.PieceLoops.{pieces_more}
use Rattle.report_pictures.proofs.trace.put_steps.Goals as goal

pub loop-event-preserved : goal.loop-event-preserved
loop-event-preserved g c = record {
  puts = pieces_more object_text line_of_object g.K.Sink _ _ _ (λ e. e.line) c.args.subject.events.now c.loop-event.event-index _ _ c.loop-event-test.true refl c.loop-event.invariant.puts c.put_step.ensures;
  fits = search rules;
}
