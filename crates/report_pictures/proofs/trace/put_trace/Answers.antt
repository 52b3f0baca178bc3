use Rattle.std.proofs.Common.{[]}
use Rattle.picture_text.specs.Objects.{line_of_object, object_text}
use Rattle.picture_text.proofs.PieceSteps.{pieces_then}
use Rattle.report_pictures.proofs.PieceLoops.{trace_put}
use Rattle.report_pictures.proofs.trace.put_trace.Goals as goal

pub returns : goal.returns
returns g c =
    trace_put g.K.Sink _ _ _ _ _ c.put_trace_head.ensures
    (pieces_then object_text line_of_object g.K.Sink _ _ _ [] _ c.put_tracks.ensures c.put_steps.ensures) c.put_trace_end.ensures
