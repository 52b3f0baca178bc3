use Rattle.std.proofs.Common.{[]}
use Rattle.picture_text.specs.Markup.{line_shown, markup}
use Rattle.picture_text.proofs.PieceSteps.{pieces_then}
use Rattle.report_pictures.proofs.PieceLoops.{pieces_end}
use Rattle.report_pictures.proofs.lanes.put_band.Goals as goal

pub returns : goal.returns
returns g c =
    let course = pieces_then markup line_shown g.K.Sink _ _ _ [] _ c.put_name.ensures c.put_course.ensures in
    let span = pieces_end markup line_shown g.K.Sink _ _ _ _ course c.put_span.ensures in
    let frame = pieces_end markup line_shown g.K.Sink _ _ _ _ span c.put_rect.ensures in
    pieces_end markup line_shown g.K.Sink _ _ _ _ frame c.put_ends.ensures
