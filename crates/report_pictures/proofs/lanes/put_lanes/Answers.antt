use Rattle.std.proofs.Common.{[]}
use Rattle.picture_text.specs.Markup.{line_shown, markup}
use Rattle.picture_text.proofs.PieceSteps.{pieces_then}
use Rattle.report_pictures.proofs.PieceLoops.{picture_put}
use Rattle.report_pictures.proofs.lanes.put_lanes.Goals as goal

pub returns : goal.returns
returns g c =
    picture_put g.K.Sink _ _ _ _ _ _ _ c.put_head.ensures
    (pieces_then markup line_shown g.K.Sink _ _ _ [] _ c.put_page.ensures (pieces_then markup line_shown g.K.Sink _ _ _ [] _ c.put_heading.ensures c.put_all.ensures))
    c.put_end.ensures
