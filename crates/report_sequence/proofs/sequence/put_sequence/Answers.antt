use Rattle.std.proofs.Common.{[]}
use Rattle.picture_text.specs.Markup.{line_shown, markup}
use Rattle.picture_text.proofs.PieceSteps.{pieces_then}
use Rattle.report_pictures.proofs.PieceLoops.{picture_put}
use Rattle.report_sequence.proofs.sequence.put_sequence.Goals as goal

pub returns : goal.returns
returns g c =
    let under = pieces_then markup line_shown g.K.Sink _ _ _ [] _ c.put_under.ensures c.put_events.ensures in
    let domains = pieces_then markup line_shown g.K.Sink _ _ _ [] _ c.put_domains.ensures under in
    let heading = pieces_then markup line_shown g.K.Sink _ _ _ [] _ c.put_heading.ensures domains in
    let picture = picture_put g.K.Sink _ _ _ _ _ _ _ c.put_head.ensures (pieces_then markup line_shown g.K.Sink _ _ _ [] _ c.put_page.ensures heading) c.put_end.ensures in
    rw c.new-sheet.ensures.plan at picture
