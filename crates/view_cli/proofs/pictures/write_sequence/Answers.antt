use Rattle.std.proofs.Common.{◌≡◌, ℕ, List, ap, subst, rules}
use Rattle.event_order.specs.declared.event.Event.{Event}
use Rattle.outer_io.proofs.Finishing.{puts_same}
use Rattle.picture_text.specs.Markup.{IsPicture}
use Rattle.report_pictures.specs.Pictures.{PutsPicture}
use Rattle.report_sequence.specs.Shown.{lines_drawn}
use Rattle.view_cli.specs.Drawn.{sequenced}
use Rattle.view_cli.proofs.PicturesWritten.{picture_written}
use Rattle.view_cli.proofs.pictures.write_sequence.Goals as goal

pub returns : goal.returns
unfolding PutsPicture
returns g c = λ asked is.
    let put = c.put_sequence.ensures in
    let drawn : sequenced asked c.args.subject.events.now put.0 = subst (λ (es : List Event). IsPicture (lines_drawn es) put.0) is put.1 in
    let written = picture_written g.K.Sink (sequenced asked) _ c.new-out.result c.put_sequence.new.out _ c.finish.result put.0 c.new-out.ensures.sound c.new-out.ensures.empty drawn put.2 c.finish.ensures in
    let all = rw c.new-out.ensures.sink at written in
    let same = puts_same g.K.Sink _ _ _ put.2 in
    search rules
