use Rattle.std.proofs.Common.{rules}
use Rattle.outer_io.proofs.Finishing.{puts_same}
use Rattle.report_pictures.specs.Traces.{PutsTrace}
use Rattle.view_cli.specs.Drawn.{traced}
use Rattle.view_cli.proofs.PicturesWritten.{picture_written}
use Rattle.view_cli.proofs.pictures.write_trace.Goals as goal

pub returns : goal.returns
unfolding PutsTrace
returns g c =
    let put = c.put_trace.ensures in
    let written = picture_written g.K.Sink traced _ c.new-out.result c.put_trace.new.out _ c.finish.result put.0 c.new-out.ensures.sound c.new-out.ensures.empty put.1 put.2 c.finish.ensures in
    let all = rw c.new-out.ensures.sink at written in
    let same = puts_same g.K.Sink _ _ _ put.2 in
    search rules
