use Rattle.std.proofs.Common.{◌≡◌, ap, sym, ◌∙◌}
use Rattle.std.specs.Prelude.{slice_get, unwrap_or}
use Rattle.mc_base.specs.declared.name.Local.{Local}
use Rattle.board_model.specs.Answer.{address_of, here, local, success_puts}
use Rattle.board_model.specs.State.{address_at}
use Rattle.report_replay.specs.PlainCalls.{plain_call}
use Rattle.report_replay.specs.Puts.{way}
use Rattle.report_replay.proofs.PutFrames.{send-puts}
use Rattle.report_replay.proofs.state.State.put_item.Goals as goal

pub returns-in-Send-clause-frame : goal.returns-in-Send-clause-frame
returns-in-Send-clause-frame c =
    let s = c.args.self.now in
    let to = c.in-Send.to in
    let at : c.here-here.result ≡ local c.args.node c.in-Send.port = c.here-here.ensures ∙ ap (λ k. here c.args.node (plain_call k)) c.in-Send.is in
    c.put_item.ensures.frame
    ∙ send-puts s c.args.node c.in-Send.port to c.in-Send.priority c.in-Send.bytes.now c.way_to.result c.args.n
    (c.way_to.ensures ∙ ap (λ (h : Local). way to.domain (unwrap_or (address_at s h) 0) (unwrap_or (address_of s to) 0)) at)
    ∙ ap (λ k. slice_get (success_puts s c.args.node (plain_call k)) c.args.n) (sym c.in-Send.is)
