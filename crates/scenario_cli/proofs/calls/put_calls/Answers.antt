use Rattle.std.proofs.Common.{length, ap, arith, refl, subst, sym, ◌∙◌}
use Rattle.std.proofs.lemmas.Option.{slice_get_read}
use Rattle.outer_io.specs.Puts.{Puts}
use Rattle.call_report.specs.CallsText.{calls_text}
use Rattle.call_report.proofs.GotsText.{puts_calls}
use Rattle.scenario_cli.specs.ActorLines.{gots_at, history_held, service_held}
use Rattle.scenario_cli.proofs.calls.put_calls.Goals as goal

pub returns : goal.returns
returns g c =
    let actors = c.args.actors.now in
    let first = slice_get_read actors (length actors) 0 c.index-actors-0.result refl (omega (arith, c.requires.counted)) c.index-actors-0.is in
    let server = rw c.unwrap-service.ensures at c.service.ensures in
    let history = ap history_held (server ∙ sym (ap service_held first)) in
    subst (λ h. Puts g.K.Sink c.args.out.now c.put_cells.new.out (calls_text c.args.clients h (gots_at actors))) history
    (puts_calls g.K.Sink _ _ _ _ c.args.clients _ (gots_at actors) c.put_carried.ensures c.put_each_gots.ensures c.put_cells.ensures)
