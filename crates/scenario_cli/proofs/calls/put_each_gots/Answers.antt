use Rattle.std.proofs.Common.{◌+◌, length, ap, arith, refl, subst, sym, ◌∙◌}
use Rattle.std.specs.List.{flat_map}
use Rattle.std.proofs.lemmas.Option.{slice_get_read}
use Rattle.outer_io.specs.Puts.{Puts}
use Rattle.outer_io.proofs.Writing.{puts_nothing}
use Rattle.call_report.specs.CallsText.{got_line}
use Rattle.call_report.proofs.GotsText.{puts_client}
use Rattle.scenario_cli.specs.ActorLines.{gots_at, gots_held}
use Rattle.scenario_cli.proofs.calls.put_each_gots.Goals as goal

pub loop-before-init : goal.loop-before-init
loop-before-init g c = puts_nothing g.K.Sink c.args.out.now

pub loop-before-preserved : goal.loop-before-preserved
loop-before-preserved g c =
    let actors = c.args.actors.now in
    let client = c.loop-before.before + 1 in
    let there = slice_get_read actors (length actors) client c.index-actors-client.result refl (omega (arith, c.loop-before-test.true, c.requires.counted)) c.index-actors-client.is in
    let got = c.gots.ensures ∙ sym (ap gots_held there) in
    puts_client g.K.Sink _ _ _ c.loop-before.before (gots_at actors) c.loop-before.invariant
    (subst (λ gots. Puts g.K.Sink c.loop-before.out c.put_gots.new.out (flat_map (got_line client) gots)) got c.put_gots.ensures)
