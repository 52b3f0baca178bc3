use Rattle.std.proofs.Common.{◌≡◌, refl, arith, ap, sym, length, ◌∙◌, Some, None, subst}
use Rattle.std.specs.Prelude.{IfOk}
use Rattle.board_model.specs.DomainCall.{test_of}
use Rattle.mc_base.specs.declared.request.Done.{Done}
use Rattle.mc_base.specs.declared.request.Done.TheVariants as done
use borrow.Enum.Total.{values_d}
use Rattle.std.specs.contracts.result.Result as result_c
use Rattle.mc_base.specs.contracts.request.Done as done_c
use Rattle.mc_base.specs.contracts.refusal.Refusal as refusal_c
use Rattle.board_model.specs.Journal.{completes}
use Rattle.domain_core.specs.Calls.{LendsBy, result_of_done, tested}
use Rattle.domain_core.specs.DomainView.{packet_lent_as, place_of_id}
use Rattle.board_runner.proofs.LineLemmas.{calls_domain, gives_none, lends_added, test_lends, test_anywhere, whole_brought}
use Rattle.board_runner.proofs.line.requests.test.Goals as goal

pub returns-in-Ok-Packet : goal.returns-in-Ok-Packet
returns-in-Ok-Packet c node =
    let made = c.test-tested.ensures.call in
    let call = test_of (place_of_id c.args.domain.now.ids c.args.id) in
    let copied = c.copy_packet.ensures in
    let told = c.of_tested_packet.ensures in
    let s = made.turned_to.state in
    let same : c.in-Ok-Packet.field-0 ≡ done.Packet c.in-Ok-Packet.packet = subst (λ r. (values_d (result_c.enum done_c.the_row refusal_c.the_row) 0 (done.Address 0, tt) r).0 ≡ done.Packet c.in-Ok-Packet.packet) c.in-Ok-Packet.is c.in-Ok-Packet.field-0-is in
    test_anywhere node _ _ _ _ _ _ (calls_domain _ _ _ _ _ _ _ _ _ _ c.reserve.ensures.lines made
    (whole_brought None _ _ _ _ copied.bytes copied.within copied.refused.0 copied.refused.1 copied.word told.given told.refused ∙ (sym (ap (λ (d : Done). completes None (result_of_done d c.test-tested.new.out (packet_lent_as c.test-tested.new.self))) same) ∙ sym (ap (λ r. tested r c.test-tested.new.out (packet_lent_as c.test-tested.new.self)) c.in-Ok-Packet.is))) refl (gives_none s 0 call refl)
    (lends_added s 0 call c.args.domain.now.packets made.turned_to.packets c.test-tested.new.self.packets made.does.lent (Some c.in-Ok-Packet.packet) refl made.turns.packets made.does.packets (subst (λ (d : Done). LendsBy c.args.domain.now c.test-tested.new.self d) same (subst (λ r. IfOk r (LendsBy c.args.domain.now c.test-tested.new.self)) c.in-Ok-Packet.is c.test-tested.ensures.lent))) (omega (arith, told.within, c.requires, c.test-tested.auto.out, c.copy_packet.auto.out)))

pub returns : goal.returns
returns c node =
    let made = c.test-tested.ensures.call in
    let call = test_of (place_of_id c.args.domain.now.ids c.args.id) in
    let answered = c.of_test.ensures in
    let s = made.turned_to.state in
    test_anywhere node _ _ _ _ _ _ (calls_domain _ _ _ _ _ _ _ _ _ _ c.reserve.ensures.lines made (answered.tested (packet_lent_as c.test-tested.new.self)) refl (gives_none s 0 call refl)
    (test_lends s (place_of_id c.args.domain.now.ids c.args.id) c.args.domain.now c.test-tested.new.self made.turned_to.packets made.does.lent c.test-tested.result c.test-tested.new.out (length c.test-tested.new.out) answered.no_packet made.turns.packets made.does.packets made.does.lends made.does.answer c.test-tested.ensures.lent) (omega (arith, answered.within, c.requires)))
