use Rattle.std.proofs.Common.{List, [], refl, sym, ap, subst, ◌∙◌}
use Rattle.board_numbers.proofs.EachLemmas.{written-back}
use Rattle.ring_numbers.specs.SenderNumbers.{Numbers}
use Rattle.report_text.specs.LaneLines.{lanes_told}
use Rattle.report_text.specs.TextLines.{moved}
use Rattle.report_totals.specs.SenderLanes.{AreAfter}
use Rattle.report_totals.proofs.WalkLemmas.{finds-told, walked-told, wrong-told}
use Rattle.report_totals.proofs.rings.walk.walk_journal.Goals as goal

pub returns-in-Some-clause-wrong : goal.returns-in-Some-clause-wrong
returns-in-Some-clause-wrong c = λ js t are is finds.
    let s = c.args.scenario.now in
    let j = c.args.journal in
    let opened = subst (λ (ns : List Numbers). AreAfter s js j.domain [] ns) (sym c.deref_mut.ensures.value) (c.in_ok-lanes.ensures.lanes js are) in
    let place = c.in_ok-place.ensures.place s js j.domain opened (finds-told s js t j is finds) in
    wrong-told s js t j is ∙ ap (moved j.number) (sym place ∙ c.in-Some.is)

pub returns-in-None-clause-none : goal.returns-in-None-clause-none
returns-in-None-clause-none c = λ js t are is finds.
    let s = c.args.scenario.now in
    let j = c.args.journal in
    let opened = subst (λ (ns : List Numbers). AreAfter s js j.domain [] ns) (sym c.deref_mut.ensures.value) (c.in_ok-lanes.ensures.lanes js are) in
    let place = c.in_ok-place.ensures.place s js j.domain opened (finds-told s js t j is finds) in
    wrong-told s js t j is ∙ ap (moved j.number) (sym place ∙ c.in-None.is)

pub returns-in-None-clause-walked : goal.returns-in-None-clause-walked
returns-in-None-clause-walked c = λ js t are is.
    let s = c.args.scenario.now in
    let j = c.args.journal in
    let opened = subst (λ (ns : List Numbers). AreAfter s js j.domain [] ns) (sym c.deref_mut.ensures.value) (c.in_ok-lanes.ensures.lanes js are) in
    let after = c.in_ok-place.ensures.lanes c.in-None.is s js j.domain opened in
    let new : List Numbers = c.back_place.new.lanes in
    let written = written-back c.in_ok-lanes.lanes.len c.deref_mut.result.now c.in_ok-lanes.lanes.items new (sym c.deref_mut.ensures.len) c.deref_mut.ensures.value (after.many ∙ sym c.in_ok-lanes.ensures.many) in
    walked-told s js t j is _ refl (subst (λ (ns : List Numbers). AreAfter s js j.domain (lanes_told j.text.now) ns) (sym written) after)
