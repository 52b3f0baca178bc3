use Rattle.std.proofs.Common.{List, [], sym, ap, subst, ◌∙◌, arith}
use Rattle.std.proofs.lemmas.Result.{IfErr-at_err, IfOk-at_ok}
use Rattle.report_text.specs.JournalRead.{JournalText}
use Rattle.report_totals.specs.declared.rings.lanes.DomainLanes.{DomainLanes}
use Rattle.report_text.specs.RingPass.{wrong_back_among}
use Rattle.report_totals.specs.SenderLanes.{AreWalked}
use Rattle.report_totals.proofs.WalkLemmas.{all-walked, first-finds, first-right, first-wrong, has-first, none-told, others-find}
use Rattle.report_totals.proofs.rings.walk.+walk_journals.Goals as goal

pub returns-in_default : goal.returns-in_default
returns-in_default t c = record {
  wrong = tt;
  none = λ js ts are told-ts finds. ap (wrong_back_among c.args.scenario.now js) (none-told ts c.args.rest.now (omega (arith, c.in_default.len_below)) told-ts);
  walked = λ js ts are told-ts.
      subst (λ (us : List JournalText). AreWalked c.args.scenario.now js us c.new.result.items) (sym (none-told ts c.args.rest.now (omega (arith, c.in_default.len_below)) told-ts))
      (subst (λ (ws : List DomainLanes). AreWalked c.args.scenario.now js [] ws) (sym c.new.ensures.items) tt);
}

pub returns-in-Err-clause-wrong : goal.returns-in-Err-clause-wrong
returns-in-Err-clause-wrong t c = λ js ts are told-ts finds.
    let s = c.args.scenario.now in
    let h = has-first ts c.args.rest.now _ c.in-len1-up.len_at_least told-ts in
    first-wrong s js ts _ _ h c.in-Err.line (IfErr-at_err _ c.in-Err.is c.in_ok-lanes.ensures.wrong js h.first are h.told (first-finds s js ts _ _ h finds))

pub returns-in_ok-before_others-in-Ok-2-clause-none : goal.returns-in_ok-before_others-in-Ok-2-clause-none
returns-in_ok-before_others-in-Ok-2-clause-none t c = λ js ts are told-ts finds.
    let s = c.args.scenario.now in
    let h = has-first ts c.args.rest.now _ c.in-len1-up.len_at_least told-ts in
    first-right s js ts _ _ h (IfOk-at_ok _ c.in-Ok.is c.in_ok-lanes.ensures.none js h.first are h.told (first-finds s js ts _ _ h finds))
    ∙ IfOk-at_ok _ c.in-Ok-2.is c.in_ok-walked.ensures.none js h.rest are h.others_told (others-find s js ts _ _ h finds)

pub returns-in_ok-before_others-in-Ok-2-clause-walked : goal.returns-in_ok-before_others-in-Ok-2-clause-walked
returns-in_ok-before_others-in-Ok-2-clause-walked t c = λ js ts are told-ts.
    let s = c.args.scenario.now in
    let h = has-first ts c.args.rest.now _ c.in-len1-up.len_at_least told-ts in
    subst (λ (ws : List DomainLanes). AreWalked s js ts ws) (sym c.in_ok-before_others-in-Ok-2.ensures)
    (all-walked s js ts _ _ h c.in-Ok.lanes c.in-Ok-2.walked.items
    (IfOk-at_ok _ c.in-Ok.is c.in_ok-lanes.ensures.walked js h.first are h.told)
    (IfOk-at_ok _ c.in-Ok-2.is c.in_ok-walked.ensures.walked js h.rest are h.others_told))

pub returns-in-Err-2-clause-wrong : goal.returns-in-Err-2-clause-wrong
returns-in-Err-2-clause-wrong t c = λ js ts are told-ts finds.
    let s = c.args.scenario.now in
    let h = has-first ts c.args.rest.now _ c.in-len1-up.len_at_least told-ts in
    first-right s js ts _ _ h (IfOk-at_ok _ c.in-Ok.is c.in_ok-lanes.ensures.none js h.first are h.told (first-finds s js ts _ _ h finds))
    ∙ IfErr-at_err _ c.in-Err-2.is c.in_ok-walked.ensures.wrong js h.rest are h.others_told (others-find s js ts _ _ h finds)
