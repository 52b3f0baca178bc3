use Rattle.std.proofs.Common.{◌≡◌, ◌<◌, ℕ, List, [], ◌∷◌, ◌++◌, length, ap, sym, subst, ◌∙◌, arith}
use Rattle.std.specs.Prelude.{slice_set}
use Rattle.std.proofs.lemmas.Result.{IfOk-weaker}
use Rattle.std.proofs.lemmas.Option.{slice_get-get_or}
use Rattle.mc_journal.specs.Entry.{line_of_entry}
use Rattle.mc_journal.specs.declared.entry.Entry.{Entry}
use Rattle.ring_numbers.specs.SenderNumbers.{Numbers}
use Rattle.report_text.specs.LaneLines.{LaneLine, came_back, puts, lane_of}
use Rattle.report_text.specs.RingPass.{given_to, is_back_of_put}
use Rattle.report_totals.specs.SenderLanes.{AreAfter}
use Rattle.report_totals.proofs.LaneSteps.{at-back, changed-after, far-after, far-back}
use Rattle.report_totals.proofs.rings.lanes.note_entry.Goals as goal

abbrev lane : Entry → LaneLine
lane e = lane_of (line_of_entry e)

place-below : (ns : List Numbers) (place peer : ℕ) → length ns ≡ 8 → place ≡ peer → peer < 8 → place < length ns
place-below ns place peer many same near = omega (arith, many, same, near)

pub returns-in_ok-put-in-Put-clause-lanes : goal.returns-in_ok-put-in-Put-clause-lanes
returns-in_ok-put-in-Put-clause-lanes c = λ so s js domain before after.
    let at = slice_get-get_or c.args.lanes.now c.from.result c.index-lanes-from.result (place-below c.args.lanes.now c.from.result c.in-Put.peer c.requires.many c.from.ensures c.if-peer-lt8.true) in
    subst (λ (e : Entry). AreAfter s js domain (before ++ lane e ∷ []) (slice_set c.args.lanes.now c.from.result c.put.new.self)) (sym c.in-Put.is)
    (subst (λ (n : ℕ). AreAfter s js domain (before ++ puts n c.in-Put.frame.now ∷ []) (slice_set c.args.lanes.now c.from.result c.put.new.self)) c.from.ensures
    (changed-after s js domain before (puts c.from.result c.in-Put.frame.now) c.args.lanes.now after _ c.put.new.self at c.in_ok-put-in-Put.ensures))

pub returns-in-Back-clause-put : goal.returns-in-Back-clause-put
returns-in-Back-clause-put c =
    let at = slice_get-get_or c.args.lanes.now c.from-in-Back.result c.index-lanes-from-in-Back.result (place-below c.args.lanes.now c.from-in-Back.result c.in-Back.peer c.requires.many c.from-in-Back.ensures c.if-peer-lt8-2.true) in
    IfOk-weaker c.come_back.result _ _
    (λ is put s js domain before after finds.
    put
    ∙ at-back s js domain before (lane c.args.entry) finds c.args.lanes.now after c.from-in-Back.result c.in-Back.count _ at
    ∙ ap (λ (n : ℕ). is_back_of_put (given_to s js domain) before (came_back n c.in-Back.count)) c.from-in-Back.ensures
    ∙ sym (ap (λ (e : Entry). is_back_of_put (given_to s js domain) before (lane e)) c.in-Back.is))
    c.come_back.ensures.put

pub returns-in-Back-clause-lanes : goal.returns-in-Back-clause-lanes
returns-in-Back-clause-lanes c =
    let at = slice_get-get_or c.args.lanes.now c.from-in-Back.result c.index-lanes-from-in-Back.result (place-below c.args.lanes.now c.from-in-Back.result c.in-Back.peer c.requires.many c.from-in-Back.ensures c.if-peer-lt8-2.true) in
    IfOk-weaker c.come_back.result _ _
    (λ is state so s js domain before after.
    subst (λ (e : Entry). AreAfter s js domain (before ++ lane e ∷ []) (slice_set c.args.lanes.now c.from-in-Back.result c.come_back.new.self)) (sym c.in-Back.is)
    (subst (λ (n : ℕ). AreAfter s js domain (before ++ came_back n c.in-Back.count ∷ []) (slice_set c.args.lanes.now c.from-in-Back.result c.come_back.new.self)) c.from-in-Back.ensures
    (changed-after s js domain before (came_back c.from-in-Back.result c.in-Back.count) c.args.lanes.now after _ c.come_back.new.self at (state so))))
    c.come_back.ensures.state

pub returns-in_default : goal.returns-in_default
returns-in_default c = record {
  many = c.requires.many;
  put = λ s js domain before after finds. ap (λ (e : Entry). is_back_of_put (given_to s js domain) before (lane e)) (sym c.in-Put.is);
  lanes = λ so s js domain before after.
      subst (λ (e : Entry). AreAfter s js domain (before ++ lane e ∷ []) c.args.lanes.now) (sym c.in-Put.is)
      (far-after s js domain before (puts c.in-Put.peer c.in-Put.frame.now) c.args.lanes.now after c.if-peer-lt8.false);
}

pub returns-in_default-2 : goal.returns-in_default-2
returns-in_default-2 c = record {
  many = c.requires.many;
  put = λ s js domain before after finds.
      far-back s js domain before (lane c.args.entry) finds c.in-Back.peer c.in-Back.count c.if-peer-lt8-2.false
      ∙ ap (λ (e : Entry). is_back_of_put (given_to s js domain) before (lane e)) (sym c.in-Back.is);
  lanes = λ so s js domain before after.
      subst (λ (e : Entry). AreAfter s js domain (before ++ lane e ∷ []) c.args.lanes.now) (sym c.in-Back.is)
      (far-after s js domain before (came_back c.in-Back.peer c.in-Back.count) c.args.lanes.now after c.if-peer-lt8-2.false);
}
