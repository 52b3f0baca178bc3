use Rattle.std.proofs.Common.{◌≡◌, List, [], ◌∷◌, ◌++◌, ℕ, Bool, true, false, cond, Some, sym, ap, subst, ◌∙◌, arith, append-nil, append_assoc}
use Rattle.mc_journal.specs.Entry.{line_of_entry}
use Rattle.report_text.specs.TextLines.{moved}
use Rattle.report_text.specs.LaneLines.{LaneLine, lane_of, lanes_told}
use Rattle.report_text.proofs.JournalSteps.{moved-moved}
use Rattle.report_text.specs.RingPass.{back_place, given_to, is_back_of_put}
use Rattle.report_totals.specs.SenderLanes.{AreAfter, FindTheirs}
use Rattle.report_totals.proofs.FramesShort.{first-short}
use Rattle.report_totals.proofs.LaneSteps.{finds-front}
use Rattle.report_totals.proofs.rings.walk.back_place.Goals as goal

pub note_entry-requires-clause-short : goal.note_entry-requires-clause-short
note_entry-requires-clause-short c =
    let less = c.loop-entry.invariant.few in
    let few = c.requires.few in
    first-short c.loop-entry.rest.now c.in-Some.after.now (lane_of (line_of_entry c.in-Some.entry)) (omega (arith, less, few)) c.in-Some.ensures.lanes

pub returns-then-not-branch-clause-place : goal.returns-then-not-branch-clause-place
returns-then-not-branch-clause-place c = λ s js domain start finds.
    let was = c.loop-entry.invariant in
    let given = given_to s js domain in
    let line = lane_of (line_of_entry c.in-Some.entry) in
    let front = finds-front s js domain was.before (lanes_told c.loop-entry.rest.now) (subst (FindTheirs s js domain) was.told finds) in
    let fitting : is_back_of_put given was.before line ≡ false = sym (c.in_ok-note_entry.ensures.put s js domain was.before (was.lanes s js domain start) front) ∙ c.if-not-branch.true in
    sym (was.place s js domain start finds
    ∙ ap (λ (ls : List LaneLine). moved c.loop-entry.place (back_place given was.before ls)) c.in-Some.ensures.lanes
    ∙ ap (λ (b : Bool). moved c.loop-entry.place (cond b (moved 1 (back_place given (was.before ++ line ∷ []) (lanes_told c.in-Some.after.now))) (Some 0))) fitting
    ∙ ap (λ (n : ℕ). Some n) (omega arith))

pub loop-entry-preserved : goal.loop-entry-preserved
loop-entry-preserved c =
    let was = c.loop-entry.invariant in
    let line = lane_of (line_of_entry c.in-Some.entry) in
    record {
      before = was.before ++ line ∷ [];
      told = was.told ∙ ap (λ (ls : List LaneLine). was.before ++ ls) c.in-Some.ensures.lanes ∙ sym (append_assoc was.before (line ∷ []) (lanes_told c.in-Some.after.now));
      lanes = λ s js domain start. c.in_ok-note_entry.ensures.lanes c.if-not-branch.false s js domain was.before (was.lanes s js domain start);
      place = λ s js domain start finds.
          let given = given_to s js domain in
          let front = finds-front s js domain was.before (lanes_told c.loop-entry.rest.now) (subst (FindTheirs s js domain) was.told finds) in
          let fitting : is_back_of_put given was.before line ≡ true = sym (c.in_ok-note_entry.ensures.put s js domain was.before (was.lanes s js domain start) front) ∙ c.if-not-branch.false in
          was.place s js domain start finds
          ∙ ap (λ (ls : List LaneLine). moved c.loop-entry.place (back_place given was.before ls)) c.in-Some.ensures.lanes
          ∙ ap (λ (b : Bool). moved c.loop-entry.place (cond b (moved 1 (back_place given (was.before ++ line ∷ []) (lanes_told c.in-Some.after.now))) (Some 0))) fitting
          ∙ moved-moved c.loop-entry.place 1 (back_place given (was.before ++ line ∷ []) (lanes_told c.in-Some.after.now));
      many = c.in_ok-note_entry.ensures.many;
      fits = omega (arith, was.fits, c.in-Some.ensures.fits);
      few = omega (arith, was.few, c.in-Some.ensures.shorter);
    }

pub returns-clause-lanes : goal.returns-clause-lanes
returns-clause-lanes c = λ none s js domain start.
    let was = c.loop-entry.invariant in
    subst (λ (ls : List LaneLine). AreAfter s js domain ls c.loop-entry.lanes) (sym (was.told ∙ ap (λ (ls : List LaneLine). was.before ++ ls) c.in_default.ensures.lanes ∙ append-nil was.before)) (was.lanes s js domain start)
