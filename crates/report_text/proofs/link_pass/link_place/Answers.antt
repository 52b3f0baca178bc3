use Rattle.std.proofs.Common.{List, [], ◌∷◌, ◌++◌, Bool, cond, Some, refl, sym, ap, ◌∙◌, arith}
use Rattle.mc_journal.specs.Entry.{line_of_entry}
use Rattle.report_text.specs.TextLines.{moved}
use Rattle.report_text.specs.LaneLines.{LaneLine, lane_of, lanes_told}
use Rattle.report_text.specs.LinkPass.{link_place}
use Rattle.report_text.proofs.JournalSteps.{moved-moved}
use Rattle.report_text.proofs.link_pass.link_place.Goals as goal

pub loop-entry-preserved : goal.loop-entry-preserved
loop-entry-preserved c = record {
  left = λ s js few start.
      let was = c.loop-entry.invariant.left s js few start in
      let line = lane_of (line_of_entry c.in-Some.entry) in
      let fitting = sym (c.if-not-fits.ensures.fits s js was.0 was.1 few) in (
        was.0 ++ line ∷ [],
        c.if-not-fits.ensures.left s js was.0 was.1 few refl,
        was.2
            ∙ ap (λ (ls : List LaneLine). moved c.loop-entry.place (link_place s js c.args.journal.domain was.0 ls)) c.in-Some.ensures.lanes
            ∙ ap (λ (b : Bool). moved c.loop-entry.place (cond b (moved 1 (link_place s js c.args.journal.domain (was.0 ++ line ∷ []) (lanes_told c.in-Some.after.now))) (Some 0))) fitting
            ∙ moved-moved c.loop-entry.place 1 _,
      );
  ready = λ n y at. let is = c.if-not-fits.ensures.ready refl n y at in record { line = omega (arith, is.line, c.fits.auto.room); count = is.count };
  fits = omega (arith, c.in-Some.ensures.fits, c.loop-entry.invariant.fits);
  few = omega (arith, c.in-Some.ensures.shorter, c.loop-entry.invariant.few);
}
