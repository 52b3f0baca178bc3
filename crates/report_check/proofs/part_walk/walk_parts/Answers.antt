use Rattle.std.proofs.Common.{◌≡◌, map, take, refl, sym, ap, subst, ◌∙◌, arith}
use Rattle.std.specs.List.{AllByRecursion}
use Rattle.board_model.specs.declared.scenario.CallLine.{CallLine}
use Rattle.report_text.specs.JournalRead.{lines_of_texts}
use Rattle.report_text.specs.TextLines.{lines_in}
use Rattle.report_check.specs.NextParts.{IsNextPart}
use Rattle.report_check.specs.Runs.{FitsLine, script_of}
use Rattle.report_check.proofs.NextLemmas.{part-few}
use Rattle.report_check.proofs.PartHeads.{head-some}
use Rattle.report_check.proofs.WayParts.{begun-below, begun-short, begun-fit, script-few, walking-begins, texts-few, here-shown, here-known, here-own, here-place, here-at, next-fits, next-some, next-wrong, next-right, wrong-within, lines-more, end-right, end-lines, end-behind, end-at}
use Rattle.report_check.proofs.part_walk.walk_parts.Goals as goal

pub loop-part-init : goal.loop-part-init
loop-part-init g c = record {
  walking = walking-begins c.args.peers.now (script_of c.args.run.now) c.args.text.text.now g.way c.args.run.now c.requires.0 c.requires.1.0;
  script = refl;
  fits = omega arith;
  shorter = omega arith;
  few = texts-few c.args.text.text.now;
  spelled = c.requires.1.1.1.1.1;
}

pub part-requires : goal.part-requires
part-requires g c =
    let peers = c.args.peers.now in
    let script = script_of c.args.run.now in
    let text = c.args.text.text.now in
    let rest = c.loop-part.rest.text.now in
    let old = c.args.run.now in
    let run = c.loop-part.run in
    let lines = c.loop-part.lines in
    let h = c.requires.0 in
    let w = c.loop-part.invariant.walking in
    let same : script_of run ≡ script = ap (λ s. map (λ l. l.now) s.now) c.loop-part.invariant.script in
    let next : IsNextPart peers script rest c.in-Some.part = c.in-Some.ensures.found peers script c.requires.1.1.0 w.begins in
    let short = begun-short peers script text g.way h in (
      here-shown peers script text rest g.way lines old run h w c.in-Some.part next same,
      (
        script-few run script same short,
        (
          begun-below peers script text g.way h,
          (
            here-known peers script text rest g.way lines old run h w c.in-Some.part next same,
            (
              here-own peers script text rest g.way lines old run h w c.in-Some.part next same,
              (
                subst (AllByRecursion (λ (l : CallLine). FitsLine l.call)) (sym same) (begun-fit peers script text g.way h),
                (
                  head-some peers (lines_of_texts (take c.in-Some.part.lines (lines_in rest))) c.in-Some.part.head next.part next.head (next-fits peers script text rest g.way lines old run h w c.in-Some.part next),
                  (
                    next-some peers script text rest g.way lines old run h w c.in-Some.part next,
                    (
                      omega (arith, c.loop-part.invariant.fits, c.requires.1.1.1.0, c.loop-part.auto.room),
                      (
                        omega (arith, c.loop-part.invariant.shorter, c.requires.1.1.1.1.0),
                        (part-few peers script rest c.in-Some.part w.begins next, c.loop-part.invariant.spelled),
                      ),
                    ),
                  ),
                ),
              ),
            ),
          ),
        ),
      ),
    )

pub overflow_add-result : goal.overflow_add-result
overflow_add-result g c =
    let peers = c.args.peers.now in
    let script = script_of c.args.run.now in
    let w = c.loop-part.invariant.walking in
    let same = ap (λ s. map (λ l. l.now) s.now) c.loop-part.invariant.script in
    let next : IsNextPart peers script c.loop-part.rest.text.now c.in-Some.part = c.in-Some.ensures.found peers script c.requires.1.1.0 w.begins in
    let found = here-place peers script c.args.text.text.now c.loop-part.rest.text.now g.way c.loop-part.lines c.args.run.now c.loop-part.run c.requires.0 w c.in-Some.part next same c.in_ok-place.field-0 (c.in_ok-place.ensures.place next.part next.head) in
    let within = wrong-within peers script c.args.text.text.now c.loop-part.rest.text.now g.way c.loop-part.lines c.args.run.now c.loop-part.run c.requires.0 w c.in-Some.part next c.in-Some-2.place (sym c.in-Some-2.is ∙ found) in
    omega (arith, within, c.loop-part.invariant.few, c.requires.1.1.1.1.0)

pub returns-in-Some-2-clause-found : goal.returns-in-Some-2-clause-found
returns-in-Some-2-clause-found g c =
    let peers = c.args.peers.now in
    let script = script_of c.args.run.now in
    let w = c.loop-part.invariant.walking in
    let same = ap (λ s. map (λ l. l.now) s.now) c.loop-part.invariant.script in
    let next : IsNextPart peers script c.loop-part.rest.text.now c.in-Some.part = c.in-Some.ensures.found peers script c.requires.1.1.0 w.begins in
    let found = here-place peers script c.args.text.text.now c.loop-part.rest.text.now g.way c.loop-part.lines c.args.run.now c.loop-part.run c.requires.0 w c.in-Some.part next same c.in_ok-place.field-0 (c.in_ok-place.ensures.place next.part next.head) in
    next-wrong peers script c.args.text.text.now c.loop-part.rest.text.now g.way c.loop-part.lines c.args.run.now c.loop-part.run c.requires.0 w c.in-Some.part next c.in-Some-2.place (sym c.in-Some-2.is ∙ found)

pub returns-in-Some-2-clause-within : goal.returns-in-Some-2-clause-within
returns-in-Some-2-clause-within g c =
    let peers = c.args.peers.now in
    let script = script_of c.args.run.now in
    let w = c.loop-part.invariant.walking in
    let same = ap (λ s. map (λ l. l.now) s.now) c.loop-part.invariant.script in
    let next : IsNextPart peers script c.loop-part.rest.text.now c.in-Some.part = c.in-Some.ensures.found peers script c.requires.1.1.0 w.begins in
    let found = here-place peers script c.args.text.text.now c.loop-part.rest.text.now g.way c.loop-part.lines c.args.run.now c.loop-part.run c.requires.0 w c.in-Some.part next same c.in_ok-place.field-0 (c.in_ok-place.ensures.place next.part next.head) in
    let within = wrong-within peers script c.args.text.text.now c.loop-part.rest.text.now g.way c.loop-part.lines c.args.run.now c.loop-part.run c.requires.0 w c.in-Some.part next c.in-Some-2.place (sym c.in-Some-2.is ∙ found) in
    omega (arith, within, c.loop-part.invariant.few)

pub overflow_add-lines : goal.overflow_add-lines
overflow_add-lines g c =
    let peers = c.args.peers.now in
    let script = script_of c.args.run.now in
    let w = c.loop-part.invariant.walking in
    let next : IsNextPart peers script c.loop-part.rest.text.now c.in-Some.part = c.in-Some.ensures.found peers script c.requires.1.1.0 w.begins in
    let more = lines-more peers script c.args.text.text.now c.loop-part.rest.text.now g.way c.loop-part.lines c.args.run.now c.loop-part.run c.requires.0 w c.in-Some.part next in
    omega (arith, more, c.loop-part.invariant.few, c.requires.1.1.1.1.0)

pub loop-part-preserved : goal.loop-part-preserved
loop-part-preserved g c =
    let peers = c.args.peers.now in
    let script = script_of c.args.run.now in
    let w = c.loop-part.invariant.walking in
    let same = ap (λ s. map (λ l. l.now) s.now) c.loop-part.invariant.script in
    let next : IsNextPart peers script c.loop-part.rest.text.now c.in-Some.part = c.in-Some.ensures.found peers script c.requires.1.1.0 w.begins in
    let found = here-place peers script c.args.text.text.now c.loop-part.rest.text.now g.way c.loop-part.lines c.args.run.now c.loop-part.run c.requires.0 w c.in-Some.part next same c.in_ok-place.field-0 (c.in_ok-place.ensures.place next.part next.head) in
    let at = here-at peers script c.args.text.text.now c.loop-part.rest.text.now g.way c.loop-part.lines c.args.run.now c.loop-part.run c.requires.0 w c.in-Some.part next same c.part.new.self (c.in_ok-place.ensures.run next.part next.head c.in_default-2.is) in
    let shorter = next.shorter in
    let fits = next.fits in
    record {
      walking = next-right peers script c.args.text.text.now c.loop-part.rest.text.now g.way c.loop-part.lines c.args.run.now c.loop-part.run c.requires.0 w c.in-Some.part next c.part.new.self (sym c.in_default-2.is ∙ found) at;
      script = c.in_ok-place.ensures.script ∙ c.loop-part.invariant.script;
      fits = omega (arith, fits, c.loop-part.invariant.fits);
      shorter = omega (arith, shorter, c.loop-part.invariant.shorter);
      few = c.loop-part.invariant.few;
      spelled = c.in-Some.ensures.spelled;
    }

pub returns-clause-found : goal.returns-clause-found
returns-clause-found g c =
    let peers = c.args.peers.now in
    let script = script_of c.args.run.now in
    let w = c.loop-part.invariant.walking in
    let end = c.in_default.ensures.found peers script c.requires.1.1.0 w.begins in (
      end-right peers script c.args.text.text.now c.loop-part.rest.text.now g.way c.loop-part.lines c.args.run.now c.loop-part.run c.requires.0 w end,
      end-lines peers script c.args.text.text.now c.loop-part.rest.text.now g.way c.loop-part.lines c.args.run.now c.loop-part.run c.requires.0 w end,
      end-behind peers script c.args.text.text.now c.loop-part.rest.text.now g.way c.loop-part.lines c.args.run.now c.loop-part.run c.requires.0 w end,
      end-at peers script c.args.text.text.now c.loop-part.rest.text.now g.way c.loop-part.lines c.args.run.now c.loop-part.run c.requires.0 w end,
    )
