use Rattle.std.proofs.Common.{◌≡◌, ◌<◌, ℕ, cond, List, [], ◌∷◌, ◌++◌, length, ap, sym, subst, ◌∙◌, refl, arith}
use Rattle.std.specs.Prelude.{◌==◌}
use Rattle.std.proofs.lemmas.Option.{slice_get-get_or}
use Rattle.std.proofs.lemmas.Bool.{eqb-true, eq-eqb, ne_eqb}
use Rattle.mc_journal.specs.Entry.{line_of_entry}
use Rattle.mc_journal.specs.declared.entry.Entry.{Entry}
use Rattle.mc_journal.specs.declared.entry.Entry.TheVariants as entry
use Rattle.report_text.specs.declared.link_pass.Left.{Left}
use Rattle.report_text.specs.LaneLines.{LaneLine, came_back, shows, takes, lane_of}
use Rattle.report_text.specs.LinkPass.{fits}
use Rattle.report_text.specs.LaneLeft.{AreLeft}
use Rattle.report_text.proofs.LeftLemmas.{take-step, back-step, take-ready, back-ready, shows-fits, shows-left, takes-far, shows-far, back-far, far-left, IsQuiet, quiet-fits, quiet-left}
use Rattle.report_text.proofs.link_pass.fits.Goals as goal

abbrev lane : Entry → LaneLine
lane e = lane_of (line_of_entry e)

abbrev count_of : LaneLine → ℕ
count_of (came_back p n) = n
count_of (shows p n) = n
count_of other = 0

place-below : (ls : List Left) (place peer : ℕ) → length ls ≡ 8 → place ≡ peer → peer < 8 → place < length ls
place-below ls place peer many same near = omega (arith, many, same, near)

pub without_put-left-requires-clause-count : goal.without_put-left-requires-clause-count
without_put-left-requires-clause-count c = (c.requires.ready c.from-place.result _ (slice_get-get_or c.args.lefts.now c.from-place.result _ (place-below c.args.lefts.now c.from-place.result c.in-Take.peer c.told-lefts c.from-place.ensures c.if-peer-lt8.true))).count

pub returns-in-Take-clause-fits : goal.returns-in-Take-clause-fits
returns-in-Take-clause-fits c = λ s js before left few.
    let near = c.if-peer-lt8.true in
    let at = slice_get-get_or c.args.lefts.now c.from-place.result _ (place-below c.args.lefts.now c.from-place.result c.in-Take.peer c.told-lefts c.from-place.ensures near) in
    let step = take-step s js c.args.domain before c.args.lefts.now left c.from-place.result c.in-Take.frame.now _ c.without_put-left.result c.changes.new.lefts c.changes.result (omega (arith, near, c.from-place.ensures)) at c.without_put-left.ensures c.changes.ensures in
    step.0 ∙ ap (λ (n : ℕ). fits s js c.args.domain before (takes n c.in-Take.frame.now)) c.from-place.ensures ∙ sym (ap (λ (e : Entry). fits s js c.args.domain before (lane e)) c.in-Take.is)

pub returns-in-Take-clause-left : goal.returns-in-Take-clause-left
returns-in-Take-clause-left c = λ s js before left few so.
    let near = c.if-peer-lt8.true in
    let at = slice_get-get_or c.args.lefts.now c.from-place.result _ (place-below c.args.lefts.now c.from-place.result c.in-Take.peer c.told-lefts c.from-place.ensures near) in
    let step = take-step s js c.args.domain before c.args.lefts.now left c.from-place.result c.in-Take.frame.now _ c.without_put-left.result c.changes.new.lefts c.changes.result (omega (arith, near, c.from-place.ensures)) at c.without_put-left.ensures c.changes.ensures in
    subst (λ (e : Entry). AreLeft s js c.args.domain (before ++ lane e ∷ []) c.changes.new.lefts) (sym c.in-Take.is)
    (subst (λ (n : ℕ). AreLeft s js c.args.domain (before ++ takes n c.in-Take.frame.now ∷ []) c.changes.new.lefts) c.from-place.ensures (step.1 so))

pub returns-in-Take-clause-ready : goal.returns-in-Take-clause-ready
returns-in-Take-clause-ready c =
    let near = c.if-peer-lt8.true in
    let at = slice_get-get_or c.args.lefts.now c.from-place.result _ (place-below c.args.lefts.now c.from-place.result c.in-Take.peer c.told-lefts c.from-place.ensures near) in
    take-ready (length c.args.room.now) c.args.domain c.from-place.result c.in-Take.frame.now c.args.lefts.now c.changes.new.lefts _ c.without_put-left.result c.changes.result at c.requires.ready c.without_put-left.ensures c.changes.ensures

pub returns-in-Take-2-clause-fits : goal.returns-in-Take-2-clause-fits
returns-in-Take-2-clause-fits c = λ s js before left few.
    takes-far s js c.args.domain before c.args.lefts.now left few c.in-Take.peer c.if-peer-lt8.false c.in-Take.frame.now
    ∙ sym (ap (λ (e : Entry). fits s js c.args.domain before (lane e)) c.in-Take.is)

pub returns-in-See-clause-fits : goal.returns-in-See-clause-fits
returns-in-See-clause-fits c = λ s js before left few.
    let near = c.if-peer-lt8-2.true in
    let at = slice_get-get_or c.args.lefts.now c.from-in-See.result _ (place-below c.args.lefts.now c.from-in-See.result c.in-See.peer c.told-lefts c.from-in-See.ensures near) in
    shows-fits s js c.args.domain before c.args.lefts.now left c.from-in-See.result c.from.result _ at
    ∙ ap (λ (n : ℕ). fits s js c.args.domain before (shows n c.from.result)) c.from-in-See.ensures
    ∙ ap (λ (n : ℕ). fits s js c.args.domain before (shows c.in-See.peer n)) c.from.ensures
    ∙ sym (ap (λ (e : Entry). fits s js c.args.domain before (lane e)) c.in-See.is)

pub returns-in-See-clause-left : goal.returns-in-See-clause-left
returns-in-See-clause-left c = λ s js before left few so.
    subst (λ (e : Entry). AreLeft s js c.args.domain (before ++ lane e ∷ []) c.args.lefts.now) (sym c.in-See.is) (shows-left s js c.args.domain before c.args.lefts.now left c.in-See.peer c.in-See.count)

pub returns-in-See-2-clause-fits : goal.returns-in-See-2-clause-fits
returns-in-See-2-clause-fits c = λ s js before left few.
    ap (λ (n : ℕ). n == 0) (ap (λ (e : Entry). count_of (lane e)) (sym c.in-See-2.is ∙ c.in-See.is))
    ∙ shows-far s js c.args.domain before c.args.lefts.now left few c.in-See.peer c.if-peer-lt8-2.false c.in-See.count
    ∙ sym (ap (λ (e : Entry). fits s js c.args.domain before (lane e)) c.in-See.is)

pub returns-in-See-2-clause-left : goal.returns-in-See-2-clause-left
returns-in-See-2-clause-left c = λ s js before left few so.
    subst (λ (e : Entry). AreLeft s js c.args.domain (before ++ lane e ∷ []) c.args.lefts.now) (sym c.in-See.is) (shows-left s js c.args.domain before c.args.lefts.now left c.in-See.peer c.in-See.count)

pub returns-in-Back-clause-fits : goal.returns-in-Back-clause-fits
returns-in-Back-clause-fits c = λ s js before left few.
    let near = c.if-peer-lt8-3.true in
    let at = slice_get-get_or c.args.lefts.now c.from-place-in-Back.result _ (place-below c.args.lefts.now c.from-place-in-Back.result c.in-Back.peer c.told-lefts c.from-place-in-Back.ensures near) in
    let step = back-step s js c.args.domain before c.args.lefts.now left c.from-place-in-Back.result c.in-Back.count _ c.without_given-left.result c.changes-in-Back.new.lefts c.changes-in-Back.result (omega (arith, near, c.from-place-in-Back.ensures)) at c.without_given-left.ensures c.changes-in-Back.ensures in
    step.0 ∙ ap (λ (n : ℕ). fits s js c.args.domain before (came_back n c.in-Back.count)) c.from-place-in-Back.ensures ∙ sym (ap (λ (e : Entry). fits s js c.args.domain before (lane e)) c.in-Back.is)

pub returns-in-Back-clause-left : goal.returns-in-Back-clause-left
returns-in-Back-clause-left c = λ s js before left few so.
    let near = c.if-peer-lt8-3.true in
    let at = slice_get-get_or c.args.lefts.now c.from-place-in-Back.result _ (place-below c.args.lefts.now c.from-place-in-Back.result c.in-Back.peer c.told-lefts c.from-place-in-Back.ensures near) in
    let step = back-step s js c.args.domain before c.args.lefts.now left c.from-place-in-Back.result c.in-Back.count _ c.without_given-left.result c.changes-in-Back.new.lefts c.changes-in-Back.result (omega (arith, near, c.from-place-in-Back.ensures)) at c.without_given-left.ensures c.changes-in-Back.ensures in
    subst (λ (e : Entry). AreLeft s js c.args.domain (before ++ lane e ∷ []) c.changes-in-Back.new.lefts) (sym c.in-Back.is)
    (subst (λ (n : ℕ). AreLeft s js c.args.domain (before ++ came_back n c.in-Back.count ∷ []) c.changes-in-Back.new.lefts) c.from-place-in-Back.ensures (step.1 so))

pub returns-in-Back-clause-ready : goal.returns-in-Back-clause-ready
returns-in-Back-clause-ready c =
    let near = c.if-peer-lt8-3.true in
    let at = slice_get-get_or c.args.lefts.now c.from-place-in-Back.result _ (place-below c.args.lefts.now c.from-place-in-Back.result c.in-Back.peer c.told-lefts c.from-place-in-Back.ensures near) in
    back-ready (length c.args.room.now) c.args.domain c.from-place-in-Back.result c.in-Back.count c.args.lefts.now c.changes-in-Back.new.lefts _ c.without_given-left.result c.changes-in-Back.result at c.requires.ready c.without_given-left.ensures c.changes-in-Back.ensures

pub returns-in-Back-2-clause-fits : goal.returns-in-Back-2-clause-fits
returns-in-Back-2-clause-fits c = λ s js before left few.
    ap (λ (n : ℕ). n == 0) (ap (λ (e : Entry). count_of (lane e)) (sym c.in-Back-2.is ∙ c.in-Back.is))
    ∙ back-far s js c.args.domain before c.args.lefts.now left few c.in-Back.peer c.if-peer-lt8-3.false c.in-Back.count
    ∙ sym (ap (λ (e : Entry). fits s js c.args.domain before (lane e)) c.in-Back.is)

pub returns-in-Back-2-clause-left : goal.returns-in-Back-2-clause-left
returns-in-Back-2-clause-left c = λ s js before left few so.
    let none : c.in-Back.count ≡ 0 = ap (λ (e : Entry). count_of (lane e)) (sym c.in-Back.is ∙ c.in-Back-2.is) ∙ eqb-true c.in-Back-2.count 0 so in
    subst (λ (e : Entry). AreLeft s js c.args.domain (before ++ lane e ∷ []) c.args.lefts.now) (sym c.in-Back.is)
    (far-left s js c.args.domain before c.args.lefts.now left (came_back c.in-Back.peer c.in-Back.count) c.in-Back.peer c.if-peer-lt8-3.false
    (λ q other. refl) (λ q other. ap (λ b. cond b c.in-Back.count 0) (ne_eqb c.in-Back.peer q (λ e. other (sym e)))) refl (ap (λ b. cond b c.in-Back.count 0) (eq-eqb c.in-Back.peer c.in-Back.peer refl) ∙ none))

pub returns-in_default : goal.returns-in_default
returns-in_default c = record {
  fits = λ s js before left few. quiet-fits s js c.args.domain before c.args.lefts.now left (lane c.args.entry) (quiet c.args.entry refl);
  left = λ s js before left few so. quiet-left s js c.args.domain before c.args.lefts.now left (lane c.args.entry) (quiet c.args.entry refl);
  ready = λ so. c.requires.ready;
}
  where
    quiet : (e : Entry) → c.args.entry ≡ e → IsQuiet (lane e)
    quiet (entry.Take p f w) is = absurd (c.in_default.not-Take p f w is)
    quiet (entry.See p n) is = absurd (c.in_default.not-See p n is)
    quiet (entry.Back p n) is = absurd (c.in_default.not-Back p n is)
    quiet entry.Turn is = tt
    quiet (entry.Put p f) is = tt
    quiet (entry.Idle n) is = tt
    quiet (entry.Again w) is = tt
    quiet (entry.Spin n w) is = tt
    quiet (entry.WaitStart k) is = tt
    quiet (entry.Called k a) is = tt
