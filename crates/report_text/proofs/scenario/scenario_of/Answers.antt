use Rattle.std.proofs.Common.{◌≡◌, ap, sym, ◌∙◌, Some, None, Err, take, arith}
use Rattle.board_model.specs.Grammar.{canonical}
use Rattle.board_model.specs.Language.{told_by, refused}
use Rattle.report_text.specs.TextLines.{first_other, lines_in}
use Rattle.report_text.specs.ScenarioPart.{refused_place, scenario_by, scenario_unless, text_of}
use Rattle.report_text.proofs.RefusedLines.{refused-line, refused-told}
use Rattle.report_text.proofs.TextFronts.{text-back, first-lines}
use Rattle.report_text.proofs.scenario.scenario_of.Goals as goal

pub returns-in-Some-clause-value : goal.returns-in-Some-clause-value
returns-in-Some-clause-value c =
    let text = c.args.text.now in
    let s = c.in-Ok.scenario in
    let other : first_other (lines_in text) (lines_in (canonical s)) ≡ Some c.in-Some.place =
    ap (λ t. first_other (lines_in text) (lines_in t)) (sym (c.deref.ensures.value ∙ c.in_ok-canonical-in-Ok.ensures)) ∙ sym c.other_line.ensures.value ∙ c.in-Some.is
    in
    sym (ap (λ t. scenario_by (lines_in text) (told_by t)) (text-back text) ∙ ap (scenario_by (lines_in text)) c.in-Ok.ensures.told ∙ ap (λ o. scenario_unless o s) other)

pub returns-in-None-clause-value : goal.returns-in-None-clause-value
returns-in-None-clause-value c =
    let text = c.args.text.now in
    let s = c.in-Ok.scenario in
    let other : first_other (lines_in text) (lines_in (canonical s)) ≡ None =
    ap (λ t. first_other (lines_in text) (lines_in t)) (sym (c.deref.ensures.value ∙ c.in_ok-canonical-in-Ok.ensures)) ∙ sym c.other_line.ensures.value ∙ c.in-None.is
    in
    sym (ap (λ t. scenario_by (lines_in text) (told_by t)) (text-back text) ∙ ap (scenario_by (lines_in text)) c.in-Ok.ensures.told ∙ ap (λ o. scenario_unless o s) other)

pub returns-in_ok-refused_place-in-Err-Refused-clause-value : goal.returns-in_ok-refused_place-in-Err-Refused-clause-value
returns-in_ok-refused_place-in-Err-Refused-clause-value c =
    let text = c.args.text.now in
    let fault = rw c.in-Err-Refused.field-0-is at c.in-Err-Refused.ensures.refused in
    let refusal = refused-told text c.in-Err-Refused.line c.in-Err-Refused.field-0-1 fault in
    let n = c.saturating_sub-passed.result in
    let before = c.split_at.result.0.now in
    let lines : lines_in before ≡ take n (lines_in text) = ap lines_in c.split_at.ensures.front ∙ first-lines text n c.first_bytes.result c.first_bytes.ensures.value in
    let place =
    c.in_ok-refused_place-in-Err-Refused.ensures.value
    ∙ ap (λ t. refused_place (lines_in before) n (told_by t)) (sym (text-back before))
    ∙ ap (λ ls. refused_place ls n (told_by (text_of ls))) lines
    ∙ ap (λ k. refused_place (take k (lines_in text)) k (told_by (text_of (take k (lines_in text))))) c.saturating_sub-passed.ensures
    in
    ap Err place ∙ sym (ap (λ t. scenario_by (lines_in text) (told_by t)) (text-back text) ∙ ap (scenario_by (lines_in text)) refusal)

pub returns-in_ok-refused_place-in-Err-Refused-clause-within : goal.returns-in_ok-refused_place-in-Err-Refused-clause-within
returns-in_ok-refused_place-in-Err-Refused-clause-within c =
    let text = c.args.text.now in
    let fault = rw c.in-Err-Refused.field-0-is at c.in-Err-Refused.ensures.refused in
    let refusal = refused-told text c.in-Err-Refused.line c.in-Err-Refused.field-0-1 fault in
    let last = refused-line text (refused c.in-Err-Refused.line c.in-Err-Refused.field-0-1) refusal in
    omega (arith, last, c.in_ok-refused_place-in-Err-Refused.ensures.within, c.saturating_sub-passed.ensures, c.split_at.ensures.front_len, c.first_bytes.ensures.within)
