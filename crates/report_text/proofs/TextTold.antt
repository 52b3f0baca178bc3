-- What a text tells, by what is read of it part by part.
use Rattle.std.proofs.Common.{◌≡◌, ℕ, List, ap, ◌∙◌}
use Rattle.std.specs.Prelude.{Result, Ok, Err}
use Rattle.report_text.specs.declared.verdict.CheckReason.TheVariants as of
use Rattle.report_text.specs.declared.verdict.Verdict.TheVariants.{Wrong}
use Rattle.report_text.specs.TextLines.{lines_in}
use Rattle.report_text.specs.ScenarioPart.{Rest, rest, Told, scenario_from}
use Rattle.report_text.specs.TextPass.{◌>>=◌, Headed, heading_from, board_from, whole_told, told_by_text}
use Rattle.report_text.specs.Verdicts.{by_told, verdict_on}

pub heading-wrong : (text : List ℕ) (n : ℕ) → heading_from (rest 1 (lines_in text)) ≡ Err n → told_by_text text ≡ Err n
heading-wrong text n e = ap (λ (o : Result Headed ℕ). o >>= (λ x. scenario_from x.mode x.behind >>= whole_told)) e

pub scenario-wrong : (text : List ℕ) (h : Headed) (n : ℕ) → heading_from (rest 1 (lines_in text)) ≡ Ok h → scenario_from h.mode h.behind ≡ Err n → told_by_text text ≡ Err n
scenario-wrong text h n e f =
    ap (λ (o : Result Headed ℕ). o >>= (λ x. scenario_from x.mode x.behind >>= whole_told)) e ∙ ap (λ (t : Result Told ℕ). t >>= whole_told) f

pub board-wrong : (text : List ℕ) (h : Headed) (t : Told) (n : ℕ) → heading_from (rest 1 (lines_in text)) ≡ Ok h → scenario_from h.mode h.behind ≡ Ok t → board_from t.mode t.scenario t.behind ≡ Err n → told_by_text text ≡ Err n
board-wrong text h t n e f g =
    ap (λ (o : Result Headed ℕ). o >>= (λ x. scenario_from x.mode x.behind >>= whole_told)) e
    ∙ ap (λ (o : Result Told ℕ). o >>= whole_told) f
    ∙ ap (λ (b : Result Rest ℕ). b >>= (λ nothing. Ok t)) g

pub text-told : (text : List ℕ) (h : Headed) (t : Told) (s : Rest) → heading_from (rest 1 (lines_in text)) ≡ Ok h → scenario_from h.mode h.behind ≡ Ok t → board_from t.mode t.scenario t.behind ≡ Ok s → told_by_text text ≡ Ok t
text-told text h t s e f g =
    ap (λ (o : Result Headed ℕ). o >>= (λ x. scenario_from x.mode x.behind >>= whole_told)) e
    ∙ ap (λ (o : Result Told ℕ). o >>= whole_told) f
    ∙ ap (λ (b : Result Rest ℕ). b >>= (λ nothing. Ok t)) g

pub verdict-wrong : (text : List ℕ) (n : ℕ) → told_by_text text ≡ Err n → verdict_on text ≡ Wrong n of.Text
verdict-wrong text n e = ap by_told e
