use Rattle.std.proofs.Common.{◌+◌, ℕ, ap, sym, ◌∙◌, List, Ok, length}
use Rattle.std.specs.Prelude.{Result}
use Rattle.board_model.specs.declared.scenario.Scenario.{Scenario}
use Rattle.board_model.specs.Report.{Mode}
use Rattle.report_text.specs.TextLines.{lines_in}
use Rattle.report_text.specs.ScenarioPart.{Told, rest, front_lines, scenario_in, told_behind}
use Rattle.report_text.specs.Texts.{rest_of}
use Rattle.report_text.proofs.scenario.read_told.Goals as goal

abbrev told_at : Mode → Scenario → ℕ → List (List ℕ) → Result Told ℕ
told_at m s n ls = Ok (record { mode = m; scenario = s; behind = rest n ls })

pub returns-in-Ok-clause-value : goal.returns-in-Ok-clause-value
returns-in-Ok-clause-value c = λ (m : Mode).
    let s = c.in-Ok.scenario in
    let part = c.part_text-part in
    ap (λ k. told_at m s (c.args.unread.number + k) (lines_in part.result.behind.now)) part.ensures.lines
    ∙ ap (told_at m s (c.args.unread.number + length (front_lines (lines_in c.args.unread.text.now)))) part.ensures.behind
    ∙ ap (told_behind m (rest_of c.args.unread)) (sym c.in-Ok.is ∙ c.in_ok-scenario.ensures.value ∙ ap scenario_in part.ensures.front)

pub returns-in-Err-clause-value : goal.returns-in-Err-clause-value
returns-in-Err-clause-value c = λ (m : Mode). ap (told_behind m (rest_of c.args.unread)) (sym c.in-Err.is ∙ c.in_ok-scenario.ensures.value ∙ ap scenario_in c.part_text-part.ensures.front)
