-- A report has no wrong line exactly where it is that of a whole run of its board.
use Rattle.std.proofs.Common.{ℕ, ◌<◌, ◌^◌, ◌-◌, List, length}
use Rattle.board_model.proofs.Headlines.{linked_headline}
use Rattle.board_model.proofs.LawfulBoards.{lawful_is_linked}
use Rattle.report_laws.proofs.RightReportsRun.{right_run}
use Rattle.report_laws.proofs.RunsRight.{runs_right}
use Rattle.scenario_cli.specs.VerdictText.{IsOfRun, HasNoWrongLine}

pub right_is_of_run : (report : List ℕ) → length report < 2 ^ 32 - 1 → HasNoWrongLine report → IsOfRun report
right_is_of_run report short right =
    let of = right_run report short right in
    record {
      mode = of.mode;
      scenario = of.scenario;
      journals = of.journals;
      run = of.report;
      headline = linked_headline of.scenario of.journals (lawful_is_linked of.scenario of.report.lawful) of.report.run;
    }

pub run_is_right : (report : List ℕ) → IsOfRun report → HasNoWrongLine report
run_is_right report of = runs_right of.mode of.scenario of.journals report of.run
