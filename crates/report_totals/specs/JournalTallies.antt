-- The tallies of the domains of a report, and the run of the board that its journals tell.
-- Source: docs/FORMATS.md, "Report".
use Rattle.std.specs.Prelude.{◌≡◌, List, map}
use Rattle.std.specs.List.{AllByRecursion}
use Rattle.board_model.specs.declared.scenario.Scenario.{Scenario}
use Rattle.board_model.specs.SerialRun.{Station}
use Rattle.board_numbers.specs.declared.tally.Tally.{Tally}
use Rattle.board_numbers.specs.EndedDomains.{EndAs, EndsAs}
use Rattle.board_numbers.specs.Tallied.{IsTally, RanBoard}
use Rattle.report_totals.specs.declared.ended_journal.EndedJournal.{EndedJournal}
use Rattle.report_totals.specs.EndedJournals.{ended_by}
use Rattle.report_totals.specs.SmallRuns.{IsSmall}

-- the tally is that of a domain of a run that ended so
abbrev pub TellsTally : EndedJournal → Tally → Type 0
TellsTally e y = (t : Station) → EndsAs t (ended_by e) → IsSmall e.scenario.now t → IsTally e.scenario.now t y

-- these domains of the board ended so
pub record EndRun (s : Scenario) (ts : List Station) (es : List EndedJournal) : Type 0 where
  pub ran : RanBoard s ts
  pub ended : EndAs ts (map ended_by es)
  pub small : AllByRecursion (IsSmall s) ts
  pub scenario : AllByRecursion (λ e. e.scenario.now ≡ s) es

pub record EndSomeRun (s : Scenario) (es : List EndedJournal) : Type 0 where
  pub stations : List Station
  pub run : EndRun s stations es
