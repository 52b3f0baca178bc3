-- A domain at the end of its run, as far as its numbers need it, and the domains that a board's run leaves.
-- Source: docs/FORMATS.md, "Report".
use Rattle.std.specs.Prelude.{◌≡◌, ℕ, List, [], ◌∷◌}
use Rattle.board_model.specs.Journal.{Line, joined}
use Rattle.board_model.specs.State.{DomainState}
use Rattle.board_model.specs.SerialRun.{Station}

-- its number, the lines of its journal, and its state
pub record Ended : Type 0 where
  pub number : ℕ
  pub lines : List Line
  pub state : DomainState

-- a domain of the run ended so
pub record EndsAs (t : Station) (e : Ended) : Type 0 where
  pub told : e.lines ≡ joined t.entries
  pub state : e.state ≡ t.run.state
  pub number : e.number ≡ t.line.domain

abbrev pub EndAs : List Station → List Ended → Type 0
EndAs [] [] = Unit {0}
EndAs (t ∷ ts) (e ∷ es) = EndsAs t e × EndAs ts es
EndAs ts es = ⊥
