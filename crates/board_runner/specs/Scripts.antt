-- The scripts of the domains of a board, one after the other.
-- Source: docs/PROFILE.md, "Actors".
use Rattle.std.specs.Prelude.{ℕ, List}
use Rattle.std.specs.List.{flat_map}
use Rattle.board_model.specs.declared.scenario.CallLine.{CallLine}

-- a domain and its lines
pub record DomainScript : Type 0 where
  pub domain : ℕ
  pub lines : List CallLine

abbrev pub domain_script : ℕ → List CallLine → DomainScript
domain_script domain lines = record { domain = domain; lines = lines }

abbrev pub all_lines : List DomainScript → List CallLine
all_lines scripts = flat_map (λ x. x.lines) scripts
