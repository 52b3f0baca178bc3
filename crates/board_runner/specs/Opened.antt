-- A station before the first line.
-- Source: docs/PROFILE.md, "Boards" and "Serial run".
use Rattle.std.specs.Prelude.{◌≡◌, ℕ, List, [], ◌∷◌, Some, None}
use Rattle.lane_end.specs.Loop.{new_loop}
use Rattle.board_model.specs.declared.scenario.DomainLine.{DomainLine}
use Rattle.board_model.specs.declared.scenario.Scenario.{Scenario}
use Rattle.board_model.specs.Scenario.{neighbours}
use Rattle.board_model.specs.State.{opening}
use Rattle.domain_core.specs.Carrying.{AnyLink}
use Rattle.domain_core.specs.Opening.{ends_opened}
use Rattle.board_numbers.specs.Lanes.{line_of_domain}
use Rattle.board_runner.specs.declared.station.Station.{Station}
use Rattle.board_runner.specs.declared.wires.Wire.{Wire}
use Rattle.board_runner.specs.Held.{id_for}
use Rattle.board_runner.specs.Wired.{AreLinksOn, links_wired}

-- the line is that of its domain
abbrev pub IsLineIn : Scenario → DomainLine → Type 0
IsLineIn s d = line_of_domain s d.domain ≡ Some d

-- the domain of this line is open with these links, and nothing was called
pub record IsOpened (s : Scenario) (ls : List AnyLink) (d : DomainLine) (st : Station) : Type 0 where
  pub on : AreLinksOn s d ls
  pub state : st.domain.state ≡ opening d.domain d.nodes (neighbours s d)
  pub ends : st.domain.ends ≡ ends_opened d.domain (new_loop d.pool) ls
  pub requests : st.domain.ids ≡ []
  pub told : st.journal.lines ≡ []
  pub number : st.number ≡ 0
  pub packets : st.domain.packets ≡ []
  pub labels : (label : List ℕ) → id_for st.ids label ≡ None
  pub packet_labels : (label : List ℕ) → id_for st.packets label ≡ None
  pub dropped : st.dropped ≡ 0
  pub domain_number : st.domain_number ≡ d.domain

-- the domains of these lines are, each with its links of these wires
abbrev pub AreOpened : Scenario → List Wire → List DomainLine → List Station → Type 0
AreOpened s ws [] [] = Unit {0}
AreOpened s ws (d ∷ ds) (st ∷ sts) = IsOpened s (links_wired ws d.domain 8) d st × AreOpened s ws ds sts
AreOpened s ws ds sts = ⊥
