-- The board of a relay: a row of domains, each with a link to the next, and the roles of its domains.
-- Source: docs/PROFILE.md, "Relays".
use Rattle.std.specs.Prelude.{◌≡◌, ℕ, zero, suc, ◌+◌, ◌==◌, List, [], ◌∷◌, ◌++◌, map, if◌then◌else◌}
use Rattle.std.specs.List.{AllByRecursion}
use Rattle.board_model.specs.declared.scenario.DomainLine.{DomainLine}
use Rattle.board_model.specs.declared.scenario.LinkLine.{LinkLine}
use Rattle.board_model.specs.declared.scenario.Scenario.{Scenario}
use Rattle.board_model.specs.Board.{DomainJournal}
use Rattle.board_model.specs.Logs.{log_of}
use Rattle.hop_relay.specs.declared.role.Role.{Role}
use Rattle.hop_relay.specs.declared.role.Role.TheVariants.{First, Middle, Last}
use Rattle.hop_relay.specs.Roles.{FitsRole}

-- 0, 1 and so on, so many
abbrev pub numbers_below : ℕ → List ℕ
numbers_below zero = []
numbers_below (suc n) = numbers_below n ++ n ∷ []

abbrev pub relay_domain : ℕ → DomainLine
relay_domain d = record { domain = d; nodes = 1; pool = 2 }

-- from a domain to the next, with rings of this size
abbrev pub relay_link : ℕ → ℕ → LinkLine
relay_link size d = record { driver = d; device = d + 1; size = size }

-- the domains from 0 to the number of hops, and a link for each hop. The call lines are left open
pub record IsRelayBoard (hops size : ℕ) (s : Scenario) : Type 0 where
  pub domains : s.domains ≡ map relay_domain (numbers_below (hops + 1))
  pub links : s.links ≡ map (relay_link size) (numbers_below hops)

-- the role of a domain: the first has the packets, and each other receives this many at most
abbrev pub role_of : List (List ℕ) → (hops most : ℕ) → ℕ → Role
role_of packets hops most d = if d == 0 then First packets else if d == hops then Last d most else Middle d most

-- the log of each domain fits the role of its number. It need not have ended
abbrev pub LogsFitRoles : Scenario → List DomainJournal → List (List ℕ) → (hops most : ℕ) → Type 0
LogsFitRoles s js packets hops most = AllByRecursion (λ j. FitsRole (role_of packets hops most j.line.domain) (log_of s j)) js
