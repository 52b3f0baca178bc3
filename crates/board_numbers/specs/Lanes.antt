-- Which lanes a board has, by the lines of its scenario: one from each domain to itself, and one each way of each link.
-- Source: docs/FORMATS.md, "Scenario files".
use Rattle.std.specs.Prelude.{ℕ, Bool, ◌&&◌, ◌||◌, ◌==◌, List, map, find, Option, option_map, option_to_list, if◌then◌else◌}
use Rattle.std.specs.List.{flat_map}
use Rattle.board_model.specs.declared.scenario.DomainLine.{DomainLine}
use Rattle.board_model.specs.declared.scenario.LinkLine.{LinkLine}
use Rattle.board_model.specs.declared.scenario.Scenario.{Scenario}
use Rattle.board_model.specs.Scenario.{Lane, rising}

-- the numbers of the domains, which rise
abbrev pub numbers_of : Scenario → List ℕ
numbers_of s = map (λ d. d.domain) (rising s)

-- the line of a domain
abbrev pub line_of_domain : Scenario → ℕ → Option DomainLine
line_of_domain s n = find (λ d. d.domain == n) s.domains

-- a link joins these two, whichever is the driver
abbrev pub joins : ℕ → ℕ → LinkLine → Bool
joins one two l = (l.driver == one && l.device == two) || (l.device == one && l.driver == two)

-- the size of the link between two domains
abbrev pub size_between : Scenario → ℕ → ℕ → Option ℕ
size_between s one two = option_map (λ l. l.size) (find (joins one two) s.links)

-- how many buffers the lane from one domain to another has, where there is one
abbrev pub buffers_between : Scenario → ℕ → ℕ → Option ℕ
buffers_between s a b = if a == b then option_map (λ d. d.pool) (line_of_domain s a) else size_between s a b

-- the lane from one domain to another, where there is one
abbrev pub lane_between : Scenario → ℕ → ℕ → Option Lane
lane_between s a b = option_map (λ size. record { sender = a; receiver = b; size = size }) (buffers_between s a b)

-- the lanes from a domain to those of these numbers
abbrev pub lanes_from : Scenario → ℕ → List ℕ → List Lane
lanes_from s a bs = flat_map (λ b. option_to_list (lane_between s a b)) bs
