-- What a scenario says: its domains in rising number, the lanes between them, and the script of each domain.
-- Source: docs/FORMATS.md, "Scenario files". A lane carries frames one way. There is one in each direction of a link, and
-- one from each domain to itself, with the buffers of its pool.
use Rattle.std.specs.Prelude.{ℕ, List, [], ◌∷◌, ◌==◌, nat_lt, filter, map, if◌then◌else◌, Option, option_map}
use Rattle.std.specs.List.{flat_map}
use Rattle.board_model.specs.declared.scenario.DomainLine.{DomainLine}
use Rattle.board_model.specs.declared.scenario.LinkLine.{LinkLine}
use Rattle.board_model.specs.declared.scenario.CallLine.{CallLine}
use Rattle.board_model.specs.declared.scenario.Scenario.{Scenario}

-- the call lines of a domain, in the file's order. They are numbered from 1
abbrev pub script : Scenario → ℕ → List CallLine
script s d = filter (λ c. c.domain == d) s.calls

-- the label of a line
abbrev pub label_in : CallLine → Option (List ℕ)
label_in c = option_map (λ l. l.items) c.label

-- a domain that another has a lane to, and the buffers of that lane
pub record Neighbour : Type 0 where
  pub number : ℕ
  pub size : ℕ

abbrev pub neighbour : ℕ → ℕ → Neighbour
neighbour number size = record { number = number; size = size }

abbrev pub linked_by : ℕ → LinkLine → List Neighbour
linked_by d l = if l.driver == d then neighbour l.device l.size ∷ [] else if l.device == d then neighbour l.driver l.size ∷ [] else []

-- a neighbour inserted so that the numbers still rise
abbrev pub ranked : Neighbour → List Neighbour → List Neighbour
ranked n [] = n ∷ []
ranked n (m ∷ ms) = if nat_lt n.number m.number then n ∷ m ∷ ms else m ∷ ranked n ms

abbrev pub all_ranked : List Neighbour → List Neighbour
all_ranked [] = []
all_ranked (n ∷ ns) = ranked n (all_ranked ns)

-- the neighbours of a domain in rising number, itself among them
abbrev pub neighbours : Scenario → DomainLine → List Neighbour
neighbours s d = all_ranked (neighbour d.domain d.pool ∷ flat_map (linked_by d.domain) s.links)

abbrev pub ranked_domain : DomainLine → List DomainLine → List DomainLine
ranked_domain d [] = d ∷ []
ranked_domain d (e ∷ es) = if nat_lt d.domain e.domain then d ∷ e ∷ es else e ∷ ranked_domain d es

abbrev pub rising_from : List DomainLine → List DomainLine
rising_from [] = []
rising_from (d ∷ ds) = ranked_domain d (rising_from ds)

-- the domains in rising number
abbrev pub rising : Scenario → List DomainLine
rising s = rising_from s.domains

-- a lane: from a sender to a receiver, with as many buffers as its size
pub record Lane : Type 0 where
  pub sender : ℕ
  pub receiver : ℕ
  pub size : ℕ

abbrev pub lane_to : ℕ → Neighbour → Lane
lane_to d n = record { sender = d; receiver = n.number; size = n.size }

-- all lanes, senders rising and then receivers rising
abbrev pub lanes : Scenario → List Lane
lanes s = flat_map (λ d. map (lane_to d.domain) (neighbours s d)) (rising s)
