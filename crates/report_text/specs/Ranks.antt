-- How many stand before one of a number where the numbers rise.
use Rattle.std.specs.Prelude.{ℕ, ◌+◌, nat_lt, List, [], ◌∷◌, if◌then◌else◌}
use Rattle.board_model.specs.declared.scenario.DomainLine.{DomainLine}
use Rattle.board_model.specs.Scenario.{Neighbour}

abbrev pub domain_rank : ℕ → List DomainLine → ℕ
domain_rank n [] = 0
domain_rank n (d ∷ ds) = if nat_lt n d.domain then 0 else domain_rank n ds + 1

abbrev pub neighbour_rank : ℕ → List Neighbour → ℕ
neighbour_rank n [] = 0
neighbour_rank n (m ∷ ms) = if nat_lt n m.number then 0 else neighbour_rank n ms + 1
