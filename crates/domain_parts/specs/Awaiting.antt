-- The requests that a wait names, in a domain as contracts see it: whether they exist, and which of them is complete first.
-- Source: docs/PROFILE.md, "Waits".
use Rattle.std.specs.Prelude.{ℕ, Bool, true, List, map, position, Option}
use Rattle.std.specs.List.{list_all}
use Rattle.mc_base.specs.declared.request.RequestId.{RequestId}
use Rattle.board_model.specs.Answer.{is_complete_at, place_said, stands_at}
use Rattle.domain_parts.specs.DomainView.{DomainView, place_of_id}

-- their places among the requests that exist
abbrev pub places_named : {L : Type 0} → List RequestId → DomainView L → List (Option ℕ)
places_named ids d = map (place_of_id d.ids) ids

abbrev pub all_exist : {L : Type 0} → List RequestId → DomainView L → Bool
all_exist ids d = list_all (stands_at d.state) (places_named ids d)

-- the first that is complete, by its place in their list, counted from 0
abbrev pub first_complete_in : {L : Type 0} → List RequestId → DomainView L → Option ℕ
first_complete_in ids d = position (is_complete_at d.state) (places_named ids d)

-- and counted from 1
abbrev pub first_settled : {L : Type 0} → List RequestId → DomainView L → Option ℕ
first_settled ids d = place_said d.state (places_named ids d) true
