-- The names of frames, in lists by the peers that the frames came from.
-- Source: docs/PROFILE.md, "Lanes". A board has at most eight domains, so that a peer's number is below 8.
use Rattle.std.specs.Prelude.{◌≡◌, ℕ, ◌<◌, List, [], ◌++◌, get_or}
use Rattle.mc_base.specs.Limits.{domain_limit}
use Rattle.board_model.specs.State.{Item, frames_from}

-- the list for a peer
abbrev pub names_for : ℕ → List (List ℕ) → List ℕ
names_for peer lists = get_or lists peer []

-- these names are added for a peer, and none for another
abbrev pub AddsBy : (ℕ → List ℕ) → List (List ℕ) → List (List ℕ) → Type 0
AddsBy names old new = (peer : ℕ) → peer < domain_limit → names_for peer new ≡ names_for peer old ++ names peer

-- the names of the frames that brought these items are added, each for the item's peer
abbrev pub AddsItems : List Item → List (List ℕ) → List (List ℕ) → Type 0
AddsItems items old new = AddsBy (λ peer. frames_from peer items) old new
