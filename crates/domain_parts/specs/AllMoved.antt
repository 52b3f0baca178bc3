-- The moves that a domain makes at the ends towards all its peers.
-- Source: docs/PROFILE.md, "A turn" and "Calls".
use Rattle.std.specs.Prelude.{ℕ, List, [], ◌∷◌, ◌++◌, ◌==◌, map, filter}
use Rattle.board_model.specs.Journal.{Visit}
use Rattle.board_model.specs.Deeds.{after_deeds}
use Rattle.board_model.specs.State.{DomainState, Item, frames_from}
use Rattle.domain_parts.specs.declared.peer.Peer.{Peer}
use Rattle.domain_parts.specs.LaneMoves.{LaneMove}
use Rattle.domain_parts.specs.NumberedDeeds.{numbered_deeds}
pub use Rattle.domain_parts.specs.VisitMoves.{giving}
use Rattle.domain_parts.specs.VisitMoves.{putting, visit_moves}

-- the ends towards each peer, in the order of the peers
abbrev pub ends_of : {L : Type 0} → List (Peer L) → List L
ends_of ps = map (λ p. p.ends) ps

abbrev pub numbers_of : {L : Type 0} → List (Peer L) → List ℕ
numbers_of ps = map (λ p. p.number) ps

-- for each peer its moves lead from the one ends to the other
abbrev pub AllMoved : {L : Type 0} → (L → List LaneMove → L → Type 0) → List L → List (List LaneMove) → List L → Type 0
AllMoved Moved [] [] [] = Unit {0}
AllMoved Moved (a ∷ olds) (ms ∷ moves) (b ∷ news) = Moved a ms b × AllMoved Moved olds moves news
AllMoved Moved olds moves news = ⊥

-- the moves of the visits of a turn from a state, with the numbers of the buffers of the frames that each takes
abbrev pub turn_moves : DomainState → List Visit → List (List ℕ) → List (List LaneMove)
turn_moves s [] numbers = []
turn_moves s (v ∷ vs) [] = []
turn_moves s (v ∷ vs) (ns ∷ numbers) = visit_moves s v ns ∷ turn_moves (after_deeds s (numbered_deeds v ns)) vs numbers

-- the frames that a call puts to a peer
abbrev pub frames_to : ℕ → List (ℕ × List ℕ) → List (List ℕ)
frames_to peer puts = map (λ p. p.1) (filter (λ p. p.0 == peer) puts)

-- the moves of a call at a peer: the frames that it puts to it, and the buffers of the items that it gives back to it, which are the names of
-- their frames
abbrev pub moves_at : List (ℕ × List ℕ) → List Item → ℕ → List LaneMove
moves_at puts items peer = putting (frames_to peer puts) ++ giving (frames_from peer items)

abbrev pub call_moves : List (ℕ × List ℕ) → List Item → List ℕ → List (List LaneMove)
call_moves puts items peers = map (moves_at puts items) peers
