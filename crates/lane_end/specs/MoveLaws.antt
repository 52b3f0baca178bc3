-- What holds wherever moves lead from one state to another.
-- Source: docs/PROFILE.md, "Lanes".
use Rattle.std.specs.Prelude.{◌≡◌, List, [], ◌∷◌, ◌++◌}
use Rattle.std.proofs.Common.{ap, ◌∙◌}
use Rattle.lane_end.specs.Moves.{Lead}

-- two lists of moves, one after the other, are one list of moves
pub Lead-append : {End Move : Type 0} (May : End → Move → Type 0) (after : End → Move → End) (a b c : End) (xs ys : List Move) → Lead May after a xs b → Lead May after b ys c → Lead May after a (xs ++ ys) c
Lead-append May after a b c [] ys first then = rw (← first) then
Lead-append May after a b c (m ∷ xs) ys first then = (first.0, Lead-append May after (after a m) b c xs ys first.1 then)

-- what no single move changes, no list of moves changes
pub Lead-keeps : {End Move Part : Type 0} (May : End → Move → Type 0) (after : End → Move → End) (part : End → Part) → ((e : End) (m : Move) → May e m → part (after e m) ≡ part e) → (a b : End) (xs : List Move) → Lead May after a xs b → part b ≡ part a
Lead-keeps May after part stays a b [] moved = ap part moved
Lead-keeps May after part stays a b (m ∷ xs) moved = Lead-keeps May after part stays (after a m) b xs moved.1 ∙ stays a m moved.0
