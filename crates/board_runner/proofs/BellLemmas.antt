-- Bells and their parts, place by place.
use Rattle.std.proofs.Common.{◌≡◌, ℕ, zero, suc, ◌+◌, List, [], ◌∷◌, ◌++◌, drop, Some, refl, subst, arith}
use Rattle.std.specs.Prelude.{slice_get}
use Rattle.door_bell.specs.Shown.{BellShown}
use Rattle.board_runner.specs.declared.bells.BellParts.{BellParts}
use Rattle.board_runner.specs.Bells.{HasParts, HaveParts}

-- one bell more
pub bells-more : (bs : List BellShown) (ps : List BellParts) (b : BellShown) (p : BellParts) → HaveParts bs ps → HasParts b p → HaveParts (bs ++ b ∷ []) (ps ++ p ∷ [])
bells-more [] [] b p have has = (has, tt)
bells-more [] (q ∷ ps) b p have has = absurd have
bells-more (a ∷ bs) [] b p have has = absurd have
bells-more (a ∷ bs) (q ∷ ps) b p have has = (have.0, bells-more bs ps b p have.1 has)

-- the next of them
pub record NextBell (bs : List BellShown) (i : ℕ) (p : BellParts) (ps : List BellParts) : Type 0 where
  pub on : BellShown
  pub on_at : slice_get bs i ≡ Some on
  pub parts : HasParts on p
  pub rest : HaveParts (drop (i + 1) bs) ps

pub next-bell : (bs : List BellShown) (i : ℕ) (p : BellParts) (ps : List BellParts) → HaveParts (drop i bs) (p ∷ ps) → NextBell bs i p ps
next-bell [] zero p ps have = absurd have
next-bell [] (suc i) p ps have = absurd have
next-bell (b ∷ bs) zero p ps have = record { on = b; on_at = refl; parts = have.0; rest = have.1 }
next-bell (b ∷ bs) (suc i) p ps have =
    let n = next-bell bs i p ps have in
    let next : suc (i + 1) ≡ suc i + 1 = omega arith in
    record { on = n.on; on_at = n.on_at; parts = n.parts; rest = subst (λ (k : ℕ). HaveParts (drop k (b ∷ bs)) ps) next n.rest }
