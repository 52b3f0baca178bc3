-- The bells of a board.
-- Source: docs/ARCHITECTURE.md, "Doorbells".
use Rattle.std.specs.Prelude.{◌≡◌, List, [], ◌∷◌}
use Rattle.std.specs.List.{AllByRecursion}
use Rattle.door_bell.specs.Shown.{BellShown, IsRingerOf, IsSleeperOf}
use Rattle.door_bell.specs.declared.view.Stage.TheVariants.{Awake}
use Rattle.board_runner.specs.declared.bells.BellParts.{BellParts}

-- a bell's own sleeper, which is awake, and its own ringers
pub record HasParts (bell : BellShown) (p : BellParts) : Type 0 where
  pub sleeper : IsSleeperOf bell p.sleeper
  pub awake : p.sleeper.view.stage ≡ Awake
  pub ringers : AllByRecursion (IsRingerOf bell) p.ringers.items

-- of all bells
abbrev pub HaveParts : List BellShown → List BellParts → Type 0
HaveParts [] [] = Unit {0}
HaveParts (b ∷ bs) (p ∷ ps) = HasParts b p × HaveParts bs ps
HaveParts bs ps = ⊥
