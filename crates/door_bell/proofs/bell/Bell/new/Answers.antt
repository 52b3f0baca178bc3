use Rattle.std.proofs.Common.{subst, sym}
use Rattle.std.specs.List.{AllByRecursion}
use Rattle.std.specs.Prelude.{List}
use Rattle.door_bell.specs.Shown.{RingerShown, IsRingerOf}
use Rattle.door_bell.proofs.ShownLemmas.{new_ringers_fit}
use Rattle.door_bell.specs.Change.{numbers_below}
use Rattle.door_bell.proofs.bell.Bell.new.Goals as goal

pub returns-clause-of_bell : goal.returns-clause-of_bell
returns-clause-of_bell c = let r = c.in-Ok.parts in subst (λ (rs : List RingerShown). AllByRecursion (IsRingerOf r.0) rs) (sym c.in-Ok.ensures.ringers) (new_ringers_fit r.0 (numbers_below c.args.ringers))
