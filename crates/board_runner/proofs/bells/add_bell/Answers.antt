use Rattle.std.proofs.Common.{[], ◌∷◌, ◌++◌, List, ap, sym, subst}
use Rattle.door_bell.specs.Shown.{BellShown}
use Rattle.door_bell.specs.declared.view.SleeperView.{SleeperView}
use Rattle.board_runner.specs.declared.bells.BellParts.{BellParts}
use Rattle.board_runner.specs.Bells.{HasParts, HaveParts}
use Rattle.board_runner.proofs.BellLemmas.{bells-more}
use Rattle.board_runner.proofs.bells.add_bell.Goals as goal

pub returns-in_ok-append-in-Ok-2 : goal.returns-in_ok-append-in-Ok-2
returns-in_ok-append-in-Ok-2 c =
    let made = c.in-Ok.ensures in
    let own : BellParts = record { owner = c.args.owner; sleeper = c.in-Ok.sleeper; ringers = c.in-Ok.ringers } in
    let has : HasParts c.in-Ok.bell own = record { sleeper = made.sleeper.0; awake = ap (λ (v : SleeperView). v.stage) made.sleeper.1; ringers = made.of_bell } in
    subst (λ (bs : List BellShown). HaveParts bs c.append-in-Ok.new.items.items) (sym c.in_ok-append-in-Ok.ensures)
    (subst (λ (ps : List BellParts). HaveParts (c.args.bells.now.items ++ c.in-Ok.bell ∷ []) ps) (sym c.in_ok-append-in-Ok-2.ensures) (bells-more c.args.bells.now.items c.args.parts.now.items c.in-Ok.bell own c.requires.parts has))
