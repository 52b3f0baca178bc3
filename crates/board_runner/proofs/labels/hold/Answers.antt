use Rattle.std.proofs.Common.{List, ℕ, Option, Some, sym, ap, subst}
use Rattle.std.specs.Prelude.{OnOk, option_map}
use Rattle.board_runner.specs.Held.{TellsId}
use Rattle.board_runner.proofs.labels.hold.Goals as goal

pub returns : goal.returns
returns g c =
    let label = ap (option_map (λ l. l.now.items)) c.in-Some-Some.is-0 in
    subst (λ (l : Option (List ℕ)). OnOk c.hold_for.result (TellsId l c.args.given c.args.ids.now c.hold_for.new.ids)) (sym label)
    (subst (λ x. OnOk c.hold_for.result (TellsId (Some c.in-Some-Some.label.now.items) x c.args.ids.now c.hold_for.new.ids)) (sym c.in-Some-Some.is-1) c.hold_for.ensures)
