use Rattle.std.proofs.Common.{ℕ, List, cond, Some, sym, ap, ◌∙◌}
use Rattle.std.specs.Str.{bytes_eq}
use Rattle.board_runner.specs.Held.{id_for}
use Rattle.board_runner.proofs.HeldLemmas.{tells_new}
use Rattle.board_runner.proofs.labels.hold_for.Goals as goal

-- the key that is inserted has the bytes of the label
pub returns-in-Ok : goal.returns-in-Ok
returns-in-Ok g c =
    let ids = c.args.ids.now in
    tells_new ids c.insert.new.self c.args.label.now.items c.args.id (sym c.contains_key.ensures ∙ c.if-contains_key.false)
    (λ other. c.in-Ok.ensures.updates.0 (record { items = other }) ∙ ap (λ (bytes : List ℕ). cond (bytes_eq bytes other) (Some c.args.id) (id_for ids other)) c.in_ok-key.ensures)
