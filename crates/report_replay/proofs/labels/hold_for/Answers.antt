use Rattle.std.proofs.Common.{Some, sym, ◌∙◌}
use Rattle.std.proofs.lemmas.Map.Text.{hash_map_updates_str}
use Rattle.report_replay.proofs.SerialsHeld.{told_new}
use Rattle.report_replay.proofs.labels.hold_for.Goals as goal

pub returns-in-Ok : goal.returns-in-Ok
returns-in-Ok c =
    let old = c.args.serials.now in
    let new = c.insert.new.self in
    told_new old new c.args.label.now c.args.serial (sym c.contains_key.ensures ∙ c.if-contains_key.false) (hash_map_updates_str c.args.label.now old new (Some c.args.serial) c.in-Ok.ensures.updates)
