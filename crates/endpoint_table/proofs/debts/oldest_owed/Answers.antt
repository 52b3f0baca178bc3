use Rattle.std.proofs.Common.{rules, arith, ◌≡◌, ◌∙◌, ◌-◌, ◌<◌, ◌≤◌, length, sym}
use Rattle.std.proofs.lemmas.Option.{slice_get_past, slice_get_read}
use Rattle.endpoint_table.proofs.DebtLemmas.{oldest_owed-some, oldest_owed-none, nothing_owed}
use Rattle.endpoint_table.proofs.debts.oldest_owed.Goals as goal

pub returns-in_err-debt : goal.returns-in_err-debt
returns-in_err-debt c = c.from_residual.ensures ∙ sym (oldest_owed-none c.args.events.now.items c.args.peer c.args.debts.now c.in_err-debt.ensures)

pub returns-in_err-event : goal.returns-in_err-event
returns-in_err-event c =
    let es = c.args.events.now.items in
    let d = c.in_ok-debt.debt in
    let past : length es ≤ length es - d.owed = search (rules, arith) in
    c.from_residual-in_err-event.ensures ∙ sym (oldest_owed-some es c.args.peer c.args.debts.now d c.in_ok-debt.ensures ∙ slice_get_past es (length es - d.owed) past)

pub returns : goal.returns
returns c =
    let es = c.args.events.now.items in
    let d = c.in_ok-debt.debt in
    let event = c.in_ok-event.event.now in
    let within : length es - d.owed < length es = search (rules, arith) in
    sym (slice_get_read es (length es) (length es - d.owed) event (search rules) within (search rules)) ∙ sym (oldest_owed-some es c.args.peer c.args.debts.now d c.in_ok-debt.ensures)

pub returns-then-is_empty : goal.returns-then-is_empty
returns-then-is_empty c =
    let es = c.args.events.now.items in
    let none : length es ≡ 0 = search (rules, arith) in
    sym (nothing_owed es c.args.peer c.args.debts.now none)
