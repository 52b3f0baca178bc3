use Rattle.std.proofs.Common.{rules, arith, ◌≡◌, ◌∙◌, ap}
use Rattle.std.proofs.lemmas.Grind.{common_steps}
use Rattle.mc_base.specs.Announcement.{is_name}
use Rattle.mc_base.specs.FullName.{full_name, end_name}
use Rattle.mc_base.proofs.NameFields.{length-three, length-five, full-name-is-name}
use Rattle.report_replay.proofs.owed.full_name.Goals as goal

pub push_number-requires : goal.push_number-requires
push_number-requires c = search (rules, arith, length-three, length-five)

pub push-requires : goal.push-requires
push-requires c = search (rules, arith, length-three, length-five)

pub push_number-requires-2 : goal.push_number-requires-2
push_number-requires-2 c = search (rules, arith, length-three, length-five)

pub push-requires-2 : goal.push-requires-2
push-requires-2 c = search (rules, arith, length-three, length-five)

pub push_number-requires-3 : goal.push_number-requires-3
push_number-requires-3 c = search (rules, arith, length-three, length-five)

pub returns-clause-lawful : goal.returns-clause-lawful
returns-clause-lawful c =
    let is : c.push_number-3.new.name.items ≡ full_name (end_name c.args.domain c.args.local) = grind (arith, common_steps) in
    ap is_name is ∙ full-name-is-name (end_name c.args.domain c.args.local) (search (rules, arith)) (search (rules, arith)) (search (rules, arith))
