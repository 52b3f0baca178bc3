use Rattle.std.proofs.Common.{rules, arith, ◌≡◌, ◌∙◌, ap}
use Rattle.std.proofs.lemmas.Grind.{common_steps}
use Rattle.mc_base.specs.Announcement.{is_name}
use Rattle.endpoint_table.specs.Table.{name_of}
use Rattle.endpoint_table.proofs.NameLemmas.{decimal-three, decimal-five, name-is-name}
use Rattle.endpoint_table.proofs.name.name_of.Goals as goal

pub push_number-requires : goal.push_number-requires
push_number-requires c = search (rules, arith, decimal-three, decimal-five)

pub push-requires : goal.push-requires
push-requires c = search (rules, arith, decimal-three, decimal-five)

pub push_number-requires-2 : goal.push_number-requires-2
push_number-requires-2 c = search (rules, arith, decimal-three, decimal-five)

pub push-requires-2 : goal.push-requires-2
push-requires-2 c = search (rules, arith, decimal-three, decimal-five)

pub push_number-requires-3 : goal.push_number-requires-3
push_number-requires-3 c = search (rules, arith, decimal-three, decimal-five)

pub returns-clause-lawful : goal.returns-clause-lawful
returns-clause-lawful c =
    let is : c.push_number-3.new.name.items ≡ name_of c.args.domain c.args.local = grind (arith, common_steps) in
    ap is_name is ∙ name-is-name c.args.domain c.args.local (search (rules, arith)) (search (rules, arith)) (search (rules, arith))
