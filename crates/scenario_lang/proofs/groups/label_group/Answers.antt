use Rattle.std.proofs.Common.{sym, ◌≤◌, rules}
use Rattle.scenario_lang.proofs.GroupLemmas.{too-many}
use Rattle.scenario_lang.proofs.groups.label_group.Goals as goal

pub returns : goal.returns
returns c =
    let many : 8 ≤ c.loop.counter = search rules in
    sym (too-many c.args.word.now c.loop.labels.items c.loop.rest.now c.loop.counter c.loop.invariant many)
