use Rattle.std.proofs.Common.{◌≡◌, ◌-◌, ◌++◌, ◌∷◌, [], arith, rules}
use Rattle.mc_journal.specs.declared.kept.Kept.TheVariants as kept
use Rattle.mc_journal.proofs.Journals.{idle-joins, idle-begins}
use Rattle.mc_journal.proofs.kept.keep_idle.Goals as goal

pub returns-in-Some-clause-lines : goal.returns-in-Some-clause-lines
returns-in-Some-clause-lines c = λ bytes.
    idle-joins bytes c.args.entries.now.items c.in-Some.turns (c.len-last.result - 1) (omega arith) (rw c.deref.ensures.value at (c.in-Some.ensures.value bytes))

pub returns-in-None-clause-lines : goal.returns-in-None-clause-lines
returns-in-None-clause-lines c = λ bytes.
    let pushed : c.push_reserved.new.self.items ≡ c.args.entries.now.items ++ kept.Idle 1 ∷ [] = search rules in
    rw pushed (idle-begins bytes c.args.entries.now.items (rw c.deref.ensures.value at (c.in-None.ensures.value bytes)))
