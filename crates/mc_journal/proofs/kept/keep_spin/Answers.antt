use Rattle.std.proofs.Common.{◌≡◌, ◌-◌, ◌++◌, ◌∷◌, [], arith, rules}
use Rattle.mc_journal.specs.declared.kept.Kept.TheVariants as kept
use Rattle.mc_journal.proofs.Journals.{spin-joins, spin-begins}
use Rattle.mc_journal.proofs.kept.keep_spin.Goals as goal

pub returns-in-Some-clause-lines : goal.returns-in-Some-clause-lines
returns-in-Some-clause-lines c = λ bytes.
    spin-joins bytes c.args.word c.args.entries.now.items c.in-Some.times (c.len-last.result - 1) (omega arith) (rw c.deref.ensures.value at (c.in-Some.ensures.value bytes))

pub returns-in-None-clause-lines : goal.returns-in-None-clause-lines
returns-in-None-clause-lines c = λ bytes.
    let pushed : c.push_reserved.new.self.items ≡ c.args.entries.now.items ++ kept.Spin 1 c.args.word ∷ [] = search rules in
    rw pushed (spin-begins bytes c.args.word c.args.entries.now.items (rw c.deref.ensures.value at (c.in-None.ensures.value bytes)))
