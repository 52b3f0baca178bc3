use Rattle.std.proofs.Common.{◌≡◌, ◌-◌, ◌++◌, ◌∷◌, [], List, length, map, take, true, false, slice_get, vec_len, arith, ap, ◌∙◌, rules}
use Rattle.std.proofs.ByRecursion.{All-take}
use Rattle.board_model.specs.Journal.{is_one_idle, noted_spin}
use Rattle.mc_journal.specs.declared.kept.Kept.{Kept}
use Rattle.mc_journal.specs.declared.kept.Kept.TheVariants as kept
use Rattle.mc_journal.specs.Kept.{IsWithin, kept_line}
use Rattle.mc_journal.proofs.Journals.{again-spins, again-stands}
use Rattle.mc_journal.proofs.kept.keep_again.Goals as goal

pub returns-then-follows_one_idle-clause-lines : goal.returns-then-follows_one_idle-clause-lines
returns-then-follows_one_idle-clause-lines c = λ bytes.
    let ks = c.args.entries.now.items in
    let one : true ≡ is_one_idle (slice_get (map (kept_line bytes) ks) (length ks - 1)) = rw c.deref.ensures.value at (c.if-follows_one_idle.ensures.value bytes) in
    let long : vec_len c.args.entries.now - 1 ≡ length ks - 1 = omega arith in
    c.keep_spin.ensures.lines bytes ∙ ap (λ (es : List Kept). noted_spin c.args.word (map (kept_line bytes) es)) (c.pop.ensures.rest ∙ ap (λ n. take n ks) long) ∙ again-spins bytes c.args.word ks one

pub returns-then-follows_one_idle-clause-within : goal.returns-then-follows_one_idle-clause-within
returns-then-follows_one_idle-clause-within c = λ n within.
    c.keep_spin.ensures.within n (rw c.pop.ensures.rest (All-take (IsWithin n) (vec_len c.args.entries.now - 1) c.args.entries.now.items within))

pub returns-else-follows_one_idle-clause-lines : goal.returns-else-follows_one_idle-clause-lines
returns-else-follows_one_idle-clause-lines c = λ bytes.
    let ks = c.args.entries.now.items in
    let pushed : c.push_reserved.new.self.items ≡ ks ++ kept.Again c.args.word ∷ [] = search rules in
    let other : false ≡ is_one_idle (slice_get (map (kept_line bytes) ks) (length ks - 1)) = rw c.deref.ensures.value at (c.if-follows_one_idle.ensures.value bytes) in
    rw pushed (again-stands bytes c.args.word ks other)
