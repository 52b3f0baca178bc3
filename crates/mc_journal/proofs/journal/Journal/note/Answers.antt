use Rattle.std.proofs.Common.{◌≡◌, ◌≤◌, ◌++◌, ◌∷◌, [], length, arith, rules, ap, ◌∙◌, length-append}
use Rattle.board_model.specs.Journal.{noted_again, noted_idle}
use Rattle.mc_journal.specs.Entry.{noted_entry, line_of_entry}
use Rattle.mc_journal.specs.Written.{Written}
use Rattle.mc_journal.proofs.Journals.{AreWithin-push, lines-push, IsPlain-from}
use Rattle.mc_journal.proofs.journal.Journal.note.Goals as goal

pub invariant_of-self : goal.invariant_of-self
invariant_of-self c = c.keep_idle.ensures.within _ c.self.invariant

pub returns-in-Idle-clause-lines : goal.returns-in-Idle-clause-lines
returns-in-Idle-clause-lines c = rw c.in-Idle.is (c.keep_idle.ensures.lines c.self.inside.bytes.items ∙ ap (λ (w : Written). noted_idle w.lines) c.self.view_is)

pub invariant_of-self-in-Again : goal.invariant_of-self-in-Again
invariant_of-self-in-Again c = c.keep_again.ensures.within _ c.self.invariant

pub returns-in-Again-clause-lines : goal.returns-in-Again-clause-lines
returns-in-Again-clause-lines c = rw c.in-Again.is (c.keep_again.ensures.lines c.self.inside.bytes.items ∙ ap (λ (w : Written). noted_again c.in-Again.word w.lines) c.self.view_is)

pub invariant_of-self-in_default : goal.invariant_of-self-in_default
invariant_of-self-in_default c =
    let pushed : c.push_reserved.new.self.items ≡ c.self.inside.entries.items ++ c.keep-kept.result ∷ [] = search rules in
    let more = c.keep-kept.ensures.bytes in
    let grew : length c.self.inside.bytes.items ≤ length c.keep-kept.new.bytes.items = omega (arith, ap length more.1, length-append c.self.inside.bytes.items more.0) in
    rw pushed (AreWithin-push _ _ _ _ grew c.self.invariant c.keep-kept.ensures.within)

pub returns-in_default-clause-lines : goal.returns-in_default-clause-lines
returns-in_default-clause-lines c =
    let pushed : c.push_reserved.new.self.items ≡ c.self.inside.entries.items ++ c.keep-kept.result ∷ [] = search rules in
    let more = c.keep-kept.ensures.bytes in
    let line = lines-push c.self.inside.bytes.items c.keep-kept.new.bytes.items more.0 c.self.inside.entries.items c.keep-kept.result c.args.entry (IsPlain-from c.args.entry c.in_default.not-Idle c.in_default.not-Again) c.self.invariant more.1 c.keep-kept.ensures.line in
    rw pushed (line ∙ ap (λ (w : Written). noted_entry w.lines (line_of_entry c.args.entry)) c.self.view_is)
