use Rattle.std.proofs.Common.{◌≡◌, ℕ, true, List, [], ◌∷◌, length, refl, ap, ◌∙◌, sym, arith}
use Rattle.std.specs.Prelude.{◌==◌}
use Rattle.std.proofs.lemmas.Bool.Decides.{nat_tests}
use Rattle.report_check.specs.Meeting.{place_at_end}
use Rattle.report_check.proofs.MeetingLemmas.{end-none, end-empty, end-some}
use Rattle.report_check.proofs.due_lines.DueLines.end.Goals as goal

empty : (text : List ℕ) → (length text == 0) ≡ true → text ≡ []
empty [] e = refl
empty (b ∷ bs) e = absurd (grind (arith, nat_tests))

pub returns-then-self-eq0 : goal.returns-then-self-eq0
returns-then-self-eq0 c = end-none c.self.inside.count c.self.inside.place c.self.inside.text.text.now c.if-self-eq0.true ∙ ap place_at_end c.self.view_is

pub returns-then-is_empty : goal.returns-then-is_empty
returns-then-is_empty c =
    end-empty c.self.inside.count c.self.inside.place c.self.inside.text.text.now (empty c.self.inside.text.text.now (sym c.is_empty.ensures ∙ c.if-is_empty.true)) ∙ ap place_at_end c.self.view_is

pub returns-else-is_empty : goal.returns-else-is_empty
returns-else-is_empty c = end-some c.self.inside.count c.self.inside.place c.self.inside.text.text.now (omega arith) (sym c.is_empty.ensures ∙ c.if-is_empty.false) ∙ ap place_at_end c.self.view_is
