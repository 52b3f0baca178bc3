use Rattle.std.proofs.Common.{◌≡◌, ◌<◌, ◌+◌, ◌-◌, ◌∷◌, [], List, ℕ, Option, MatchOption, take, subst, arith}
use Rattle.board_model.specs.Journal.{Line}
use Rattle.board_model.specs.Report.{line_text}
use Rattle.mc_journal.specs.Entry.{line_of_entry}
use Rattle.report_text.specs.declared.spelled_text.SpelledText.{SpelledText}
use Rattle.report_text.specs.TextLines.{lines_in}
use Rattle.report_check.specs.Meeting.{LinesLeft, AreMet, IsMissed, IsOtherText}
use Rattle.report_check.proofs.MeetingLemmas.{met-one, missed-one, missed-none}
use Rattle.report_check.proofs.due_lines.DueLines.meets.Goals as goal

-- what is found of the first line of a text
abbrev Found : Line → List ℕ → Option SpelledText → Type 0
Found line text o = MatchOption o (IsOtherText (line_text line) (lines_in text)) (λ rest. lines_in text ≡ line_text line ∷ lines_in rest.text.now)

abbrev left : ℕ → List ℕ → ℕ → LinesLeft
left count text place = record { texts = take count (lines_in text); place = place }

pub returns-then-self-eq0 : goal.returns-then-self-eq0
returns-then-self-eq0 c =
    subst (λ (l : LinesLeft). IsMissed l l (line_of_entry c.args.entry ∷ [])) c.self.view_is
    (missed-none c.self.inside.count c.self.inside.place (line_of_entry c.args.entry) c.self.inside.text.text.now c.if-self-eq0.true)

pub returns-in-Some : goal.returns-in-Some
returns-in-Some c =
    let line : Line = line_of_entry c.args.entry in
    let some : 0 < c.self.inside.count = omega arith in
    subst (λ (l : LinesLeft). AreMet l (left (c.self.inside.count - 1) c.in-Some.rest.text.now (c.self.inside.place + 1)) (line ∷ [])) c.self.view_is
    (met-one c.self.inside.count c.self.inside.place line c.self.inside.text.text.now c.in-Some.rest.text.now some (subst (Found line c.self.inside.text.text.now) c.in-Some.is c.in_ok-rest.ensures.found))

pub returns-in-None : goal.returns-in-None
returns-in-None c =
    let line : Line = line_of_entry c.args.entry in
    subst (λ (l : LinesLeft). IsMissed l (left c.self.inside.count c.self.inside.text.text.now c.self.inside.place) (line ∷ [])) c.self.view_is
    (missed-one c.self.inside.count c.self.inside.place line c.self.inside.text.text.now (subst (Found line c.self.inside.text.text.now) c.in-None.is c.in_ok-rest.ensures.found))
