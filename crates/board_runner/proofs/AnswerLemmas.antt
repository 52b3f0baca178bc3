-- The last call of a line is answered in the journal; turns, frames that are put, and calls that are made again leave no answer there.
use Rattle.std.proofs.Common.{◌≡◌, ℕ, ◌+◌, ◌≤◌, Bool, true, false, List, [], ◌∷◌, ◌++◌, length, map, Some, refl, sym, ap, ◌∙◌, subst, append-nil}
use Rattle.mc_base.specs.Limits.{asked_limit}
use Rattle.board_model.specs.declared.scenario.CallLine.{CallLine}
use Rattle.board_model.specs.Journal.{Line, PlainEntry, turned, again, waits, called, noted_all, call_line, PlainAnswer, Visit}
use Rattle.board_model.specs.Logs.{answers_in, answers_on, bytes_answered}
use Rattle.board_model.specs.Serial.{put_entry}
use Rattle.board_model.specs.SerialRun.{word_in}
use Rattle.board_model.specs.Answer.{answer as answer_of, puts}
use Rattle.board_model.specs.Step.{is_timeout, limit_of}
use Rattle.board_model.proofs.LogLines.{answers-noted, answers-all}
use Rattle.domain_core.specs.Waiting.{wait_entries, wait_on}
use Rattle.domain_core.specs.Awaiting.{places_named}
use Rattle.mc_journal.specs.declared.entry.Answer.{Answer}
use Rattle.mc_journal.specs.declared.entry.Answer.TheVariants as answer
use Rattle.mc_journal.specs.declared.entry.Told.TheVariants as told
use Rattle.mc_journal.specs.Entry.{plain_answer, bytes_in_answer}
use Rattle.board_runner.specs.declared.station.Station.{Station}
use Rattle.board_runner.specs.declared.line.Made.{Made}
use Rattle.board_runner.specs.AnswerForms.{form_of_answer, has_form}
use Rattle.board_runner.specs.Answered.{IsAnswered, KeepsAnswers}
use Rattle.board_runner.specs.Lines.{MakesCall, NotesAgain, NotesCalled, NotesAnswer, Tries, call_at_station}
use Rattle.board_runner.specs.Waits.{RunsWait, ids_named}
use Rattle.board_runner.proofs.AnswerFormLemmas.{call-answers, waited-answers}

-- ---- entries without an answer

puts_none : (ps : List (ℕ × List ℕ)) → answers_in (map put_entry ps) ≡ []
puts_none [] = refl
puts_none (p ∷ ps) = puts_none ps

turns_none : (turns : List (List Visit)) → answers_in (map turned turns) ≡ []
turns_none [] = refl
turns_none (vs ∷ turns) = turns_none turns

wait_none : (number : ℕ) (begins : Bool) (turns : List (List Visit)) → answers_in (wait_entries number begins turns) ≡ []
wait_none number true turns = turns_none turns
wait_none number false turns = refl

no_more : (lines lines' : List Line) (es : List PlainEntry) → lines' ≡ noted_all lines es → answers_in es ≡ [] → answers_on lines' ≡ answers_on lines
no_more lines lines' es told none = ap answers_on told ∙ answers-all lines es ∙ ap (λ xs. answers_on lines ++ xs) none ∙ append-nil (answers_on lines)

-- ---- the bytes of an answer

bytes_same : (a : Answer) → length (bytes_answered (plain_answer a)) ≡ bytes_in_answer a
bytes_same (answer.Refused word) = refl
bytes_same answer.Ok = refl
bytes_same (answer.Number n) = refl
bytes_same (answer.Channel request channel) = refl
bytes_same (answer.Bytes size bytes) = refl
bytes_same (answer.Done place (told.Bytes size bytes)) = refl
bytes_same (answer.Done place (told.Address address)) = refl
bytes_same (answer.Done place told.Accepted) = refl
bytes_same (answer.Done place (told.Rejected reason)) = refl
bytes_same (answer.Done place (told.Ended word)) = refl

-- ---- the calls of a line

answered : (line : CallLine) (m : Made) (old mid new : Station) → KeepsAnswers old mid → has_form (form_of_answer line.call) (plain_answer m.answer) ≡ true → bytes_in_answer m.answer ≤ asked_limit → NotesCalled line m mid new → IsAnswered line.call old new
answered line m old mid new keeps form fits notes =
    let a : PlainAnswer = plain_answer m.answer in
    record {
      answer = a;
      front = mid.journal.lines;
      last = notes.told ∙ ap (λ n. mid.journal.lines ++ call_line n a ∷ []) (sym notes.number);
      answers = ap answers_on notes.told ∙ answers-noted mid.journal.lines (called (mid.number + 1) a) ∙ ap (λ xs. xs ++ a ∷ []) keeps;
      to_call = record { in_form = form; bytes_fit = subst (λ (n : ℕ). n ≤ asked_limit) (sym (bytes_same m.answer)) fits };
    }

call_keeps : (line : CallLine) (old new : Station) (m : Made) → MakesCall line old new m → KeepsAnswers old new
call_keeps line old new m makes = no_more old.journal.lines new.journal.lines (turned makes.calls.visits ∷ map put_entry (puts makes.calls.turned_to.state line.node (call_at_station line old))) makes.calls.told (puts_none (puts makes.calls.turned_to.state line.node (call_at_station line old)))

again_keeps : (m : Made) (old new : Station) → NotesAgain m old new → KeepsAnswers old new
again_keeps m old new notes = ap answers_on notes.told ∙ answers-noted old.journal.lines (again (word_in (plain_answer m.answer))) ∙ append-nil (answers_on old.journal.lines)

-- a call that is made again
pub tries-keep : (line : CallLine) (may is_again is_quiet : Bool) (first old new : Station) → KeepsAnswers first old → Tries line may old new is_again is_quiet → is_again ≡ true → KeepsAnswers first new
tries-keep line may is_again is_quiet first old new keeps tries e =
    let notes = subst (λ (b : Bool). NotesAnswer b line tries.made tries.called_to new) e tries.notes in
    again_keeps tries.made tries.called_to new notes ∙ call_keeps line old tries.called_to tries.made tries.makes ∙ keeps

-- the last one
pub tries-answer : (line : CallLine) (may is_again is_quiet : Bool) (first old new : Station) → KeepsAnswers first old → Tries line may old new is_again is_quiet → is_again ≡ false → IsAnswered line.call first new
tries-answer line may is_again is_quiet first old new keeps tries e =
    let notes = subst (λ (b : Bool). NotesAnswer b line tries.made tries.called_to new) e tries.notes in
    let calls = tries.makes.calls in
    let form : has_form (form_of_answer line.call) (plain_answer tries.made.answer) ≡ true =
    ap (has_form (form_of_answer line.call)) calls.does.answer ∙ call-answers calls.turned_to.state line.node old.ids old.packets old.domain.ids old.domain.packets line.call in
    answered line tries.made first tries.called_to new (call_keeps line old tries.called_to tries.made tries.makes ∙ keeps) form tries.makes.bytes_fit notes

-- ---- a wait

pub wait-answers : (line : CallLine) (limit : ℕ) (old new : Station) → limit_of line.call ≡ Some limit → RunsWait line limit old new → IsAnswered line.call old new
wait-answers line limit old new is runs =
    let waits = runs.waits.made.waits in
    let ids = ids_named old.ids line.call in
    let form : has_form (form_of_answer line.call) (plain_answer runs.made.answer) ≡ true =
    ap (has_form (form_of_answer line.call)) waits.ends.0.answer ∙ waited-answers waits.polled_to.state 0 (places_named ids waits.polled_to) line.call limit is in
    let begins = is_timeout (answer_of old.domain.state 0 (wait_on (ids_named old.ids line.call) false old.domain)) in
    answered line runs.made old runs.waited_to new (no_more old.journal.lines runs.waited_to.journal.lines (wait_entries (old.number + 1) begins waits.turns) waits.told (wait_none (old.number + 1) begins waits.turns)) form runs.waits.made.bytes_fit runs.notes
