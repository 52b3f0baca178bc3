-- A domain on its way through its script, as the check of a report holds it.
-- A line has fewer tries than 2^32, and so a wait turns, so that greater counts need not be told apart.
use Rattle.std.specs.Prelude.{◌≡◌, ℕ, ◌+◌, ◌*◌, ◌^◌, ◌<◌, ◌≤◌, min, length, Bool, true, false, ◌||◌, List, [], map, Option, None, Some, option_map, if◌then◌else◌, ◌==◌}
use Rattle.std.specs.List.{AllByRecursion}
use Rattle.mc_base.specs.Letter.{bytes_of_bits}
use Rattle.mc_base.specs.Limits.{longest_frame}
use Rattle.mc_base.specs.declared.refusal.Refusal.{Refusal}
use Rattle.board_model.specs.declared.scenario.Call.{Call}
use Rattle.board_model.specs.declared.scenario.Call.TheVariants.{SclSend, Raw}
use Rattle.board_model.specs.declared.scenario.CallLine.{CallLine}
use Rattle.board_model.specs.Answer.{refusal}
use Rattle.board_model.specs.Journal.{Line, PlainAnswer, PlainEntry, refuses, put_line}
use Rattle.board_model.specs.Labels.{Labels, no_labels}
use Rattle.board_model.specs.Run.{after_all}
use Rattle.board_model.specs.State.{DomainState}
use Rattle.board_model.specs.Step.{RunState, Waited, next_line, call_at, is_done_now, is_tried_word}
use Rattle.report_replay.specs.HeldLabels.{HoldLabels}
use Rattle.report_replay.specs.PlainCalls.{plain_call}
use Rattle.report_text.specs.StepPass.{spin_due}
use Rattle.report_check.specs.NamedStates.{plain, GoesOn, deeds_on}
use Rattle.report_check.specs.declared.run.Run.{Run}
use Rattle.report_check.specs.declared.run.Waiting.{Waiting}
use Rattle.report_check.specs.declared.next_call.NextCall.{NextCall}

abbrev pub capped : ℕ → ℕ
capped n = min n (2 ^ 32)

abbrev pub capped_wait : Waited → Waited
capped_wait w = record { turns = capped w.turns; done_before = w.done_before }

abbrev pub capped_run : RunState → RunState
capped_run r = record r { calls_made = capped r.calls_made; waited = option_map capped_wait r.waited }

-- the state of a run, with these labels
abbrev pub waited_of : Waiting → Waited
waited_of w = record { turns = w.turns; done_before = w.done_before }

abbrev pub seen : Run → Labels → RunState
seen run ls = record {
  state = plain run.state;
  lines_called = run.called;
  calls_made = run.made;
  labels = ls;
  put_since_turn = if run.turned then Some [] else None;
  waited = option_map waited_of run.waited;
}

abbrev pub Shows : Run → RunState → Type 0
Shows run r = capped_run r ≡ seen run r.labels

pub record IsAt (run : Run) (r : RunState) : Type 0 where
  pub labels : HoldLabels run.labels r.labels
  pub shows : Shows run r

-- a run has made these entries since it was at another
pub record Makes (script : List CallLine) (r : RunState) (es : List PlainEntry) (old new : Run) : Type 0 where
  pub at : IsAt new (after_all script r es)
  pub deeds : GoesOn old.state new.state (deeds_on script r es)

abbrev pub script_of : Run → List CallLine
script_of run = map (λ l. l.now) run.script.now

-- what each line puts fits into a frame: a scalar its bits, and a raw frame a buffer
abbrev pub FitsLine : Call → Type 0
FitsLine (SclSend port bits value) = value < 2 ^ (8 * bytes_of_bits bits)
FitsLine (Raw domain bytes) = length bytes ≤ longest_frame
FitsLine other = Unit {0}

abbrev pub HasFitLines : Run → Type 0
HasFitLines run = AllByRecursion (λ l. FitsLine l.call) (script_of run)

-- the call of the next line
pub record IsNext (n : NextCall) (r : RunState) : Type 0 where
  pub call : plain_call n.call ≡ call_at r n.line.now
  pub refusal : n.refusal ≡ refusal r.state n.line.now.node (call_at r n.line.now)

-- tries in a row are told by one line
abbrev pub told_by : Option ℕ → List Line → List Line
told_by None due = due
told_by (Some n) due = spin_due n due

-- so many turns more, which leave the state
abbrev pub wait_more : Bool → ℕ → Waiting → Waiting
wait_more done n w = record { turns = capped (w.turns + n); done_before = w.done_before || done }

abbrev pub turned_more : Bool → ℕ → Run → Run
turned_more done n run = record run { turned = true; waited = option_map (wait_more done n) run.waited }

-- so many tries more
abbrev pub tried_more : ℕ → Run → Run
tried_more n run = record run { made = capped (run.made + n); turned = false }

-- the word with which a call that is answered so may be made again
abbrev pub word_tried : PlainAnswer → Option Refusal
word_tried (refuses word) = if is_tried_word word then Some word else None
word_tried other = None

-- the lines of the frames that a call puts. Where there are any, tries are not told in a row
abbrev pub lines_put : List (ℕ × List ℕ) → List Line
lines_put ps = map (λ (p : ℕ × List ℕ). put_line p.0 p.1) ps

abbrev pub times_behind : ℕ → Option ℕ → Option ℕ
times_behind puts times = if puts == 0 then times else None

-- ---- where parts lead to

-- so many turns that leave the state
abbrev pub turns_more : Bool → ℕ → Waited → Waited
turns_more done n w = record { turns = w.turns + n; done_before = w.done_before || done }

abbrev pub turns_made : Bool → ℕ → RunState → RunState
turns_made done n r = record r { put_since_turn = Some []; waited = option_map (turns_more done n) r.waited }

abbrev pub tries_made : ℕ → RunState → RunState
tries_made n r = record r { calls_made = r.calls_made + n; put_since_turn = None }

abbrev pub calls_more : ℕ → RunState → RunState
calls_more n r = record r { calls_made = r.calls_made + n }

abbrev pub is_done_at : List CallLine → RunState → Bool
is_done_at script r = is_done_now (next_line script r) r

-- before the first part
abbrev pub begun : DomainState → RunState
begun s = record { state = s; lines_called = 0; calls_made = 0; labels = no_labels; put_since_turn = None; waited = None }
