-- The second pass over a report: the first line of a journal that is not the one that is due in its domain's state.
-- Source: docs/PROFILE.md, "A turn", "Steps", "Tries" and "Waits". Where a turn has other lines than those due, the first that differs is wrong, and
-- the line behind where some are missing at the end; so too at the puts of a call and its answer, which is told as text.
use Rattle.std.specs.Prelude.{ℕ, ◌+◌, ◌-◌, min, nat_lt, nat_le, Bool, not, ◌&&◌, ◌||◌, List, [], ◌∷◌, ◌++◌, length, map, take, drop, replicate, ◌==◌, Option, None, Some, if◌then◌else◌}
use Rattle.std.specs.List.{flat_map}
use Rattle.mc_base.specs.Limits.{turn_limit}
use Rattle.board_model.specs.declared.scenario.CallLine.{CallLine}
use Rattle.board_model.specs.declared.scenario.Scenario.{Scenario}
use Rattle.board_model.specs.Scenario.{script}
use Rattle.board_model.specs.Journal.{PlainAnswer, refuses, Taken, taken, Visit, visit_lines, turned, Line, again_line, spin_line, turn_line, put_line, wait_line, call_line}
use Rattle.board_model.specs.State.{DomainState, Peer, peer_of, held_from}
use Rattle.board_model.specs.TakenFrames.{row_from}
use Rattle.board_model.specs.Deeds.{looks_back, puts_owed, looks_ahead, takes, after_deed, after_deeds}
use Rattle.board_model.specs.Turn.{due_frames, after_visit}
use Rattle.board_model.specs.Answer.{answer, puts}
use Rattle.board_model.specs.Step.{RunState, Waited, next_line, call_at, tries_again, limit_of, is_timeout, is_done, after}
use Rattle.board_model.specs.Run.{start, after_all}
use Rattle.board_model.specs.Report.{line_text}
use Rattle.board_model.specs.Unjoined.{peers_of, visit_in}
use Rattle.board_model.specs.JournalParts.{Part, idles, spins, tries, turn_of, wait_of, call_of, part_lines, part_entries}
use Rattle.report_text.specs.TextLines.{first_other, moved, or_else}
use Rattle.report_text.specs.JournalRead.{JournalText, lines_of_texts, parts_in}

-- ---- the visits that are due: what the domain does where its lanes show what is told, as far as they allow

-- a count as told, where the lane allows it, and else the nearest that it allows
abbrev pub due_back : Peer → ℕ → ℕ
due_back p n = min n (p.size - p.free)

abbrev pub due_see : Peer → ℕ → ℕ → ℕ
due_see p held n = if nat_lt n p.shown then p.shown else min n (p.size - held)

-- so many frames, the first as told. Where fewer are told, a look was told that the lane does not allow, and frames of one byte come
abbrev pub frames_coming : ℕ → List (List ℕ) → List (List ℕ)
frames_coming n told = take n (told ++ replicate n (0 ∷ []))

-- each frame with the word that the state has for it
abbrev pub due_takes : DomainState → ℕ → List (List ℕ) → List Taken
due_takes s peer [] = []
due_takes s peer (f ∷ fs) =
    let word = (row_from s peer None f).word in
    taken f word ∷ due_takes (after_deed s (takes peer None f word)) peer fs

-- with so many buffers that came back, these frames put and so many shown
abbrev pub due_with : DomainState → Visit → ℕ → List (List ℕ) → ℕ → Visit
due_with s v back owed see =
    record {
      peer = v.peer;
      back = back;
      owed = owed;
      see = see;
      takes = due_takes (after_deeds s (looks_back v.peer back ∷ (map (puts_owed v.peer) owed ++ looks_ahead v.peer see ∷ []))) v.peer (frames_coming (min turn_limit see) (map (λ t. t.frame) v.takes));
    }

abbrev pub due_at : DomainState → Visit → Option Peer → Visit
due_at s v None = v
due_at s v (Some p) = due_with s v (due_back p v.back) (due_frames s.number p (due_back p v.back)) (due_see p (held_from v.peer s) v.see)

abbrev pub due_visit : DomainState → Visit → Visit
due_visit s v = due_at s v (peer_of s v.peer)

-- each in the state that those before it leave
abbrev pub due_visits : DomainState → List Visit → List Visit
due_visits s [] = []
due_visits s (v ∷ vs) = due_visit s v ∷ due_visits (after_visit s (due_visit s v)) vs

abbrev pub due_lines : RunState → List Visit → List Line
due_lines r vs = flat_map visit_lines (due_visits r.state vs)

-- ---- the call that is due

-- where a call of the next line is answered so, or is made again
abbrev pub due_answer : CallLine → RunState → PlainAnswer → List Line
due_answer line r (refuses word) = if tries_again line r (refuses word) then again_line word ∷ [] else call_line (r.lines_called + 1) (refuses word) ∷ []
due_answer line r a = call_line (r.lines_called + 1) a ∷ []

-- a wait that has begun ends at its limit of turns, or after the first turn after which one of its requests is complete
abbrev pub has_ended : ℕ → PlainAnswer → Waited → Bool
has_ended limit a w = (w.turns == limit && is_timeout a) || (nat_le w.turns limit && (not w.done_before && is_done a))

-- one that has not begun begins where none of its requests is complete, and else is answered
abbrev pub due_wait : ℕ → RunState → PlainAnswer → Option Waited → List Line
due_wait limit r a None = if is_timeout a then wait_line (r.lines_called + 1) ∷ [] else call_line (r.lines_called + 1) a ∷ []
due_wait limit r a (Some w) = if has_ended limit a w then call_line (r.lines_called + 1) a ∷ [] else []

-- another call is due behind a turn, with its puts
abbrev pub due_behind : CallLine → RunState → Option (List (ℕ × List ℕ)) → List Line
due_behind line r None = []
due_behind line r (Some ps) = map (λ p. put_line p.0 p.1) (puts r.state line.node (call_at r line)) ++ due_answer line r (answer r.state line.node (call_at r line))

abbrev pub due_at_limit : Option ℕ → CallLine → RunState → List Line
due_at_limit None line r = due_behind line r r.put_since_turn
due_at_limit (Some limit) line r = due_wait limit r (answer r.state line.node (call_at r line)) r.waited

-- and while the script has a line
abbrev pub due_by : Option CallLine → RunState → List Line
due_by None r = []
due_by (Some line) r = due_at_limit (limit_of line.call) line r

abbrev pub due_call : List CallLine → RunState → List Line
due_call script r = due_by (next_line script r) r

-- ---- the first line that differs

abbrev pub other_than : List Line → List (List ℕ) → Option ℕ
other_than due texts = first_other texts (map line_text due)

-- ---- parts

abbrev pub idle_visits : List ℕ → List Visit
idle_visits peers = map (visit_in []) peers

-- an idle turn is one in which no line is due
abbrev pub idle_place : List ℕ → RunState → Option ℕ
idle_place peers r = if length (due_lines r (idle_visits peers)) == 0 then None else Some 0

-- behind an idle turn, before the last of so many tries, which change nothing else
abbrev pub before_last : List CallLine → List ℕ → ℕ → RunState → RunState
before_last script peers n r = record (after script r (turned (idle_visits peers))) { calls_made = r.calls_made + (n - 1) }

-- tries in a row are told by their last
abbrev pub spin_due : ℕ → List Line → List Line
spin_due n (again_line word ∷ []) = spin_line n word ∷ []
spin_due n due = due

abbrev pub part_place : List CallLine → List ℕ → RunState → Part → List (List ℕ) → Option ℕ
part_place script peers r (idles n) texts = idle_place peers r
part_place script peers r (spins n word) texts = or_else (idle_place peers r) (other_than (spin_due n (due_call script (before_last script peers n r))) texts)
part_place script peers r (tries word) texts = other_than (due_call script r) texts
part_place script peers r (turn_of vs) texts = other_than (turn_line ∷ due_lines r vs) texts
part_place script peers r (wait_of k) texts = other_than (due_call script r) texts
part_place script peers r (call_of ps k a) texts = other_than (due_call script r) texts

-- the texts of a part are the first of these
abbrev pub texts_of : Part → List (List ℕ) → List (List ℕ)
texts_of p texts = take (length (part_lines p)) texts

abbrev pub step_place : List CallLine → List ℕ → RunState → List Part → List (List ℕ) → Option ℕ
step_place script peers r [] texts = None
step_place script peers r (p ∷ ps) texts = or_else (part_place script peers r p (texts_of p texts)) (moved (length (part_lines p)) (step_place script peers (after_all script r (part_entries peers p)) ps (drop (length (part_lines p)) texts)))

-- ---- a journal of the report

abbrev pub parts_of : Scenario → JournalText → List Part
parts_of s j = parts_in (peers_of s j.line) (script s j.line.domain) (lines_of_texts j.texts)

abbrev pub wrong_step : Scenario → JournalText → Option ℕ
wrong_step s j = moved j.number (step_place (script s j.line.domain) (peers_of s j.line) (start s j.line) (parts_of s j) j.texts)

-- a journal that ends before its script does is told at the line behind its last
abbrev pub lines_left : RunState → List CallLine → ℕ
lines_left r script = length script - r.lines_called

abbrev pub left_behind : Scenario → JournalText → RunState
left_behind s j = after_all (script s j.line.domain) (start s j.line) (flat_map (part_entries (peers_of s j.line)) (parts_of s j))

abbrev pub unfinished : Scenario → JournalText → Option ℕ
unfinished s j = if lines_left (left_behind s j) (script s j.line.domain) == 0 then None else Some (j.number + length j.texts)
