-- In a journal in which each step is right, what was taken from a peer is held at the end or was given back.
use Rattle.std.proofs.Common.{◌≡◌, ℕ, ◌+◌, Bool, true, false, cond, List, [], ◌∷◌, length, sum_by, Some, None, refl, ap, ◌∙◌, arith, length-append}
use Rattle.std.specs.Prelude.{◌==◌}
use Rattle.std.specs.List.{flat_map}
use Rattle.std.proofs.lemmas.List.{length-map}
use Rattle.std.proofs.lemmas.List.Sums.{sum_by-cons}
use Rattle.board_model.specs.declared.scenario.CallLine.{CallLine}
use Rattle.board_model.specs.declared.scenario.Scenario.{Scenario}
use Rattle.board_model.specs.Scenario.{script}
use Rattle.board_model.specs.LinkedBoard.{IsLinkedBoard}
use Rattle.board_model.specs.Journal.{PlainEntry}
use Rattle.board_model.specs.State.{free_to, held_from}
use Rattle.board_model.specs.Traffic.{takes_from}
use Rattle.board_model.specs.Step.{RunState}
use Rattle.board_model.specs.Run.{start, after_all, left_by}
use Rattle.board_model.specs.Board.{given_by}
use Rattle.board_model.proofs.LaneRuns.{sums_run}
use Rattle.report_text.specs.JournalRead.{JournalText, lines_of_texts}
use Rattle.report_text.specs.LaneLines.{LaneLine, came_back, puts, shows, takes, nothing, lane_lines, taken_in}
use Rattle.report_text.specs.StepPass.{wrong_step, left_behind}
use Rattle.report_text.specs.LinkPass.{journal_told}
use Rattle.report_text.specs.RightRuns.{journal_due}
use Rattle.report_text.proofs.RunsTold.{IsRight, after-answers, run-told}
use Rattle.report_text.proofs.EntriesTold.{unjoined-is}
use Rattle.report_text.proofs.LanesTold.{frame_in}
use Rattle.report_text.proofs.BoardsTold.{given-answers, takes-are}

-- how many frames lines take is how many they tell
taken-one : (p : ℕ) (l : LaneLine) → length (frame_in p l) ≡ taken_in p l
taken-one p (came_back q n) = refl
taken-one p (puts q frame) = refl
taken-one p (shows q n) = refl
taken-one p (takes q frame) = go (q == p)
  where
    go : (b : Bool) → length (cond b (frame ∷ []) []) ≡ cond b 1 0
    go true = refl
    go false = refl
taken-one p nothing = refl

taken-count : (p : ℕ) (ls : List LaneLine) → length (flat_map (frame_in p) ls) ≡ sum_by (taken_in p) ls
taken-count p [] = refl
taken-count p (l ∷ ls) = omega (arith, length-append (frame_in p l) (flat_map (frame_in p) ls), taken-one p l, taken-count p ls, sum_by-cons (taken_in p) l ls)

module _ (s : Scenario) (board : IsLinkedBoard s) (j : JournalText) (right : IsRight s board j) (none : wrong_step s j ≡ None) (p : ℕ) where
  abbrev lines : List CallLine
  lines = script s j.line.domain

  abbrev due : List PlainEntry
  due = (journal_due s j).entries

  abbrev told : List PlainEntry
  told = (journal_told s j).entries

  left-is : left_by s j.line due ≡ left_behind s j
  left-is = after-answers s board lines (start s j.line) told ∙ ap (after_all lines (start s j.line)) (unjoined-is s j.line (lines_of_texts j.texts))

  pub given-told : held_from p (left_behind s j).state + given_by s (Some (journal_told s j)) p ≡ sum_by (taken_in p) (lane_lines j)
  given-told =
      let run = run-told s board j right none in
      let sums = sums_run lines p (free_to (start s j.line).state p) 0 0 0 0 (start s j.line) (left_by s j.line due) due (record { apart = tt; below = tt }) run.run.steps (record { frees = omega arith; holds = refl }) in
      omega (
        arith,
        sums.holds,
        ap (λ (r : RunState). held_from p r.state) left-is,
        given-answers lines p (start s j.line) told,
        length-map (takes_from p due) (λ t. t.frame),
        ap length (takes-are s board j right p),
        taken-count p (lane_lines j),
      )
