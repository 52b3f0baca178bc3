-- The report of a run in either mode has no wrong line.
use Rattle.std.proofs.Common.{◌≡◌, ℕ, List, [], ◌∷◌, map, refl, ap, ap₂, ◌∙◌}
use Rattle.std.specs.List.{flat_map}
use Rattle.board_model.specs.declared.scenario.LinkLine.{LinkLine}
use Rattle.board_model.specs.declared.scenario.Scenario.{Scenario}
use Rattle.board_model.specs.Board.{DomainJournal}
use Rattle.board_model.specs.Language.{IsLawfulBoard}
use Rattle.board_model.specs.Places.{places_of}
use Rattle.board_model.specs.Report.{Mode, serial, threads, lines_of, report_of}
use Rattle.board_model.specs.Scenario.{lanes}
use Rattle.board_model.specs.Totals.{channel_totals, totals}
use Rattle.board_runner.specs.RingLines.{image_of_ring, ring_lines, report_left}
use Rattle.board_runner.specs.ThreadRun.{TellsLane, TellLanes, to_driver, to_device}
use Rattle.shared_words.specs.declared.view.Role.TheVariants.{Driver, Device}
use Rattle.split_ring.specs.Finished.{FinishedRing}
use Rattle.ring_numbers.specs.BoardRings.{ring_left, image_of_queue}
use Rattle.ring_numbers.specs.RingTexts.{ring_text}
use Rattle.report_laws.proofs.RunsRight.{runs_right}
use Rattle.scenario_cli.specs.Due.{IsSound, MayLeaveRings}
use Rattle.scenario_cli.specs.VerdictText.{HasNoWrongLine}

-- ---- the lines of rings are those that the journals come to

module _ (s : Scenario) (js : List DomainJournal) where
  zero-image : (l : LinkLine) (ring : FinishedRing) → TellsLane s js Device (to_driver l) ring → image_of_ring ring ≡ image_of_queue s js l 0
  zero-image l ring tells = tells.image ∙ ap (λ q. ring_left s js q l.device l.driver l.size) tells.queue

  one-image : (l : LinkLine) (ring : FinishedRing) → TellsLane s js Driver (to_device l) ring → image_of_ring ring ≡ image_of_queue s js l 1
  one-image l ring tells = tells.image ∙ ap (λ q. ring_left s js q l.driver l.device l.size) tells.queue

  lines-due : (ls : List LinkLine) (rings : List FinishedRing) → TellLanes s js ls rings → ring_lines ls rings ≡ flat_map (λ l. ring_text l 0 (image_of_queue s js l 0) ∷ ring_text l 1 (image_of_queue s js l 1) ∷ []) ls
  lines-due [] [] tell = refl
  lines-due [] (zero ∷ rings) tell = absurd tell
  lines-due (l ∷ ls) [] tell = absurd tell
  lines-due (l ∷ ls) (zero ∷ []) tell = absurd tell
  lines-due (l ∷ ls) (zero ∷ (one ∷ rings)) tell =
      ap₂ (λ (u v : List ℕ). ring_text l 0 u ∷ ring_text l 1 v ∷ ring_lines ls rings) (zero-image l zero tell.0) (one-image l one tell.1)
      ∙ ap (λ (us : List (List ℕ)). ring_text l 0 (image_of_queue s js l 0) ∷ ring_text l 1 (image_of_queue s js l 1) ∷ us) (lines-due ls rings tell.2)

pub left-checked : (mode : Mode) (s : Scenario) (js : List DomainJournal) (rings : List FinishedRing) → IsLawfulBoard s → IsSound s js → MayLeaveRings mode s js rings → HasNoWrongLine (report_left mode s js rings)
left-checked serial s js rings lawful sound left =
    runs_right serial s js (report_left serial s js rings) (record { lawful = lawful; run = sound.board_run; whole = sound.whole; backs = tt; written = refl })
left-checked threads s js rings lawful sound left =
    runs_right threads s js (report_left threads s js rings) (record {
      lawful = lawful;
      run = sound.board_run;
      whole = sound.whole;
      backs = left.1;
      written = ap (report_of threads s (map lines_of js) (channel_totals s js) (totals s js) (map (places_of s js) (lanes s))) (lines-due s js s.links rings left.0);
    })
