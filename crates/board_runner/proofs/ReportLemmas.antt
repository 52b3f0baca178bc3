-- The text of a report, piece by piece, and that of its journals, one by one.
use Rattle.std.proofs.Common.{◌≡◌, List, ℕ, zero, suc, ◌+◌, ◌<◌, [], ◌∷◌, ◌++◌, length, map, flat_map, take, get_or, append_assoc, append-nil, add-one, ap, sym, ◌∙◌, arith}
use Rattle.std.specs.Prelude.{codes, decimal}
use Rattle.board_model.specs.declared.scenario.DomainLine.{DomainLine}
use Rattle.board_model.specs.Grammar.{line_of}
use Rattle.board_model.specs.declared.scenario.Scenario.{Scenario}
use Rattle.board_model.specs.declared.totals.ChannelTotals.{ChannelTotals}
use Rattle.board_model.specs.declared.totals.LanePlaces.{LanePlaces}
use Rattle.board_model.specs.declared.totals.Totals.{Totals}
use Rattle.board_model.specs.Grammar.{canonical}
use Rattle.board_model.specs.Journal.{Line}
use Rattle.board_model.specs.Report.{Mode, heading, lines_text, journals_text, summary_text, places_text, ending, report_of}
use Rattle.board_model.specs.Scenario.{rising}
use Rattle.board_numbers.specs.NumberLines.{numbers_text}
use Rattle.mc_journal.specs.Written.{Written}
use Rattle.board_runner.specs.Outcome.{lines_in}

abbrev numbers_in : List DomainLine → List ℕ
numbers_in ds = map (λ d. d.domain) ds

next_journal : (ds : List DomainLine) (js : List Written) (i n m : ℕ) (j : Written) → length js ≡ length ds → i < length (numbers_in ds) → n ≡ get_or (numbers_in ds) i m → j ≡ get_or js i j
    → journals_text (take (suc i) ds) (lines_in (take (suc i) js)) ≡ journals_text (take i ds) (lines_in (take i js)) ++ (line_of (codes "journal" ∷ decimal n ∷ []) ++ lines_text j.lines)
next_journal [] js i n m j same within is read = absurd (omega (arith, within))
next_journal (d ∷ ds) [] i n m j same within is read = absurd (omega (arith, same))
next_journal (d ∷ ds) (k ∷ js) zero n m j same within is read =
    append-nil (line_of (codes "journal" ∷ decimal d.domain ∷ []) ++ lines_text k.lines)
    ∙ ap (λ (x : ℕ). line_of (codes "journal" ∷ decimal x ∷ []) ++ lines_text k.lines) (sym is)
    ∙ ap (λ (w : Written). line_of (codes "journal" ∷ decimal n ∷ []) ++ lines_text w.lines) (sym read)
next_journal (d ∷ ds) (k ∷ js) (suc i) n m j same within is read =
    ap (λ t. (line_of (codes "journal" ∷ decimal d.domain ∷ []) ++ lines_text k.lines) ++ t) (next_journal ds js i n m j (omega (arith, same)) (omega (arith, within)) is read)
    ∙ sym (append_assoc (line_of (codes "journal" ∷ decimal d.domain ∷ []) ++ lines_text k.lines) (journals_text (take i ds) (lines_in (take i js))) (line_of (codes "journal" ∷ decimal n ∷ []) ++ lines_text j.lines))

-- of the domains and journals before a place, and of the next ones
pub journals-more : (ds : List DomainLine) (js : List Written) (i n m : ℕ) (j : Written) → length js ≡ length ds → i < length (map (λ d. d.domain) ds) → n ≡ get_or (map (λ d. d.domain) ds) i m → j ≡ get_or js i j
    → journals_text (take (i + 1) ds) (lines_in (take (i + 1) js)) ≡ journals_text (take i ds) (lines_in (take i js)) ++ (line_of (codes "journal" ∷ decimal n ∷ []) ++ lines_text j.lines)
journals-more ds js i n m j same within is read = ap (λ k. journals_text (take k ds) (lines_in (take k js))) (add-one i) ∙ next_journal ds js i n m j same within is read

-- ---- the pieces of a report

pub report-pieces : (mode : Mode) (s : Scenario) (journals : List (List Line)) (channels : List ChannelTotals) (messages : Totals) (places : List LanePlaces) (rings : List (List ℕ))
    → heading mode ++ (canonical s ++ (journals_text (rising s) journals ++ (numbers_text channels messages places ++ (flat_map (λ line. line) rings ++ ending)))) ≡ report_of mode s journals channels messages places rings
unfolding report_of
report-pieces mode s journals channels messages places rings = ap (λ (t : List ℕ). heading mode ++ (canonical s ++ (journals_text (rising s) journals ++ t))) (append_assoc (summary_text channels messages) (flat_map places_text places) (flat_map (λ line. line) rings ++ ending))
