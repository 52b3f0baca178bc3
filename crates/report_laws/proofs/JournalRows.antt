-- The journals of a run, as lines: the first pass reads each behind the line that heads it, to its last line.
use Rattle.std.proofs.Common.{◌≡◌, ℕ, ◌+◌, true, cond, List, [], ◌∷◌, ◌++◌, length, map, drop, Some, None, refl, sym, ap, ap₂, ◌∙◌, append_assoc}
use Rattle.std.specs.Prelude.{codes, decimal, Result, Ok, Err}
use Rattle.std.specs.List.{AllByRecursion, flat_map}
use Rattle.board_model.specs.declared.scenario.DomainLine.{DomainLine}
use Rattle.board_model.specs.declared.scenario.Scenario.{Scenario}
use Rattle.board_model.specs.Board.{DomainJournal}
use Rattle.board_model.specs.Grammar.{spaced, line_of}
use Rattle.board_model.specs.Journal.{Line}
use Rattle.board_model.specs.Report.{line_words, line_text, lines_of, journals_text}
use Rattle.board_model.specs.Scenario.{script}
use Rattle.board_model.specs.Unjoined.{peers_of}
use Rattle.mc_journal.proofs.Cuts.{cut-found}
use Rattle.report_text.specs.declared.outline.Outline.{Outline}
use Rattle.report_text.specs.JournalOrder.{journal_place}
use Rattle.report_text.specs.JournalRead.{text_first, told_texts, behind_journal, journals_at, behind_journals}
use Rattle.report_text.specs.Outlines.{outline_of, outline_before, told_line, told_first, told_lines, all_or, behind_told}
use Rattle.report_text.specs.ReportLines.{has_form, journal_form}
use Rattle.report_text.specs.ScenarioPart.{Rest, rest, text_of}
use Rattle.report_text.specs.TextLines.{moved}
use Rattle.report_text.specs.TextPass.{◌>>=◌, line_by, one_line, puts_of_script, entries_by, entries_from, journal_from, journals_from}
use Rattle.report_text.proofs.OutlinesRead.{outline-is}
use Rattle.report_text.proofs.TextFronts.{Ended}
use Rattle.report_text.proofs.UnendedWords.{HaveNone, decimal-none, spaced-none}
use Rattle.mc_journal.specs.EntryText.{IsEntryLine}
use Rattle.report_laws.specs.RunReports.{HaveEntryLines}
use Rattle.report_laws.specs.Reasons.{AreTextsOf}
use Rattle.report_laws.proofs.TextRows.{text-append, text-map}
use Rattle.report_laws.proofs.WholeRows.{line-ended, entry-none, entry-ended}

-- ---- lines of entries, and behind them a line that is none

-- no line of a journal stands first
pub record NoneFirst (more : List (List ℕ)) : Type 0 where
  pub outlines : told_lines more ≡ []
  pub texts : told_texts more ≡ []
  pub behind : behind_told more ≡ more

pub none-first : (l : List ℕ) (ls : List (List ℕ)) → told_line l ≡ None → NoneFirst (l ∷ ls)
none-first l ls none = record {
  outlines = ap (λ o. told_first o (told_lines ls)) none;
  texts = ap (λ o. text_first o l (told_texts ls)) none;
  behind = ap (λ o. all_or o (l ∷ ls) (behind_told ls)) none;
}

-- an entry's line is told by its text
entry-told : (l : Line) → IsEntryLine l → told_line (line_text l) ≡ Some (outline_of l)
entry-told l fits = ap outline_before (cut-found 10 (spaced (line_words l)) [] (entry-none l)) ∙ sym (outline-is l (spaced (line_words l)) fits refl)

pub record EntriesRead (ls : List Line) (more : List (List ℕ)) : Type 0 where
  pub outlines : told_lines (map line_text ls ++ more) ≡ map outline_of ls
  pub texts : told_texts (map line_text ls ++ more) ≡ map line_text ls
  pub behind : behind_told (map line_text ls ++ more) ≡ more

pub entries-read : (ls : List Line) (more : List (List ℕ)) → AllByRecursion IsEntryLine ls → NoneFirst more → EntriesRead ls more
entries-read [] more all none = record { outlines = none.outlines; texts = none.texts; behind = none.behind }
entries-read (l ∷ ls) more all none =
    let told = entry-told l all.0 in
    let rest = entries-read ls more all.1 none in
    let after : List (List ℕ) = map line_text ls ++ more in
    record {
      outlines = ap (λ o. told_first o (told_lines after)) told ∙ ap (λ (os : List Outline). outline_of l ∷ os) rest.outlines;
      texts = ap (λ o. text_first o (line_text l) (told_texts after)) told ∙ ap (λ (ts : List (List ℕ)). line_text l ∷ ts) rest.texts;
      behind = ap (λ o. all_or o (line_text l ∷ after) (behind_told after)) told ∙ rest.behind;
    }

-- ---- the journals

abbrev pub heading_row : DomainLine → List ℕ
heading_row d = line_of (codes "journal" ∷ decimal d.domain ∷ [])

abbrev pub journal_rows : List DomainJournal → List (List ℕ)
journal_rows [] = []
journal_rows (j ∷ js) = heading_row j.line ∷ (map line_text (lines_of j) ++ journal_rows js)

pub heading-none : (d : DomainLine) → HaveNone (codes "journal" ∷ decimal d.domain ∷ [])
heading-none d = (refl, (decimal-none d.domain, tt))

heading-untold : (d : DomainLine) → told_line (heading_row d) ≡ None
heading-untold d = ap outline_before (cut-found 10 (codes "journal " ++ decimal d.domain) [] (spaced-none (codes "journal" ∷ decimal d.domain ∷ []) (heading-none d)))

-- no line of a journal stands before the next journal, nor behind the last
rows-none : (js : List DomainJournal) (more : List (List ℕ)) → NoneFirst more → NoneFirst (journal_rows js ++ more)
rows-none [] more none = none
rows-none (j ∷ js) more none = none-first (heading_row j.line) ((map line_text (lines_of j) ++ journal_rows js) ++ more) (heading-untold j.line)

pub rows-ended : (js : List DomainJournal) → AllByRecursion Ended (journal_rows js)
rows-ended [] = tt
rows-ended (j ∷ js) = (line-ended (codes "journal" ∷ decimal j.line.domain ∷ []) (heading-none j.line), each (lines_of j) (rows-ended js))
  where
    each : (ls : List Line) → AllByRecursion Ended (journal_rows js) → AllByRecursion Ended (map line_text ls ++ journal_rows js)
    each [] later = later
    each (l ∷ ls) later = (entry-ended l, each ls later)

pub rows-text : (js : List DomainJournal) → journals_text (map (λ j. j.line) js) (map lines_of js) ≡ text_of (journal_rows js)
rows-text [] = refl
rows-text (j ∷ js) =
    append_assoc (heading_row j.line) (flat_map line_text (lines_of j)) (journals_text (map (λ (k : DomainJournal). k.line) js) (map lines_of js))
    ∙ ap₂ (λ (xs ys : List ℕ). heading_row j.line ++ (xs ++ ys)) (sym (text-map line_text (lines_of j))) (rows-text js)
    ∙ ap (λ (xs : List ℕ). heading_row j.line ++ xs) (sym (text-append (map line_text (lines_of j)) (journal_rows js)))

module _ (s : Scenario) where
  -- a journal's line has its form, and its entries stand in order
  pub record IsReady (j : DomainJournal) : Type 0 where
    pub heading : has_form (journal_form j.line.domain) (heading_row j.line) ≡ true
    pub entries : HaveEntryLines j
    pub order : journal_place (peers_of s j.line) (puts_of_script (script s j.line.domain)) (map outline_of (lines_of j)) ≡ None

  pub record JournalsRead (js : List DomainJournal) (r : Rest) (more : List (List ℕ)) : Type 0 where
    pub passes : journals_from s (map (λ j. j.line) js) r ≡ Ok (behind_journals (map (λ j. j.line) js) r)
    pub texts : AreTextsOf js (journals_at (map (λ j. j.line) js) r)
    pub behind : (behind_journals (map (λ j. j.line) js) r).lines ≡ more

  pub journals-read : (js : List DomainJournal) (more : List (List ℕ)) (n : ℕ) (ls : List (List ℕ)) → AllByRecursion IsReady js → NoneFirst more → ls ≡ journal_rows js ++ more → JournalsRead js (rest n ls) more
  journals-read [] more n ls ready none is = record { passes = refl; texts = tt; behind = is }
  journals-read (j ∷ js) more n ls ready none is =
      let d : DomainLine = j.line in
      let later : List (List ℕ) = journal_rows js ++ more in
      let entries : List (List ℕ) = map line_text (lines_of j) ++ later in
      let rows : ls ≡ heading_row d ∷ entries = is ∙ ap (λ (xs : List (List ℕ)). heading_row d ∷ xs) (append_assoc (map line_text (lines_of j)) (journal_rows js) more) in
      let read = entries-read (lines_of j) later ready.0.entries (rows-none js more none) in
      let r : Rest = rest n ls in
      let q : Rest = rest (n + 1) entries in
      let peers = peers_of s d in
      let puts = puts_of_script (script s d.domain) in
      let first : one_line (journal_form d.domain) r ≡ Ok q = ap (line_by (journal_form d.domain) n) rows ∙ ap (λ t. cond t (Ok q) (Err n)) ready.0.heading in
      let place : journal_place peers puts (told_lines entries) ≡ None = ap (journal_place peers puts) read.outlines ∙ ready.0.order in
      let one : journal_from s d r ≡ Ok (behind_journal r) =
      ap (λ (o : Result Rest ℕ). o >>= entries_from peers puts) first
      ∙ ap (λ o. entries_by q (moved (n + 1) o)) place
      ∙ ap (λ (xs : List (List ℕ)). Ok (rest (n + 1 + length (told_lines (drop 1 xs))) (behind_told (drop 1 xs)))) (sym rows) in
      let next : (behind_journal r).lines ≡ later = ap (λ (xs : List (List ℕ)). behind_told (drop 1 xs)) rows ∙ read.behind in
      let rest_read = journals-read js more (behind_journal r).number (behind_journal r).lines ready.1 none next in
      record {
        passes = ap (λ (o : Result Rest ℕ). o >>= journals_from s (map (λ (k : DomainJournal). k.line) js)) one ∙ rest_read.passes;
        texts = (record { line = refl; texts = ap (λ (xs : List (List ℕ)). told_texts (drop 1 xs)) rows ∙ read.texts }, rest_read.texts);
        behind = rest_read.behind;
      }
