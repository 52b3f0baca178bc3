-- The text of a right report, line by line, is the one that is due for the journals that it tells.
use Rattle.std.proofs.Common.{◌≡◌, ℕ, ◌+◌, ◌^◌, ◌<◌, arith, Bool, true, false, cond, List, [], ◌∷◌, ◌++◌, length, map, drop, Option, Some, None, refl, sym, ap, ap₂, subst, ◌∙◌, append_assoc}
use Rattle.std.specs.Prelude.{Result, Ok, Err, codes, decimal}
use Rattle.std.specs.List.{AllByRecursion, flat_map}
use Rattle.board_model.specs.declared.scenario.DomainLine.{DomainLine}
use Rattle.board_model.specs.declared.scenario.Scenario.{Scenario}
use Rattle.board_model.specs.Board.{DomainJournal}
use Rattle.board_model.specs.Grammar.{IsLawfulDomain, canonical, line_of}
use Rattle.board_model.specs.Journal.{Line}
use Rattle.board_model.specs.Language.{RefusedLine, told_by}
use Rattle.board_model.specs.LinkedBoard.{IsLinkedBoard}
use Rattle.board_model.specs.Places.{places_of}
use Rattle.board_model.specs.Report.{Mode, serial, threads, line_text, lines_text, journal_text, journals_text, channel_text, messages_text, places_text, summary_text, heading, ending}
use Rattle.board_model.specs.Scenario.{script, lanes}
use Rattle.board_model.specs.Totals.{channel_totals, totals}
use Rattle.board_model.specs.Unjoined.{peers_of}
use Rattle.report_text.specs.declared.outline.Outline.{Outline}
use Rattle.report_text.specs.JournalRead.{text_first, told_texts, JournalText, journal_at, behind_journal, journals_at, behind_journals}
use Rattle.report_text.specs.Outlines.{told_line, all_or, behind_told}
use Rattle.report_text.specs.ReportLines.{FormWord, has_form, heading_form, journal_form}
use Rattle.report_text.specs.ScenarioPart.{Rest, rest, Told, text_of, begins_journal, front_lines, behind_front, other_place, scenario_unless, scenario_by, told_behind, scenario_from}
use Rattle.report_text.specs.TextLines.{lines_in}
use Rattle.report_text.specs.TextPass.{◌>>=◌, line_by, one_line, else_read, Headed, mode_heading_from, heading_from, puts_of_script, entries_from, journal_from, journals_from, board_from, whole_told, told_by_text}
use Rattle.report_text.specs.TotalPass.{number_texts}
use Rattle.report_text.proofs.LinesTold.{texts-same}
use Rattle.report_text.proofs.ReportsTold.{Ends, bind-ok, lines-end, first-end, behind-end, journal-ok}
use Rattle.report_text.proofs.TextFronts.{text-back}
use Rattle.report_laws.proofs.ExactForms.{heading-is, journal-is}
use Rattle.report_laws.proofs.TextRows.{text-append, text-map}

-- ---- the text of lines

-- the lines of a journal and those behind them are all lines
all-told : (ls : List (List ℕ)) → told_texts ls ++ behind_told ls ≡ ls
all-told [] = refl
all-told (l ∷ ls) = go (told_line l) (all-told ls)
  where
    go : (o : Option Outline) → told_texts ls ++ behind_told ls ≡ ls → text_first o l (told_texts ls) ++ all_or o (l ∷ ls) (behind_told ls) ≡ l ∷ ls
    go None rest = refl
    go (Some x) rest = ap (λ ks. l ∷ ks) rest

-- the numbers
pub numbers-text : (s : Scenario) (js : List DomainJournal) (rings : List (List ℕ)) → text_of (number_texts s js rings) ≡ summary_text (channel_totals s js) (totals s js) ++ (flat_map places_text (map (places_of s js) (lanes s)) ++ (flat_map (λ r. r) rings ++ ending))
numbers-text s js rings =
    let channels : List (List ℕ) = map channel_text (channel_totals s js) in
    let places : List (List ℕ) = map places_text (map (places_of s js) (lanes s)) in
    let message : List ℕ = messages_text (totals s js) in
    let behind : text_of (rings ++ ending ∷ []) ≡ flat_map (λ r. r) rings ++ ending = text-append rings (ending ∷ []) in
    let lane_texts : text_of (places ++ (rings ++ ending ∷ [])) ≡ flat_map places_text (map (places_of s js) (lanes s)) ++ (flat_map (λ r. r) rings ++ ending) =
    text-append places (rings ++ ending ∷ []) ∙ ap₂ (λ (u v : List ℕ). u ++ v) (text-map places_text (map (places_of s js) (lanes s))) behind in
    text-append channels (message ∷ (places ++ (rings ++ ending ∷ [])))
    ∙ ap₂ (λ (u v : List ℕ). u ++ (message ++ v)) (text-map channel_text (channel_totals s js)) lane_texts
    ∙ sym (append_assoc (flat_map channel_text (channel_totals s js)) message (flat_map places_text (map (places_of s js) (lanes s)) ++ (flat_map (λ r. r) rings ++ ending)))

-- ---- a line of a form, and what is left behind it

record IsFirst (form : List FormWord) (r q : Rest) : Type 0 where
  line : List ℕ
  lines : r.lines ≡ line ∷ q.lines
  has : has_form form line ≡ true

first-is : (form : List FormWord) (n : ℕ) (ls : List (List ℕ)) (q : Rest) → line_by form n ls ≡ Ok q → IsFirst form (rest n ls) q
first-is form n [] q e = absurd cc
first-is form n (l ∷ ls) q e = go (has_form form l) refl e
  where
    ok-is : (x y : Rest) → ◌≡◌ {A = Result Rest ℕ} (Ok x) (Ok y) → x ≡ y
    ok-is x y e = cc

    go : (b : Bool) → has_form form l ≡ b → cond b (Ok (rest (n + 1) ls)) (Err n) ≡ Ok q → IsFirst form (rest n (l ∷ ls)) q
    go true is e = record { line = l; lines = ap (λ (x : Rest). l ∷ x.lines) (ok-is (rest (n + 1) ls) q e); has = is }
    go false is e = absurd cc

-- ---- the journals

module _ (s : Scenario) where
  head-is : (d : DomainLine) (r q : Rest) → d.domain < 2 ^ 64 → AllByRecursion Ends r.lines → journal_from s d r ≡ Ok q → r.lines ≡ line_of (codes "journal" ∷ decimal d.domain ∷ []) ∷ drop 1 r.lines
  head-is d r q small all e =
      let head = bind-ok (one_line (journal_form d.domain) r) (entries_from (peers_of s d) (puts_of_script (script s d.domain))) q e in
      let first = first-is (journal_form d.domain) r.number r.lines head.0 head.1 in
      let ends : Ends first.line = (subst (AllByRecursion Ends) first.lines all).0 in
      let line : first.line ≡ line_of (codes "journal" ∷ decimal d.domain ∷ []) = journal-is d.domain first.line small ends first.has in
      first.lines ∙ ap₂ (λ (l : List ℕ) (ls : List (List ℕ)). l ∷ ls) line (sym (ap (drop 1) first.lines))

  journal-text : (d : DomainLine) (r q : Rest) (lines : List Line) → d.domain < 2 ^ 64 → AllByRecursion Ends r.lines → journal_from s d r ≡ Ok q → map line_text lines ≡ told_texts (drop 1 r.lines) → text_of r.lines ≡ journal_text d lines ++ text_of (behind_journal r).lines
  journal-text d r q lines small all e texts =
      let head : List ℕ = line_of (codes "journal" ∷ decimal d.domain ∷ []) in
      let behind : List (List ℕ) = behind_told (drop 1 r.lines) in
      let told : text_of (told_texts (drop 1 r.lines)) ≡ lines_text lines = ap text_of (sym texts) ∙ text-map line_text lines in
      let under : text_of (drop 1 r.lines) ≡ lines_text lines ++ text_of behind = ap text_of (sym (all-told (drop 1 r.lines))) ∙ text-append (told_texts (drop 1 r.lines)) behind ∙ ap (λ (u : List ℕ). u ++ text_of behind) told in
      ap text_of (head-is d r q small all e) ∙ ap (λ (u : List ℕ). head ++ u) under ∙ sym (append_assoc head (lines_text lines) (text_of behind))

module _ (s : Scenario) (board : IsLinkedBoard s) (lines : JournalText → List Line) where
  pub journals-lines : (ds : List DomainLine) (r q : Rest) → AllByRecursion IsLawfulDomain ds → AllByRecursion Ends r.lines → journals_from s ds r ≡ Ok q → AllByRecursion (λ j. map line_text (lines j) ≡ j.texts) (journals_at ds r) → text_of r.lines ≡ journals_text ds (map lines (journals_at ds r)) ++ text_of (behind_journals ds r).lines
  journals-lines [] r q lawful all e texts = refl
  journals-lines (d ∷ ds) r q lawful all e texts =
      let one = bind-ok (journal_from s d r) (journals_from s ds) q e in
      let behind : behind_journal r ≡ one.0 = (journal-ok s board d r one.0 lawful.0 all one.1).1 in
      let others : List (List Line) = map lines (journals_at ds (behind_journal r)) in
      let small : d.domain < 2 ^ 64 = (let le = lawful.0.domain_fits in omega (arith, le)) in
      journal-text s d r one.0 (lines (journal_at d r)) small all one.1 texts.0
      ∙ ap (λ (u : List ℕ). journal_text d (lines (journal_at d r)) ++ u) (journals-lines ds (behind_journal r) q lawful.1 (behind-end (drop 1 r.lines) (first-end r.lines all)) (ap (journals_from s ds) behind ∙ one.2) texts.1)
      ∙ sym (append_assoc (journal_text d (lines (journal_at d r))) (journals_text ds others) (text_of (behind_journals ds (behind_journal r)).lines))

-- ---- the heading

heading-first : (r : Rest) (h : Headed) → AllByRecursion Ends r.lines → heading_from r ≡ Ok h → r.lines ≡ heading h.mode ∷ h.behind.lines
heading-first r h all e = go (mode_heading_from serial r) refl e
  where
    ok-is : (x y : Headed) → ◌≡◌ {A = Result Headed ℕ} (Ok x) (Ok y) → x ≡ y
    ok-is x y e = cc

    by : (mode : Mode) → mode_heading_from mode r ≡ Ok h → r.lines ≡ heading h.mode ∷ h.behind.lines
    by mode e =
        let line = bind-ok (one_line (heading_form mode) r) (λ behind. Ok (record { mode = mode; behind = behind })) h e in
        let first = first-is (heading_form mode) r.number r.lines line.0 line.1 in
        let ends : Ends first.line = (subst (AllByRecursion Ends) first.lines all).0 in
        subst (λ (x : Headed). r.lines ≡ heading x.mode ∷ x.behind.lines) (ok-is (record { mode = mode; behind = line.0 }) h line.2)
        (first.lines ∙ ap (λ (l : List ℕ). l ∷ line.0.lines) (heading-is mode first.line ends first.has))

    go : (o : Result Headed ℕ) → mode_heading_from serial r ≡ o → else_read o (mode_heading_from threads r) ≡ Ok h → r.lines ≡ heading h.mode ∷ h.behind.lines
    go (Ok x) is e = by serial (is ∙ e)
    go (Err n) is e = by threads e

-- ---- the scenario

all-front : (ls : List (List ℕ)) → front_lines ls ++ behind_front ls ≡ ls
all-front [] = refl
all-front (l ∷ ls) = go (begins_journal l) (all-front ls)
  where
    go : (b : Bool) → front_lines ls ++ behind_front ls ≡ ls → cond b [] (l ∷ front_lines ls) ++ cond b (l ∷ ls) (behind_front ls) ≡ l ∷ ls
    go true rest = refl
    go false rest = ap (λ ks. l ∷ ks) rest

record IsFronted (mode : Mode) (r : Rest) (t : Told) : Type 0 where
  mode_is : t.mode ≡ mode
  text_is : text_of r.lines ≡ canonical t.scenario ++ text_of t.behind.lines

scenario-front : (mode : Mode) (r : Rest) (t : Told) → scenario_from mode r ≡ Ok t → IsFronted mode r t
scenario-front mode r t e = go (told_by (text_of (front_lines r.lines))) e
  where
    ok-is : (x y : Told) → ◌≡◌ {A = Result Told ℕ} (Ok x) (Ok y) → x ≡ y
    ok-is x y e = cc

    by : (s : Scenario) (o : Option ℕ) → other_place s (front_lines r.lines) ≡ o → told_behind mode r (scenario_unless o s) ≡ Ok t → IsFronted mode r t
    by s (Some place) is e = absurd cc
    by s None is e =
        let front : text_of (front_lines r.lines) ≡ canonical s = ap text_of (texts-same (front_lines r.lines) (lines_in (canonical s)) is) ∙ text-back (canonical s) in
        subst (IsFronted mode r) (ok-is (record { mode = mode; scenario = s; behind = rest (r.number + length (front_lines r.lines)) (behind_front r.lines) }) t e) (record {
          mode_is = refl;
          text_is = ap text_of (sym (all-front r.lines)) ∙ text-append (front_lines r.lines) (behind_front r.lines) ∙ ap (λ (u : List ℕ). u ++ text_of (behind_front r.lines)) front;
        })

    go : (o : Result Scenario RefusedLine) → told_behind mode r (scenario_by (front_lines r.lines) o) ≡ Ok t → IsFronted mode r t
    go (Ok s) e = by s (other_place s (front_lines r.lines)) refl e
    go (Err l) e = absurd cc

-- ---- all lines before the journals

pub front-is : (text : List ℕ) (t : Told) → told_by_text text ≡ Ok t → text ≡ heading t.mode ++ (canonical t.scenario ++ text_of t.behind.lines)
front-is text t e =
    let first : Rest = rest 1 (lines_in text) in
    let head = bind-ok (heading_from first) (λ h. scenario_from h.mode h.behind >>= whole_told) t e in
    let scenario = bind-ok (scenario_from head.0.mode head.0.behind) whole_told t head.2 in
    let whole = bind-ok (board_from scenario.0.mode scenario.0.scenario scenario.0.behind) (λ nothing. Ok scenario.0) t scenario.2 in
    let same : scenario.0 ≡ t = ok-is scenario.0 t whole.2 in
    let front = scenario-front head.0.mode head.0.behind scenario.0 scenario.1 in
    let lines : text ≡ heading head.0.mode ++ text_of head.0.behind.lines = sym (text-back text) ∙ ap text_of (heading-first first head.0 (lines-end text) head.1) in
    subst (λ (x : Told). text ≡ heading x.mode ++ (canonical x.scenario ++ text_of x.behind.lines)) same
    (lines ∙ ap₂ (λ (m : Mode) (u : List ℕ). heading m ++ u) (sym front.mode_is) front.text_is)
  where
    ok-is : (x y : Told) → ◌≡◌ {A = Result Told ℕ} (Ok x) (Ok y) → x ≡ y
    ok-is x y e = cc
