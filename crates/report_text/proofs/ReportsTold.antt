-- In a text in which the first pass finds nothing wrong, each journal's lines tell what they are, and stand in order.
use Rattle.std.proofs.Common.{◌≡◌, ℕ, suc, ◌+◌, ◌-◌, ◌^◌, ◌<◌, ◌≤◌, arith, length-append, Bool, true, false, cond, List, [], ◌∷◌, ◌++◌, length, map, drop, Option, Some, None, option_map, refl, sym, ap, subst, ◌∙◌}
use Rattle.std.specs.Prelude.{◌==◌, Result, Ok, Err}
use Rattle.std.specs.List.{AllByRecursion}
use Rattle.board_model.specs.declared.scenario.DomainLine.{DomainLine}
use Rattle.board_model.specs.declared.scenario.Scenario.{Scenario}
use Rattle.board_model.specs.Scenario.{script, rising}
use Rattle.board_model.specs.Grammar.{IsLawfulDomain}
use Rattle.board_model.specs.LinkedBoard.{IsLinkedBoard}
use Rattle.board_model.specs.FileLines as file
use Rattle.board_model.specs.Journal.{Line}
use Rattle.board_model.specs.Unjoined.{peers_of}
use Rattle.mc_journal.specs.Readers.{cut_at, onto_first}
use Rattle.mc_journal.specs.LineForms.{line_in}
use Rattle.mc_journal.proofs.PartsRead.{cut-is}
use Rattle.board_model.proofs.LawfulBoards.{lawful-by_text}
use Rattle.report_text.specs.declared.outline.Outline.{Outline}
use Rattle.report_text.specs.Outlines.{outline_of, outline_before, told_line, told_first, told_lines, all_or, behind_told}
use Rattle.report_text.specs.TextLines.{lines_in, moved}
use Rattle.report_text.specs.JournalOrder.{journal_place}
use Rattle.report_text.specs.JournalRead.{text_first, told_texts, line_before, line_first, lines_of_texts, journal_at, behind_journal, journals_at}
use Rattle.report_text.specs.ReportLines.{FormWord, has_form, heading_form, journal_form}
use Rattle.board_model.specs.Report.{Mode, serial, threads}
use Rattle.board_model.specs.Language.{RefusedLine, told_by, IsLawfulBoard}
use Rattle.report_text.specs.ScenarioPart.{text_of, other_place, scenario_unless, scenario_by, Rest, rest, Told, begins_journal, front_lines, behind_front, told_behind, scenario_in, scenario_from}
use Rattle.report_text.specs.TextPass.{◌>>=◌, line_by, one_line, else_read, Headed, mode_heading_from, heading_from, puts_of_script, entries_by, entries_from, journal_from, journals_from, numbers_from, board_from, whole_told, told_by_text}
use Rattle.report_text.proofs.LinesTold.{Tell}
use Rattle.report_text.proofs.RunsTold.{IsRight}

pub bind-ok : {A B : Type 0} (m : Result A ℕ) (f : A → Result B ℕ) (b : B) → m >>= f ≡ Ok b → (a : A) × (m ≡ Ok a) × (f a ≡ Ok b)
bind-ok (Err n) f b e = absurd cc
bind-ok (Ok a) f b e = (a, refl, e)

-- ---- a line has its newline at the end

abbrev pub Ends : List ℕ → Type 0
Ends l = (x : List ℕ × List ℕ) → cut_at 10 l ≡ Some x → x.1 ≡ []

abbrev second : Option (List ℕ × List ℕ) → List ℕ
second None = []
second (Some x) = x.1

longer : (b : ℕ) (l : List ℕ) → (b == 10) ≡ false → Ends l → Ends (b ∷ l)
longer b l other ends x e = go (cut_at 10 l) refl (sym (ap (λ t. cond t (Some ([], l)) (onto_first b (cut_at 10 l))) other) ∙ e)
  where
    go : (o : Option (List ℕ × List ℕ)) → cut_at 10 l ≡ o → onto_first b o ≡ Some x → x.1 ≡ []
    go None is e = absurd cc
    go (Some y) is e = sym (ap second e) ∙ ends y is

pub lines-end : (text : List ℕ) → AllByRecursion Ends (lines_in text)
lines-end [] = tt
lines-end (b ∷ bs) = go (b == 10) refl (lines-end bs)
  where
    more : (b == 10) ≡ false → (ls : List (List ℕ)) → AllByRecursion Ends ls → AllByRecursion Ends (file.onto_first b ls)
    more other [] all = (longer b [] other (λ x e. absurd cc), tt)
    more other (l ∷ ls) all = (longer b l other all.0, all.1)

    go : (t : Bool) → (b == 10) ≡ t → AllByRecursion Ends (lines_in bs) → AllByRecursion Ends (cond t ((10 ∷ []) ∷ lines_in bs) (file.onto_first b (lines_in bs)))
    go true is rest = ((λ x e. sym (ap second e)), rest)
    go false is rest = more is (lines_in bs) rest

-- ---- what a journal's texts tell

abbrev Goal : List ℕ → List (List ℕ) → Option Outline → Type 0
Goal l ls o = Tell (text_first o l (told_texts ls)) (lines_of_texts (text_first o l (told_texts ls))) × (told_first o (told_lines ls) ≡ map outline_of (lines_of_texts (text_first o l (told_texts ls))))

pub record AreTold (ls : List (List ℕ)) : Type 0 where
  pub tells : Tell (told_texts ls) (lines_of_texts (told_texts ls))
  pub outlines : told_lines ls ≡ map outline_of (lines_of_texts (told_texts ls))

pub texts-tell : (ls : List (List ℕ)) → AllByRecursion Ends ls → AreTold ls
texts-tell [] all = record { tells = tt; outlines = refl }
texts-tell (l ∷ ls) all = cut (cut_at 10 l) refl (texts-tell ls all.1)
  where
    found : (x : List ℕ × List ℕ) (k : Line) → cut_at 10 l ≡ Some x → line_in x.0 ≡ Some k → AreTold ls → Goal l ls (Some (outline_of k))
    found x k is e rest =
        let text : l ≡ x.0 ++ 10 ∷ [] = cut-is 10 l x is ∙ ap (λ ys. x.0 ++ 10 ∷ ys) (all.0 x is) in
        let lines : lines_of_texts (l ∷ told_texts ls) ≡ k ∷ lines_of_texts (told_texts ls) = ap (λ o. line_first (line_before o) (lines_of_texts (told_texts ls))) is ∙ ap (λ o. line_first o (lines_of_texts (told_texts ls))) e in (
          subst (Tell (l ∷ told_texts ls)) (sym lines) ((x.0, text, e), rest.tells),
          ap (λ os. outline_of k ∷ os) rest.outlines ∙ sym (ap (map outline_of) lines),
        )

    told : (o : Option Outline) → told_line l ≡ o → Goal l ls o → AreTold (l ∷ ls)
    told o is goal =
        let all_goal : Goal l ls (told_line l) = subst (Goal l ls) (sym is) goal in
        record { tells = all_goal.0; outlines = all_goal.1 }

    line : (x : List ℕ × List ℕ) → cut_at 10 l ≡ Some x → (o : Option Line) → line_in x.0 ≡ o → AreTold ls → AreTold (l ∷ ls)
    line x is None e rest = told None (ap outline_before is ∙ ap (option_map outline_of) e) (tt, refl)
    line x is (Some k) e rest = told (Some (outline_of k)) (ap outline_before is ∙ ap (option_map outline_of) e) (found x k is e rest)

    cut : (o : Option (List ℕ × List ℕ)) → cut_at 10 l ≡ o → AreTold ls → AreTold (l ∷ ls)
    cut None is rest = told None (ap outline_before is) (tt, refl)
    cut (Some x) is rest = line x is (line_in x.0) refl rest

-- ---- what is left behind is lines too

pub behind-end : (ls : List (List ℕ)) → AllByRecursion Ends ls → AllByRecursion Ends (behind_told ls)
behind-end [] all = tt
behind-end (l ∷ ls) all = go (told_line l) (behind-end ls all.1)
  where
    go : (o : Option Outline) → AllByRecursion Ends (behind_told ls) → AllByRecursion Ends (all_or o (l ∷ ls) (behind_told ls))
    go None rest = all
    go (Some k) rest = rest

front-end : (ls : List (List ℕ)) → AllByRecursion Ends ls → AllByRecursion Ends (behind_front ls)
front-end [] all = tt
front-end (l ∷ ls) all = go (begins_journal l) (front-end ls all.1)
  where
    go : (b : Bool) → AllByRecursion Ends (behind_front ls) → AllByRecursion Ends (cond b (l ∷ ls) (behind_front ls))
    go true rest = all
    go false rest = rest

pub first-end : (ls : List (List ℕ)) → AllByRecursion Ends ls → AllByRecursion Ends (drop 1 ls)
first-end [] all = tt
first-end (l ∷ ls) all = all.1

one-ok : (form : List FormWord) (n : ℕ) (ls : List (List ℕ)) (r : Rest) → line_by form n ls ≡ Ok r → rest (n + 1) (drop 1 ls) ≡ r
one-ok form n [] r e = absurd cc
one-ok form n (l ∷ ls) r e = go (has_form form l) e
  where
    go : (b : Bool) → cond b (Ok (rest (n + 1) ls)) (Err n) ≡ Ok r → rest (n + 1) ls ≡ r
    go true e = ok-is (rest (n + 1) ls) r e
      where
        ok-is : (x y : Rest) → ◌≡◌ {A = Result Rest ℕ} (Ok x) (Ok y) → x ≡ y
        ok-is x y e = cc
    go false e = absurd cc

-- the heading is a line, of a run in one of the modes
heading-line : (r : Rest) (h : Headed) → heading_from r ≡ Ok h → (mode : Mode) × (one_line (heading_form mode) r ≡ Ok h.behind)
heading-line r h e = go (mode_heading_from serial r) refl e
  where
    ok-is : (x y : Headed) → ◌≡◌ {A = Result Headed ℕ} (Ok x) (Ok y) → x ≡ y
    ok-is x y e = cc

    by : (mode : Mode) → mode_heading_from mode r ≡ Ok h → (m : Mode) × (one_line (heading_form m) r ≡ Ok h.behind)
    by mode e =
        let line = bind-ok (one_line (heading_form mode) r) (λ behind. Ok (record { mode = mode; behind = behind })) h e in
        (mode, line.1 ∙ ap (λ (x : Headed). Ok x.behind) (ok-is (record { mode = mode; behind = line.0 }) h line.2))

    go : (o : Result Headed ℕ) → mode_heading_from serial r ≡ o → else_read o (mode_heading_from threads r) ≡ Ok h → (m : Mode) × (one_line (heading_form m) r ≡ Ok h.behind)
    go (Ok x) is e = by serial (is ∙ e)
    go (Err n) is e = by threads e

heading-end : (r : Rest) (h : Headed) → AllByRecursion Ends r.lines → heading_from r ≡ Ok h → AllByRecursion Ends h.behind.lines
heading-end r h all e =
    let line = heading-line r h e in
    subst (λ (x : Rest). AllByRecursion Ends x.lines) (one-ok (heading_form line.0) r.number r.lines h.behind line.1) (first-end r.lines all)

scenario-end : (mode : Mode) (r : Rest) (t : Told) → AllByRecursion Ends r.lines → scenario_from mode r ≡ Ok t → AllByRecursion Ends t.behind.lines
scenario-end mode r t all e = go (scenario_in (front_lines r.lines)) e
  where
    ok-is : (x y : Told) → ◌≡◌ {A = Result Told ℕ} (Ok x) (Ok y) → x ≡ y
    ok-is x y e = cc

    go : (o : Result Scenario ℕ) → told_behind mode r o ≡ Ok t → AllByRecursion Ends t.behind.lines
    go (Ok s) e = subst (λ (x : Told). AllByRecursion Ends x.behind.lines) (ok-is (record { mode = mode; scenario = s; behind = rest (r.number + length (front_lines r.lines)) (behind_front r.lines) }) t e) (front-end r.lines all)
    go (Err n) e = absurd cc

-- ---- the scenario is one that a text tells

pub lines-length : (text : List ℕ) → length (text_of (lines_in text)) ≡ length text
lines-length [] = refl
lines-length (b ∷ bs) = go (b == 10) (lines-length bs)
  where
    more : (ls : List (List ℕ)) → length (text_of (file.onto_first b ls)) ≡ suc (length (text_of ls))
    more [] = refl
    more (l ∷ ls) = refl

    go : (t : Bool) → length (text_of (lines_in bs)) ≡ length bs → length (text_of (cond t ((10 ∷ []) ∷ lines_in bs) (file.onto_first b (lines_in bs)))) ≡ suc (length bs)
    go true rest = ap suc rest
    go false rest = more (lines_in bs) ∙ ap suc rest

front-shorter : (ls : List (List ℕ)) → length (text_of (front_lines ls)) ≤ length (text_of ls)
front-shorter [] = omega arith
front-shorter (l ∷ ls) = go (begins_journal l) (front-shorter ls)
  where
    go : (b : Bool) → length (text_of (front_lines ls)) ≤ length (text_of ls) → length (text_of (cond b [] (l ∷ front_lines ls))) ≤ length (text_of (l ∷ ls))
    go true rest = omega arith
    go false rest = omega (arith, rest, length-append l (text_of (front_lines ls)), length-append l (text_of ls))

-- a line that has a form has a byte
first-shorter : (form : List FormWord) (n : ℕ) (ls : List (List ℕ)) (r : Rest) → line_by form n ls ≡ Ok r → length (text_of (drop 1 ls)) + 1 ≤ length (text_of ls)
first-shorter form n [] r e = absurd cc
first-shorter form n ([] ∷ ls) r e = absurd cc
first-shorter form n ((b ∷ bs) ∷ ls) r e = omega (arith, length-append bs (text_of ls))

heading-shorter : (r : Rest) (h : Headed) → heading_from r ≡ Ok h → length (text_of h.behind.lines) + 1 ≤ length (text_of r.lines)
heading-shorter r h e =
    let line = heading-line r h e in
    subst (λ (x : Rest). length (text_of x.lines) + 1 ≤ length (text_of r.lines)) (one-ok (heading_form line.0) r.number r.lines h.behind line.1) (first-shorter (heading_form line.0) r.number r.lines h.behind line.1)

scenario-told : (mode : Mode) (r : Rest) (t : Told) → scenario_from mode r ≡ Ok t → told_by (text_of (front_lines r.lines)) ≡ Ok t.scenario
scenario-told mode r t e = go (told_by (text_of (front_lines r.lines))) refl e
  where
    last : (s : Scenario) → told_behind mode r (Ok s) ≡ Ok t → s ≡ t.scenario
    last s e = ap scenario-in e
      where
        scenario-in : Result Told ℕ → Scenario
        scenario-in (Ok x) = x.scenario
        scenario-in (Err n) = s

    by : (s : Scenario) (o : Option ℕ) → told_behind mode r (scenario_unless o s) ≡ Ok t → s ≡ t.scenario
    by s None e = last s e
    by s (Some place) e = absurd cc

    go : (o : Result Scenario RefusedLine) → told_by (text_of (front_lines r.lines)) ≡ o → told_behind mode r (scenario_by (front_lines r.lines) o) ≡ Ok t → told_by (text_of (front_lines r.lines)) ≡ Ok t.scenario
    go (Ok s) is e = is ∙ ap Ok (by s (other_place s (front_lines r.lines)) e)
    go (Err l) is e = absurd cc

-- one that read_text takes is short enough
pub text-lawful : (text : List ℕ) (t : Told) → length text < 2 ^ 32 - 1 → told_by_text text ≡ Ok t → IsLawfulBoard t.scenario
text-lawful text t short e =
    let first : Rest = rest 1 (lines_in text) in
    let heading = bind-ok (heading_from first) (λ h. scenario_from h.mode h.behind >>= whole_told) t e in
    let scenario = bind-ok (scenario_from heading.0.mode heading.0.behind) whole_told t heading.2 in
    let whole = bind-ok (board_from scenario.0.mode scenario.0.scenario scenario.0.behind) (λ nothing. Ok scenario.0) t scenario.2 in
    let same : scenario.0 ≡ t = ok-is scenario.0 t whole.2 in
    let behind : List (List ℕ) = heading.0.behind.lines in
    subst (λ (x : Told). IsLawfulBoard x.scenario) same
    (lawful-by_text (text_of (front_lines behind)) scenario.0.scenario (omega (arith, short, lines-length text, heading-shorter first heading.0 heading.1, front-shorter behind)) (scenario-told heading.0.mode heading.0.behind scenario.0 scenario.1))
  where
    ok-is : (x y : Told) → ◌≡◌ {A = Result Told ℕ} (Ok x) (Ok y) → x ≡ y
    ok-is x y e = cc

-- ---- the journals

module _ (s : Scenario) (board : IsLinkedBoard s) where
  entries-ok : (d : DomainLine) (r q : Rest) → entries_from (peers_of s d) (puts_of_script (script s d.domain)) r ≡ Ok q → (journal_place (peers_of s d) (puts_of_script (script s d.domain)) (told_lines r.lines) ≡ None) × (rest (r.number + length (told_lines r.lines)) (behind_told r.lines) ≡ q)
  entries-ok d r q e = go (journal_place (peers_of s d) (puts_of_script (script s d.domain)) (told_lines r.lines)) refl e
    where
      ok-is : (x y : Rest) → ◌≡◌ {A = Result Rest ℕ} (Ok x) (Ok y) → x ≡ y
      ok-is x y e = cc

      go : (o : Option ℕ) → journal_place (peers_of s d) (puts_of_script (script s d.domain)) (told_lines r.lines) ≡ o → entries_by r (moved r.number o) ≡ Ok q → (journal_place (peers_of s d) (puts_of_script (script s d.domain)) (told_lines r.lines) ≡ None) × (rest (r.number + length (told_lines r.lines)) (behind_told r.lines) ≡ q)
      go None is e = (is, ok-is (rest (r.number + length (told_lines r.lines)) (behind_told r.lines)) q e)
      go (Some n) is e = absurd cc

  pub journal-ok : (d : DomainLine) (r q : Rest) → IsLawfulDomain d → AllByRecursion Ends r.lines → journal_from s d r ≡ Ok q → IsRight s board (journal_at d r) × (behind_journal r ≡ q)
  journal-ok d r q lawful all e =
      let head = bind-ok (one_line (journal_form d.domain) r) (entries_from (peers_of s d) (puts_of_script (script s d.domain))) q e in
      let at : rest (r.number + 1) (drop 1 r.lines) ≡ head.0 = one-ok (journal_form d.domain) r.number r.lines head.0 head.1 in
      let entries = entries-ok d (rest (r.number + 1) (drop 1 r.lines)) q (ap (entries_from (peers_of s d) (puts_of_script (script s d.domain))) at ∙ head.2) in
      let told = texts-tell (drop 1 r.lines) (first-end r.lines all) in (
        record {
          tells = told.tells;
          order = ap (journal_place (peers_of s d) (puts_of_script (script s d.domain))) (sym told.outlines) ∙ entries.0;
          lawful = lawful;
        },
        entries.1,
      )

  journals-ok : (ds : List DomainLine) (r q : Rest) → AllByRecursion IsLawfulDomain ds → AllByRecursion Ends r.lines → journals_from s ds r ≡ Ok q → AllByRecursion (IsRight s board) (journals_at ds r)
  journals-ok [] r q lawful all e = tt
  journals-ok (d ∷ ds) r q lawful all e =
      let one = bind-ok (journal_from s d r) (journals_from s ds) q e in
      let first = journal-ok d r one.0 lawful.0 all one.1 in
      (first.0, journals-ok ds (behind_journal r) q lawful.1 (behind-end (drop 1 r.lines) (first-end r.lines all)) (ap (journals_from s ds) first.1 ∙ one.2))

-- ---- a whole text

pub record FrontOf (text : List ℕ) (t : Told) : Type 0 where
  pub lines : AllByRecursion Ends t.behind.lines
  pub behind : Rest
  pub journals : journals_from t.scenario (rising t.scenario) t.behind ≡ Ok behind

pub text-front : (text : List ℕ) (t : Told) → told_by_text text ≡ Ok t → FrontOf text t
text-front text t e =
    let first : Rest = rest 1 (lines_in text) in
    let heading = bind-ok (heading_from first) (λ h. scenario_from h.mode h.behind >>= whole_told) t e in
    let scenario = bind-ok (scenario_from heading.0.mode heading.0.behind) whole_told t heading.2 in
    let whole = bind-ok (board_from scenario.0.mode scenario.0.scenario scenario.0.behind) (λ nothing. Ok scenario.0) t scenario.2 in
    let same : scenario.0 ≡ t = ok-is scenario.0 t whole.2 in
    let journals = bind-ok (journals_from scenario.0.scenario (rising scenario.0.scenario) scenario.0.behind) (numbers_from scenario.0.mode scenario.0.scenario) whole.0 whole.1 in
    subst (FrontOf text) same (record {
      lines = scenario-end heading.0.mode heading.0.behind scenario.0 (heading-end first heading.0 (lines-end text) heading.1) scenario.1;
      behind = journals.0;
      journals = journals.1;
    })
  where
    ok-is : (x y : Told) → ◌≡◌ {A = Result Told ℕ} (Ok x) (Ok y) → x ≡ y
    ok-is x y e = cc

pub journals-right : (text : List ℕ) (t : Told) → told_by_text text ≡ Ok t → (board : IsLinkedBoard t.scenario) → AllByRecursion IsLawfulDomain (rising t.scenario) → AllByRecursion (IsRight t.scenario board) (journals_at (rising t.scenario) t.behind)
journals-right text t e board lawful = let front = text-front text t e in journals-ok t.scenario board (rising t.scenario) t.behind front.behind lawful front.lines front.journals
