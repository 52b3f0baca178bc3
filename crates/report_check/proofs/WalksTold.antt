-- The journals of a report, walked one after the other.
use Rattle.std.proofs.Common.{◌≡◌, ℕ, suc, ◌+◌, ◌≤◌, List, [], ◌∷◌, ◌++◌, length, drop, Option, None, Some, Result, Ok, Err, IsOk, refl, sym, ap, ap₂, subst, ◌∙◌, arith, append-nil, append_assoc, length-append}
use Rattle.std.specs.List.{AllByRecursion}
use Rattle.board_model.specs.declared.scenario.DomainLine.{DomainLine}
use Rattle.board_model.specs.declared.scenario.Scenario.{Scenario}
use Rattle.board_model.specs.Grammar.{IsLawfulDomain}
use Rattle.board_model.specs.Language.{IsLawfulBoard}
use Rattle.board_model.specs.Scenario.{script}
use Rattle.board_model.specs.State.{DomainState}
use Rattle.board_model.specs.Unjoined.{peers_of}
use Rattle.board_model.specs.Unnamed.{unnamed}
use Rattle.board_model.proofs.LawfulBoards.{lawful_is_linked}
use Rattle.mc_journal.specs.Readers.{cut_at}
use Rattle.report_text.specs.declared.link_pass.JournalLines.{JournalLines}
use Rattle.report_text.specs.declared.outline.Outline.{Outline}
use Rattle.report_text.specs.declared.verdict.CheckReason.{CheckReason}
use Rattle.report_text.specs.declared.verdict.CheckReason.TheVariants as of
use Rattle.report_text.specs.declared.verdict.Verdict.{Verdict}
use Rattle.report_text.specs.declared.verdict.Verdict.TheVariants.{Wrong}
use Rattle.report_text.specs.JournalRead.{JournalText, text_first, told_texts, journal_at, journals_at, behind_journal, behind_journals}
use Rattle.report_text.specs.LaneLeft.{IsTold, AreTold}
use Rattle.report_text.specs.Outlines.{told_line, told_first, told_lines, all_or, behind_told}
use Rattle.report_text.specs.ScenarioPart.{Rest, rest, text_of}
use Rattle.report_text.specs.StepPass.{wrong_step, unfinished, left_behind}
use Rattle.report_text.specs.TextLines.{lines_in}
use Rattle.report_text.specs.Texts.{longest, lines_behind}
use Rattle.report_text.specs.Verdicts.{wrong_or, by_steps}
use Rattle.report_text.specs.ReportLines.{journal_form}
use Rattle.report_text.specs.TextPass.{◌>>=◌, puts_of_script, entries_from, journal_from, journals_from}
use Rattle.report_text.proofs.ReportsTold.{Ends, lines-length, bind-ok, journal-ok}
use Rattle.report_text.proofs.TextCuts.{one_line-uncut}
use Rattle.report_check.specs.declared.steps.Walked.TheVariants as walked
use Rattle.report_check.specs.declared.walks.Walks.{Walks}
use Rattle.report_totals.specs.EndedJournals.{AreLeftBehind}
use Rattle.report_check.specs.Walked.{IsInOrder, IsWalked}
use Rattle.report_totals.specs.SenderLanes.{AreGiven, GivesBack}
use Rattle.report_check.specs.Walks.{left_of, AreWalked, AreRight, WalksOn}

-- ---- the lines of a journal, and those behind it

same-count : (ls : List (List ℕ)) → length (told_texts ls) ≡ length (told_lines ls)
same-count [] = refl
same-count (l ∷ ls) = go (told_line l) (same-count ls)
  where
    go : (o : Option Outline) → length (told_texts ls) ≡ length (told_lines ls) → length (text_first o l (told_texts ls)) ≡ length (told_first o (told_lines ls))
    go None e = refl
    go (Some line) e = ap suc e

longest-behind : (ls : List (List ℕ)) → longest (behind_told ls) ≤ longest ls
longest-behind [] = omega arith
longest-behind (l ∷ ls) = go (told_line l) (longest-behind ls)
  where
    go : (o : Option Outline) → longest (behind_told ls) ≤ longest ls → longest (all_or o (l ∷ ls) (behind_told ls)) ≤ longest (l ∷ ls)
    go None e = omega arith
    go (Some line) e = omega (arith, e)

-- a line of a journal has a byte
some-byte : (l : List ℕ) (line : Outline) → told_line l ≡ Some line → 1 ≤ length l
some-byte [] line e = absurd cc
some-byte (b ∷ bs) line e = omega arith

bytes-behind : (ls : List (List ℕ)) → length (text_of (behind_told ls)) + length (told_texts ls) ≤ length (text_of ls)
bytes-behind [] = omega arith
bytes-behind (l ∷ ls) = go (told_line l) refl (bytes-behind ls)
  where
    go : (o : Option Outline) → told_line l ≡ o → length (text_of (behind_told ls)) + length (told_texts ls) ≤ length (text_of ls) → length (text_of (all_or o (l ∷ ls) (behind_told ls))) + length (text_first o l (told_texts ls)) ≤ length (text_of (l ∷ ls))
    go None is e = omega arith
    go (Some line) is e = omega (arith, e, some-byte l line is, length-append l (text_of ls))

-- what is left behind a journal is counted, and none of its lines is longer
pub behind-counted : (text behind : List ℕ) (line number : ℕ) → rest line (lines_in behind) ≡ rest (number + length (told_texts (lines_in text))) (lines_behind text) → line + length behind ≤ number + length text
behind-counted text behind line number e =
    let lines : lines_in behind ≡ lines_behind text = ap (λ (r : Rest). r.lines) e in
    omega (
      arith,
      ap (λ (r : Rest). r.number) e,
      bytes-behind (lines_in text),
      lines-length text,
      sym (lines-length behind) ∙ ap (λ ls. length (text_of ls)) lines,
    )

pub behind-short : (text behind : List ℕ) (line number : ℕ) → rest line (lines_in behind) ≡ rest number (lines_behind text) → longest (lines_in behind) ≤ longest (lines_in text)
behind-short text behind line number e =
    let lines : lines_in behind ≡ lines_behind text = ap (λ (r : Rest). r.lines) e in
    omega (arith, ap longest lines, longest-behind (lines_in text))

-- ---- the heading of a journal

pub no-heading : (s : Scenario) (ds : List DomainLine) (line : ℕ) (behind : List ℕ) → 1 ≤ length ds → cut_at 10 behind ≡ None → IsOk (journals_from s ds (rest line (lines_in behind))) → ⊥
no-heading s [] line behind some none ok = absurd (omega (arith, some))
no-heading s (d ∷ ds) line behind some none ok = never (subst (λ (h : Result Rest ℕ). IsOk ((h >>= entries_from (peers_of s d) (puts_of_script (script s d.domain))) >>= journals_from s ds)) (one_line-uncut (journal_form d.domain) line behind none) ok)
  where
    never : IsOk {T = Rest} {E = ℕ} (Err line) → ⊥
    never e = absurd cc

-- the first journal is in order, and the others stand behind it
pub headed : (s : Scenario) → IsLawfulBoard s → (d : DomainLine) (ds : List DomainLine) (r : Rest) → AllByRecursion Ends r.lines → IsLawfulDomain d → IsOk (journals_from s (d ∷ ds) r) → IsInOrder s (journal_at d r) × IsOk (journals_from s ds (behind_journal r))
headed s board d ds r ends lawful ok = go (journals_from s (d ∷ ds) r) refl ok
  where
    go : (o : Result Rest ℕ) → journals_from s (d ∷ ds) r ≡ o → IsOk o → IsInOrder s (journal_at d r) × IsOk (journals_from s ds (behind_journal r))
    go (Err n) is never = absurd cc
    go (Ok q) is ok =
        let one = bind-ok (journal_from s d r) (journals_from s ds) q is in
        let first = journal-ok s (lawful_is_linked s board) d r one.0 lawful ends one.1 in
        (record { order = first.0.order; lawful = first.0.lawful }, subst IsOk (sym (ap (journals_from s ds) first.1 ∙ one.2)) refl)

-- ---- one more

told-more : (js : List JournalText) (cs : List JournalLines) (j : JournalText) (c : JournalLines) → AreTold js cs → IsTold j c → AreTold (js ++ j ∷ []) (cs ++ c ∷ [])
told-more [] [] j c all is = (is, tt)
told-more [] (d ∷ cs) j c all is = absurd all
told-more (k ∷ js) [] j c all is = absurd all
told-more (k ∷ js) (d ∷ cs) j c all is = (all.0, told-more js cs j c all.1 is)

left-more : (s : Scenario) (js : List JournalText) (xs : List DomainState) (j : JournalText) (x : DomainState) → AreLeftBehind s js xs → unnamed x ≡ (left_behind s j).state → AreLeftBehind s (js ++ j ∷ []) (xs ++ x ∷ [])
left-more s [] [] j x all is = (is, tt)
left-more s [] (y ∷ xs) j x all is = absurd all
left-more s (k ∷ js) [] j x all is = absurd all
left-more s (k ∷ js) (y ∷ xs) j x all is = (all.0, left-more s js xs j x all.1 is)

given-more : (s : Scenario) (js : List JournalText) (gs : List (List (List ℕ))) (j : JournalText) (g : List (List ℕ)) → AreGiven s js gs → GivesBack s j g → AreGiven s (js ++ j ∷ []) (gs ++ g ∷ [])
given-more s [] [] j g all is = (is, tt)
given-more s [] (f ∷ gs) j g all is = absurd all
given-more s (k ∷ js) [] j g all is = absurd all
given-more s (k ∷ js) (f ∷ gs) j g all is = (all.0, given-more s js gs j g all.1 is)

pub all-more : {A : Type 0} (P : A → Type 0) (xs : List A) (x : A) → AllByRecursion P xs → P x → AllByRecursion P (xs ++ x ∷ [])
all-more P [] x all is = (is, tt)
all-more P (y ∷ xs) x all is = (all.0, all-more P xs x all.1 is)

-- ---- a journal, and those behind it

-- a journal was walked right
pub record IsWalkedOver (s : Scenario) (d : DomainLine) (old mid : Walks) : Type 0 where
  pub steps : wrong_step s (journal_at d (left_of old)) ≡ None
  pub whole : unfinished s (journal_at d (left_of old)) ≡ None
  pub left : left_of mid ≡ behind_journal (left_of old)
  pub walked : (js : List JournalText) → AreWalked s js old → AreWalked s (js ++ journal_at d (left_of old) ∷ []) mid

pub walked-over : (s : Scenario) (d : DomainLine) (old mid : Walks) (text : List ℕ) (c : JournalLines) (x : DomainState) (g : List (List ℕ)) (b : _) (line : ℕ) → lines_in text ≡ drop 1 (lines_in old.behind.now) → IsTold (journal_at d (left_of old)) c
    → IsWalked s (journal_at d (left_of old)) text (walked.Right x g line b) → mid.line ≡ line → mid.behind ≡ b → mid.journals.items ≡ old.journals.items ++ c ∷ [] → mid.states.items ≡ old.states.items ++ x ∷ [] → mid.given.items ≡ old.given.items ++ g ∷ [] → IsWalkedOver s d old mid
walked-over s d old mid text c x g b line lines told right line-is behind-is journals states places =
    let j : JournalText = journal_at d (left_of old) in
    let r : Rest = left_of old in
    record {
      steps = right.0;
      whole = right.1;
      left =
          ap₂ (λ (n : ℕ) ls. rest n ls) line-is (ap (λ y. lines_in y.now) behind-is)
          ∙ right.4
          ∙ ap₂ (λ (n : ℕ) ls. rest (r.number + 1 + n) ls) (same-count (drop 1 r.lines)) (ap behind_told lines);
      walked = λ js all. record {
        told = subst (AreTold (js ++ j ∷ [])) (sym journals) (told-more js old.journals.items j c all.told told);
        states = subst (AreLeftBehind s (js ++ j ∷ [])) (sym states) (left-more s js old.states.items j x all.states right.2);
        given = subst (AreGiven s (js ++ j ∷ [])) (sym places) (given-more s js old.given.items j g all.given right.3);
      };
    }

pub walks-none : (s : Scenario) (w : Walks) → WalksOn s [] w w None
walks-none s w = (tt, refl, λ js all. subst (λ ks. AreWalked s ks w) (sym (append-nil js)) all)

steps-right : (s : Scenario) (j : JournalText) (js : List JournalText) (next : Verdict) → wrong_step s j ≡ None → unfinished s j ≡ None → by_steps s (j ∷ js) next ≡ by_steps s js next
steps-right s j js next steps whole = ap (λ o. wrong_or of.Step o (wrong_or of.Script (unfinished s j) (by_steps s js next))) steps ∙ ap (λ o. wrong_or of.Script o (by_steps s js next)) whole

pub walks-more : (s : Scenario) (d : DomainLine) (ds : List DomainLine) (old mid new : Walks) (v : Option Verdict) → IsWalkedOver s d old mid → WalksOn s ds mid new v → WalksOn s (d ∷ ds) old new v
walks-more s d ds old mid new None one rest-of =
    let j : JournalText = journal_at d (left_of old) in (
      ((one.steps, one.whole), subst (λ r. AreRight s (journals_at ds r)) one.left rest-of.0),
      rest-of.1 ∙ ap (behind_journals ds) one.left,
      λ js all. subst (λ ks. AreWalked s ks new) (append_assoc js (j ∷ []) (journals_at ds (behind_journal (left_of old)))) (subst (λ r. AreWalked s ((js ++ j ∷ []) ++ journals_at ds r) new) one.left (rest-of.2 (js ++ j ∷ []) (one.walked js all))),
    )
walks-more s d ds old mid new (Some v) one wrong = λ next.
    steps-right s (journal_at d (left_of old)) (journals_at ds (behind_journal (left_of old))) next one.steps one.whole ∙ ap (λ r. by_steps s (journals_at ds r) next) (sym one.left) ∙ wrong next

pub walks-wrong : (s : Scenario) (d : DomainLine) (ds : List DomainLine) (old new : Walks) (text : List ℕ) (line : ℕ) (reason : CheckReason) → IsWalked s (journal_at d (left_of old)) text (walked.Wrong line reason) → WalksOn s (d ∷ ds) old new (Some (Wrong line reason))
walks-wrong s d ds old new text line of.Text none = absurd none
walks-wrong s d ds old new text line of.Step is = λ next. ap (λ o. wrong_or of.Step o (wrong_or of.Script (unfinished s (journal_at d (left_of old))) (by_steps s (journals_at ds (behind_journal (left_of old))) next))) is
walks-wrong s d ds old new text line of.Script is = λ next.
    ap (λ o. wrong_or of.Step o (wrong_or of.Script (unfinished s (journal_at d (left_of old))) (by_steps s (journals_at ds (behind_journal (left_of old))) next))) is.0
    ∙ ap (λ o. wrong_or of.Script o (by_steps s (journals_at ds (behind_journal (left_of old))) next)) is.1
walks-wrong s d ds old new text line of.Link none = absurd none
walks-wrong s d ds old new text line of.Total none = absurd none
