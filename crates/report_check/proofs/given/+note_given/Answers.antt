use Rattle.std.proofs.Common.{◌≡◌, ◌≢◌, ◌-◌, ◌<◌, ◌≤◌, ℕ, Bool, true, false, cond, List, [], ◌∷◌, length, get_or, map, take, drop, Some, refl, sym, ap, ap₂, subst, ◌∙◌, arith, sum_by}
use Rattle.std.specs.Prelude.{slice_get, slice_index, slice_set, find, ◌==◌}
use Rattle.std.proofs.lemmas.Bool.{eqb-true, eqb-false}
use Rattle.std.specs.List.{AllByRecursion}
use Rattle.board_model.specs.declared.scenario.Scenario.{Scenario}
use Rattle.board_model.specs.Board.{given_by}
use Rattle.board_model.specs.Language.{IsLawfulBoard}
use Rattle.board_model.specs.State.{DomainState, held_from}
use Rattle.board_model.specs.Unnamed.{unnamed}
use Rattle.board_model.proofs.LawfulBoards.{lawful_is_linked}
use Rattle.board_model.proofs.UnnamedCounts.{held-unnamed}
use Rattle.report_text.specs.declared.journal_lanes.JournalLanes.{JournalLanes}
use Rattle.report_text.specs.declared.link_pass.JournalLines.{JournalLines}
use Rattle.report_text.specs.JournalLanes.{HasLanes, journals_of}
use Rattle.report_text.specs.JournalRead.{JournalText, lines_of_texts}
use Rattle.report_text.specs.LaneLeft.{IsTold, AreTold, GiveBack}
use Rattle.report_text.specs.LaneLines.{lanes_told, lanes_of, taken_in}
use Rattle.report_text.specs.LinkPass.{gives_back, journal_told}
use Rattle.report_text.specs.StepPass.{left_behind}
use Rattle.report_text.proofs.GivenTold.{given-told}
use Rattle.report_text.proofs.LeftLemmas.{whole, got-set, get-other}
use Rattle.report_text.specs.TextLines.{lines_in}
use Rattle.report_text.proofs.LinesTold.{Tell}
use Rattle.report_text.proofs.ReportsTold.{lines-end, texts-tell}
use Rattle.report_text.proofs.RunsTold.{IsRight}
use Rattle.report_totals.specs.EndedJournals.{AreLeftBehind}
use Rattle.report_check.specs.RightSteps.{HasRightSteps, HaveRightSteps}
use Rattle.report_check.proofs.given.+note_given.Goals as goal

none-told : (js : List JournalText) (ls : List JournalLanes) → length ls ≤ 0 → AreTold js (journals_of ls) → js ≡ []
none-told [] ls few told = refl
none-told (j ∷ js) [] few told = absurd told
none-told (j ∷ js) (l ∷ ls) few told = absurd (omega (arith, few))

none-left : (s : Scenario) (js : List JournalText) (xs : List DomainState) → length xs ≤ 0 → AreLeftBehind s js xs → js ≡ []
none-left s [] xs few left = refl
none-left s (j ∷ js) [] few left = absurd left
none-left s (j ∷ js) (x ∷ xs) few left = absurd (omega (arith, few))

pub returns-in_default : goal.returns-in_default
returns-in_default t c = λ s js lawful right told left none. subst (λ ks. GiveBack s ks c.args.given.now) (sym (none-told js c.args.journals.now (omega (arith, c.in_default.len_below)) told)) none

pub returns-in_default-states : goal.returns-in_default-states
returns-in_default-states t c = λ s js lawful right told left none. subst (λ ks. GiveBack s ks c.args.given.now) (sym (none-left s js c.args.states.now (omega (arith, c.in_default-states.len_below)) left)) none

-- one row more
abbrev Rows : List ℕ → JournalLanes → DomainState → Type 0
Rows row l x = (p : ℕ) → p < 8 → slice_index row p ≡ slice_index l.takes p - held_from p x

right-told : (s : Scenario) (lawful : IsLawfulBoard s) (j : JournalText) (c : JournalLines) → HasRightSteps s j → IsTold j c → IsRight s (lawful_is_linked s lawful) j
right-told s lawful j c right told = record {
  tells = subst (λ ts. Tell ts (lines_of_texts ts)) (sym told.texts) (texts-tell (lines_in c.text.now) (lines-end c.text.now)).tells;
  order = right.order.order;
  lawful = right.order.lawful;
}

one-given : (s : Scenario) (lawful : IsLawfulBoard s) (j : JournalText) (l : JournalLanes) (x : DomainState) (row : List ℕ) → HasRightSteps s j → IsTold j l.journal → HasLanes l → unnamed x ≡ (left_behind s j).state → Rows row l x → (p : ℕ) → p < 8 → slice_index row p ≡ given_by s (Some (journal_told s j)) p
one-given s lawful j l x row right told has left rows p small =
    let taken = given-told s (lawful_is_linked s lawful) j (right-told s lawful j l.journal right told) right.steps p in
    omega (arith, taken, rows p small, has.takes p small, sym (held-unnamed p x) ∙ ap (held_from p) left, ap (λ ts. sum_by (taken_in p) (lanes_of ts)) told.texts)

noted : (s : Scenario) (lawful : IsLawfulBoard s) (ls : List JournalLanes) (xs : List DomainState) (d : JournalLanes) (e : DomainState) (given : List (List ℕ)) (row : List ℕ) → 1 ≤ length ls → 1 ≤ length xs → AllByRecursion HasLanes ls → Rows row (get_or ls 0 d) (get_or xs 0 e)
    → (js : List JournalText) → HaveRightSteps s js → AreTold js (journals_of ls) → AreLeftBehind s js xs
    → ((ks : List JournalText) → HaveRightSteps s ks → AreTold ks (journals_of (take (length ls - 1) (drop 1 ls))) → AreLeftBehind s ks (take (length xs - 1) (drop 1 xs)) → GiveBack s ks given)
    → GiveBack s js (slice_set given (get_or ls 0 d).journal.domain row)
noted s lawful [] xs d e given row some more all rows js right told left rest = absurd (omega (arith, some))
noted s lawful (l ∷ ls) [] d e given row some more all rows js right told left rest = absurd (omega (arith, more))
noted s lawful (l ∷ ls) (x ∷ xs) d e given row some more all rows [] right told left rest = absurd told
noted s lawful (l ∷ ls) (x ∷ xs) d e given row some more all rows (j ∷ js) right told left rest = λ from to r at small. go from to r at small (c.domain == from) refl
  where
    c : JournalLines
    c = l.journal

    others : GiveBack s js given
    others = rest js right.1 (subst (λ ms. AreTold js (journals_of ms)) (sym (whole (length (l ∷ ls) - 1) ls (omega arith))) told.1) (subst (AreLeftBehind s js) (sym (whole (length (x ∷ xs) - 1) xs (omega arith))) left.1)

    go : (from to : ℕ) (r : List ℕ) → slice_get (slice_set given c.domain row) from ≡ Some r → to < 8 → (b : Bool) → (c.domain == from) ≡ b → slice_index r to ≡ gives_back s (j ∷ js) from to
    go from to r at small true is =
        let same : c.domain ≡ from = eqb-true c.domain from is in
        let got : row ≡ r = got-set given c.domain r row (ap (slice_get (slice_set given c.domain row)) same ∙ at) in
        let found : (j.line.domain == from) ≡ true = ap (λ n. n == from) told.0.domain ∙ is in
        ap (λ l. slice_index l to) (sym got)
        ∙ one-given s lawful j l x row right.0 told.0 all.0 left.0 rows to small
        ∙ sym (ap (λ b. given_by s (cond b (Some (journal_told s j)) (find (λ k. k.line.domain == from) (map (journal_told s) js))) to) found)
    go from to r at small false is =
        let other : from ≢ c.domain = λ same. eqb-false c.domain from is (sym same) in
        let found : (j.line.domain == from) ≡ false = ap (λ n. n == from) told.0.domain ∙ is in
        others from to r (sym (get-other given c.domain from row other) ∙ at) small
        ∙ sym (ap (λ b. given_by s (cond b (Some (journal_told s j)) (find (λ k. k.line.domain == from) (map (journal_told s) js))) to) found)

pub returns : goal.returns
returns t c = λ s js lawful right told left none.
    subst (λ n. GiveBack s js (slice_set c.note_given.new.given n c.given_by.result)) (sym (c.from.ensures ∙ ap (λ (l : JournalLanes). l.journal.domain) c.first-item.is))
    (noted s lawful c.args.journals.now c.args.states.now c.first-item.result c.state-item.result c.note_given.new.given c.given_by.result (omega (arith, c.in-len1-up.len_at_least)) (omega (arith, c.in-len1-up-states.len_at_least)) c.requires.lanes
    (λ p small. c.given_by.ensures p small ∙ ap₂ (λ (l : JournalLanes) (x : DomainState). slice_index l.takes p - held_from p x) c.first-item.is c.state-item.is) js right told left
    (λ ks r t l. c.note_given.ensures s ks lawful r t l none))
