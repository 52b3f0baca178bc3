use Rattle.std.proofs.Common.{◌≡◌, ◌<◌, ℕ, zero, suc, List, [], ◌∷◌, Option, Some, Result, Ok, Err, refl, sym, ap, subst, ◌∙◌}
use Rattle.std.specs.Prelude.{IfOk, slice_get, slice_index}
use Rattle.std.specs.List.{AllByRecursion}
use Rattle.board_model.specs.Scenario.{rising}
use Rattle.mc_base.specs.declared.refusal.NoMemory.{NoMemory}
use Rattle.report_text.specs.declared.journal_lanes.JournalLanes.{JournalLanes}
use Rattle.report_text.specs.JournalLanes.{journals_of}
use Rattle.report_text.specs.JournalRead.{JournalText, journals_at}
use Rattle.report_text.specs.LaneLeft.{AreTold}
use Rattle.report_text.specs.TextRead.{told_of}
use Rattle.report_text.proofs.ReportsTold.{text-lawful}
use Rattle.report_totals.specs.EndedJournals.{AreLeftBehind}
use Rattle.report_check.proofs.VerdictsFound.{right-steps}
use Rattle.report_check.proofs.passes.wrong_link.Goals as goal

zeros-at : (xs : List ℕ) → AllByRecursion (λ n. n ≡ 0) xs → (i : ℕ) → slice_index xs i ≡ 0
zeros-at [] all i = refl
zeros-at (x ∷ xs) all zero = all.0
zeros-at (x ∷ xs) all (suc i) = zeros-at xs all.1 i

rows-at : (rows : List (List ℕ)) → AllByRecursion (λ row. (i : ℕ) → slice_index row i ≡ 0) rows → (i : ℕ) (row : List ℕ) → slice_get rows i ≡ Some row → (k : ℕ) → slice_index row k ≡ 0
rows-at [] all i row e = absurd cc
rows-at (r ∷ rows) all zero row e = let same : r ≡ row = cc in λ k. ap (λ (x : List ℕ). slice_index x k) (sym same) ∙ all.0 k
rows-at (r ∷ rows) all (suc i) row e = rows-at rows all.1 i row e

abbrev zeros : List ℕ
zeros = 0 ∷ 0 ∷ 0 ∷ 0 ∷ 0 ∷ 0 ∷ 0 ∷ 0 ∷ []

no-row : (i : ℕ) → slice_index zeros i ≡ 0
no-row i = zeros-at zeros (refl, (refl, (refl, (refl, (refl, (refl, (refl, (refl, tt)))))))) i

-- before a journal is noted, nothing was given back
none-given : (from to : ℕ) (row : List ℕ) → slice_get (zeros ∷ zeros ∷ zeros ∷ zeros ∷ zeros ∷ zeros ∷ zeros ∷ zeros ∷ []) from ≡ Some row → to < 8 → slice_index row to ≡ 0
none-given from to row at small = rows-at (zeros ∷ zeros ∷ zeros ∷ zeros ∷ zeros ∷ zeros ∷ zeros ∷ zeros ∷ []) (no-row, (no-row, (no-row, (no-row, (no-row, (no-row, (no-row, (no-row, tt)))))))) from row at to

if-ok : {P Q : Option ℕ → Type 0} (r : Result (Option ℕ) NoMemory) → IfOk r P → ((line : Option ℕ) → P line → Q line) → IfOk r Q
if-ok (Ok line) is more = more line is
if-ok (Err e) is more = tt

pub returns : goal.returns
returns c =
    let t = told_of c.args.told.now in
    let js : List JournalText = journals_at (rising t.scenario) t.behind in
    let ls : List JournalLanes = c.in_ok-journals.journals.items in
    let lawful = text-lawful c.args._report.now t c.requires.text.short c.requires.text.told in
    let steps = right-steps c.args._report.now t c.requires.text.short c.requires.text.told c.requires.walked.right in
    let told : AreTold js (journals_of ls) = subst (AreTold js) (sym (c.in_ok-journals.ensures.journals ∙ c.deref.ensures.value)) c.requires.walked.walked.told in
    let left : AreLeftBehind t.scenario js c.deref-3.result.now = subst (AreLeftBehind t.scenario js) (sym c.deref-3.ensures.value) c.requires.walked.walked.states in
    let given = c.note_given.ensures t.scenario js lawful steps (subst (λ ms. AreTold js (journals_of ms)) (sym c.deref-2.ensures.value) told) left none-given in
    if-ok c.wrong_lanes.result c.wrong_lanes.ensures (λ line is. is t.scenario js (subst (λ ms. AreTold js (journals_of ms)) (sym c.deref-4.ensures.value) told) given)
