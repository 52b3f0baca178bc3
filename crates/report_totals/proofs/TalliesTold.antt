-- The tallies of the domains of a report are those of the run that its journals tell.
use Rattle.std.proofs.Common.{◌≡◌, ℕ, zero, suc, ◌<◌, ◌^◌, Bool, List, [], ◌∷◌, length, map, get_or, sym, ap, subst, ◌∙◌, arith}
use Rattle.std.specs.List.{AllByRecursion}
use Rattle.board_model.specs.declared.scenario.Scenario.{Scenario}
use Rattle.board_model.specs.Scenario.{script}
use Rattle.board_model.specs.Tallies.{is_delete, deleted_in}
use Rattle.std.specs.Prelude.{sum_by}
use Rattle.board_model.specs.SerialRun.{Station}
use Rattle.board_numbers.specs.declared.counts.Counts.{Counts}
use Rattle.board_numbers.specs.declared.tally.HeldBuffers.{HeldBuffers}
use Rattle.board_numbers.specs.declared.tally.Tally.{Tally}
use Rattle.board_numbers.specs.Counts.{AreCounts}
use Rattle.board_numbers.specs.EndedDomains.{Ended, EndsAs, EndAs}
use Rattle.board_numbers.specs.ItemCounts.{EachWith}
use Rattle.board_numbers.specs.Tallied.{AreHeld, IsTally, AreTallies, TallySomeRun}
use Rattle.report_totals.specs.declared.ended_journal.EndedJournal.{EndedJournal}
use Rattle.report_totals.specs.Counting.{CountsDeleted}
use Rattle.report_totals.specs.EndedJournals.{ended_by}
use Rattle.report_totals.specs.JournalTallies.{TellsTally, EndRun, EndSomeRun}
use Rattle.report_totals.specs.SmallRuns.{HoldsFew, IsSmall}

-- ---- a list by its places

pub all-read : {A : Type 0} (P : A → Type 0) (xs : List A) → AllByRecursion P xs → (i : ℕ) (x : A) → i < length xs → x ≡ get_or xs i x → P x
all-read P [] all i x within is = absurd (omega (arith, within))
all-read P (y ∷ xs) all zero x within is = subst P (sym is) all.0
all-read P (y ∷ xs) all (suc i) x within is = all-read P xs all.1 i x (omega (arith, within)) is

each-first : {A B : Type 0} (R : A → B → Type 0) (x : A) (xs : List A) (y : B) (ys : List B) → EachWith R (x ∷ xs) (y ∷ ys) → R x y × EachWith R xs ys
each-first R x xs y ys all = (
  all.each 0 x y (omega arith),
  record { many = let many = all.many in omega (arith, many); each = λ k a b within. all.each (suc k) a b (omega (arith, within)) },
)

-- ---- one tally

pub is-tally : (s : Scenario) (t : Station) (e : Ended) (c : Counts) (deleted : ℕ) (h : HeldBuffers) (deletes : List Bool)
    → EndsAs t e → IsSmall s t → AreCounts c e.lines → CountsDeleted deletes e.lines deleted → deletes ≡ map (λ c. is_delete c.call) (script s e.number) → (HoldsFew e.state → AreHeld e.state h)
    → IsTally s t (record { counts = c; deleted = deleted; held = h })
is-tally s t e c deleted h deletes ends small counts drops script_is holds = record {
  counts = subst (AreCounts c) ends.told counts;
  deleted =
      let few = subst (λ ls. sum_by (deleted_in (script s t.line.domain)) ls < 2 ^ 64) (sym ends.told) small.deleted in
      drops (script s t.line.domain) (script_is ∙ ap (λ n. map (λ c. is_delete c.call) (script s n)) ends.number) few ∙ ap (sum_by (deleted_in (script s t.line.domain))) ends.told;
  held = subst (λ x. AreHeld x h) ends.state (holds (subst HoldsFew (sym ends.state) small.held));
}

-- ---- all tallies

pub are-tallies : (s : Scenario) (ts : List Station) (es : List EndedJournal) (ys : List Tally) → EndAs ts (map ended_by es) → AllByRecursion (IsSmall s) ts → AllByRecursion (λ e. e.scenario.now ≡ s) es → EachWith TellsTally es ys → AreTallies s ts ys
are-tallies s [] [] [] ended small same all = tt
are-tallies s [] [] (y ∷ ys) ended small same all = let many = all.many in absurd (omega (arith, many))
are-tallies s [] (e ∷ es) ys ended small same all = absurd ended
are-tallies s (t ∷ ts) [] ys ended small same all = absurd ended
are-tallies s (t ∷ ts) (e ∷ es) [] ended small same all = let many = all.many in absurd (omega (arith, many))
are-tallies s (t ∷ ts) (e ∷ es) (y ∷ ys) ended small same all =
    let both = each-first TellsTally e es y ys all in (
      subst (λ (x : Scenario). IsTally x t y) same.0 (both.0 t ended.0 (subst (λ (x : Scenario). IsSmall x t) (sym same.0) small.0)),
      are-tallies s ts es ys ended.1 small.1 same.1 both.1,
    )

pub run-tallies : (s : Scenario) (ts : List Station) (es : List EndedJournal) (ys : List Tally) → EndRun s ts es → EachWith TellsTally es ys → AreTallies s ts ys
run-tallies s ts es ys run all = are-tallies s ts es ys run.ended run.small run.scenario all

pub tally-run : (s : Scenario) (es : List EndedJournal) (ys : List Tally) → EndSomeRun s es → EachWith TellsTally es ys → TallySomeRun s ys
tally-run s es ys some all = record { stations = some.stations; ran = some.run.ran; tallies = run-tallies s some.stations es ys some.run all }
