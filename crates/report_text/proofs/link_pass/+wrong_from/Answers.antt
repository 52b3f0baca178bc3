use Rattle.std.proofs.Common.{ℕ, ◌≡◌, ◌≤◌, List, [], ◌∷◌, Option, ◌-◌, Some, None, length, get_or, drop, take, refl, sym, ap, subst, ◌∙◌, arith}
use Rattle.report_text.specs.JournalRead.{JournalText}
use Rattle.report_text.specs.TextLines.{or_else}
use Rattle.board_model.specs.declared.scenario.Scenario.{Scenario}
use Rattle.report_text.specs.LinkPass.{wrong_among, wrong_link}
use Rattle.report_text.specs.declared.journal_lanes.JournalLanes.{JournalLanes}
use Rattle.report_text.specs.JournalLanes.{journals_of}
use Rattle.report_text.specs.LaneLeft.{IsTold, AreTold}
use Rattle.report_text.proofs.LeftLemmas.{whole}
use Rattle.report_text.proofs.link_pass.+wrong_from.Goals as goal

first-told : (t : JournalText) (ts : List JournalText) (ls : List JournalLanes) (d : JournalLanes) → AreTold (t ∷ ts) (journals_of ls) → IsTold t (get_or ls 0 d).journal × AreTold ts (journals_of (take (length ls - 1) (drop 1 ls)))
first-told t ts [] d told = absurd told
first-told t ts (l ∷ ls) d told = (told.0, subst (λ (xs : List JournalLanes). AreTold ts (journals_of xs)) (sym (whole (length (l ∷ ls) - 1) ls (omega arith))) told.1)

none-told : (ts : List JournalText) (ls : List JournalLanes) → length ls ≤ 0 → AreTold ts (journals_of ls) → ts ≡ []
none-told [] ls none told = refl
none-told (t ∷ ts) [] none told = absurd told
none-told (t ∷ ts) (l ∷ ls) none told = absurd (omega (arith, none))

some-told : (ls : List JournalLanes) → 1 ≤ length ls → AreTold [] (journals_of ls) → ⊥
some-told [] some told = omega (arith, some)
some-told (l ∷ ls) some told = told

pub returns-in_default : goal.returns-in_default
returns-in_default t c = λ s js ts told given few told-ts. sym (ap (wrong_among s js) (none-told ts c.args.rest.now (omega (arith, c.in_default.len_below)) told-ts))

module _ (s : Scenario) (js : List JournalText) (ls : List JournalLanes) (d : JournalLanes) (some : 1 ≤ length ls) (found next : Option ℕ) where
  -- the first of these journals and the others
  pub by-first : (ts : List JournalText) → AreTold ts (journals_of ls) → ((j : JournalText) → IsTold j (get_or ls 0 d).journal → found ≡ wrong_link s js j) → ((others : List JournalText) → AreTold others (journals_of (take (length ls - 1) (drop 1 ls))) → next ≡ wrong_among s js others) → or_else found next ≡ wrong_among s js ts
  by-first [] told first rest = absurd (some-told ls some told)
  by-first (t ∷ ts) told first rest =
      let parts = first-told t ts ls d told in
      ap (λ (o : Option ℕ). or_else o next) (first t parts.0) ∙ ap (or_else (wrong_link s js t)) (rest ts parts.1)

  pub by-found : (n : ℕ) → found ≡ Some n → (ts : List JournalText) → AreTold ts (journals_of ls) → ((j : JournalText) → IsTold j (get_or ls 0 d).journal → found ≡ wrong_link s js j) → Some n ≡ wrong_among s js ts
  by-found n is [] told first = absurd (some-told ls some told)
  by-found n is (t ∷ ts) told first = ap (λ (o : Option ℕ). or_else o (wrong_among s js ts)) (sym is ∙ first t (first-told t ts ls d told).0)

pub returns-in-Some : goal.returns-in-Some
returns-in-Some t c = λ s js ts told given few told-ts.
    by-found s js c.args.rest.now c.first-item.result (omega (arith, c.in-len1-up.len_at_least)) c.wrong_link.result None c.in-Some.number c.in-Some.is ts told-ts
    (λ j is. c.wrong_link.ensures s js j told given few (subst (λ (l : JournalLanes). IsTold j l.journal) (sym c.first-item.is) is))

pub returns-in-None : goal.returns-in-None
returns-in-None t c = λ s js ts told given few told-ts.
    ap (λ (o : Option ℕ). or_else o c.wrong_from.result) (sym c.in-None.is)
    ∙ by-first s js c.args.rest.now c.first-item.result (omega (arith, c.in-len1-up.len_at_least)) c.wrong_link.result c.wrong_from.result ts told-ts
    (λ j is. c.wrong_link.ensures s js j told given few (subst (λ (l : JournalLanes). IsTold j l.journal) (sym c.first-item.is) is))
    (λ others are. c.wrong_from.ensures s js others told given few are)
