-- Room for lines, where there is more.
use Rattle.std.proofs.Common.{◌≡◌, ℕ, ◌-◌, ◌≤◌, List, [], ◌∷◌, length, get_or, take, drop, subst, arith}
use Rattle.std.proofs.lemmas.List.{take_rest}
use Rattle.std.specs.List.{AllByRecursion}
use Rattle.report_text.specs.Texts.{longest_line}
use Rattle.report_view.specs.declared.view.DomainView.{DomainView}
use Rattle.report_view.specs.Rooms.{FitsIn}

pub fit_in_more : (a b : ℕ) (ds : List DomainView) → AllByRecursion (FitsIn a) ds → a ≤ b → AllByRecursion (FitsIn b) ds
fit_in_more a b [] all more = tt
fit_in_more a b (d ∷ ds) all more = (omega (arith, all.0, more), fit_in_more a b ds all.1 more)

-- room for the first journal and for the others
pub fit_in_front : (ds : List DomainView) (d : DomainView) (a b n : ℕ) → 1 ≤ length ds → d ≡ get_or ds 0 d → longest_line d.journal.text.now ≤ a → AllByRecursion (FitsIn b) (take (length ds - 1) (drop 1 ds)) → a ≤ n → b ≤ n → AllByRecursion (FitsIn n) ds
fit_in_front [] d a b n some is one all here there = absurd (omega (arith, some))
fit_in_front (x ∷ xs) d a b n some is one all here there =
    let first : longest_line d.journal.text.now ≤ n = omega (arith, one, here) in
    let rest = subst (AllByRecursion (FitsIn b)) (take_rest (x ∷ xs) 1) all in
    (subst (FitsIn n) is first, fit_in_more b n xs rest there)
