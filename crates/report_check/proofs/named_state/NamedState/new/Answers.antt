use Rattle.std.proofs.Common.{ℕ, List, [], ◌∷◌, refl}
use Rattle.report_check.proofs.NamedLemmas.{none-index}
use Rattle.report_check.proofs.named_state.NamedState.new.Goals as goal

pub returns-clause-begins : goal.returns-clause-begins
returns-clause-begins c =
    let zeros : List ℕ = 0 ∷ 0 ∷ 0 ∷ 0 ∷ 0 ∷ 0 ∷ 0 ∷ 0 ∷ [] in
    record {
      state = refl;
      taken = λ p small. none-index zeros p (refl, (refl, (refl, (refl, (refl, (refl, (refl, (refl, tt))))))));
      given = λ p small. c.new.ensures p;
    }
