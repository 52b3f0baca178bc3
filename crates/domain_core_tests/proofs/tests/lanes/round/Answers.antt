use Rattle.std.proofs.Common.{ℕ, List, [], ◌∷◌, refl, sym, ap, subst, arith}
use Rattle.std.proofs.lemmas.List.Elements.{Contains-append_right}
use Rattle.std.specs.List.{Contains}
use Rattle.domain_core.specs.LaneSeen.{LaneSeen}
use Rattle.domain_core_tests.proofs.tests.lanes.round.Goals as goal

pub give_back-requires-clause-out : goal.give_back-requires-clause-out
give_back-requires-clause-out g c =
    let taken : ℕ = c.take-buffer.result.0.number in
    subst (λ (out : List ℕ). Contains out taken) (sym (ap (λ (l : LaneSeen). l.out) c.take-buffer.ensures.seen)) (Contains-append_right _ (taken ∷ []) taken (0, omega arith, refl))
