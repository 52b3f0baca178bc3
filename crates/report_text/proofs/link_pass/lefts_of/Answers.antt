use Rattle.std.proofs.Common.{◌≡◌, ◌≢◌, ◌<◌, ◌+◌, ℕ, Bool, true, false, zero, suc, List, [], ◌∷◌, Some, refl, sym, ap, subst, ◌∙◌, arith, length-set}
use Rattle.std.specs.Prelude.{slice_get, slice_set, ◌==◌}
use Rattle.std.specs.List.{AllByRecursion}
use Rattle.std.proofs.lemmas.Bool.{eqb-true, eqb-false}
use Rattle.std.proofs.lemmas.Option.{slice_get_within}
use Rattle.report_text.specs.declared.link_pass.Left.{Left}
use Rattle.report_text.specs.LaneLeft.{IsLeft, IsReady}
use Rattle.report_text.proofs.LeftLemmas.{got-set, get-other}
use Rattle.report_text.proofs.link_pass.lefts_of.Goals as goal

-- what holds of what is written, and of what stood, holds of what stands
set-holds : (P : ℕ → Left → Type 0) (ls : List Left) (i : ℕ) (new : Left) → P i new → ((j : ℕ) (x : Left) → j ≢ i → slice_get ls j ≡ Some x → P j x) → (j : ℕ) (x : Left) → slice_get (slice_set ls i new) j ≡ Some x → P j x
set-holds P ls i new is others j x at = by (i == j) refl
  where
    by : (b : Bool) → (i == j) ≡ b → P j x
    by true e =
        let same : i ≡ j = eqb-true i j e in
        subst (λ (n : ℕ). P n x) same (subst (P i) (got-set ls i x new (ap (slice_get (slice_set ls i new)) same ∙ at)) is)
    by false e =
        let other : j ≢ i = λ same. eqb-false i j e (sym same) in
        others j x other (sym (get-other ls i j new other) ∙ at)

-- the first stands in each place
first-only : (x : Left) (i : ℕ) (y : Left) → slice_get (x ∷ x ∷ x ∷ x ∷ x ∷ x ∷ x ∷ x ∷ []) i ≡ Some y → x ≡ y
first-only x i y e = all (x ∷ x ∷ x ∷ x ∷ x ∷ x ∷ x ∷ x ∷ []) (refl, (refl, (refl, (refl, (refl, (refl, (refl, (refl, tt)))))))) i e
  where
    all : (ls : List Left) → AllByRecursion (λ l. x ≡ l) ls → (i : ℕ) → slice_get ls i ≡ Some y → x ≡ y
    all [] are i e = absurd cc
    all (l ∷ ls) are zero e = let same : l ≡ y = cc in are.0 ∙ same
    all (l ∷ ls) are (suc i) e = all ls are.1 i e

pub loop-from-init : goal.loop-from-init
loop-from-init c = record {
  each = λ s js told given from x below at. subst (λ (l : Left). IsLeft s js c.args.to [] from l) (first-only c.left_from-lefts.result from x at)
      (subst (λ (n : ℕ). IsLeft s js c.args.to [] n c.left_from-lefts.result) (omega (arith, below)) (c.left_from-lefts.ensures.left s js told given));
  ready = λ room short from x at. subst (λ (l : Left). IsReady room c.args.to l) (first-only c.left_from-lefts.result from x at)
      (record { line = c.left_from-lefts.ensures.room room short; count = c.left_from-lefts.ensures.count });
  many = refl;
}

pub loop-from-preserved : goal.loop-from-preserved
loop-from-preserved c = record {
  each = λ s js told given j x below at.
      set-holds (λ n y. n < c.loop-from.from + 1 → IsLeft s js c.args.to [] n y) c.loop-from.lefts c.loop-from.from c.left_from.result
      (λ within. c.left_from.ensures.left s js told given)
      (λ n y other at within. c.loop-from.invariant.each s js told given n y (omega (arith, within, other)) at) j x at below;
  ready = λ room short.
      set-holds (λ n y. IsReady room c.args.to y) c.loop-from.lefts c.loop-from.from c.left_from.result
      (record { line = c.left_from.ensures.room room short; count = c.left_from.ensures.count })
      (λ n y other at. c.loop-from.invariant.ready room short n y at);
  many = length-set c.loop-from.lefts c.loop-from.from c.left_from.result ∙ c.loop-from.invariant.many;
}

pub returns-clause-left : goal.returns-clause-left
returns-clause-left c = λ s js told given. record {
  each = λ j x at. c.loop-from.invariant.each s js told given j x (let within = slice_get_within c.loop-from.lefts j x at in omega (arith, within, c.loop-from.invariant.many, c.loop-from-test.false)) at;
  none_taken = λ j far. refl;
  none_back = λ j far. refl;
}

pub returns-clause-ready : goal.returns-clause-ready
returns-clause-ready c = λ room short. c.loop-from.invariant.ready room short
