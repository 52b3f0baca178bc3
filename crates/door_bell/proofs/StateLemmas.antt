-- The state of a bell, and which seat has which view.
use Rattle.std.proofs.Common.{◌≡◌, ◌≢◌, ◌⊎◌, ℕ, zero, suc, ◌<◌, List, [], ◌∷◌, sym, refl, ap, ◌∙◌, subst, inl, inr, ⊎_elim, arith}
use mathlib.Core.Option.{some, some-injective, some-ne-none}
use lib.ListN.{get_elem?}
use Rattle.door_bell.specs.declared.view.Stage.{Stage}
use Rattle.door_bell.specs.declared.view.Stage.TheVariants.{Awake, Arming, Asleep, GivingUp, Rung}
use Rattle.door_bell.specs.declared.view.BellView.{BellView}
use Rattle.door_bell.specs.declared.view.BellView.TheVariants.{Opening}
use Rattle.door_bell.specs.Layout.{StateFits}
use Rattle.door_bell.specs.BellRule.{BellState, Running, BellRule}

-- a state that is not that of an awake sleeper
one_or_two : (state : ℕ) → (state ≡ 1) ⊎ (state ≡ 2) → (0 < state) × (state < 3)
one_or_two state f = ⊎_elim (λ (e : state ≡ 1). (omega (arith, e), omega (arith, e))) (λ (e : state ≡ 2). (omega (arith, e), omega (arith, e))) f

pub fits_bounds : (stage : Stage) (state : ℕ) → StateFits stage state → state < 3
fits_bounds Awake state f = omega (arith, f)
fits_bounds Arming state f = (one_or_two state f).1
fits_bounds Asleep state f = (one_or_two state f).1
fits_bounds GivingUp state f = (one_or_two state f).1
fits_bounds Rung state f = (one_or_two state f).1

-- 0 says that the sleeper is awake
pub zero_awake : (stage : Stage) → StateFits stage 0 → stage ≡ Awake
zero_awake Awake f = refl
zero_awake Arming f = let h = one_or_two 0 f in absurd (omega (arith, h))
zero_awake Asleep f = let h = one_or_two 0 f in absurd (omega (arith, h))
zero_awake GivingUp f = let h = one_or_two 0 f in absurd (omega (arith, h))
zero_awake Rung f = let h = one_or_two 0 f in absurd (omega (arith, h))

-- where it is 1 it may become 2
pub fits_rung : (stage : Stage) → StateFits stage 1 → StateFits stage 2
fits_rung Awake f = absurd (omega (arith, f))
fits_rung Arming f = inr refl
fits_rung Asleep f = inr refl
fits_rung GivingUp f = inr refl
fits_rung Rung f = inr refl

pub only : (v w : BellView) (j : ℕ) → get_elem? (v ∷ []) j ≡ some w → (j ≡ 0) × (v ≡ w)
only v w zero at = (refl, some-injective v w at)
only v w (suc j) at = absurd (some-ne-none w (sym at))

pub running : (count : ℕ) (s : BellState) (id : ℕ) (v : BellView) → v ≢ Opening → get_elem? s.views id ≡ some v → BellRule count s → Running count s
running count s id v ne at (inr r) = r
running count s id v ne at (inl f) = absurd (ne (sym (only Opening v id (subst (λ (vs : List BellView). get_elem? vs id ≡ some v) f.views at)).1))

-- where a view is that a seat has
pub placed : (s : BellState) (id : ℕ) (me v : BellView) → get_elem? s.views id ≡ some me → me ≡ v → get_elem? s.views id ≡ some v
placed s id me v at is = at ∙ ap some is
