-- What a load shows of the sleeper that makes it, and what is known of new ringers.
use Rattle.std.proofs.Common.{◌≡◌, ◌∙◌, ℕ, ◌+◌, ◌<◌, Bool, cond, true, false, eqb, List, [], ◌∷◌, map, sym, refl, ap, arith, ne_eqb}
use Rattle.std.specs.Prelude.{MatchBool}
use Rattle.std.specs.List.{AllByRecursion}
use Rattle.door_bell.specs.declared.view.Stage.{Stage}
use Rattle.door_bell.specs.declared.view.Stage.TheVariants.{Arming, Asleep}
use Rattle.door_bell.specs.declared.view.SleeperView.{SleeperView}
use Rattle.door_bell.specs.Change.{stage_at, arming, finding, giving_up, hearing, ringing, looking}
use Rattle.door_bell.specs.Shown.{BellShown, SleeperShown, IsRingerOf, ringer_of, with_view}

hearing-ringers : (b : Bool) (v : SleeperView) → (cond b (finding (v.found + 1) v) (giving_up v)).ringers ≡ v.ringers
hearing-ringers true v = refl
hearing-ringers false v = refl

pub heard_ringers : (r : ℕ) (v : SleeperView) → (hearing r v).ringers ≡ v.ringers
heard_ringers r v = hearing-ringers (eqb r 0) v

looking-ringers : (b : Bool) (v : SleeperView) → (cond b (ringing v) v).ringers ≡ v.ringers
looking-ringers true v = refl
looking-ringers false v = refl

pub looked_ringers : (r : ℕ) (v : SleeperView) → (looking r v).ringers ≡ v.ringers
looked_ringers r v = looking-ringers (eqb r 2) v

-- the sleeper shown after a load of the state
pub looked_shown : (b : Bool) (me new : SleeperShown) → new ≡ with_view (cond b (ringing me.view) me.view) me → MatchBool b (new ≡ with_view (ringing me.view) me) (new ≡ me)
looked_shown true me new e = e
looked_shown false me new e = e

-- and after a load of the next ringer's news
pub heard_shown : (b : Bool) (n : ℕ) (me new : SleeperShown) → n ≡ me.view.found → new ≡ with_view (cond b (finding (me.view.found + 1) me.view) (giving_up me.view)) me
    → MatchBool b (new ≡ with_view (finding (n + 1) me.view) me) (new ≡ with_view (giving_up me.view) me)
heard_shown true n me new is e = e ∙ ap (λ (k : ℕ). with_view (finding (k + 1) me.view) me) (sym is)
heard_shown false n me new is e = e

-- before the last ringer was found the sleeper is arming
pub stage_before : (n k : ℕ) → k < n → stage_at n k ≡ Arming
stage_before n k low = ap (λ (b : Bool). cond b Asleep Arming) (ne_eqb k n (λ e. omega (arith, low, e)))

pub arming_first : (me : SleeperShown) → 0 < me.view.ringers → with_view (arming me.view) me ≡ with_view (finding 0 me.view) me
arming_first me some_ringer = ap (λ (s : Stage). with_view (record me.view { stage = s; found = 0 }) me) (sym (stage_before me.view.ringers 0 some_ringer))

-- each new ringer is one of its bell
pub new_ringers_fit : (bell : BellShown) (numbers : List ℕ) → AllByRecursion (IsRingerOf bell) (map (ringer_of bell.table) numbers)
new_ringers_fit bell [] = tt
new_ringers_fit bell (p ∷ ps) = (refl, new_ringers_fit bell ps)
