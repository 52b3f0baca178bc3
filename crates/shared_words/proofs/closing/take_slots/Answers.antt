use Rattle.std.proofs.Common.{◌≡◌, ◌∙◌, ap, sym, subst, ◌+◌, ◌++◌, ◌∷◌, [], ℕ, List, Option, take, arith, get_or, get_or-set_other, get_or-set_same, set, Bool, false}
use mathlib.Core.Logic.{dite}
use native.Mathlib.Decide.{ℕ_discrete}
use Rattle.std.specs.Slots.{slots_items, slots_filled, slots_counts}
use Rattle.mc_base.specs.Stored.{Stored}
use Rattle.shared_words.proofs.Ending.{take-next}
use Rattle.shared_words.proofs.closing.take_slots.Goals as goal

pub loop-i-preserved : goal.loop-i-preserved
loop-i-preserved c = let inv = c.loop-i.invariant in let i = c.loop-i.i in let o = c.take.ensures.others in let f : List Bool = slots_filled c.loop-i.closed.slots in record {
  same = o.0 ∙ inv.same;
  count = o.2 ∙ inv.count;
  filled = λ k a b. ap (λ (l : List Bool). get_or l k false) o.1 ∙ (get_or-set_other f i k false false (λ e. omega arith) ∙ inv.filled k (omega arith) b);
  cleared = λ k l. ap (λ (m : List Bool). get_or m k false) o.1 ∙ dite (ℕ_discrete k i)
      (λ e. subst (λ (j : ℕ). get_or (set f i false) j false ≡ false) (sym e) (get_or-set_same f i false false (let n = (slots_counts c.loop-i.closed.slots).1 in let q = inv.count in let t = c.loop-i-test.true in omega (arith, n, q, t))))
      (λ ne. get_or-set_other f i k false false ne ∙ inv.cleared k (omega arith));
  items = c.push_reserved.ensures.items ∙ (ap (λ (l : List (Option Stored)). l ++ c.take.result ∷ []) inv.items ∙ (sym (take-next (slots_items c.loop-i.closed.slots) i c.take.result c.take.ensures.value) ∙ ap (λ (l : List (Option Stored)). take (i + 1) l) (sym o.0)));
  len = (let l = c.push_reserved.ensures.len in let n = inv.len in omega (arith, l, n));
  room = (let k = c.push_reserved.ensures.capacity in let r = inv.room in omega (arith, k, r));
}
