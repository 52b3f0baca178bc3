use Rattle.std.proofs.Common.{◌≡◌, ◌∙◌, ap, sym, subst, refl, ◌+◌, ◌<◌, ℕ, List, [], ◌∷◌, length, Bool, true, false, cond, get_or, arith}
use Rattle.std.specs.List.Sorted.{IsStrictlyIncreasing}
use mathlib.Core.Logic.{dite}
use native.Mathlib.Decide.{ℕ_discrete}
use Rattle.shared_words.specs.Entry.{often}
use Rattle.shared_words.proofs.CountLemmas.{tick-same, tick-other}
use Rattle.split_ring.specs.Kept.{flag_count}
use Rattle.split_ring.proofs.FinishLemmas.{add-count, rises-on}
use Rattle.split_ring.proofs.finish.numbers_held.Goals as goal

cond-one : (b : Bool) (n : ℕ) → n ≡ 1 → cond b n 0 ≡ cond b 1 0
cond-one b n e = ap (λ (k : ℕ). cond b k 0) e

cond-none : (b : Bool) (n : ℕ) → n ≡ 0 → cond b n 0 ≡ 0
cond-none true n e = e
cond-none false n e = refl

pub loop-id-preserved : goal.loop-id-preserved
loop-id-preserved c = let inv = c.loop-id.invariant in let k = c.loop-id.id in let flags : List Bool = c.args.held.now in let b : Bool = get_or flags k false in
    let up = rises-on b c.loop-id.out.items k inv.rises inv.low in
    let same = sym c.add.ensures.items in
    let count : (x : ℕ) → often x c.add.new.out.items ≡ often x c.loop-id.out.items + cond b (often x (k ∷ [])) 0 = λ x. ap (often x) c.add.ensures.items ∙ add-count b c.loop-id.out.items k x in record {
      below = λ x l. dite (ℕ_discrete k x)
          (λ e. let a = count x in let z = inv.above x (omega arith) in let t = tick-same k x e in let o = cond-one b (often x (k ∷ [])) (omega (arith, t)) in let f = ap (flag_count flags) e in omega (arith, a, z, o, f))
          (λ ne. let a = count x in let z = inv.below x (omega arith) in let t = tick-other k x ne in let o = cond-none b (often x (k ∷ [])) (omega (arith, t)) in omega (arith, a, z, o));
      above = λ x l. let a = count x in let z = inv.above x (omega arith) in let t = tick-other k x (λ e. omega arith) in let o = cond-none b (often x (k ∷ [])) (omega (arith, t)) in omega (arith, a, z, o);
      rises = subst IsStrictlyIncreasing same up.0;
      low = subst (λ (xs : List ℕ). (i : ℕ) → i < length xs → get_or xs i 0 < k + 1) same up.1;
      len = (let l = c.add.ensures.len in let n = inv.len in omega (arith, l, n));
      room = (let r = inv.room in let q = c.add.ensures.room in omega (arith, r, q));
    }
