use Rattle.std.proofs.Common.{◌∙◌, ap, sym, ◌++◌, ◌∷◌, [], ℕ, List, arith}
use Rattle.std.specs.Slots.{slots_items}
use Rattle.shared_words.proofs.Ending.{take-next}
use Rattle.shared_words.proofs.closing.copy_words.Goals as goal

pub loop-i-preserved : goal.loop-i-preserved
loop-i-preserved c = let inv = c.loop-i.invariant in record {
  items = c.push_reserved.ensures.items ∙ (ap (λ (l : List ℕ). l ++ c.word.result ∷ []) inv.items ∙ sym (take-next (slots_items c.args.closed.now.words) c.loop-i.i c.word.result c.word.ensures));
  len = (let l = c.push_reserved.ensures.len in let i = inv.len in omega (arith, l, i));
  room = (let k = c.push_reserved.ensures.capacity in let r = inv.room in omega (arith, k, r));
}
