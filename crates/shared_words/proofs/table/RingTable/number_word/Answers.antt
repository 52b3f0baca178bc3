use Rattle.std.proofs.Common.{◌<◌, subst, arith, mod-lt, ℕ}
use Rattle.shared_words.proofs.table.RingTable.number_word.Goals as goal

pub word_of-requires : goal.word_of-requires
word_of-requires c = let s = c.size.ensures in let p = c.place-place.ensures in let v = s.value in
    let low = mod-lt c.args.count (subst (λ (z : ℕ). 0 < z) v s.some) in omega (arith, p, v, low)

pub word_of-requires-in-Device : goal.word_of-requires-in-Device
word_of-requires-in-Device c = let s = c.size-in-Device.ensures in let p = c.place-place.ensures in let v = s.value in
    let low = mod-lt c.args.count (subst (λ (z : ℕ). 0 < z) v s.some) in omega (arith, p, v, low)
