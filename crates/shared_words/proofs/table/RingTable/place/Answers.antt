use Rattle.std.proofs.Common.{◌≡◌, ◌∙◌, ap, sym, ◌-◌, ◌%◌, ℕ, bit_and}
use Rattle.shared_words.specs.Shown.{TableShown, size_of}
use Rattle.shared_words.proofs.HalfLemmas.{masked}
use Rattle.shared_words.proofs.table.RingTable.place.Goals as goal

pub returns : goal.returns
returns c = let k = c.self.invariant.0 in let n = c.args.count in
    let size : c.self.inside.size ≡ size_of c.args.self.now.ring = sym k.size_is ∙ (sym k.slots ∙ ap (λ (x : TableShown). x.ring.table.slots) c.self.view_is) in
    ap (λ (z : ℕ). bit_and n (z - 1)) (sym k.size_is) ∙ (masked n c.self.inside.board.shared.key.size k.shape.size ∙ ap (λ (z : ℕ). n % z) (k.size_is ∙ size))
