use Rattle.std.proofs.Common.{◌∙◌, ap, sym, arith}
use Rattle.shared_words.specs.Shown.{TableShown}
use Rattle.shared_words.proofs.WordLemmas.{size_facts}
use Rattle.shared_words.proofs.table.RingTable.size.Goals as goal

pub returns-clause-value : goal.returns-clause-value
returns-clause-value c = let k = c.self.invariant.0 in sym k.size_is ∙ (sym k.slots ∙ ap (λ (x : TableShown). x.ring.table.slots) c.self.view_is)

pub returns-clause-some : goal.returns-clause-some
returns-clause-some c = let k = c.self.invariant.0 in let f = size_facts c.self.inside.board.shared.key.size k.shape.size in let s = k.size_is in omega (arith, f, s)
