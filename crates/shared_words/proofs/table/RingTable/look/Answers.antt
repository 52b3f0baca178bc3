use Rattle.std.proofs.Common.{◌∙◌, arith}
use Rattle.shared_words.specs.Way.{way_of}
use Rattle.shared_words.proofs.Steps.{allows_look}
use Rattle.shared_words.proofs.HalfLemmas.{meets, size_here}
use Rattle.shared_words.proofs.table.RingTable.look.Goals as goal

pub load-found-requires : goal.load-found-requires
load-found-requires c = let t = c.self.inside in let h = c.half.inside in let me = c.args.half.now in let key = t.board.shared.key in let role = c.args.role in
    let m = meets role t h c.args.self.now me c.self.invariant.0 c.self.view_is c.half.invariant c.half.view_is c.requires.half in
    let within = c.idx_word-word.ensures.within in let sized = size_here role t h me.view m c.args.self.now c.self.view_is in let words = m.words in (
      m.same,
      omega (arith, within, sized, words),
      allows_look role key t.board.shared.table_id.slots h.seat.id c.idx_word-word.result h.seat.me me.view m.live m.slots (c.idx_word-word.ensures.word ∙ λ i. (way_of (c.other.ensures i) (sized i)).idx),
    )
