use Rattle.std.proofs.Common.{◌∙◌, arith, length}
use Rattle.shared_words.specs.Way.{way_of}
use Rattle.shared_words.proofs.Steps.{allows_read}
use Rattle.shared_words.proofs.HalfLemmas.{meets, size_here, place_here}
use Rattle.shared_words.proofs.table.RingTable.read.Goals as goal

pub load-found-requires : goal.load-found-requires
load-found-requires c = let t = c.self.inside in let h = c.half.inside in let me = c.args.half.now in let key = t.board.shared.key in let role = c.args.role in
    let m = meets role t h c.args.self.now me c.self.invariant.0 c.self.view_is c.half.invariant c.half.view_is c.requires.half in
    let within = c.number_word-word.ensures.within in let sized = size_here role t h me.view m c.args.self.now c.self.view_is in let words = m.words in
    let place = place_here role t h me m c.args.self.now c.self.view_is h.taken (length me.view.taken) m.holds.taken_count in (
      m.same,
      omega (arith, within, sized, words),
      allows_read role key t.board.shared.table_id.slots h.seat.id c.number_word-word.result h.seat.me me.view m.live c.requires.idle c.requires.shown m.slots (c.number_word-word.ensures.word ∙ λ i. (way_of (c.other.ensures i) (sized i)).number (place i)),
    )
