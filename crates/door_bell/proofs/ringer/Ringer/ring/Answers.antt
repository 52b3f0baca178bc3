use Rattle.std.proofs.Common.{◌∙◌, arith, refl}
use Rattle.door_bell.specs.Change.{posting_news}
use Rattle.door_bell.proofs.RingerSteps.{allows_post, allows_ring}
use Rattle.door_bell.proofs.CallLemmas.{meets_ringer}
use Rattle.door_bell.proofs.ringer.Ringer.ring.Goals as goal

pub store-requires : goal.store-requires
store-requires c = let t = c.on.inside in let h = c.self.inside in let me = c.args.self.now in
    let m = meets_ringer t h c.args.on.now me c.on.invariant c.on.view_is c.self.invariant c.self.view_is c.requires in
    let words = m.words in let low = m.in_range in let w = c.word_of_news-word.ensures in (
      m.same,
      omega (arith, words, low, w),
      allows_post t.board.shared.key t.board.shared.table_id.slots h.seat.id h.number h.seat.me me.view m.live c.word_of_news-word.result w m.in_range,
    )

pub compare_exchange-state-requires : goal.compare_exchange-state-requires
compare_exchange-state-requires c = let t = c.on.inside in let h = c.self.inside in let me = c.args.self.now in
    let m = meets_ringer t h c.args.on.now me c.on.invariant c.on.view_is c.self.invariant c.self.view_is c.requires in
    let e = c.store.ensures in let words = m.words in (
      e.0 ∙ m.same,
      omega (arith, words),
      allows_ring t.board.shared.key t.board.shared.table_id.slots c.store.new.seat.id h.number c.store.new.seat.me (posting_news me.view) (e.2 h.number me.view m.live c.word_of_news-word.ensures refl),
    )
