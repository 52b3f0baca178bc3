use Rattle.std.proofs.Common.{ap, arith, refl}
use Rattle.door_bell.specs.Shown.{BellShown}
use Rattle.door_bell.proofs.SleeperSteps.{allows_clear}
use Rattle.door_bell.specs.Change.{clearing}
use Rattle.door_bell.proofs.CallLemmas.{meets_sleeper, sleeper_held}
use Rattle.door_bell.proofs.sleeper.Sleeper.clear_news.Goals as goal

pub store-requires : goal.store-requires
store-requires c = let t = c.on.inside in let h = c.self.inside in let me = c.args.self.now in
    let m = meets_sleeper t h c.args.on.now me c.on.invariant c.on.view_is c.self.invariant c.self.view_is c.requires.bell in
    let words = m.words in (
      m.same,
      let a = c.requires.number in let b = ap (λ (x : BellShown). x.ringers) c.on.view_is in let d = m.ringers_are in let w = c.word_of_news-word.ensures in omega (arith, words, a, b, d, w),
      allows_clear t.board.shared.key t.board.shared.table_id.slots h.seat.id h.seat.me me.view m.live c.word_of_news-word.result c.args.number c.word_of_news-word.ensures c.requires.awake,
    )

pub invariant_of-self : goal.invariant_of-self
invariant_of-self c = let t = c.on.inside in let h = c.self.inside in let me = c.args.self.now in
    let m = meets_sleeper t h c.args.on.now me c.on.invariant c.on.view_is c.self.invariant c.self.view_is c.requires.bell in
    sleeper_held t h me.view (clearing c.args.number me.view) c.store.new.seat.table_id c.store.new.seat.me.0 m c.store.ensures.0 (c.store.ensures.2 c.args.number me.view m.live c.requires.awake c.word_of_news-word.ensures refl) refl
