use Rattle.std.proofs.Common.{ap, arith}
use Rattle.door_bell.specs.Shown.{BellShown}
use Rattle.door_bell.proofs.SleeperSteps.{allows_hear}
use Rattle.door_bell.specs.Change.{hearing}
use Rattle.door_bell.proofs.CallLemmas.{meets_sleeper, sleeper_held}
use Rattle.door_bell.proofs.ShownLemmas.{heard_ringers}
use Rattle.door_bell.proofs.sleeper.Sleeper.hears_nothing.Goals as goal

pub load-news-requires : goal.load-news-requires
load-news-requires c = let t = c.on.inside in let h = c.self.inside in let me = c.args.self.now in
    let m = meets_sleeper t h c.args.on.now me c.on.invariant c.on.view_is c.self.invariant c.self.view_is c.requires.bell in
    let words = m.words in (
      m.same,
      let a = c.requires.number in let b = ap (λ (x : BellShown). x.ringers) c.on.view_is in let d = m.ringers_are in let w = c.word_of_news-word.ensures in omega (arith, words, a, b, d, w),
      allows_hear t.board.shared.key t.board.shared.table_id.slots h.seat.id h.seat.me me.view m.live c.word_of_news-word.result c.requires.arming (let a = c.requires.next in let w = c.word_of_news-word.ensures in omega (arith, a, w)),
    )

pub invariant_of-self : goal.invariant_of-self
invariant_of-self c = let t = c.on.inside in let h = c.self.inside in let me = c.args.self.now in
    let m = meets_sleeper t h c.args.on.now me c.on.invariant c.on.view_is c.self.invariant c.self.view_is c.requires.bell in
    sleeper_held t h me.view (hearing c.load-news.result me.view) c.load-news.new.seat.table_id c.load-news.new.seat.me.0 m c.load-news.ensures.0 (c.load-news.ensures.2 me.view m.live c.requires.arming (let a = c.requires.next in let w = c.word_of_news-word.ensures in omega (arith, a, w))) (heard_ringers c.load-news.result me.view)
