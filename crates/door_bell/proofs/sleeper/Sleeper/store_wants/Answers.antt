use Rattle.std.proofs.Common.{ap, arith}
use Rattle.door_bell.specs.Shown.{BellShown}
use Rattle.door_bell.proofs.SleeperSteps.{allows_want}
use Rattle.door_bell.proofs.CallLemmas.{meets_sleeper}
use Rattle.door_bell.proofs.sleeper.Sleeper.store_wants.Goals as goal

pub store-requires : goal.store-requires
store-requires c = let t = c.on.inside in let h = c.self.inside in let me = c.args.self.now in
    let m = meets_sleeper t h c.args.on.now me c.on.invariant c.on.view_is c.self.invariant c.self.view_is c.requires.bell in
    let words = m.words in (
      m.same,
      omega (arith, words),
      allows_want t.board.shared.key t.board.shared.table_id.slots h.seat.id h.seat.me me.view m.live c.requires.awake,
    )

pub returns-clause-ringers : goal.returns-clause-ringers
returns-clause-ringers c = let t = c.on.inside in let h = c.self.inside in let me = c.args.self.now in
    let m = meets_sleeper t h c.args.on.now me c.on.invariant c.on.view_is c.self.invariant c.self.view_is c.requires.bell in
    let a = m.ringers in let b = m.ringers_are in let d = ap (λ (x : BellShown). x.ringers) c.on.view_is in omega (arith, a, b, d)
