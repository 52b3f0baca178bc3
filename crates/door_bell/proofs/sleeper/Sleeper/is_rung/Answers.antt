use Rattle.std.proofs.Common.{nat_eq, arith, refl}
use Rattle.door_bell.proofs.SleeperSteps.{allows_look}
use Rattle.door_bell.specs.Change.{looking}
use Rattle.door_bell.proofs.CallLemmas.{meets_sleeper, sleeper_held, sleeper_shown}
use Rattle.door_bell.proofs.ShownLemmas.{looked_ringers, looked_shown}
use Rattle.door_bell.proofs.sleeper.Sleeper.is_rung.Goals as goal

pub load-requires : goal.load-requires
load-requires c = let t = c.on.inside in let h = c.self.inside in let me = c.args.self.now in
    let m = meets_sleeper t h c.args.on.now me c.on.invariant c.on.view_is c.self.invariant c.self.view_is c.requires.bell in
    let words = m.words in (
      m.same,
      omega (arith, words),
      allows_look t.board.shared.key t.board.shared.table_id.slots h.seat.id h.seat.me me.view m.live c.requires.asleep,
    )

pub invariant_of-self : goal.invariant_of-self
invariant_of-self c = let t = c.on.inside in let h = c.self.inside in let me = c.args.self.now in
    let m = meets_sleeper t h c.args.on.now me c.on.invariant c.on.view_is c.self.invariant c.self.view_is c.requires.bell in
    sleeper_held t h me.view (looking c.load.result me.view) c.load.new.seat.table_id c.load.new.seat.me.0 m c.load.ensures.0 (c.load.ensures.2 me.view m.live c.requires.asleep refl) (looked_ringers c.load.result me.view)

pub returns : goal.returns
returns c = let t = c.on.inside in let h = c.self.inside in let me = c.args.self.now in
    let m = meets_sleeper t h c.args.on.now me c.on.invariant c.on.view_is c.self.invariant c.self.view_is c.requires.bell in
    looked_shown (nat_eq c.load.result 2) me _ (sleeper_shown h me (looking c.load.result me.view) c.load.new.seat.table_id c.load.new.seat.me.0 c.self.view_is c.load.ensures.0 (c.load.ensures.2 me.view m.live c.requires.asleep refl))
