use Rattle.std.proofs.Common.{[], ◌∷◌, ◌++◌, take}
use Rattle.lane_end.specs.ReceiveMoves.{Looked, Took, Gave}
use Rattle.lane_tests.proofs.deeds.takes.Goals as goal

pub returns : goal.returns
returns g c =
    let both = g.met.R.RecvEnd.both in
    let taken = c.take-buffer.result in
    let seen = Looked c.look.result ∷ [] in
    let took = Took taken.0.number (take taken.1 taken.0.bytes) ∷ [] in
    let gave = Gave taken.0.number ∷ [] in
    ((seen ++ took) ++ gave, both c.args.end.now c.take-buffer.new.self c.give_back.new.self (seen ++ took) gave (both c.args.end.now c.look.new.self c.take-buffer.new.self seen took c.look.ensures.moved c.take-buffer.ensures.moved) c.give_back.ensures.moved)
