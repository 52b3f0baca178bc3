use Rattle.std.proofs.Common.{[], ◌∷◌, ◌++◌, take}
use Rattle.lane_end.specs.ReceiveMoves.{Looked, Took}
use Rattle.lane_tests.proofs.deeds.keeps.Goals as goal

pub returns-then-shown-gt0 : goal.returns-then-shown-gt0
returns-then-shown-gt0 g c =
    let seen = Looked c.look-shown.result ∷ [] in
    let took = Took c.take.result.0.number (take c.take.result.1 c.take.result.0.bytes) ∷ [] in
    (seen ++ took, g.met.R.RecvEnd.both c.args.end.now c.look-shown.new.self c.take.new.self seen took c.look-shown.ensures.moved c.take.ensures.moved)
