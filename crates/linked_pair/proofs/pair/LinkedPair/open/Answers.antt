use Rattle.linked_pair.proofs.PairLemmas.{opened-linked, opened-of}
use Rattle.linked_pair.proofs.pair.LinkedPair.open.Goals as goal

pub invariant_of-result : goal.invariant_of-result
invariant_of-result c =
    let there = opened-of c.args.one c.in_ok-there.there c.args.two.number c.args.size c.in-Ok.first c.in_ok-there.ensures.one c.in-Ok.ensures.opened in
    let back = opened-of c.args.two c.in_ok-there.back c.args.one.number c.args.size c.in-Ok-open_with.second c.in_ok-there.ensures.two c.in-Ok-open_with.ensures.opened in
    opened-linked c.args.one c.args.two c.args.size c.in-Ok.first c.in-Ok-open_with.second there back
