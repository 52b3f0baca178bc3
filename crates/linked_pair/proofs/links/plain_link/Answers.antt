use Rattle.linked_pair.proofs.PairLemmas.{ends-open}
use Rattle.linked_pair.proofs.links.plain_link.Goals as goal

pub returns-clause-open : goal.returns-clause-open
returns-clause-open c =
    let there = ends-open c.args.two c.args.size _ _ c.in_ok-sent.ensures.sender c.in_ok-answered.ensures.receiver c.in_ok-sent.ensures.size in
    let back = ends-open c.args.one c.args.size _ _ c.in_ok-answered.ensures.sender c.in_ok-sent.ensures.receiver c.in_ok-sent.ensures.size in
    (there, back)
