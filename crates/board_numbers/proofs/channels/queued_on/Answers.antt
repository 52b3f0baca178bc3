use Rattle.std.proofs.Common.{◌≡◌, get_or, map, ap, arith}
use Rattle.std.proofs.lemmas.List.Sums.{sum_by_more, sum_by_more_le}
use Rattle.board_numbers.specs.ItemCounts.{queued_at}
use Rattle.board_numbers.proofs.EachLemmas.{mapped-read, mapped-within}
use Rattle.board_numbers.proofs.channels.queued_on.Goals as goal

pub loop-domain-preserved : goal.loop-domain-preserved
loop-domain-preserved g c small =
    let f = g.D.EndedDomain.ended in
    let ds = c.args.domains.now in
    let i = c.loop-domain.domain-index in
    let d = c.domain-item.result in
    let q = queued_at c.args.owner c.args.number in
    let within = mapped-within f ds i c.loop-domain-test.true in
    let read = mapped-read f ds i d c.loop-domain-test.true c.domain-item.is in
    let item : q (f d) ≡ q (get_or (map f ds) i (f d)) = ap q read in
    let many : c.queued.result ≡ q (f d) = c.queued.ensures in
    let more = sum_by_more q (map f ds) i (f d) within in
    let below = sum_by_more_le q (map f ds) i (f d) within in
    let before = c.loop-domain.invariant small in
    omega (arith, c.saturating_add-queued.ensures, many, item, more, below, before, small)
