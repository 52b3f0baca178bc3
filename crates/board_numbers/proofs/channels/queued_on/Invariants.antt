use Rattle.std.proofs.Common.{◌≡◌, ◌<◌, ◌^◌, map, take, sum_by}
use Rattle.board_numbers.specs.ItemCounts.{queued_at}
use Rattle.board_numbers.proofs.channels.queued_on.Given as goal

abbrev pub invariant-loop-domain : goal.invariant-loop-domain
invariant-loop-domain g l = sum_by (queued_at l.owner l.number) (map g.D.EndedDomain.ended l.domains) < 2 ^ 64 → l.queued ≡ sum_by (queued_at l.owner l.number) (take l.domain-index (map g.D.EndedDomain.ended l.domains))
