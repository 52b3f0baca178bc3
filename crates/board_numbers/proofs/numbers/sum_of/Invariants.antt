use Rattle.std.proofs.Common.{◌≡◌, ◌+◌, take, sum_by}
use Rattle.board_numbers.proofs.numbers.sum_of.Given as goal

abbrev pub invariant-loop-tally : goal.invariant-loop-tally
invariant-loop-tally l = record {
  sent : l.sum.sent ≡ sum_by (λ y. y.counts.sent) (take l.tally-index l.tallies);
  brought : l.sum.brought ≡ sum_by (λ y. y.counts.brought) (take l.tally-index l.tallies);
  dropped : l.sum.dropped ≡ sum_by (λ y. y.counts.lost + y.deleted) (take l.tally-index l.tallies);
  queued : l.sum.queued ≡ sum_by (λ y. y.held.queued) (take l.tally-index l.tallies);
}
