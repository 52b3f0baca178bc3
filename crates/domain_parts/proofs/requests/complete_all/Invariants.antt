use Rattle.std.proofs.Common.{◌≡◌}
use Rattle.domain_parts.specs.InRequests.{completed_with}
use Rattle.domain_parts.proofs.Completing.{so_far}
use Rattle.domain_parts.proofs.requests.complete_all.Given as goal

abbrev pub invariant-loop-at : goal.invariant-loop-at
invariant-loop-at l = record {
  so : l.requests ≡ record l.fn.requests { standing = so_far (completed_with l.who l.how) l.at l.fn.requests.standing };
}
