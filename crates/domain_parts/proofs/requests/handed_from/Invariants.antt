use Rattle.std.proofs.Common.{◌≡◌, take}
use Rattle.domain_parts.specs.InBook.{frames_count}
use Rattle.domain_parts.specs.InRequests.{handed_slots}
use Rattle.domain_parts.proofs.requests.handed_from.Given as goal

abbrev pub invariant-loop-at : goal.invariant-loop-at
invariant-loop-at l = record {
  count : l.count ≡ frames_count l.book l.peer (handed_slots (take l.at l.requests.standing));
}
