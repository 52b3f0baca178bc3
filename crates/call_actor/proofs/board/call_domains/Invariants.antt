use Rattle.std.proofs.Common.{◌≡◌, map}
use Rattle.call_service.specs.Served.{rising}
use Rattle.call_actor.specs.CallsBoards.{call_domain}
use Rattle.call_actor.proofs.board.call_domains.Given as goal

abbrev pub invariant-loop-domain : goal.invariant-loop-domain
invariant-loop-domain l = l.domains.items ≡ map call_domain (rising 0 l.domain)
