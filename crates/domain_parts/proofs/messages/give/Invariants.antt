use Rattle.domain_parts.proofs.Copying.{Copied}
use Rattle.domain_parts.proofs.messages.give.Given as goal

abbrev pub invariant-loop-n : goal.invariant-loop-n
invariant-loop-n l = Copied l.book l.slot l.most l.n l.size l.given l.fn.out l.out
