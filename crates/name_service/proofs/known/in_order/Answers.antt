use Rattle.std.proofs.Common.{arith}
use Rattle.std.proofs.lemmas.Bool.Decides.{nat_tests}
use Rattle.mc_base.specs.NameMap.{rank}
use Rattle.name_service.proofs.known.in_order.Goals as goal

pub returns : goal.returns
unfolding rank
returns c = grind (arith, nat_tests, c.cmp.ensures, c.cmp-2.ensures, c.then.ensures, c.cmp-3.ensures, c.then-2.ensures)
