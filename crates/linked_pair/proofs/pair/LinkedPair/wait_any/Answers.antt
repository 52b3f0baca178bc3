use Rattle.std.proofs.Common.{refl}
use Rattle.linked_pair.proofs.PairLemmas.{first-waits, second-waits}
use Rattle.linked_pair.proofs.pair.LinkedPair.wait_any.Goals as goal

pub invariant_of-self : goal.invariant_of-self
invariant_of-self c = first-waits _ _ _ _ _ _ c.self.inside.two _ _ _ c.waits_move_ends.ensures.plain c.domains_stay_linked.ensures.plain c.wait_any.ensures.wait c.self.invariant

pub invariant_of-self-in-Two : goal.invariant_of-self-in-Two
invariant_of-self-in-Two c = second-waits _ _ _ _ _ _ c.self.inside.one _ _ _ c.waits_move_ends.ensures.plain c.domains_stay_linked.ensures.plain c.wait_any-in-Two.ensures.wait c.self.invariant

pub returns-in-One-clause-wait : goal.returns-in-One-clause-wait
returns-in-One-clause-wait c = rw (c.in-One.is, ← c.self.view_is) (record { waits = c.wait_any.ensures.wait; stays = refl })

pub returns-in-Two-clause-wait : goal.returns-in-Two-clause-wait
returns-in-Two-clause-wait c = rw (c.in-Two.is, ← c.self.view_is) (record { waits = c.wait_any-in-Two.ensures.wait; stays = refl })
