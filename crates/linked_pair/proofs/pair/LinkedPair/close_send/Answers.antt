use Rattle.std.proofs.Common.{refl}
use Rattle.linked_pair.proofs.PairLemmas.{first-calls, second-calls}
use Rattle.linked_pair.proofs.pair.LinkedPair.close_send.Goals as goal

pub invariant_of-self : goal.invariant_of-self
invariant_of-self c = first-calls _ _ _ _ c.self.inside.two _ _ _ _ c.calls_move_ends.ensures.plain c.domains_stay_linked.ensures.plain c.close_send.ensures.call c.self.invariant

pub invariant_of-self-in-Two : goal.invariant_of-self-in-Two
invariant_of-self-in-Two c = second-calls _ _ _ _ c.self.inside.one _ _ _ _ c.calls_move_ends.ensures.plain c.domains_stay_linked.ensures.plain c.close_send-in-Two.ensures.call c.self.invariant

pub returns-in-One-clause-call : goal.returns-in-One-clause-call
returns-in-One-clause-call c = rw (c.in-One.is, ← c.self.view_is) (record { calls = c.close_send.ensures.call; stays = refl })

pub returns-in-Two-clause-call : goal.returns-in-Two-clause-call
returns-in-Two-clause-call c = rw (c.in-Two.is, ← c.self.view_is) (record { calls = c.close_send-in-Two.ensures.call; stays = refl })
