use Rattle.std.proofs.Common.{◌∷◌, [], refl, sym, subst}
use Rattle.mc_base.specs.declared.channel.Side.{Side}
use Rattle.mc_base.specs.declared.refusal.Refusal.TheVariants.{ChanClosed}
use Rattle.domain_parts.specs.CallSteps.{Empties, drops}
use Rattle.domain_parts.specs.Parts.{Parts}
use Rattle.domain_parts.specs.Records.{slots_at}
use Rattle.domain_parts.specs.Steps.{Did, receives_ended}
use Rattle.domain_parts.proofs.Stepping.{did-then}
use Rattle.domain_parts.proofs.holdings.Holdings.empty_end.Goals as goal

pub returns-in-Sender-clause-did : goal.returns-in-Sender-clause-did
returns-in-Sender-clause-did g c = subst (λ (side : Side). Empties g.P.PeerLane.Moved side c.args.place c.args.at c.args.self.now c.args.self.now) (sym c.in-Sender.is) refl

pub returns-in-Receiver-clause-did : goal.returns-in-Receiver-clause-did
returns-in-Receiver-clause-did g c =
    let M = g.P.PeerLane.Moved in
    let i = c.args.place in
    let old = c.args.self.now in
    let mid = c.end_receives.new.self in
    let new = c.drop_all.new.self in
    let dropped = subst (λ (x : Parts). Did M (drops x.book i (slots_at x.records i)) mid new) c.end_receives.ensures.parts c.drop_all.ensures.did in
    subst (λ (side : Side). Empties M side i c.args.at old new) (sym c.in-Receiver.is)
    (did-then M g.met.P.PeerLane.both (receives_ended c.args.at ChanClosed ∷ []) (drops old.parts.book i (slots_at old.parts.records i)) old mid new c.end_receives.ensures dropped)
