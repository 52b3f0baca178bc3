use Rattle.std.proofs.Common.{◌≡◌, ◌∙◌, ap, sym, subst, Some}
use Rattle.std.specs.Prelude.{find}
use Rattle.std.specs.Vec.{with_items}
use Rattle.domain_parts.specs.LaneSeen.{LaneSeen}
use Rattle.domain_parts.specs.AllMoved.{ends_of}
use Rattle.domain_parts.specs.Carried.{with_ends, with_peer}
use Rattle.domain_parts.specs.Parts.{Sound, state_of}
use Rattle.domain_parts.proofs.Carries.{ends-with, holding-with, parts-with, same-found, written-with}
use Rattle.domain_parts.proofs.holdings.opening.carry.Given.{Over}
use Rattle.domain_parts.proofs.holdings.opening.carry.Goals as goal

abbrev v : (g : Over) → (g.row.P.Denot → LaneSeen)
v g = g.P.PeerLane.seen

module _ (g : Over) (c : goal.After-two-1 g) where
  first : c.number-first.result ≡ (state_of c.args.one.now.parts).number
  first = c.number-first.ensures ∙ sym c.one.invariant.tied.domain ∙ ap (λ h. (state_of h.parts).number) c.one.view_is

  second : c.number-second.result ≡ (state_of c.args.two.now.parts).number
  second = c.number-second.ensures ∙ sym c.two.invariant.tied.domain ∙ ap (λ h. (state_of h.parts).number) c.two.view_is

  -- what was written over the peers of each
  ones-are : (with_items c.one.inside.peers c.carry_between.new.ones).items ≡ with_peer g.P.MeetingEnds.leads (state_of c.args.two.now.parts).number c.carry_between.ensures.there_after c.one.inside.peers.items
  ones-are =
      written-with g.P.MeetingEnds.leads c.one.inside.peers c.carry_between.new.ones c.deref_mut.result.now c.number-second.result (state_of c.args.two.now.parts).number c.carry_between.ensures.there_after c.carry_between.ensures.one_has second c.deref_mut.ensures.value

  twos-are : (with_items c.two.inside.peers c.carry_between.new.twos).items ≡ with_peer g.P.MeetingEnds.leads (state_of c.args.one.now.parts).number c.carry_between.ensures.back_after c.two.inside.peers.items
  twos-are =
      written-with g.P.MeetingEnds.leads c.two.inside.peers c.carry_between.new.twos c.deref_mut-2.result.now c.number-first.result (state_of c.args.one.now.parts).number c.carry_between.ensures.back_after c.carry_between.ensures.two_has first c.deref_mut-2.ensures.value

  one-had : find (g.P.MeetingEnds.leads (state_of c.args.two.now.parts).number) (ends_of c.one.inside.peers.items) ≡ Some c.carry_between.ensures.there
  one-had = same-found g.P.MeetingEnds.leads c.number-second.result (state_of c.args.two.now.parts).number _ (ends_of c.one.inside.peers.items) c.carry_between.ensures.there second (ap ends_of c.deref_mut.ensures.value) c.carry_between.ensures.one_had

  two-had : find (g.P.MeetingEnds.leads (state_of c.args.one.now.parts).number) (ends_of c.two.inside.peers.items) ≡ Some c.carry_between.ensures.back
  two-had = same-found g.P.MeetingEnds.leads c.number-first.result (state_of c.args.one.now.parts).number _ (ends_of c.two.inside.peers.items) c.carry_between.ensures.back first (ap ends_of c.deref_mut-2.ensures.value) c.carry_between.ensures.two_had

  seen-one : v g c.carry_between.ensures.there_after ≡ v g c.carry_between.ensures.there
  seen-one = (g.met.P.MeetingEnds.same_seen _ _ _ _ c.carry_between.ensures.met).0

  seen-two : v g c.carry_between.ensures.back_after ≡ v g c.carry_between.ensures.back
  seen-two = (g.met.P.MeetingEnds.same_seen _ _ _ _ c.carry_between.ensures.met).1

pub invariant_of-one : goal.invariant_of-one
invariant_of-one g c =
    let d = c.one.inside in
    let m = c.carry_between.ensures in
    subst Sound (sym (parts-with g.P.MeetingEnds.leads (state_of c.args.two.now.parts).number (v g) m.there m.there_after (seen-one g c) d.book d.endpoints d.requests d.table d.peers.items (one-had g c) _ (ones-are g c))) c.one.invariant

pub invariant_of-two : goal.invariant_of-two
invariant_of-two g c =
    let d = c.two.inside in
    let m = c.carry_between.ensures in
    subst Sound (sym (parts-with g.P.MeetingEnds.leads (state_of c.args.one.now.parts).number (v g) m.back m.back_after (seen-two g c) d.book d.endpoints d.requests d.table d.peers.items (two-had g c) _ (twos-are g c))) c.two.invariant

pub returns-clause-one : goal.returns-clause-one
returns-clause-one g c =
    let d = c.one.inside in
    let m = c.carry_between.ensures in
    holding-with g.P.MeetingEnds.leads (state_of c.args.two.now.parts).number (v g) m.there m.there_after (seen-one g c) d.book d.endpoints d.requests d.table d.peers.items (one-had g c) _ (ones-are g c) c.args.one.now c.one.view_is

pub returns-clause-two : goal.returns-clause-two
returns-clause-two g c =
    let d = c.two.inside in
    let m = c.carry_between.ensures in
    holding-with g.P.MeetingEnds.leads (state_of c.args.one.now.parts).number (v g) m.back m.back_after (seen-two g c) d.book d.endpoints d.requests d.table d.peers.items (two-had g c) _ (twos-are g c) c.args.two.now c.two.view_is

pub returns-clause-met : goal.returns-clause-met
returns-clause-met g c =
    let one = c.args.one.now in
    let two = c.args.two.now in
    let m = c.carry_between.ensures in
    let leads = g.P.MeetingEnds.leads in
    record {
      there = m.there;
      back = m.back;
      there_after = m.there_after;
      back_after = m.back_after;
      one_had = ap (λ h. find (leads (state_of two.parts).number) h.ends) (sym c.one.view_is) ∙ one-had g c;
      two_had = ap (λ h. find (leads (state_of one.parts).number) h.ends) (sym c.two.view_is) ∙ two-had g c;
      met = m.met;
      one_has = ap ends_of (ones-are g c) ∙ ends-with leads (state_of two.parts).number m.there_after c.one.inside.peers.items ∙ ap (λ h. with_ends leads (state_of two.parts).number m.there_after h.ends) c.one.view_is;
      two_has = ap ends_of (twos-are g c) ∙ ends-with leads (state_of one.parts).number m.back_after c.two.inside.peers.items ∙ ap (λ h. with_ends leads (state_of one.parts).number m.back_after h.ends) c.two.view_is;
    }
