use Rattle.std.proofs.Common.{get_or, sym, subst}
use Rattle.domain_parts.proofs.Carries.{has-ends, no-ends, set-ends}
use Rattle.domain_parts.proofs.carrying.carry_between.Goals as goal

pub returns-in_default : goal.returns-in_default
returns-in_default g c = absurd (no-ends g.P.MeetingEnds.leads c.args.two c.args.ones.now c.requires.there c.in_default.ensures.place c.requires.one_has)

pub returns-in_default-place_of_link : goal.returns-in_default-place_of_link
returns-in_default-place_of_link g c = absurd (no-ends g.P.MeetingEnds.leads c.args.one c.args.twos.now c.requires.back c.in_default-place_of_link.ensures.place c.requires.two_has)

pub meet-requires : goal.meet-requires
meet-requires g c =
    let there = has-ends g.P.MeetingEnds.leads c.args.two c.args.ones.now c.in-Some.place c.index-ones-place.result c.requires.there c.in-Some.ensures.place c.in-Some.ensures.within c.requires.one_has in
    let back = has-ends g.P.MeetingEnds.leads c.args.one c.args.twos.now c.in-Some-place_of_link.back c.index-twos-back.result c.requires.back c.in-Some-place_of_link.ensures.place c.in-Some-place_of_link.ensures.within c.requires.two_has in
    subst (λ x. g.P.MeetingEnds.May x (get_or c.args.twos.now c.in-Some-place_of_link.back c.index-twos-back.result).ends) there (subst (λ y. g.P.MeetingEnds.May c.requires.there y) back c.requires.may)

pub returns : goal.returns
returns g c =
    let i = c.in-Some in
    let j = c.in-Some-place_of_link in
    let there = has-ends g.P.MeetingEnds.leads c.args.two c.args.ones.now i.place c.index-ones-place.result c.requires.there i.ensures.place i.ensures.within c.requires.one_has in
    let back = has-ends g.P.MeetingEnds.leads c.args.one c.args.twos.now j.back c.index-twos-back.result c.requires.back j.ensures.place j.ensures.within c.requires.two_has in
    record {
      there = c.requires.there;
      back = c.requires.back;
      there_after = c.meet.new.self;
      back_after = c.meet.new.other;
      one_had = c.requires.one_has;
      two_had = c.requires.two_has;
      met = subst (λ x. g.P.MeetingEnds.Met x c.requires.back c.meet.new.self c.meet.new.other) (sym there) (subst (λ y. g.P.MeetingEnds.Met (get_or c.args.ones.now i.place c.index-ones-place.result).ends y c.meet.new.self c.meet.new.other) (sym back) c.meet.ensures);
      one_has = set-ends g.P.MeetingEnds.leads c.args.two c.args.ones.now i.place c.index-ones-place.result c.meet.new.self i.ensures.place i.ensures.within;
      two_has = set-ends g.P.MeetingEnds.leads c.args.one c.args.twos.now j.back c.index-twos-back.result c.meet.new.other j.ensures.place j.ensures.within;
    }
