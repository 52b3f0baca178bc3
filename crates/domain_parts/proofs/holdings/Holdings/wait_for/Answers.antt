use Rattle.std.proofs.Common.{◌∙◌, sym, subst}
use Rattle.std.specs.Prelude.{Ok}
use Rattle.domain_parts.specs.Calls.{LendsLast, result_of_done}
use Rattle.domain_parts.specs.DomainView.{packet_lent_as}
use Rattle.domain_parts.specs.Parts.{shown}
use Rattle.domain_parts.specs.Waiting.{Polled}
use Rattle.domain_parts.proofs.WaitPlaces.{all-named, named-within}
use Rattle.domain_parts.proofs.WaitSteps.{awaited-of, polls-packets}
use Rattle.domain_parts.proofs.WaitEnds.{ended-after, ended-at-once, ended-invalid, gave-up, timed-out}
use Rattle.domain_parts.proofs.holdings.Holdings.wait_for.Goals as goal

-- ---- it is refused

pub returns-then-not-all_exist-clause-waits : goal.returns-then-not-all_exist-clause-waits
returns-then-not-all_exist-clause-waits g c = λ says_place.
    let old = c.args.self.now in
    let ids = c.args.ids.now in
    ended-invalid g.P.PeerLane.Moved ids says_place c.args.number c.args.limit c.args.journal.now.lines old c.first_done-first.ensures.rests
    (sym (all-named (shown old).state (shown old).ids ids) ∙ sym c.all_exist.ensures ∙ c.if-not-all_exist.true)

-- ---- it ends without a turn

pub end_first-requires : goal.end_first-requires
end_first-requires g c =
    let old = c.args.self.now in
    record {
      exist = sym (all-named (shown old).state (shown old).ids c.args.ids.now) ∙ sym c.all_exist.ensures ∙ c.if-not-all_exist.false;
      first = sym c.in-Some.ensures.first;
      rests = c.first_done-first.ensures.rests;
      out = c.requires.out;
    }

pub returns-in-Some-clause-waits : goal.returns-in-Some-clause-waits
returns-in-Some-clause-waits g c = λ says_place.
    let old = c.args.self.now in
    let new = c.end_first.new.self in
    let all = sym (all-named (shown old).state (shown old).ids c.args.ids.now) ∙ sym c.all_exist.ensures ∙ c.if-not-all_exist.false in
    ended-at-once g.P.PeerLane.Moved c.args.ids.now says_place c.args.number c.args.limit c.args.journal.now.lines (shown old) (shown new) c.in-Some.at (result_of_done c.end_first.result c.end_first.new.out (packet_lent_as (shown new)))
    all (sym c.in-Some.ensures.first) (c.end_first.ensures.does says_place)

pub returns-in-Some-clause-within : goal.returns-in-Some-clause-within
returns-in-Some-clause-within g c = named-within c.args.ids.now (shown c.args.self.now) c.in-Some.at (sym c.in-Some.ensures.first)

-- ---- it begins

pub poll-requires-clause-awaited : goal.poll-requires-clause-awaited
poll-requires-clause-awaited g c =
    let old = shown c.args.self.now in
    awaited-of c.args.ids.now old (sym (all-named old.state old.ids c.args.ids.now) ∙ sym c.all_exist.ensures ∙ c.if-not-all_exist.false) (sym c.in_default.ensures.first)

pub poll-requires-clause-rests : goal.poll-requires-clause-rests
poll-requires-clause-rests g c = c.first_done-first.ensures.rests

pub returns-in-Err-clause-waits : goal.returns-in-Err-clause-waits
returns-in-Err-clause-waits g c = λ says_place.
    let M = g.P.PeerLane.Moved in
    let old = shown c.args.self.now in
    let new = shown c.poll.new.self in
    let ids = c.args.ids.now in
    let awaited = awaited-of ids old (sym (all-named old.state old.ids ids) ∙ sym c.all_exist.ensures ∙ c.if-not-all_exist.false) (sym c.in_default.ensures.first) in
    gave-up M ids says_place c.args.number c.args.limit c.args.journal.now.lines old awaited c.note.new.self.lines c.poll.new.journal.lines c.note.ensures.lines new c.in-Err.field-0 c.in-Err.ensures.polled

pub returns-in-Ok-None-clause-waits : goal.returns-in-Ok-None-clause-waits
returns-in-Ok-None-clause-waits g c = λ says_place.
    let M = g.P.PeerLane.Moved in
    let old = shown c.args.self.now in
    let new = c.poll.new.self in
    let ids = c.args.ids.now in
    let polled = subst (λ o. Polled M c.args.limit ids old (shown new) c.note.new.self.lines c.poll.new.journal.lines (Ok o)) c.in-Ok-None.field-0-is c.in-Ok-None.ensures.polled in
    let awaited = awaited-of ids old (sym (all-named old.state old.ids ids) ∙ sym c.all_exist.ensures ∙ c.if-not-all_exist.false) (sym c.in_default.ensures.first) in
    timed-out M ids says_place c.args.number c.args.limit c.args.journal.now.lines old awaited c.note.new.self.lines c.poll.new.journal.lines c.note.ensures.lines new polled c.poll.ensures.rests

-- ---- it ends after a turn

pub end_first-requires-in-Ok-Some : goal.end_first-requires-in-Ok-Some
end_first-requires-in-Ok-Some g c =
    let polled = subst (λ o. Polled g.P.PeerLane.Moved c.args.limit c.args.ids.now (shown c.args.self.now) (shown c.poll.new.self) c.note.new.self.lines c.poll.new.journal.lines (Ok o)) c.in-Ok-Some.field-0-is c.in-Ok-Some.ensures.polled in
    record { exist = polled.ends.0; first = polled.ends.1; rests = c.poll.ensures.rests; out = c.requires.out }

pub returns-in-Ok-Some-clause-waits : goal.returns-in-Ok-Some-clause-waits
returns-in-Ok-Some-clause-waits g c = λ says_place.
    let M = g.P.PeerLane.Moved in
    let old = shown c.args.self.now in
    let mid = shown c.poll.new.self in
    let new = shown c.end_first-in-Ok-Some.new.self in
    let ids = c.args.ids.now in
    let polled = subst (λ o. Polled M c.args.limit ids old mid c.note.new.self.lines c.poll.new.journal.lines (Ok o)) c.in-Ok-Some.field-0-is c.in-Ok-Some.ensures.polled in
    let awaited = awaited-of ids old (sym (all-named old.state old.ids ids) ∙ sym c.all_exist.ensures ∙ c.if-not-all_exist.false) (sym c.in_default.ensures.first) in
    ended-after M ids says_place c.args.number c.args.limit c.args.journal.now.lines old awaited c.note.new.self.lines c.poll.new.journal.lines c.note.ensures.lines mid new c.in-Ok-Some.at (result_of_done c.end_first-in-Ok-Some.result c.end_first-in-Ok-Some.new.out (packet_lent_as new)) polled (c.end_first-in-Ok-Some.ensures.does says_place)

pub returns-in-Ok-Some-clause-within : goal.returns-in-Ok-Some-clause-within
returns-in-Ok-Some-clause-within g c =
    let polled = subst (λ o. Polled g.P.PeerLane.Moved c.args.limit c.args.ids.now (shown c.args.self.now) (shown c.poll.new.self) c.note.new.self.lines c.poll.new.journal.lines (Ok o)) c.in-Ok-Some.field-0-is c.in-Ok-Some.ensures.polled in
    named-within c.args.ids.now (shown c.poll.new.self) c.in-Ok-Some.at polled.ends.1

-- turns lend nothing
pub returns-in-Ok-Some-clause-lent : goal.returns-in-Ok-Some-clause-lent
returns-in-Ok-Some-clause-lent g c =
    let polled = c.poll.ensures.polled in
    subst (λ ids. LendsLast ids (shown c.end_first-in-Ok-Some.new.self).packets c.end_first-in-Ok-Some.result) (polls-packets g.P.PeerLane.Moved c.args.ids.now polled.turns (shown c.args.self.now) (shown c.poll.new.self) polled.polls) c.end_first-in-Ok-Some.ensures.lent
