use Rattle.std.proofs.Common.{◌∙◌, refl, subst, sym, true}
use Rattle.mc_base.specs.Letter.{carried, packet}
use Rattle.domain_parts.specs.Pieces.{carrier_in}
use Rattle.domain_parts.specs.Verdicts.{IsJudged, desk, nothing}
use Rattle.domain_parts.proofs.Acting.{acted-judged}
use Rattle.domain_parts.proofs.Items.{message-judged, nobody-item}
use Rattle.domain_parts.proofs.Judging.{nobody-there, one-there}
use Rattle.domain_parts.proofs.Readings.{none-from}
use Rattle.domain_parts.proofs.dealing.items.judge_item.Goals as goal

pub returns-in_default : goal.returns-in_default
returns-in_default c = λ content replies long b s came names shows.
    let way = c.args.way in
    let d = desk c.args.endpoints.now c.args.requests.now names replies in
    let none = sym (none-from c.place_of_address.result c.in_default.not-Some) ∙ c.place_of_address.ensures.place b in
    record {
      effect = nothing;
      applies = true;
      row_is = nobody-item (carrier_in c.args.carrier) content s came way.peer way.source way.destination (nobody-there b d s way.peer shows way.destination none);
      returned = refl;
      placed = tt;
      left = refl;
    }

pub returns-in-Message : goal.returns-in-Message
returns-in-Message c = λ content replies long b s came names shows.
    let way = c.args.way in
    let d = desk c.args.endpoints.now c.args.requests.now names replies in
    let one = one-there c.args.endpoints.now.endpoints c.in-Some.place c.in-Some.ensures.within in
    subst (λ k. IsJudged s came way.peer way.source way.destination (carried (carrier_in k) content) c.bring_message.result d d) (sym c.in-Message.is)
    (message-judged b d s way.peer shows way.destination c.in-Some.place one.0 (c.in-Some.ensures.place b) one.1 came way.source c.in-Message.priority content c.requires.receives c.args.size (sym long) c.bring_message.result c.bring_message.ensures)

pub returns-in-Packet : goal.returns-in-Packet
returns-in-Packet c = λ content replies long b s came names shows.
    let way = c.args.way in
    let d = desk c.args.endpoints.now c.args.requests.now names replies in
    let one = one-there c.args.endpoints.now.endpoints c.in-Some.place c.in-Some.ensures.within in
    subst (λ k. IsJudged s came way.peer way.source way.destination (carried (carrier_in k) content) c.bring_packet.result d d) (sym c.in-Packet.is)
    (acted-judged b d s came way.peer shows way.source way.destination c.in-Some.place one.0 (c.in-Some.ensures.place b) one.1 (packet c.in-Packet.channel content) tt c.requires.receives c.args.endpoints.now c.args.requests.now c.bring_packet.result (c.bring_packet.ensures content long))
