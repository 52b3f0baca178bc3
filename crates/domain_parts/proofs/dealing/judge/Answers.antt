use Rattle.std.proofs.Common.{◌∙◌, ap, refl, sym, subst, true}
use Rattle.mc_base.specs.Letter.{plain_letter}
use Rattle.domain_parts.specs.Verdicts.{IsJudged, desk, nothing}
use Rattle.domain_parts.proofs.Acting.{acted-judged, nobody-row, of-channel}
use Rattle.domain_parts.proofs.Items.{message-judged}
use Rattle.domain_parts.proofs.Judging.{nobody-there, one-there}
use Rattle.domain_parts.proofs.Readings.{none-from}
use Rattle.domain_parts.proofs.dealing.judge.Goals as goal

pub returns-in_default-place_of_address : goal.returns-in_default-place_of_address
returns-in_default-place_of_address c = λ b s came names shows.
    let way = c.args.way in
    let d = desk c.args.endpoints.now c.args.requests.now names c.args.replies.now in
    let none = sym (none-from c.place_of_address.result c.in_default-place_of_address.not-Some) ∙ c.place_of_address.ensures.place b in
    record {
      effect = nothing;
      applies = true;
      row_is = nobody-row c.args.letter.now c.in_default.not-Connect s came way.peer way.source way.destination (nobody-there b d s way.peer shows way.destination none);
      returned = refl;
      placed = tt;
      left = refl;
    }

pub returns-in_default-letter : goal.returns-in_default-letter
returns-in_default-letter c = λ b s came names shows.
    let way = c.args.way in
    let d = desk c.args.endpoints.now c.args.requests.now names c.args.replies.now in
    let at = c.in-Some.place in
    let one = one-there c.args.endpoints.now.endpoints at c.in-Some.ensures.within in
    let of = of-channel c.args.letter.now c.in_default-letter.not-Msg c.in_default.not-Connect c.requires.whole in
    acted-judged b d s came way.peer shows way.source way.destination at one.0 (c.in-Some.ensures.place b) one.1 (plain_letter c.args.letter.now) of c.requires.receives c.act.new.endpoints c.act.new.requests c.act.result c.act.ensures

pub returns : goal.returns
returns c = λ b s came names shows.
    let way = c.args.way in
    let d = desk c.args.endpoints.now c.args.requests.now names c.args.replies.now in
    let at = c.in-Some.place in
    let one = one-there c.args.endpoints.now.endpoints at c.in-Some.ensures.within in
    subst (λ m. IsJudged s came way.peer way.source way.destination m c.bring_message.result d d) (sym (ap plain_letter c.in-Msg.is))
    (message-judged b d s way.peer shows way.destination at one.0 (c.in-Some.ensures.place b) one.1 came way.source c.in-Msg.priority c.in-Msg.bytes.now c.requires.receives _ refl c.bring_message.result c.bring_message.ensures)
