use Rattle.std.proofs.Common.{◌≡◌, ◌∙◌, [], rules, Some, ap, subst, sym}
use Rattle.mc_base.specs.Letter.{packet}
use Rattle.board_model.specs.ChannelEnds.{end_row_of}
use Rattle.packet_channel.specs.End.{end_of}
use Rattle.domain_parts.specs.InTable.{IsKept}
use Rattle.domain_parts.specs.Verdicts.{Brings}
use Rattle.domain_parts.proofs.Items.{packet-brought, packet-nowhere, packet-returned}
use Rattle.domain_parts.proofs.Readings.{none-from}
use Rattle.domain_parts.proofs.dealing.items.bring_packet.Goals as goal

pub returns-in_default : goal.returns-in_default
returns-in_default c = λ content long.
    let none = none-from c.channel_at.result c.in_default.not-Some in
    packet-nowhere c.args.endpoints.now c.args.requests.now c.args.peer c.args.place c.args.channel content (ap (λ o. Some o) (sym none) ∙ c.channel_at.ensures.there)

pub returns-in-Queued : goal.returns-in-Queued
returns-in-Queued c = λ content long.
    let end = c.in-Some.end in
    let there = ap (λ o. Some o) (sym c.in-Some.is) ∙ c.channel_at.ensures.there in
    let kept = subst IsKept c.in-Some.is c.channel_at.ensures.kept in
    let word : c.letter.result ≡ (end_row_of c.args.peer (Some (end_of end)) (packet c.args.channel content)).word = c.letter.ensures.word ∙ ap (λ o. (end_row_of c.args.peer o (packet c.args.channel [])).word) kept in
    packet-brought c.args.endpoints.now c.args.requests.now c.args.peer c.args.place c.args.channel content end there c.letter.result word c.in-Queued.is c.bring.result
    (subst (λ n. Brings c.args.endpoints.now c.args.requests.now c.args.place 0 n c.bring.result) (sym long) (subst (λ n. Brings c.args.endpoints.now c.args.requests.now c.args.place n c.args.size c.bring.result) (search rules) c.bring.ensures))

pub returns-in_default-letter : goal.returns-in_default-letter
returns-in_default-letter c = λ content long.
    let end = c.in-Some.end in
    let there = ap (λ o. Some o) (sym c.in-Some.is) ∙ c.channel_at.ensures.there in
    let kept = subst IsKept c.in-Some.is c.channel_at.ensures.kept in
    let word : c.letter.result ≡ (end_row_of c.args.peer (Some (end_of end)) (packet c.args.channel content)).word = c.letter.ensures.word ∙ ap (λ o. (end_row_of c.args.peer o (packet c.args.channel [])).word) kept in
    packet-returned c.args.endpoints.now c.args.requests.now c.args.peer c.args.place c.args.channel content end there c.letter.result word c.in_default-letter.not-Queued
