use Rattle.std.proofs.Common.{inl, inr, rules}
use Rattle.packet_channel.proofs.channel.Channel.letter.Goals as goal

pub returns-in-Packet-clause-word : goal.returns-in-Packet-clause-word
returns-in-Packet-clause-word c = elim c.in-Packet.is [ inl whole ↦ let is = whole.2 in search rules | inr part ↦ let is = part.2 in search rules ]

pub returns-in-Packet-clause-left : goal.returns-in-Packet-clause-left
returns-in-Packet-clause-left c = elim c.in-Packet.is [ inl whole ↦ let is = whole.2 in search rules | inr part ↦ let is = part.2 in search rules ]
