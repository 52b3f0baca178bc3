use Rattle.std.proofs.Common.{rules, arith}
use Rattle.scenario_lang.proofs.PlainLemmas.{decimal-few}
use Rattle.hop_relay.proofs.lines.packet_label.Goals as goal

pub push_number-requires : goal.push_number-requires
push_number-requires c = search (rules, arith, decimal-few)
