use Rattle.std.proofs.Common.{rules, ◌≡◌, Ok}
use Rattle.actor_lang.specs.declared.relay.RelayText.{RelayText}
use Rattle.actor_lang.specs.RelayInput.{relay_told}
use Rattle.actor_lang.specs.Texts.{relay_of}
use Rattle.actor_lang.proofs.RelayFits.{relay_fits}
use Rattle.actor_lang.proofs.relay.read_relay.Goals as goal

pub returns-clause-fit : goal.returns-clause-fit
returns-clause-fit c =
    let text : RelayText = record { hops = c.in-Ok.head.hops; size = c.in-Ok.head.size; packets = c.in_ok-packets.packets } in
    let told : relay_told c.args.text.now ≡ Ok (relay_of text) = search rules in
    relay_fits c.args.text.now (relay_of text) told
