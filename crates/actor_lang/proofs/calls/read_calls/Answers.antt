use Rattle.std.proofs.Common.{rules, ◌≡◌, Ok}
use Rattle.actor_lang.specs.declared.calls.CallsText.{CallsText}
use Rattle.actor_lang.specs.CallsInput.{calls_told}
use Rattle.actor_lang.specs.Texts.{calls_of}
use Rattle.actor_lang.proofs.CallsFits.{calls_fit}
use Rattle.actor_lang.proofs.calls.read_calls.Goals as goal

pub returns-clause-fit : goal.returns-clause-fit
returns-clause-fit c =
    let text : CallsText = record { clients = c.in-Ok.head.clients; size = c.in-Ok.head.size; repeat = c.in-Ok.head.repeat; calls = c.in_ok-calls.calls } in
    let told : calls_told c.args.text.now ≡ Ok (calls_of text) = search rules in
    calls_fit c.args.text.now (calls_of text) told
