use Rattle.std.proofs.Common.{◌∙◌, ap, sym}
use Rattle.domain_parts.proofs.Receives.{only-waits}
use Rattle.domain_parts.proofs.requests.oldest_receive.Goals as goal

pub returns-clause-receives : goal.returns-clause-receives
returns-clause-receives c = only-waits c.args.requests.now c.args.at c.in_ok-id.id c.in_ok-ask.ask c.requires (ap (λ o. o) (sym c.in_ok-id.was) ∙ c.waiting.ensures.oldest) (sym c.asked.ensures ∙ c.in_ok-ask.was)
