use Rattle.std.proofs.Common.{◌∙◌}
use Rattle.call_actor.proofs.CallsRows.{calls-lawful}
use Rattle.call_actor.proofs.board.calls_board.Goals as goal

pub returns-clause-lawful : goal.returns-clause-lawful
returns-clause-lawful c =
    calls-lawful c.args.clients c.args.size c.requires.clients c.requires.size _ (record { domains = c.new.ensures ∙ c.in_ok-domains.ensures; links = c.new-2.ensures ∙ c.in_ok-links.ensures }) (c.new-4.ensures ∙ c.new-3.ensures.items)
