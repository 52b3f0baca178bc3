use Rattle.std.proofs.Common.{◌∙◌}
use Rattle.hop_relay.proofs.RelayRows.{relay-lawful}
use Rattle.hop_relay.proofs.board.relay_board.Goals as goal

pub returns-clause-lawful : goal.returns-clause-lawful
returns-clause-lawful c =
    relay-lawful c.args.hops c.args.size c.requires.hops c.requires.size _ (record { domains = c.new.ensures ∙ c.in_ok-domains.ensures; links = c.new-2.ensures ∙ c.in_ok-links.ensures }) (c.new-4.ensures ∙ c.new-3.ensures.items)
