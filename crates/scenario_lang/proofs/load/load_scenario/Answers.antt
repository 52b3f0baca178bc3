use Rattle.std.proofs.Common.{◌∙◌}
use Rattle.board_model.specs.LoadBoard.{load_board}
use Rattle.scenario_lang.proofs.LoadBoards.{load-lawful}
use Rattle.scenario_lang.proofs.load.load_scenario.Goals as goal

pub returns-clause-lawful : goal.returns-clause-lawful
unfolding load_board
returns-clause-lawful c =
    let domains = c.new.ensures ∙ c.in_ok-domains.ensures in
    let links = c.new-2.ensures ∙ c.in_ok-links.ensures in
    let calls = c.new-3.ensures ∙ c.in_ok-calls.ensures in
    rw (domains, links, calls) (load-lawful c.args.packets c.requires.few)
