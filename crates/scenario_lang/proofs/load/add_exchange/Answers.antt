use Rattle.board_model.specs.LoadBoard.{for_each, sends, receives, releases}
use Rattle.scenario_lang.proofs.LoadLemmas.{three-added}
use Rattle.scenario_lang.proofs.load.add_exchange.Goals as goal

pub returns : goal.returns
returns c =
    let k = c.args.packet in
    three-added _ _ _ _ (for_each (sends k)) (for_each (receives k)) (for_each (releases k)) c.in_ok-add_group.ensures c.in_ok-add_group-2.ensures c.in_ok-add_group-3.ensures
