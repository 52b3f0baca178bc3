use Rattle.std.proofs.Common.{rules}
use Rattle.std.proofs.lemmas.Fn.{filter_same}
use Rattle.board_model.specs.State.{is_owed_end}
use Rattle.report_replay.proofs.changes.peers.keep_owed_ends.Goals as goal

pub returns : goal.returns
returns c = filter_same _ (is_owed_end c.args.peers.now) _ (λ x b f called. search rules) _ _ c.retain.ensures.filtered
