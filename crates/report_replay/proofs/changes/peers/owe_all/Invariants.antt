use Rattle.std.proofs.Common.{◌≡◌, ◌++◌, map, take, drop}
use Rattle.board_model.specs.Change.{also_owed}
use Rattle.report_replay.specs.Views.{announcement_of}
use Rattle.report_replay.proofs.changes.peers.owe_all.Given as goal

abbrev pub invariant-loop-peer : goal.invariant-loop-peer
invariant-loop-peer l = l.peers ≡ map (also_owed l.domain (announcement_of l.announcement)) (take l.peer-index l.fn.peers) ++ drop l.peer-index l.fn.peers
