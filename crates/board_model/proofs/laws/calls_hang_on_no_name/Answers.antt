use Rattle.std.proofs.Common.{ap, ◌∙◌}
use Rattle.board_model.specs.Change.{changed_all}
use Rattle.board_model.specs.CallChanges.{call_changes}
use Rattle.board_model.specs.Renamed.{renamed}
use Rattle.board_model.proofs.RenamedChanges.{renamed-all}
use Rattle.board_model.proofs.RenamedCalls.{answer-renamed, puts-renamed, call-renamed}
use Rattle.board_model.proofs.laws.calls_hang_on_no_name.Goals as goal

pub returns : goal.returns
returns c names s node call = record {
  answers = answer-renamed names s node call;
  puts_same = puts-renamed names s node call;
  effects = renamed-all names s (call_changes s node call) ∙ ap (changed_all (renamed names s)) (call-renamed names s node call);
}
