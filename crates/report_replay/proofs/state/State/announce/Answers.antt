use Rattle.std.proofs.Common.{List, map, ap, ◌∙◌}
use Rattle.std.specs.Vec.{with_items}
use Rattle.board_model.specs.State.{DomainState, Peer}
use Rattle.board_model.specs.Change.{also_owed}
use Rattle.report_replay.specs.Views.{announcement_of}
use Rattle.report_replay.proofs.Changed.{all-written, ends-kept}
use Rattle.report_replay.specs.contracts.state.State.{the_view}
use Rattle.report_replay.proofs.state.State.announce.Goals as goal

pub returns : goal.returns
returns c =
    let a = announcement_of c.args.announcement in
    let s : DomainState = the_view c.self.inside in
    let written = all-written (also_owed s.number a) c.self.inside.peers c.deref_mut.result.now c.owe_all.new.peers c.deref_mut.ensures.value c.in_ok-owe_all.ensures in
    let owed = ap (λ (ps : List Peer). record s { peers = ps }) written ∙ ap (λ (t : DomainState). record t { peers = map (also_owed t.number a) t.peers }) c.self.view_is in
    ends-kept (record s { peers = (with_items c.self.inside.peers c.owe_all.new.peers).items }) _ _ c.deref.result.now c.keep_owed_ends.ensures c.deref.ensures.value owed
