use Rattle.std.proofs.Common.{[], ◌∷◌}
use Rattle.mc_base.specs.Letter.{plain_letter, saying_of}
use Rattle.mc_base.specs.Reading.{says_so}
use Rattle.report_replay.specs.Ends.{came_in, item_by}
use Rattle.report_replay.proofs.VerdictsDone.{acts-dealt, keeps-dealt}
use Rattle.report_replay.proofs.state.State.deal_letter.Goals as goal

pub settle-requires : goal.settle-requires
settle-requires c = (c.in-Act.ensures []).room

pub returns-in-Act : goal.returns-in-Act
returns-in-Act c =
    let w = c.args.way in
    let names = w.name ∷ [] in
    acts-dealt w.peer (came_in names) (says_so w.source w.destination (saying_of c.args.letter.now)) c.args.self.now _ _ c.settle.result _ (item_by w names (plain_letter c.args.letter.now)) c.in-Act.action (c.in-Act.ensures names) c.settle.ensures.word c.settle.ensures.state c.settle.ensures.given

pub returns-in_ok-item-in-Keep : goal.returns-in_ok-item-in-Keep
returns-in_ok-item-in-Keep c =
    let w = c.args.way in
    let names = w.name ∷ [] in
    keeps-dealt w.peer (came_in names) (says_so w.source w.destination (saying_of c.args.letter.now)) c.args.self.now _ _ c.keep_item.result c.in-Keep.at c.in-Keep.hands (item_by w names (plain_letter c.args.letter.now)) _ (c.in-Keep.ensures names) c.in_ok-item-in-Keep.ensures c.keep_item.ensures.word c.keep_item.ensures.state
