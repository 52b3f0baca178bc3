use Rattle.std.proofs.Common.{OnOk, [], ◌∷◌, ◌++◌, subst}
use Rattle.mc_base.specs.Letter.{carried, plain_letter}
use Rattle.mc_base.specs.Reading.{says, says_so}
use Rattle.board_model.specs.TakenFrames.{row_of}
use Rattle.report_replay.specs.Dealt.{AddsFor}
use Rattle.report_replay.specs.Ends.{came_in, item_by}
use Rattle.report_replay.specs.Verdicts.{Follows, known_of}
use Rattle.report_replay.proofs.VerdictsDone.{acts-dealt}
use Rattle.report_replay.proofs.state.State.deal_whole.Goals as goal

pub settle-requires : goal.settle-requires
settle-requires c = (c.in-Act.ensures []).room

pub returns-in-Act : goal.returns-in-Act
returns-in-Act c =
    let s = c.args.self.now in
    let w = c.args.way in
    let names = c.args.earlier.items ++ w.name ∷ [] in
    let l = carried c.args.part.carrier c.args.part.content in
    let known = known_of s w.peer in
    acts-dealt w.peer (came_in names) (says w.source w.destination l) s c.settle.new.self c.args.given.now c.settle.result c.settle.new.given (item_by w names l) c.in-Act.action
    (subst (λ x. Follows w.peer known (item_by w names x) (row_of s w.peer (came_in names) (says w.source w.destination l)) c.in-Act.action) c.letter.ensures.plain
    (subst (λ x. Follows w.peer known (item_by w names (plain_letter c.letter.result)) (row_of s w.peer (came_in names) (says_so w.source w.destination x)) c.in-Act.action) c.letter.ensures.says (c.in-Act.ensures names)))
    c.settle.ensures.word c.settle.ensures.state
    (subst (λ es. OnOk c.settle.result (AddsFor w.peer (es ++ w.name ∷ []) c.args.given.now c.settle.new.given)) c.deref.ensures.value c.settle.ensures.given)
