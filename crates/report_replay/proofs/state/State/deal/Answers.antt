use Rattle.std.proofs.Common.{IfOk, [], ◌∷◌, None, refl, sym, subst}
use Rattle.name_service.specs.Said.{reading_of}
use Rattle.mc_base.specs.Reading.{announces, is_faulty}
use Rattle.board_model.specs.State.{Item}
use Rattle.report_replay.specs.Dealt.{Deals}
use Rattle.report_replay.specs.Ends.{came_in}
use Rattle.report_replay.specs.declared.verdict.Action.TheVariants as action
use Rattle.report_replay.proofs.VerdictsDone.{acts-dealt}
use Rattle.report_replay.proofs.state.State.deal.Goals as goal

-- nothing is brought
no_item : Item
no_item = record { peer = 0; source = 0; priority = 0; channel = None; content = []; frames = [] }

pub settle-requires-in-Announces : goal.settle-requires-in-Announces
settle-requires-in-Announces c = (c.judge_name-action.ensures no_item).room

pub returns-in-Faulty : goal.returns-in-Faulty
returns-in-Faulty c =
    let s = c.args.self.now in
    let peer = c.args.peer in
    let came = came_in (c.args.name ∷ []) in
    let word = c.fault_word.result in
    subst (λ x. IfOk c.settle.result (Deals peer came (reading_of x) s c.settle.new.self c.args.given.now c.settle.new.given)) (sym c.in-Faulty.is)
    (acts-dealt peer came (is_faulty c.in-Faulty.fault) s c.settle.new.self c.args.given.now c.settle.result c.settle.new.given no_item (action.Nothing word)
    (record { word = c.fault_word.ensures.word; changes = refl; drops = c.fault_word.ensures.drops; room = tt }) c.settle.ensures.word c.settle.ensures.state c.settle.ensures.given)

pub returns-in-Announces : goal.returns-in-Announces
returns-in-Announces c =
    let s = c.args.self.now in
    let peer = c.args.peer in
    let came = came_in (c.args.name ∷ []) in
    let ns = c.in-Announces.ns in
    let done = c.settle-in-Announces in
    subst (λ x. IfOk done.result (Deals peer came (reading_of x) s done.new.self c.args.given.now done.new.given)) (sym c.in-Announces.is)
    (acts-dealt peer came (announces ns.name.items ns.addr ns.create) s done.new.self c.args.given.now done.result done.new.given no_item c.judge_name-action.result
    (c.judge_name-action.ensures no_item) done.ensures.word done.ensures.state done.ensures.given)
