use Rattle.std.proofs.Common.{List, ap, arith, length, map}
use Rattle.std.specs.Prelude.{filter}
use Rattle.std.proofs.lemmas.List.{drop_all}
use Rattle.board_model.specs.State.{HeldFrame, holds_from}
use Rattle.report_replay.proofs.held.frames_in.Goals as goal

pub returns : goal.returns
returns c =
    let none = ap (λ (hs : List HeldFrame). length (map (λ h. h.name) (filter (holds_from c.args.peer) hs))) (drop_all c.loop-frame.frame-index c.args.held.now c.loop-frame-test.false) in
    omega (arith, none, c.loop-frame.invariant.all, c.loop-frame.invariant.small)
