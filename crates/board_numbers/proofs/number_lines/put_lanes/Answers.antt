use Rattle.std.proofs.Common.{get_or, refl}
use Rattle.board_model.specs.declared.totals.LanePlaces.{LanePlaces}
use Rattle.board_model.specs.Report.{places_text}
use Rattle.outer_io.proofs.Writing.{puts_nothing, puts_item}
use Rattle.board_numbers.proofs.number_lines.put_lanes.Goals as goal

pub loop-lane-init : goal.loop-lane-init
loop-lane-init g c = puts_nothing g.K.Sink c.args.out.now

pub loop-lane-preserved : goal.loop-lane-preserved
loop-lane-preserved g c =
    let none : LanePlaces = record { from = 0; to = 0; free = 0; ring = 0; queue = 0; lent = 0 } in
    puts_item g.K.Sink _ _ _ places_text c.args.lanes.now c.loop-lane.lane-index (get_or c.args.lanes.now c.loop-lane.lane-index none) none c.loop-lane-test.true refl c.loop-lane.invariant c.put_lane.ensures
