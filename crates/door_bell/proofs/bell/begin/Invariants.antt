use Rattle.std.proofs.Common.{◌≡◌, ◌≤◌, map}
use Rattle.std.specs.Prelude.{vec_capacity, vec_len}
use Rattle.door_bell.specs.declared.view.BellView.TheVariants.{Sleeping}
use Rattle.door_bell.specs.Shown.{ringer_of}
use Rattle.door_bell.specs.Change.{new_sleeper, numbers_below}
use Rattle.door_bell.proofs.bell.begin.Given as goal

abbrev pub invariant-loop-number : goal.invariant-loop-number
invariant-loop-number l = record {
  seat : l.seat.table_id ≡ l.board.shared.table_id;
  view : l.seat.me.0 ≡ Sleeping (new_sleeper l.number);
  ringers : l.parted.items ≡ map (ringer_of l.board.shared.table_id) (numbers_below l.number);
  len : vec_len l.parted ≡ l.number;
  room : l.ringers ≤ vec_capacity l.parted;
}
