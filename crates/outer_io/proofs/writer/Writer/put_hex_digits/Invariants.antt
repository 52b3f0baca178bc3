use Rattle.std.proofs.Common.{◌-◌, ◌≡◌, ◌≤◌, length, take}
use Rattle.mc_base.specs.Text.{hex_digits}
use Rattle.outer_io.specs.Puts.{Puts}
use Rattle.outer_io.proofs.writer.Writer.put_hex_digits.Given as goal

abbrev pub invariant-loop-done : goal.invariant-loop-done
invariant-loop-done g l = record {
  so_far : Puts g.K.Sink l.fn.self l.self (hex_digits (take l.done l.bytes));
  within : l.done ≤ length l.bytes;
  width : length l.digits ≡ 128;
}

abbrev pub decreases-loop-done : goal.decreases-loop-done
decreases-loop-done g l = length l.bytes - l.done
