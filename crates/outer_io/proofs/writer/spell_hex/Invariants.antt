use Rattle.std.proofs.Common.{◌≡◌, ◌*◌, take}
use Rattle.mc_base.specs.Text.{hex_digits}
use Rattle.outer_io.proofs.writer.spell_hex.Given as goal

abbrev pub invariant-loop-i : goal.invariant-loop-i
invariant-loop-i l = take (2 * l.i) l.digits ≡ hex_digits (take l.i l.bytes)
