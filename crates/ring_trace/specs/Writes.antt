-- The writes of the code as those of the definitions, and which fit into an image.
-- Source: docs/FORMATS.md, "Writes of the two sides".
use Rattle.std.specs.Prelude.{ℕ, ◌+◌, ◌<◌, ◌≤◌, ◌^◌}
use Rattle.board_model.specs.RingImage.{ImageWrite}
use Rattle.ring_trace.specs.declared.writes.Write.{Write}

abbrev pub write_of : Write → ImageWrite
write_of w = record { offset = w.offset; width = w.width; value = w.value }

-- a write of 1 to 8 bytes, whose value fits them, inside so many bytes
pub record LiesWithin (n : ℕ) (w : Write) : Type 0 where
  pub some : 1 ≤ w.width
  pub few : w.width ≤ 8
  pub fits : w.value < 256 ^ w.width
  pub inside : w.offset + w.width ≤ n
