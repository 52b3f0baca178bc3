-- What becomes of a buffer whose bytes are lent.
use Rattle.std.specs.Prelude.{ℕ, List, ◌++◌, take, drop, length}
use Rattle.std.specs.Borrow.{Lends, MutBor, Fml, Array, u8}
use Rattle.mc_base.specs.Stored.{Stored}
use Rattle.mc_base.specs.contracts.buffer.Buffer.{the_row}

-- the buffer with other bytes: those that are more than it has are cut, and those that lack stay
abbrev pub with_bytes : Stored → List ℕ → Stored
with_bytes b bytes = record b { bytes = take (length b.bytes) (bytes ++ drop (length bytes) b.bytes) }

-- the buffer ends with the last bytes behind r, under its number
abbrev pub LendsBytes : MutBor Stored → MutBor (List ℕ) → Fml
LendsBytes b r = Lends the_row (Array u8 0) b r (with_bytes b.now)
