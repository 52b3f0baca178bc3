-- What reading the content of a part gives: its two numbers and its bytes, or that they break the rules on both.
-- Source: the payload header, version 2, of docs/FORMATS.md.
use Rattle.std.specs.Prelude.{◌≡◌, ◌<◌, ◌≤◌, ◌+◌, ℕ, Bool, true, false, List, ◌++◌, length}
use Rattle.byteorder.specs.Endian.{little_bytes}
use Rattle.mc_base.specs.Limits.{item_size}
use Rattle.mc_base.specs.Letter.{version_1, fields}
use Rattle.mc_base.specs.LetterFaults.{a_part}
use Rattle.bridge_frame.specs.declared.parts.Cut.{Cut}

pub record IsCut (content : List ℕ) (c : Cut) : Type 0 where
  pub text : content ≡ little_bytes 2 c.total ++ (little_bytes 2 c.offset ++ c.bytes.now)
  pub some : 0 < length c.bytes.now
  pub within : c.offset + length c.bytes.now ≤ c.total
  pub most : c.total ≤ item_size
  pub passes : a_part (fields 2 1 0 0 content) ≡ true

abbrev pub IsNoCut : List ℕ → Type 0
IsNoCut content = a_part (fields 2 1 0 0 content) ≡ false
