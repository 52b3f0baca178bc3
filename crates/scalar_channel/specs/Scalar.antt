-- Scalars as bytes, the lowest first.
-- Source: docs/FORMATS.md, the content of a letter that carries a scalar.
use Rattle.std.specs.Prelude.{ℕ, List, length, ◌==◌, Result, Ok, Err, if◌then◌else◌}
use Rattle.byteorder.specs.Endian.{little_bytes, little_number}
use Rattle.mc_base.specs.declared.channel.Bits.{Bits}
use Rattle.mc_base.specs.declared.refusal.SclSize.{SclSize}
use Rattle.mc_base.specs.Letter.{bytes_of_bits}

abbrev pub scalar_bytes : Bits → ℕ → List ℕ
scalar_bytes bits value = little_bytes (bytes_of_bits bits) value

-- the value that bytes are, where they are as many as a scalar of these bits has
abbrev pub scalar_of : Bits → List ℕ → Result ℕ SclSize
scalar_of bits bytes = if length bytes == bytes_of_bits bits then Ok (little_number (bytes_of_bits bits) bytes) else Err record {}
