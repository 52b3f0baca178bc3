-- What a client writes, part by part.
-- Source: the code of the client.
use Rattle.std.specs.Prelude.{ℕ, List, ◌∷◌}
use Rattle.byteorder.specs.Endian.{little_bytes}

abbrev pub request_head : (client number cell : ℕ) → List ℕ
request_head client number cell = 81 ∷ client ∷ cell ∷ 0 ∷ little_bytes 4 number
