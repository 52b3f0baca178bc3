-- The messages of numbered calls as bytes: what a client writes, and what it reads of a reply.
-- Source: docs/PROFILE.md, "Numbered calls".
use Rattle.std.specs.Prelude.{ℕ, nat_lt, Bool, true, ◌&&◌, ◌==◌, List, [], ◌∷◌, ◌++◌, length, replicate, slice_index, bytes_eq, Option, None, Some, if◌then◌else◌}
use Rattle.std.specs.List.{list_all}
use Rattle.byteorder.specs.Endian.{little_bytes}
use Rattle.mc_base.specs.Bytes.{number_at}
use Rattle.call_service.specs.Bytes.{is_client}
use Rattle.call_logs.specs.declared.got.Got.{Got}

-- the request of a client's call of this number: what it adds to which cell
abbrev pub request_bytes : (client number cell amount : ℕ) → List ℕ
request_bytes client number cell amount = 81 ∷ client ∷ cell ∷ 0 ∷ (little_bytes 4 number ++ little_bytes 8 amount)

-- says that a client sends no more
abbrev pub bye_bytes : ℕ → List ℕ
bye_bytes client = 83 ∷ client ∷ replicate 14 0

-- the client whose bye a message is
abbrev pub bye_in : List ℕ → Option ℕ
bye_in b = if bytes_eq b (bye_bytes (slice_index b 1)) && is_client (slice_index b 1) then Some (slice_index b 1) else None

-- ---- replies

-- whether a message is a reply to the call of this number that was carried out
abbrev pub is_reply : ℕ → List ℕ → Bool
is_reply number b = length b == 16 && (slice_index b 0 == 82 && (nat_lt (slice_index b 1) 2 && (slice_index b 2 == 0 && (slice_index b 3 == 0 && number_at 4 4 b == number))))

-- whether all of these messages are, and the same
abbrev pub are_replies : ℕ → List (List ℕ) → Bool
are_replies number [] = true
are_replies number (m ∷ ms) = is_reply number m && list_all (bytes_eq m) ms

-- what a client got, by a reply
abbrev pub got_in : List ℕ → Got
got_in b = record { number = number_at 4 4 b; status = slice_index b 1; value = number_at 8 8 b }
