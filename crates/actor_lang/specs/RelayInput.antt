-- The text of a relay: over how many hops its packets go, the size of the rings, and the packets.
-- Source: docs/FORMATS.md, "Text of a relay".
use Rattle.std.specs.Prelude.{◌≡◌, ℕ, ◌≤◌, Bool, true, ◌&&◌, List, [], ◌∷◌, length, codes, bytes_eq, nat_le, Option, None, Some, Result, Ok, Err, if◌then◌else◌}
use Rattle.std.specs.List.{All}
use Rattle.mc_base.specs.Limits.{last_domain, item_size}
use Rattle.mc_base.specs.Pieces.{frames_of_size}
use Rattle.board_model.specs.FileWords.{numeral, bytes_of}
use Rattle.board_model.specs.LineReasons.{is_empty, is_link_size}
use Rattle.actor_lang.specs.declared.fault.InputReason.{InputReason}
use Rattle.actor_lang.specs.declared.fault.InputReason.TheVariants.{Number, Many, Bytes}
use Rattle.actor_lang.specs.declared.relay.RelayHead.{RelayHead}
use Rattle.actor_lang.specs.InputLines.{input_lines, words_in}
use Rattle.actor_lang.specs.InputNumbers.{number_in, ring_size}
use Rattle.actor_lang.specs.InputFaults.{RefusedInput, ◌>>=◌, at_line, or_form, first_and_others, told_from, line_limit, is_past}

pub record Relay : Type 0 where
  pub hops : ℕ
  pub size : ℕ
  pub packets : List (List ℕ)

-- ---- the first line: relay H size Q

-- H and Q
abbrev pub relay_words : Option (List (List ℕ)) → Option (List ℕ × List ℕ)
relay_words (Some (relay ∷ hops ∷ rings ∷ size ∷ [])) =
    if bytes_eq relay (codes "relay") && bytes_eq rings (codes "size") then Some (hops, size) else None
relay_words words = None

abbrev pub head_of : Option ℕ → Option ℕ → Result RelayHead InputReason
head_of (Some hops) (Some size) = Ok (record { hops = hops; size = size })
head_of hops size = Err Number

abbrev pub relay_numbers : List ℕ × List ℕ → Result RelayHead InputReason
relay_numbers w = head_of (number_in (numeral 1 last_domain w.0)) (number_in (ring_size 2 w.1))

abbrev pub relay_of_words : Option (List (List ℕ)) → Result RelayHead InputReason
relay_of_words words = or_form (relay_words words) >>= relay_numbers

abbrev pub relay_head : List ℕ → Result RelayHead InputReason
relay_head line = relay_of_words (words_in line)

-- ---- a packet

-- a packet of so many bytes may go over rings of this size
abbrev pub fits_ring : ℕ → ℕ → Bool
fits_ring size n = nat_le n item_size && nat_le (frames_of_size n) size

abbrev pub fitting : ℕ → Option (List ℕ) → Result (List ℕ) InputReason
fitting size None = Err Bytes
fitting size (Some packet) = if fits_ring size (length packet) then Ok packet else Err Bytes

-- hexadecimal digits of either case, or a dash for no bytes
abbrev pub packet_in : ℕ → List ℕ → Result (List ℕ) InputReason
packet_in size line = if is_empty line then Err Bytes else fitting size (bytes_of line)

abbrev pub packet_line : ℕ → ℕ → List ℕ → Result (List ℕ) InputReason
packet_line size n line = if is_past n then Err Many else packet_in size line

-- ---- the text

abbrev pub with_packets : RelayHead → List (List ℕ) → Result Relay RefusedInput
with_packets head packets = Ok (record { hops = head.hops; size = head.size; packets = packets })

abbrev pub packets_behind : List (List ℕ) → RelayHead → Result Relay RefusedInput
packets_behind lines head = told_from (packet_line head.size) 2 lines >>= with_packets head

abbrev pub relay_of_lines : List ℕ × List (List ℕ) → Result Relay RefusedInput
relay_of_lines lines = at_line 1 (relay_head lines.0) >>= packets_behind lines.1

abbrev pub relay_told : List ℕ → Result Relay RefusedInput
relay_told text = first_and_others (input_lines text) >>= relay_of_lines

-- ---- what a relay that is told has

pub record IsFitRelay (r : Relay) : Type 0 where
  pub some_hops : 1 ≤ r.hops
  pub few_hops : r.hops ≤ last_domain
  pub size : is_link_size r.size ≡ true
  pub few : length r.packets ≤ line_limit
  pub packets : All (λ packet. length packet ≤ item_size) r.packets
