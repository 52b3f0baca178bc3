-- The frame that a call puts, by the fields of its letter.
-- Source: docs/PROFILE.md, "Calls", and docs/FORMATS.md.
use Rattle.std.specs.Prelude.{ℕ, ◌*◌, ◌<◌, ◌≤◌, ◌^◌, Bool, true, false, List, [], ◌∷◌, length, map, Option, None, Some}
use Rattle.mc_base.specs.Frame.{made}
use Rattle.mc_base.specs.Letter.{Fields, PlainLetter, bytes_of_bits, fields}
use Rattle.mc_base.specs.Limits.{longest_frame}
use Rattle.board_model.specs.Answer.{Post, post}
use Rattle.board_model.specs.DomainCall.{DomainCall, packet_from, raw_to, scalar_from, send_from}
use Rattle.report_replay.specs.declared.frames.Head.{Head}
use Rattle.report_replay.specs.declared.frames.Way.{Way}

abbrev pub way : ℕ → ℕ → ℕ → Way
way peer source destination = record { peer = peer; source = source; destination = destination }

-- the fields of a letter with this head and content
abbrev pub fields_by : Head → List ℕ → Fields
fields_by head content = fields head.version head.kind head.argument head.channel content

-- the peer to which frames go, all to one, and how many they are, where there are any
abbrev pub headed : List (ℕ × List ℕ) → Option (ℕ × ℕ)
headed [] = None
headed (p ∷ ps) = Some (p.0, length (p ∷ ps))

-- what goes over a channel with this number, where there is one
abbrev pub over_way : Option (Way × ℕ) → (ℕ → PlainLetter) → List Post
over_way None letter = []
over_way (Some w) letter = post w.0.peer w.0.source w.0.destination (letter w.1) ∷ []

-- the frames of payloads that go a way, each with its peer
abbrev pub frames_on : Way → List (List ℕ) → List (ℕ × List ℕ)
frames_on w payloads = map (λ payload. (w.peer, made w.source w.destination payload)) payloads

-- the call sends a message or a packet, which may go in several frames
abbrev pub sends_item : DomainCall → Bool
sends_item (send_from port to priority bytes) = true
sends_item (packet_from port bytes) = true
sends_item other = false

-- a scalar fits its bits, and a raw frame fits a buffer
abbrev pub FitsFrame : DomainCall → Type 0
FitsFrame (scalar_from port bits value) = value < 2 ^ (8 * bytes_of_bits bits)
FitsFrame (raw_to to bytes) = length bytes ≤ longest_frame
FitsFrame other = Unit {0}
