-- What a frame carries fits into an item.
-- Source: docs/FORMATS.md, "Payload header, version 1": a frame carries at most 488 bytes of a message or a packet.
use Rattle.std.specs.Prelude.{◌≤◌, length}
use Rattle.mc_base.specs.Letter.{PlainLetter, msg, packet}
use Rattle.mc_base.specs.Reading.{Reading, says, brings}
use Rattle.report_replay.specs.Replayed.{most_bytes}

abbrev pub IsShort : PlainLetter → Type 0
IsShort (msg priority bytes) = length bytes ≤ most_bytes
IsShort (packet channel bytes) = length bytes ≤ most_bytes
IsShort other = Unit {0}

abbrev pub IsShortReading : Reading → Type 0
IsShortReading (says source destination l) = IsShort l
IsShortReading (brings source destination q) = length q.content ≤ most_bytes
IsShortReading other = Unit {0}
