-- The room that a call of a domain needs in a journal.
-- Source: docs/PROFILE.md, "Calls".
use Rattle.std.specs.Prelude.{ℕ}

-- for so many entries, and for so many bytes in them
abbrev pub call_entries : ℕ
call_entries = 176

abbrev pub call_bytes : ℕ
call_bytes = 90112

-- for the frames of one message or packet, of which there are 17 where it is the longest, and for the 512 bytes of each
abbrev pub item_entries : ℕ
item_entries = 17

abbrev pub item_bytes : ℕ
item_bytes = 8704
