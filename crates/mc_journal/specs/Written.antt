-- What contracts see of a journal.
-- Source: docs/FORMATS.md, "Journal text".
use Rattle.std.specs.Prelude.{ℕ, ◌+◌, ◌*◌, ◌≤◌, ◌≡◌, ◌⊎◌, List, length}
use Rattle.board_model.specs.Journal.{Line}

-- its lines, how many bytes they hold together, and the room for more entries and for more bytes
pub record Written : Type 0 where
  pub lines : List Line
  pub bytes_held : ℕ
  pub entry_room : ℕ
  pub byte_room : ℕ

-- how many entries, and how many bytes, there are places for in all
abbrev pub entry_places : Written → ℕ
entry_places j = length j.lines + j.entry_room

abbrev pub byte_places : Written → ℕ
byte_places j = j.bytes_held + j.byte_room

-- a number of places stays as it was, or becomes at least twice as many
abbrev pub StaysOrDoubles : ℕ → ℕ → Type 0
StaysOrDoubles before after = (after ≡ before) ⊎ (2 * before ≤ after)
