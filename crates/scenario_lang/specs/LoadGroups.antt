-- The groups of the load board as the code names them.
-- Source: docs/FORMATS.md, "The load board"; `board_model` has the groups.
use Rattle.std.specs.Prelude.{ℕ, ◌≤◌, List}
use Rattle.board_model.specs.declared.scenario.CallLine.{CallLine}
use Rattle.board_model.specs.LoadBoard.{creates, lookups, connects, opens, sends, receives, releases, closes, load_limit}
use Rattle.scenario_lang.specs.declared.load.Group.{Group}
use Rattle.scenario_lang.specs.declared.load.Group.TheVariants.{Creates, Lookups, Connects, Opens, Sends, Receives, Releases, Closes}

-- the lines of a group for a domain
abbrev pub lines_in : Group → ℕ → List CallLine
lines_in Creates = creates
lines_in Lookups = lookups
lines_in Connects = connects
lines_in Opens = opens
lines_in (Sends packet) = sends packet
lines_in (Receives packet) = receives packet
lines_in (Releases packet) = releases packet
lines_in Closes = closes

-- the number of its packet, where it has one, is that of a load board
abbrev pub IsOfLoad : Group → Type 0
IsOfLoad (Receives packet) = packet ≤ load_limit
IsOfLoad (Releases packet) = packet ≤ load_limit
IsOfLoad group = Unit {0}
