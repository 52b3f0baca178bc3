-- The messages that were dropped: those that came to no endpoint or to one on a channel, and those that were queued at an endpoint
-- when it was deleted.
-- Source: docs/PROFILE.md, "Messages".
use Rattle.std.specs.Prelude.{ℕ, Bool, true, false, List, [], if◌then◌else◌}
use Rattle.std.specs.List.{flat_map}
use Rattle.mc_base.specs.declared.fate.Fate.{Fate}
use Rattle.mc_base.specs.declared.fate.Fate.TheVariants.{NoEndpoint, OnChannel}
use Rattle.board_model.specs.declared.scenario.Scenario.{Scenario}
use Rattle.board_model.specs.Journal.{tells}
use Rattle.board_model.specs.DomainCall.{delete_at}
use Rattle.board_model.specs.State.{DomainState, live_at}
use Rattle.board_model.specs.Answer.{local}
use Rattle.board_model.specs.Parts.{said_from}
use Rattle.board_model.specs.Board.{DomainJournal}
use Rattle.board_model.specs.CallChanges.{at_live}
use Rattle.board_model.specs.Deeds.{Deed, takes, calls, along}
use Rattle.board_model.specs.JournalDeeds.{deeds_of, opened}
use Rattle.board_model.specs.Messages.{Message, said_by, queued_at}

abbrev pub drops : Fate → Bool
drops NoEndpoint = true
drops OnChannel = true
drops other = false

-- the messages that a deed drops, and a journal
abbrev pub dropped_by : ℕ → DomainState → Deed → List Message
dropped_by d s (takes peer name frame word) = if drops word then said_by peer d (said_from s peer frame) else []
dropped_by d s (calls node (delete_at port) (tells count)) = at_live (live_at s (local node port)) (queued_at d)
dropped_by d s other = []

abbrev pub dropped_in : Scenario → DomainJournal → List Message
dropped_in s j = along (dropped_by j.line.domain) (opened s j) (deeds_of s j)

abbrev pub dropped : Scenario → List DomainJournal → List Message
dropped s js = flat_map (dropped_in s) js
