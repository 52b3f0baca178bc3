-- A state without the names of frames: each item stays, and each of its frames is named 0.
-- Source: docs/PROFILE.md, "Messages".
use Rattle.std.specs.Prelude.{ℕ}
use Rattle.board_model.specs.State.{DomainState, Endpoint, HeldFrame, Item, LentPacket, Outcome, Request}
use Rattle.board_model.specs.Renamed.{renamed, renamed_end, renamed_held, renamed_item, renamed_outcome, renamed_packet, renamed_request}

abbrev pub no_names : ℕ → ℕ → ℕ
no_names peer name = 0

abbrev pub unnamed_item : Item → Item
unnamed_item = renamed_item no_names

abbrev pub unnamed_end : Endpoint → Endpoint
unnamed_end = renamed_end no_names

abbrev pub unnamed_outcome : Outcome → Outcome
unnamed_outcome = renamed_outcome no_names

abbrev pub unnamed_request : Request → Request
unnamed_request = renamed_request no_names

abbrev pub unnamed_packet : LentPacket → LentPacket
unnamed_packet = renamed_packet no_names

abbrev pub unnamed_held : HeldFrame → HeldFrame
unnamed_held = renamed_held no_names

abbrev pub unnamed : DomainState → DomainState
unnamed = renamed no_names
