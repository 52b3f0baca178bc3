-- Lines of node 0 that programs make: those of the load board and of relays. A line that is tried or waits does so without end.
-- Source: docs/FORMATS.md, "The load board", and docs/PROFILE.md, "Relays".
use Rattle.std.specs.Prelude.{ℕ, List, ◌∷◌, decimal, None, Some}
use Rattle.mc_base.specs.Limits.{try_limit}
use Rattle.board_model.specs.declared.scenario.Call.{Call}
use Rattle.board_model.specs.declared.scenario.Call.TheVariants.{Wait}
use Rattle.board_model.specs.declared.scenario.CallLine.{CallLine}
use Rattle.board_model.specs.Forms.{label_of}

abbrev pub once : ℕ → Call → CallLine
once d call = record { domain = d; node = 0; label = None; tries = None; call = call }

-- the call, made again as often as a line allows
abbrev pub tried : ℕ → Call → CallLine
tried d call = record { domain = d; node = 0; label = None; tries = Some try_limit; call = call }

abbrev pub labelled : ℕ → List ℕ → Call → CallLine
labelled d label call = record { domain = d; node = 0; label = Some (label_of label); tries = None; call = call }

abbrev pub labelled_tried : ℕ → List ℕ → Call → CallLine
labelled_tried d label call = record { domain = d; node = 0; label = Some (label_of label); tries = Some try_limit; call = call }

-- waits with the largest limit
abbrev pub waited : ℕ → List ℕ → CallLine
waited d label = once d (Wait (label_of label) try_limit)

-- the label of the packet of this number: 112 is p
abbrev pub packet_label : ℕ → List ℕ
packet_label k = 112 ∷ decimal k
