-- The serials that were given for labels, of requests and of packets.
-- Source: docs/PROFILE.md, "Requests" and "Packets and scalars".
use Rattle.std.specs.Prelude.{◌≡◌, ℕ, List, map, find, Option, None, Some, option_and_then, if◌then◌else◌}
use Rattle.std.specs.Option.{option_or}
use Rattle.std.specs.Borrow.{Bor}
use Rattle.std.specs.HashMap.{HashMap, get_by}
use Rattle.std.specs.Str.{bytes_eq}
use Rattle.std.proofs.Common.{BuildHasherDefault, FoldHasher}
use Rattle.board_model.specs.declared.scenario.Call.{Call}
use Rattle.board_model.specs.declared.scenario.Call.TheVariants.{Release, Test, Wait, WaitAny, Cancel}
use Rattle.board_model.specs.Labels as plain
use Rattle.board_model.specs.Labels.{Labelled, serial_of}
use Rattle.board_model.specs.State.{DomainState, place_of_request, place_of_packet}
use Rattle.board_model.specs.Answer.{is_complete_at}
use Rattle.report_replay.specs.declared.labels.Labels.{Labels}

-- serials by labels
abbrev pub Serials : Type 0
Serials = HashMap (Bor (List ℕ)) ℕ (BuildHasherDefault FoldHasher)

abbrev pub serial_for : Serials → List ℕ → Option ℕ
serial_for serials label = get_by (λ k. bytes_eq label k.now) serials

-- for every label the serial that a list has for it
abbrev pub HoldsSerials : Serials → List Labelled → Type 0
HoldsSerials serials labels = (label : List ℕ) → serial_for serials label ≡ serial_of labels label

pub record HoldLabels (held : Labels) (labels : plain.Labels) : Type 0 where
  pub requests : HoldsSerials held.requests labels.requests
  pub packets : HoldsSerials held.packets labels.packets

-- the serial that a line tells for a label: none where the line has another label or gives none
abbrev pub told_for : Option (List ℕ) → Option ℕ → List ℕ → Option ℕ
told_for (Some label) (Some serial) other = if bytes_eq label other then Some serial else None
told_for label serial other = None

-- the serials with the one that a line tells. The first for a label stays
abbrev pub TellsSerial : Option (List ℕ) → Option ℕ → Serials → Serials → Type 0
TellsSerial label serial old new = (other : List ℕ) → serial_for new other ≡ option_or (serial_for old other) (told_for label serial other)

-- the places of a label's request and packet
abbrev pub request_by : Labels → DomainState → List ℕ → Option ℕ
request_by held s label = option_and_then (place_of_request s) (serial_for held.requests label)

abbrev pub packet_by : Labels → DomainState → List ℕ → Option ℕ
packet_by held s label = option_and_then (place_of_packet s) (serial_for held.packets label)

-- a call names a request or a packet by a label
abbrev pub NamesLabel : Call → Type 0
NamesLabel (Release label) = Unit {0}
NamesLabel (Test label) = Unit {0}
NamesLabel (Wait label limit) = Unit {0}
NamesLabel (WaitAny names limit) = Unit {0}
NamesLabel (Cancel label) = Unit {0}
NamesLabel other = ⊥

-- the label that a packet is lent under
abbrev pub lending_by : Labels → DomainState → Call → Option (List ℕ) → Option (List ℕ)
lending_by held s (Test label) own = Some label.items
lending_by held s (Wait label limit) own = Some label.items
lending_by held s (WaitAny names limit) own = find (λ label. is_complete_at s (request_by held s label)) (map (λ l. l.items) names.items)
lending_by held s call own = own
