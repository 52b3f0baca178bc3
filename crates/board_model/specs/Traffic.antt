-- What a journal says of the lanes: the frames put and taken, the buffers given back, and the looks.
-- Source: docs/PROFILE.md, "Lanes".
use Rattle.std.specs.Prelude.{ℕ, ◌+◌, List, [], ◌∷◌, ◌==◌, map, filter, length, if◌then◌else◌, Option, None, Some}
use Rattle.std.specs.List.{flat_map}
use Rattle.board_model.specs.declared.scenario.CallLine.{CallLine}
use Rattle.board_model.specs.Journal.{PlainEntry, turned, put, again, waits, called, Visit, Taken}
use Rattle.board_model.specs.State.{Item, frames_from}
use Rattle.board_model.specs.CallChanges.{returned}
use Rattle.board_model.specs.Deeds.{along}
use Rattle.board_model.specs.Turn.{nameless, visit_deeds}
use Rattle.board_model.specs.Returns.{names_given}
use Rattle.board_model.specs.Step.{RunState, next_line, call_at, after}

-- the visits to a peer
abbrev pub visits_to : ℕ → List Visit → List Visit
visits_to peer visits = filter (λ v. v.peer == peer) visits

-- the frames that an entry puts to a peer
abbrev pub puts_in : ℕ → PlainEntry → List (List ℕ)
puts_in peer (turned visits) = flat_map (λ v. v.owed) (visits_to peer visits)
puts_in peer (put to frame) = if to == peer then frame ∷ [] else []
puts_in peer (again word) = []
puts_in peer (waits k) = []
puts_in peer (called k a) = []

-- the frames that it takes from a peer, with their words
abbrev pub takes_in : ℕ → PlainEntry → List Taken
takes_in peer (turned visits) = flat_map (λ v. v.takes) (visits_to peer visits)
takes_in peer (put to frame) = []
takes_in peer (again word) = []
takes_in peer (waits k) = []
takes_in peer (called k a) = []

abbrev pub put_to : ℕ → List PlainEntry → List (List ℕ)
put_to peer entries = flat_map (puts_in peer) entries

abbrev pub takes_from : ℕ → List PlainEntry → List Taken
takes_from peer entries = flat_map (takes_in peer) entries

abbrev pub taken_from : ℕ → List PlainEntry → List (List ℕ)
taken_from peer entries = map (λ t. t.frame) (takes_from peer entries)

-- how many buffers an entry gives back to a peer: those of frames that do not stay, and those of what a call drops or takes
abbrev pub returned_by : Option CallLine → RunState → List Item
returned_by None r = []
returned_by (Some line) r = returned r.state line.node (call_at r line)

abbrev pub given_in : List CallLine → RunState → ℕ → PlainEntry → ℕ
given_in script r peer (turned visits) = length (along (names_given peer) r.state (flat_map (visit_deeds nameless) visits))
given_in script r peer (put to frame) = 0
given_in script r peer (again word) = 0
given_in script r peer (waits k) = 0
given_in script r peer (called k a) = length (frames_from peer (returned_by (next_line script r) r))

-- how many buffers a run gives back to a peer
abbrev pub given : List CallLine → RunState → ℕ → List PlainEntry → ℕ
given script r peer [] = 0
given script r peer (e ∷ es) = given_in script r peer e + given script (after script r e) peer es

-- the looks at a peer, one of each kind for each turn, those that showed nothing among them
abbrev pub backs_in : ℕ → PlainEntry → List ℕ
backs_in peer (turned visits) = map (λ v. v.back) (visits_to peer visits)
backs_in peer (put to frame) = []
backs_in peer (again word) = []
backs_in peer (waits k) = []
backs_in peer (called k a) = []

abbrev pub back_looks : ℕ → List PlainEntry → List ℕ
back_looks peer entries = flat_map (backs_in peer) entries
