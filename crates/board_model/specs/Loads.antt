-- What is on the lanes of a board that runs, and turns whose looks show all of it.
-- Source: docs/PROFILE.md, "Serial run".
use Rattle.std.specs.Prelude.{ℕ, ◌+◌, min, ◌&&◌, ◌==◌, Bool, List, [], ◌∷◌, ◌++◌, length, take, drop, map, find, Option, None, Some, if◌then◌else◌}
use Rattle.mc_base.specs.Limits.{turn_limit}
use Rattle.board_model.specs.Scenario.{Lane}
use Rattle.board_model.specs.Journal.{Visit}
use Rattle.board_model.specs.State.{DomainState, Item, frames_from, peer_of}
use Rattle.board_model.specs.Turn.{after_visit}
use Rattle.board_model.specs.Serial.{due_to, visit_of, returned_at_once}

-- a lane, the frames put on it and not taken, and how many of its buffers were given back and not shown
pub record Load : Type 0 where
  pub sender : ℕ
  pub receiver : ℕ
  pub frames : List (List ℕ)
  pub returned : ℕ

-- a lane at the opening
abbrev pub empty_load : Lane → Load
empty_load l = record { sender = l.sender; receiver = l.receiver; frames = []; returned = 0 }

abbrev pub is_between : ℕ → ℕ → Load → Bool
is_between sender receiver l = l.sender == sender && l.receiver == receiver

-- the frames on the lane from a sender to a receiver, and its returned buffers
abbrev pub frames_in : Option Load → List (List ℕ)
frames_in None = []
frames_in (Some l) = l.frames

abbrev pub returned_in : Option Load → ℕ
returned_in None = 0
returned_in (Some l) = l.returned

abbrev pub frames_on : List Load → ℕ → ℕ → List (List ℕ)
frames_on loads sender receiver = frames_in (find (is_between sender receiver) loads)

abbrev pub returned_on : List Load → ℕ → ℕ → ℕ
returned_on loads sender receiver = returned_in (find (is_between sender receiver) loads)

-- the loads with that of one lane changed
abbrev pub with_load : ℕ → ℕ → (Load → Load) → List Load → List Load
with_load sender receiver f loads = map (λ l. if is_between sender receiver l then f l else l) loads

abbrev pub with_frames : List (List ℕ) → Load → Load
with_frames frames l = record l { frames = l.frames ++ frames }

abbrev pub with_returned : ℕ → Load → Load
with_returned n l = record l { returned = l.returned + n }

-- a look at the buffers shows all that came back
abbrev pub all_back : Load → Load
all_back l = record l { returned = 0 }

abbrev pub with_taken : ℕ → Load → Load
with_taken n l = record l { frames = drop n l.frames }

-- ---- turns

-- the owed frames that a visit of a domain to a peer puts, and what is on the lane from the peer when it looks at the frames
abbrev pub frames_due : DomainState → List Load → ℕ → List (List ℕ)
frames_due s loads peer = due_to s.number (peer_of s peer) (returned_on loads s.number peer)

abbrev pub after_owed : DomainState → List Load → ℕ → List Load
after_owed s loads peer = with_load s.number peer (λ l. with_frames (frames_due s loads peer) (all_back l)) loads

abbrev pub frames_seen : DomainState → List Load → ℕ → List (List ℕ)
frames_seen s loads peer = frames_on (after_owed s loads peer) peer s.number

-- the visit, and what it leaves on the lanes
abbrev pub visit_to : DomainState → List Load → ℕ → Visit
visit_to s loads peer = visit_of s peer (returned_on loads s.number peer) (frames_due s loads peer) (length (frames_seen s loads peer)) (take (min turn_limit (length (frames_seen s loads peer))) (frames_seen s loads peer))

abbrev pub loads_visited : DomainState → List Load → ℕ → List Load
loads_visited s loads peer = with_load peer s.number (λ l. with_returned (returned_at_once s (visit_to s loads peer)) (with_taken (length (visit_to s loads peer).takes) l)) (after_owed s loads peer)

-- the visits to peers one after the other
abbrev pub visits_to_all : DomainState → List Load → List ℕ → List Visit
visits_to_all s loads [] = []
visits_to_all s loads (p ∷ ps) = visit_to s loads p ∷ visits_to_all (after_visit s (visit_to s loads p)) (loads_visited s loads p) ps

abbrev pub loads_after : DomainState → List Load → List ℕ → List Load
loads_after s loads [] = loads
loads_after s loads (p ∷ ps) = loads_after (after_visit s (visit_to s loads p)) (loads_visited s loads p) ps

-- a turn of a domain visits its peers, all in rising number
abbrev pub turn_of : DomainState → List Load → List Visit
turn_of s loads = visits_to_all s loads (map (λ p. p.number) s.peers)

abbrev pub loads_turned : DomainState → List Load → List Load
loads_turned s loads = loads_after s loads (map (λ p. p.number) s.peers)

-- ---- calls

-- a frame that a domain puts to a peer
abbrev pub loads_put : ℕ → ℕ → List ℕ → List Load → List Load
loads_put domain peer frame loads = with_load domain peer (with_frames (frame ∷ [])) loads

-- buffers of items that a domain gives back
abbrev pub loads_given : ℕ → List Item → List Load → List Load
loads_given domain items loads = map (λ l. if l.receiver == domain then with_returned (length (frames_from l.sender items)) l else l) loads
