-- Visits of the serial run, by what their looks show, and entries for the frames that its calls put.
-- Source: docs/PROFILE.md, "Serial run" and "What a domain does with a taken frame".
use Rattle.std.specs.Prelude.{ℕ, List, [], ◌∷◌, ◌++◌, map, length, Option, None, Some}
use Rattle.mc_base.specs.declared.fate.Fate.{Fate}
use Rattle.board_model.specs.Journal.{PlainEntry, put, Visit, Taken, taken}
use Rattle.board_model.specs.State.{DomainState, Peer}
use Rattle.board_model.specs.TakenFrames.{row_from}
use Rattle.board_model.specs.Deeds.{Deed, looks_back, puts_owed, looks_ahead, takes, after_deed, after_deeds, along}
use Rattle.board_model.specs.Turn.{due_frames, nameless, visit_deeds}
use Rattle.board_model.specs.Returns.{names_given}

-- the word of a frame from a peer
abbrev pub word_of : DomainState → ℕ → List ℕ → Fate
word_of s peer frame = (row_from s peer None frame).word

-- the frames with the words of their rows
abbrev pub dealt : DomainState → ℕ → List (List ℕ) → List Taken
dealt s peer [] = []
dealt s peer (f ∷ fs) = taken f (word_of s peer f) ∷ dealt (after_deed s (takes peer None f (word_of s peer f))) peer fs

-- the owed frames that a turn puts, after a look that shows this many buffers
abbrev pub due_to : ℕ → Option Peer → ℕ → List (List ℕ)
due_to domain None back = []
due_to domain (Some p) back = due_frames domain p back

-- a look that shows `back` buffers, these owed frames put, and a look that shows `see` frames
abbrev pub looks_deeds : ℕ → ℕ → List (List ℕ) → ℕ → List Deed
looks_deeds peer back owed see = looks_back peer back ∷ (map (puts_owed peer) owed ++ looks_ahead peer see ∷ [])

-- a visit to a peer with these looks and puts, which takes these frames
abbrev pub visit_of : DomainState → ℕ → ℕ → List (List ℕ) → ℕ → List (List ℕ) → Visit
visit_of s peer back owed see frames = record { peer = peer; back = back; owed = owed; see = see; takes = dealt (after_deeds s (looks_deeds peer back owed see)) peer frames }

-- how many buffers a visit gives back
abbrev pub returned_at_once : DomainState → Visit → ℕ
returned_at_once s v = length (along (names_given v.peer) s (visit_deeds nameless v))

-- a frame that a call puts to a peer
abbrev pub put_entry : ℕ × List ℕ → PlainEntry
put_entry p = put p.0 p.1
