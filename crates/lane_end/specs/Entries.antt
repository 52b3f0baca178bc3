-- What the entries of a ring carry: frames, the numbers of their buffers, and lengths.
-- Source: VIRTIO 1.2, sections 2.7.6 and 2.7.8: a buffer is offered, and returned, with a length.
use Rattle.std.specs.Prelude.{ℕ, List, map, take}
use Rattle.shared_words.specs.Entry.{Entry, number_of}

-- the frame is the first bytes of the buffer, as many as the length
abbrev pub frame_in : Entry → List ℕ
frame_in e = take e.1 e.0.bytes

abbrev pub frames_in : List Entry → List (List ℕ)
frames_in es = map frame_in es

abbrev pub numbers_in : List Entry → List ℕ
numbers_in es = map number_of es

abbrev pub lengths_in : List Entry → List ℕ
lengths_in es = map (λ (e : Entry). e.1) es

-- each frame with its buffer's number
abbrev pub load_in : Entry → ℕ × List ℕ
load_in e = (number_of e, frame_in e)

abbrev pub loads_in : List Entry → List (ℕ × List ℕ)
loads_in es = map load_in es

-- each length with its buffer's number
abbrev pub return_in : Entry → ℕ × ℕ
return_in e = (number_of e, e.1)

abbrev pub returns_in : List Entry → List (ℕ × ℕ)
returns_in es = map return_in es
