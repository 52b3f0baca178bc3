-- The open part of a peer ends with a frame that does not go on with it: its buffers are given back, the oldest first, after the frame is
-- taken and before anything else is done with it.
-- Source: docs/PROFILE.md, "What a domain does with a taken frame".
use Rattle.std.specs.Prelude.{ℕ, List, [], Option, None, Some}
use Rattle.buffer_book.specs.Book.{Book}
use Rattle.domain_parts.specs.declared.parts.OpenPart.{OpenPart}
use Rattle.domain_parts.specs.InBook.{frames_at}
use Rattle.domain_parts.specs.Parts.{Parts}
use Rattle.domain_parts.specs.Steps.{Step, done, frame_after, part_ended, without_frames}

-- the frames of a part, if one is open
abbrev pub frames_open : Book → Option OpenPart → List ℕ
frames_open b None = []
frames_open b (Some o) = frames_at b o.slot

-- and the book without them
abbrev pub without_open : Book → Option OpenPart → Book
without_open b None = b
without_open b (Some o) = without_frames b o.slot None (frames_at b o.slot)

-- the step that a frame makes, and with it the part ends
abbrev pub ending : Book → Option OpenPart → Step → Step
ending b None c = c
ending b (Some o) c = frame_after o.slot (frames_at b o.slot) c

-- the parts without it
abbrev pub ended : Option OpenPart → Parts → Parts
ended None p = p
ended (Some o) p = done (part_ended o.slot (frames_at p.book o.slot)) p
