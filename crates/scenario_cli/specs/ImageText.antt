-- What is told of the image of a ring: its size, its queue and its indices where it is sound, and else the place and the reason.
-- Source: docs/FORMATS.md, "Text of an image" and "Faults of an image".
use Rattle.std.specs.Prelude.{◌≡◌, ℕ, List, [], ◌∷◌, codes, decimal, Ok, Err}
use Rattle.board_model.specs.Grammar.{line_of}
use Rattle.ring_trace.specs.declared.checking.ImageInfo.{ImageInfo}
use Rattle.ring_trace.specs.declared.checking.ImageFault.{ImageFault}
use Rattle.ring_trace.specs.declared.checking.ImageFault.TheVariants.{ImageSize, Constant, IdxAhead, IdRange, LenRange}
use Rattle.ring_trace.specs.ImageFaults.{checked}
use Rattle.scenario_cli.specs.WrongText.{wrong_line}

-- the bytes are an image without a fault, of this size, this queue and these indices
abbrev pub IsImage : List ℕ → ImageInfo → Type 0
IsImage bytes info = checked bytes ≡ Ok info

-- they are none, and this is the first fault, with its place
abbrev pub IsNoImage : List ℕ → ℕ × ImageFault → Type 0
IsNoImage bytes fault = checked bytes ≡ Err fault

-- the line of a sound image
abbrev pub image_line : ImageInfo → List ℕ
image_line info = line_of (codes "right" ∷ decimal info.size ∷ decimal info.queue ∷ decimal info.avail ∷ decimal info.used ∷ [])

abbrev pub image_fault_text : ImageFault → List ℕ
image_fault_text ImageSize = codes "image_size"
image_fault_text Constant = codes "constant"
image_fault_text IdxAhead = codes "idx_ahead"
image_fault_text IdRange = codes "id_range"
image_fault_text LenRange = codes "len_range"

-- the line of a fault at its place
abbrev pub image_fault_line : ℕ × ImageFault → List ℕ
image_fault_line fault = wrong_line fault.0 (image_fault_text fault.1)
