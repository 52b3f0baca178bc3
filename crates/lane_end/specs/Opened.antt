-- What the two halves of a ring had done when a lane was opened over it.
-- Source: docs/PROFILE.md, "Lanes": the driver has all buffers at first. In queue 1 the driver sends. In queue 0 the device
-- sends, so all buffers are offered to it before the lane is open.
use Rattle.std.specs.Prelude.{ℕ}
use Rattle.shared_words.specs.Shown.{RingId}
use Rattle.shared_words.specs.declared.view.Role.{Role}
use Rattle.shared_words.specs.declared.view.Role.TheVariants.{Driver, Device}

-- how many entries the half that sends had taken
abbrev pub taken_before : Role → ℕ → ℕ
taken_before Driver size = 0
taken_before Device size = size

-- how many entries the half that receives had written
abbrev pub written_before : Role → ℕ → ℕ
written_before Driver size = size
written_before Device size = 0

-- the length with which the half that receives gives a buffer back: the driver offers the whole buffer for the next frame, and
-- the device has written nothing into it
abbrev pub given_length : Role → RingId → ℕ
given_length Driver ring = ring.width
given_length Device ring = 0
