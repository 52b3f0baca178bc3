-- Where the buffers of a ring are: with the driver, offered, with the device, or returned.
-- Source: docs/PROFILE.md: the driver owns all buffers, and has them all at the beginning.
use Rattle.std.specs.Prelude.{◌≡◌, ℕ, ◌+◌, ◌-◌, ◌<◌, List}
use Rattle.shared_words.specs.Entry.{Entry, times, inside}
use Rattle.shared_words.specs.declared.view.Role.{Role}
use Rattle.shared_words.specs.declared.view.Role.TheVariants.{Driver, Device}
use Rattle.shared_words.specs.declared.view.HalfView.{HalfView}

-- how often a half has the number x at the beginning
abbrev pub begins : Role → ℕ → ℕ → ℕ
begins Driver size x = inside size x
begins Device size x = 0

-- how many numbers a half has at the beginning
abbrev pub starts_with : Role → ℕ → ℕ
starts_with Driver size = size
starts_with Device size = 0

-- how often a half holds the number x: what it began with and what it took, less what it wrote
abbrev pub holding : Role → ℕ → HalfView → ℕ → ℕ
holding role size view x = begins role size x + times x view.taken - times x view.written

abbrev pub Holds : Role → ℕ → HalfView → ℕ → Type 0
Holds role size view x = times x view.written < begins role size x + times x view.taken

-- each number below the size stands exactly once in the four lists, and any other nowhere
abbrev pub EachOnce : ℕ → HalfView → HalfView → List Entry → List Entry → Type 0
EachOnce size driver device offered_left returned_left = (x : ℕ) → holding Driver size driver x + times x offered_left + holding Device size device x + times x returned_left ≡ inside size x
