-- What is appended where a text is written whole, or breaks off.
-- Source: docs/PROFILE.md, "The outside": after a failed write a proper prefix of the text has been written.
use Rattle.std.specs.Prelude.{◌≡◌, ℕ, ◌<◌, ◌+◌, List, ◌++◌, length, Option, Result, MatchResult}
use Rattle.std.specs.Io.KnownBytes.{Appends}
use Rattle.outer_io.specs.Calls.{CountsAtMost}

-- known bytes grow by the first bytes of the text, and not by all
abbrev pub AppendsPart : Option (List ℕ) → Option (List ℕ) → List ℕ → Type 0
AppendsPart old new text = (front : List ℕ) × (back : List ℕ) × (text ≡ front ++ back) × (0 < length back) × Appends old new front

-- a part of the text was appended, and no more writes were made than its bytes and one. Each write that doesn't fail appends one byte at
-- least, so to a sink that takes a byte at a time the one that failed was the last
abbrev pub WritesStop : Option (List ℕ) → Option (List ℕ) → Option ℕ → Option ℕ → List ℕ → Type 0
WritesStop old new before now text = (front : List ℕ) × (length front < length text) × Appends old new front × CountsAtMost before now (length front + 1)

-- the whole text was appended at Ok, and a proper prefix of it at Err
abbrev pub Writes : {T E : Type 0} → Option (List ℕ) → Option (List ℕ) → Result T E → List ℕ → Type 0
Writes old new result text = MatchResult result (λ _. Appends old new text) (λ _. AppendsPart old new text)
