-- What an input text tells, or the first line that is refused and its first reason.
-- Source: docs/FORMATS.md, "Text of a relay" and "Text of numbered calls". Lines are counted from 1.
use Rattle.std.specs.Prelude.{◌≡◌, ℕ, ◌+◌, Bool, nat_lt, List, [], ◌∷◌, Option, None, Some, Result, Ok, Err}
use Rattle.actor_lang.specs.declared.fault.InputReason.{InputReason}
use Rattle.actor_lang.specs.declared.fault.InputReason.TheVariants.{Form}
use Rattle.actor_lang.specs.declared.fault.InputFault.{InputFault}
use Rattle.actor_lang.specs.declared.fault.InputFault.TheVariants as input_fault

-- a line that is refused, and its reason
pub record RefusedInput : Type 0 where
  pub line : ℕ
  pub reason : InputReason

abbrev pub refused : ℕ → InputReason → RefusedInput
refused line reason = record { line = line; reason = reason }

-- a value and what follows from it, or the refusal
infixl 10 ◌>>=◌
abbrev pub ◌>>=◌ : {A B E : Type 0} → Result A E → (A → Result B E) → Result B E
(Ok x) >>= f = f x
(Err e) >>= f = Err e

-- what a line says, by its number
abbrev pub at_line : {A : Type 0} → ℕ → Result A InputReason → Result A RefusedInput
at_line n (Ok x) = Ok x
at_line n (Err reason) = Err (refused n reason)

abbrev pub or_form : {A : Type 0} → Option A → Result A InputReason
or_form None = Err Form
or_form (Some x) = Ok x

-- the first line, and the others. A text without a byte has none, and is refused at line 1
abbrev pub first_and_others : List (List ℕ) → Result (List ℕ × List (List ℕ)) RefusedInput
first_and_others [] = Err (refused 1 Form)
first_and_others (line ∷ lines) = Ok (line, lines)

abbrev pub onto_told : {A : Type 0} → Result A RefusedInput → Result (List A) RefusedInput → Result (List A) RefusedInput
onto_told (Err r) rest = Err r
onto_told (Ok x) (Err r) = Err r
onto_told (Ok x) (Ok xs) = Ok (x ∷ xs)

-- what the lines from this one on say, each read with its number
abbrev pub told_from : {A : Type 0} → (ℕ → List ℕ → Result A InputReason) → ℕ → List (List ℕ) → Result (List A) RefusedInput
told_from read n [] = Ok []
told_from read n (line ∷ lines) = onto_told (at_line n (read n line)) (told_from read (n + 1) lines)

-- the most lines behind the first
abbrev pub line_limit : ℕ
line_limit = 100000

-- a line behind that many
abbrev pub is_past : ℕ → Bool
is_past n = nat_lt (line_limit + 1) n

-- a refusal is the one that is told. Want of memory may come at any time
abbrev pub Refuses : {X : Type 0} → InputFault → Result X RefusedInput → Type 0
Refuses input_fault.NoMemory told = Unit {0}
Refuses (input_fault.Refused line reason) told = told ≡ Err (refused line reason)
