-- A scenario file with expected answers: behind a call, an arrow `->` and the answer.
-- Source: docs/FORMATS.md, "Expected answers". Lines that make no call expect nothing.
use Rattle.std.specs.Prelude.{ℕ, zero, suc, ◌-◌, ◌==◌, ◌&&◌, ◌||◌, Bool, List, [], ◌∷◌, ◌++◌, length, take, nat_le, slice_index, slice_set, Option, None, Some, if◌then◌else◌}
use Rattle.std.specs.List.{flat_map}
use Rattle.mc_journal.specs.Readers.{cut_at}
use Rattle.outer_io.specs.Faults.{one_more}
use Rattle.report_text.specs.TextLines.{lines_in}
use Rattle.view_expect.specs.declared.expectation.Expectation.{Expectation}

-- ---- spaces

-- a blank, a tab, a carriage return or a newline
abbrev pub is_space : ℕ → Bool
is_space b = b == 32 || b == 9 || b == 13 || b == 10

-- without the spaces at its front
abbrev pub unspaced : List ℕ → List ℕ
unspaced [] = []
unspaced (b ∷ bs) = if is_space b then unspaced bs else b ∷ bs

-- the first n bytes, without the spaces at their end
abbrev pub trimmed_to : ℕ → List ℕ → List ℕ
trimmed_to zero text = []
trimmed_to (suc n) text = if is_space (slice_index text n) then trimmed_to n text else take (suc n) text

abbrev pub trimmed : List ℕ → List ℕ
trimmed text = trimmed_to (length (unspaced text)) (unspaced text)

-- ---- a line

-- the domain of a call, by the digit with which the line begins
abbrev pub domain_at : List ℕ → Option ℕ
domain_at [] = None
domain_at (b ∷ bs) = if nat_le 48 b && nat_le b 55 then Some (b - 48) else None

abbrev pub caller_in : List ℕ → Option ℕ
caller_in line = domain_at (unspaced line)

-- without the dash at its end: 45 is the dash, and 62 is >
abbrev pub undashed : List ℕ → Option (List ℕ)
undashed text = if slice_index text (length text - 1) == 45 then Some (take (length text - 1) text) else None

abbrev pub arrow_behind : Option (List ℕ) → List ℕ → Option (List ℕ × List ℕ)
arrow_behind None behind = None
arrow_behind (Some front) behind = Some (front, behind)

abbrev pub arrow_cut : Option (List ℕ × List ℕ) → Option (List ℕ × List ℕ)
arrow_cut None = None
arrow_cut (Some x) = arrow_behind (undashed x.0) x.1

-- what stands before the arrow of a line, and behind it
abbrev pub arrow_in : List ℕ → Option (List ℕ × List ℕ)
arrow_in line = arrow_cut (cut_at 62 line)

-- ---- the scenario alone

abbrev pub bare_front : List ℕ → Option (List ℕ × List ℕ) → List ℕ
bare_front line None = line
bare_front line (Some x) = x.0 ++ 10 ∷ []

abbrev pub bare_by : List ℕ → Option ℕ → List ℕ
bare_by line None = line
bare_by line (Some d) = bare_front line (arrow_in line)

-- a line without the answer that it expects
abbrev pub bare_line : List ℕ → List ℕ
bare_line line = bare_by line (caller_in line)

abbrev pub bare : List ℕ → List ℕ
bare file = flat_map bare_line (lines_in file)

-- ---- the answers

-- an answer that is expected of a call: the number of its line in the file, the line, its domain, its number in the domain's script, and the answer
pub record Expected : Type 0 where
  pub line : ℕ
  pub call : List ℕ
  pub domain : ℕ
  pub number : ℕ
  pub answer : List ℕ

abbrev pub told : Expectation → Expected
told e = record { line = e.line; call = e.call.now; domain = e.domain; number = e.number; answer = e.answer.now }

abbrev pub expected_of : ℕ → ℕ → ℕ → Option (List ℕ × List ℕ) → List Expected
expected_of at domain number None = []
expected_of at domain number (Some x) = record { line = at; call = trimmed x.0; domain = domain; number = number; answer = trimmed x.1 } ∷ []

abbrev pub expected_by : ℕ → ℕ → ℕ → List ℕ → List Expected
expected_by at domain number line = expected_of at domain number (arrow_in line)

-- how many calls each domain has made, with one more of this one
abbrev pub counted : ℕ → List ℕ → List ℕ
counted d calls = slice_set calls d (one_more (slice_index calls d))

abbrev pub calls_behind : Option ℕ → List ℕ → List ℕ
calls_behind None calls = calls
calls_behind (Some d) calls = counted d calls

abbrev pub expected_at : ℕ → List ℕ → List ℕ → Option ℕ → List Expected
expected_at at calls line None = []
expected_at at calls line (Some d) = expected_by at d (one_more (slice_index calls d)) line

-- those of the lines from this number on, behind so many calls of each domain
abbrev pub expected_from : ℕ → List ℕ → List (List ℕ) → List Expected
expected_from at calls [] = []
expected_from at calls (l ∷ ls) = expected_at at calls l (caller_in l) ++ expected_from (one_more at) (calls_behind (caller_in l) calls) ls

abbrev pub no_calls : List ℕ
no_calls = 0 ∷ 0 ∷ 0 ∷ 0 ∷ 0 ∷ 0 ∷ 0 ∷ 0 ∷ []

-- the answers that a file expects
abbrev pub expected_in : List ℕ → List Expected
expected_in file = expected_from 1 no_calls (lines_in file)
