-- The text of an answer, piece by piece.
use Rattle.std.proofs.Common.{◌≡◌, Bool, true, false, Option, None, Some, refl, sym, ap, ◌∙◌, List, ℕ, [], ◌∷◌, ◌++◌, length, append_assoc}
use Rattle.std.specs.Prelude.{codes, decimal, nat_lt, if◌then◌else◌}
use Rattle.mc_base.specs.Text.{hex_text}
use Rattle.board_model.specs.Journal.{PlainResult, found_at, was_accepted, was_rejected, brought, ended_by, PlainAnswer, refuses, agrees, tells, connects, gives, completes}
use Rattle.board_model.specs.Grammar.{spaced, line_of}
use Rattle.board_model.specs.Report.{answer_words, result_words}
use Rattle.mc_journal.specs.LineForms.{place_front}

-- the number stands before the words of the answer
pub line_of-answer : (number : List ℕ) (a : PlainAnswer) → line_of (codes "call" ∷ number ∷ answer_words a) ≡ codes "call " ++ (number ++ (codes " " ++ (spaced (answer_words a) ++ (10 ∷ []))))
line_of-answer number (refuses word) = simp append_assoc
line_of-answer number agrees = simp append_assoc
line_of-answer number (tells n) = simp append_assoc
line_of-answer number (connects request channel) = simp append_assoc
line_of-answer number (gives size bytes) = simp append_assoc
line_of-answer number (completes place result) = simp append_assoc

-- the words of a size and bytes
abbrev pub sized : Bool → ℕ → List ℕ → List (List ℕ)
sized b size bytes = if b then codes "truncated" ∷ decimal size ∷ hex_text bytes ∷ [] else decimal size ∷ hex_text bytes ∷ []

-- a result has words, before which its place may stand
pub spaced-done : (r : PlainResult) → spaced (codes "done" ∷ result_words r) ≡ codes "done " ++ spaced (result_words r)
spaced-done (found_at address) = refl
spaced-done was_accepted = refl
spaced-done (was_rejected reason) = refl
spaced-done (brought size bytes) = go (nat_lt (length bytes) size)
  where
    go : (b : Bool) → spaced (codes "done" ∷ sized b size bytes) ≡ codes "done " ++ spaced (sized b size bytes)
    go true = refl
    go false = refl
spaced-done (ended_by word) = refl

pub spaced-placed : (place : ℕ) (r : PlainResult) → spaced (answer_words (completes (Some place) r)) ≡ codes "done " ++ (decimal place ++ 32 ∷ spaced (result_words r))
spaced-placed place (found_at address) = refl
spaced-placed place was_accepted = refl
spaced-placed place (was_rejected reason) = refl
spaced-placed place (brought size bytes) = go (nat_lt (length bytes) size)
  where
    go : (b : Bool) → spaced (codes "done" ∷ decimal place ∷ sized b size bytes) ≡ codes "done " ++ (decimal place ++ 32 ∷ spaced (sized b size bytes))
    go true = refl
    go false = refl
spaced-placed place (ended_by word) = refl

pub spaced-completes : (place : Option ℕ) (r : PlainResult) → spaced (answer_words (completes place r)) ≡ codes "done " ++ (place_front place ++ spaced (result_words r))
spaced-completes None r = spaced-done r
spaced-completes (Some place) r = spaced-placed place r ∙ ap (λ (t : List ℕ). codes "done " ++ t) (sym (append_assoc (decimal place) (32 ∷ []) (spaced (result_words r))))

pub spaced-brought : (size : ℕ) (bytes : List ℕ) → spaced (result_words (brought size bytes)) ≡ (if nat_lt (length bytes) size then codes "truncated " else []) ++ spaced (decimal size ∷ hex_text bytes ∷ [])
spaced-brought size bytes = go (nat_lt (length bytes) size)
  where
    go : (b : Bool) → spaced (sized b size bytes) ≡ (if b then codes "truncated " else []) ++ spaced (decimal size ∷ hex_text bytes ∷ [])
    go true = refl
    go false = refl
