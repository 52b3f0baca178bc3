-- The lines of a scenario file, and the words of a line.
-- Source: docs/FORMATS.md, "Scenario files". A newline ends a line, and a carriage return before it goes with it; the last
-- line may lack its newline. Words are set apart by spaces and tabs.
use Rattle.std.specs.Prelude.{ℕ, Bool, true, false, ◌&&◌, ◌||◌, List, [], ◌∷◌, ◌==◌, if◌then◌else◌}

-- a list of lines, words or parts whose first one has this byte in front
abbrev pub onto_first : ℕ → List (List ℕ) → List (List ℕ)
onto_first b [] = (b ∷ []) ∷ []
onto_first b (w ∷ ws) = (b ∷ w) ∷ ws

abbrev pub begins_with : ℕ → List ℕ → Bool
begins_with c [] = false
begins_with c (b ∷ bs) = b == c

-- 10 is the newline, 13 the carriage return
abbrev pub lines_of : List ℕ → List (List ℕ)
lines_of [] = []
lines_of (b ∷ bs) = if b == 10 then [] ∷ lines_of bs else if b == 13 && begins_with 10 bs then lines_of bs else onto_first b (lines_of bs)

-- a space or a tab
abbrev pub is_blank : ℕ → Bool
is_blank b = b == 32 || b == 9

-- a word ends before a blank, and at the end of the line
abbrev pub ends_word : List ℕ → Bool
ends_word [] = true
ends_word (b ∷ bs) = is_blank b

abbrev pub words_of : List ℕ → List (List ℕ)
words_of [] = []
words_of (b ∷ bs) = if is_blank b then words_of bs else if ends_word bs then (b ∷ []) ∷ words_of bs else onto_first b (words_of bs)

-- the parts of a word between the separators in it, one more than there are separators
abbrev pub parts_at : ℕ → List ℕ → List (List ℕ)
parts_at c [] = [] ∷ []
parts_at c (b ∷ bs) = if b == c then [] ∷ parts_at c bs else onto_first b (parts_at c bs)

-- a line without words, and a comment: 35 is #
abbrev pub says_nothing : List (List ℕ) → Bool
says_nothing [] = true
says_nothing (w ∷ ws) = begins_with 35 w
