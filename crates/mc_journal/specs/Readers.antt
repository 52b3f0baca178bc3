-- How the readers find what a line says, part by part. Contracts of public calls name the text of an entry instead.
-- Source: docs/FORMATS.md, "Journal text".
use Rattle.std.specs.Prelude.{ℕ, Bool, not, ◌&&◌, List, [], ◌∷◌, length, codes, nat_le, nat_lt, ◌==◌, Option, None, Some, option_map, if◌then◌else◌}
use Rattle.std.specs.List.{list_all}
use Rattle.std.specs.Str.{bytes_eq}
use Rattle.board_model.specs.FileWords.{number_of, pairs_of, is_dash}
use Rattle.board_model.specs.Numerals.{at_most}
use Rattle.board_model.specs.Journal.{Taken, taken, PlainResult, found_at, was_accepted, was_rejected, brought, ended_by, PlainAnswer, refuses, agrees, tells, connects, gives, completes, Line, idle_line, again_line, spin_line, back_line, put_line, see_line, take_line, wait_line, call_line}
use Rattle.mc_journal.specs.declared.forms.Form.{Form}
use Rattle.mc_journal.specs.declared.forms.Form.TheVariants as form
use Rattle.board_model.specs.WordTables.{refusal_in, fate_in, reason_in}

-- ---- words

abbrev pub onto_first : ℕ → Option (List ℕ × List ℕ) → Option (List ℕ × List ℕ)
onto_first b None = None
onto_first b (Some x) = Some (b ∷ x.0, x.1)

-- what stands before the first of these bytes, and after it
abbrev pub cut_at : ℕ → List ℕ → Option (List ℕ × List ℕ)
cut_at c [] = None
cut_at c (b ∷ bs) = if b == c then Some ([], bs) else onto_first b (cut_at c bs)

abbrev pub number_in : ℕ → List ℕ → Option ℕ
number_in most word = at_most most (number_of word)

-- no A to F
abbrev pub is_small : ℕ → Bool
is_small b = not (nat_le 65 b && nat_le b 70)

-- bytes in lower case, or a dash
abbrev pub bytes_in : List ℕ → Option (List ℕ)
bytes_in word = if is_dash word then Some [] else if length word == 0 then None else if list_all is_small word then pairs_of word else None

-- ---- parts put together

abbrev pub both : {A B C : Type 0} → (A → B → C) → Option A → Option B → Option C
both make (Some a) (Some b) = Some (make a b)
both make a b = None

-- the first one that is
abbrev pub or_else : {A : Type 0} → Option A → Option A → Option A
or_else (Some a) other = Some a
or_else None other = other

-- only what passes
abbrev pub only : {A : Type 0} → (A → Bool) → Option A → Option A
only test None = None
only test (Some a) = if test a then Some a else None

abbrev pub pair_by : {A B C : Type 0} → (List ℕ → Option A) → (List ℕ → Option B) → (A → B → C) → Option (List ℕ × List ℕ) → Option C
pair_by first second make None = None
pair_by first second make (Some x) = both make (first x.0) (second x.1)

-- a word, a blank and what follows
abbrev pub pair_in : {A B C : Type 0} → (List ℕ → Option A) → (List ℕ → Option B) → (A → B → C) → List ℕ → Option C
pair_in first second make text = pair_by first second make (cut_at 32 text)

-- ---- answers

abbrev pub peer_in : List ℕ → Option ℕ
peer_in word = number_in 255 word

abbrev pub count_in : List ℕ → Option ℕ
count_in word = number_in 4294967295 word

abbrev pub long_in : List ℕ → Option ℕ
long_in word = number_in 18446744073709551615 word

abbrev pub sized : ℕ → List ℕ → ℕ × List ℕ
sized size bytes = (size, bytes)

abbrev pub is_cut : ℕ × List ℕ → Bool
is_cut x = nat_lt (length x.1) x.0

abbrev pub is_whole : ℕ × List ℕ → Bool
is_whole x = not (is_cut x)

abbrev pub give : ℕ × List ℕ → PlainAnswer
give x = gives x.0 x.1

abbrev pub bring : ℕ × List ℕ → PlainResult
bring x = brought x.0 x.1

-- a size and fewer bytes
abbrev pub cut_in : List ℕ → Option (ℕ × List ℕ)
cut_in text = only is_cut (pair_in count_in bytes_in sized text)

-- a size and as many bytes or more
abbrev pub whole_in : List ℕ → List ℕ → Option (ℕ × List ℕ)
whole_in head rest = only is_whole (both sized (count_in head) (bytes_in rest))

abbrev pub result_word : List ℕ → Option PlainResult
result_word word = or_else (option_map found_at (count_in word)) (if bytes_eq word (codes "accepted") then Some was_accepted else option_map ended_by (refusal_in word))

abbrev pub result_after : List ℕ → List ℕ → Option PlainResult
result_after head rest = if bytes_eq head (codes "rejected") then option_map was_rejected (reason_in rest) else if bytes_eq head (codes "truncated") then option_map bring (cut_in rest) else option_map bring (whole_in head rest)

abbrev pub result_by : List ℕ → Option (List ℕ × List ℕ) → Option PlainResult
result_by text None = result_word text
result_by text (Some x) = result_after x.0 x.1

abbrev pub result_in : List ℕ → Option PlainResult
result_in text = result_by text (cut_at 32 text)

-- ---- results behind places

abbrev pub place_in : List ℕ → Option ℕ
place_in word = number_in 255 word

-- behind a number, which is a place, or else the size of bytes
abbrev pub placed_by : ℕ → List ℕ → List ℕ → Option (List ℕ × List ℕ) → Option PlainAnswer
placed_by place head rest None = or_else (option_map (completes None) (option_map bring (whole_in head rest))) (option_map (completes (Some place)) (result_word rest))
placed_by place head rest (Some x) = option_map (completes (Some place)) (result_after x.0 x.1)

abbrev pub done_after : List ℕ → List ℕ → Option ℕ → Option PlainAnswer
done_after head rest None = option_map (completes None) (result_after head rest)
done_after head rest (Some place) = placed_by place head rest (cut_at 32 rest)

abbrev pub done_by : List ℕ → Option (List ℕ × List ℕ) → Option PlainAnswer
done_by text None = option_map (completes None) (result_word text)
done_by text (Some x) = done_after x.0 x.1 (place_in x.0)

abbrev pub done_in : List ℕ → Option PlainAnswer
done_in text = done_by text (cut_at 32 text)

abbrev pub ok_by : List ℕ → Option (List ℕ × List ℕ) → Option PlainAnswer
ok_by text None = option_map tells (long_in text)
ok_by text (Some x) = or_else (option_map give (whole_in x.0 x.1)) (both connects (long_in x.0) (count_in x.1))

abbrev pub ok_in : List ℕ → Option PlainAnswer
ok_in text = ok_by text (cut_at 32 text)

abbrev pub answer_word : List ℕ → Option PlainAnswer
answer_word word = if bytes_eq word (codes "ok") then Some agrees else option_map refuses (refusal_in word)

abbrev pub answer_after : List ℕ → List ℕ → Option PlainAnswer
answer_after head rest = if bytes_eq head (codes "ok") then ok_in rest else if bytes_eq head (codes "truncated") then option_map give (cut_in rest) else if bytes_eq head (codes "done") then done_in rest else None

abbrev pub answer_by : List ℕ → Option (List ℕ × List ℕ) → Option PlainAnswer
answer_by text None = answer_word text
answer_by text (Some x) = answer_after x.0 x.1

abbrev pub answer_in : List ℕ → Option PlainAnswer
answer_in text = answer_by text (cut_at 32 text)

-- ---- lines

-- a frame and the word for what became of it
abbrev pub taken_in : List ℕ → Option Taken
taken_in text = pair_in bytes_in fate_in taken text

abbrev pub takes : ℕ → Taken → Line
takes peer t = take_line peer t.frame t.fate

-- what follows the word of a line
abbrev pub rest_in : Form → List ℕ → Option Line
rest_in form.Idle rest = option_map idle_line (long_in rest)
rest_in form.Again rest = option_map again_line (refusal_in rest)
rest_in form.Spin rest = pair_in long_in refusal_in spin_line rest
rest_in form.Turn rest = None
rest_in form.Back rest = pair_in peer_in count_in back_line rest
rest_in form.Put rest = pair_in peer_in bytes_in put_line rest
rest_in form.See rest = pair_in peer_in count_in see_line rest
rest_in form.Take rest = pair_in peer_in taken_in takes rest
rest_in form.Wait rest = option_map wait_line (count_in rest)
rest_in form.Call rest = pair_in count_in answer_in call_line rest
