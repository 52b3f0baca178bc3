-- Lines with one newline, their last byte: those of words that have none, and the lines of journals.
use Rattle.std.proofs.Common.{◌≡◌, ℕ, Bool, true, false, cond, List, [], ◌∷◌, Some, None, bytes_eq, refl, sym, ap, ◌∙◌, inl}
use Rattle.std.specs.Prelude.{codes, decimal, find, nat_lt, length}
use Rattle.std.specs.List.{AllByRecursion, list_all}
use Rattle.std.proofs.lemmas.Bool.{and_parts}
use Rattle.mc_base.specs.Text.{hex_text}
use Rattle.mc_base.specs.declared.channel.Reason.{Reason}
use Rattle.mc_base.specs.declared.channel.Reason.TheVariants.{NoEndpoint, Connected, Busy}
use Rattle.mc_base.specs.declared.refusal.Refusal.{Refusal}
use Rattle.mc_base.specs.declared.fate.Fate.{Fate}
use Rattle.board_model.specs.Grammar.{spaced, line_of}
use Rattle.board_model.specs.Journal.{PlainResult, found_at, was_accepted, was_rejected, brought, ended_by, PlainAnswer, refuses, agrees, tells, connects, gives, completes, Line, idle_line, again_line, spin_line, turn_line, back_line, put_line, see_line, take_line, wait_line, call_line}
use Rattle.board_model.specs.Numerals.{is_other}
use Rattle.board_model.specs.Report.{result_words, answer_words, line_words, line_text}
use Rattle.board_model.specs.Words.{refusal_text, fate_text, reason_text}
use Rattle.board_model.specs.WordTables.{refusals, fates}
use Rattle.board_model.proofs.WordsRead.{refusal-read, fate-read}
use Rattle.mc_journal.proofs.Cuts.{cut-not}
use Rattle.report_text.proofs.TextFronts.{Ended, AreLines}
use Rattle.report_text.proofs.UnendedWords.{HasNone, HaveNone, spaced-none, decimal-none, digits-none}

pub line-ended : (ws : List (List ℕ)) → HaveNone ws → Ended (line_of ws)
line-ended ws all = (spaced ws, cut-not 10 (spaced ws) (spaced-none ws all), refl)

pub rows-are : (ls : List (List ℕ)) → AllByRecursion Ended ls → AreLines ls
rows-are [] all = tt
rows-are (l ∷ ls) all = inl (all.0, rows-are ls all.1)

-- ---- words

hex-none : (bytes : List ℕ) → HasNone (hex_text bytes)
hex-none [] = refl
hex-none (b ∷ bs) = digits-none (b ∷ bs)

-- a word of a table, where none of its words has a newline
table-none : {A : Type 0} (text : A → List ℕ) (xs : List A) (word : List ℕ) (a : A) → list_all (λ x. list_all (is_other 10) (text x)) xs ≡ true → find (λ x. bytes_eq (text x) word) xs ≡ Some a → HasNone (text a)
table-none text [] word a all found = absurd cc
table-none {A = A} text (x ∷ xs) word a all found =
    let parts = and_parts (list_all (is_other 10) (text x)) (list_all (λ (y : A). list_all (is_other 10) (text y)) xs) all in
    go (bytes_eq (text x) word) found parts.0 (λ rest. table-none text xs word a parts.1 rest)
  where
    go : (b : Bool) → cond b (Some x) (find (λ (y : A). bytes_eq (text y) word) xs) ≡ Some a → HasNone (text x) → (find (λ (y : A). bytes_eq (text y) word) xs ≡ Some a → HasNone (text a)) → HasNone (text a)
    go true is here rest = let same : x ≡ a = cc in ap (λ y. list_all (is_other 10) (text y)) (sym same) ∙ here
    go false is here rest = rest is

refusal-none : (w : Refusal) → HasNone (refusal_text w)
refusal-none w = table-none refusal_text refusals (refusal_text w) w refl (refusal-read w)

fate-none : (f : Fate) → HasNone (fate_text f)
fate-none f = table-none fate_text fates (fate_text f) f refl (fate-read f)

reason-none : (r : Reason) → HasNone (reason_text r)
reason-none NoEndpoint = refl
reason-none Connected = refl
reason-none Busy = refl

-- ---- the lines of a journal

result-none : (r : PlainResult) → HaveNone (result_words r)
result-none (found_at address) = (decimal-none address, tt)
result-none was_accepted = (refl, tt)
result-none (was_rejected reason) = (refl, (reason-none reason, tt))
result-none (brought size bytes) = go (nat_lt (length bytes) size)
  where
    go : (b : Bool) → HaveNone (cond b (codes "truncated" ∷ decimal size ∷ hex_text bytes ∷ []) (decimal size ∷ hex_text bytes ∷ []))
    go true = (refl, (decimal-none size, (hex-none bytes, tt)))
    go false = (decimal-none size, (hex-none bytes, tt))
result-none (ended_by word) = (refusal-none word, tt)

answer-none : (a : PlainAnswer) → HaveNone (answer_words a)
answer-none (refuses word) = (refusal-none word, tt)
answer-none agrees = (refl, tt)
answer-none (tells n) = (refl, (decimal-none n, tt))
answer-none (connects request channel) = (refl, (decimal-none request, (decimal-none channel, tt)))
answer-none (gives size bytes) = (head (nat_lt (length bytes) size), (decimal-none size, (hex-none bytes, tt)))
  where
    head : (b : Bool) → HasNone (cond b (codes "truncated") (codes "ok"))
    head true = refl
    head false = refl
answer-none (completes None result) = (refl, result-none result)
answer-none (completes (Some place) result) = (refl, (decimal-none place, result-none result))

words-none : (l : Line) → HaveNone (line_words l)
words-none (idle_line n) = (refl, (decimal-none n, tt))
words-none (again_line word) = (refl, (refusal-none word, tt))
words-none (spin_line n word) = (refl, (decimal-none n, (refusal-none word, tt)))
words-none turn_line = (refl, tt)
words-none (back_line peer n) = (refl, (decimal-none peer, (decimal-none n, tt)))
words-none (put_line peer frame) = (refl, (decimal-none peer, (hex-none frame, tt)))
words-none (see_line peer n) = (refl, (decimal-none peer, (decimal-none n, tt)))
words-none (take_line peer frame fate) = (refl, (decimal-none peer, (hex-none frame, (fate-none fate, tt))))
words-none (wait_line number) = (refl, (decimal-none number, tt))
words-none (call_line number answer) = (refl, (decimal-none number, answer-none answer))

pub entry-none : (l : Line) → HasNone (spaced (line_words l))
entry-none l = spaced-none (line_words l) (words-none l)

pub entry-ended : (l : Line) → Ended (line_text l)
entry-ended l = line-ended (line_words l) (words-none l)
