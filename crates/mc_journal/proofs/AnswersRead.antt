-- Answers are read as they are written, and nothing else is read.
use Rattle.std.proofs.Common.{◌≡◌, ℕ, Bool, true, false, cond, List, [], ◌∷◌, ◌++◌, length, Option, Some, None, bytes_eq, refl, sym, ap, ap₂, ◌∙◌, arith}
use Rattle.std.specs.Prelude.{decimal, codes, nat_lt, option_map}
use Rattle.std.specs.List.{list_all}
use Rattle.std.proofs.lemmas.Slice.Eq.{bytes_eq-Decides}
use Rattle.mc_base.specs.Text.{hex_text}
use Rattle.board_model.specs.Grammar.{spaced}
use Rattle.board_model.specs.Words.{refusal_text}
use Rattle.board_model.specs.Journal.{PlainAnswer, refuses, agrees, tells, connects, gives, completes}
use Rattle.board_model.specs.Report.{answer_words}
use Rattle.mc_journal.specs.EntryText.{FitsAnswer}
use Rattle.board_model.specs.Numerals.{is_other}
use Rattle.board_model.specs.WordTables.{refusal_in}
use Rattle.mc_journal.specs.Readers.{cut_at, both, or_else, count_in, long_in, is_cut, give, cut_in, whole_in, ok_by, ok_in, answer_word, answer_after, answer_by, answer_in}
use Rattle.mc_journal.proofs.ResultsRead.{refusal-is, count-is, long-is, count-read, long-read, sized_text, cut-bytes, whole-bytes, cut_in-read, whole_in-read}
use Rattle.mc_journal.proofs.DoneRead.{done-is, done-read}
use Rattle.mc_journal.proofs.Cuts.{cut-found}
use Rattle.board_model.proofs.WordsRead.{refusal-read}
use Rattle.mc_journal.proofs.RefusalsAlone.{refusal-alone}
use Rattle.mc_journal.proofs.PartsRead.{if_gives, map_gives, both_give, or_gives, cut-is, decimal-alone, decimal-cut}

-- ---- what is read is written so

given_text : (t : Bool) (x : ℕ × List ℕ) → is_cut x ≡ t → spaced (answer_words (give x)) ≡ cond t (codes "truncated ") (codes "ok ") ++ (decimal x.0 ++ 32 ∷ hex_text x.1)
given_text true x is = ap (λ t. spaced (cond t (codes "truncated") (codes "ok") ∷ decimal x.0 ∷ hex_text x.1 ∷ [])) is
given_text false x is = ap (λ t. spaced (cond t (codes "truncated") (codes "ok") ∷ decimal x.0 ∷ hex_text x.1 ∷ [])) is

ok-is : (text : List ℕ) (a : PlainAnswer) → ok_in text ≡ Some a → spaced (answer_words a) ≡ codes "ok " ++ text
unfolding sized_text
ok-is text a e = go (cut_at 32 text) refl e
  where
    go : (o : Option (List ℕ × List ℕ)) → cut_at 32 text ≡ o → ok_by text o ≡ Some a → spaced (answer_words a) ≡ codes "ok " ++ text
    go None is e = map_gives tells (long_in text) (λ (a : PlainAnswer). spaced (answer_words a) ≡ codes "ok " ++ text) (λ n h. ap (λ xs. codes "ok " ++ xs) (long-is n text h)) a e
    go (Some y) is e = or_gives (option_map give (whole_in y.0 y.1)) (both connects (long_in y.0) (count_in y.1)) (λ (a : PlainAnswer). spaced (answer_words a) ≡ codes "ok " ++ text)
        (map_gives give (whole_in y.0 y.1) (λ (a : PlainAnswer). spaced (answer_words a) ≡ codes "ok " ++ text)
        (λ x h. let b = whole-bytes y.0 y.1 x h in given_text false x b.0 ∙ ap (λ xs. codes "ok " ++ xs) (b.1 ∙ sym (cut-is 32 text y is))))
        (both_give connects (long_in y.0) (count_in y.1) (λ (a : PlainAnswer). spaced (answer_words a) ≡ codes "ok " ++ text)
        (λ n c h k. ap₂ (λ (p q : List ℕ). codes "ok " ++ (p ++ 32 ∷ q)) (long-is n y.0 h) (count-is c y.1 k) ∙ ap (λ xs. codes "ok " ++ xs) (sym (cut-is 32 text y is)))) a e

answer_after-is : (head rest : List ℕ) (a : PlainAnswer) → answer_after head rest ≡ Some a → spaced (answer_words a) ≡ head ++ 32 ∷ rest
unfolding sized_text
answer_after-is head rest = if_gives (bytes_eq head (codes "ok")) _ _ (λ (a : PlainAnswer). spaced (answer_words a) ≡ head ++ 32 ∷ rest)
    (λ is a h. ok-is rest a h ∙ ap (λ (p : List ℕ). p ++ 32 ∷ rest) (sym ((bytes_eq-Decides head (codes "ok")).0 is)))
    (λ _. if_gives (bytes_eq head (codes "truncated")) _ _ (λ (a : PlainAnswer). spaced (answer_words a) ≡ head ++ 32 ∷ rest)
    (λ is. map_gives give (cut_in rest) (λ (a : PlainAnswer). spaced (answer_words a) ≡ head ++ 32 ∷ rest)
    (λ x h. let b = cut-bytes rest x h in given_text true x b.0 ∙ ap₂ (λ (p q : List ℕ). p ++ 32 ∷ q) (sym ((bytes_eq-Decides head (codes "truncated")).0 is)) b.1))
    (λ _. if_gives (bytes_eq head (codes "done")) _ _ (λ (a : PlainAnswer). spaced (answer_words a) ≡ head ++ 32 ∷ rest)
    (λ is a h. done-is a rest h ∙ ap (λ (p : List ℕ). p ++ 32 ∷ rest) (sym ((bytes_eq-Decides head (codes "done")).0 is)))
    (λ _ a h. absurd cc)))

answer_word-is : (word : List ℕ) (a : PlainAnswer) → answer_word word ≡ Some a → spaced (answer_words a) ≡ word
answer_word-is word = if_gives (bytes_eq word (codes "ok")) (Some agrees) (option_map refuses (refusal_in word)) (λ (a : PlainAnswer). spaced (answer_words a) ≡ word)
    (λ is a e. let same : agrees ≡ a = cc in ap (λ (s : PlainAnswer). spaced (answer_words s)) (sym same) ∙ sym ((bytes_eq-Decides word (codes "ok")).0 is))
    (λ _. map_gives refuses (refusal_in word) (λ (a : PlainAnswer). spaced (answer_words a) ≡ word) (λ w h. refusal-is word w h))

pub answer-is : (text : List ℕ) (a : PlainAnswer) → answer_in text ≡ Some a → spaced (answer_words a) ≡ text
answer-is text a e = go (cut_at 32 text) refl e
  where
    go : (o : Option (List ℕ × List ℕ)) → cut_at 32 text ≡ o → answer_by text o ≡ Some a → spaced (answer_words a) ≡ text
    go None is e = answer_word-is text a e
    go (Some x) is e = answer_after-is x.0 x.1 a e ∙ sym (cut-is 32 text x is)

-- ---- what is written is read

-- a size and bytes are read before a request and a channel, where a text could be either
ok-read : (first second : List ℕ) (o : Option (ℕ × List ℕ)) → list_all (is_other 32) first ≡ true → whole_in first second ≡ o → ok_in (first ++ 32 ∷ second) ≡ or_else (option_map give o) (both connects (long_in first) (count_in second))
ok-read first second o alone is =
    ap (ok_by (first ++ 32 ∷ second)) (cut-found 32 first second alone)
    ∙ ap (λ (w : Option (ℕ × List ℕ)). or_else (option_map give w) (both connects (long_in first) (count_in second))) is

-- an answer's text is read, as that answer or as another one with this text
pub answer-read : (a : PlainAnswer) → FitsAnswer a → (b : PlainAnswer) × (answer_in (spaced (answer_words a)) ≡ Some b)
answer-read (refuses word) fits =
    let r = refusal-alone word in (
      refuses word,
      ap (answer_by (refusal_text word)) r.alone
          ∙ ap (λ t. cond t (Some agrees) (option_map refuses (refusal_in (refusal_text word)))) r.not_ok
          ∙ ap (option_map refuses) (refusal-read word),
    )
answer-read agrees fits = (agrees, refl)
answer-read (tells n) fits = (tells n, ap (ok_by (decimal n)) (decimal-cut n fits) ∙ ap (option_map tells) (long-read n fits))
answer-read (connects request channel) fits = go (whole_in (decimal request) (decimal channel)) refl
  where
    go : (o : Option (ℕ × List ℕ)) → whole_in (decimal request) (decimal channel) ≡ o → (b : PlainAnswer) × (ok_in (decimal request ++ 32 ∷ decimal channel) ≡ Some b)
    go None is = (connects request channel, ok-read (decimal request) (decimal channel) None (decimal-alone request fits.0) is ∙ ap₂ (both connects) (long-read request fits.0) (count-read channel fits.1))
    go (Some x) is = (give x, ok-read (decimal request) (decimal channel) (Some x) (decimal-alone request fits.0) is)
answer-read (gives size bytes) fits = (gives size bytes, go (nat_lt (length bytes) size) refl)
  where
    go : (t : Bool) → nat_lt (length bytes) size ≡ t → answer_in (spaced (cond t (codes "truncated") (codes "ok") ∷ decimal size ∷ hex_text bytes ∷ [])) ≡ Some (gives size bytes)
    go true is = ap (option_map give) (cut_in-read size bytes fits.0 fits.1 is)
    go false is = ok-read (decimal size) (hex_text bytes) (Some (size, bytes)) (decimal-alone size (omega (arith, fits.0))) (whole_in-read size bytes fits.0 fits.1 is)
answer-read (completes place result) fits = done-read result fits.1 place fits.0
