-- What follows `done` is read as it is written, and nothing else is read.
use Rattle.std.proofs.Common.{◌≡◌, ℕ, ◌^◌, ◌<◌, ◌≤◌, Bool, true, false, cond, List, ◌∷◌, ◌++◌, Option, Some, None, bytes_eq, refl, sym, ap, ◌∙◌, arith}
use Rattle.std.specs.Prelude.{decimal, codes, nat_le, option_map}
use Rattle.std.proofs.lemmas.Bool.Decides.{nat_tests}
use Rattle.mc_base.specs.Text.{hex_text}
use Rattle.board_model.specs.Grammar.{spaced}
use Rattle.board_model.specs.Journal.{PlainResult, PlainAnswer, completes}
use Rattle.board_model.specs.Report.{answer_words, result_words}
use Rattle.board_model.specs.FileWords.{number_of}
use Rattle.board_model.specs.Numerals.{at_most}
use Rattle.board_model.proofs.WordDecimals.{decimal-is, decimal-read}
use Rattle.mc_journal.specs.EntryText.{FitsPlace, FitsResult}
use Rattle.mc_journal.specs.Readers.{cut_at, both, or_else, count_in, bytes_in, sized, is_whole, bring, whole_in, result_word, result_after, result_by, place_in, placed_by, done_after, done_by, done_in, answer_in}
use Rattle.mc_journal.proofs.AnswerText.{spaced-done, spaced-placed}
use Rattle.mc_journal.proofs.Cuts.{cut-found, cut-not}
use Rattle.mc_journal.proofs.BytesRead.{bytes-are, bytes-alone}
use Rattle.mc_journal.proofs.PartsRead.{map_gives, both_give, or_gives, only_gives, cut-is, decimal-alone, decimal-no_word}
use Rattle.mc_journal.proofs.ResultsRead.{result_word-is, result_after-is, brought-is, result-read}

place-is : (n : ℕ) (word : List ℕ) → place_in word ≡ Some n → decimal n ≡ word
place-is n word e = decimal-is 255 n word (omega arith) e

most_is : (o : Option ℕ) (n : ℕ) → at_most 255 o ≡ Some n → n < 2 ^ 64
most_is None n e = absurd cc
most_is (Some m) n e = go (nat_le m 255) refl e
  where
    go : (b : Bool) → nat_le m 255 ≡ b → cond b (Some m) None ≡ Some n → n < 2 ^ 64
    go true le e =
        let same : m ≡ n = cc in
        let few : m ≤ 255 = grind (arith, nat_tests) in
        omega (arith, same, few)
    go false le e = absurd cc

place-small : (n : ℕ) (word : List ℕ) → place_in word ≡ Some n → n < 2 ^ 64
place-small n word e = most_is (number_of word) n e

-- ---- what is read is written so

module _ (a : PlainAnswer) where
  placed-is : (place : ℕ) (head rest : List ℕ) (o : Option (List ℕ × List ℕ)) → decimal place ≡ head → cut_at 32 rest ≡ o → placed_by place head rest o ≡ Some a → spaced (answer_words a) ≡ codes "done " ++ (head ++ 32 ∷ rest)
  placed-is place head rest None is cut e =
      or_gives (option_map (completes None) (option_map bring (whole_in head rest))) (option_map (completes (Some place)) (result_word rest)) (λ (b : PlainAnswer). spaced (answer_words b) ≡ codes "done " ++ (head ++ 32 ∷ rest))
      (map_gives (completes None) (option_map bring (whole_in head rest)) (λ (b : PlainAnswer). spaced (answer_words b) ≡ codes "done " ++ (head ++ 32 ∷ rest))
      (λ r h. spaced-done r ∙ ap (λ (t : List ℕ). codes "done " ++ t) (map_gives bring (whole_in head rest) (λ (s : PlainResult). spaced (result_words s) ≡ head ++ 32 ∷ rest) (λ x k. brought-is head rest x k) r h)))
      (map_gives (completes (Some place)) (result_word rest) (λ (b : PlainAnswer). spaced (answer_words b) ≡ codes "done " ++ (head ++ 32 ∷ rest))
      (λ r h. spaced-placed place r ∙ ap (λ (t : List ℕ). codes "done " ++ (decimal place ++ 32 ∷ t)) (result_word-is rest r h) ∙ ap (λ (t : List ℕ). codes "done " ++ (t ++ 32 ∷ rest)) is))
      a e
  placed-is place head rest (Some x) is cut e =
      map_gives (completes (Some place)) (result_after x.0 x.1) (λ (b : PlainAnswer). spaced (answer_words b) ≡ codes "done " ++ (head ++ 32 ∷ rest))
      (λ r h.
      spaced-placed place r
      ∙ ap (λ (t : List ℕ). codes "done " ++ (decimal place ++ 32 ∷ t)) (result_after-is x.0 x.1 r h ∙ sym (cut-is 32 rest x cut))
      ∙ ap (λ (t : List ℕ). codes "done " ++ (t ++ 32 ∷ rest)) is) a e

  after-is : (head rest : List ℕ) (o : Option ℕ) → place_in head ≡ o → done_after head rest o ≡ Some a → spaced (answer_words a) ≡ codes "done " ++ (head ++ 32 ∷ rest)
  after-is head rest None is e =
      map_gives (completes None) (result_after head rest) (λ (b : PlainAnswer). spaced (answer_words b) ≡ codes "done " ++ (head ++ 32 ∷ rest))
      (λ r h. spaced-done r ∙ ap (λ (t : List ℕ). codes "done " ++ t) (result_after-is head rest r h)) a e
  after-is head rest (Some place) is e = placed-is place head rest (cut_at 32 rest) (place-is place head is) refl e

  by-is : (text : List ℕ) (o : Option (List ℕ × List ℕ)) → cut_at 32 text ≡ o → done_by text o ≡ Some a → spaced (answer_words a) ≡ codes "done " ++ text
  by-is text None is e =
      map_gives (completes None) (result_word text) (λ (b : PlainAnswer). spaced (answer_words b) ≡ codes "done " ++ text)
      (λ r h. spaced-done r ∙ ap (λ (t : List ℕ). codes "done " ++ t) (result_word-is text r h)) a e
  by-is text (Some x) is e = after-is x.0 x.1 (place_in x.0) refl e ∙ ap (λ (t : List ℕ). codes "done " ++ t) (sym (cut-is 32 text x is))

  pub done-is : (text : List ℕ) → done_in text ≡ Some a → spaced (answer_words a) ≡ codes "done " ++ text
  done-is text e = by-is text (cut_at 32 text) refl e

-- ---- what is written is read

abbrev IsRead : Option PlainAnswer → Type 0
IsRead o = (b : PlainAnswer) × (o ≡ Some b)

-- a result behind a number that is no size is a size and bytes
whole_result : (place : ℕ) (head rest : List ℕ) → place_in head ≡ Some place → result_after head rest ≡ option_map bring (whole_in head rest)
whole_result place head rest is =
    let same = place-is place head is in
    let rejected : bytes_eq head (codes "rejected") ≡ false = ap (λ w. bytes_eq w (codes "rejected")) (sym same) ∙ decimal-no_word (codes "rejected") place (place-small place head is) refl in
    let truncated : bytes_eq head (codes "truncated") ≡ false = ap (λ w. bytes_eq w (codes "truncated")) (sym same) ∙ decimal-no_word (codes "truncated") place (place-small place head is) refl in
    rw (rejected, truncated) refl

-- whose bytes are one word
whole_alone : (head rest : List ℕ) (r : PlainResult) → option_map bring (whole_in head rest) ≡ Some r → FitsResult r → cut_at 32 rest ≡ None
whole_alone head rest =
    map_gives bring (whole_in head rest) (λ r. FitsResult r → cut_at 32 rest ≡ None)
    (λ x e fits.
    let o = only_gives is_whole (both sized (count_in head) (bytes_in rest)) x e in
    both_give sized (count_in head) (bytes_in rest) (λ y. FitsResult (bring y) → cut_at 32 rest ≡ None) (λ n bs h k fit. ap (cut_at 32) (sym (bytes-are rest bs k)) ∙ cut-not 32 (hex_text bs) (bytes-alone bs fit.1)) x o.1 fits)

module _ (r : PlainResult) (fits : FitsResult r) where
  -- a result without a place
  placed_alone : (place : ℕ) (head rest : List ℕ) → place_in head ≡ Some place → result_after head rest ≡ Some r → IsRead (placed_by place head rest (cut_at 32 rest))
  placed_alone place head rest is e =
      let whole : option_map bring (whole_in head rest) ≡ Some r = sym (whole_result place head rest is) ∙ e in (
        completes None r,
        ap (placed_by place head rest) (whole_alone head rest r whole fits)
            ∙ ap (λ (o : Option PlainResult). or_else (option_map (completes None) o) (option_map (completes (Some place)) (result_word rest))) whole,
      )

  after_alone : (head rest : List ℕ) (o : Option ℕ) → place_in head ≡ o → result_after head rest ≡ Some r → IsRead (done_after head rest o)
  after_alone head rest None is e = (completes None r, ap (option_map (completes None)) e)
  after_alone head rest (Some place) is e = placed_alone place head rest is e

  by_alone : (text : List ℕ) (o : Option (List ℕ × List ℕ)) → result_by text o ≡ Some r → IsRead (done_by text o)
  by_alone text None e = (completes None r, ap (option_map (completes None)) e)
  by_alone text (Some x) e = after_alone x.0 x.1 (place_in x.0) refl e

  -- a result behind a place
  by_place : (place : ℕ) (head rest : List ℕ) (o : Option (List ℕ × List ℕ)) → result_by rest o ≡ Some r → IsRead (placed_by place head rest o)
  by_place place head rest None e = go (option_map (completes None) (option_map bring (whole_in head rest)))
    where
      go : (o : Option PlainAnswer) → IsRead (or_else o (option_map (completes (Some place)) (result_word rest)))
      go None = (completes (Some place) r, ap (option_map (completes (Some place))) e)
      go (Some a) = (a, refl)
  by_place place head rest (Some x) e = (completes (Some place) r, ap (option_map (completes (Some place))) e)

  is_read : (o p : Option PlainAnswer) → o ≡ p → IsRead p → IsRead o
  is_read o p same read = (read.0, same ∙ read.1)

  pub done-read : (place : Option ℕ) → FitsPlace place → IsRead (answer_in (spaced (answer_words (completes place r))))
  done-read None fit =
      let text = spaced (result_words r) in
      is_read (answer_in (spaced (answer_words (completes None r)))) (done_by text (cut_at 32 text)) (ap answer_in (spaced-done r)) (by_alone text (cut_at 32 text) (result-read r fits))
  done-read (Some place) fit =
      let text = spaced (result_words r) in
      is_read (answer_in (spaced (answer_words (completes (Some place) r)))) (placed_by place (decimal place) text (cut_at 32 text))
      (ap answer_in (spaced-placed place r)
      ∙ ap (done_by (decimal place ++ 32 ∷ text)) (cut-found 32 (decimal place) text (decimal-alone place (omega (arith, fit))))
      ∙ ap (done_after (decimal place) text) (decimal-read 255 place (omega (arith, fit)) (omega arith)))
      (by_place place (decimal place) text (cut_at 32 text) (result-read r fits))
