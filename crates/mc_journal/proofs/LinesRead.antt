-- Lines are read as they are written, and nothing else is read.
use Rattle.std.proofs.Common.{◌≡◌, ℕ, ◌^◌, ◌<◌, Bool, true, false, cond, List, ◌∷◌, ◌++◌, Option, Some, None, bytes_eq, refl, sym, ap, ap₂, ◌∙◌, arith}
use Rattle.std.specs.Prelude.{decimal, codes, option_map}
use Rattle.std.specs.List.{list_all}
use Rattle.std.proofs.lemmas.Slice.Eq.{bytes_eq-Decides}
use Rattle.mc_base.specs.declared.fate.Fate.{Fate}
use Rattle.mc_base.specs.Text.{hex_text}
use Rattle.board_model.specs.Grammar.{spaced}
use Rattle.board_model.specs.Words.{refusal_text, fate_text}
use Rattle.board_model.specs.Journal.{Taken, taken, PlainAnswer, refuses, agrees, tells, connects, gives, completes, Line, idle_line, again_line, spin_line, turn_line, back_line, put_line, see_line, take_line, wait_line, call_line}
use Rattle.board_model.specs.Report.{answer_words, line_words}
use Rattle.board_model.proofs.WordDecimals.{decimal-is, decimal-read}
use Rattle.mc_journal.specs.declared.forms.Form.{Form}
use Rattle.mc_journal.specs.declared.forms.Form.TheVariants as form
use Rattle.mc_journal.specs.EntryText.{AreBytes, IsEntryLine}
use Rattle.board_model.specs.WordTables.{fates, refusal_in, fate_in}
use Rattle.board_model.specs.Numerals.{is_other}
use Rattle.mc_journal.specs.Readers.{cut_at, peer_in, count_in, long_in, bytes_in, answer_in, taken_in, takes, rest_in}
use Rattle.mc_journal.specs.LineForms.{form_text, forms, form_in, by_form, line_by, line_in}
use Rattle.board_model.proofs.WordsRead.{found-is, refusal-read, fate-read}
use Rattle.mc_journal.proofs.BytesRead.{bytes-are, bytes-read, bytes-alone}
use Rattle.mc_journal.proofs.PartsRead.{map_gives, pair_gives, cut-is, decimal-alone, pair_read}
use Rattle.mc_journal.proofs.ResultsRead.{refusal-is, count-is, long-is, count-read, long-read}
use Rattle.mc_journal.proofs.AnswersRead.{answer-is, answer-read}

peer-is : (n : ℕ) (word : List ℕ) → peer_in word ≡ Some n → decimal n ≡ word
peer-is n word e = decimal-is 255 n word (omega arith) e

peer-read : (n : ℕ) → n < 2 ^ 8 → peer_in (decimal n) ≡ Some n
peer-read n small = decimal-read 255 n (omega (arith, small)) (omega arith)

peer-alone : (n : ℕ) → n < 2 ^ 8 → list_all (is_other 32) (decimal n) ≡ true
peer-alone n small = decimal-alone n (omega (arith, small))

-- a call's words are those of its answer behind its number
pub call_spaced : (k : ℕ) (a : PlainAnswer) → spaced (line_words (call_line k a)) ≡ codes "call " ++ (decimal k ++ 32 ∷ spaced (answer_words a))
call_spaced k (refuses word) = refl
call_spaced k agrees = refl
call_spaced k (tells n) = refl
call_spaced k (connects request channel) = refl
call_spaced k (gives size bytes) = refl
call_spaced k (completes None result) = refl
call_spaced k (completes (Some place) result) = refl

-- ---- what is read is written so

joins : (front : List ℕ) {a b c d : List ℕ} → a ≡ c → b ≡ d → front ++ (a ++ 32 ∷ b) ≡ front ++ (c ++ 32 ∷ d)
joins front h k = ap₂ (λ (p q : List ℕ). front ++ (p ++ 32 ∷ q)) h k

taken-is : (text : List ℕ) (t : Taken) → taken_in text ≡ Some t → hex_text t.frame ++ 32 ∷ fate_text t.fate ≡ text
taken-is text t e = pair_gives bytes_in fate_in taken (λ s x. hex_text s.frame ++ 32 ∷ fate_text s.fate ≡ x) (λ u v bs f h k. ap₂ (λ (p q : List ℕ). p ++ 32 ∷ q) (bytes-are u bs h) (found-is fate_text fates v f k)) text t e

rest-is : (f : Form) (rest : List ℕ) (l : Line) → rest_in f rest ≡ Some l → spaced (line_words l) ≡ form_text f ++ 32 ∷ rest
rest-is form.Idle rest l e = map_gives idle_line (long_in rest) (λ (l : Line). spaced (line_words l) ≡ codes "idle " ++ rest) (λ n h. ap (λ xs. codes "idle " ++ xs) (long-is n rest h)) l e
rest-is form.Again rest l e = map_gives again_line (refusal_in rest) (λ (l : Line). spaced (line_words l) ≡ codes "again " ++ rest) (λ w h. ap (λ xs. codes "again " ++ xs) (refusal-is rest w h)) l e
rest-is form.Spin rest l e = pair_gives long_in refusal_in spin_line (λ l x. spaced (line_words l) ≡ codes "spin " ++ x) (λ u v n w h k. joins (codes "spin ") (long-is n u h) (refusal-is v w k)) rest l e
rest-is form.Turn rest l e = absurd cc
rest-is form.Back rest l e = pair_gives peer_in count_in back_line (λ l x. spaced (line_words l) ≡ codes "back " ++ x) (λ u v p n h k. joins (codes "back ") (peer-is p u h) (count-is n v k)) rest l e
rest-is form.Put rest l e = pair_gives peer_in bytes_in put_line (λ l x. spaced (line_words l) ≡ codes "put " ++ x) (λ u v p bs h k. joins (codes "put ") (peer-is p u h) (bytes-are v bs k)) rest l e
rest-is form.See rest l e = pair_gives peer_in count_in see_line (λ l x. spaced (line_words l) ≡ codes "see " ++ x) (λ u v p n h k. joins (codes "see ") (peer-is p u h) (count-is n v k)) rest l e
rest-is form.Take rest l e = pair_gives peer_in taken_in takes (λ l x. spaced (line_words l) ≡ codes "take " ++ x) (λ u v p t h k. joins (codes "take ") (peer-is p u h) (taken-is v t k)) rest l e
rest-is form.Wait rest l e = map_gives wait_line (count_in rest) (λ (l : Line). spaced (line_words l) ≡ codes "wait " ++ rest) (λ n h. ap (λ xs. codes "wait " ++ xs) (count-is n rest h)) l e
rest-is form.Call rest l e = pair_gives count_in answer_in call_line (λ l x. spaced (line_words l) ≡ codes "call " ++ x) (λ u v n a h k. call_spaced n a ∙ joins (codes "call ") (count-is n u h) (answer-is v a k)) rest l e

pub line-is : (text : List ℕ) (l : Line) → line_in text ≡ Some l → spaced (line_words l) ≡ text
line-is text l e = go (cut_at 32 text) refl e
  where
    turn : (t : Bool) → bytes_eq text (codes "turn") ≡ t → cond t (Some turn_line) None ≡ Some l → spaced (line_words l) ≡ text
    turn true is e =
        let same : turn_line ≡ l = cc in
        ap (λ k. spaced (line_words k)) (sym same) ∙ sym ((bytes_eq-Decides text (codes "turn")).0 is)
    turn false is e = absurd cc

    by : (head rest : List ℕ) (o : Option Form) → form_in head ≡ o → by_form rest o ≡ Some l → spaced (line_words l) ≡ head ++ 32 ∷ rest
    by head rest None is e = absurd cc
    by head rest (Some f) is e = rest-is f rest l e ∙ ap (λ xs. xs ++ 32 ∷ rest) (found-is form_text forms head f is)

    go : (o : Option (List ℕ × List ℕ)) → cut_at 32 text ≡ o → line_by text o ≡ Some l → spaced (line_words l) ≡ text
    go None is e = turn (bytes_eq text (codes "turn")) refl e
    go (Some x) is e = by x.0 x.1 (form_in x.0) refl e ∙ sym (cut-is 32 text x is)

-- ---- what is written is read

taken-read : (frame : List ℕ) (f : Fate) → AreBytes frame → taken_in (hex_text frame ++ 32 ∷ fate_text f) ≡ Some (taken frame f)
taken-read frame f are = pair_read bytes_in fate_in taken (hex_text frame) (fate_text f) frame f (bytes-alone frame are) (bytes-read frame are) (fate-read f)

-- a line's text is read, as that line or as another one with this text
pub line-read : (l : Line) → IsEntryLine l → (k : Line) × (line_in (spaced (line_words l)) ≡ Some k)
line-read (idle_line n) fits = (idle_line n, ap (option_map idle_line) (long-read n fits))
line-read (again_line word) fits = (again_line word, ap (option_map again_line) (refusal-read word))
line-read (spin_line n word) fits = (spin_line n word, pair_read long_in refusal_in spin_line (decimal n) (refusal_text word) n word (decimal-alone n fits) (long-read n fits) (refusal-read word))
line-read turn_line fits = (turn_line, refl)
line-read (back_line peer n) fits = (back_line peer n, pair_read peer_in count_in back_line (decimal peer) (decimal n) peer n (peer-alone peer fits.0) (peer-read peer fits.0) (count-read n fits.1))
line-read (put_line peer frame) fits = (put_line peer frame, pair_read peer_in bytes_in put_line (decimal peer) (hex_text frame) peer frame (peer-alone peer fits.0) (peer-read peer fits.0) (bytes-read frame fits.1))
line-read (see_line peer n) fits = (see_line peer n, pair_read peer_in count_in see_line (decimal peer) (decimal n) peer n (peer-alone peer fits.0) (peer-read peer fits.0) (count-read n fits.1))
line-read (take_line peer frame fate) fits = (take_line peer frame fate, pair_read peer_in taken_in takes (decimal peer) (hex_text frame ++ 32 ∷ fate_text fate) peer (taken frame fate) (peer-alone peer fits.0) (peer-read peer fits.0) (taken-read frame fate fits.1))
line-read (wait_line number) fits = (wait_line number, ap (option_map wait_line) (count-read number fits))
line-read (call_line number answer) fits =
    let read = answer-read answer fits.1 in (
      call_line number read.0,
      ap line_in (call_spaced number answer)
          ∙ pair_read count_in answer_in call_line (decimal number) (spaced (answer_words answer)) number read.0 (decimal-alone number (omega (arith, fits.0))) (count-read number fits.0) read.1,
    )
