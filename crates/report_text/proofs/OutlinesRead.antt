-- A line's outline, and what it says of a lane, are read from its text, whichever of the lines with this text is read.
use Rattle.std.proofs.Common.{◌≡◌, ℕ, ◌^◌, ◌<◌, Bool, true, false, cond, List, [], ◌∷◌, ◌++◌, length, Option, Some, refl, sym, ap, ◌∙◌, arith}
use Rattle.std.specs.Prelude.{decimal, codes, nat_lt, option_map, ◌||◌, ◌==◌, ◌&&◌}
use Rattle.std.specs.List.{list_all}
use Rattle.board_model.specs.Numerals.{is_other}
use Rattle.mc_base.specs.Text.{hex_text}
use Rattle.mc_base.specs.declared.refusal.Refusal.{Refusal}
use Rattle.mc_base.specs.declared.refusal.Refusal.TheVariants as refusal
use Rattle.board_model.specs.Grammar.{spaced}
use Rattle.board_model.specs.Words.{refusal_text, fate_text}
use Rattle.board_model.specs.Journal.{PlainAnswer, refuses, agrees, tells, connects, gives, completes, Line, taken, idle_line, again_line, spin_line, turn_line, back_line, put_line, see_line, take_line, wait_line, call_line}
use Rattle.board_model.specs.Report.{answer_words, line_words}
use Rattle.board_model.proofs.WordDecimals.{decimal-read}
use Rattle.board_model.proofs.WordsRead.{refusal-read, fate-read}
use Rattle.board_model.specs.WordTables.{refusal_in, fate_in}
use Rattle.mc_journal.specs.EntryText.{FitsAnswer, IsEntryLine}
use Rattle.mc_journal.specs.Readers.{peer_in, count_in, long_in, bytes_in, taken_in, takes, answer_in}
use Rattle.mc_journal.proofs.BytesRead.{bytes-read, bytes-alone}
use Rattle.mc_journal.proofs.PartsRead.{decimal-alone, pair_read}
use Rattle.mc_journal.proofs.AnswersRead.{answer-is, answer-read}
use Rattle.mc_journal.proofs.ResultsRead.{count-read, long-read}
use Rattle.mc_journal.proofs.LinesRead.{call_spaced}
use Rattle.report_text.specs.declared.outline.Outline.TheVariants as outline
use Rattle.report_text.specs.Outlines.{is_refusal, outline_of, outline_in}
use Rattle.report_text.specs.CountedLines.{counted_line}
use Rattle.report_text.specs.LaneLines.{lane_of}
use Rattle.mc_journal.specs.LineForms.{line_in}
use Rattle.report_text.proofs.KindsTold.{number-same}

-- ---- a refusal and another answer have no text in common

abbrev starts_with : List ℕ → List ℕ → Bool
starts_with [] text = true
starts_with (b ∷ bs) [] = false
starts_with (b ∷ bs) (c ∷ cs) = (b == c) && starts_with bs cs

is_agreed : List ℕ → Bool
is_agreed text = starts_with (codes "ok") text || (starts_with (codes "tr") text || starts_with (codes "do") text)

refused-text : (w : Refusal) → is_agreed (refusal_text w) ≡ false
unfolding is_agreed
refused-text refusal.NodeInvalid = refl
refused-text refusal.ExistsAlready = refl
refused-text refusal.EndpLimit = refl
refused-text refusal.AddressSpent = refl
refused-text refusal.EndpInvalid = refl
refused-text refusal.PeerInvalid = refl
refused-text refusal.OnChannel = refl
refused-text refusal.ChanConnected = refl
refused-text refusal.EndpBusy = refl
refused-text refusal.ChanLimit = refl
refused-text refusal.RequestLimit = refl
refused-text refusal.NotConnected = refl
refused-text refusal.ChanDirection = refl
refused-text refusal.ChanType = refl
refused-text refusal.ChanClosed = refl
refused-text refusal.AlreadyOpen = refl
refused-text refusal.NotOpen = refl
refused-text refusal.MsgSize = refl
refused-text refusal.PktSize = refl
refused-text refusal.NoBuffer = refl
refused-text refusal.Empty = refl
refused-text refusal.SclSize = refl
refused-text refusal.BufInvalid = refl
refused-text refusal.RequestInvalid = refl
refused-text refusal.Pending = refl
refused-text refusal.TooLate = refl
refused-text refusal.Timeout = refl
refused-text refusal.LinkInvalid = refl
refused-text refusal.RawSound = refl

not-of : Bool → Bool
not-of true = false
not-of false = true

not-same : (b c : Bool) → not-of b ≡ not-of c → b ≡ c
unfolding not-of
not-same true true e = refl
not-same true false e = absurd cc
not-same false true e = absurd cc
not-same false false e = refl

done-tells : (ws : List (List ℕ)) → is_agreed (spaced (codes "done" ∷ ws)) ≡ true
unfolding is_agreed
done-tells [] = refl
done-tells (w ∷ ws) = refl

-- whether a text that begins so is a refusal's
answer-tells : (a : PlainAnswer) → is_agreed (spaced (answer_words a)) ≡ not-of (is_refusal a)
unfolding is_agreed not-of
answer-tells (refuses word) = refused-text word
answer-tells agrees = refl
answer-tells (tells n) = refl
answer-tells (connects request channel) = refl
answer-tells (gives size bytes) = go (nat_lt (length bytes) size)
  where
    go : (t : Bool) → is_agreed (spaced (cond t (codes "truncated") (codes "ok") ∷ decimal size ∷ hex_text bytes ∷ [])) ≡ true
    go true = refl
    go false = refl
answer-tells (completes place result) = done-tells _

same-text : (a b : PlainAnswer) → spaced (answer_words a) ≡ spaced (answer_words b) → is_refusal a ≡ is_refusal b
same-text a b e = not-same (is_refusal a) (is_refusal b) (sym (answer-tells a) ∙ ap is_agreed e ∙ answer-tells b)

-- ---- each line

peer-read : (n : ℕ) → n < 2 ^ 8 → peer_in (decimal n) ≡ Some n
peer-read n small = decimal-read 255 n (omega (arith, small)) (omega arith)

peer-alone : (n : ℕ) → n < 2 ^ 8 → list_all (is_other 32) (decimal n) ≡ true
peer-alone n small = decimal-alone n (omega (arith, small))

-- what hangs on a line, and of a call's answer on its text alone
module _ {A : Type 0} (f : Line → A) (by-text : (k : ℕ) (a b : PlainAnswer) → FitsAnswer b → spaced (answer_words a) ≡ spaced (answer_words b) → f (call_line k a) ≡ f (call_line k b)) where
  said : List ℕ → Option A
  said text = option_map f (line_in text)

  said-read : (l : Line) → IsEntryLine l → said (spaced (line_words l)) ≡ Some (f l)
  unfolding said
  said-read (idle_line n) fits = ap (λ (o : Option ℕ). option_map f (option_map idle_line o)) (long-read n fits)
  said-read (again_line word) fits = ap (λ (o : Option Refusal). option_map f (option_map again_line o)) (refusal-read word)
  said-read (spin_line n word) fits = ap (option_map f) (pair_read long_in refusal_in spin_line (decimal n) (refusal_text word) n word (decimal-alone n fits) (long-read n fits) (refusal-read word))
  said-read turn_line fits = refl
  said-read (back_line peer n) fits = ap (option_map f) (pair_read peer_in count_in back_line (decimal peer) (decimal n) peer n (peer-alone peer fits.0) (peer-read peer fits.0) (count-read n fits.1))
  said-read (put_line peer frame) fits = ap (option_map f) (pair_read peer_in bytes_in put_line (decimal peer) (hex_text frame) peer frame (peer-alone peer fits.0) (peer-read peer fits.0) (bytes-read frame fits.1))
  said-read (see_line peer n) fits = ap (option_map f) (pair_read peer_in count_in see_line (decimal peer) (decimal n) peer n (peer-alone peer fits.0) (peer-read peer fits.0) (count-read n fits.1))
  said-read (take_line peer frame fate) fits =
      ap (option_map f) (pair_read peer_in taken_in takes (decimal peer) (hex_text frame ++ 32 ∷ fate_text fate) peer (taken frame fate) (peer-alone peer fits.0) (peer-read peer fits.0)
      (pair_read bytes_in fate_in taken (hex_text frame) (fate_text fate) frame fate (bytes-alone frame fits.1) (bytes-read frame fits.1) (fate-read fate)))
  said-read (wait_line number) fits = ap (λ (o : Option ℕ). option_map f (option_map wait_line o)) (count-read number fits)
  said-read (call_line number a) fits =
      let read = answer-read a fits.1 in
      ap said (call_spaced number a)
      ∙ ap (option_map f) (pair_read count_in answer_in call_line (decimal number) (spaced (answer_words a)) number read.0 (decimal-alone number (omega (arith, fits.0))) (count-read number fits.0) read.1)
      ∙ ap Some (by-text number read.0 a fits.1 (answer-is (spaced (answer_words a)) read.0 read.1))

  -- a line's text, however it was found
  pub said-is : (l : Line) (text : List ℕ) → IsEntryLine l → spaced (line_words l) ≡ text → Some (f l) ≡ option_map f (line_in text)
  unfolding said
  said-is l text fits e = sym (ap said (sym e) ∙ said-read l fits)

pub outline-is : (l : Line) (text : List ℕ) → IsEntryLine l → spaced (line_words l) ≡ text → Some (outline_of l) ≡ outline_in text
outline-is = said-is outline_of (λ k a b fits e. ap (outline.Call k) (same-text a b e))

pub lane-is : (l : Line) (text : List ℕ) → IsEntryLine l → spaced (line_words l) ≡ text → Some (lane_of l) ≡ option_map lane_of (line_in text)
lane-is = said-is lane_of (λ k a b fits e. refl)

pub counted-is : (l : Line) (text : List ℕ) → IsEntryLine l → spaced (line_words l) ≡ text → Some (counted_line l) ≡ option_map counted_line (line_in text)
counted-is = said-is counted_line (λ k a b fits e. ap (λ n. call_line k (tells n)) (number-same a b fits e))
