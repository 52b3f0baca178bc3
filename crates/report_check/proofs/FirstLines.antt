-- The first line of a text, compared with a line, and read as an entry.
use Rattle.std.proofs.Common.{◌≡◌, ℕ, ◌-◌, Bool, true, false, cond, List, [], ◌∷◌, ◌++◌, length, take, Option, Some, None, refl, sym, ap, ◌∙◌, arith, length-append}
use Rattle.std.specs.Prelude.{◌==◌, bytes_eq, option_map}
use Rattle.std.proofs.lemmas.List.{append_cancel_right, take_at}
use Rattle.std.proofs.lemmas.Slice.Eq.{bytes_eq-Decides}
use Rattle.board_model.specs.Grammar.{spaced}
use Rattle.board_model.specs.Journal.{Line}
use Rattle.board_model.specs.Report.{line_text, line_words}
use Rattle.mc_journal.specs.declared.entry.Entry.{Entry}
use Rattle.mc_journal.specs.Entry.{line_of_entry}
use Rattle.mc_journal.specs.EntryText.{IsEntryLine}
use Rattle.mc_journal.specs.LineForms.{line_in}
use Rattle.mc_journal.specs.Readers.{cut_at}
use Rattle.mc_journal.specs.Readers.{onto_first as onto_cut}
use Rattle.mc_journal.specs.Spelled.{spelled_line}
use Rattle.mc_journal.proofs.LinesRead.{line-is}
use Rattle.mc_journal.proofs.PartsRead.{cut-is}
use Rattle.report_text.specs.JournalRead.{line_before}
use Rattle.report_text.specs.LaneLines.{lane_of}
use Rattle.report_text.specs.SpelledTexts.{IsFirstLine}
use Rattle.report_text.specs.TextLines.{lines_in, first_other, moved}
use Rattle.report_text.proofs.OutlinesRead.{lane-is}
use Rattle.report_text.proofs.TextCuts.{lines-cut, lines-uncut, uncut-behind}
use Rattle.report_check.specs.Meeting.{IsOtherLine, IsOtherText}

pub differ : (f g : List ℕ) → (f ≡ g → ⊥) → bytes_eq f g ≡ false
differ f g apart = go (bytes_eq f g) refl
  where
    go : (b : Bool) → bytes_eq f g ≡ b → b ≡ false
    go true e = absurd (apart ((bytes_eq-Decides f g).0 e))
    go false e = refl

ended-cut : (front : List ℕ) → cut_at 10 (front ++ 10 ∷ []) ≡ None → ⊥
ended-cut [] e = absurd cc
ended-cut (b ∷ bs) e = go (b == 10) e (ended-cut bs)
  where
    go : (t : Bool) → cond t (Some ([], bs ++ 10 ∷ [])) (onto_cut b (cut_at 10 (bs ++ 10 ∷ []))) ≡ None → (cut_at 10 (bs ++ 10 ∷ []) ≡ None → ⊥) → ⊥
    go true e rest = absurd cc
    go false e rest = rest (uncut-behind b (cut_at 10 (bs ++ 10 ∷ [])) e)

other-first : (line l : List ℕ) (ls : List (List ℕ)) → (l ≡ line ++ 10 ∷ [] → ⊥) → IsOtherLine line (l ∷ ls)
other-first line l ls apart more = ap (λ t. cond t (moved 1 (first_other ls more)) (Some 0)) (differ l (line ++ 10 ∷ []) apart)

pub other-uncut : (line text : List ℕ) → cut_at 10 text ≡ None → IsOtherLine line (lines_in text)
other-uncut line [] e more = refl
other-uncut line (b ∷ bs) e more =
    ap (λ ls. first_other ls ((line ++ 10 ∷ []) ∷ more)) (lines-uncut b bs e)
    ∙ other-first line (b ∷ bs) [] (λ same. ended-cut line (ap (cut_at 10) (sym same) ∙ e)) more

pub other-cut : (line text : List ℕ) (x : List ℕ × List ℕ) → cut_at 10 text ≡ Some x → (x.0 ≡ line → ⊥) → IsOtherLine line (lines_in text)
other-cut line text x e apart more =
    ap (λ ls. first_other ls ((line ++ 10 ∷ []) ∷ more)) (lines-cut text x e)
    ∙ other-first line (x.0 ++ 10 ∷ []) (lines_in x.1) (λ same. apart (append_cancel_right x.0 line (10 ∷ []) same)) more

-- ---- a text whose first line was read

-- a text that begins with no line of a journal begins with no entry's
pub other-untold : (l : Line) (text : List ℕ) → IsEntryLine l → line_before (cut_at 10 text) ≡ None → IsOtherText (line_text l) (lines_in text)
other-untold l text fits none = go (cut_at 10 text) refl none
  where
    untold : (front : List ℕ) → line_in front ≡ None → front ≡ spaced (line_words l) → ⊥
    untold front e same =
        let says : Some (lane_of l) ≡ None = lane-is l front fits (sym same) ∙ ap (option_map lane_of) e in
        absurd cc

    go : (o : Option (List ℕ × List ℕ)) → cut_at 10 text ≡ o → line_before o ≡ None → IsOtherText (line_text l) (lines_in text)
    go None is e = other-uncut (spaced (line_words l)) text is
    go (Some x) is e = other-cut (spaced (line_words l)) text x is (untold x.0 e)

module _ (text : List ℕ) (e : Entry) (behind : List ℕ) (first : IsFirstLine text e behind) where
  -- it is the line of the entry
  pub first-line : lines_in text ≡ line_text (spelled_line (line_of_entry e)) ∷ lines_in behind
  first-line =
      lines-cut text (first.front, behind) first.cut
      ∙ ap (λ (w : List ℕ). (w ++ 10 ∷ []) ∷ lines_in behind) (sym (line-is first.front (spelled_line (line_of_entry e)) first.line))

  -- it stands before what is behind it
  pub first-front : take (length text - length behind - 1) text ≡ first.front
  first-front =
      let whole : text ≡ first.front ++ 10 ∷ behind = cut-is 10 text (first.front, behind) first.cut in
      let count : length text ≡ length (first.front ++ 10 ∷ behind) = ap (λ (t : List ℕ). length t) whole in
      let size : length text - length behind - 1 ≡ length first.front = omega (arith, count, length-append first.front (10 ∷ behind)) in
      ap (λ n. take n text) size ∙ (ap (take (length first.front)) whole ∙ take_at first.front (10 ∷ behind) (length first.front) refl)

-- what stands behind the first line is the same, however it was found
pub same-behind : (ls : List (List ℕ)) (t u : List ℕ) (rs bs : List (List ℕ)) → ls ≡ t ∷ rs → ls ≡ u ∷ bs → ls ≡ t ∷ bs
same-behind ls t u rs bs one two =
    let same : u ≡ t = cc in
    two ∙ ap (λ (x : List ℕ). x ∷ bs) same
