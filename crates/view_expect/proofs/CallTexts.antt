-- The lines of a journal that answer calls, line by line.
use Rattle.std.proofs.Common.{◌≡◌, ℕ, List, [], ◌∷◌, Option, Some, None, refl, sym, ap, ◌∙◌}
use Rattle.report_text.specs.JournalRead.{told_texts, text_first}
use Rattle.report_text.specs.Outlines.{told_line, told_lines, told_first}
use Rattle.report_text.specs.TextLines.{lines_in}
use Rattle.report_text.specs.Texts.{lines_told}
use Rattle.report_text.specs.declared.outline.Outline.{Outline}

-- the first line of a text is a line of a journal
pub told-text : (text line : List ℕ) (ls : List (List ℕ)) (x : Outline) (xs : List Outline) → lines_in text ≡ line ∷ ls → lines_told text ≡ x ∷ xs → told_texts (lines_in text) ≡ line ∷ told_texts ls
told-text text line ls x xs is told = ap told_texts is ∙ go (told_line line) (ap told_lines (sym is) ∙ told)
  where
    go : (o : Option Outline) → told_first o (told_lines ls) ≡ x ∷ xs → text_first o line (told_texts ls) ≡ line ∷ told_texts ls
    go None e = absurd cc
    go (Some y) e = refl

-- or it is none
pub told-none : (ls : List (List ℕ)) → told_lines ls ≡ [] → told_texts ls ≡ []
told-none [] e = refl
told-none (l ∷ ls) e = go (told_line l) e
  where
    go : (o : Option Outline) → told_first o (told_lines ls) ≡ [] → text_first o l (told_texts ls) ≡ []
    go None e = refl
    go (Some y) e = absurd cc
