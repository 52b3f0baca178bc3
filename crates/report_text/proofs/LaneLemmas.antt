-- The lane lines at the front of a text, by its first line; and what is left of lanes after one more of them.
use Rattle.std.proofs.Common.{◌≡◌, ℕ, List, [], ◌∷◌, ◌++◌, map, Option, Some, None, refl, sym, ap, ◌∙◌}
use Rattle.std.specs.Prelude.{option_map}
use Rattle.board_model.specs.Journal.{Line}
use Rattle.mc_journal.specs.Readers.{cut_at}
use Rattle.mc_journal.specs.LineForms.{line_in}
use Rattle.report_text.specs.TextLines.{lines_in}
use Rattle.report_text.specs.Outlines.{outline_before, outline_of}
use Rattle.report_text.specs.JournalRead.{text_first, told_texts, line_before, line_first, lines_of_texts}
use Rattle.report_text.proofs.TextCuts.{lines-cut, lines-uncut, cut-again}

-- ---- what the lines at the front of a text say, by the first of them

module _ {A : Type 0} (f : Line → A) where
  abbrev pub said_lines : List ℕ → List A
  said_lines text = map f (lines_of_texts (told_texts (lines_in text)))

  abbrev pub said_first : Option A → List A → List A
  said_first None ls = []
  said_first (Some l) ls = l ∷ ls

  pub said-cut : (text : List ℕ) (x : List ℕ × List ℕ) → cut_at 10 text ≡ Some x → said_lines text ≡ said_first (option_map f (line_in x.0)) (said_lines x.1)
  said-cut text x e =
      ap (λ (ls : List (List ℕ)). map f (lines_of_texts (told_texts ls))) (lines-cut text x e)
      ∙ ap (λ (c : Option (List ℕ × List ℕ)). map f (lines_of_texts (text_first (outline_before c) line rest))) again
      ∙ go (line_in x.0) refl
    where
      line : List ℕ
      line = x.0 ++ 10 ∷ []

      rest : List (List ℕ)
      rest = told_texts (lines_in x.1)

      again : cut_at 10 line ≡ Some (x.0, [])
      again = cut-again 10 text x [] e

      go : (o : Option Line) → line_in x.0 ≡ o → map f (lines_of_texts (text_first (option_map outline_of (line_in x.0)) line rest)) ≡ said_first (option_map f (line_in x.0)) (said_lines x.1)
      go None is = ap (λ (o : Option Line). map f (lines_of_texts (text_first (option_map outline_of o) line rest))) is ∙ sym (ap (λ (o : Option Line). said_first (option_map f o) (said_lines x.1)) is)
      go (Some l) is =
          ap (λ (o : Option Line). map f (lines_of_texts (text_first (option_map outline_of o) line rest))) is
          ∙ ap (λ (c : Option (List ℕ × List ℕ)). map f (line_first (line_before c) (lines_of_texts rest))) again
          ∙ ap (λ (o : Option Line). map f (line_first o (lines_of_texts rest))) is
          ∙ sym (ap (λ (o : Option Line). said_first (option_map f o) (said_lines x.1)) is)

  pub said-uncut : (text : List ℕ) → cut_at 10 text ≡ None → said_lines text ≡ []
  said-uncut [] e = refl
  said-uncut (b ∷ bs) e =
      ap (λ (ls : List (List ℕ)). map f (lines_of_texts (told_texts ls))) (lines-uncut b bs e)
      ∙ ap (λ (c : Option (List ℕ × List ℕ)). map f (lines_of_texts (text_first (outline_before c) (b ∷ bs) []))) e
