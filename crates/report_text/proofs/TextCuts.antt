-- The lines of a text, by where its first newline stands.
use Rattle.std.proofs.Common.{◌≡◌, ℕ, ◌+◌, max, Bool, true, false, cond, List, [], ◌∷◌, ◌++◌, length, Option, Some, None, refl, sym, ap, subst, ◌∙◌, arith}
use Rattle.std.specs.Prelude.{◌==◌}
use Rattle.std.proofs.lemmas.Bool.Decides.{nat_tests}
use Rattle.board_model.specs.FileLines.{onto_first}
use Rattle.mc_journal.specs.Readers.{cut_at}
use Rattle.mc_journal.specs.Readers.{onto_first as onto_cut}
use Rattle.report_text.specs.declared.outline.Outline.{Outline}
use Rattle.report_text.specs.TextLines.{lines_in}
use Rattle.report_text.specs.Outlines.{outline_in, outline_before, told_line, told_first, told_lines, all_or, behind_told}
use Rattle.std.specs.Prelude.{Ok, Err}
use Rattle.report_text.specs.ReportLines.{FormWord, are_form_words, is_line_of}
use Rattle.report_text.specs.ScenarioPart.{rest}
use Rattle.report_text.specs.TextPass.{line_by}
use Rattle.report_text.specs.Texts.{lines_told, lines_behind, longest, longest_line}

-- ---- a newline

pub lines-cut : (text : List ℕ) (x : List ℕ × List ℕ) → cut_at 10 text ≡ Some x → lines_in text ≡ (x.0 ++ 10 ∷ []) ∷ lines_in x.1
lines-cut [] x e = absurd cc
lines-cut (b ∷ bs) x e = go (b == 10) refl e (λ y is. lines-cut bs y is)
  where
    more : (o : Option (List ℕ × List ℕ)) → ((y : List ℕ × List ℕ) → o ≡ Some y → lines_in bs ≡ (y.0 ++ 10 ∷ []) ∷ lines_in y.1) → onto_cut b o ≡ Some x → onto_first b (lines_in bs) ≡ (x.0 ++ 10 ∷ []) ∷ lines_in x.1
    more None h e = absurd cc
    more (Some y) h e =
        let same : ◌≡◌ {A = List ℕ × List ℕ} (b ∷ y.0, y.1) x = cc in
        ap (onto_first b) (h y refl) ∙ ap (λ (z : List ℕ × List ℕ). (z.0 ++ 10 ∷ []) ∷ lines_in z.1) same

    go : (t : Bool) → (b == 10) ≡ t → cond t (Some ([], bs)) (onto_cut b (cut_at 10 bs)) ≡ Some x → ((y : List ℕ × List ℕ) → cut_at 10 bs ≡ Some y → lines_in bs ≡ (y.0 ++ 10 ∷ []) ∷ lines_in y.1) → cond t ((10 ∷ []) ∷ lines_in bs) (onto_first b (lines_in bs)) ≡ (x.0 ++ 10 ∷ []) ∷ lines_in x.1
    go true is e rest =
        let same : ◌≡◌ {A = List ℕ × List ℕ} ([], bs) x = cc in
        ap (λ (z : List ℕ × List ℕ). (z.0 ++ 10 ∷ []) ∷ lines_in z.1) same
    go false is e rest = more (cut_at 10 bs) rest e

-- what stands before it is cut there again
pub cut-again : (c : ℕ) (text : List ℕ) (x : List ℕ × List ℕ) (ys : List ℕ) → cut_at c text ≡ Some x → cut_at c (x.0 ++ c ∷ ys) ≡ Some (x.0, ys)
cut-again c [] x ys e = absurd cc
cut-again c (b ∷ bs) x ys e = go (b == c) refl e (λ y is. cut-again c bs y ys is)
  where
    more : (b == c) ≡ false → (o : Option (List ℕ × List ℕ)) → ((y : List ℕ × List ℕ) → o ≡ Some y → cut_at c (y.0 ++ c ∷ ys) ≡ Some (y.0, ys)) → onto_cut b o ≡ Some x → cut_at c (x.0 ++ c ∷ ys) ≡ Some (x.0, ys)
    more is None h e = absurd cc
    more is (Some y) h e =
        let same : ◌≡◌ {A = List ℕ × List ℕ} (b ∷ y.0, y.1) x = cc in
        subst (λ (z : List ℕ × List ℕ). cut_at c (z.0 ++ c ∷ ys) ≡ Some (z.0, ys)) same (ap (λ t. cond t (Some ([], y.0 ++ c ∷ ys)) (onto_cut b (cut_at c (y.0 ++ c ∷ ys)))) is ∙ ap (onto_cut b) (h y refl))

    itself : (c == c) ≡ true
    itself = grind (arith, nat_tests)

    go : (t : Bool) → (b == c) ≡ t → cond t (Some ([], bs)) (onto_cut b (cut_at c bs)) ≡ Some x → ((y : List ℕ × List ℕ) → cut_at c bs ≡ Some y → cut_at c (y.0 ++ c ∷ ys) ≡ Some (y.0, ys)) → cut_at c (x.0 ++ c ∷ ys) ≡ Some (x.0, ys)
    go true is e rest =
        let same : ◌≡◌ {A = List ℕ × List ℕ} ([], bs) x = cc in
        subst (λ (z : List ℕ × List ℕ). cut_at c (z.0 ++ c ∷ ys) ≡ Some (z.0, ys)) same (ap (λ t. cond t (Some ([], ys)) (onto_cut c (cut_at c ys))) itself)
    go false is e rest = more is (cut_at c bs) rest e

pub told_line-cut : (text : List ℕ) (x : List ℕ × List ℕ) → cut_at 10 text ≡ Some x → told_line (x.0 ++ 10 ∷ []) ≡ outline_in x.0
told_line-cut text x e = ap outline_before (cut-again 10 text x [] e)

pub told-cut : (text : List ℕ) (x : List ℕ × List ℕ) → cut_at 10 text ≡ Some x → lines_told text ≡ told_first (outline_in x.0) (lines_told x.1)
told-cut text x e = ap told_lines (lines-cut text x e) ∙ ap (λ (o : Option Outline). told_first o (lines_told x.1)) (told_line-cut text x e)

pub behind-cut : (text : List ℕ) (x : List ℕ × List ℕ) → cut_at 10 text ≡ Some x → lines_behind text ≡ all_or (outline_in x.0) (lines_in text) (lines_behind x.1)
behind-cut text x e =
    ap behind_told (lines-cut text x e)
    ∙ ap (λ (o : Option Outline). all_or o ((x.0 ++ 10 ∷ []) ∷ lines_in x.1) (lines_behind x.1)) (told_line-cut text x e)
    ∙ ap (λ (all : List (List ℕ)). all_or (outline_in x.0) all (lines_behind x.1)) (sym (lines-cut text x e))

pub longest-cut : (text : List ℕ) (x : List ℕ × List ℕ) → cut_at 10 text ≡ Some x → longest_line text ≡ max (length (x.0 ++ 10 ∷ [])) (longest_line x.1)
longest-cut text x e = ap longest (lines-cut text x e)

-- ---- no newline

pub uncut-behind : (b : ℕ) (o : Option (List ℕ × List ℕ)) → onto_cut b o ≡ None → o ≡ None
uncut-behind b None e = refl
uncut-behind b (Some y) e = absurd cc

pub lines-uncut : (b : ℕ) (bs : List ℕ) → cut_at 10 (b ∷ bs) ≡ None → lines_in (b ∷ bs) ≡ (b ∷ bs) ∷ []
lines-uncut b [] e = go (b == 10) e
  where
    go : (t : Bool) → cond t (Some ([], [])) (onto_cut b None) ≡ None → cond t ((10 ∷ []) ∷ []) (onto_first b []) ≡ (b ∷ []) ∷ []
    go true e = absurd cc
    go false e = refl
lines-uncut b (d ∷ ds) e = go (b == 10) e (λ h. lines-uncut d ds h)
  where
    go : (t : Bool) → cond t (Some ([], d ∷ ds)) (onto_cut b (cut_at 10 (d ∷ ds))) ≡ None → (cut_at 10 (d ∷ ds) ≡ None → lines_in (d ∷ ds) ≡ (d ∷ ds) ∷ []) → cond t ((10 ∷ []) ∷ lines_in (d ∷ ds)) (onto_first b (lines_in (d ∷ ds))) ≡ (b ∷ d ∷ ds) ∷ []
    go true e h = absurd cc
    go false e h = ap (onto_first b) (h (uncut-behind b (cut_at 10 (d ∷ ds)) e))

pub told-uncut : (text : List ℕ) → cut_at 10 text ≡ None → lines_told text ≡ []
told-uncut [] e = refl
told-uncut (b ∷ bs) e = ap told_lines (lines-uncut b bs e) ∙ ap (λ o. told_first (outline_before o) []) e

-- where no line is told, all are behind
pub behind-all : (ls : List (List ℕ)) → told_lines ls ≡ [] → behind_told ls ≡ ls
behind-all [] e = refl
behind-all (l ∷ ls) e = go (told_line l) e
  where
    go : (o : Option Outline) → told_first o (told_lines ls) ≡ [] → all_or o (l ∷ ls) (behind_told ls) ≡ l ∷ ls
    go None e = refl
    go (Some x) e = absurd cc

-- a text that is not empty has a line
pub lines-some : (text : List ℕ) → (length text == 0) ≡ false → (length (lines_in text) == 0) ≡ false
lines-some [] e = e
lines-some (b ∷ bs) e = go (b == 10)
  where
    onto : (ls : List (List ℕ)) → (length (onto_first b ls) == 0) ≡ false
    onto [] = refl
    onto (l ∷ ls) = grind (arith, nat_tests)

    go : (t : Bool) → (length (cond t ((10 ∷ []) ∷ lines_in bs) (onto_first b (lines_in bs))) == 0) ≡ false
    go true = grind (arith, nat_tests)
    go false = onto (lines_in bs)

-- ---- a line of a form

pub one_line-cut : (form : List FormWord) (n : ℕ) (text : List ℕ) (x : List ℕ × List ℕ) → cut_at 10 text ≡ Some x → line_by form n (lines_in text) ≡ cond (are_form_words form x.0) (Ok (rest (n + 1) (lines_in x.1))) (Err n)
one_line-cut form n text x e =
    ap (line_by form n) (lines-cut text x e)
    ∙ ap (λ t. cond t (Ok (rest (n + 1) (lines_in x.1))) (Err n)) (ap (is_line_of form) (cut-again 10 text x [] e))

pub one_line-uncut : (form : List FormWord) (n : ℕ) (text : List ℕ) → cut_at 10 text ≡ None → line_by form n (lines_in text) ≡ Err n
one_line-uncut form n [] e = refl
one_line-uncut form n (b ∷ bs) e =
    ap (line_by form n) (lines-uncut b bs e)
    ∙ ap (λ o. cond (is_line_of form o) (Ok (rest (n + 1) [])) (Err n)) e
