-- The texts and lines of a part, as the code reads them.
use Rattle.std.proofs.Common.{◌≡◌, ℕ, zero, suc, ◌+◌, ◌-◌, ◌<◌, ◌≤◌, List, [], ◌∷◌, length, map, take, drop, Option, None, Some, refl, sym, ap, subst, ◌∙◌, arith}
use Rattle.std.specs.Prelude.{sum_by, option_map}
use Rattle.std.specs.List.{flat_map}
use Rattle.std.proofs.lemmas.List.Sums.{sum_by-cons}
use Rattle.board_model.specs.Journal.{Line, Visit, turn_line}
use Rattle.board_model.specs.Unjoined.{back_in, see_in, owed_in, takes_in, visit_in}
use Rattle.mc_journal.specs.LineForms.{line_in}
use Rattle.mc_journal.specs.Readers.{cut_at}
use Rattle.report_text.specs.JournalRead.{text_first, told_texts, line_before, line_first, lines_of_texts}
use Rattle.report_text.specs.Outlines.{outline_of, outline_before, told_line, told_first, told_lines, all_or, behind_told}
use Rattle.report_text.specs.TextLines.{lines_in}
use Rattle.report_text.specs.Texts.{longest}
use Rattle.report_text.proofs.TextCuts.{lines-cut, lines-uncut}
use Rattle.report_text.specs.declared.outline.Outline.{Outline}

-- the first lines of a journal are the first lines of the text that begins with it
pub front-told : (n : ℕ) (ls : List (List ℕ)) → n ≤ length (told_texts ls) → take n (told_texts ls) ≡ take n ls
front-told zero ls few = refl
front-told (suc n) [] few = absurd (omega (arith, few))
front-told (suc n) (l ∷ ls) few = go (told_line l) few (λ less. front-told n ls less)
  where
    go : (o : Option Outline) → suc n ≤ length (text_first o l (told_texts ls)) → (n ≤ length (told_texts ls) → take n (told_texts ls) ≡ take n ls) → take (suc n) (text_first o l (told_texts ls)) ≡ l ∷ take n ls
    go None few rest = absurd (omega (arith, few))
    go (Some line) few rest = ap (λ ms. l ∷ ms) (rest (omega (arith, few)))

abbrev told_of : List Line → ℕ → ℕ → ℕ → Visit
told_of ls n back see = record { peer = n; back = back; owed = flat_map (owed_in n) ls; see = see; takes = flat_map (takes_in n) ls }

-- the line that heads a turn tells of no peer
pub visit-headed : (ls : List Line) (n : ℕ) → visit_in (turn_line ∷ ls) n ≡ visit_in ls n
visit-headed ls n =
    ap (λ b. told_of ls n b (sum_by (see_in n) (turn_line ∷ ls))) (sum_by-cons (back_in n) turn_line ls ∙ nothing-more (sum_by (back_in n) ls))
    ∙ ap (told_of ls n (sum_by (back_in n) ls)) (sum_by-cons (see_in n) turn_line ls ∙ nothing-more (sum_by (see_in n) ls))
  where
    nothing-more : (k : ℕ) → 0 + k ≡ k
    nothing-more k = omega arith

-- ---- texts, the lines that they tell, and the outlines of these

abbrev lines_told_by : List (List ℕ) → List Line
lines_told_by ls = lines_of_texts (told_texts ls)

data Seen (l : List ℕ) : Type 0 where
  untold : told_line l ≡ None → Seen l
  tells_line : (line : Line) → line_before (cut_at 10 l) ≡ Some line → told_line l ≡ Some (outline_of line) → Seen l

seen : (l : List ℕ) → Seen l
seen l = go (cut_at 10 l) refl
  where
    by : (x : List ℕ × List ℕ) → cut_at 10 l ≡ Some x → (o : Option Line) → line_in x.0 ≡ o → Seen l
    by x e None is = untold (ap outline_before e ∙ ap (λ o. option_map outline_of o) is)
    by x e (Some line) is = tells_line line (ap line_before e ∙ is) (ap outline_before e ∙ ap (λ o. option_map outline_of o) is)

    go : (o : Option (List ℕ × List ℕ)) → cut_at 10 l ≡ o → Seen l
    go None e = untold (ap outline_before e)
    go (Some x) e = by x e (line_in x.0) refl

one-told : (l : List ℕ) (ls : List (List ℕ)) (line : Line) → line_before (cut_at 10 l) ≡ Some line → lines_of_texts (l ∷ ls) ≡ line ∷ lines_of_texts ls
one-told l ls line at = ap (λ o. line_first o (lines_of_texts ls)) at

first-told : (l : List ℕ) (ls : List (List ℕ)) (line : Line) → line_before (cut_at 10 l) ≡ Some line → told_line l ≡ Some (outline_of line) → lines_told_by (l ∷ ls) ≡ line ∷ lines_told_by ls
first-told l ls line at is = ap (λ o. lines_of_texts (text_first o l (told_texts ls))) is ∙ one-told l (told_texts ls) line at

pub told-outlines : (ls : List (List ℕ)) → told_lines ls ≡ map outline_of (lines_told_by ls)
told-outlines [] = refl
told-outlines (l ∷ ls) = go (seen l) (told-outlines ls)
  where
    go : Seen l → told_lines ls ≡ map outline_of (lines_told_by ls) → told_lines (l ∷ ls) ≡ map outline_of (lines_told_by (l ∷ ls))
    go (untold is) rest = ap (λ o. told_first o (told_lines ls)) is ∙ sym (ap (λ o. map outline_of (lines_of_texts (text_first o l (told_texts ls)))) is)
    go (tells_line line at is) rest =
        ap (λ o. told_first o (told_lines ls)) is
        ∙ (ap (λ os. outline_of line ∷ os) rest
        ∙ sym (ap (map outline_of) (first-told l ls line at is)))

pub told-size : (ls : List (List ℕ)) → length (told_texts ls) ≡ length (lines_told_by ls)
told-size [] = refl
told-size (l ∷ ls) = go (seen l) (told-size ls)
  where
    go : Seen l → length (told_texts ls) ≡ length (lines_told_by ls) → length (told_texts (l ∷ ls)) ≡ length (lines_told_by (l ∷ ls))
    go (untold is) rest = ap (λ o. length (text_first o l (told_texts ls))) is ∙ sym (ap (λ o. length (lines_of_texts (text_first o l (told_texts ls)))) is)
    go (tells_line line at is) rest =
        ap (λ o. length (text_first o l (told_texts ls))) is
        ∙ (ap suc rest
        ∙ sym (ap (λ (xs : List Line). length xs) (first-told l ls line at is)))

-- ---- the lines behind some of a journal's

-- so many are not more than the journal has
more-told : (n : ℕ) (l : List ℕ) (ls : List (List ℕ)) (o : Option Outline) → told_line l ≡ o → suc n ≤ length (told_texts (l ∷ ls)) → (o ≡ None → ⊥) × (n ≤ length (told_texts ls))
more-told n l ls None is few = let none : suc n ≤ 0 = subst (λ x. suc n ≤ length (text_first x l (told_texts ls))) is few in absurd (omega (arith, none))
more-told n l ls (Some o) is few = let some : suc n ≤ suc (length (told_texts ls)) = subst (λ x. suc n ≤ length (text_first x l (told_texts ls))) is few in (λ no. absurd cc, omega (arith, some))

pub texts-left : (n : ℕ) (ls : List (List ℕ)) → n ≤ length (told_texts ls) → told_texts (drop n ls) ≡ drop n (told_texts ls)
texts-left zero ls few = refl
texts-left (suc n) [] few = refl
texts-left (suc n) (l ∷ ls) few = go (seen l) (λ less. texts-left n ls less)
  where
    go : Seen l → (n ≤ length (told_texts ls) → told_texts (drop n ls) ≡ drop n (told_texts ls)) → told_texts (drop n ls) ≡ drop (suc n) (told_texts (l ∷ ls))
    go (untold is) rest = absurd ((more-told n l ls None is few).0 refl)
    go (tells_line line at is) rest = rest (more-told n l ls (Some (outline_of line)) is few).1 ∙ sym (ap (λ o. drop (suc n) (text_first o l (told_texts ls))) is)

pub behind-left : (n : ℕ) (ls : List (List ℕ)) → n ≤ length (told_texts ls) → behind_told (drop n ls) ≡ behind_told ls
behind-left zero ls few = refl
behind-left (suc n) [] few = refl
behind-left (suc n) (l ∷ ls) few = go (seen l) (λ less. behind-left n ls less)
  where
    go : Seen l → (n ≤ length (told_texts ls) → behind_told (drop n ls) ≡ behind_told ls) → behind_told (drop n ls) ≡ behind_told (l ∷ ls)
    go (untold is) rest = absurd ((more-told n l ls None is few).0 refl)
    go (tells_line line at is) rest = rest (more-told n l ls (Some (outline_of line)) is few).1 ∙ sym (ap (λ o. all_or o (l ∷ ls) (behind_told ls)) is)

pub lines-left : (n : ℕ) (ls : List (List ℕ)) → n ≤ length (told_texts ls) → lines_told_by (drop n ls) ≡ drop n (lines_told_by ls)
lines-left zero ls few = refl
lines-left (suc n) [] few = refl
lines-left (suc n) (l ∷ ls) few = go (seen l) (λ less. lines-left n ls less)
  where
    go : Seen l → (n ≤ length (told_texts ls) → lines_told_by (drop n ls) ≡ drop n (lines_told_by ls)) → lines_told_by (drop n ls) ≡ drop (suc n) (lines_told_by (l ∷ ls))
    go (untold is) rest = absurd ((more-told n l ls None is few).0 refl)
    go (tells_line line at is) rest = rest (more-told n l ls (Some (outline_of line)) is few).1 ∙ sym (ap (drop (suc n)) (first-told l ls line at is))

pub lines-front : (n : ℕ) (ls : List (List ℕ)) → n ≤ length (told_texts ls) → lines_of_texts (take n ls) ≡ take n (lines_told_by ls)
lines-front zero ls few = refl
lines-front (suc n) [] few = refl
lines-front (suc n) (l ∷ ls) few = go (seen l) (λ less. lines-front n ls less)
  where
    go : Seen l → (n ≤ length (told_texts ls) → lines_of_texts (take n ls) ≡ take n (lines_told_by ls)) → lines_of_texts (take (suc n) (l ∷ ls)) ≡ take (suc n) (lines_told_by (l ∷ ls))
    go (untold is) rest = absurd ((more-told n l ls None is few).0 refl)
    go (tells_line line at is) rest =
        one-told l (take n ls) line at
        ∙ (ap (λ (xs : List Line). line ∷ xs) (rest (more-told n l ls (Some (outline_of line)) is few).1)
        ∙ sym (ap (take (suc n)) (first-told l ls line at is)))

pub longest-left : (n : ℕ) (ls : List (List ℕ)) → longest (drop n ls) ≤ longest ls
longest-left zero ls = omega arith
longest-left (suc n) [] = omega arith
longest-left (suc n) (l ∷ ls) = let rest : longest (drop n ls) ≤ longest ls = longest-left n ls in omega (arith, rest)

-- ---- the text behind lines

none-left : (n : ℕ) → drop {A = List ℕ} n [] ≡ []
none-left zero = refl
none-left (suc n) = refl

pub left-none : (n : ℕ) (text : List ℕ) → 0 < n → cut_at 10 text ≡ None → drop n (lines_in text) ≡ []
left-none n [] some e = none-left n
left-none zero (b ∷ bs) some e = absurd (omega (arith, some))
left-none (suc n) (b ∷ bs) some e = ap (drop (suc n)) (lines-uncut b bs e) ∙ none-left n

pub left-first : (n : ℕ) (text : List ℕ) (x : List ℕ × List ℕ) → 0 < n → cut_at 10 text ≡ Some x → drop n (lines_in text) ≡ drop (n - 1) (lines_in x.1)
left-first zero text x some e = absurd (omega (arith, some))
left-first (suc n) text x some e = let less : n ≡ suc n - 1 = omega arith in ap (drop (suc n)) (lines-cut text x e) ∙ ap (λ k. drop k (lines_in x.1)) less
