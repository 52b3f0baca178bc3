-- The first line of a text, and the spaces at the end of one.
use Rattle.std.proofs.Common.{◌≡◌, ℕ, zero, suc, ◌+◌, ◌-◌, ◌≤◌, true, false, cond, List, [], ◌∷◌, ◌++◌, length, take, Some, None, refl, sym, ap, ◌∙◌, arith}
use Rattle.std.specs.Prelude.{slice_index}
use Rattle.mc_journal.specs.Readers.{cut_at}
use Rattle.mc_journal.proofs.PartsRead.{cut-is}
use Rattle.report_text.specs.TextLines.{lines_in}
use Rattle.report_text.proofs.TextCuts.{lines-cut, lines-uncut}
use Rattle.view_expect.specs.Expected.{is_space, trimmed_to, undashed}

take-line : (front behind : List ℕ) → take (length front + 1) (front ++ 10 ∷ behind) ≡ front ++ 10 ∷ []
take-line [] behind = refl
take-line (b ∷ bs) behind = let e : suc (length bs) + 1 ≡ suc (length bs + 1) = omega arith in rw e (ap (λ (r : List ℕ). b ∷ r) (take-line bs behind))

pub line-front : (text : List ℕ) (x : List ℕ × List ℕ) → cut_at 10 text ≡ Some x → lines_in text ≡ take (length x.0 + 1) text ∷ lines_in x.1
line-front text x e =
    let front : take (length x.0 + 1) text ≡ x.0 ++ 10 ∷ [] = ap (take (length x.0 + 1)) (cut-is 10 text x e) ∙ take-line x.0 x.1 in
    lines-cut text x e ∙ ap (λ (l : List ℕ). l ∷ lines_in x.1) (sym front)

pub line-whole : (text : List ℕ) → 1 ≤ length text → cut_at 10 text ≡ None → lines_in text ≡ text ∷ []
line-whole [] some e = absurd (omega (arith, some))
line-whole (b ∷ bs) some e = lines-uncut b bs e

-- ---- spaces at the end

pub end-kept : (n : ℕ) (text : List ℕ) → 1 ≤ n → is_space (slice_index text (n - 1)) ≡ false → trimmed_to n text ≡ take n text
end-kept zero text some other = absurd (omega (arith, some))
end-kept (suc n) text some other =
    let same : suc n - 1 ≡ n = omega arith in
    let here : is_space (slice_index text n) ≡ false = rw same at other in
    ap (λ t. cond t (trimmed_to n text) (take (suc n) text)) here

pub end-left : (n : ℕ) (text : List ℕ) → 1 ≤ n → is_space (slice_index text (n - 1)) ≡ true → trimmed_to (n - 1) text ≡ trimmed_to n text
end-left zero text some is = absurd (omega (arith, some))
end-left (suc n) text some is =
    let same : suc n - 1 ≡ n = omega arith in
    let here : is_space (slice_index text n) ≡ true = rw same at is in
    ap (λ k. trimmed_to k text) same ∙ sym (ap (λ t. cond t (trimmed_to n text) (take (suc n) text)) here)

pub no-dash : (text : List ℕ) → length text ≡ 0 → undashed text ≡ None
no-dash [] e = refl
no-dash (b ∷ bs) e = absurd (omega (arith, e))
