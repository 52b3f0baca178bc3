-- The heading of a report and the line above a journal are the only lines of their forms.
use Rattle.std.proofs.Common.{◌≡◌, ℕ, ◌^◌, ◌<◌, arith, true, List, [], ◌∷◌, ◌++◌, Option, Some, None, refl, sym, ap, ap₂, ◌∙◌}
use Rattle.std.specs.Prelude.{codes, decimal}
use Rattle.std.proofs.lemmas.Bool.{and_parts}
use Rattle.std.proofs.lemmas.Bool.Decides.{nat_tests}
use Rattle.std.proofs.lemmas.Slice.Eq.{bytes_eq-Decides}
use Rattle.board_model.specs.FileWords.{number_of, is_within, is_admitted}
use Rattle.board_model.specs.Grammar.{line_of}
use Rattle.board_model.specs.Report.{Mode, serial, threads, heading}
use Rattle.board_model.proofs.WordDecimals.{number-is}
use Rattle.mc_journal.specs.Readers.{cut_at}
use Rattle.mc_journal.proofs.PartsRead.{cut-is}
use Rattle.report_text.specs.ReportLines.{FormWord, word, exactly, is_form_word, are_cut, are_form_words, is_line_of, has_form, heading_form, journal_form}
use Rattle.report_text.proofs.ReportsTold.{Ends}

word-is : (w text : List ℕ) → is_form_word (word w) text ≡ true → text ≡ w
word-is w text e = sym ((bytes_eq-Decides w text).0 e)

exact-is : (n : ℕ) (text : List ℕ) → n < 2 ^ 64 → is_form_word (exactly n) text ≡ true → text ≡ decimal n
exact-is n text small e = go (number_of text) refl e
  where
    same : (m : ℕ) → is_within n n m ≡ true → n ≡ m
    same m e = grind (arith, nat_tests)

    go : (o : Option ℕ) → number_of text ≡ o → is_admitted (is_within n n) o ≡ true → text ≡ decimal n
    go None is e = absurd cc
    go (Some m) is e = sym (number-is text n small (is ∙ ap Some (sym (same m e))))

-- two words with a blank between them
record AreTwo (p : FormWord) (ps : List FormWord) (text : List ℕ) : Type 0 where
  front : List ℕ
  behind : List ℕ
  text_is : text ≡ front ++ 32 ∷ behind
  first : is_form_word p front ≡ true
  others : are_form_words ps behind ≡ true

are-two : (p q : FormWord) (ps : List FormWord) (text : List ℕ) → are_form_words (p ∷ q ∷ ps) text ≡ true → AreTwo p (q ∷ ps) text
are-two p q ps text e = go (cut_at 32 text) refl e
  where
    go : (o : Option (List ℕ × List ℕ)) → cut_at 32 text ≡ o → are_cut (is_form_word p) (are_form_words (q ∷ ps)) o ≡ true → AreTwo p (q ∷ ps) text
    go None is e = absurd cc
    go (Some x) is e =
        let parts = and_parts (is_form_word p x.0) (are_form_words (q ∷ ps) x.1) e in
        record { front = x.0; behind = x.1; text_is = cut-is 32 text x is; first = parts.0; others = parts.1 }

-- the line without its newline
before-end : (form : List FormWord) (l : List ℕ) → Ends l → has_form form l ≡ true → (x : List ℕ) × (l ≡ x ++ 10 ∷ []) × (are_form_words form x ≡ true)
before-end form l ends e = go (cut_at 10 l) refl e
  where
    go : (o : Option (List ℕ × List ℕ)) → cut_at 10 l ≡ o → is_line_of form o ≡ true → (x : List ℕ) × (l ≡ x ++ 10 ∷ []) × (are_form_words form x ≡ true)
    go None is e = absurd cc
    go (Some x) is e = (x.0, cut-is 10 l x is ∙ ap (λ ys. x.0 ++ 10 ∷ ys) (ends x is), e)

-- the words of a heading that names a mode so
named-so : (mode : List ℕ) (l : List ℕ) → Ends l → has_form (word (codes "mcapi-report") ∷ exactly 1 ∷ word mode ∷ []) l ≡ true → l ≡ (codes "mcapi-report" ++ 32 ∷ (codes "1" ++ 32 ∷ mode)) ++ 10 ∷ []
named-so mode l ends e =
    let line = before-end (word (codes "mcapi-report") ∷ exactly 1 ∷ word mode ∷ []) l ends e in
    let name = are-two (word (codes "mcapi-report")) (exactly 1) (word mode ∷ []) line.0 line.2 in
    let number = are-two (exactly 1) (word mode) [] name.behind name.others in
    let one : number.front ≡ codes "1" = exact-is 1 number.front (omega arith) number.first ∙ number-is (codes "1") 1 (omega arith) refl in
    let behind : name.behind ≡ codes "1" ++ 32 ∷ mode = number.text_is ∙ ap₂ (λ (u v : List ℕ). u ++ 32 ∷ v) one (word-is mode number.behind number.others) in
    line.1 ∙ ap (λ (x : List ℕ). x ++ 10 ∷ []) (name.text_is ∙ ap₂ (λ (u v : List ℕ). u ++ 32 ∷ v) (word-is (codes "mcapi-report") name.front name.first) behind)

pub heading-is : (mode : Mode) (l : List ℕ) → Ends l → has_form (heading_form mode) l ≡ true → l ≡ heading mode
heading-is serial l ends e = named-so (codes "serial") l ends e
heading-is threads l ends e = named-so (codes "threads") l ends e

pub journal-is : (d : ℕ) (l : List ℕ) → d < 2 ^ 64 → Ends l → has_form (journal_form d) l ≡ true → l ≡ line_of (codes "journal" ∷ decimal d ∷ [])
journal-is d l small ends e =
    let line = before-end (journal_form d) l ends e in
    let two = are-two (word (codes "journal")) (exactly d) [] line.0 line.2 in
    let first : two.front ≡ codes "journal" = word-is (codes "journal") two.front two.first in
    let number : two.behind ≡ decimal d = exact-is d two.behind small two.others in
    line.1 ∙ ap (λ (x : List ℕ). x ++ 10 ∷ []) (two.text_is ∙ ap₂ (λ (u v : List ℕ). u ++ 32 ∷ v) first number)
