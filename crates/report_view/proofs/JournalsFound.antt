-- The journals of a report, found one behind the other.
use Rattle.std.proofs.Common.{◌≡◌, ℕ, ◌+◌, ◌-◌, ◌≤◌, ◌<◌, List, [], ◌∷◌, ◌++◌, length, get_or, take, drop, map, Option, None, Result, Ok, Err, refl, sym, ap, subst, ◌∙◌, append_assoc, append-nil, arith}
use Rattle.std.specs.Prelude.{OnOk}
use Rattle.std.proofs.lemmas.List.{take_rest, map-append}
use Rattle.board_model.specs.declared.scenario.DomainLine.{DomainLine}
use Rattle.mc_journal.specs.Readers.{cut_at}
use Rattle.report_text.specs.declared.link_pass.JournalLines.{JournalLines}
use Rattle.report_text.specs.JournalRead.{journals_at, told_texts}
use Rattle.report_text.specs.Outlines.{behind_told, told_lines}
use Rattle.report_text.specs.ScenarioPart.{Rest, rest}
use Rattle.report_text.specs.TextLines.{lines_in}
use Rattle.report_text.proofs.TextCuts.{lines-uncut}
use Rattle.report_view.specs.Journals.{DomainTexts, in_report, in_view}

abbrev pub no_line : DomainLine
no_line = record { domain = 0; nodes = 0; pool = 0 }

abbrev pub first : List DomainLine → DomainLine
first ds = get_or ds 0 no_line

abbrev pub others : List DomainLine → List DomainLine
others ds = take (length ds - 1) (drop 1 ds)

split : (ds : List DomainLine) → 1 ≤ length ds → ds ≡ first ds ∷ others ds
split [] some = absurd (omega (arith, some))
split (d ∷ ds) some = ap (λ es. d ∷ es) (sym (take_rest (d ∷ ds) 1))

-- behind the only line there is nothing
pub nothing_behind : (text : List ℕ) → cut_at 10 text ≡ None → [] ≡ drop 1 (lines_in text)
nothing_behind [] e = refl
nothing_behind (b ∷ bs) e = sym (ap (drop 1) (lines-uncut b bs e))

abbrev texts : ℕ → List (List ℕ) → DomainTexts
texts domain ts = record { domain = domain; texts = ts }

-- the first journal, and then the others
found_more : (ds : List DomainLine) (d : DomainLine) (entries behind ls : List (List ℕ)) (n : ℕ) → entries ≡ drop 1 ls → behind ≡ behind_told entries
    → texts d.domain (told_texts entries) ∷ map in_report (journals_at ds (rest (n + 1 + length (told_lines (drop 1 ls))) behind)) ≡ map in_report (journals_at (d ∷ ds) (rest n ls))
found_more ds d entries behind ls n one two =
    let place : ℕ = n + 1 + length (told_lines (drop 1 ls)) in
    ap (λ es. texts d.domain (told_texts es) ∷ map in_report (journals_at ds (rest place behind))) one
    ∙ ap (λ bs. texts d.domain (told_texts (drop 1 ls)) ∷ map in_report (journals_at ds (rest place bs))) (two ∙ ap behind_told one)

-- no domains are left
pub none_left : (ds : List DomainLine) → length ds < 1 → (xs : List DomainTexts) (r : Rest) → xs ≡ xs ++ map in_report (journals_at ds r)
none_left [] few xs r = sym (append-nil xs)
none_left (d ∷ ds) few xs r = absurd (omega (arith, few))

-- one was added, and then those of the other domains
pub added : {T E : Type 0} (r : Result T E) (new mid old : List JournalLines) (j : JournalLines) (ds : List DomainLine) (behind ls : List (List ℕ))
    → 1 ≤ length ds → mid ≡ old ++ j ∷ [] → j.domain ≡ (first ds).domain → lines_in j.text.now ≡ drop 1 ls → behind ≡ behind_told (lines_in j.text.now)
    → OnOk r ((n : ℕ) → map in_view new ≡ map in_view mid ++ map in_report (journals_at (others ds) (rest n behind)))
    → OnOk r ((n : ℕ) → map in_view new ≡ map in_view old ++ map in_report (journals_at ds (rest n ls)))
added (Err e) new mid old j ds behind ls some push same one two all = tt
added (Ok x) new mid old j ds behind ls some push same one two all = λ n.
    let place : ℕ = n + 1 + length (told_lines (drop 1 ls)) in
    let more : List DomainTexts = map in_report (journals_at (others ds) (rest place behind)) in
    let begun : map in_view mid ≡ map in_view old ++ in_view j ∷ [] = ap (map in_view) push ∙ map-append in_view old (j ∷ []) in
    let here : in_view j ∷ more ≡ texts (first ds).domain (told_texts (lines_in j.text.now)) ∷ more = ap (λ k. texts k (told_texts (lines_in j.text.now)) ∷ more) same in
    let there = here ∙ found_more (others ds) (first ds) (lines_in j.text.now) behind ls n one two ∙ ap (λ es. map in_report (journals_at es (rest n ls))) (sym (split ds some)) in
    all place ∙ ap (λ xs. xs ++ more) begun ∙ append_assoc (map in_view old) (in_view j ∷ []) more ∙ ap (λ xs. map in_view old ++ xs) there
