-- The first part of a text, as it is found by the outlines of its lines.
use Rattle.std.proofs.Common.{◌≡◌, ℕ, ◌+◌, ◌≤◌, List, [], ◌∷◌, ◌++◌, length, drop, map, refl, sym, ap, subst, ◌∙◌, arith, length-append}
use Rattle.std.specs.List.{flat_map}
use Rattle.std.proofs.lemmas.List.{length-map}
use Rattle.board_model.specs.declared.scenario.CallLine.{CallLine}
use Rattle.board_model.specs.Journal.{Line, put_line, call_line}
use Rattle.board_model.specs.JournalParts.{Part, idles, spins, tries, turn_of, wait_of, call_of, part_lines}
use Rattle.report_text.specs.declared.outline.Outline.{Outline}
use Rattle.report_text.specs.declared.spelled_text.SpelledText.{SpelledText}
use Rattle.report_text.specs.JournalRead.{told_texts, lines_of_texts, parts_in}
use Rattle.report_text.specs.Outlines.{outline_of, behind_told}
use Rattle.report_text.specs.TextLines.{lines_in}
use Rattle.report_text.specs.TextPass.{puts_of_script}
use Rattle.report_text.specs.Texts.{lines_told, longest}
use Rattle.report_check.specs.declared.cursor.Head.{Head}
use Rattle.report_check.specs.declared.cursor.NextPart.{NextPart}
use Rattle.report_check.specs.NextParts.{Heads, IsNextPart, BeginsPart, lines_from, parts_from, texts_from}
use Rattle.report_check.specs.PartOutlines.{head_in, part_size}
use Rattle.report_check.proofs.FirstParts.{IsFirst, first-part}
use Rattle.report_check.proofs.PartTexts.{told-outlines, told-size, texts-left, behind-left, lines-left, lines-front, longest-left}

pub nothing-told : (text : List ℕ) → lines_told text ≡ [] → texts_from text ≡ []
nothing-told text e = none (texts_from text) (told-size (lines_in text) ∙ no-lines (lines_from text) (sym (told-outlines (lines_in text)) ∙ e))
  where
    none : (ts : List (List ℕ)) → length ts ≡ 0 → ts ≡ []
    none [] e = refl
    none (t ∷ ts) e = absurd (omega (arith, e))

    no-lines : (ls : List Line) → map outline_of ls ≡ [] → length ls ≡ 0
    no-lines [] e = refl
    no-lines (l ∷ ls) e = absurd cc

some-lines : (p : Part) → 1 ≤ length (part_lines p)
some-lines (idles n) = omega arith
some-lines (spins n word) = omega arith
some-lines (tries word) = omega arith
some-lines (turn_of visits) = omega arith
some-lines (wait_of k) = omega arith
some-lines (call_of ps k a) = let count = length-append (map (λ p. put_line p.0 p.1) ps) (call_line k a ∷ []) in omega (arith, count)

-- as many lines are told as outlines
told-count : (text : List ℕ) → length (lines_told text) ≡ length (lines_from text)
told-count text = ap (λ (xs : List Outline). length xs) (told-outlines (lines_in text)) ∙ length-map (lines_from text) outline_of

-- a part that is found by its lines
found-by : (peers : List ℕ) (script : List CallLine) (text : List ℕ) (h : Head) (n : ℕ) (behind : SpelledText) → BeginsPart peers script text → IsFirst peers script (lines_from text) n h → (n ≤ length (lines_told text) → lines_in behind.text.now ≡ drop n (lines_in text))
    → (n ≤ length (lines_told text) → length behind.text.now + n ≤ length text) → IsNextPart peers script text (record { head = h; lines = n; behind = behind })
found-by peers script text h n behind begins f behind-is behind-short =
    let ls : List (List ℕ) = lines_in text in
    let all : length (lines_from text) ≡ length (part_lines f.part ++ flat_map part_lines (parts_in peers script (drop n (lines_from text)))) = ap (λ (xs : List Line). length xs) (begins ∙ ap (flat_map part_lines) f.parts_are) in
    let whole = length-append (part_lines f.part) (flat_map part_lines (parts_in peers script (drop n (lines_from text)))) in
    let few : n ≤ length (told_texts ls) = omega (arith, all, whole, f.size, told-size ls) in
    let enough : n ≤ length (lines_told text) = omega (arith, all, whole, f.size, told-count text) in
    let is = behind-is enough in
    let shorter = behind-short enough in
    let lines : lines_from behind.text.now ≡ drop n (lines_from text) = ap (λ (xs : List (List ℕ)). lines_of_texts (told_texts xs)) is ∙ lines-left n ls few in
    let least : 1 ≤ length (part_lines f.part) = some-lines f.part in
    let longest-is : longest (lines_in behind.text.now) ≡ longest (drop n ls) = ap longest is in
    let fits : longest (drop n ls) ≤ longest ls = longest-left n ls in
    record {
      part = f.part;
      parts = f.parts_are ∙ ap (λ (xs : List Line). f.part ∷ parts_in peers script xs) (sym lines);
      head = subst (λ (xs : List Line). Heads peers xs h f.part) (sym (lines-front n ls few)) f.heads;
      lines = f.size;
      texts = ap told_texts is ∙ texts-left n ls few;
      begins = lines ∙ (f.begins ∙ ap (λ (xs : List Line). flat_map part_lines (parts_in peers script xs)) (sym lines));
      rest = ap behind_told is ∙ behind-left n ls few;
      shorter = omega (arith, shorter, least, f.size);
      fits = omega (arith, longest-is, fits);
    }

pub found : (peers : List ℕ) (script : List CallLine) (text : List ℕ) (o : Outline) (os : List Outline) (h : Head) (n : ℕ) (behind : SpelledText) → BeginsPart peers script text → lines_told text ≡ o ∷ os
    → h ≡ head_in o → n ≡ part_size (puts_of_script script) o os → (n ≤ length (lines_told text) → lines_in behind.text.now ≡ drop n (lines_in text)) → (n ≤ length (lines_told text) → length behind.text.now + n ≤ length text)
    → IsNextPart peers script text (record { head = h; lines = n; behind = behind })
found peers script text o os h n behind begins told heads size is shorter =
    let first = first-part peers script (lines_from text) o os (sym (told-outlines (lines_in text)) ∙ told) begins in
    let with_size : IsFirst peers script (lines_from text) n (head_in o) = subst (λ (k : ℕ). IsFirst peers script (lines_from text) k (head_in o)) (sym size) first in
    found-by peers script text h n behind begins (subst (λ (x : Head). IsFirst peers script (lines_from text) n x) (sym heads) with_size) is shorter

-- a part has no more lines than the journal
pub part-few : (peers : List ℕ) (script : List CallLine) (text : List ℕ) (n : NextPart) → BeginsPart peers script text → IsNextPart peers script text n → n.lines ≤ length (lines_told text)
part-few peers script text n begins next =
    let all : length (lines_from text) ≡ length (part_lines next.part ++ flat_map part_lines (parts_from peers script n.behind.text.now)) = ap (λ (xs : List Line). length xs) (begins ∙ ap (flat_map part_lines) next.parts) in
    let whole = length-append (part_lines next.part) (flat_map part_lines (parts_from peers script n.behind.text.now)) in
    omega (arith, all, whole, next.lines, told-count text)
