-- How the first wrong line of a journal is found, block by block.
use Rattle.std.proofs.Common.{◌≡◌, ℕ, ◌+◌, Bool, true, false, cond, List, [], ◌∷◌, ◌++◌, length, Option, Some, None, refl, sym, ap, ◌∙◌, arith, append-nil, Bor}
use Rattle.std.specs.Prelude.{option_map, IfSome}
use Rattle.std.specs.List.{list_all}
use Rattle.std.proofs.Math.ListN.{length-append}
use Rattle.std.proofs.lemmas.Bool.{and_parts}
use Rattle.report_text.specs.declared.outline.Outline.{Outline}
use Rattle.report_text.specs.TextLines.{moved, or_else}
use Rattle.report_text.specs.TurnOrder.{is_under, under_lines, under_place}
use Rattle.report_text.specs.JournalOrder.{puts_of_line, puts_of_head, puts_claimed, is_turn, stands, head_place, place_from, place_behind}
use Rattle.report_text.specs.Texts.{last_of, lines_told, told_front}

pub moved-moved : (m n : ℕ) (o : Option ℕ) → moved m (moved n o) ≡ moved (m + n) o
moved-moved m n None = refl
moved-moved m n (Some p) = ap Some (omega arith)

pub moved-none : (o : Option ℕ) → moved 0 o ≡ o
moved-none None = refl
moved-none (Some p) = ap Some (omega arith)

moved-or : (n : ℕ) (o p : Option ℕ) → or_else (moved n o) (moved n p) ≡ moved n (or_else o p)
moved-or n None p = refl
moved-or n (Some x) p = refl

or-none : (o : Option ℕ) → or_else o None ≡ o
or-none None = refl
or-none (Some p) = refl

-- ---- lines that stand under the one before

under-front : (us bs : List Outline) → list_all is_under us ≡ true → under_lines bs ≡ [] → under_lines (us ++ bs) ≡ us
under-front [] bs all none = none
under-front (u ∷ us) bs all none =
    let k = and_parts (is_under u) (list_all is_under us) all in
    ap (λ t. cond t (u ∷ under_lines (us ++ bs)) []) k.0 ∙ ap (λ ls. u ∷ ls) (under-front us bs k.1 none)

claimed-front : (puts : List ℕ) (us bs : List Outline) → list_all is_under us ≡ true → puts_claimed puts (us ++ bs) ≡ puts_claimed puts bs
claimed-front puts [] bs all = refl
claimed-front puts (u ∷ us) bs all =
    let k = and_parts (is_under u) (list_all is_under us) all in
    ap (λ t. cond t (puts_claimed puts (us ++ bs)) (puts_of_line puts u)) k.0 ∙ claimed-front puts us bs k.1

from-front : (peers puts : List ℕ) (last : Option Outline) (us bs : List Outline) → list_all is_under us ≡ true → place_from peers puts last (us ++ bs) ≡ moved (length us) (place_from peers puts (last_of last us) bs)
from-front peers puts last [] bs all = sym (moved-none (place_from peers puts last bs))
from-front peers puts last (u ∷ us) bs all =
    let k = and_parts (is_under u) (list_all is_under us) all in
    ap (λ t. cond t (moved 1 (place_from peers puts (Some u) (us ++ bs))) (or_else (head_place peers puts last u (us ++ bs)) (moved 1 (place_from peers puts (Some u) (us ++ bs))))) k.0
    ∙ ap (moved 1) (from-front peers puts (Some u) us bs k.1)
    ∙ moved-moved 1 (length us) (place_from peers puts (last_of (Some u) us) bs)
    ∙ ap (λ n. moved n (place_from peers puts (last_of (Some u) us) bs)) (omega arith)

-- ---- a block: a line, and those under it

-- behind the last line of a journal
pub place-last : (peers puts : List ℕ) (turn : Bool) (last : Option Outline) (us : List Outline) → list_all is_under us ≡ true → place_behind peers puts turn last us ≡ under_place peers turn 0 us
place-last peers puts turn last us all =
    let same : us ++ [] ≡ us = append-nil us in
    let under : under_lines us ≡ us = ap under_lines (sym same) ∙ under-front us [] all refl in
    let claimed : puts_claimed puts us ≡ 0 = ap (puts_claimed puts) (sym same) ∙ claimed-front puts us [] all in
    let from : place_from peers puts last us ≡ None = ap (place_from peers puts last) (sym same) ∙ from-front peers puts last us [] all in
    ap (λ n. or_else (under_place peers turn n (under_lines us)) (place_from peers puts last us)) claimed
    ∙ ap (λ ls. or_else (under_place peers turn 0 ls) (place_from peers puts last us)) under
    ∙ ap (or_else (under_place peers turn 0 us)) from
    ∙ or-none (under_place peers turn 0 us)

-- behind another
pub place-block : (peers puts : List ℕ) (turn : Bool) (last : Option Outline) (us : List Outline) (l : Outline) (ls : List Outline) → list_all is_under us ≡ true → is_under l ≡ false
    → place_behind peers puts turn last (us ++ l ∷ ls) ≡ or_else (under_place peers turn (puts_of_line puts l) us) (moved (length us) (cond (stands (last_of last us) l) (moved 1 (place_behind peers puts (is_turn l) (Some l) ls)) (Some 0)))
place-block peers puts turn last us l ls all other =
    let none : under_lines (l ∷ ls) ≡ [] = ap (λ t. cond t (l ∷ under_lines ls) []) other in
    let claimed : puts_claimed puts (us ++ l ∷ ls) ≡ puts_of_line puts l = claimed-front puts us (l ∷ ls) all ∙ ap (λ t. cond t (puts_claimed puts ls) (puts_of_line puts l)) other in
    let head : place_from peers puts (last_of last us) (l ∷ ls) ≡ cond (stands (last_of last us) l) (moved 1 (place_behind peers puts (is_turn l) (Some l) ls)) (Some 0) =
    ap (λ t. cond t (moved 1 (place_from peers puts (Some l) ls)) (or_else (head_place peers puts (last_of last us) l ls) (moved 1 (place_from peers puts (Some l) ls)))) other
    ∙ step (stands (last_of last us) l)
    in
    ap (λ n. or_else (under_place peers turn n (under_lines (us ++ l ∷ ls))) (place_from peers puts last (us ++ l ∷ ls))) claimed
    ∙ ap (λ xs. or_else (under_place peers turn (puts_of_line puts l) xs) (place_from peers puts last (us ++ l ∷ ls))) (under-front us (l ∷ ls) all none)
    ∙ ap (or_else (under_place peers turn (puts_of_line puts l) us)) (from-front peers puts last us (l ∷ ls) all ∙ ap (moved (length us)) head)
  where
    step : (t : Bool) → or_else (cond t (moved 1 (under_place peers (is_turn l) (puts_claimed puts ls) (under_lines ls))) (Some 0)) (moved 1 (place_from peers puts (Some l) ls)) ≡ cond t (moved 1 (place_behind peers puts (is_turn l) (Some l) ls)) (Some 0)
    step true = moved-or 1 (under_place peers (is_turn l) (puts_claimed puts ls) (under_lines ls)) (place_from peers puts (Some l) ls)
    step false = refl

-- behind either, as a reader finds it
abbrev pub place_ahead : List ℕ → List ℕ → Option Outline → Option (Outline × Bor (List ℕ)) → Option ℕ
place_ahead peers puts last None = None
place_ahead peers puts last (Some x) = cond (stands last x.0) (moved 1 (place_behind peers puts (is_turn x.0) (Some x.0) (lines_told x.1.now))) (Some 0)

pub place-found : (peers puts : List ℕ) (turn : Bool) (last : Option Outline) (ls us : List Outline) (head : Option (Outline × Bor (List ℕ))) → ls ≡ us ++ told_front (option_map (λ x. (x.0, x.1.now)) head) → list_all is_under us ≡ true → IfSome head (λ x. is_under x.0 ≡ false)
    → place_behind peers puts turn last ls ≡ or_else (under_place peers turn (puts_of_head puts (option_map (λ x. x.0) head)) us) (moved (length us) (place_ahead peers puts (last_of last us) head))
place-found peers puts turn last ls us None same all other = ap (place_behind peers puts turn last) (same ∙ append-nil us) ∙ place-last peers puts turn last us all ∙ sym (or-none (under_place peers turn 0 us))
place-found peers puts turn last ls us (Some x) same all other = ap (place_behind peers puts turn last) same ∙ place-block peers puts turn last us x.0 (lines_told x.1.now) all other

-- how many lines are told in all
pub told-count : (ls us : List Outline) (head : Option (Outline × Bor (List ℕ))) → ls ≡ us ++ told_front (option_map (λ x. (x.0, x.1.now)) head) → length ls ≡ length us + length (told_front (option_map (λ x. (x.0, x.1.now)) head))
told-count ls us head same = ap (λ t. length t) same ∙ length-append us (told_front (option_map (λ x. (x.0, x.1.now)) head))
