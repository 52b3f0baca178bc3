-- The lines of a turn in a text, and the visits that they tell.
use Rattle.std.proofs.Common.{◌≡◌, ℕ, zero, suc, ◌+◌, ◌-◌, ◌<◌, List, [], ◌∷◌, ◌++◌, map, take, Bool, true, false, cond, Option, None, Some, refl, sym, ap, ◌∙◌, arith}
use Rattle.std.specs.Prelude.{sum_by, option_map, option_to_list, ◌==◌}
use Rattle.std.specs.List.{flat_map}
use Rattle.std.proofs.lemmas.List.{map-append}
use Rattle.std.proofs.lemmas.List.Sums.{sum_by-cons}
use Rattle.mc_base.specs.Limits.{turn_limit}
use Rattle.board_model.specs.Journal.{Line, idle_line, again_line, spin_line, turn_line, back_line, put_line, see_line, take_line, wait_line, call_line, taken}
use Rattle.board_model.specs.Unjoined as plain
use Rattle.board_model.specs.Unjoined.{visit_in, takes_in}
use Rattle.mc_journal.specs.LineForms.{line_in}
use Rattle.mc_journal.specs.Readers.{cut_at}
use Rattle.report_text.specs.JournalRead.{line_first, line_before, lines_of_texts}
use Rattle.report_text.specs.LaneLines.{LaneLine, lane_of, lanes_of, back_in}
use Rattle.report_text.specs.StepPass.{frames_coming}
use Rattle.report_text.specs.TextLines.{lines_in}
use Rattle.report_text.proofs.TextCuts.{lines-cut, lines-uncut, cut-again}
use Rattle.report_check.specs.ToldTurns.{see_in, frames_in, IsToldOn, IsToldPeer}
use Rattle.report_check.specs.declared.told_turn.ToldPeer.{ToldPeer}

-- ---- the first line of a text

none-first : (n : ℕ) → lanes_of (take n []) ≡ []
none-first zero = refl
none-first (suc n) = refl

pub lanes-none : (n : ℕ) (text : List ℕ) → cut_at 10 text ≡ None → lanes_of (take n (lines_in text)) ≡ []
lanes-none n [] e = none-first n
lanes-none zero (b ∷ bs) e = refl
lanes-none (suc n) (b ∷ bs) e =
    ap (λ ls. lanes_of (take (suc n) ls)) (lines-uncut b bs e)
    ∙ (ap (λ o. map lane_of (line_first (line_before o) (lines_of_texts (take n [])))) e ∙ none-first n)

pub lanes-first : (n : ℕ) (text : List ℕ) (x : List ℕ × List ℕ) → cut_at 10 text ≡ Some x → 0 < n → lanes_of (take n (lines_in text)) ≡ option_to_list (option_map lane_of (line_in x.0)) ++ lanes_of (take (n - 1) (lines_in x.1))
lanes-first zero text x e some = absurd (omega arith)
lanes-first (suc n) text x e some =
    let less : n ≡ suc n - 1 = omega arith in
    ap (λ ls. lanes_of (take (suc n) ls)) (lines-cut text x e)
    ∙ (ap (λ o. map lane_of (line_first (line_before o) (lines_of_texts (take n (lines_in x.1))))) (cut-again 10 text x [] e)
    ∙ (go (line_in x.0) ∙ ap (λ k. option_to_list (option_map lane_of (line_in x.0)) ++ lanes_of (take k (lines_in x.1))) less))
  where
    go : (o : Option Line) → map lane_of (line_first o (lines_of_texts (take n (lines_in x.1)))) ≡ option_to_list (option_map lane_of o) ++ lanes_of (take n (lines_in x.1))
    go None = refl
    go (Some l) = refl

-- ---- the visits

one-back : (n : ℕ) (l : Line) → back_in n (lane_of l) ≡ plain.back_in n l
one-back n (idle_line k) = refl
one-back n (again_line word) = refl
one-back n (spin_line k word) = refl
one-back n turn_line = refl
one-back n (back_line p k) = refl
one-back n (put_line p frame) = refl
one-back n (see_line p k) = refl
one-back n (take_line p frame fate) = refl
one-back n (wait_line k) = refl
one-back n (call_line k a) = refl

one-see : (n : ℕ) (l : Line) → see_in n (lane_of l) ≡ plain.see_in n l
one-see n (idle_line k) = refl
one-see n (again_line word) = refl
one-see n (spin_line k word) = refl
one-see n turn_line = refl
one-see n (back_line p k) = refl
one-see n (put_line p frame) = refl
one-see n (see_line p k) = refl
one-see n (take_line p frame fate) = refl
one-see n (wait_line k) = refl
one-see n (call_line k a) = refl

one-frame : (n : ℕ) (l : Line) → frames_in n (lane_of l) ≡ map (λ x. x.frame) (takes_in n l)
one-frame n (idle_line k) = refl
one-frame n (again_line word) = refl
one-frame n (spin_line k word) = refl
one-frame n turn_line = refl
one-frame n (back_line p k) = refl
one-frame n (put_line p frame) = refl
one-frame n (see_line p k) = refl
one-frame n (take_line p frame fate) = go (p == n)
  where
    go : (b : Bool) → cond b (frame ∷ []) [] ≡ map (λ x. x.frame) (cond b (taken frame fate ∷ []) [])
    go true = refl
    go false = refl
one-frame n (wait_line k) = refl
one-frame n (call_line k a) = refl

sums : (f : LaneLine → ℕ) (g : Line → ℕ) → ((l : Line) → f (lane_of l) ≡ g l) → (ls : List Line) → sum_by f (map lane_of ls) ≡ sum_by g ls
sums f g same [] = refl
sums f g same (l ∷ ls) = sum_by-cons f (lane_of l) (map lane_of ls) ∙ (ap (λ n. n + sum_by f (map lane_of ls)) (same l) ∙ (ap (λ n. g l + n) (sums f g same ls) ∙ sym (sum_by-cons g l ls)))

frames : (n : ℕ) (ls : List Line) → flat_map (frames_in n) (map lane_of ls) ≡ map (λ x. x.frame) (flat_map (takes_in n) ls)
frames n [] = refl
frames n (l ∷ ls) =
    ap (λ fs. fs ++ flat_map (frames_in n) (map lane_of ls)) (one-frame n l)
    ∙ (ap (λ fs. map (λ x. x.frame) (takes_in n l) ++ fs) (frames n ls) ∙ sym (map-append (λ x. x.frame) (takes_in n l) (flat_map (takes_in n) ls)))

pub told-visit : (n : ℕ) (ls : List Line) (t : ToldPeer) → IsToldOn n (map lane_of ls) t → IsToldPeer t (visit_in ls n)
told-visit n ls t told = record {
  back = told.back ∙ sums (back_in n) (plain.back_in n) (one-back n) ls;
  see = told.see ∙ sums (see_in n) (plain.see_in n) (one-see n) ls;
  frames = told.frames ∙ ap (frames_coming turn_limit) (frames n ls);
}
