-- The visits of a turn that is allowed are those that are due.
use Rattle.std.proofs.Common.{◌≡◌, ℕ, ◌+◌, ◌-◌, ◌≤◌, min, false, cond, List, [], ◌∷◌, length, map, None, refl, sym, ap, ap₂, ◌∙◌, arith}
use Rattle.std.specs.Prelude.{nat_lt, replicate}
use Rattle.std.proofs.lemmas.Bool.Decides.{nat_tests}
use Rattle.std.proofs.lemmas.List.{take_at}
use Rattle.mc_base.specs.Limits.{turn_limit}
use Rattle.mc_base.specs.declared.fate.Fate.{Fate}
use Rattle.board_model.specs.Journal.{Taken, taken, Visit}
use Rattle.board_model.specs.State.{DomainState, Peer, held_from}
use Rattle.board_model.specs.TakenFrames.{row_from}
use Rattle.board_model.specs.Deeds.{takes, after_deed}
use Rattle.board_model.specs.Turn.{due_frames, IsVisit, AreVisits, after_visit}
use Rattle.board_model.proofs.VisitLooks.{HaveWords, after_looks, visit-words}
use Rattle.report_text.specs.StepPass.{due_back, due_see, frames_coming, due_takes, due_with, due_at, due_visit, due_visits}

-- ---- takes

takes-due : (s : DomainState) (peer : ℕ) (ts : List Taken) → HaveWords s peer ts → due_takes s peer (map (λ t. t.frame) ts) ≡ ts
takes-due s peer [] h = refl
takes-due s peer (t ∷ ts) h = step (row_from s peer None t.frame).word h.0 (takes-due (after_deed s (takes peer None t.frame t.fate)) peer ts h.1)
  where
    step : (w : Fate) → w ≡ t.fate → due_takes (after_deed s (takes peer None t.frame t.fate)) peer (map (λ u. u.frame) ts) ≡ ts → taken t.frame w ∷ due_takes (after_deed s (takes peer None t.frame w)) peer (map (λ u. u.frame) ts) ≡ t ∷ ts
    step w e rest = ap (λ x. taken t.frame x ∷ due_takes (after_deed s (takes peer None t.frame x)) peer (map (λ u. u.frame) ts)) e ∙ ap (λ us. t ∷ us) rest

frames-count : (ts : List Taken) → length (map (λ t. t.frame) ts) ≡ length ts
frames-count [] = refl
frames-count (t ∷ ts) = let rest = frames-count ts in omega (arith, rest)

coming-are : (n : ℕ) (ts : List Taken) → length ts ≡ n → frames_coming n (map (λ t. t.frame) ts) ≡ map (λ t. t.frame) ts
coming-are n ts e = take_at (map (λ t. t.frame) ts) (replicate n (0 ∷ [])) n (frames-count ts ∙ e)

-- ---- a visit

see-due : (p : Peer) (held n : ℕ) → p.shown ≤ n → n + held ≤ p.size → due_see p held n ≡ n
see-due p held n shown fits =
    let test : nat_lt n p.shown ≡ false = grind (arith, nat_tests) in
    ap (λ b. cond b p.shown (min n (p.size - held))) test ∙ omega (arith, fits)

visit-due : (s : DomainState) (v : Visit) → IsVisit s v → due_visit s v ≡ v
visit-due s v h =
    let back : due_back h.at v.back ≡ v.back = let le = h.back_fits in omega (arith, le) in
    let owed : due_frames s.number h.at (due_back h.at v.back) ≡ v.owed = ap (due_frames s.number h.at) back ∙ sym h.puts_due in
    let see : due_see h.at (held_from v.peer s) v.see ≡ v.see = see-due h.at (held_from v.peer s) v.see h.sees_shown h.see_fits in
    let frames : frames_coming (min turn_limit v.see) (map (λ t. t.frame) v.takes) ≡ map (λ t. t.frame) v.takes = coming-are (min turn_limit v.see) v.takes h.takes_first in
    ap (due_at s v) h.known
    ∙ ap₂ (λ (n : ℕ) (fs : List (List ℕ)). due_with s v n fs (due_see h.at (held_from v.peer s) v.see)) back owed
    ∙ ap (due_with s v v.back v.owed) see
    ∙ ap (λ fs. record v { takes = due_takes (after_looks s v) v.peer fs }) frames
    ∙ ap (λ ts. record v { takes = ts }) (takes-due (after_looks s v) v.peer v.takes (visit-words s v h.may))

pub visits-due : (s : DomainState) (vs : List Visit) → AreVisits s vs → due_visits s vs ≡ vs
visits-due s [] h = refl
visits-due s (v ∷ vs) h =
    ap (λ w. w ∷ due_visits (after_visit s w) vs) (visit-due s v h.0)
    ∙ ap (λ ws. v ∷ ws) (visits-due (after_visit s v) vs h.1)
