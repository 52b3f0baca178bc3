-- A visit that is the one that is due is allowed, and so is a turn of such visits.
use Rattle.std.proofs.Common.{◌≡◌, ℕ, zero, suc, ◌+◌, ◌-◌, ◌≤◌, min, Bool, true, false, cond, List, [], ◌∷◌, ◌++◌, length, map, Some, None, refl, sym, ap, subst, ◌∙◌, arith, length-append, length-take}
use Rattle.std.specs.Prelude.{nat_lt, replicate}
use Rattle.std.proofs.lemmas.Bool.Decides.{nat_tests}
use Rattle.mc_base.specs.Limits.{turn_limit}
use Rattle.board_model.specs.Journal.{Visit}
use Rattle.board_model.specs.State.{DomainState, Peer, peer_of, held_from}
use Rattle.board_model.specs.TakenFrames.{row_from}
use Rattle.board_model.specs.Deeds.{takes, after_deed, after_deeds}
use Rattle.board_model.specs.Serial.{looks_deeds}
use Rattle.board_model.specs.Turn.{due_frames, IsVisit}
use Rattle.board_model.proofs.VisitLooks.{HaveWords, visit-may}
use Rattle.report_text.specs.StepPass.{due_back, due_see, frames_coming, due_takes, due_at}
use Rattle.report_text.specs.RightRuns.{DueIsAllowed}

-- ---- takes

takes-words : (s : DomainState) (peer : ℕ) (fs : List (List ℕ)) → HaveWords s peer (due_takes s peer fs)
takes-words s peer [] = tt
takes-words s peer (f ∷ fs) = (refl, takes-words (after_deed s (takes peer None f (row_from s peer None f).word)) peer fs)

takes-count : (s : DomainState) (peer : ℕ) (fs : List (List ℕ)) → length (due_takes s peer fs) ≡ length fs
takes-count s peer [] = refl
takes-count s peer (f ∷ fs) = ap suc (takes-count (after_deed s (takes peer None f (row_from s peer None f).word)) peer fs)

length-replicate : {A : Type 0} (n : ℕ) (x : A) → length (replicate n x) ≡ n
length-replicate zero x = refl
length-replicate (suc n) x = ap suc (length-replicate n x)

coming-count : (n : ℕ) (fs : List (List ℕ)) → length (frames_coming n fs) ≡ n
coming-count n fs =
    let filler : List ℕ = 0 ∷ [] in
    omega (arith, length-take n (fs ++ replicate n filler), length-append fs (replicate n filler), length-replicate n filler)

-- ---- the visit

see-fits : (p : Peer) (held n : ℕ) → p.shown + held ≤ p.size → (p.shown ≤ due_see p held n) × (due_see p held n + held ≤ p.size)
see-fits p held n fits = go (nat_lt n p.shown) refl
  where
    go : (b : Bool) → nat_lt n p.shown ≡ b → (p.shown ≤ cond b p.shown (min n (p.size - held))) × (cond b p.shown (min n (p.size - held)) + held ≤ p.size)
    go true is = (omega arith, omega (arith, fits))
    go false is = let low : p.shown ≤ n = grind (arith, nat_tests) in (omega (arith, low, fits), omega (arith, fits))

with-is : (s : DomainState) (v : Visit) (at : Peer) → peer_of s v.peer ≡ Some at → at.shown + held_from v.peer s ≤ at.size → IsVisit s (due_at s v (Some at))
with-is s v at known fits =
    let back : ℕ = due_back at v.back in
    let see : ℕ = due_see at (held_from v.peer s) v.see in
    let owed : List (List ℕ) = due_frames s.number at back in
    let sees = see-fits at (held_from v.peer s) v.see fits in
    let frames : List (List ℕ) = frames_coming (min turn_limit see) (map (λ t. t.frame) v.takes) in
    let looked : DomainState = after_deeds s (looks_deeds v.peer back owed see) in
    record {
      at = at;
      known = known;
      back_fits = omega arith;
      puts_due = refl;
      sees_shown = sees.0;
      see_fits = sees.1;
      takes_first = takes-count looked v.peer frames ∙ coming-count (min turn_limit see) (map (λ t. t.frame) v.takes);
      may = visit-may s (due_at s v (Some at)) at known refl (takes-words looked v.peer frames);
    }

pub due_is_allowed : DueIsAllowed
due_is_allowed s v at known fits = subst (IsVisit s) (sym (ap (due_at s v) known)) (with-is s v at known fits)
