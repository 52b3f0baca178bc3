-- What the lines of a journal tell of the messages that its frames put: each frame is put to a neighbour, so the lines are counted lane
-- by lane.
use Rattle.std.proofs.Common.{◌≡◌, ◌⊎◌, inl, inr, ℕ, ◌+◌, ◌≤◌, Bool, true, false, cond, List, [], ◌∷◌, ◌++◌, refl, sym, ap, ◌∙◌, subst, arith}
use Rattle.std.specs.Prelude.{count_by, is_some, ◌==◌}
use Rattle.std.specs.List.{AllByRecursion, flat_map}
use Rattle.std.proofs.lemmas.Bool.{eqb-true, eq-eqb}
use Rattle.board_model.specs.LinkedBoard.{Differ}
use Rattle.board_model.specs.Journal.{PlainEntry, turned, put, again, waits, called, Visit, turn_line, taken_line, visit_lines, joined}
use Rattle.board_model.specs.State.{DomainState}
use Rattle.board_model.specs.Answer.{puts}
use Rattle.board_model.specs.Deeds.{Deed, looks_back, puts_owed, looks_ahead, takes, calls, after_deed, after_deeds, MayDo, AllMayDo, along}
use Rattle.board_model.specs.Traffic.{visits_to, puts_in, put_to}
use Rattle.board_model.specs.Messages.{carries_message}
use Rattle.board_model.specs.Tallies.{is_sent_line}
use Rattle.board_model.proofs.DeedRuns.{frames_if, frames_to, puts_by}
use Rattle.board_model.proofs.ListsCounts.{count-cons, count-append}
use Rattle.board_model.proofs.ListsJoined.{entry_lines}
use Rattle.board_model.proofs.MessageAlls.{all-weaken}
use Rattle.board_model.proofs.MessageCanSend.{HasPeer, puts-found}
use Rattle.board_model.proofs.MessageLines.{joined-count}
use Rattle.board_model.proofs.MessageOnce.{total, total-same, total-zero, total-sum, times}
use Rattle.board_model.proofs.MessageVisitLines.{count-never, visit_lines_count}
use Rattle.board_model.proofs.HonestSound.{Sound}
use Rattle.board_model.proofs.HonestDeeds.{HearsDeed, sound_deed}
use Rattle.board_model.proofs.HonestRuns.{anything, hears_anything, given_deeds}
use Rattle.board_model.proofs.KeptLanes.{IsOnce, peer_once, lane_once}
use Rattle.board_model.proofs.KeptLines.{any}

-- frames that are none, or of one of these lanes
abbrev pub AreOn : List ℕ → ℕ → List (List ℕ) → Type 0
AreOn ns q fs = (fs ≡ []) ⊎ IsOnce ns q

-- ---- a run of deeds puts frames to peers alone

module _ (made : ℕ) (ns : List ℕ) (differ : Differ ns) (q : ℕ) where
  none_if : (p : ℕ) (f : List ℕ) → (IsOnce ns q → ⊥) → IsOnce ns p → frames_if (p == q) (f ∷ []) ≡ []
  none_if p f never once = go (p == q) refl
    where
      go : (b : Bool) → (p == q) ≡ b → frames_if b (f ∷ []) ≡ []
      go true is = absurd (never (subst (IsOnce ns) (eqb-true p q is) once))
      go false is = refl

  none_of : (xs : List (ℕ × List ℕ)) → (IsOnce ns q → ⊥) → AllByRecursion (λ x. IsOnce ns x.0) xs → frames_to q xs ≡ []
  none_of [] never all = refl
  none_of (x ∷ xs) never all = ap (λ fs. fs ++ frames_to q xs) (none_if x.0 x.1 never all.0) ∙ none_of xs never all.1

  none_by : (s : DomainState) (d : Deed) → Sound made anything ns s → MayDo s d → (IsOnce ns q → ⊥) → puts_by q s d ≡ []
  none_by s (looks_back p n) sound may never = refl
  none_by s (looks_ahead p n) sound may never = refl
  none_by s (takes p name frame word) sound may never = refl
  none_by s (puts_owed p frame) sound may never = none_if p frame never (peer_once ns p s.peers differ sound.numbers (ap is_some may.2))
  none_by s (calls node call a) sound may never =
      none_of (puts s node call) never (all-weaken (HasPeer s) (λ x. IsOnce ns x.0) (λ x found. peer_once ns x.0 s.peers differ sound.numbers found) (puts s node call) (puts-found s node call))

  none_along : (s : DomainState) (ds : List Deed) → AllMayDo s ds → (after_deeds s ds).endpoints_given ≤ made → Sound made anything ns s → (IsOnce ns q → ⊥) → along (puts_by q) s ds ≡ []
  none_along s [] may within sound never = refl
  none_along s (d ∷ ds) may within sound never =
      let t : DomainState = after_deed s d in
      let hears : HearsDeed anything d = (hears_anything (d ∷ [])).0 in
      ap (λ fs. fs ++ along (puts_by q) t ds) (none_by s d sound may.0 never) ∙ none_along t ds may.1 within (sound_deed made anything ns s sound d hears (omega (arith, given_deeds t ds))) never

  pub run_on : (s : DomainState) (ds : List Deed) → AllMayDo s ds → (after_deeds s ds).endpoints_given ≤ made → Sound made anything ns s → AreOn ns q (along (puts_by q) s ds)
  run_on s ds may within sound = go (times (λ m. m) q ns == 1) refl
    where
      go : (b : Bool) → (times (λ m. m) q ns == 1) ≡ b → AreOn ns q (along (puts_by q) s ds)
      go true is = inr (eqb-true (times (λ m. m) q ns) 1 is)
      go false is = inl (none_along s ds may within sound (λ once. let yes_it : (times (λ m. m) q ns == 1) ≡ true = eq-eqb (times (λ m. m) q ns) 1 once in absurd cc))

-- ---- so the lines are counted lane by lane

module _ (ns : List ℕ) where
  abbrev carried : List (List ℕ) → ℕ
  carried fs = count_by carries_message fs

  none_carried : (q : ℕ) (fs : List (List ℕ)) → fs ≡ [] → (n : ℕ) → cond (q == n) (carried fs) 0 ≡ 0
  none_carried q fs none n = ap (λ (gs : List (List ℕ)). cond (q == n) (carried gs) 0) none ∙ go (q == n)
    where
      go : (b : Bool) → cond {A = ℕ} b 0 0 ≡ 0
      go true = refl
      go false = refl

  on_lane : (q : ℕ) (fs : List (List ℕ)) → AreOn ns q fs → total (λ n. cond (q == n) (carried fs) 0) ns ≡ carried fs
  on_lane q fs (inl none) = total-zero (λ n. cond (q == n) (carried fs) 0) (none_carried q fs none) ns ∙ sym (ap (λ (gs : List (List ℕ)). carried gs) none)
  on_lane q fs (inr once) = lane_once any ns q (λ n. carried fs) once

  front_on : (q : ℕ) (fs gs : List (List ℕ)) → AreOn ns q (fs ++ gs) → AreOn ns q fs
  front_on q [] gs on = inl refl
  front_on q (f ∷ fs) gs (inl none) = absurd cc
  front_on q (f ∷ fs) gs (inr once) = inr once

  back_on : (q : ℕ) (fs gs : List (List ℕ)) → AreOn ns q (fs ++ gs) → AreOn ns q gs
  back_on q [] gs on = on
  back_on q (f ∷ fs) gs (inl none) = absurd cc
  back_on q (f ∷ fs) gs (inr once) = inr once

  -- ---- visits

  abbrev owed_to : ℕ → List Visit → List (List ℕ)
  owed_to q vs = flat_map (λ v. v.owed) (visits_to q vs)

  owed_here : (b : Bool) (v : Visit) (vs : List Visit) → carried (flat_map (λ u. u.owed) (cond b (v ∷ vs) vs)) ≡ cond b (carried v.owed) 0 + carried (flat_map (λ u. u.owed) vs)
  owed_here true v vs = count-append carries_message v.owed (flat_map (λ u. u.owed) vs)
  owed_here false v vs = omega arith

  visit_on : (v : Visit) (vs : List Visit) → AreOn ns v.peer (owed_to v.peer (v ∷ vs)) → AreOn ns v.peer v.owed
  visit_on v vs on = go (v.peer == v.peer) (eq-eqb v.peer v.peer refl) on
    where
      go : (b : Bool) → b ≡ true → AreOn ns v.peer (flat_map (λ u. u.owed) (cond b (v ∷ visits_to v.peer vs) (visits_to v.peer vs))) → AreOn ns v.peer v.owed
      go true is k = front_on v.peer v.owed (flat_map (λ u. u.owed) (visits_to v.peer vs)) k
      go false is k = absurd cc

  later_on : (q : ℕ) (v : Visit) (vs : List Visit) → AreOn ns q (owed_to q (v ∷ vs)) → AreOn ns q (owed_to q vs)
  later_on q v vs on = go (v.peer == q) on
    where
      go : (b : Bool) → AreOn ns q (flat_map (λ u. u.owed) (cond b (v ∷ visits_to q vs) (visits_to q vs))) → AreOn ns q (owed_to q vs)
      go true k = back_on q v.owed (flat_map (λ u. u.owed) (visits_to q vs)) k
      go false k = k

  visits_sent : (vs : List Visit) → ((q : ℕ) → AreOn ns q (owed_to q vs)) → count_by is_sent_line (flat_map visit_lines vs) ≡ total (λ n. carried (owed_to n vs)) ns
  visits_sent [] on = sym (total-zero (λ (n : ℕ). 0) (λ n. refl) ns)
  visits_sent (v ∷ vs) on =
      let parts : total (λ n. carried (owed_to n (v ∷ vs))) ns ≡ total (λ n. cond (v.peer == n) (carried v.owed) 0) ns + total (λ n. carried (owed_to n vs)) ns
      = total-sum (λ n. carried (owed_to n (v ∷ vs))) (λ n. cond (v.peer == n) (carried v.owed) 0) (λ n. carried (owed_to n vs)) (λ n. owed_here (v.peer == n) v (visits_to n vs)) ns in
      omega (
        arith,
        parts,
        on_lane v.peer v.owed (visit_on v vs (on v.peer)),
        visits_sent vs (λ q. later_on q v vs (on q)),
        count-append is_sent_line (visit_lines v) (flat_map visit_lines vs),
        visit_lines_count is_sent_line v (λ q n. refl) (λ q n. refl),
        count-never (λ t. is_sent_line (taken_line v.peer t)) (λ t. refl) v.takes,
      )

  -- ---- entries

  one_put : (b : Bool) (f : List ℕ) → carried (cond b (f ∷ []) []) ≡ cond b (carried (f ∷ [])) 0
  one_put true f = refl
  one_put false f = refl

  put_on : (q : ℕ) (f : List ℕ) → AreOn ns q (puts_in q (put q f)) → AreOn ns q (f ∷ [])
  put_on q f on = go (q == q) (eq-eqb q q refl) on
    where
      go : (b : Bool) → b ≡ true → AreOn ns q (cond b (f ∷ []) []) → AreOn ns q (f ∷ [])
      go true is k = k
      go false is k = absurd cc

  entry_sent : (e : PlainEntry) → ((q : ℕ) → AreOn ns q (puts_in q e)) → count_by is_sent_line (entry_lines e) ≡ total (λ n. carried (puts_in n e)) ns
  entry_sent (turned vs) on = count-cons is_sent_line turn_line (flat_map visit_lines vs) ∙ omega (arith, visits_sent vs on)
  entry_sent (put q f) on =
      sym (total-same (λ n. carried (puts_in n (put q f))) (λ n. cond (q == n) (carried (f ∷ [])) 0) (λ n. one_put (q == n) f) ns ∙ on_lane q (f ∷ []) (put_on q f (on q)))
  entry_sent (again word) on = sym (total-zero (λ (n : ℕ). 0) (λ n. refl) ns)
  entry_sent (waits k) on = sym (total-zero (λ (n : ℕ). 0) (λ n. refl) ns)
  entry_sent (called k a) on = sym (total-zero (λ (n : ℕ). 0) (λ n. refl) ns)

  entries_sent : (es : List PlainEntry) → ((q : ℕ) → AreOn ns q (put_to q es)) → count_by is_sent_line (flat_map entry_lines es) ≡ total (λ n. carried (put_to n es)) ns
  entries_sent [] on = sym (total-zero (λ (n : ℕ). 0) (λ n. refl) ns)
  entries_sent (e ∷ es) on =
      let parts : total (λ n. carried (put_to n (e ∷ es))) ns ≡ total (λ n. carried (puts_in n e)) ns + total (λ n. carried (put_to n es)) ns
      = total-sum (λ n. carried (put_to n (e ∷ es))) (λ n. carried (puts_in n e)) (λ n. carried (put_to n es)) (λ n. count-append carries_message (puts_in n e) (put_to n es)) ns in
      omega (
        arith,
        parts,
        entry_sent e (λ q. front_on q (puts_in q e) (put_to q es) (on q)),
        entries_sent es (λ q. back_on q (puts_in q e) (put_to q es) (on q)),
        count-append is_sent_line (entry_lines e) (flat_map entry_lines es),
      )

  pub sent-told : (es : List PlainEntry) → ((q : ℕ) → AreOn ns q (put_to q es)) → count_by is_sent_line (joined es) ≡ total (λ n. carried (put_to n es)) ns
  sent-told es on = joined-count is_sent_line (record { idle = λ k. refl; again = λ w. refl; spin = λ k w. refl; turn = refl }) es ∙ entries_sent es on
