-- Lane by lane: what the frames that a domain puts say is what its sends had accepted, and what the frames that it takes say is what
-- they bring.
use Rattle.board_model.proofs.PartReadings.{Closed, readings-join}
use Rattle.board_model.specs.Parts.{readings, coming, said_from}
use Rattle.std.proofs.Common.{◌≡◌, ℕ, ◌+◌, Bool, true, false, cond, List, [], ◌∷◌, ◌++◌, map, find, Option, Some, None, refl, sym, ap, ◌∙◌, subst, arith}
use Rattle.std.specs.Prelude.{count_by, is_some, ◌==◌}
use Rattle.std.specs.List.{AllByRecursion}
use Rattle.std.proofs.lemmas.Bool.{eqb-true, eq-eqb, ne_eqb}
use Rattle.std.proofs.lemmas.List.{append-nil}
use Rattle.mc_base.specs.Reading.{reading, Reading}
use Rattle.board_model.specs.LinkedBoard.{Differ}
use Rattle.board_model.specs.State.{Peer, DomainState, is_numbered}
use Rattle.board_model.specs.Deeds.{Deed, looks_back, puts_owed, looks_ahead, takes, calls, after_deed, along}
use Rattle.board_model.specs.Messages.{Message, said_by, messages_in}
use Rattle.board_model.proofs.DeedRuns.{frames_if, says_by}
use Rattle.board_model.proofs.ListsApart.{all-unmap}
use Rattle.board_model.proofs.ListsCounts.{count-append}
use Rattle.board_model.proofs.MessageAlls.{all-found, all-with, found-passes}
use Rattle.board_model.proofs.MessageOnce.{total, total-same, total-zero, total-sum, times, total-once, one_off, one_on, none_same}
use Rattle.board_model.proofs.KeptDeeds.{brought_by}

-- ---- numbers that come once

abbrev pub IsOnce : List ℕ → ℕ → Type 0
IsOnce ns n = times (λ m. m) n ns ≡ 1

pub each_once : (ns : List ℕ) → Differ ns → AllByRecursion (IsOnce ns) ns
each_once [] differ = tt
each_once (n ∷ ns) differ = (
  one_on (n == n) (times (λ k. k) n ns) (eq-eqb n n refl) (none_same n ns differ.0),
  all-with (λ m. m ≡ n → ⊥) (IsOnce ns) (IsOnce (n ∷ ns)) (λ m other once. one_off (m == n) (times (λ k. k) m ns) (ne_eqb m n (λ same. other same)) ∙ once) ns differ.0 (each_once ns differ.1),
)

pub peer_once : (ns : List ℕ) (q : ℕ) (ps : List Peer) → Differ ns → map (λ p. p.number) ps ≡ ns → is_some (find (is_numbered q) ps) ≡ true → IsOnce ns q
peer_once ns q ps differ are some = go (find (is_numbered q) ps) refl some
  where
    all : AllByRecursion (λ (p : Peer). IsOnce ns p.number) ps
    all = all-unmap (IsOnce ns) (λ (p : Peer). p.number) ps (subst (λ ms. AllByRecursion (IsOnce ns) ms) (sym are) (each_once ns differ))

    go : (x : Option Peer) → find (is_numbered q) ps ≡ x → is_some x ≡ true → IsOnce ns q
    go None is some = absurd cc
    go (Some p) is some = subst (IsOnce ns) (eqb-true p.number q (found-passes (is_numbered q) ps p is)) (all-found (λ (x : Peer). IsOnce ns x.number) (is_numbered q) ps p all is)

-- a frame is taken from one of these
abbrev pub IsFrom : List ℕ → Deed → Type 0
IsFrom ns (takes q name frame word) = IsOnce ns q
IsFrom ns other = Unit {0}

-- ---- frames of a lane

module _ (test : Message → Bool) where
  -- how many messages of frames from a to b pass the test
  abbrev pub saying : ℕ → ℕ → List Reading → ℕ
  saying a b rs = count_by test (messages_in a b rs)

  abbrev pub passing : ℕ → ℕ → List (List ℕ) → ℕ
  passing a b frames = saying a b (readings None frames)

  pub saying-append : (a b : ℕ) (xs ys : List Reading) → saying a b (xs ++ ys) ≡ saying a b xs + saying a b ys
  saying-append a b [] ys = omega arith
  saying-append a b (x ∷ xs) ys = omega (arith, count-append test (said_by a b x) (messages_in a b (xs ++ ys)), count-append test (said_by a b x) (messages_in a b xs), saying-append a b xs ys)

  pub passing-append : (a b : ℕ) (fs gs : List (List ℕ)) → Closed fs → passing a b (fs ++ gs) ≡ passing a b fs + passing a b gs
  passing-append a b fs gs closed = ap (saying a b) (readings-join fs gs closed) ∙ saying-append a b (readings None fs) (readings None gs)

  one_said : (b : Bool) (a c : ℕ) (r : Reading) → saying a c (cond b (r ∷ []) []) ≡ cond b (saying a c (r ∷ [])) 0
  one_said true a c r = refl
  one_said false a c r = refl

  pub one_frame : (b : Bool) (a c : ℕ) (f : List ℕ) → passing a c (frames_if b (f ∷ [])) ≡ cond b (passing a c (f ∷ [])) 0
  one_frame true a c f = refl
  one_frame false a c f = refl

  pub said_alone : (a c : ℕ) (f : List ℕ) → passing a c (f ∷ []) ≡ count_by test (said_by a c (coming None (reading f)).reading)
  said_alone a c f = ap (count_by test) (append-nil (said_by a c (coming None (reading f)).reading))

  -- a frame that is put to one of these, or taken from it, is on one lane
  pub lane_once : (ns : List ℕ) (q : ℕ) (g : ℕ → ℕ) → IsOnce ns q → total (λ n. cond (q == n) (g n) 0) ns ≡ g q
  lane_once ns q g once = total-once (λ m. m) q g (g q) (λ n is. ap g is) ns once

  -- ---- what is brought

  deed_brings : (r : ℕ) (ns : List ℕ) (s : DomainState) (d : Deed) → IsFrom ns d → count_by test (brought_by r s d) ≡ total (λ n. saying n r (says_by n s d)) ns
  deed_brings r ns s (takes q name frame word) once =
      let x : Reading = said_from s q frame in
      sym (total-same (λ n. saying n r (cond (q == n) (x ∷ []) [])) (λ n. cond (q == n) (saying n r (x ∷ [])) 0) (λ n. one_said (q == n) n r x) ns
      ∙ (lane_once ns q (λ n. saying n r (x ∷ [])) once ∙ ap (count_by test) (append-nil (said_by q r x))))
  deed_brings r ns s (looks_back q n) once = sym (total-zero (λ n. 0) (λ n. refl) ns)
  deed_brings r ns s (puts_owed q frame) once = sym (total-zero (λ n. 0) (λ n. refl) ns)
  deed_brings r ns s (looks_ahead q n) once = sym (total-zero (λ n. 0) (λ n. refl) ns)
  deed_brings r ns s (calls node call a) once = sym (total-zero (λ n. 0) (λ n. refl) ns)

  pub run_brings : (r : ℕ) (ns : List ℕ) (s : DomainState) (ds : List Deed) → AllByRecursion (IsFrom ns) ds → count_by test (along (brought_by r) s ds) ≡ total (λ n. saying n r (along (says_by n) s ds)) ns
  run_brings r ns s [] from = sym (total-zero (λ n. 0) (λ n. refl) ns)
  run_brings r ns s (d ∷ ds) from =
      let t : DomainState = after_deed s d in
      let parts : total (λ n. saying n r (along (says_by n) s (d ∷ ds))) ns ≡ total (λ n. saying n r (says_by n s d)) ns + total (λ n. saying n r (along (says_by n) t ds)) ns
      = total-sum (λ n. saying n r (along (says_by n) s (d ∷ ds))) (λ n. saying n r (says_by n s d)) (λ n. saying n r (along (says_by n) t ds)) (λ n. saying-append n r (says_by n s d) (along (says_by n) t ds)) ns in
      omega (arith, parts, count-append test (brought_by r s d) (along (brought_by r) (after_deed s d) ds), deed_brings r ns s d from.0, run_brings r ns (after_deed s d) ds from.1)
