-- Jobs of actors and their stations, place by place: each may start, and what they leave is what the actors leave.
use Rattle.std.proofs.Common.{◌≡◌, ℕ, zero, suc, ◌+◌, ◌<◌, List, [], ◌∷◌, ◌++◌, length, map, refl, sym, subst, ap, ◌∙◌, arith, length-append, append_assoc, append-nil}
use Rattle.std.specs.Prelude.{IfOk, Result, Ok, Err, slice_index_or}
use Rattle.std.specs.List.{remove}
use Rattle.mc_base.specs.declared.refusal.NoMemory.{NoMemory}
use Rattle.board_runner.specs.declared.acting.Acted.{Acted}
use Rattle.board_runner.specs.declared.actor.Actor.{Ghosts}
use Rattle.board_runner.specs.declared.actors.ActorJob.{ActorJob}
use Rattle.board_runner.specs.declared.station.Station.{Station}
use Rattle.board_runner.specs.Acting.{AllActed, AllMayStart, HasActed, MayStart, lines_acted}
use Rattle.board_runner.specs.ActorJobs.{AreActorJobs}

-- ---- making them

-- the first item is taken out
pub first-taken : {A : Type 0} (xs : List A) (x : A) → 0 < length xs → x ≡ slice_index_or xs 0 x → xs ≡ x ∷ remove xs 0
first-taken [] x some is = absurd (omega (arith, some))
first-taken (y ∷ ys) x some is = ap (λ z. z ∷ ys) (sym is)

pub actor-jobs-more : {A : Type 0} (done : List A) (sts : List Station) (js : List (ActorJob A)) (a : A) (st : Station) (j : ActorJob A) → AreActorJobs done sts js → j.actor ≡ a → j.station ≡ st → AreActorJobs (done ++ a ∷ []) (sts ++ st ∷ []) (js ++ j ∷ [])
actor-jobs-more [] [] [] a st j are actor station = (actor, station, tt)
actor-jobs-more [] [] (x ∷ js) a st j are actor station = absurd are
actor-jobs-more [] (y ∷ sts) js a st j are actor station = absurd are
actor-jobs-more (b ∷ done) [] js a st j are actor station = absurd are
actor-jobs-more (b ∷ done) (y ∷ sts) [] a st j are actor station = absurd are
actor-jobs-more (b ∷ done) (y ∷ sts) (x ∷ js) a st j are actor station = (are.0, are.1, actor-jobs-more done sts js a st j are.2 actor station)

pub jobs-long : {A : Type 0} (firsts : List A) (sts : List Station) (js : List (ActorJob A)) → AreActorJobs firsts sts js → length firsts ≡ length sts
jobs-long [] [] [] are = refl
jobs-long [] [] (j ∷ js) are = absurd are
jobs-long [] (st ∷ sts) js are = absurd are
jobs-long (a ∷ firsts) [] js are = absurd are
jobs-long (a ∷ firsts) (st ∷ sts) [] are = absurd are
jobs-long (a ∷ firsts) (st ∷ sts) (j ∷ js) are = ap suc (jobs-long firsts sts js are.2)

-- the jobs so far, and the actors that are left
pub record JobsSoFar {A : Type 0} (firsts left : List A) (sts : List Station) (js : List (ActorJob A)) : Type 0 where
  pub done : List A
  pub all : firsts ≡ done ++ left
  pub jobs : AreActorJobs done sts js

module _ {A : Type 0} (firsts left : List A) (sts : List Station) (js : List (ActorJob A)) (h : JobsSoFar firsts left sts js) where
  -- there is an actor for the next station
  pub one-left : (st : Station) (rest all : List Station) → sts ++ st ∷ rest ≡ all → length firsts ≡ length all → 0 < length left
  one-left st rest all whole same =
      omega (arith, ap length h.all, length-append h.done left, jobs-long h.done sts js h.jobs, ap length whole, length-append sts (st ∷ rest), same)

  pub one-job-more : (a : A) (new : List A) (st : Station) (j : ActorJob A) → left ≡ a ∷ new → j.actor ≡ a → j.station ≡ st → JobsSoFar firsts new (sts ++ st ∷ []) (js ++ j ∷ [])
  one-job-more a new st j taken actor station = record {
    done = h.done ++ a ∷ [];
    all = h.all ∙ ap (λ xs. h.done ++ xs) taken ∙ sym (append_assoc h.done (a ∷ []) new);
    jobs = actor-jobs-more h.done sts js a st j h.jobs actor station;
  }

  -- all stations have jobs, and no actor is left
  pub all-jobs : length firsts ≡ length sts → AreActorJobs firsts sts js
  all-jobs same =
      let none : length left ≡ 0 = omega (arith, ap length h.all, length-append h.done left, jobs-long h.done sts js h.jobs, same) in
      subst (λ (xs : List A). AreActorJobs xs sts js) (sym (h.all ∙ no_more h.done left none)) h.jobs
    where
      no_more : (xs ys : List A) → length ys ≡ 0 → xs ++ ys ≡ xs
      no_more [] [] none = refl
      no_more [] (y ∷ ys) none = absurd (omega (arith, none))
      no_more (x ∷ xs) ys none = ap (λ zs. x ∷ zs) (no_more xs ys none)

-- no station is left
pub none-left : (sts rest all : List Station) → sts ++ rest ≡ all → length rest ≡ 0 → sts ≡ all
none-left sts [] all whole none = sym (append-nil sts) ∙ whole
none-left sts (x ∷ rest) all whole none = absurd (omega (arith, none))

-- ---- running them

-- results that are all `Ok`
abbrev pub all_ok : {A : Type 0} → List (Acted A) → List (Result (Acted A) NoMemory)
all_ok lefts = map Ok lefts

module _ {A R : Type 0} (actor : Ghosts A R) where
  pub may-start-long : (firsts : List A) (sts : List Station) → AllMayStart actor firsts sts → length firsts ≡ length sts
  may-start-long [] [] may = refl
  may-start-long [] (st ∷ sts) may = absurd may
  may-start-long (a ∷ firsts) [] may = absurd may
  may-start-long (a ∷ firsts) (st ∷ sts) may = ap suc (may-start-long firsts sts may.1)

  pub jobs-start : (firsts : List A) (sts : List Station) (js : List (ActorJob A)) → AreActorJobs firsts sts js → AllMayStart actor firsts sts → (i : ℕ) (j : ActorJob A) → i < length js → j ≡ slice_index_or js i j → MayStart actor j.actor j.station
  jobs-start [] [] [] are may i j within is = absurd (omega (arith, within))
  jobs-start [] [] (x ∷ js) are may i j within is = absurd are
  jobs-start [] (st ∷ sts) js are may i j within is = absurd are
  jobs-start (a ∷ firsts) [] js are may i j within is = absurd are
  jobs-start (a ∷ firsts) (st ∷ sts) [] are may i j within is = absurd are
  jobs-start (a ∷ firsts) (st ∷ sts) (x ∷ js) are may zero j within is =
      subst (λ (k : ActorJob A). MayStart actor k.actor k.station) (sym is) (subst (λ (b : A). MayStart actor b x.station) (sym are.0) (subst (λ (y : Station). MayStart actor a y) (sym are.1) may.0))
  jobs-start (a ∷ firsts) (st ∷ sts) (x ∷ js) are may (suc i) j within is = jobs-start firsts sts js are.2 may.1 i j (omega (arith, within)) is

  pub jobs-acted : (firsts : List A) (sts : List Station) (js : List (ActorJob A)) (lefts : List (Acted A)) → AreActorJobs firsts sts js → length (all_ok lefts) ≡ length js
      → ((i : ℕ) (j : ActorJob A) (d : Result (Acted A) NoMemory) → i < length js → j ≡ slice_index_or js i j → IfOk (slice_index_or (all_ok lefts) i d) (HasActed actor j.actor j.station)) → AllActed actor firsts sts lefts
  jobs-acted [] [] [] [] are many acted = tt
  jobs-acted [] [] [] (left ∷ lefts) are many acted = absurd (omega (arith, many))
  jobs-acted [] [] (x ∷ js) lefts are many acted = absurd are
  jobs-acted [] (st ∷ sts) js lefts are many acted = absurd are
  jobs-acted (a ∷ firsts) [] js lefts are many acted = absurd are
  jobs-acted (a ∷ firsts) (st ∷ sts) [] lefts are many acted = absurd are
  jobs-acted (a ∷ firsts) (st ∷ sts) (x ∷ js) [] are many acted = absurd (omega (arith, many))
  jobs-acted (a ∷ firsts) (st ∷ sts) (x ∷ js) (left ∷ lefts) are many acted = (
    subst (λ (b : A). HasActed actor b st left) are.0 (subst (λ (y : Station). HasActed actor x.actor y left) are.1 (acted 0 x (Ok left) (omega arith) refl)),
    jobs-acted firsts sts js lefts are.2 (omega (arith, many)) (λ i j d within is. acted (suc i) j d (omega (arith, within)) is),
  )

-- ---- the lines of all

pub lines-more : {A : Type 0} (lefts : List (Acted A)) (left : Acted A) → lines_acted (lefts ++ left ∷ []) ≡ lines_acted lefts ++ left.lines.items
lines-more [] left = append-nil left.lines.items
lines-more (x ∷ lefts) left = ap (λ ls. x.lines.items ++ ls) (lines-more lefts left) ∙ sym (append_assoc x.lines.items (lines_acted lefts) left.lines.items)
