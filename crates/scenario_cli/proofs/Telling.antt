-- What a form does with an input, from the write that it makes, or where memory ran out.
use Rattle.std.proofs.Common.{◌≡◌, ◌≢◌, inl, inr, ℕ, ◌≤◌, List, [], ◌∷◌, length, Result, Ok, Err, refl, sym, ap, ◌∙◌, subst, arith}
use Rattle.std.specs.Prelude.{OnOk, OnErr, IsOk}
use Rattle.std.specs.Io.KnownBytes.{Appends}
use Rattle.outer_io.specs.declared.Failed.{Failed}
use Rattle.outer_io.specs.declared.sink.Sink.{Ghosts as SinkGhosts}
use Rattle.outer_io.specs.Faults.{HasCause}
use Rattle.outer_io.specs.Writes.{Writes as WritesText, WritesStop}
use Rattle.scenario_cli.specs.declared.form.Form.{Form}
use Rattle.scenario_cli.specs.declared.form.Form.TheVariants.{Run, SerialRun, Check, Frame, Ring, Relay, Calls}
use Rattle.scenario_cli.specs.Words.{IsOneOf}
use Rattle.scenario_cli.specs.Answers.{Sort, good, bad, other_sort, status_for, IsOfSort, IsAnswer, Stops, Tells, Writes, WritesAtOnce, Unread}

-- ---- statuses

-- a bad input has one of these two
pub bad-is : (form : Form) → IsOneOf (1 ∷ 3 ∷ []) (status_for form bad)
bad-is Run = inr (inl refl)
bad-is SerialRun = inr (inl refl)
bad-is Check = inl refl
bad-is Frame = inl refl
bad-is Ring = inl refl
bad-is Relay = inr (inl refl)
bad-is Calls = inr (inl refl)

-- so an input that was read has no other than these and 0
pub never : (form : Form) (sort : Sort) (n : ℕ) → 0 ≢ n → 1 ≢ n → 3 ≢ n → status_for form sort ≢ n
never form good n zero one three is = zero is
never form bad n zero one three is = go (bad-is form)
  where
    go : IsOneOf (1 ∷ 3 ∷ []) (status_for form bad) → ⊥
    go (inl e) = one (sym e ∙ is)
    go (inr (inl e)) = three (sym e ∙ is)
    go (inr (inr h)) = h

pub never-five : (form : Form) (sort : Sort) → status_for form sort ≢ 5
never-five form sort = never form sort 5 (λ e. omega (arith, e)) (λ e. omega (arith, e)) (λ e. omega (arith, e))

pub never-six : (form : Form) (sort : Sort) → status_for form sort ≢ 6
never-six form sort = never form sort 6 (λ e. omega (arith, e)) (λ e. omega (arith, e)) (λ e. omega (arith, e))

pub never-good : (form : Form) → status_for form bad ≢ 0
never-good form is = go (bad-is form)
  where
    go : IsOneOf (1 ∷ 3 ∷ []) (status_for form bad) → ⊥
    go (inl e) = omega (arith, e, is)
    go (inr (inl e)) = omega (arith, e, is)
    go (inr (inr h)) = h

-- the two sorts have different statuses
pub one-sort : (form : Form) (sort sort' : Sort) → status_for form sort ≡ status_for form sort' → sort ≡ sort'
one-sort form good good is = refl
one-sort form good bad is = absurd (never-good form (sym is))
one-sort form bad good is = absurd (never-good form is)
one-sort form bad bad is = refl

pub not-other : (form : Form) (sort : Sort) → status_for form sort ≢ status_for form (other_sort sort)
not-other form good is = never-good form (sym is)
not-other form bad is = never-good form is

among : (form : Form) (sort : Sort) (status : ℕ) → status ≡ status_for form sort → IsOneOf (0 ∷ status_for form bad ∷ 5 ∷ 6 ∷ []) status
among form good status is = inl is
among form bad status is = inr (inl is)

-- ---- a write

module _ {K : Type 0} (sink : SinkGhosts K) (old new : K) (output : List ℕ) where
  -- what is known of one
  pub record Wrote (r : Result (Unit {0}) Failed) : Type 0 where
    pub bytes : WritesText (sink.written old) (sink.written new) r output
    pub cause : HasCause (sink.faults old) (sink.faults new) r
    pub room : (n : ℕ) → sink.takes old n → length output ≤ n → IsOk r
    pub last : OnErr r (WritesStop (sink.written old) (sink.written new) (sink.calls old) (sink.calls new) output)

  pub wrote-stops : (e : Failed) → Wrote (Err e) → Stops sink old new output
  wrote-stops e wrote = record { part = wrote.bytes; last = wrote.last; no_room = λ n fits takes. cc (wrote.room n takes fits) }

  -- of the output for an input of this sort, which is not of the other
  module _ (form : Form) (sort : Sort) (text : List ℕ) (answer : IsAnswer form sort text output) (unlike : IsOfSort form (other_sort sort) text → ⊥) where
    went : (status : ℕ) → status ≡ status_for form sort → Wrote (Ok tt) → Tells sink form text status old new
    went status is wrote = record {
      statuses = among form sort status is;
      whole = λ sort' same. subst (λ s. (o : List ℕ) × IsAnswer form s text o × Appends (sink.written old) (sink.written new) o) (one-sort form sort sort' (sym is ∙ same)) (output, answer, wrote.bytes);
      stops = λ five. absurd (never-five form sort (sym is ∙ five));
      rose = λ five. absurd (never-five form sort (sym is ∙ five));
      quiet = λ other. wrote.cause.quiet;
      later = wrote.cause.later;
      nothing = λ six. absurd (never-six form sort (sym is ∙ six));
      exact = λ sort' of same. is-of sort' of (one-sort form sort (other_sort sort') (sym is ∙ same));
    }
      where
        is-of : (sort' : Sort) → IsOfSort form sort' text → sort ≡ other_sort sort' → ⊥
        is-of good of e = unlike (subst (λ s. IsOfSort form s text) (sym (ap other_sort e)) of)
        is-of bad of e = unlike (subst (λ s. IsOfSort form s text) (sym (ap other_sort e)) of)

    failed : (status : ℕ) (e : Failed) → status ≡ 5 → Wrote (Err e) → Tells sink form text status old new
    failed status e is wrote = record {
      statuses = inr (inr (inl is));
      whole = λ sort' same. absurd (never-five form sort' (sym same ∙ is));
      stops = λ five. (output, (sort, answer), wrote-stops e wrote);
      rose = λ five. wrote.cause.failed;
      quiet = λ other. absurd (other is);
      later = wrote.cause.later;
      nothing = λ six. let no : 5 ≡ 6 = sym is ∙ six in absurd (omega (arith, no));
      exact = λ sort' of same. never-five form (other_sort sort') (sym same ∙ is);
    }

    pub write-tells : (r : Result (Unit {0}) Failed) (status : ℕ) → OnOk r (status ≡ status_for form sort) → OnErr r (status ≡ 5) → Wrote r → Tells sink form text status old new
    write-tells (Ok x) status whole part wrote = went status whole wrote
    write-tells (Err e) status whole part wrote = failed status e part wrote

-- ---- no memory

pub memory-tells : {K : Type 0} (sink : SinkGhosts K) (form : Form) (text : List ℕ) (old : K) → Tells sink form text 6 old old
memory-tells sink form text old = record {
  statuses = inr (inr (inr (inl refl)));
  whole = λ sort same. absurd (never-six form sort (sym same));
  stops = λ five. absurd (omega (arith, five));
  rose = λ five. absurd (omega (arith, five));
  quiet = λ other. refl;
  later = omega arith;
  nothing = λ six. refl;
  exact = λ sort of same. never-six form (other_sort sort) (sym same);
}

-- ---- with no input

module _ {K : Type 0} (sink : SinkGhosts K) (old new : K) (text : List ℕ) where
  text-whole : (r : Result (Unit {0}) Failed) (status done : ℕ) → OnOk r (status ≡ done) → OnErr r (status ≡ 5) → done ≢ 5 → Wrote sink old new text r → status ≡ done → Appends (sink.written old) (sink.written new) text
  text-whole (Ok x) status done whole part differ wrote is = wrote.bytes
  text-whole (Err e) status done whole part differ wrote is = absurd (differ (sym is ∙ part))

  text-stops : (r : Result (Unit {0}) Failed) (status done : ℕ) → OnOk r (status ≡ done) → OnErr r (status ≡ 5) → done ≢ 5 → Wrote sink old new text r → status ≡ 5 → Stops sink old new text
  text-stops (Ok x) status done whole part differ wrote is = absurd (differ (sym whole ∙ is))
  text-stops (Err e) status done whole part differ wrote is = wrote-stops sink old new text e wrote

  pub text-writes : (r : Result (Unit {0}) Failed) (status done : ℕ) → OnOk r (status ≡ done) → OnErr r (status ≡ 5) → done ≢ 5 → Wrote sink old new text r → WritesAtOnce sink text done status old new
  text-writes r status done whole part differ wrote = record {
    statuses = at r whole part;
    whole = text-whole r status done whole part differ wrote;
    stops = text-stops r status done whole part differ wrote;
  }
    where
      at : (r : Result (Unit {0}) Failed) → OnOk r (status ≡ done) → OnErr r (status ≡ 5) → IsOneOf (done ∷ 5 ∷ []) status
      at (Ok x) whole part = inl whole
      at (Err e) whole part = inr (inl part)

  pub unread-of : (r : Result (Unit {0}) Failed) (status done : ℕ) → OnOk r (status ≡ done) → OnErr r (status ≡ 5) → IsOneOf (0 ∷ 2 ∷ []) done → Wrote sink old new text r → Unread sink status old new
  unread-of (Ok x) status done whole part one wrote = record {
    statuses = among_two one;
    rose = λ five. absurd (not-of one 5 (λ e. omega (arith, e)) (λ e. omega (arith, e)) (sym whole ∙ five));
    quiet = λ other. wrote.cause.quiet;
    later = wrote.cause.later;
    nothing = λ six. absurd (not-of one 6 (λ e. omega (arith, e)) (λ e. omega (arith, e)) (sym whole ∙ six));
  }
    where
      among_two : IsOneOf (0 ∷ 2 ∷ []) done → IsOneOf (0 ∷ 2 ∷ 5 ∷ 6 ∷ []) status
      among_two (inl e) = inl (whole ∙ e)
      among_two (inr (inl e)) = inr (inl (whole ∙ e))
      among_two (inr (inr h)) = absurd h

      not-of : IsOneOf (0 ∷ 2 ∷ []) done → (n : ℕ) → 0 ≢ n → 2 ≢ n → done ≢ n
      not-of (inl e) n zero two is = zero (sym e ∙ is)
      not-of (inr (inl e)) n zero two is = two (sym e ∙ is)
      not-of (inr (inr h)) n zero two is = h
  unread-of (Err e) status done whole part one wrote = record {
    statuses = inr (inr (inl part));
    rose = λ five. wrote.cause.failed;
    quiet = λ other. absurd (other part);
    later = wrote.cause.later;
    nothing = λ six. let no : 5 ≡ 6 = sym part ∙ six in absurd (omega (arith, no));
  }

pub or-memory : {K : Type 0} (sink : SinkGhosts K) (text : List ℕ) (done status : ℕ) (old new : K) → WritesAtOnce sink text done status old new → Writes sink text done status old new
or-memory sink text done status old new wrote = record { statuses = at wrote.statuses; whole = wrote.whole; stops = wrote.stops }
  where
    at : IsOneOf (done ∷ 5 ∷ []) status → IsOneOf (done ∷ 5 ∷ 6 ∷ []) status
    at (inl e) = inl e
    at (inr (inl e)) = inr (inl e)
    at (inr (inr h)) = absurd h

pub memory-unread : {K : Type 0} (sink : SinkGhosts K) (old : K) → Unread sink 6 old old
memory-unread sink old = record { statuses = inr (inr (inr (inl refl))); rose = λ five. absurd (omega (arith, five)); quiet = λ other. refl; later = omega arith; nothing = λ six. refl }

pub memory-writes : {K : Type 0} (sink : SinkGhosts K) (text : List ℕ) (old : K) → Writes sink text 0 6 old old
memory-writes sink text old = record { statuses = inr (inr (inl refl)); whole = λ zero. absurd (omega (arith, zero)); stops = λ five. absurd (omega (arith, five)) }

-- no load ends as the usage does
pub no-usage : {K : Type 0} (sink : SinkGhosts K) (text : List ℕ) (status : ℕ) (old new : K) → Writes sink text 0 status old new → status ≢ 2
no-usage sink text status old new wrote two = go wrote.statuses
  where
    go : IsOneOf (0 ∷ 5 ∷ 6 ∷ []) status → ⊥
    go (inl e) = omega (arith, e, two)
    go (inr (inl e)) = omega (arith, e, two)
    go (inr (inr (inl e))) = omega (arith, e, two)
    go (inr (inr (inr h))) = h
