-- What was done with a named state, one deed after the other.
use Rattle.std.proofs.Common.{◌≡◌, ℕ, ◌+◌, ◌^◌, ◌<◌, Bool, cond, List, [], ◌∷◌, ◌++◌, Some, None, refl, sym, ap, ap₂, subst, ◌∙◌, arith, append-nil, append_assoc, zero, suc, eq-eqb, Result, Ok, Err, OnOk}
use Rattle.std.specs.Prelude.{slice_index, ◌==◌}
use Rattle.std.specs.List.{AllByRecursion}
use Rattle.mc_base.specs.declared.fate.Fate.{Fate}
use Rattle.mc_base.specs.declared.refusal.Refusal.{Refusal}
use Rattle.board_model.specs.Answer.{refusal, unless_refused}
use Rattle.board_model.specs.CallChanges.{success_changes, success_returned}
use Rattle.board_model.specs.Change.{changed_all}
use Rattle.board_model.specs.DomainCall.{DomainCall}
use Rattle.board_model.specs.Journal.{PlainAnswer}
use Rattle.board_model.specs.Deeds.{Deed, looks_back, puts_owed, looks_ahead, takes, calls, after_deed, after_deeds, along}
use Rattle.board_model.specs.Returns.{given_by_frame, names_given}
use Rattle.board_model.specs.State.{DomainState, frames_from}
use Rattle.board_model.specs.Unnamed.{no_names, unnamed}
use Rattle.board_model.proofs.DeedJoins.{after-join, along-join}
use Rattle.board_model.proofs.UnnamedDeeds.{deed-unnamed}
use Rattle.board_model.proofs.RenamedCalls.{refusal-renamed}
use Rattle.report_replay.specs.Dealt.{AddsFor}
use Rattle.report_replay.specs.Naming.{AddsItems, names_for}
use Rattle.report_check.specs.NamedStates.{plain, takes_of, takes_in, placed_deed, placed, AreFew, HasDone, GoesOn}
use Rattle.report_check.specs.declared.named_state.NamedState.{NamedState}

-- ---- lists of deeds

pub takes-join : (p : ℕ) (xs ys : List Deed) → takes_in p (xs ++ ys) ≡ takes_in p xs + takes_in p ys
takes-join p [] ys = omega arith
takes-join p (x ∷ xs) ys = omega (arith, takes-join p xs ys)

pub placed-join : (before xs ys : List Deed) → placed before (xs ++ ys) ≡ placed before xs ++ placed (before ++ xs) ys
placed-join before [] ys = ap (λ b. placed b ys) (sym (append-nil before))
placed-join before (x ∷ xs) ys =
    ap (λ ds. placed_deed before x ∷ ds)
    (placed-join (before ++ x ∷ []) xs ys ∙ ap (λ b. placed (before ++ x ∷ []) xs ++ placed b ys) (append_assoc before (x ∷ []) xs))

pub few-before : (xs ys : List Deed) → AreFew (xs ++ ys) → AreFew xs
few-before xs ys few = λ p. let most = few p in omega (arith, most, takes-join p xs ys)

-- ---- what goes on

pub goes-nothing : (s : NamedState) → GoesOn s s []
goes-nothing s = record { plain = refl; named = λ first before few done. subst (λ b. HasDone first b s) (sym (append-nil before)) done }

pub goes-then : (s t u : NamedState) (ds es : List Deed) → GoesOn s t ds → GoesOn t u es → GoesOn s u (ds ++ es)
goes-then s t u ds es one two = record {
  plain = two.plain ∙ (ap (λ x. after_deeds x es) one.plain ∙ sym (after-join (plain s) ds es));
  named = λ first before few done.
      let all : AreFew ((before ++ ds) ++ es) = subst AreFew (sym (append_assoc before ds es)) few in
      subst (λ b. HasDone first b u) (append_assoc before ds es) (two.named first (before ++ ds) all (one.named first before (few-before (before ++ ds) es all) done));
}

-- ---- one deed

-- by a deed of this state, which names its frame, places grow as they should
pub record Grows (s t : NamedState) (d e : Deed) : Type 0 where
  pub state : t.state ≡ after_deed s.state e
  pub taken : (p : ℕ) → p < 8 → slice_index t.taken p ≡ slice_index s.taken p + takes_of p d
  pub given : (p : ℕ) → p < 8 → names_for p t.given ≡ names_for p s.given ++ names_given p s.state e

module _ (s t : NamedState) (d : Deed) (first : DomainState) (before : List Deed) (done : HasDone first before s) (grows : Grows s t d (placed_deed before d)) where
  abbrev e : Deed
  e = placed_deed before d

  all : placed [] (before ++ d ∷ []) ≡ placed [] before ++ e ∷ []
  all = placed-join [] before (d ∷ [])

  pub done-more : HasDone first (before ++ d ∷ []) t
  done-more = record {
    state = grows.state ∙ (ap (λ x. after_deed x e) done.state ∙ (sym (after-join first (placed [] before) (e ∷ [])) ∙ ap (after_deeds first) (sym all)));
    taken = λ p small. let more = grows.taken p small in let so_far = done.taken p small in omega (arith, more, so_far, takes-join p before (d ∷ []));
    given = λ p small.
        grows.given p small
        ∙ (ap₂ (λ (xs ys : List ℕ). xs ++ ys) (done.given p small) (ap (λ x. names_given p x e) done.state ∙ sym (append-nil (names_given p (after_deeds first (placed [] before)) e)))
        ∙ (sym (along-join (names_given p) first (placed [] before) (e ∷ []))
        ∙ ap (along (names_given p) first) (sym all)));
  }

-- looks and puts name no frame, and give nothing back
abbrev pub IsQuiet : Deed → Type 0
IsQuiet (looks_back peer count) = Unit {0}
IsQuiet (puts_owed peer frame) = Unit {0}
IsQuiet (looks_ahead peer count) = Unit {0}
IsQuiet other = ⊥

module _ (s : NamedState) (u : DomainState) where
  quiet_grows : (d : Deed) (before : List Deed) → IsQuiet d → u ≡ after_deed s.state d → Grows s (record s { state = u }) d (placed_deed before d)
  quiet_grows (looks_back peer count) before quiet is = record { state = is; taken = λ p small. omega arith; given = λ p small. sym (append-nil (names_for p s.given)) }
  quiet_grows (puts_owed peer frame) before quiet is = record { state = is; taken = λ p small. omega arith; given = λ p small. sym (append-nil (names_for p s.given)) }
  quiet_grows (looks_ahead peer count) before quiet is = record { state = is; taken = λ p small. omega arith; given = λ p small. sym (append-nil (names_for p s.given)) }
  quiet_grows (takes peer name frame word) before quiet is = absurd quiet
  quiet_grows (calls node call a) before quiet is = absurd quiet

  quiet_plain : (d : Deed) → IsQuiet d → u ≡ after_deed s.state d → unnamed u ≡ after_deed (plain s) d
  quiet_plain (looks_back peer count) quiet is = ap unnamed is ∙ deed-unnamed s.state (looks_back peer count)
  quiet_plain (puts_owed peer frame) quiet is = ap unnamed is ∙ deed-unnamed s.state (puts_owed peer frame)
  quiet_plain (looks_ahead peer count) quiet is = ap unnamed is ∙ deed-unnamed s.state (looks_ahead peer count)
  quiet_plain (takes peer name frame word) quiet is = absurd quiet
  quiet_plain (calls node call a) quiet is = absurd quiet

  pub goes-quiet : (d : Deed) → IsQuiet d → u ≡ after_deed s.state d → GoesOn s (record s { state = u }) (d ∷ [])
  goes-quiet d quiet is = record {
    plain = quiet_plain d quiet is;
    named = λ first before few done. done-more s (record s { state = u }) d first before done (quiet_grows d before quiet is);
  }

-- ---- a frame that is taken

module _ (s t : NamedState) (peer place : ℕ) (frame : List ℕ) (word : Fate) (small : peer < 8) (at : place ≡ slice_index s.taken peer) (state : t.state ≡ after_deed s.state (takes peer (Some place) frame word)) where
  abbrev unnamed_take : Deed
  unnamed_take = takes peer None frame word

  pub goes-take : ((p : ℕ) → p < 8 → slice_index s.taken peer + 1 < 2 ^ 32 → slice_index t.taken p ≡ slice_index s.taken p + cond (peer == p) 1 0)
      → AddsFor peer (given_by_frame s.state peer (Some place) frame word) s.given t.given → GoesOn s t (unnamed_take ∷ [])
  goes-take counts adds = record {
    plain = ap unnamed state ∙ deed-unnamed s.state (takes peer (Some place) frame word);
    named = λ first before few done.
        let name : place ≡ takes_in peer before = at ∙ done.taken peer small in
        let more = few peer in
        let room : slice_index s.taken peer + 1 < 2 ^ 32 = omega (arith, more, done.taken peer small, takes-join peer before (unnamed_take ∷ []), ap (λ (b : Bool). cond {A = ℕ} b 1 0) (eq-eqb peer peer refl)) in
        done-more s t unnamed_take first before done
        (record {
          state = state ∙ ap (λ n. after_deed s.state (takes peer (Some n) frame word)) name;
          taken = λ p within. counts p within room;
          given = λ p within.
              adds p within
              ∙ ap (λ n. names_for p s.given ++ cond (peer == p) (given_by_frame s.state peer (Some n) frame word) []) name;
        });
  }

-- ---- a call that is not refused

module _ (s t : NamedState) (node : ℕ) (call : DomainCall) (none : refusal (plain s) node call ≡ None) (state : t.state ≡ changed_all s.state (success_changes s.state node call)) where
  not_refused : refusal s.state node call ≡ None
  not_refused = sym (refusal-renamed no_names s.state node call) ∙ none

  pub goes-call : (a : PlainAnswer) → t.taken ≡ s.taken → AddsItems (success_returned s.state node call) s.given t.given → GoesOn s t (calls node call a ∷ [])
  goes-call a kept adds = record {
    plain = ap unnamed done ∙ deed-unnamed s.state (calls node call a);
    named = λ first before few has. done-more s t (calls node call a) first before has
        (record {
          state = done;
          taken = λ p small. omega (arith, ap (λ (ns : List ℕ). slice_index ns p) kept);
          given = λ p small. adds p small ∙ ap (λ o. names_for p s.given ++ frames_from p (unless_refused o [] (success_returned s.state node call))) (sym not_refused);
        });
  }
    where
      done : t.state ≡ after_deed s.state (calls node call a)
      done = state ∙ ap (λ o. changed_all s.state (unless_refused o [] (success_changes s.state node call))) (sym not_refused)

-- ---- a call that is refused does nothing

module _ (s : NamedState) (node : ℕ) (call : DomainCall) (word : Refusal) (refused : refusal (plain s) node call ≡ Some word) where
  also_named : refusal s.state node call ≡ Some word
  also_named = sym (refusal-renamed no_names s.state node call) ∙ refused

  pub goes-refused : (a : PlainAnswer) → GoesOn s s (calls node call a ∷ [])
  goes-refused a = record {
    plain = ap (λ o. changed_all (plain s) (unless_refused o [] (success_changes (plain s) node call))) (sym refused);
    named = λ first before few has. done-more s s (calls node call a) first before has
        (record {
          state = ap (λ o. changed_all s.state (unless_refused o [] (success_changes s.state node call))) (sym also_named);
          taken = λ p small. omega arith;
          given = λ p small. sym (append-nil (names_for p s.given)) ∙ ap (λ o. names_for p s.given ++ frames_from p (unless_refused o [] (success_returned s.state node call))) (sym also_named);
        });
  }

-- ---- before the first deed

pub none-index : (ns : List ℕ) (p : ℕ) → AllByRecursion (λ n. n ≡ 0) ns → slice_index ns p ≡ 0
none-index [] p none = refl
none-index (n ∷ ns) zero none = none.0
none-index (n ∷ ns) (suc p) none = none-index ns p none.1

pub on-done : {A E P Q : Type 0} (r : Result A E) → (P → Q) → OnOk r P → OnOk r Q
on-done (Ok a) f h = f h
on-done (Err e) f h = tt
