-- Idle turns of a named state: by as many as are told nothing is done but looks that leave all as it is.
use Rattle.std.proofs.Common.{◌≡◌, ℕ, zero, suc, ◌≤◌, List, [], ◌∷◌, ◌++◌, refl, sym, ap, ◌∙◌, arith, append-nil}
use Rattle.std.specs.List.{AllByRecursion}
use Rattle.mc_base.specs.declared.refusal.Refusal.{Refusal}
use Rattle.board_model.specs.declared.scenario.CallLine.{CallLine}
use Rattle.board_model.specs.Deeds.{Deed, looks_back, puts_owed, looks_ahead, takes, calls, after_deed, after_deeds, along}
use Rattle.board_model.specs.Returns.{names_given}
use Rattle.board_model.specs.Journal.{again}
use Rattle.board_model.specs.State.{DomainState}
use Rattle.board_model.specs.Step.{RunState, after}
use Rattle.board_model.specs.Unjoined.{times, idle_turn}
use Rattle.board_model.specs.Unnamed.{unnamed}
use Rattle.board_model.proofs.DeedJoins.{after-join, along-join}
use Rattle.report_text.specs.StepPass.{idle_visits}
use Rattle.report_check.specs.NamedStates.{plain, placed, takes_in, GoesOn, deeds_on, turn_deeds}
use Rattle.report_check.specs.declared.named_state.NamedState.{NamedState}
use Rattle.report_check.proofs.NamedLemmas.{goes-then, placed-join, takes-join}

abbrev IsLook : Deed → Type 0
IsLook (looks_back peer count) = Unit {0}
IsLook (looks_ahead peer count) = Unit {0}
IsLook other = ⊥

-- looks change nothing but the peers, whatever frames are named by
looks_peers : (s : DomainState) (ds : List Deed) → AllByRecursion IsLook ds → after_deeds s ds ≡ record s { peers = (after_deeds (unnamed s) ds).peers }
looks_peers s [] all = refl
looks_peers s (looks_back peer count ∷ ds) all = looks_peers (after_deed s (looks_back peer count)) ds all.1
looks_peers s (looks_ahead peer count ∷ ds) all = looks_peers (after_deed s (looks_ahead peer count)) ds all.1
looks_peers s (puts_owed peer frame ∷ ds) all = absurd all.0
looks_peers s (takes peer name frame word ∷ ds) all = absurd all.0
looks_peers s (calls node call a ∷ ds) all = absurd all.0

looks_kept : (s : DomainState) (ds : List Deed) → AllByRecursion IsLook ds → after_deeds (unnamed s) ds ≡ unnamed s → after_deeds s ds ≡ s
looks_kept s ds all kept = looks_peers s ds all ∙ ap (λ (t : DomainState). record s { peers = t.peers }) kept

looks_placed : (before ds : List Deed) → AllByRecursion IsLook ds → placed before ds ≡ ds
looks_placed before [] all = refl
looks_placed before (looks_back peer count ∷ ds) all = ap (λ xs. looks_back peer count ∷ xs) (looks_placed (before ++ looks_back peer count ∷ []) ds all.1)
looks_placed before (looks_ahead peer count ∷ ds) all = ap (λ xs. looks_ahead peer count ∷ xs) (looks_placed (before ++ looks_ahead peer count ∷ []) ds all.1)
looks_placed before (puts_owed peer frame ∷ ds) all = absurd all.0
looks_placed before (takes peer name frame word ∷ ds) all = absurd all.0
looks_placed before (calls node call a ∷ ds) all = absurd all.0

looks_give : (p : ℕ) (s : DomainState) (ds : List Deed) → AllByRecursion IsLook ds → along (names_given p) s ds ≡ []
looks_give p s [] all = refl
looks_give p s (looks_back peer count ∷ ds) all = looks_give p (after_deed s (looks_back peer count)) ds all.1
looks_give p s (looks_ahead peer count ∷ ds) all = looks_give p (after_deed s (looks_ahead peer count)) ds all.1
looks_give p s (puts_owed peer frame ∷ ds) all = absurd all.0
looks_give p s (takes peer name frame word ∷ ds) all = absurd all.0
looks_give p s (calls node call a ∷ ds) all = absurd all.0

looks_take : (p : ℕ) (ds : List Deed) → AllByRecursion IsLook ds → takes_in p ds ≡ 0
looks_take p [] all = refl
looks_take p (looks_back peer count ∷ ds) all = omega (arith, looks_take p ds all.1)
looks_take p (looks_ahead peer count ∷ ds) all = omega (arith, looks_take p ds all.1)
looks_take p (puts_owed peer frame ∷ ds) all = absurd all.0
looks_take p (takes peer name frame word ∷ ds) all = absurd all.0
looks_take p (calls node call a ∷ ds) all = absurd all.0

-- looks that leave all as it is may be told once more
goes_looking : (s : NamedState) (ds : List Deed) → AllByRecursion IsLook ds → after_deeds (plain s) ds ≡ plain s → GoesOn s s ds
goes_looking s ds all kept = record {
  plain = sym kept;
  named = λ first before few done.
      let both : placed [] (before ++ ds) ≡ placed [] before ++ ds = placed-join [] before ds ∙ ap (λ xs. placed [] before ++ xs) (looks_placed before ds all) in
      record {
        state = sym (looks_kept s.state ds all kept) ∙ (ap (λ x. after_deeds x ds) done.state ∙ (sym (after-join first (placed [] before) ds) ∙ ap (after_deeds first) (sym both)));
        taken = λ p small. let so_far = done.taken p small in omega (arith, so_far, takes-join p before ds, looks_take p ds all);
        given = λ p small.
            done.given p small
            ∙ (sym (append-nil (along (names_given p) first (placed [] before)))
            ∙ (ap (λ xs. along (names_given p) first (placed [] before) ++ xs) (sym (looks_give p (after_deeds first (placed [] before)) ds all))
            ∙ (sym (along-join (names_given p) first (placed [] before) ds) ∙ ap (along (names_given p) first) (sym both))));
      };
}

-- ---- idle turns

idle_looks : (peers : List ℕ) → AllByRecursion IsLook (turn_deeds (idle_visits peers))
idle_looks [] = tt
idle_looks (n ∷ ns) = (tt, (tt, idle_looks ns))

module _ (peers : List ℕ) (s t : NamedState) (kept : after_deeds (plain t) (turn_deeds (idle_visits peers)) ≡ plain t) where
  abbrev idle_deeds : List Deed
  idle_deeds = turn_deeds (idle_visits peers)

  again_idle : GoesOn t t idle_deeds
  again_idle = goes_looking t idle_deeds (idle_looks peers) kept

  module _ (script : List CallLine) (once : GoesOn s t idle_deeds) where
    rest_idles : (n : ℕ) (r : RunState) → GoesOn t t (deeds_on script r (times n (idle_turn peers ∷ [])))
    rest_idles zero r = goes_looking t [] tt refl
    rest_idles (suc n) r = goes-then t t t idle_deeds (deeds_on script (after script r (idle_turn peers)) (times n (idle_turn peers ∷ []))) again_idle (rest_idles n (after script r (idle_turn peers)))

    rest_spins : (word : Refusal) (n : ℕ) (r : RunState) → GoesOn t t (deeds_on script r (times n (idle_turn peers ∷ again word ∷ [])))
    rest_spins word zero r = goes_looking t [] tt refl
    rest_spins word (suc n) r =
        let next = after script (after script r (idle_turn peers)) (again word) in
        goes-then t t t idle_deeds (deeds_on script next (times n (idle_turn peers ∷ again word ∷ []))) again_idle (rest_spins word n next)

    -- the first of them was made, and the others are told with it
    pub idles-go : (n : ℕ) (r : RunState) → 1 ≤ n → GoesOn s t (deeds_on script r (times n (idle_turn peers ∷ [])))
    idles-go zero r some = absurd (omega (arith, some))
    idles-go (suc n) r some = goes-then s t t idle_deeds (deeds_on script (after script r (idle_turn peers)) (times n (idle_turn peers ∷ []))) once (rest_idles n (after script r (idle_turn peers)))

    pub spins-go : (word : Refusal) (n : ℕ) (r : RunState) → 1 ≤ n → GoesOn s t (deeds_on script r (times n (idle_turn peers ∷ again word ∷ [])))
    spins-go word zero r some = absurd (omega (arith, some))
    spins-go word (suc n) r some =
        let next = after script (after script r (idle_turn peers)) (again word) in
        goes-then s t t idle_deeds (deeds_on script next (times n (idle_turn peers ∷ again word ∷ []))) once (rest_spins word n next)
