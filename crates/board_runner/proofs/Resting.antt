-- What is known where one station is exchanged for another of its number: all but what the domain there did since.
use Rattle.std.proofs.Common.{◌≡◌, ◌≢◌, ℕ, Bool, cond, List, slice_get, slice_set, Some, refl, sym, ap, ◌∙◌, subst, inl, inr, arith, eq-eqb, ne_eqb}
use Rattle.std.specs.Prelude.{◌==◌}
use Rattle.std.proofs.lemmas.Bool.Decides.{eqb_tells}
use Rattle.board_model.specs.declared.scenario.DomainLine.{DomainLine}
use Rattle.board_model.specs.declared.scenario.Scenario.{Scenario}
use Rattle.board_model.specs.Language.{IsLawfulBoard}
use Rattle.board_model.specs.Scenario.{lanes, rising}
use Rattle.board_model.proofs.LawfulBoards.{lawful_is_linked}
use Rattle.board_model.proofs.MessageAlls.{all-weaken}
use Rattle.domain_core.specs.AllMoved.{AllMoved}
use Rattle.domain_core.specs.LaneMoves.{LaneMove}
use Rattle.board_runner.specs.declared.station.Station.{Station}
use Rattle.board_runner.specs.Near.{Near, near_among, near_of, peers_of, EndsMatch}
use Rattle.board_runner.specs.Carried.{HasCome, IsTrue, Knows, KnowsTruly, DidNothing, OthersCarried, StayCarried}
use Rattle.board_runner.specs.Runs.{AllCarried, CarriedBut, KnowsTrulyAt}
use Rattle.board_runner.specs.Stations.{near, LaneJoins, IsBoard, IsOnBoard}
use Rattle.board_runner.proofs.AllCarried.{come-still}
use Rattle.board_runner.proofs.ExactVisits.{knows-moved}
use Rattle.board_runner.proofs.RunBoards.{board-differ, matched-at, stations-put}
use Rattle.board_runner.proofs.RunCarried.{did-nothing}
use Rattle.board_runner.proofs.RunStations.{domains_in, number_in, near-was, near-replaced}
use Rattle.board_runner.proofs.RunTurns.{joins-replaced}
use Rattle.board_runner.proofs.StationCounts.{place_at, at_place}
use Rattle.board_runner.proofs.StationLemmas.{slice_get-set}
use Rattle.board_runner.proofs.TurnEnds.{Moved, ends-match}

-- the domain at a place moves its ends, and keeps its number and its peers
module _ (s : Scenario) (lawful : IsLawfulBoard s) (old : List Station) (at : ℕ) (st st' : Station) (h : IsBoard s old) (is : slice_get old at ≡ Some st) (number : number_in st' ≡ number_in st) (named : st'.domain_number ≡ st.domain_number)
    (peers : peers_of st'.domain ≡ peers_of st.domain) (moves : List (List LaneMove)) (moved : AllMoved Moved st.domain.ends moves st'.domain.ends) where
  abbrev new : List Station
  new = slice_set old at st'

  matched : EndsMatch (number_in st) (peers_of st.domain) st.domain.ends
  matched = matched-at s old h at st is

  matched' : EndsMatch (number_in st) (peers_of st'.domain) st'.domain.ends
  matched' = subst (λ (ps : List ℕ). EndsMatch (number_in st) ps st'.domain.ends) (sym peers) (ends-match (number_in st) (peers_of st.domain) st.domain.ends moves st'.domain.ends matched moved)

  on_board : (d : DomainLine) → IsOnBoard s d st → IsOnBoard s d st'
  on_board d on = record {
    number = number ∙ on.number;
    domain_number = named ∙ on.domain_number;
    peers = peers ∙ on.peers;
    matched = subst (λ (n : ℕ). EndsMatch n (peers_of st'.domain) st'.domain.ends) on.number matched';
  }

  -- the stations are still those of the board
  pub board-moved : IsBoard s new
  board-moved = record {
    each = stations-put s (rising s) old at st st' h.each is on_board;
    joins = all-weaken (LaneJoins (domains_in old)) (LaneJoins (domains_in new)) (joins-replaced old at st st' moves (board-differ s old h (lawful_is_linked s lawful)) is number moved) (lanes s) h.joins;
  }

  near_now_is : (a b : ℕ) → near (domains_in new) a b ≡ cond (a == number_in st) (near_of st'.domain b) (near (domains_in old) a b)
  near_now_is a b = near-replaced old at st (number_in st) (board-differ s old h (lawful_is_linked s lawful)) is refl st' number a b

  near_here : (b : ℕ) → near (domains_in old) (number_in st) b ≡ near_of st.domain b
  near_here b =
      near-was old at st (number_in st) (board-differ s old h (lawful_is_linked s lawful)) is refl (number_in st) b
      ∙ ap (λ (x : Bool). cond x (near_of st.domain b) (near (domains_in old) (number_in st) b)) (eq-eqb (number_in st) (number_in st) refl)

  near_there : (b : ℕ) → near (domains_in new) (number_in st) b ≡ near_of st'.domain b
  near_there b = near_now_is (number_in st) b ∙ ap (λ (x : Bool). cond x (near_of st'.domain b) (near (domains_in old) (number_in st) b)) (eq-eqb (number_in st) (number_in st) refl)

  near_other : (a b : ℕ) → a ≢ number_in st → near (domains_in new) a b ≡ near (domains_in old) a b
  near_other a b other = near_now_is a b ∙ ap (λ (x : Bool). cond x (near_of st'.domain b) (near (domains_in old) a b)) (ne_eqb a (number_in st) other)

  -- what it knows of the others did not fall
  knows_more : (b : ℕ) → b ≢ number_in st → Knows (near (domains_in old) (number_in st) b) (near (domains_in new) (number_in st) b)
  knows_more b other =
      subst (λ (x : Near). Knows x (near (domains_in new) (number_in st) b)) (sym (near_here b))
      (subst (Knows (near_of st.domain b)) (sym (near_there b ∙ ap (λ (ps : List ℕ). near_among ps st'.domain.ends b) peers)) (knows-moved (number_in st) (peers_of st.domain) st.domain.ends moves st'.domain.ends matched moved b other))

  more_known : (here there there' : Near) → Knows there there' → HasCome here there → HasCome here there'
  more_known here there there' knows come = record { put = omega (arith, knows.come, come.put); given = omega (arith, knows.back, come.given) }

  pub carried-but : AllCarried old → CarriedBut at new
  carried-but all =
      place_at (λ x. OthersCarried (number_in x) (domains_in new)) new at st' (slice_get-set old at st st' is)
      (λ a b other.
      let apart : a ≢ number_in st = λ e. other (e ∙ sym number) in
      subst (λ (x : Near). HasCome x (near (domains_in new) b a)) (sym (near_other a b apart)) (elim (eqb_tells b (number_in st)) [
        | inl own ↦
            subst (λ (q : ℕ). HasCome (near (domains_in old) a q) (near (domains_in new) q a)) (sym own.1)
            (more_known (near (domains_in old) a (number_in st)) (near (domains_in old) (number_in st) a) (near (domains_in new) (number_in st) a) (knows_more a apart) (all a (number_in st)))
        | inr differs ↦ subst (HasCome (near (domains_in old) a b)) (sym (near_other b a differs.1)) (all a b)
      ]))

  -- where it did nothing, all is still known
  pub carried-still : AllCarried old → StayCarried st.domain.ends st'.domain.ends → AllCarried new
  carried-still all stay a b = come-still (near (domains_in old) a b) (near (domains_in old) b a) (near (domains_in new) a b) (near (domains_in new) b a) (alike a b) (alike b a) (all a b)
    where
      alike : (x y : ℕ) → DidNothing (near (domains_in old) x y) (near (domains_in new) x y)
      alike x y = elim (eqb_tells x (number_in st)) [
        | inl own ↦
            subst (λ (q : ℕ). DidNothing (near (domains_in old) q y) (near (domains_in new) q y)) (sym own.1)
            (subst (λ (n : Near). DidNothing n (near (domains_in new) (number_in st) y)) (sym (near_here y))
            (subst (DidNothing (near_of st.domain y)) (sym (near_there y ∙ ap (λ (ps : List ℕ). near_among ps st'.domain.ends y) peers)) (stay (peers_of st.domain) y)))
        | inr other ↦ did-nothing (near (domains_in old) x y) (near (domains_in new) x y) (near_other x y other.1)
      ]

  -- what it knows is true, by what the others did before
  pub true-here : KnowsTrulyAt at new → (p : ℕ) → p ≢ number_in st → IsTrue (near_of st'.domain p) (near (domains_in old) p (number_in st))
  true-here truly p other =
      let h = at_place (λ x. KnowsTruly (number_in x) (domains_in new)) new at st' (slice_get-set old at st st' is) truly p (λ e. other (e ∙ number)) in
      subst (λ (n : ℕ). IsTrue (near_of st'.domain p) (near (domains_in old) p n)) number
      (subst (λ (x : Near). IsTrue (near_of st'.domain p) x) (near_other p (number_in st') other)
      (subst (λ (x : Near). IsTrue x (near (domains_in new) p (number_in st'))) (ap (λ (n : ℕ). near (domains_in new) n p) number ∙ near_there p) h))
