-- The stations of a board that runs, with one of them in the place of another of its number.
use Rattle.std.proofs.Common.{◌≡◌, ℕ, zero, suc, Bool, true, false, cond, List, [], ◌∷◌, ◌++◌, map, Option, Some, find, option_map, slice_get, slice_set, is_some, refl, sym, ap, ap₂, ◌∙◌, subst, arith, eqb-true}
use Rattle.std.specs.Prelude.{◌==◌}
use Rattle.std.specs.List.{AllByRecursion}
use Rattle.board_model.specs.declared.scenario.DomainLine.{DomainLine}
use Rattle.board_model.specs.declared.scenario.Scenario.{Scenario}
use Rattle.board_model.specs.Scenario.{Neighbour, neighbours, Lane, lanes, rising}
use Rattle.board_model.specs.LinkedBoard.{Differ, IsLinkedBoard}
use Rattle.board_model.specs.State.{DomainState}
use Rattle.board_model.specs.Loads.{Load, frames_in, returned_in}
use Rattle.board_model.specs.SerialRun as run
use Rattle.board_model.specs.SerialRun.{Running}
use Rattle.board_model.proofs.ListsApart.{all-map}
use Rattle.board_model.proofs.MessageAlls.{all-at, all-weaken, found-passes}
use Rattle.board_model.proofs.PlaceBoards.{rising_differ}
use Rattle.board_model.proofs.WholeFinds.{find-mapped}
use Rattle.board_model.proofs.WholeHas.{Has}
use Rattle.board_model.proofs.WholeJoined.{Joined, joined_back, joined_found, has_lane, rising_told, neighbours_join}
use Rattle.board_runner.specs.declared.station.Station.{Station}
use Rattle.board_runner.specs.Near.{Near, RunDomain, near_of}
use Rattle.board_runner.specs.Stations.{domain_of, near_in, near, LaneHolds, IsStation, AreStations, IsRun}
use Rattle.board_runner.proofs.LanesNear.{near_now}
use Rattle.board_runner.proofs.TurnLanes.{Stands, HasBoth}
use Rattle.board_runner.proofs.RunFinds.{some_item, find-at, find-replaced}

abbrev pub domain_in : Station → RunDomain
domain_in st = st.domain

abbrev pub domains_in : List Station → List RunDomain
domains_in sts = map (λ st. st.domain) sts

abbrev pub number_in : Station → ℕ
number_in st = st.domain.state.number

abbrev pub line_number : run.Station → ℕ
line_number t = t.line.domain

-- ---- a station at its place

pub record StationAt (s : Scenario) (ts : List run.Station) (i : ℕ) (st : Station) : Type 0 where
  pub station : run.Station
  pub at : slice_get ts i ≡ Some station
  pub is : IsStation s station st

pub station-at : (s : Scenario) (ts : List run.Station) (sts : List Station) (i : ℕ) (st : Station) → AreStations s ts sts → slice_get sts i ≡ Some st → StationAt s ts i st
station-at s [] [] i st are at = absurd cc
station-at s [] (u ∷ us) i st are at = absurd are
station-at s (t ∷ ts) [] i st are at = absurd are
station-at s (t ∷ ts) (u ∷ us) zero st are at = let same : u ≡ st = cc in record { station = t; at = refl; is = subst (IsStation s t) same are.0 }
station-at s (t ∷ ts) (u ∷ us) (suc i) st are at = let rest = station-at s ts us i st are.1 at in record { station = rest.station; at = rest.at; is = rest.is }

pub stations-replaced : (s : Scenario) (ts : List run.Station) (sts : List Station) (i : ℕ) (t' : run.Station) (st' : Station) → AreStations s ts sts → IsStation s t' st' → AreStations s (slice_set ts i t') (slice_set sts i st')
stations-replaced s [] [] i t' st' are is = tt
stations-replaced s [] (u ∷ us) i t' st' are is = absurd are
stations-replaced s (t ∷ ts) [] i t' st' are is = absurd are
stations-replaced s (t ∷ ts) (u ∷ us) zero t' st' are is = (is, are.1)
stations-replaced s (t ∷ ts) (u ∷ us) (suc i) t' st' are is = (are.0, stations-replaced s ts us i t' st' are.1 is)

-- ---- numbers

pub station-number : (s : Scenario) (t : run.Station) (st : Station) → IsStation s t st → number_in st ≡ t.line.domain
station-number s t st h = ap (λ (x : DomainState). x.number) h.state ∙ h.own

numbers-same : (s : Scenario) (ts : List run.Station) (sts : List Station) → AreStations s ts sts → map number_in sts ≡ map line_number ts
numbers-same s [] [] are = refl
numbers-same s [] (u ∷ us) are = absurd are
numbers-same s (t ∷ ts) [] are = absurd are
numbers-same s (t ∷ ts) (u ∷ us) are = ap₂ (λ (n : ℕ) (ns : List ℕ). n ∷ ns) (station-number s t u are.0) (numbers-same s ts us are.1)

lines-of : (ts : List run.Station) → map (λ d. d.domain) (map (λ t. t.line) ts) ≡ map line_number ts
lines-of [] = refl
lines-of (t ∷ ts) = ap (λ (ns : List ℕ). t.line.domain ∷ ns) (lines-of ts)

module _ (s : Scenario) (board : IsLinkedBoard s) (r : Running) (sts : List Station) (h : IsRun s r sts) where
  pub lines-differ : Differ (map line_number r.stations)
  lines-differ = subst Differ (ap (map (λ (d : DomainLine). d.domain)) (sym h.lines) ∙ lines-of r.stations) (rising_differ s board)

  pub numbers-differ : Differ (map number_in sts)
  numbers-differ = subst Differ (sym (numbers-same s r.stations sts h.each)) lines-differ

-- ---- domains

some_cond : (b : Bool) (st : Station) (o : Option Station) → option_map domain_in (cond b (Some st) o) ≡ cond b (Some st.domain) (option_map domain_in o)
some_cond true st o = refl
some_cond false st o = refl

module _ (sts : List Station) (i : ℕ) (st : Station) (n : ℕ) (differ : Differ (map number_in sts)) (at : slice_get sts i ≡ Some st) (is_n : number_in st ≡ n) where
  pub domain-at : domain_of (domains_in sts) n ≡ Some st.domain
  domain-at = find-mapped (λ d. d.state.number == n) domain_in sts ∙ ap (option_map domain_in) (find-at number_in sts i st n differ at is_n)

  pub domain-replaced : (st' : Station) (m : ℕ) → number_in st' ≡ n → domain_of (domains_in (slice_set sts i st')) m ≡ cond (m == n) (Some st'.domain) (domain_of (domains_in sts) m)
  domain-replaced st' m same =
      find-mapped (λ d. d.state.number == m) domain_in (slice_set sts i st')
      ∙ ap (option_map domain_in) (find-replaced number_in sts i st st' n m differ at is_n same)
      ∙ some_cond (m == n) st' (find (λ u. number_in u == m) sts)
      ∙ ap (cond (m == n) (Some st'.domain)) (sym (find-mapped (λ d. d.state.number == m) domain_in sts))

  -- what stands near it, beside what stands near the others
  pub near-was : (m p : ℕ) → near (domains_in sts) m p ≡ near_now n (near_of st.domain) (near (domains_in sts)) m p
  near-was m p = go (m == n) refl
    where
      go : (b : Bool) → (m == n) ≡ b → near (domains_in sts) m p ≡ cond b (near_of st.domain p) (near (domains_in sts) m p)
      go true e = ap (λ (o : Option RunDomain). near_in o p) (ap (domain_of (domains_in sts)) (eqb-true m n e) ∙ domain-at)
      go false e = refl

  pub near-replaced : (st' : Station) → number_in st' ≡ n → (m p : ℕ) → near (domains_in (slice_set sts i st')) m p ≡ near_now n (near_of st'.domain) (near (domains_in sts)) m p
  near-replaced st' same m p = ap (λ (o : Option RunDomain). near_in o p) (domain-replaced st' m same) ∙ go (m == n)
    where
      go : (b : Bool) → near_in (cond b (Some st'.domain) (domain_of (domains_in sts) m)) p ≡ cond b (near_of st'.domain p) (near (domains_in sts) m p)
      go true = refl
      go false = refl

-- ---- lanes

-- the load of a lane stands at its ends, told in either way
module _ (ds : List RunDomain) (n : ℕ) (own : ℕ → Near) (far : ℕ → ℕ → Near) (loads : List Load) (same : (m p : ℕ) → near ds m p ≡ near_now n own far m p) where
  pub holds-stands : (l : Lane) → LaneHolds ds loads l → Stands n own far loads l
  holds-stands l h =
      let load = some_item (find _ loads) h.listed in
      let a = l.sender in
      let b = l.receiver in
      record {
        load = load.0;
        loaded = load.1;
        frames = sym (ap (λ (x : Near). x.sent.put) (same a b)) ∙ h.frames ∙ ap₂ (λ (xs ys : List (List ℕ)). xs ++ ys) (ap (λ (x : Near). x.got.taken) (same b a)) (ap frames_in load.1);
        returned = omega (arith, ap returned_in load.1, h.returned, ap (λ (x : Near). x.sent.back) (same a b), ap (λ (x : Near). x.got.given) (same b a));
      }

  pub stands-holds : (l : Lane) → Stands n own far loads l → LaneHolds ds loads l
  stands-holds l h =
      let a = l.sender in
      let b = l.receiver in
      record {
        listed = ap is_some h.loaded;
        frames = ap (λ (x : Near). x.sent.put) (same a b) ∙ h.frames ∙ ap₂ (λ (xs ys : List (List ℕ)). xs ++ ys) (ap (λ (x : Near). x.got.taken) (sym (same b a))) (sym (ap frames_in h.loaded));
        returned = omega (arith, ap returned_in h.loaded, h.returned, ap (λ (x : Near). x.sent.back) (same a b), ap (λ (x : Near). x.got.given) (same b a));
      }

lane-has : (s : Scenario) → IsLinkedBoard s → (a b size : ℕ) → Joined s a b size → Has (λ l. (l.sender ≡ a) × (l.receiver ≡ b)) (lanes s)
lane-has s board a b size joined =
    let t = joined_found s board a b size joined in
    has_lane s board a b size t.0 t.1 (eqb-true t.0.domain a (found-passes (λ d. d.domain == a) (rising s) t.0 t.1)) joined

-- the lanes of a domain with each neighbour are among those of the board
pub has-both : (s : Scenario) → IsLinkedBoard s → (d : DomainLine) (i : ℕ) → slice_get (rising s) i ≡ Some d → AllByRecursion (HasBoth (lanes s) d.domain) (map (λ m. m.number) (neighbours s d))
has-both s board d i at =
    all-map (HasBoth (lanes s) d.domain) (λ (m : Neighbour). m.number) (neighbours s d)
    (all-weaken (λ m. Joined s d.domain m.number m.size) (λ m. HasBoth (lanes s) d.domain m.number)
    (λ m joined. record { out = lane-has s board d.domain m.number m.size joined; into = lane-has s board m.number d.domain m.size (joined_back s d.domain m.number m.size joined) }) (neighbours s d)
    (neighbours_join s d (all-at (λ e. Has (λ x. x ≡ e) s.domains) (rising s) i d (rising_told s) at)))
