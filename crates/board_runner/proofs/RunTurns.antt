-- A turn of a domain whose visits are exact is the turn of the serial run.
use Rattle.std.proofs.Common.{◌≡◌, ◌≢◌, ℕ, Bool, true, false, cond, List, map, Option, Some, slice_get, slice_set, refl, sym, ap, ◌∙◌, subst, eqb-true}
use Rattle.std.specs.Prelude.{◌==◌}
use Rattle.std.specs.List.{AllByRecursion}
use Rattle.board_model.specs.declared.scenario.DomainLine.{DomainLine}
use Rattle.board_model.specs.declared.scenario.Scenario.{Scenario}
use Rattle.board_model.specs.Scenario.{Lane, lanes, rising}
use Rattle.board_model.specs.LinkedBoard.{Differ, IsLinkedBoard}
use Rattle.board_model.specs.Journal.{Visit, PlainEntry, turned, noted}
use Rattle.board_model.specs.State.{DomainState}
use Rattle.board_model.specs.Loads.{Load, turn_of, loads_turned}
use Rattle.board_model.specs.SerialRun as run
use Rattle.board_model.specs.SerialRun.{Running, entered, with_entry, turned_by, turned_once}
use Rattle.board_model.proofs.MessageAlls.{all-weaken}
use Rattle.board_model.proofs.PlaceBoards.{neighbours_differ}
use Rattle.board_model.proofs.WholeTurns.{turn_number}
use Rattle.lane_end.specs.AnyLane.{AreEndsOfOneRing}
use Rattle.domain_core.specs.Carrying.{AreLinked}
use Rattle.domain_core.specs.LaneMoves.{LaneMove}
use Rattle.domain_core.specs.AllMoved.{AllMoved, turn_moves}
use Rattle.domain_core.specs.Turned.{Turns}
use Rattle.mc_journal.specs.Written.{Written}
use Rattle.board_runner.specs.declared.station.Station.{Station}
use Rattle.board_runner.specs.Near.{RunDomain, near_of, peers_of, EndsMatch}
use Rattle.board_runner.specs.Stations.{domain_of, near, LaneHolds, LaneJoins, IsStation, IsRun}
use Rattle.board_runner.proofs.TurnLanes.{Stands, HasBoth}
use Rattle.board_runner.proofs.TurnEnds.{Moved, ExactAt, TurnedLanes, turned-lanes}
use Rattle.board_runner.proofs.TurnLinks.{linked-one, linked-two}
use Rattle.board_runner.proofs.TurnStations.{turned_station, station-turned}
use Rattle.board_runner.proofs.RunFinds.{mapped-at, map-replaced, find-at, map-at}
use Rattle.board_runner.proofs.RunFinds.{some_same}
use Rattle.board_runner.proofs.RunStations.{domains_in, number_in, line_number, StationAt, station-at, station-number, stations-replaced, lines-differ, numbers-differ, domain-at, domain-replaced, near-was, near-replaced, holds-stands, stands-holds, has-both}

-- ---- one station in the place of another

-- an entry of a domain is one of its station
pub entry-at : (s : Scenario) (n : ℕ) (e : PlainEntry) (r : Running) (i : ℕ) (t : run.Station) → Differ (map line_number r.stations) → slice_get r.stations i ≡ Some t → t.line.domain ≡ n → with_entry s n e r ≡ record r { stations = slice_set r.stations i (entered s e t) }
entry-at s n e r i t differ at is = ap (λ (ts : List run.Station). record r { stations = ts }) (map-at line_number (entered s e) r.stations i t n differ at is)

-- the links stay where the moves of one domain lead from its ends to others
pub joins-replaced : (sts : List Station) (i : ℕ) (st st' : Station) (moves : List (List LaneMove)) → Differ (map number_in sts) → slice_get sts i ≡ Some st → number_in st' ≡ number_in st → AllMoved Moved st.domain.ends moves st'.domain.ends
    → (l : Lane) → LaneJoins (domains_in sts) l → LaneJoins (domains_in (slice_set sts i st')) l
joins-replaced sts i st st' moves differ at same moved l h = record {
  joined = λ apart one two at_one at_two. go apart one two (l.sender == number_in st) (l.receiver == number_in st) refl refl (sym (ends l.sender) ∙ at_one) (sym (ends l.receiver) ∙ at_two);
}
  where
    ends : (m : ℕ) → domain_of (domains_in (slice_set sts i st')) m ≡ cond (m == number_in st) (Some st'.domain) (domain_of (domains_in sts) m)
    ends m = domain-replaced sts i st (number_in st) differ at refl st' m same

    here : (m : ℕ) → (m == number_in st) ≡ true → domain_of (domains_in sts) m ≡ Some st.domain
    here m e = ap (domain_of (domains_in sts)) (eqb-true m (number_in st) e) ∙ domain-at sts i st (number_in st) differ at refl

    go : l.sender ≢ l.receiver → (one two : RunDomain) (x y : Bool) → (l.sender == number_in st) ≡ x → (l.receiver == number_in st) ≡ y
        → cond x (Some st'.domain) (domain_of (domains_in sts) l.sender) ≡ Some one → cond y (Some st'.domain) (domain_of (domains_in sts) l.receiver) ≡ Some two → AreLinked AreEndsOfOneRing l.sender l.receiver one.ends two.ends
    go apart one two true true e f at_one at_two = absurd (apart (eqb-true l.sender (number_in st) e ∙ sym (eqb-true l.receiver (number_in st) f)))
    go apart one two true false e f at_one at_two =
        let is : st'.domain ≡ one = some_same (Some st'.domain) st'.domain one refl at_one in
        subst (λ (d : RunDomain). AreLinked AreEndsOfOneRing l.sender l.receiver d.ends two.ends) is
        (linked-one l.sender l.receiver st.domain.ends moves st'.domain.ends two.ends moved (h.joined apart st.domain two (here l.sender e) at_two))
    go apart one two false true e f at_one at_two =
        let is : st'.domain ≡ two = some_same (Some st'.domain) st'.domain two refl at_two in
        subst (λ (d : RunDomain). AreLinked AreEndsOfOneRing l.sender l.receiver one.ends d.ends) is
        (linked-two l.sender l.receiver one.ends st.domain.ends moves st'.domain.ends moved (h.joined apart one st.domain at_one (here l.receiver f)))
    go apart one two false false e f at_one at_two = h.joined apart one two at_one at_two

pub run-replaced : (s : Scenario) (r : Running) (sts : List Station) (i : ℕ) (t t' : run.Station) (st' : Station) (loads' : List Load) → IsRun s r sts → slice_get r.stations i ≡ Some t → t'.line ≡ t.line → IsStation s t' st'
    → AllByRecursion (LaneHolds (domains_in (slice_set sts i st')) loads') (lanes s) → AllByRecursion (LaneJoins (domains_in (slice_set sts i st'))) (lanes s)
    → IsRun s (record { stations = slice_set r.stations i t'; loads = loads' }) (slice_set sts i st')
run-replaced s r sts i t t' st' loads' h at same is holds joins = record {
  lines = map-replaced (λ (u : run.Station). u.line) r.stations i t t' at same ∙ h.lines;
  each = stations-replaced s r.stations sts i t' st' h.each is;
  holds = holds;
  joins = joins;
}

-- ---- a turn

-- the turn that the serial run makes is told by the station's state
turned-once-is : (s : Scenario) (r : Running) (n i : ℕ) (t : run.Station) (visits : List Visit) → Differ (map line_number r.stations) → slice_get r.stations i ≡ Some t → t.line.domain ≡ n → visits ≡ turn_of t.run.state r.loads
    → record { stations = slice_set r.stations i (entered s (turned visits) t); loads = loads_turned t.run.state r.loads } ≡ turned_once s r n
turned-once-is s r n i t visits differ at is told =
    ap (λ (vs : List Visit). record { stations = slice_set r.stations i (entered s (turned vs) t); loads = loads_turned t.run.state r.loads }) told
    ∙ sym (entry-at s n (turned (turn_of t.run.state r.loads)) (record r { loads = loads_turned t.run.state r.loads }) i t differ at is)
    ∙ ap (λ (o : Option run.Station). turned_by s n o r) (sym (find-at line_number r.stations i t n differ at is))

module _ (s : Scenario) (board : IsLinkedBoard s) (r : Running) (sts : List Station) (i : ℕ) (st : Station) (visits : List Visit) (numbers : List (List ℕ)) (d' : RunDomain) (j : Written)
    (h : IsRun s r sts) (at : slice_get sts i ≡ Some st) (turns : Turns Moved visits numbers st.domain d') (told : j.lines ≡ noted st.journal.lines (turned visits)) (exact : AllByRecursion (ExactAt (near (domains_in sts)) st.domain) visits) where
  place : StationAt s r.stations i st
  place = station-at s r.stations sts i st h.each at

  number-is : number_in st ≡ place.station.line.domain
  number-is = station-number s place.station st place.is

  line-at : slice_get (rising s) i ≡ Some place.station.line
  line-at = ap (λ (ls : List DomainLine). slice_get ls i) (sym h.lines) ∙ mapped-at (λ (t : run.Station). t.line) r.stations i place.station place.at

  number-stays : d'.state.number ≡ number_in st
  number-stays = ap (λ (x : DomainState). x.number) turns.state ∙ turn_number st.domain.state visits

  lanes-turned : TurnedLanes (near (domains_in sts)) (lanes s) st.domain d' visits r.loads
  lanes-turned =
      turned-lanes st.domain d' visits numbers turns
      (subst (λ (n : ℕ). EndsMatch n (peers_of st.domain) st.domain.ends) (sym number-is) place.is.matched)
      (subst Differ (sym place.is.peers) (neighbours_differ s board place.station.line))
      (near (domains_in sts)) (lanes s) r.loads exact
      (subst (λ (n : ℕ). AllByRecursion (HasBoth (lanes s) n) (peers_of st.domain)) (sym number-is) (subst (AllByRecursion (HasBoth (lanes s) place.station.line.domain)) (sym place.is.peers) (has-both s board place.station.line i line-at)))
      (all-weaken (LaneHolds (domains_in sts) r.loads) (Stands (number_in st) (near_of st.domain) (near (domains_in sts)) r.loads)
      (holds-stands (domains_in sts) (number_in st) (near_of st.domain) (near (domains_in sts)) r.loads (near-was sts i st (number_in st) (numbers-differ s board r sts h) at refl)) (lanes s) h.holds)

  run-turned_here : IsRun s (turned_once s r (number_in st)) (slice_set sts i (turned_station st d' j))
  run-turned_here =
      let t = place.station in
      let st' = turned_station st d' j in
      let differ = numbers-differ s board r sts h in
      let turn = lanes-turned in
      let told_turn : visits ≡ turn_of t.run.state r.loads = turn.visits_are ∙ ap (λ (x : DomainState). turn_of x r.loads) place.is.state in
      let loads = loads_turned t.run.state r.loads in
      let stands : AllByRecursion (Stands (number_in st) (near_of d') (near (domains_in sts)) loads) (lanes s)
      = subst (λ (x : DomainState). AllByRecursion (Stands (number_in st) (near_of d') (near (domains_in sts)) (loads_turned x r.loads)) (lanes s)) place.is.state turn.lanes in
      subst (λ (x : Running). IsRun s x (slice_set sts i st')) (turned-once-is s r (number_in st) i t visits (lines-differ s board r sts h) place.at (sym number-is) told_turn)
      (run-replaced s r sts i t (entered s (turned visits) t) st' loads h place.at refl
      (station-turned s t st visits numbers d' j place.is turns told turn.peers (subst (λ (n : ℕ). EndsMatch n (peers_of d') d'.ends) number-is turn.matched))
      (all-weaken (Stands (number_in st) (near_of d') (near (domains_in sts)) loads) (LaneHolds (domains_in (slice_set sts i st')) loads)
      (stands-holds (domains_in (slice_set sts i st')) (number_in st) (near_of d') (near (domains_in sts)) loads (near-replaced sts i st (number_in st) differ at refl st' number-stays)) (lanes s) stands)
      (all-weaken (LaneJoins (domains_in sts)) (LaneJoins (domains_in (slice_set sts i st'))) (joins-replaced sts i st st' (turn_moves st.domain.numbered visits numbers) differ at number-stays turns.moved) (lanes s) h.joins))

  -- the station's number may be told apart
  pub run-turned : (n : ℕ) → number_in st ≡ n → IsRun s (turned_once s r n) (slice_set sts i (turned_station st d' j))
  run-turned n e = subst (λ (m : ℕ). IsRun s (turned_once s r m) (slice_set sts i (turned_station st d' j))) e run-turned_here
