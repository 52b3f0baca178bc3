-- What a runner holds between two calls, and the run of a board that it stands for.
-- Source: docs/PROFILE.md, "Serial run". What is on a lane is what its two ends did.
use Rattle.std.specs.Prelude.{◌≡◌, ◌≢◌, ℕ, ◌+◌, ◌≤◌, ◌<◌, ◌^◌, List, [], ◌∷◌, ◌++◌, map, sum_by, find, ◌==◌, Option, None, Some, option_map, IfSome, IsSome}
use Rattle.std.specs.List.{AllByRecursion}
use Rattle.mc_base.specs.Limits.{no_key}
use Rattle.mc_base.specs.declared.request.PacketId.{PacketId}
use Rattle.mc_base.specs.declared.request.RequestId.{RequestId}
use Rattle.board_model.specs.declared.scenario.DomainLine.{DomainLine}
use Rattle.board_model.specs.declared.scenario.Scenario.{Scenario}
use Rattle.board_model.specs.Scenario.{Lane, lanes, script, rising, neighbours}
use Rattle.board_model.specs.Journal.{joined}
use Rattle.board_model.specs.Labels.{Labelled, Labels, serial_of}
use Rattle.board_model.specs.Tallies.{deleted_in}
use Rattle.board_model.specs.Loads.{Load, is_between, frames_on, returned_on}
use Rattle.board_model.specs.SerialRun as run
use Rattle.board_model.specs.SerialRun.{Running}
use Rattle.lane_end.specs.AnyLane.{AreEndsOfOneRing}
use Rattle.domain_core.specs.Carrying.{AreLinked}
use Rattle.board_runner.specs.declared.station.Station.{Station}
use Rattle.board_runner.specs.Held.{Ids, PacketIds, id_for}
use Rattle.board_runner.specs.Near.{Near, nothing_near, RunDomain, near_of, peers_of, EndsMatch}

-- ---- requests and labels

-- an id that was given, and that no request but its own can have now
pub record IsKnown (d : RunDomain) (id : RequestId) : Type 0 where
  pub given : id.serial < d.state.requests_given
  pub only : AllByRecursion (λ i. i.serial ≡ id.serial → i.key ≡ id.key) d.ids

-- the ids of a domain are those of the requests that stand, and the ids held for labels are those of the labels' requests
pub record HoldsIds (d : RunDomain) (ids : Ids) (labels : List Labelled) (lines : ℕ) : Type 0 where
  pub few : d.state.requests_given ≤ lines
  pub serials : map (λ i. i.serial) d.ids ≡ map (λ q. q.serial) d.state.requests
  pub given : AllByRecursion (λ i. i.serial < d.state.requests_given) d.ids
  pub keys : AllByRecursion (λ i. i.key ≢ no_key) d.ids
  pub told : (label : List ℕ) → option_map (λ i. i.serial) (id_for ids label) ≡ serial_of labels label
  pub known : (label : List ℕ) → IfSome (id_for ids label) (IsKnown d)

-- a packet that was lent, and whose serial none but itself can have
pub record IsKnownPacket (d : RunDomain) (id : PacketId) : Type 0 where
  pub lent : id.serial < d.state.packets_lent
  pub only : AllByRecursion (λ i. i.serial ≡ id.serial → i ≡ id) d.packets

-- the ids of packets of a domain are those of the packets that are lent, and the ids held for labels are those of the labels' packets
pub record HoldsPackets (d : RunDomain) (packets : PacketIds) (labels : List Labelled) (lines : ℕ) : Type 0 where
  pub few : d.state.packets_lent ≤ lines
  pub small : d.state.packets_lent < 2 ^ 64
  pub serials : map (λ i. i.serial) d.packets ≡ map (λ p. p.serial) d.state.lent
  pub lent : AllByRecursion (λ i. i.serial < d.state.packets_lent) d.packets
  pub told : (label : List ℕ) → option_map (λ i. i.serial) (id_for packets label) ≡ serial_of labels label
  pub known : (label : List ℕ) → IfSome (id_for packets label) (IsKnownPacket d)

-- what is held for labels is what was given for them
pub record HoldsLabels (d : RunDomain) (ids : Ids) (lent : PacketIds) (labels : Labels) (lines : ℕ) : Type 0 where
  pub requests : HoldsIds d ids labels.requests lines
  pub packets : HoldsPackets d lent labels.packets lines

-- ---- lanes

-- the domain of a number among the stations'
abbrev pub domain_of : List RunDomain → ℕ → Option RunDomain
domain_of ds n = find (λ d. d.state.number == n) ds

abbrev pub near_in : Option RunDomain → ℕ → Near
near_in None peer = nothing_near
near_in (Some d) peer = near_of d peer

abbrev pub near : List RunDomain → ℕ → ℕ → Near
near ds n peer = near_in (domain_of ds n) peer

-- the load of a lane is what its ends did: the frames put and not taken, and the buffers given back that no look showed
pub record LaneHolds (ds : List RunDomain) (loads : List Load) (l : Lane) : Type 0 where
  pub listed : IsSome (find (is_between l.sender l.receiver) loads)
  pub frames : (near ds l.sender l.receiver).sent.put ≡ (near ds l.receiver l.sender).got.taken ++ frames_on loads l.sender l.receiver
  pub returned : (near ds l.receiver l.sender).got.given ≡ (near ds l.sender l.receiver).sent.back + returned_on loads l.sender l.receiver

-- the ends of a link between two domains fit together
pub record LaneJoins (ds : List RunDomain) (l : Lane) : Type 0 where
  pub joined : (l.sender ≢ l.receiver) → (one two : RunDomain) → domain_of ds l.sender ≡ Some one → domain_of ds l.receiver ≡ Some two → AreLinked AreEndsOfOneRing l.sender l.receiver one.ends two.ends

-- ---- stations

pub record IsStation (s : Scenario) (t : run.Station) (st : Station) : Type 0 where
  pub state : st.domain.state ≡ t.run.state
  pub told : st.journal.lines ≡ joined t.entries
  pub number : st.number ≡ t.run.lines_called
  pub held : HoldsLabels st.domain st.ids st.packets t.run.labels t.run.lines_called
  pub dropped : st.dropped ≡ sum_by (deleted_in (script s t.line.domain)) st.journal.lines
  pub own : t.run.state.number ≡ t.line.domain
  pub domain_number : st.domain_number ≡ t.line.domain
  pub peers : peers_of st.domain ≡ map (λ n. n.number) (neighbours s t.line)
  pub matched : EndsMatch t.line.domain (peers_of st.domain) st.domain.ends

abbrev pub AreStations : Scenario → List run.Station → List Station → Type 0
AreStations s [] [] = Unit {0}
AreStations s (t ∷ ts) (st ∷ sts) = IsStation s t st × AreStations s ts sts
AreStations s ts sts = ⊥

-- the stations stand for a run of the board
pub record IsRun (s : Scenario) (r : Running) (sts : List Station) : Type 0 where
  pub lines : map (λ t. t.line) r.stations ≡ rising s
  pub each : AreStations s r.stations sts
  pub holds : AllByRecursion (LaneHolds (map (λ st. st.domain) sts) r.loads) (lanes s)
  pub joins : AllByRecursion (LaneJoins (map (λ st. st.domain) sts)) (lanes s)

-- ---- the board, whatever its domains did

-- the domain of a line, with its ends towards its peers
pub record IsOnBoard (s : Scenario) (d : DomainLine) (st : Station) : Type 0 where
  pub number : st.domain.state.number ≡ d.domain
  pub domain_number : st.domain_number ≡ d.domain
  pub peers : peers_of st.domain ≡ map (λ n. n.number) (neighbours s d)
  pub matched : EndsMatch d.domain (peers_of st.domain) st.domain.ends

abbrev pub AreOnBoard : Scenario → List DomainLine → List Station → Type 0
AreOnBoard s [] [] = Unit {0}
AreOnBoard s (d ∷ ds) (st ∷ sts) = IsOnBoard s d st × AreOnBoard s ds sts
AreOnBoard s ds sts = ⊥

-- the stations are those of the board's domains, and the ends of its links fit together
pub record IsBoard (s : Scenario) (sts : List Station) : Type 0 where
  pub each : AreOnBoard s (rising s) sts
  pub joins : AllByRecursion (LaneJoins (map (λ st. st.domain) sts)) (lanes s)
