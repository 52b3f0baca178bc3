-- What a domain's tally says of its run, and what tallies say of a board's.
-- Source: docs/FORMATS.md, "Report".
use Rattle.std.specs.Prelude.{◌≡◌, ℕ, ◌<◌, List, [], ◌∷◌, ◌++◌, map, sum_by, find, slice_get, Option, Some, IsSome, option_map}
use Rattle.std.specs.List.{AllByRecursion}
use Rattle.mc_base.specs.Limits.{domain_limit}
use Rattle.board_model.specs.declared.totals.LanePlaces.{LanePlaces}
use Rattle.board_model.specs.declared.totals.Totals.{Totals}
use Rattle.board_model.specs.declared.scenario.Scenario.{Scenario}
use Rattle.board_model.specs.Scenario.{script, neighbours, Lane}
use Rattle.board_model.specs.Journal.{joined}
use Rattle.board_model.specs.State.{DomainState, peer_of, queued_from, lent_from}
use Rattle.board_model.specs.Tallies.{deleted_in}
use Rattle.board_model.specs.Run.{left_by}
use Rattle.board_model.specs.Board.{IsBoardRun}
use Rattle.board_model.specs.Places.{places_of}
use Rattle.board_model.specs.Totals.{totals}
use Rattle.board_model.specs.SerialRun.{Station, is_station, journal_left}
use Rattle.buffer_book.specs.declared.places.Places.{Places}
use Rattle.board_numbers.specs.declared.tally.HeldBuffers.{HeldBuffers}
use Rattle.board_numbers.specs.declared.tally.Tally.{Tally}
use Rattle.board_numbers.specs.Counts.{AreCounts}
use Rattle.board_numbers.specs.Lanes.{lane_between}
use Rattle.board_model.specs.Queues.{messages_at}

-- where the buffers of the lane from a peer are held
abbrev pub places_held : ℕ → DomainState → Places
places_held n s = record { queue = queued_from n s; lent = lent_from n s }

-- what a domain in this state holds
pub record AreHeld (s : DomainState) (h : HeldBuffers) : Type 0 where
  pub queued : h.queued ≡ sum_by messages_at s.endpoints
  pub places : (n : ℕ) → n < domain_limit → IsSome (peer_of s n) → slice_get h.places n ≡ Some (places_held n s)

pub record IsTally (s : Scenario) (t : Station) (y : Tally) : Type 0 where
  pub counts : AreCounts y.counts (joined t.entries)
  pub deleted : y.deleted ≡ sum_by (deleted_in (script s t.line.domain)) (joined t.entries)
  pub held : AreHeld t.run.state y.held

-- one for each station
abbrev pub AreTallies : Scenario → List Station → List Tally → Type 0
AreTallies s [] [] = Unit {0}
AreTallies s (t ∷ ts) (y ∷ ys) = IsTally s t y × AreTallies s ts ys
AreTallies s ts ys = ⊥

-- ---- a board that ran

-- each of its domains is where its journal leads, and knows its neighbours; the journals are a run of the board
pub record RanBoard (s : Scenario) (ts : List Station) : Type 0 where
  pub run : IsBoardRun s (map journal_left ts)
  pub led : AllByRecursion (λ t. t.run ≡ left_by s t.line t.entries) ts
  pub peers : AllByRecursion (λ t. map (λ p. p.number) t.run.state.peers ≡ map (λ n. n.number) (neighbours s t.line)) ts

-- the tallies are those of the domains of some such board
pub record TallySomeRun (s : Scenario) (ys : List Tally) : Type 0 where
  pub stations : List Station
  pub ran : RanBoard s stations
  pub tallies : AreTallies s stations ys

-- the tally of the domain of a number
abbrev pub IsTallyOf : Scenario → List Station → ℕ → Tally → Type 0
IsTallyOf s ts n y = (t : Station) × (find (is_station n) ts ≡ Some t) × IsTally s t y

-- those of the two ends of a lane
pub record AreTalliesOf (s : Scenario) (ts : List Station) (from to : ℕ) (sender receiver : Tally) : Type 0 where
  pub ran : RanBoard s ts
  pub at_sender : IsTallyOf s ts from sender
  pub at_receiver : IsTallyOf s ts to receiver

pub record TallySomeLane (s : Scenario) (from to : ℕ) (sender receiver : Tally) : Type 0 where
  pub stations : List Station
  pub tallies : AreTalliesOf s stations from to sender receiver

-- whatever run it is, these are its totals
abbrev pub TellTotals : Scenario → List Tally → Totals → Type 0
TellTotals s ys x = (ts : List Station) → RanBoard s ts → AreTallies s ts ys → x ≡ totals s (map journal_left ts)

-- the places of one of its lanes, where there is this lane
abbrev pub TellLane : Scenario → ℕ → ℕ → Tally → Tally → Option LanePlaces → Type 0
TellLane s from to sender receiver places = (ts : List Station) → AreTalliesOf s ts from to sender receiver → places ≡ option_map (places_of s (map journal_left ts)) (lane_between s from to)

-- and the places of its lanes, added to others
abbrev pub AddPlaces : Scenario → List Tally → List Lane → List LanePlaces → List LanePlaces → Type 0
AddPlaces s ys ls old new = (ts : List Station) → RanBoard s ts → AreTallies s ts ys → new ≡ old ++ map (places_of s (map journal_left ts)) ls
