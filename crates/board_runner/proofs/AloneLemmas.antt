-- A turn of one domain alone, where all was known before, and the links that are carried after it.
use Rattle.std.proofs.Common.{◌≡◌, ℕ, Bool, true, List, map, set, Some, refl, sym, ap, ◌∙◌}
use Rattle.std.specs.Prelude.{slice_get}
use Rattle.std.specs.List.{AllByRecursion}
use Rattle.lane_end.specs.AnySender.{AnySends}
use Rattle.lane_end.specs.AnyReceiver.{AnyReceives}
use Rattle.board_model.specs.declared.scenario.Scenario.{Scenario}
use Rattle.board_model.specs.Journal.{Line, turned, noted}
use Rattle.board_model.specs.Language.{IsLawfulBoard}
use Rattle.board_model.specs.SerialRun.{Running, turned_once}
use Rattle.board_model.specs.State.{DomainState}
use Rattle.board_model.proofs.LawfulBoards.{lawful_is_linked}
use Rattle.board_model.proofs.WholeTurns.{turn_number, turn_numbers}
use Rattle.domain_core.specs.AllMoved.{turn_moves}
use Rattle.domain_core.specs.Ends.{EndsMoved}
use Rattle.domain_core.specs.Turned.{MakesTurn}
use Rattle.mc_journal.specs.Written.{Written}
use Rattle.board_runner.specs.declared.station.Station.{Station}
use Rattle.board_runner.specs.Near.{RunDomain, peers_of}
use Rattle.board_runner.specs.Stations.{IsRun, near}
use Rattle.board_runner.specs.Runs.{IsSomeRun, IsSomeBoard, Leads, TurnsOnce, AllCarried, CarriedBut, KnowsTrulyAt, KeepCounts}
use Rattle.board_runner.proofs.ExactVisits.{come-here, exact-idle, exact-turn, matched-here, peers-differ, stood-all}
use Rattle.board_runner.proofs.OthersLemmas.{at_any}
use Rattle.board_runner.proofs.QuietLemmas.{idle-stays}
use Rattle.board_runner.proofs.Resting.{board-moved, carried-but, carried-still, true-here}
use Rattle.board_runner.proofs.RunBoards.{run-board}
use Rattle.board_runner.proofs.RunStations.{domains_in, number_in}
use Rattle.board_runner.proofs.StationCounts.{at_place, counts_stay}
use Rattle.board_runner.proofs.TurnEnds.{ExactAt}
use Rattle.board_runner.proofs.TurnKept.{turn_kept}
use Rattle.board_runner.proofs.TurnStations.{turned_station}

-- the lines may stand in a journal with more room
module _ (old : List Station) (at : ℕ) (st : Station) (d : RunDomain) (j : Written) (is : slice_get old at ≡ Some st) (carried : AllCarried old) (lines : List Line) (idle : Bool) (same : lines ≡ st.journal.lines) (turn : MakesTurn (EndsMoved AnySends AnyReceives) st.domain d lines j.lines idle) where
  abbrev then : Station
  then = turned_station st d j

  abbrev mid : List Station
  mid = set old at then

  number : number_in then ≡ number_in st
  number = ap (λ (x : DomainState). x.number) turn.turns.state ∙ turn_number st.domain.state turn.visits

  peers : peers_of d ≡ peers_of st.domain
  peers = ap (λ (x : DomainState). map (λ p. p.number) x.peers) turn.turns.state ∙ turn_numbers st.domain.state turn.visits

  -- in whatever run, its visits are those of the run
  abbrev ExactTurn : Type 0
  ExactTurn = (s : Scenario) (r : Running) → IsLawfulBoard s → IsRun s r old → AllByRecursion (ExactAt (near (domains_in old)) st.domain) turn.visits

  turns_by : ExactTurn → TurnsOnce at old mid
  turns_by exact =
      at_any (λ x. Leads (λ s r. turned_once s r x.domain.state.number) old mid) old at (λ x own s r lawful h.
      turn_kept s (lawful_is_linked s lawful) r old h at st d j x.domain.state.number is turn.visits turn.numbers (exact s r lawful h) turn.turns (turn.told ∙ ap (λ (ls : List Line). noted ls (turned turn.visits)) same)
      (ap (λ (y : Station). y.domain.state.number) (same_station st x is own)))
    where
      same_station : (x y : Station) → slice_get old at ≡ Some x → slice_get old at ≡ Some y → x ≡ y
      same_station x y e f = cc

  pub alone_counts : KeepCounts old mid
  alone_counts = counts_stay old old at st then refl is refl

  module _ (some : IsSomeRun old) where
    abbrev s : Scenario
    s = some.scenario

    pub alone_board : IsSomeBoard mid
    alone_board = record {
      scenario = s;
      lawful = some.lawful;
      stands = board-moved s some.lawful old at st then (run-board s some.run old some.stands) is number refl peers (turn_moves st.domain.numbered turn.visits turn.numbers) turn.turns.moved;
    }

    pub alone_but : CarriedBut at mid
    alone_but = carried-but s some.lawful old at st then (run-board s some.run old some.stands) is number refl peers (turn_moves st.domain.numbered turn.visits turn.numbers) turn.turns.moved carried

    -- an idle turn did nothing
    pub alone_still : idle ≡ true → AllCarried mid
    alone_still e =
        carried-still s some.lawful old at st then (run-board s some.run old some.stands) is number refl peers (turn_moves st.domain.numbered turn.visits turn.numbers) turn.turns.moved carried
        (idle-stays st.domain.numbered st.domain.ends turn.visits turn.numbers d.ends (sym turn.idle_is ∙ e) turn.turns.moved)

  -- where what it knows is true its turn is that of the run
  pub turns_truly : KnowsTrulyAt at mid → TurnsOnce at old mid
  turns_truly truly =
      turns_by (λ s r lawful h.
      let board = lawful_is_linked s lawful in
      exact-turn st.domain d turn.visits turn.numbers turn.turns (matched-here s board r old h at st is) (peers-differ s board r old h at st is) (near (domains_in old)) (come-here s board r old h at st is carried)
      (true-here s lawful old at st then (run-board s r old h) is number refl peers (turn_moves st.domain.numbered turn.visits turn.numbers) turn.turns.moved truly))

  -- and so it is where it is idle
  pub turns_idly : idle ≡ true → TurnsOnce at old mid
  turns_idly e =
      turns_by (λ s r lawful h.
      let board = lawful_is_linked s lawful in
      exact-idle st.domain d turn.visits turn.numbers turn.turns (matched-here s board r old h at st is) (peers-differ s board r old h at st is) (near (domains_in old)) (come-here s board r old h at st is carried) (sym turn.idle_is ∙ e)
      (stood-all s board r old h at st is turn.visits turn.turns.allowed.each_peer))

-- what is carried after it leads to no other run
pub turns_and_carries : (at : ℕ) (old mid new : List Station) → TurnsOnce at old mid → Leads (λ s r. r) mid new → TurnsOnce at old new
turns_and_carries at old mid new turns carries =
    at_any (λ x. Leads (λ s r. turned_once s r x.domain.state.number) old new) old at (λ x own s r lawful h.
    carries s (turned_once s r x.domain.state.number) lawful (at_place (λ y. Leads (λ s r. turned_once s r y.domain.state.number) old mid) old at x own turns s r lawful h))
