-- A board whose domains were run by actors, and the scenario that they made: before the first line the two are one, and what its domains left is
-- what the domains of the scenario leave.
use Rattle.std.proofs.Common.{◌≡◌, List, [], ◌∷◌, map, sum_by, refl, sym, ap, subst, ◌∙◌}
use Rattle.std.specs.List.{AllByRecursion}
use Rattle.std.proofs.lemmas.Simd.{map-map}
use Rattle.board_model.specs.declared.scenario.CallLine.{CallLine}
use Rattle.board_model.specs.declared.scenario.DomainLine.{DomainLine}
use Rattle.board_model.specs.declared.scenario.Scenario.{Scenario}
use Rattle.board_model.specs.Board.{DomainJournal}
use Rattle.board_model.specs.Journal.{Line}
use Rattle.board_model.specs.Language.{IsLawfulBoard}
use Rattle.board_model.specs.Report.{lines_of}
use Rattle.board_model.specs.Scenario.{rising, rising_from, script}
use Rattle.board_model.specs.SerialRun.{opened, opened_station}
use Rattle.board_model.specs.Tallies.{deleted_in}
use Rattle.board_numbers.specs.ToldChannels.{TellChannels}
use Rattle.board_runner.specs.declared.acting.Acted.{Acted}
use Rattle.board_runner.specs.declared.actor.Actor.{Ghosts}
use Rattle.board_runner.specs.declared.actors.ActorsLeft.{ActorsLeft}
use Rattle.board_runner.specs.declared.ended.Remains.{Remains}
use Rattle.board_runner.specs.declared.outcome.Outcome.{Outcome}
use Rattle.board_runner.specs.declared.station.Station.{Station}
use Rattle.board_runner.specs.declared.wires.Wire.{Wire}
use Rattle.board_runner.specs.Acting.{AllActed, AreLeft, lines_acted}
use Rattle.board_runner.specs.ActorLogs.{with_calls}
use Rattle.board_runner.specs.ActorRun.{AllHaveEnded, HasScripts, HaveActed, MayAct}
use Rattle.board_runner.specs.Apart.{RanApart}
use Rattle.board_runner.specs.Ended.{HasRings, WiresEnd, wires_left}
use Rattle.board_runner.specs.EndedStations.{TellStations, ended_station}
use Rattle.board_runner.specs.Opened.{AreOpened}
use Rattle.board_runner.specs.Outcome.{lines_in}
use Rattle.board_runner.specs.OwnBoard.{RanAlone}
use Rattle.board_runner.specs.Stations.{AreStations, IsStation}
use Rattle.board_runner.specs.ThreadRun.{IsThreadRun}
use Rattle.board_runner.proofs.ActorPlaces.{made-ended, made-ran, made-scripts, made-lawful}
use Rattle.board_runner.proofs.EndedLemmas.{stations-ringed}
use Rattle.board_runner.proofs.OwnBoardLemmas.{are_stations, ran_alone}

-- ---- before the first line

module _ (board : Scenario) (lines : List CallLine) where
  abbrev s : Scenario
  s = with_calls board lines

  opened-same : (ws : List Wire) (ds : List DomainLine) (sts : List Station) → AreOpened board ws ds sts → AreOpened s ws ds sts
  opened-same ws [] [] opens = tt
  opened-same ws [] (st ∷ sts) opens = absurd opens
  opened-same ws (d ∷ ds) [] opens = absurd opens
  opened-same ws (d ∷ ds) (st ∷ sts) opens =
      let h = opens.0 in (
        record {
          on = record { to = h.on.to; new = h.on.new };
          state = h.state;
          ends = h.ends;
          requests = h.requests;
          told = h.told;
          number = h.number;
          packets = h.packets;
          labels = h.labels;
          packet_labels = h.packet_labels;
          dropped = h.dropped;
          domain_number = h.domain_number;
        },
        opened-same ws ds sts opens.1,
      )

  station_same : (d : DomainLine) (st : Station) → IsStation board (opened_station board d) st → IsStation s (opened_station s d) st
  station_same d st h = record {
    state = h.state;
    told = h.told;
    number = h.number;
    held = h.held;
    dropped = h.dropped ∙ ap (sum_by (deleted_in (script board d.domain))) h.told ∙ sym (ap (sum_by (deleted_in (script s d.domain))) h.told);
    own = h.own;
    domain_number = h.domain_number;
    peers = h.peers;
    matched = h.matched;
  }

  stations-same : (ds : List DomainLine) (sts : List Station) → AreStations board (map (opened_station board) ds) sts → AreStations s (map (opened_station s) ds) sts
  stations-same [] [] are = tt
  stations-same [] (st ∷ sts) are = absurd are
  stations-same (d ∷ ds) [] are = absurd are
  stations-same (d ∷ ds) (st ∷ sts) are = (station_same d st are.0, stations-same ds sts are.1)

-- ---- what the domains left

module _ {A R : Type 0} (actor : Ghosts A R) (board : Scenario) (ws : List Wire) (firsts : List A) (sts : List Station) (lefts : List (Acted A)) (may : MayAct actor board firsts) (opens : AreOpened board ws (rising board) sts) (begun : AreStations board (opened board).stations sts) (acted : AllActed actor firsts sts lefts) where
  abbrev made : Scenario
  made = with_calls board (lines_acted lefts)

  abbrev news : List Station
  news = map (λ left. left.station) lefts

  begun_so : AreStations made (opened made).stations sts
  begun_so = stations-same board (lines_acted lefts) (rising board) sts begun

  alone : RanAlone made sts news
  alone = ran_alone made sts news begun_so (made-ran actor board ws firsts sts lefts may opens acted)

  pub left-ringed : AllByRecursion HasRings news
  left-ringed = stations-ringed made alone.stations news (are_stations made sts news alone)

  module _ (remains : Remains) (tallies : TellStations news remains.tallies) (channels : TellChannels made (map ended_station news) remains.channels) (journals : lines_in remains.journals ≡ map (λ st. st.journal.lines) news) (ended : WiresEnd (wires_left news) remains.links.items) where
    apart : RanApart made ws remains
    apart = record {
      olds = sts;
      news = news;
      opens = opened-same board (lines_acted lefts) ws (rising board) sts opens;
      begun = begun_so;
      alone = alone;
      tallies = tallies;
      channels = channels;
      told = journals;
      ended = ended;
    }

    ended-all : (js : List DomainJournal) → map (λ j. j.line) js ≡ rising board → lines_in remains.journals ≡ map lines_of js → AllHaveEnded actor made firsts js (map (λ left. left.actor) lefts)
    ended-all js lines told =
        made-ended actor board ws firsts sts lefts may opens acted js lines (sym told ∙ journals ∙ map-map (λ (st : Station). st.journal.lines) (λ (left : Acted A). left.station) lefts)

    pub are-left : (left : ActorsLeft A) → left.scenario ≡ made → left.remains ≡ remains → left.actors.items ≡ map (λ x. x.actor) lefts → AreLeft actor board ws firsts left
    are-left left scenario remains_are actors = record {
      scripts = subst (λ (s : Scenario). HasScripts board s) (sym scenario) (made-scripts actor board ws firsts sts lefts may opens acted);
      lawful = subst (λ (s : Scenario). IsLawfulBoard s) (sym scenario) (made-lawful actor board ws firsts sts lefts may opens acted);
      apart = subst (λ (s : Scenario). RanApart s ws left.remains) (sym scenario) (subst (RanApart made ws) (sym remains_are) apart);
      ended = λ js lines told.
          subst (λ (s : Scenario). AllHaveEnded actor s firsts js left.actors.items) (sym scenario)
          (subst (AllHaveEnded actor made firsts js) (sym actors) (ended-all js lines (sym (ap (λ (x : Remains). lines_in x.journals) remains_are) ∙ told)));
    }

-- ---- the outcome

module _ {A R : Type 0} (actor : Ghosts A R) (board : Scenario) (ws : List Wire) (firsts : List A) (left : ActorsLeft A) (h : AreLeft actor board ws firsts left) where
  pub have-acted : (o : Outcome) → IsThreadRun left.scenario o → lines_in o.journals ≡ lines_in left.remains.journals → HaveActed actor board firsts left.scenario o left.actors.items
  have-acted o run journals = record {
    scripts = h.scripts;
    lawful = h.lawful;
    run = run;
    ended = h.ended run.journals (run.run.each_domain ∙ ap rising_from h.scripts.domains) (sym journals ∙ run.tells.journals);
  }
