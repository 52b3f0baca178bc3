use Rattle.std.proofs.Common.{◌≡◌, List, [], sym, subst}
use Rattle.split_ring.specs.Finished.{FinishedRing}
use Rattle.board_model.specs.declared.totals.LanePlaces.{LanePlaces}
use Rattle.board_model.specs.declared.totals.Totals.{Totals}
use Rattle.board_model.specs.declared.scenario.LinkLine.{LinkLine}
use Rattle.board_model.specs.declared.scenario.Scenario.{Scenario}
use Rattle.board_model.specs.LinkedBoard.{Joins, IsLinkedBoard}
use Rattle.board_model.specs.Scenario.{lanes}
use Rattle.board_model.proofs.LawfulBoards.{lawful_is_linked}
use Rattle.board_model.proofs.MessageAlls.{all-weaken}
use Rattle.board_numbers.specs.declared.tally.Tally.{Tally}
use Rattle.board_numbers.specs.Tallied.{TallySomeRun, AddPlaces, TellTotals}
use Rattle.board_runner.specs.declared.ended.Remains.{Remains}
use Rattle.board_runner.specs.declared.rings.LinkRings.{LinkRings}
use Rattle.board_runner.specs.Apart.{RanOver}
use Rattle.board_runner.specs.Finishing.{MayFinish, LinksHaveRun, LinksAreRun, FinishesRings}
use Rattle.board_runner.specs.ThreadRun.{IsThreadRun}
use Rattle.board_runner.proofs.ThreadLemmas.{moves, links-ran, some-tallied, thread-run}
use Rattle.board_runner.proofs.threads.outcome_left.Goals as goal

module _ (s : Scenario) (board : IsLinkedBoard s) (ls : List LinkLine) (listed : ls ≡ s.links) (rings : List LinkRings) (left : Remains) (ran : RanOver s rings left) where
  may-finish : MayFinish ls rings left.links.items
  may-finish = subst (λ (ks : List LinkLine). MayFinish ks rings left.links.items) (sym listed) (record {
    moves = moves s board rings ran.halves ran.new left ran.apart;
    ran = links-ran s board rings ran.halves ran.new left ran.apart;
    apart = all-weaken (Joins s) (λ l. l.driver ≡ l.device → ⊥) (λ l joins. joins.two_domains) s.links board.links_join;
    differ = board.pairs_differ;
  })

  finished : (closed : List FinishedRing) → FinishesRings ls rings left.links.items closed → LinksAreRun (moves s board rings ran.halves ran.new left ran.apart) s.links rings closed
  finished closed finishes =
      let ms = moves s board rings ran.halves ran.new left ran.apart in
      subst (λ (ks : List LinkLine). LinksAreRun ms ks rings closed) listed
      (finishes ms (subst (λ (ks : List LinkLine). LinksHaveRun ms ks rings left.links.items) (sym listed) (links-ran s board rings ran.halves ran.new left ran.apart)))

  some-tally : (closed : List FinishedRing) → FinishesRings ls rings left.links.items closed → (tallies : List Tally) → tallies ≡ left.tallies → TallySomeRun s tallies
  some-tally closed finishes tallies borrowed = subst (TallySomeRun s) (sym borrowed) (some-tallied s board rings ran.halves ran.new left ran.apart closed (finished closed finishes))

  ran-on-threads : (closed : List FinishedRing) → FinishesRings ls rings left.links.items closed → (places : List LanePlaces) (messages : Totals) (tallies : List Tally) → tallies ≡ left.tallies → AddPlaces s tallies (lanes s) [] places → TellTotals s tallies messages
      → IsThreadRun s (record { journals = left.journals; rings = closed; places = places; channels = left.channels; messages = messages })
  ran-on-threads closed finishes places messages tallies borrowed added totalled =
      thread-run s board rings ran.halves ran.new left ran.apart closed (finished closed finishes) places messages
      (subst (λ (ys : List Tally). AddPlaces s ys (lanes s) [] places) borrowed added) (subst (λ (ys : List Tally). TellTotals s ys messages) borrowed totalled)

pub finish_rings-requires : goal.finish_rings-requires
finish_rings-requires c =
    may-finish c.args.scenario.now (lawful_is_linked c.args.scenario.now c.requires.lawful) _ c.as_slice.ensures c.args.rings.items c.args.left c.requires.ran

pub places_of-requires-clause-tallies : goal.places_of-requires-clause-tallies
places_of-requires-clause-tallies c =
    some-tally c.args.scenario.now (lawful_is_linked c.args.scenario.now c.requires.lawful) _ c.as_slice.ensures c.args.rings.items c.args.left c.requires.ran c.in_ok-closed.closed c.in_ok-closed.ensures _ c.as_slice-tallies.ensures

pub totals_of-messages-requires-clause-tallies : goal.totals_of-messages-requires-clause-tallies
totals_of-messages-requires-clause-tallies c =
    some-tally c.args.scenario.now (lawful_is_linked c.args.scenario.now c.requires.lawful) _ c.as_slice.ensures c.args.rings.items c.args.left c.requires.ran c.in_ok-closed.closed c.in_ok-closed.ensures _ c.as_slice-tallies.ensures

pub returns-clause-run : goal.returns-clause-run
returns-clause-run c =
    ran-on-threads c.args.scenario.now (lawful_is_linked c.args.scenario.now c.requires.lawful) _ c.as_slice.ensures c.args.rings.items c.args.left c.requires.ran c.in_ok-closed.closed c.in_ok-closed.ensures c.in_ok-places.places c.totals_of-messages.result _ c.as_slice-tallies.ensures c.in_ok-places.ensures c.totals_of-messages.ensures
