use Rattle.std.proofs.Common.{◌≡◌, ℕ, ◌<◌, List, length, count_by, get_or, ap, ◌∙◌, arith}
use Rattle.std.specs.Prelude.{nat_lt}
use Rattle.board_model.specs.declared.scenario.DomainLine.{DomainLine}
use Rattle.board_model.proofs.LawfulBoards.{lawful_is_linked}
use Rattle.board_runner.proofs.SerialLemmas.{line_read, none_along, number-fits, line_comes, line_along, some_next, all_along, line_asks}
use Rattle.board_runner.proofs.serial.run_lines.Goals as goal

-- the place by the table of the scenario's domains
place_read : (places : List ℕ) (k n : ℕ) (domains told : List DomainLine) → ((m : ℕ) → m < 8 → get_or places m 0 ≡ count_by (λ d. nat_lt d.domain m) domains) → k ≡ n → n < 8 → domains ≡ told → get_or places k 0 ≡ count_by (λ d. nat_lt d.domain n) told
place_read places k n domains told table same fits is = ap (λ (j : ℕ). get_or places j 0) same ∙ table n fits ∙ ap (count_by (λ (d : DomainLine). nat_lt d.domain n)) is

pub loop-line-init : goal.loop-line-init
loop-line-init c = record { along = none_along c.args.scenario.now c.args.stations.now c.requires.run c.requires.carried; room = c.requires.room }

pub bounds-places-from : goal.bounds-places-from
bounds-places-from c =
    let s = c.args.scenario.now in
    let board = lawful_is_linked s c.requires.lawful in
    let is = line_read c.as_slice-lines.result.now s.calls c.loop-line.line-index c.line-item.result c.loop-line-test.true c.line-item.is c.as_slice-lines.ensures in
    omega (arith, c.from.ensures, number-fits s board c.loop-line.line-index c.line-item.result is)

pub run_line-requires-clause-at : goal.run_line-requires-clause-at
run_line-requires-clause-at c =
    let s = c.args.scenario.now in
    let board = lawful_is_linked s c.requires.lawful in
    let is = line_read c.as_slice-lines.result.now s.calls c.loop-line.line-index c.line-item.result c.loop-line-test.true c.line-item.is c.as_slice-lines.ensures in
    let place = place_read c.station_places-places.result c.from.result c.line-item.result.domain c.as_slice.result.now s.domains c.station_places-places.ensures c.from.ensures (number-fits s board c.loop-line.line-index c.line-item.result is) c.as_slice.ensures in
    (line_comes s board c.loop-line.line-index c.line-item.result (get_or c.station_places-places.result c.from.result 0) c.loop-line.stations is place c.loop-line.invariant.along).within

pub run_line-requires-clause-next : goal.run_line-requires-clause-next
run_line-requires-clause-next c =
    let s = c.args.scenario.now in
    let board = lawful_is_linked s c.requires.lawful in
    let is = line_read c.as_slice-lines.result.now s.calls c.loop-line.line-index c.line-item.result c.loop-line-test.true c.line-item.is c.as_slice-lines.ensures in
    let place = place_read c.station_places-places.result c.from.result c.line-item.result.domain c.as_slice.result.now s.domains c.station_places-places.ensures c.from.ensures (number-fits s board c.loop-line.line-index c.line-item.result is) c.as_slice.ensures in
    some_next s c.requires.lawful c.line-item.result (get_or c.station_places-places.result c.from.result 0) _ c.loop-line.stations c.loop-line.invariant.along
    (line_comes s board c.loop-line.line-index c.line-item.result (get_or c.station_places-places.result c.from.result 0) c.loop-line.stations is place c.loop-line.invariant.along)

pub run_line-requires-clause-carried : goal.run_line-requires-clause-carried
run_line-requires-clause-carried c = c.loop-line.invariant.along.carried

pub run_line-requires-clause-counts : goal.run_line-requires-clause-counts
run_line-requires-clause-counts c = c.loop-line.invariant.along.fits

pub run_line-requires-clause-asks : goal.run_line-requires-clause-asks
run_line-requires-clause-asks c =
    let s = c.args.scenario.now in
    let is = line_read c.as_slice-lines.result.now s.calls c.loop-line.line-index c.line-item.result c.loop-line-test.true c.line-item.is c.as_slice-lines.ensures in
    line_asks s (lawful_is_linked s c.requires.lawful) c.loop-line.line-index c.line-item.result is

pub loop-line-preserved : goal.loop-line-preserved
loop-line-preserved c =
    let s = c.args.scenario.now in
    let board = lawful_is_linked s c.requires.lawful in
    let is = line_read c.as_slice-lines.result.now s.calls c.loop-line.line-index c.line-item.result c.loop-line-test.true c.line-item.is c.as_slice-lines.ensures in
    let place = place_read c.station_places-places.result c.from.result c.line-item.result.domain c.as_slice.result.now s.domains c.station_places-places.ensures c.from.ensures (number-fits s board c.loop-line.line-index c.line-item.result is) c.as_slice.ensures in
    record {
      along = line_along s c.requires.lawful c.loop-line.line-index c.line-item.result (get_or c.station_places-places.result c.from.result 0) c.loop-line.stations c.run_line.new.stations is place c.loop-line.invariant.along c.in_ok-run_line.ensures.run c.in_ok-run_line.ensures.carried c.in_ok-run_line.ensures.counts;
      room = omega (arith, c.loop-line.invariant.room, c.run_line.auto.room);
    }

pub returns : goal.returns
returns c =
    let s = c.args.scenario.now in
    all_along s c.loop-line.line-index c.loop-line.stations (omega (arith, c.loop-line-test.false, ap length c.as_slice-lines.ensures)) c.loop-line.invariant.along
