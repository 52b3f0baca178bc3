use Rattle.std.proofs.Common.{◌+◌, List, map, sym, subst, take}
use Rattle.board_numbers.specs.declared.items.ItemCounts.{ItemCounts}
use Rattle.board_numbers.specs.ItemCounts.{CountsLines, EachWith, HasNoItems, IsCountedBy}
use Rattle.board_numbers.proofs.EachLemmas.{each-is, each-then, mapped-read, mapped-within, written-back}
use Rattle.board_numbers.proofs.ItemCountLemmas.{counted-more, counted-none}
use Rattle.board_runner.specs.EndedStations.{ended_station}
use Rattle.board_runner.proofs.ending.channel_totals.Goals as goal

pub loop-station-init : goal.loop-station-init
loop-station-init c =
    let es = map ended_station c.args.stations.now in
    each-is HasNoItems (IsCountedBy es (take 0 es)) (counted-none es) es _ c.in_ok-counts.ensures

pub loop-station-preserved : goal.loop-station-preserved
loop-station-preserved c =
    let sts = c.args.stations.now in
    let es = map ended_station sts in
    let i = c.loop-station.station-index in
    let st = c.station-item.result in
    let within = c.loop-station-test.true in
    let old = c.loop-station.counts.items in
    let new = c.count_journal.new.all in
    let lines = CountsLines st.domain_number st.journal.lines in
    let counted : EachWith lines old new = subst (λ (xs : List ItemCounts). EachWith lines xs new) c.deref_mut.ensures.value c.count_journal.ensures in
    subst (EachWith (IsCountedBy es (take (i + 1) es)) es) (sym (written-back c.loop-station.counts.len c.deref_mut.result.now old new (sym c.deref_mut.ensures.len) c.deref_mut.ensures.value counted.many))
    (each-then (IsCountedBy es (take i es)) lines (IsCountedBy es (take (i + 1) es)) (counted-more es i (ended_station st) (mapped-within ended_station sts i within) (mapped-read ended_station sts i st within c.station-item.is)) es old new c.loop-station.invariant counted)
