use Rattle.std.proofs.Common.{arith, map, refl}
use Rattle.board_model.specs.SerialRun.{journal_left}
use Rattle.board_model.proofs.LawfulBoards.{lawful_is_linked}
use Rattle.board_numbers.proofs.SumLemmas.{sums, small, totals-are}
use Rattle.board_numbers.proofs.numbers.totals_of.Goals as goal

pub sum_of-sum-requires : goal.sum_of-sum-requires
sum_of-sum-requires c =
    let s = c.args._scenario.now in
    let run = c.requires.tallies in
    let fits = small s _ c.args.tallies.now (sums s c.args.tallies.now (lawful_is_linked s c.requires.lawful) run.stations run.ran run.tallies) in
    record { sent = fits.sent; brought = fits.brought; dropped = fits.dropped; queued = fits.queued }

pub overflow_sub-ring : goal.overflow_sub-ring
overflow_sub-ring c =
    let s = c.args._scenario.now in
    let told = c.sum_of-sum.ensures in
    let run = c.requires.tallies in
    let fits = small s _ c.args.tallies.now (sums s c.args.tallies.now (lawful_is_linked s c.requires.lawful) run.stations run.ran run.tallies) in
    omega (arith, told.sent, told.brought, fits.brings)

pub overflow_sub-result : goal.overflow_sub-result
overflow_sub-result c =
    let s = c.args._scenario.now in
    let told = c.sum_of-sum.ensures in
    let run = c.requires.tallies in
    let fits = small s _ c.args.tallies.now (sums s c.args.tallies.now (lawful_is_linked s c.requires.lawful) run.stations run.ran run.tallies) in
    omega (arith, told.sent, told.dropped, fits.rest)

pub overflow_sub-result-2 : goal.overflow_sub-result-2
overflow_sub-result-2 c =
    let s = c.args._scenario.now in
    let told = c.sum_of-sum.ensures in
    let run = c.requires.tallies in
    let fits = small s _ c.args.tallies.now (sums s c.args.tallies.now (lawful_is_linked s c.requires.lawful) run.stations run.ran run.tallies) in
    omega (arith, told.sent, told.dropped, told.queued, fits.rest)

pub overflow_sub-result-3 : goal.overflow_sub-result-3
overflow_sub-result-3 c =
    let s = c.args._scenario.now in
    let told = c.sum_of-sum.ensures in
    let run = c.requires.tallies in
    let fits = small s _ c.args.tallies.now (sums s c.args.tallies.now (lawful_is_linked s c.requires.lawful) run.stations run.ran run.tallies) in
    omega (arith, told.sent, told.brought, told.dropped, told.queued, fits.rest)

pub returns : goal.returns
returns c ts ran tallies =
    let s = c.args._scenario.now in
    let told = c.sum_of-sum.ensures in
    totals-are s (map journal_left ts) c.args.tallies.now (sums s c.args.tallies.now (lawful_is_linked s c.requires.lawful) ts ran tallies) _ _ _ _ _ _ told.sent told.brought told.dropped told.queued refl refl
