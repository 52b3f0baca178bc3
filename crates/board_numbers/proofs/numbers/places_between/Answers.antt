use Rattle.std.proofs.Common.{ℕ, map, Some, Option, option_map, ap, sym, ◌∙◌, arith}
use Rattle.board_model.specs.declared.totals.LanePlaces.{LanePlaces}
use Rattle.board_model.specs.Places.{places_of}
use Rattle.board_model.specs.SerialRun.{journal_left}
use Rattle.board_numbers.proofs.LaneLemmas.{lane-ends, lane-read}
use Rattle.board_numbers.proofs.numbers.places_between.Goals as goal

pub bounds-sender-from : goal.bounds-sender-from
bounds-sender-from c =
    let fits = (lane-ends c.args.scenario.now c.requires.lawful c.args.from c.args.to c.in_ok-size.size (sym c.buffers_between.ensures ∙ c.in_ok-size.was)).1 in
    omega (arith, fits, c.from.ensures)

pub bounds-receiver-from : goal.bounds-receiver-from
bounds-receiver-from c =
    let fits = (lane-ends c.args.scenario.now c.requires.lawful c.args.from c.args.to c.in_ok-size.size (sym c.buffers_between.ensures ∙ c.in_ok-size.was)).0 in
    omega (arith, fits, c.from-2.ensures)

pub bounds-receiver-from-2 : goal.bounds-receiver-from-2
bounds-receiver-from-2 c =
    let fits = (lane-ends c.args.scenario.now c.requires.lawful c.args.from c.args.to c.in_ok-size.size (sym c.buffers_between.ensures ∙ c.in_ok-size.was)).0 in
    omega (arith, fits, c.from-3.ensures)

pub overflow_sub-ring : goal.overflow_sub-ring
overflow_sub-ring c =
    let run = c.requires.tallies in
    let numbers = lane-read c.args.scenario.now c.requires.lawful run.stations c.args.from c.args.to c.in_ok-size.size c.args.sender.now c.args.receiver.now run.tallies (sym c.buffers_between.ensures ∙ c.in_ok-size.was)
    c.from.result c.from-2.result c.from-3.result (record { queue = 0; lent = 0 }) c.from.ensures c.from-2.ensures c.from-3.ensures in
    numbers.takes_fit

pub overflow_cast-ring : goal.overflow_cast-ring
overflow_cast-ring c =
    let run = c.requires.tallies in
    let numbers = lane-read c.args.scenario.now c.requires.lawful run.stations c.args.from c.args.to c.in_ok-size.size c.args.sender.now c.args.receiver.now run.tallies (sym c.buffers_between.ensures ∙ c.in_ok-size.was)
    c.from.result c.from-2.result c.from-3.result (record { queue = 0; lent = 0 }) c.from.ensures c.from-2.ensures c.from-3.ensures in
    let small = numbers.small in
    omega (arith, small)

pub lane_places-requires : goal.lane_places-requires
lane_places-requires c =
    let run = c.requires.tallies in
    let numbers = lane-read c.args.scenario.now c.requires.lawful run.stations c.args.from c.args.to c.in_ok-size.size c.args.sender.now c.args.receiver.now run.tallies (sym c.buffers_between.ensures ∙ c.in_ok-size.was)
    c.from.result c.from-2.result c.from-3.result (record { queue = 0; lent = 0 }) c.from.ensures c.from-2.ensures c.from-3.ensures in
    numbers.fits

pub returns : goal.returns
returns c ts tallies =
    let numbers = lane-read c.args.scenario.now c.requires.lawful ts c.args.from c.args.to c.in_ok-size.size c.args.sender.now c.args.receiver.now tallies (sym c.buffers_between.ensures ∙ c.in_ok-size.was)
    c.from.result c.from-2.result c.from-3.result (record { queue = 0; lent = 0 }) c.from.ensures c.from-2.ensures c.from-3.ensures in
    ap (λ (p : LanePlaces). Some p) (c.lane_places.ensures ∙ numbers.places)
    ∙ ap (λ (o : Option ℕ). option_map (places_of c.args.scenario.now (map journal_left ts)) (option_map (λ (size : ℕ). record { sender = c.args.from; receiver = c.args.to; size = size }) o)) (sym c.in_ok-size.was ∙ c.buffers_between.ensures)
