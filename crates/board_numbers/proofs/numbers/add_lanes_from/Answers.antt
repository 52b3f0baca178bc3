use Rattle.std.proofs.Common.{◌≡◌, ◌<◌, ℕ, List, [], ◌++◌, length, map, take, get_or, Option, Some, None, option_map, option_to_list, refl, ap, ap₂, ◌∙◌, sym, subst, arith, append_assoc, append-nil}
use Rattle.std.proofs.Math.Seq.{take-length}
use Rattle.board_model.specs.declared.scenario.Scenario.{Scenario}
use Rattle.board_model.specs.declared.totals.LanePlaces.{LanePlaces}
use Rattle.board_model.specs.LinkedBoard.{IsLinkedBoard}
use Rattle.board_model.specs.Places.{places_of}
use Rattle.board_model.specs.SerialRun.{Station, journal_left}
use Rattle.board_model.proofs.LawfulBoards.{lawful_is_linked}
use Rattle.board_numbers.specs.declared.tally.Tally.{Tally}
use Rattle.board_numbers.specs.Lanes.{numbers_of, lanes_from, lane_between}
use Rattle.board_numbers.specs.Tallied.{AreTallies, RanBoard, IsTallyOf, AreTalliesOf}
use Rattle.board_numbers.proofs.BoardLemmas.{joined-more, numbers-few}
use Rattle.board_numbers.proofs.TallyLemmas.{tallies-length, tally-at}
use Rattle.board_numbers.proofs.numbers.add_lanes_from.Goals as goal

listed : {A B : Type 0} (f : A → B) (o : Option A) → option_to_list (option_map f o) ≡ map f (option_to_list o)
listed f None = refl
listed f (Some x) = refl

pub offset_bounds-tallies-from : goal.offset_bounds-tallies-from
offset_bounds-tallies-from c =
    omega (arith, c.requires.from, ap length c.requires.numbers, numbers-few c.args.scenario.now (lawful_is_linked c.args.scenario.now c.requires.lawful))

pub bounds-tallies-from : goal.bounds-tallies-from
bounds-tallies-from c =
    omega (arith, c.requires.from, ap length c.requires.numbers, tallies-length c.args.scenario.now c.requires.tallies.stations c.requires.tallies.ran c.args.tallies.now c.requires.tallies.tallies)

pub offset_bounds-tallies-to : goal.offset_bounds-tallies-to
offset_bounds-tallies-to c =
    omega (arith, c.loop-to-test.true, ap length c.requires.numbers, numbers-few c.args.scenario.now (lawful_is_linked c.args.scenario.now c.requires.lawful))

pub bounds-tallies-to : goal.bounds-tallies-to
bounds-tallies-to c =
    omega (arith, c.loop-to-test.true, ap length c.requires.numbers, tallies-length c.args.scenario.now c.requires.tallies.stations c.requires.tallies.ran c.args.tallies.now c.requires.tallies.tallies)

-- a tally that is none, for places that the list has not
abbrev none : Tally
none = record { counts = record { puts = []; takes = []; sent = 0; brought = 0; lost = 0 }; deleted = 0; held = record { queued = 0; places = [] } }

-- those of the domains at two places
tallies_at : (s : Scenario) → IsLinkedBoard s → (ts : List Station) → RanBoard s ts → (ys : List Tally) → AreTallies s ts ys → (ns : List ℕ) → ns ≡ numbers_of s → (i j : ℕ) → i < length ns → j < length ns → AreTalliesOf s ts (get_or ns i 0) (get_or ns j 0) (get_or ys i none) (get_or ys j none)
tallies_at s board ts ran ys all ns numbers i j i_in j_in =
    let many = tallies-length s ts ran ys all in
    let at : (k : ℕ) → k < length ns → IsTallyOf s ts (get_or ns k 0) (get_or ys k none) = λ k within.
    subst (λ (ms : List ℕ). IsTallyOf s ts (get_or ms k 0) (get_or ys k none)) (sym numbers) (tally-at s board ts ran ys all k none (omega (arith, within, ap length numbers, many))) in
    record { ran = ran; at_sender = at i i_in; at_receiver = at j j_in }

pub places_between-lane-requires-clause-tallies : goal.places_between-lane-requires-clause-tallies
places_between-lane-requires-clause-tallies c =
    let s = c.args.scenario.now in
    let run = c.requires.tallies in
    record {
      stations = run.stations;
      tallies = tallies_at s (lawful_is_linked s c.requires.lawful) run.stations run.ran c.args.tallies.now run.tallies c.args.numbers.now c.requires.numbers c.args.from c.loop-to.to c.requires.from c.loop-to-test.true;
    }

pub loop-to-init : goal.loop-to-init
loop-to-init c ts ran tallies = sym (append-nil c.args.places.now)

pub loop-to-preserved : goal.loop-to-preserved
loop-to-preserved c ts ran tallies =
    let s = c.args.scenario.now in
    let f = places_of s (map journal_left ts) in
    let ns = c.args.numbers.now in
    let from = get_or ns c.args.from 0 in
    let to = c.loop-to.to in
    let lane = c.places_between-lane.ensures ts (tallies_at s (lawful_is_linked s c.requires.lawful) ts ran c.args.tallies.now tallies ns c.requires.numbers c.args.from to c.requires.from c.loop-to-test.true) in
    let before = lanes_from s from (take to ns) in
    c.in_ok-add_lane.ensures
    ∙ ap₂ (λ (ps : List LanePlaces) (o : Option LanePlaces). ps ++ option_to_list o) (c.loop-to.invariant ts ran tallies) lane
    ∙ append_assoc c.args.places.now (map f before) (option_to_list (option_map f (lane_between s from (get_or ns to 0))))
    ∙ ap (λ (ps : List LanePlaces). c.args.places.now ++ ps) (ap (λ (ps : List LanePlaces). map f before ++ ps) (listed f (lane_between s from (get_or ns to 0))) ∙ sym (joined-more f (λ b. option_to_list (lane_between s from b)) ns to c.loop-to-test.true))

pub returns : goal.returns
returns c ts ran tallies =
    let s = c.args.scenario.now in
    let f = places_of s (map journal_left ts) in
    let ns = c.args.numbers.now in
    let all : c.loop-to.to ≡ length ns = omega (arith, c.loop-to-test.false, c.loop-to.auto.to-end) in
    c.loop-to.invariant ts ran tallies ∙ ap (λ (ms : List ℕ). c.args.places.now ++ map f (lanes_from s (get_or ns c.args.from 0) ms)) (ap (λ (k : ℕ). take k ns) all ∙ take-length ns)
