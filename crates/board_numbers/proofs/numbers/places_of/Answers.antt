use Rattle.std.proofs.Common.{◌≡◌, ◌<◌, ◌++◌, length, map, take, flat_map, get_or, ap, sym, ◌∙◌, arith}
use Rattle.std.proofs.Math.Seq.{take-length}
use Rattle.board_model.specs.Places.{places_of as places_of_lane}
use Rattle.board_model.specs.SerialRun.{journal_left}
use Rattle.board_model.proofs.LawfulBoards.{lawful_is_linked}
use Rattle.board_numbers.specs.Lanes.{lanes_from, numbers_of}
use Rattle.board_numbers.proofs.BoardLemmas.{joined-more, lanes-listed}
use Rattle.board_numbers.proofs.ToldDomains.{lawful-told}
use Rattle.board_numbers.proofs.numbers.places_of.Goals as goal

pub rising_numbers-numbers-requires : goal.rising_numbers-numbers-requires
rising_numbers-numbers-requires c = lawful-told c.args.scenario.now c.requires.lawful

pub loop-from-preserved : goal.loop-from-preserved
loop-from-preserved c ts ran tallies =
    let s = c.args.scenario.now in
    let f = places_of_lane s (map journal_left ts) in
    let ns = c.rising_numbers-numbers.result.items in
    let from = c.loop-from.from in
    let within : from < length ns = omega (arith, c.loop-from-test.true, c.len-from-end.ensures.value) in
    let more = joined-more f (λ a. lanes_from s a (numbers_of s)) ns from within in
    let read : c.deref.result.now ≡ ns = c.deref.ensures.0 in
    let all : c.deref.result.now ≡ numbers_of s = read ∙ c.rising_numbers-numbers.ensures in
    let number : get_or c.deref.result.now from 0 ≡ get_or ns from 0 = ap (λ ms. get_or ms from 0) read in
    c.in_ok-add_lanes_from.ensures ts ran tallies
    ∙ ap (λ ls. c.loop-from.places ++ map f ls) (ap (λ n. lanes_from s n c.deref.result.now) number ∙ ap (λ ms. lanes_from s (get_or ns from 0) ms) all)
    ∙ ap (λ ps. ps ++ map f (lanes_from s (get_or ns from 0) (numbers_of s))) (c.loop-from.invariant ts ran tallies)
    ∙ sym more

pub returns : goal.returns
returns c ts ran tallies =
    let s = c.args.scenario.now in
    let f = places_of_lane s (map journal_left ts) in
    let ns = c.rising_numbers-numbers.result.items in
    let end = c.loop-from-test.false in
    let here = c.loop-from.auto.from-end in
    let all : c.loop-from.from ≡ length ns = omega (arith, end, here, c.len-from-end.ensures.value) in
    let front : take c.loop-from.from ns ≡ numbers_of s = ap (λ k. take k ns) all ∙ take-length ns ∙ c.rising_numbers-numbers.ensures in
    c.loop-from.invariant ts ran tallies
    ∙ ap (λ ms. map f (flat_map (λ a. lanes_from s a (numbers_of s)) ms)) front
    ∙ sym (ap (map f) (lanes-listed s (lawful_is_linked s c.requires.lawful)))
