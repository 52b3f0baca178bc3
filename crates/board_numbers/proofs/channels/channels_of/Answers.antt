use Rattle.std.proofs.Common.{◌≡◌, map, take, flat_map, length, ap, ◌∙◌, arith}
use Rattle.std.proofs.lemmas.List.{length-map}
use Rattle.std.proofs.Math.Seq.{take-length}
use Rattle.board_model.specs.SerialRun.{journal_left}
use Rattle.board_model.specs.Totals.{totals_of_owner}
use Rattle.board_numbers.specs.ItemCounts.{IsCountedBy}
use Rattle.board_numbers.proofs.ChannelLemmas.{channels-more, ended-length}
use Rattle.board_numbers.proofs.EachLemmas.{each-at, mapped-within}
use Rattle.board_numbers.proofs.channels.channels_of.Goals as goal

pub bounds-counts-at : goal.bounds-counts-at
bounds-counts-at g c = omega (arith, c.requires.counted.many, c.loop-at-test.true, c.loop-at.auto.at-end, length-map c.args.domains.now g.D.EndedDomain.ended)

pub add_channels-requires-clause-counts : goal.add_channels-requires-clause-counts
add_channels-requires-clause-counts g c e =
    let es = map g.D.EndedDomain.ended c.args.domains.now in
    each-at (IsCountedBy es es) es c.args.counts.now c.requires.counted c.loop-at.at e c.index-counts-at.result (mapped-within g.D.EndedDomain.ended c.args.domains.now c.loop-at.at c.loop-at-test.true) c.index-counts-at.is

pub loop-at-preserved : goal.loop-at-preserved
loop-at-preserved g c ts ran ends =
    let es = map g.D.EndedDomain.ended c.args.domains.now in
    channels-more c.args._scenario.now ts es ends c.loop-at.at _ _
    (omega (arith, c.loop-at-test.true, c.loop-at.auto.at-end, ended-length ts es ends, length-map c.args.domains.now g.D.EndedDomain.ended)) (c.loop-at.invariant ts ran ends) (λ t at. c.in_ok-add_channels.ensures ts t ran ends at)

pub returns : goal.returns
returns g c ts ran ends =
    let es = map g.D.EndedDomain.ended c.args.domains.now in
    let js = map journal_left ts in
    let all : c.loop-at.at ≡ length js = omega (arith, c.loop-at-test.false, c.loop-at.auto.at-end, ended-length ts es ends, length-map c.args.domains.now g.D.EndedDomain.ended, length-map ts journal_left) in
    c.loop-at.invariant ts ran ends ∙ ap (flat_map (totals_of_owner c.args._scenario.now js)) (ap (λ k. take k js) all ∙ take-length js)
