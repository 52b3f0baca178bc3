use Rattle.std.proofs.Common.{◌≡◌, ◌+◌, length, map, arith, sym, subst}
use Rattle.std.proofs.lemmas.List.{length-map}
use Rattle.board_numbers.specs.ItemCounts.{HasNoItems}
use Rattle.board_numbers.proofs.EachLemmas.{EachSoFar, mapped-read, mapped-within, so-far-none, so-far-more, so-far-all}
use Rattle.board_numbers.proofs.items.no_items.Goals as goal

pub loop-at-init : goal.loop-at-init
loop-at-init g c =
    let es = map g.D.EndedDomain.ended c.args.domains.now in
    subst (EachSoFar HasNoItems 0 es) (sym c.new-all.ensures.items) (so-far-none HasNoItems es)

pub loop-at-preserved : goal.loop-at-preserved
loop-at-preserved g c =
    let f = g.D.EndedDomain.ended in
    let ds = c.args.domains.now in
    let at = c.loop-at.at in
    subst (EachSoFar HasNoItems (at + 1) (map f ds)) (sym c.in_ok-append.ensures)
    (so-far-more HasNoItems at (map f ds) c.loop-at.all.items _ _ (mapped-within f ds at c.loop-at-test.true) (mapped-read f ds at _ c.loop-at-test.true c.index-domains-at.is) c.in_ok-counts.ensures c.loop-at.invariant)

pub returns : goal.returns
returns g c =
    let es = map g.D.EndedDomain.ended c.args.domains.now in
    let end : c.loop-at.at ≡ length es = omega (arith, c.loop-at-test.false, c.loop-at.auto.at-end, length-map c.args.domains.now g.D.EndedDomain.ended) in
    so-far-all HasNoItems c.loop-at.at es c.loop-at.all.items end c.loop-at.invariant
