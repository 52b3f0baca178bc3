use Rattle.std.proofs.Common.{◌≡◌, ◌+◌, map, ap, ◌∙◌, arith}
use Rattle.call_service.specs.Served.{rising}
use Rattle.call_actor.specs.CallsBoards.{call_link}
use Rattle.call_actor.proofs.RisingNumbers.{next-mapped}
use Rattle.call_actor.proofs.board.call_links.Goals as goal

pub loop-before-preserved : goal.loop-before-preserved
loop-before-preserved c =
    let place : c.loop-before.before + 1 ≡ 1 + c.loop-before.before = omega arith in
    next-mapped (call_link c.args.size) 1 c.loop-before.before c.loop-before.links.items _ _ c.in_ok-append.ensures (c.call_link.ensures ∙ ap (call_link c.args.size) place) c.loop-before.invariant

pub returns : goal.returns
returns c =
    let all : c.loop-before.before ≡ c.args.clients = omega (arith, c.loop-before-test.false, c.loop-before.auto.before-end) in
    c.loop-before.invariant ∙ ap (λ n. map (call_link c.args.size) (rising 1 n)) all
