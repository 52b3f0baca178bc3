use Rattle.std.proofs.Common.{[], rules, refl, subst}
use Rattle.std.specs.List.{AllByRecursion}
use Rattle.board_runner.specs.Ended.{IsOverRings}
use Rattle.board_runner.proofs.EndedLemmas.{end-none, end-next}
use Rattle.board_runner.proofs.ended.end_links.Goals as goal

pub loop-link-init : goal.loop-link-init
loop-link-init c = record { so_far = end-none c.args.owner [] _ refl; over = search rules }

pub end_link-requires : goal.end_link-requires
end_link-requires c = (subst (AllByRecursion IsOverRings) c.in-Some.ensures.steps.0 c.loop-link.invariant.over).0

pub loop-link-preserved : goal.loop-link-preserved
loop-link-preserved c = record {
  so_far = end-next c.args.owner c.loop-link.yielded c.in-Some.link _ c.loop-link.ended.items _ c.end_link.result c.loop-link.invariant.so_far c.end_link.ensures c.in_ok-append.ensures;
  over = (subst (AllByRecursion IsOverRings) c.in-Some.ensures.steps.0 c.loop-link.invariant.over).1;
}
