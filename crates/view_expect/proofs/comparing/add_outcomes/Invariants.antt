use Rattle.std.proofs.Common.{◌≡◌, ◌++◌, length, map}
use Rattle.view_expect.specs.Answers.{told_answers}
use Rattle.view_expect.specs.Outcomes.{outcome_on, verdict_of}
use Rattle.view_expect.proofs.comparing.add_outcomes.Given as goal

abbrev pub decreases-loop-rest : goal.decreases-loop-rest
decreases-loop-rest l = length l.rest

abbrev pub invariant-loop-rest : goal.invariant-loop-rest
invariant-loop-rest l =
    map verdict_of l.outcomes.items ++ map (outcome_on (map told_answers l.all)) l.rest ≡ map verdict_of l.initial.outcomes.items ++ map (outcome_on (map told_answers l.all)) l.expectations
