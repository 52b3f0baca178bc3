use Rattle.view_cli.proofs.AnswersFound.{found}
use Rattle.view_cli.proofs.expect.outcomes_of.Goals as goal

pub returns : goal.returns
returns c =
    let all = rw c.deref.ensures.value at c.compare.ensures in
    found _ _ _ (λ v. v.items) c.compare.result c.in_ok-expectations.ensures all
