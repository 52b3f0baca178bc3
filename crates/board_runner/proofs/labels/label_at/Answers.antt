use Rattle.std.proofs.Common.{ℕ, List, rules, subst, arith}
use Rattle.std.specs.Slice.{IsItemAt}
use Rattle.arrayvec.specs.ArrayVec.{ArrayVec}
use Rattle.board_runner.proofs.LendingLemmas.{label-found}
use Rattle.board_runner.proofs.labels.label_at.Goals as goal

pub returns : goal.returns
returns c =
    let i = c.in_ok-place-2.place in
    label-found c.args.labels.now.items c.args.place c.in_ok-place.field-0 i c.get.result (search rules) (grind arith) (subst (λ (xs : List (ArrayVec ℕ)). IsItemAt xs i c.get.result) c.as_slice.ensures.labels c.get.ensures.lookup)
