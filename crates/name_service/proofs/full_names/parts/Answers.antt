use Rattle.std.proofs.Common.{◌≡◌, ◌∙◌, ◌++◌, ◌∷◌, List, ℕ, Some, ap, sym}
use Rattle.std.specs.Prelude.{codes}
use Rattle.std.specs.List.{list_any}
use Rattle.std.proofs.lemmas.Bool.Decides.{Decides-eqb}
use Rattle.std.proofs.lemmas.Slice.Eq.{strip_prefix_is}
use Rattle.mc_base.specs.FullName.{colon, is_colon}
use Rattle.mc_base.proofs.FullNames.{parts_are, same_front, has_colon}
use Rattle.name_service.proofs.full_names.parts.Goals as goal

pub returns-in_err-node-clause-only : goal.returns-in_err-node-clause-only
returns-in_err-node-clause-only c = λ d n p whole_d whole_n same.
    let stripped : c.args.name.now ≡ codes "mcapi:" ++ c.in_ok-numbers.numbers.now = strip_prefix_is Decides-eqb c.args.name.now (codes "mcapi:") (Some c.in_ok-numbers.numbers) c.in_ok-numbers.ensures.cases in
    let r = parts_are c.args.name.now c.in_ok-numbers.numbers.now c.in_ok-domain.domain.now c.in_ok-domain.rest.now d (n ++ (colon ∷ p)) stripped c.in_ok-domain.ensures.made c.in_ok-domain.ensures.first whole_d same in
    absurd (has_colon n p (ap (list_any is_colon) (sym r.others) ∙ c.in_err-node.ensures.absent))

pub returns-clause-made : goal.returns-clause-made
returns-clause-made c =
    let stripped : c.args.name.now ≡ codes "mcapi:" ++ c.in_ok-numbers.numbers.now = strip_prefix_is Decides-eqb c.args.name.now (codes "mcapi:") (Some c.in_ok-numbers.numbers) c.in_ok-numbers.ensures.cases in
    stripped ∙ ap (λ (xs : List ℕ). codes "mcapi:" ++ xs) (c.in_ok-domain.ensures.made ∙ ap (λ (xs : List ℕ). c.in_ok-domain.domain.now ++ (colon ∷ xs)) c.in_ok-node.ensures.made)

pub returns-clause-only : goal.returns-clause-only
returns-clause-only c = λ d n p whole_d whole_n same.
    let stripped : c.args.name.now ≡ codes "mcapi:" ++ c.in_ok-numbers.numbers.now = strip_prefix_is Decides-eqb c.args.name.now (codes "mcapi:") (Some c.in_ok-numbers.numbers) c.in_ok-numbers.ensures.cases in
    let r = parts_are c.args.name.now c.in_ok-numbers.numbers.now c.in_ok-domain.domain.now c.in_ok-domain.rest.now d (n ++ (colon ∷ p)) stripped c.in_ok-domain.ensures.made c.in_ok-domain.ensures.first whole_d same in
    let q = same_front c.in_ok-node.node.now n c.in_ok-node.port.now p c.in_ok-node.ensures.first whole_n (sym c.in_ok-node.ensures.made ∙ r.others) in
    (r.first, q.0, q.1)
