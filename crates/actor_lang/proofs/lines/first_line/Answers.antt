use Rattle.std.proofs.Common.{arith, ap, sym, ◌≡◌, ◌∷◌, ◌∙◌, ◌+◌, length, List, ℕ, Option, Bor}
use Rattle.actor_lang.specs.Parts.{parts_left, bytes_left}
use Rattle.actor_lang.proofs.PartLemmas.{line_ended, line_open}
use Rattle.actor_lang.proofs.lines.first_line.Goals as goal

pub returns-in-Some-clause-line : goal.returns-in-Some-clause-line
returns-in-Some-clause-line c =
    line_ended c.args.text.now c.first_part.result.0.now c.in-Some.rest.now (c.first_part.ensures.parts ∙ ap (λ (o : Option (Bor (List ℕ))). c.first_part.result.0.now ∷ parts_left 10 o) c.in-Some.is)

pub returns-in-None-clause-line : goal.returns-in-None-clause-line
returns-in-None-clause-line c =
    let whole : length c.first_part.result.0.now + 0 ≡ length c.args.text.now = ap (λ (o : Option (Bor (List ℕ))). length c.first_part.result.0.now + bytes_left o) (sym c.in-None.is) ∙ c.first_part.ensures.whole in
    line_open c.args.text.now c.first_part.result.0.now (c.first_part.ensures.parts ∙ ap (λ (o : Option (Bor (List ℕ))). c.first_part.result.0.now ∷ parts_left 10 o) c.in-None.is) (omega (arith, whole, c.requires))
