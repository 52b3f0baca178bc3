use Rattle.std.proofs.Common.{◌≡◌, ◌+◌, ◌∷◌, [], arith}
use Rattle.std.specs.Prelude.{decimal}
use Rattle.std.proofs.lemmas.Fmt.{decimal_digit}
use Rattle.call_actor.proofs.lines.client_label.Goals as goal

pub returns : goal.returns
returns c = let d : decimal c.args.client ≡ (48 + c.args.client) ∷ [] = decimal_digit c.args.client (omega (arith, c.requires.few)) in grind (arith, d)
