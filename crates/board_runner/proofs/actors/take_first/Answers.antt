use Rattle.std.proofs.Common.{List, ◌∷◌, ap, sym, ◌∙◌}
use Rattle.board_runner.proofs.ActorJobLemmas.{first-taken}
use Rattle.board_runner.proofs.actors.take_first.Goals as goal

pub returns : goal.returns
returns g c = first-taken c.args.items.now.items c.remove.result c.requires c.remove.ensures.value ∙ ap (λ xs. c.remove.result ∷ xs) (sym c.remove.ensures.items)
