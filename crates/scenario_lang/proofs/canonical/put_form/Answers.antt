use Rattle.outer_io.proofs.Writing.{puts_then}
use Rattle.board_model.specs.Forms.{form}
use Rattle.scenario_lang.proofs.CanonicalLemmas.{spaced-arguments}
use Rattle.scenario_lang.proofs.canonical.put_form.Goals as goal

pub returns : goal.returns
returns g c =
    let word = rw c.row_of.ensures.word at c.put.ensures in
    rw (spaced-arguments (form c.args.callee).word c.args.arguments.now) (puts_then _ _ _ _ _ _ word c.put_arguments.ensures)
