use Rattle.std.proofs.Common.{◌∷◌, ap, ◌∙◌, subst}
use Rattle.outer_io.specs.Puts.{Puts}
use Rattle.board_model.specs.Forms.{form}
use Rattle.board_model.specs.Grammar.{call_words, spaced}
use Rattle.scenario_lang.proofs.CanonicalLemmas.{front-others}
use Rattle.scenario_lang.proofs.canonical.put_call.Goals as goal

pub returns : goal.returns
returns g c =
    let words = ap (λ ws. (form c.callee.result).word ∷ ws) c.arguments_of.ensures ∙ front-others (call_words c.args.call.now) _ c.callee.ensures in
    subst (λ ws. Puts g.K.Sink c.args.out.now c.put_form.new.out (spaced ws)) words c.put_form.ensures
