use Rattle.std.proofs.Common.{◌≡◌, ◌∙◌, None, ap, subst, sym}
use Rattle.mc_base.specs.declared.channel.Side.TheVariants.{Sender}
use Rattle.board_model.specs.DomainCall.{close_at}
use Rattle.board_model.specs.Journal.{PlainAnswer}
use Rattle.domain_parts.specs.Calls.{closed, sent}
use Rattle.domain_parts.specs.CallSteps.{Acts}
use Rattle.domain_parts.specs.Ends.{EndsMoved}
use Rattle.domain_parts.specs.Parts.{shown}
use Rattle.domain_parts.proofs.CallLemmas.{calls-put}
use Rattle.domain_core.proofs.domain.Domain.close_send.Goals as goal
use Rattle.domain_core.proofs.domain.Domain.close_send.Goals.{in-Err, in-Ok}

pub returns-clause-call : goal.returns-clause-call
returns-clause-call g c =
    let answered : closed Sender c.close_end.result ≡ sent c.match-close_end.result = elim c.match-close_end.branch [ in-Ok w ↦ ap (closed Sender) w.in-Ok.is ∙ sym (ap sent w.result-is) | in-Err w ↦ ap (closed Sender) w.in-Err.is ∙ sym (ap sent w.result-is) ] in
    let acts = subst (λ (a : PlainAnswer). Acts (EndsMoved g.S.SendEnd.Moved g.R.RecvEnd.Moved) c.args.at.node (close_at c.args.at.port Sender) c.take_turn.new.self c.close_end.new.self a None) answered c.close_end.ensures.acts in
    rw c.self.view_is at
    (calls-put (EndsMoved g.S.SendEnd.Moved g.R.RecvEnd.Moved) c.args.at.node (close_at c.args.at.port Sender) c.take_turn.new.self c.close_end.new.self (sent c.match-close_end.result) None (shown c.self.inside.inside)
    c.args.journal.now.lines c.take_turn.new.journal.lines c.take_turn.result c.close_end.new.journal.lines c.take_turn.ensures.turn c.take_turn.ensures.rests acts c.close_end.ensures.told)
