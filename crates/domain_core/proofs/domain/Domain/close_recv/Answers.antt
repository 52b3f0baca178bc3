use Rattle.std.proofs.Common.{◌≡◌, ℕ, None, refl, subst}
use Rattle.std.specs.Prelude.{Result, Ok, Err}
use Rattle.mc_base.specs.declared.channel.Side.TheVariants.{Receiver}
use Rattle.mc_base.specs.declared.refusal.Refusal.{Refusal}
use Rattle.board_model.specs.DomainCall.{close_at}
use Rattle.board_model.specs.Journal.{PlainAnswer}
use Rattle.domain_parts.specs.Calls.{closed, deleted}
use Rattle.domain_parts.specs.CallSteps.{Acts}
use Rattle.domain_parts.specs.Ends.{EndsMoved}
use Rattle.domain_parts.specs.Parts.{shown}
use Rattle.domain_parts.proofs.CallLemmas.{calls-put}
use Rattle.domain_core.proofs.domain.Domain.close_recv.Goals as goal

answered : (r : Result ℕ Refusal) → closed Receiver r ≡ deleted r
answered (Ok count) = refl
answered (Err word) = refl

pub returns-clause-call : goal.returns-clause-call
returns-clause-call g c =
    let acts = subst (λ (a : PlainAnswer). Acts (EndsMoved g.S.SendEnd.Moved g.R.RecvEnd.Moved) c.args.at.node (close_at c.args.at.port Receiver) c.take_turn.new.self c.close_end.new.self a None) (answered c.close_end.result) c.close_end.ensures.acts in
    rw c.self.view_is at
    (calls-put (EndsMoved g.S.SendEnd.Moved g.R.RecvEnd.Moved) c.args.at.node (close_at c.args.at.port Receiver) c.take_turn.new.self c.close_end.new.self (deleted c.close_end.result) None (shown c.self.inside.inside)
    c.args.journal.now.lines c.take_turn.new.journal.lines c.take_turn.result c.close_end.new.journal.lines c.take_turn.ensures.turn c.take_turn.ensures.rests acts c.close_end.ensures.told)
