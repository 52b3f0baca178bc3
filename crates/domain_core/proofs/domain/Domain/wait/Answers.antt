use Rattle.std.proofs.Common.{◌≡◌, ◌∷◌, [], false, rules, subst, sym}
use Rattle.std.specs.Prelude.{Err, IfOk, Ok}
use Rattle.domain_parts.specs.Calls.{LendsLast}
use Rattle.domain_parts.specs.DomainView.{packet_lent_as}
use Rattle.domain_parts.specs.Ends.{EndsMoved}
use Rattle.domain_parts.specs.Parts.{shown}
use Rattle.domain_parts.specs.Waiting.{Waits, waited, waited_at}
use Rattle.domain_parts.proofs.WaitEnds.{err-one}
use Rattle.domain_core.proofs.domain.Domain.wait.Goals as goal

pub returns-in_err-done-clause-wait : goal.returns-in_err-done-clause-wait
returns-in_err-done-clause-wait g c =
    let M = EndsMoved g.S.SendEnd.Moved g.R.RecvEnd.Moved in
    let n = c.wait_for.new in
    let out = n.out in
    let lends = packet_lent_as (shown n.self) in
    let fault = c.in_err-done.field-0.0 in
    let answers : c.from_residual.result ≡ Err fault = search rules in
    subst (λ x. Waits M c.args.number c.args.limit (c.args.id ∷ []) false x (shown n.self) c.args.journal.now.lines n.journal.lines (waited c.from_residual.result out lends)) c.self.view_is
    (subst (λ r. Waits M c.args.number c.args.limit (c.args.id ∷ []) false (shown c.self.inside.inside) (shown n.self) c.args.journal.now.lines n.journal.lines (waited r out lends)) (sym answers)
    (subst (λ a. Waits M c.args.number c.args.limit (c.args.id ∷ []) false (shown c.self.inside.inside) (shown n.self) c.args.journal.now.lines n.journal.lines a) (err-one fault out lends)
    (subst (λ r. Waits M c.args.number c.args.limit (c.args.id ∷ []) false (shown c.self.inside.inside) (shown n.self) c.args.journal.now.lines n.journal.lines (waited_at false r out lends)) c.in_err-done.was (c.wait_for.ensures.waits false))))

pub returns-clause-wait : goal.returns-clause-wait
returns-clause-wait g c =
    let M = EndsMoved g.S.SendEnd.Moved g.R.RecvEnd.Moved in
    let n = c.wait_for.new in
    let out = n.out in
    let lends = packet_lent_as (shown n.self) in
    subst (λ x. Waits M c.args.number c.args.limit (c.args.id ∷ []) false x (shown n.self) c.args.journal.now.lines n.journal.lines (waited (Ok c.in_ok-done.done) out lends)) c.self.view_is
    (subst (λ r. Waits M c.args.number c.args.limit (c.args.id ∷ []) false (shown c.self.inside.inside) (shown n.self) c.args.journal.now.lines n.journal.lines (waited_at false r out lends)) c.in_ok-done.was (c.wait_for.ensures.waits false))

pub returns-clause-lent : goal.returns-clause-lent
returns-clause-lent g c =
    let n = shown c.wait_for.new.self in
    subst (λ x. LendsLast x.packets n.packets c.in_ok-done.done) c.self.view_is
    (subst (λ r. IfOk r (λ x. LendsLast (shown c.self.inside.inside).packets n.packets x.1)) c.in_ok-done.was c.wait_for.ensures.lent)
