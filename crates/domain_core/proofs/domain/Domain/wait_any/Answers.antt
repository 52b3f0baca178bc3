use Rattle.std.proofs.Common.{◌≡◌, ◌+◌, rules, subst, sym, true}
use Rattle.std.specs.Prelude.{Err, IfOk, Ok}
use Rattle.domain_parts.specs.Calls.{LendsLast}
use Rattle.domain_parts.specs.DomainView.{packet_lent_as}
use Rattle.domain_parts.specs.Ends.{EndsMoved}
use Rattle.domain_parts.specs.Parts.{shown}
use Rattle.domain_parts.specs.Waiting.{Waits, waited_any, waited_at}
use Rattle.domain_parts.proofs.WaitEnds.{err-any}
use Rattle.domain_core.proofs.domain.Domain.wait_any.Goals as goal

pub returns-in_err-at-clause-wait : goal.returns-in_err-at-clause-wait
returns-in_err-at-clause-wait g c =
    let M = EndsMoved g.S.SendEnd.Moved g.R.RecvEnd.Moved in
    let n = c.wait_for.new in
    let out = n.out in
    let ids = c.args.ids.now.items in
    let lends = packet_lent_as (shown n.self) in
    let fault = c.in_err-at.field-0.0 in
    let answers : c.from_residual.result ≡ Err fault = search rules in
    subst (λ x. Waits M c.args.number c.args.limit ids true x (shown n.self) c.args.journal.now.lines n.journal.lines (waited_any c.from_residual.result out lends)) c.self.view_is
    (subst (λ r. Waits M c.args.number c.args.limit ids true (shown c.self.inside.inside) (shown n.self) c.args.journal.now.lines n.journal.lines (waited_any r out lends)) (sym answers)
    (subst (λ a. Waits M c.args.number c.args.limit ids true (shown c.self.inside.inside) (shown n.self) c.args.journal.now.lines n.journal.lines a) (err-any fault out lends)
    (subst (λ r. Waits M c.args.number c.args.limit ids true (shown c.self.inside.inside) (shown n.self) c.args.journal.now.lines n.journal.lines (waited_at true r out lends)) c.in_err-at.was
    (subst (λ is. Waits M c.args.number c.args.limit is true (shown c.self.inside.inside) (shown n.self) c.args.journal.now.lines n.journal.lines (waited_at true c.wait_for.result out lends)) c.as_slice.ensures.value (c.wait_for.ensures.waits true)))))

pub returns-clause-wait : goal.returns-clause-wait
returns-clause-wait g c =
    let M = EndsMoved g.S.SendEnd.Moved g.R.RecvEnd.Moved in
    let n = c.wait_for.new in
    let out = n.out in
    let ids = c.args.ids.now.items in
    let lends = packet_lent_as (shown n.self) in
    subst (λ x. Waits M c.args.number c.args.limit ids true x (shown n.self) c.args.journal.now.lines n.journal.lines (waited_any (Ok (c.in_ok-at.at + 1, c.in_ok-at.done)) out lends)) c.self.view_is
    (subst (λ r. Waits M c.args.number c.args.limit ids true (shown c.self.inside.inside) (shown n.self) c.args.journal.now.lines n.journal.lines (waited_at true r out lends)) c.in_ok-at.was
    (subst (λ is. Waits M c.args.number c.args.limit is true (shown c.self.inside.inside) (shown n.self) c.args.journal.now.lines n.journal.lines (waited_at true c.wait_for.result out lends)) c.as_slice.ensures.value (c.wait_for.ensures.waits true)))

pub returns-clause-lent : goal.returns-clause-lent
returns-clause-lent g c =
    let n = shown c.wait_for.new.self in
    subst (λ x. LendsLast x.packets n.packets c.in_ok-at.done) c.self.view_is
    (subst (λ r. IfOk r (λ x. LendsLast (shown c.self.inside.inside).packets n.packets x.1)) c.in_ok-at.was c.wait_for.ensures.lent)
