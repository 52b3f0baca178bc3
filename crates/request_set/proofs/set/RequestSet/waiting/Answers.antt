use Rattle.std.proofs.Common.{◌≡◌, subst, sym, Option, IfSome}
use Rattle.mc_base.specs.declared.request.RequestId.{RequestId}
use Rattle.request_set.specs.Requests.{Requests, IsPending, oldest_waiting}
use Rattle.request_set.specs.InSet.{requests_of}
use Rattle.request_set.proofs.Insides.{waiting-pending}
use Rattle.request_set.proofs.set.RequestSet.waiting.Goals as goal

pub returns-clause-pending : goal.returns-clause-pending
returns-clause-pending c =
    let oldest : c.oldest_of.result ≡ oldest_waiting (requests_of c.self.inside) c.args.local = cc in
    subst (λ (rs : Requests). IfSome c.oldest_of.result (λ id. IsPending rs id)) c.self.view_is
    (subst (λ (o : Option RequestId). IfSome o (λ id. IsPending (requests_of c.self.inside) id)) (sym oldest) (waiting-pending c.self.inside c.args.local c.self.invariant))
