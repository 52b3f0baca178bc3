use Rattle.std.proofs.Common.{◌≡◌, ◌∙◌, ap, sym, length}
use Rattle.std.specs.Prelude.{nat_le}
use Rattle.request_set.specs.Requests.{Requests}
use Rattle.request_set.proofs.Insides.{length-kept}
use Rattle.request_set.proofs.set.RequestSet.is_full.Goals as goal

pub returns : goal.returns
returns c =
    let len = length-kept c.self.inside c.self.invariant in
    ap (λ n. nat_le 64 n) (c.len.ensures.value ∙ sym len) ∙ ap (λ (rs : Requests). nat_le 64 (length rs.standing)) c.self.view_is
