use Rattle.std.proofs.Common.{◌≡◌, ◌∙◌, ap, sym, subst, refl, IsSome, List, ℕ, length, position, eqb, arith}
use Rattle.slab.specs.Slab.{get}
use Rattle.request_set.specs.Requests.{Standing, Requests, request_of, without_request}
use Rattle.request_set.specs.InSet.{standing_in, requests_of}
use Rattle.request_set.proofs.Keys.{without, position-among, removed-without}
use Rattle.request_set.proofs.Standings.{standing-without, length-standing}
use Rattle.request_set.proofs.Insides.{stands, length-kept, KeepsOrder-without}
use Rattle.request_set.proofs.set.RequestSet.end.Goals as goal

pub remove-requires-2 : goal.remove-requires-2
remove-requires-2 c =
    let kept = stands c.self.inside c.args.id c.self.invariant (subst (λ (rs : Requests). IsSome (request_of rs c.args.id)) (sym c.self.view_is) c.requires) in
    rw kept.1 refl

pub unwrap-place-requires : goal.unwrap-place-requires
unwrap-place-requires c =
    let s = c.self.inside in
    let id = c.args.id in
    let kept = stands s id c.self.invariant (subst (λ (rs : Requests). IsSome (request_of rs id)) (sym c.self.view_is) c.requires) in
    let some : IsSome (get s.slab id.key) = rw kept.1 refl in
    rw (c.place_of.ensures, c.deref.ensures.0) (position-among id.key s.order.items (c.self.invariant.ordered id.key some))

pub invariant_of-self : goal.invariant_of-self
invariant_of-self c =
    let s = c.self.inside in
    let left = c.remove.ensures.items ∙ removed-without c.args.id.key s.order.items c.unwrap-place.result c.self.invariant.differ (ap (λ (xs : List ℕ). position (λ k. eqb k c.args.id.key) xs) (sym c.deref.ensures.0) ∙ sym c.place_of.ensures ∙ c.unwrap-place.ensures) in
    let e = c.remove-2.ensures in
    KeepsOrder-without s _ c.args.id.key c.self.invariant e.updates e.len e.capacity left c.remove.ensures.len

pub returns-clause-ended : goal.returns-clause-ended
returns-clause-ended c =
    let s = c.self.inside in
    let id = c.args.id in
    let kept = stands s id c.self.invariant (subst (λ (rs : Requests). IsSome (request_of rs id)) (sym c.self.view_is) c.requires) in
    let left : c.remove.new.self.items ≡ without id.key s.order.items = c.remove.ensures.items ∙ removed-without id.key s.order.items c.unwrap-place.result c.self.invariant.differ (ap (λ (xs : List ℕ). position (λ k. eqb k id.key) xs) (sym c.deref.ensures.0) ∙ sym c.place_of.ensures ∙ c.unwrap-place.ensures) in
    let ended : standing_in (get c.remove-2.new.self) c.remove.new.self.items ≡ (without_request (requests_of s) id).standing = rw left (standing-without (get s.slab) (get c.remove-2.new.self) id kept.0 s.order.items kept.1 kept.2 c.remove-2.ensures.updates.others) in
    ap (λ (xs : List Standing). record { standing = xs; given = s.given }) ended
    ∙ ap (λ (rs : Requests). without_request rs id) c.self.view_is

pub returns-clause-fewer : goal.returns-clause-fewer
returns-clause-fewer c =
    let keeps = invariant_of-self c in
    let len = length-standing (get c.remove-2.new.self) c.remove.new.self.items keeps.occupied in
    let old = length-kept c.self.inside c.self.invariant in
    let same : length (requests_of c.self.inside).standing ≡ length c.args.self.now.standing = ap (λ (rs : Requests). length rs.standing) c.self.view_is in
    omega (arith, len, old, same, c.remove.ensures.len)
