use Rattle.std.proofs.Common.{◌≡◌, ◌∙◌, ◌<◌, ◌≢◌, ◌+◌, ◌%◌, ◌^◌, ◌++◌, ◌∷◌, [], List, None, IsSome, ap, sym, subst, refl, arith, length, eqb-true}
use Rattle.std.specs.List.{AllByRecursion}
use Rattle.std.proofs.lemmas.Bool.{eq-eqb}
use Rattle.std.proofs.lemmas.Bool.Decides.{nat_tests}
use Rattle.slab.specs.Slab.{get}
use Rattle.mc_base.specs.declared.request.RequestId.{RequestId}
use Rattle.request_set.specs.declared.set.Request.{Request}
use Rattle.request_set.specs.Requests.{Standing, Requests, keys, with_request}
use Rattle.request_set.specs.InSet.{Among, standing_in, standing_of, requests_of}
use Rattle.request_set.proofs.Keys.{Among-push}
use Rattle.request_set.proofs.Standings.{find-kept, keys-fresh, standing-push, vacant-others}
use Rattle.request_set.proofs.Insides.{length-kept, KeepsOrder-push}
use Rattle.request_set.proofs.set.RequestSet.add.Goals as goal

pub returns-then-is_full-clause-limit : goal.returns-then-is_full-clause-limit
returns-then-is_full-clause-limit c =
    let len = length-kept c.self.inside c.self.invariant in
    let same : length (requests_of c.self.inside).standing ≡ length c.args.self.now.standing = ap (λ (rs : Requests). length rs.standing) c.self.view_is in
    let full = eqb-true (length c.self.inside.order.items) 64 (sym c.is_full.ensures.value ∙ c.if-is_full.true) in
    ((λ _. omega (arith, len, same, full)), (λ _. refl))

pub returns-clause-limit : goal.returns-clause-limit
returns-clause-limit c =
    let len = length-kept c.self.inside c.self.invariant in
    let same : length (requests_of c.self.inside).standing ≡ length c.args.self.now.standing = ap (λ (rs : Requests). length rs.standing) c.self.view_is in
    let few : length c.self.inside.order.items < 64 = grind (arith, nat_tests, c.is_full.ensures.value, c.is_full.ensures.fits, c.if-is_full.false) in
    ((λ no. absurd cc), (λ full. absurd (omega (arith, len, same, few, full))))

pub invariant_of-self : goal.invariant_of-self
invariant_of-self c =
    let few : length c.self.inside.order.items < 64 = grind (arith, nat_tests, c.is_full.ensures.value, c.is_full.ensures.fits, c.if-is_full.false) in
    let r : Request = record { serial = c.self.inside.given; ask = c.args.ask; complete = None } in
    let e = c.insert_reserved-key.ensures in
    KeepsOrder-push c.self.inside _ c.insert_reserved-key.result r c.self.invariant few e.was_vacant e.updates e.len e.capacity c.push.ensures.items

pub returns-clause-fresh : goal.returns-clause-fresh
returns-clause-fresh c =
    let key = c.insert_reserved-key.result in
    subst (λ (rs : Requests). AllByRecursion (λ k. k ≢ key) (keys rs)) c.self.view_is
    (keys-fresh (get c.self.inside.slab) key c.self.inside.order.items c.insert_reserved-key.ensures.was_vacant)

pub returns-clause-added : goal.returns-clause-added
returns-clause-added c =
    let s = c.self.inside in
    let key = c.insert_reserved-key.result in
    let id : RequestId = record { key = key; serial = s.given } in
    let r : Request = record { serial = s.given; ask = c.args.ask; complete = None } in
    let e = c.insert_reserved-key.ensures in
    let apart = vacant-others (get s.slab) key s.order.items c.self.invariant.occupied e.was_vacant in
    let more : standing_in (get c.insert_reserved-key.new.self) c.push.new.self.items ≡ standing_in (get s.slab) s.order.items ++ standing_of key r ∷ [] =
    rw c.push.ensures.items (standing-push (get s.slab) (get c.insert_reserved-key.new.self) key r s.order.items apart e.updates.others e.updates.changed) in
    ap (λ (xs : List Standing). record { standing = xs; given = (s.given + 1) % 2 ^ 64 }) more
    ∙ ap (λ (rs : Requests). with_request rs id c.args.ask) c.self.view_is

pub returns-clause-pending : goal.returns-clause-pending
returns-clause-pending c =
    let s = c.self.inside in
    let key = c.insert_reserved-key.result in
    let id : RequestId = record { key = key; serial = s.given } in
    let among : IsSome (get c.insert_reserved-key.new.self key) → Among key c.push.new.self.items = λ _. rw c.push.ensures.items (Among-push s.order.items key) in
    rw (find-kept (get c.insert_reserved-key.new.self) id c.push.new.self.items among, c.insert_reserved-key.ensures.updates.changed, eq-eqb s.given s.given refl) refl
