use Rattle.std.proofs.Common.{◌≡◌, ◌∙◌, ap, sym, subst, refl, IsSome, Some, List}
use Rattle.std.proofs.lemmas.Option.{same_Some}
use Rattle.slab.specs.Slab.{get, with_value}
use Rattle.slab.proofs.SlabLemmas.{Updates-with_value}
use Rattle.request_set.specs.declared.set.Request.{Request}
use Rattle.request_set.specs.Requests.{Standing, Requests, IsPending, with_complete}
use Rattle.request_set.proofs.Standings.{standing-changed}
use Rattle.request_set.proofs.Insides.{stands-pending, KeepsOrder-changed, len-with_value}
use Rattle.request_set.proofs.set.RequestSet.complete.Goals as goal
use Rattle.request_set.proofs.set.RequestSet.complete.Goals.{in-Some, in_default}

pub invariant_of-self : goal.invariant_of-self
invariant_of-self c =
    let s = c.self.inside in
    let key = c.args.id.key in
    elim c.match-get_mut.branch [
      | in-Some w ↦
          let r = w.in-Some.request.now in
          let some : IsSome (get s.slab key) = rw (sym w.in-Some.ensures.value) refl in
          let new : Request = record r { complete = Some c.args.with } in
          rw w.self-inside-is
          (KeepsOrder-changed s _ key r new c.self.invariant (sym w.in-Some.ensures.value) (Updates-with_value s.slab key new some) (len-with_value s.slab key new some) refl refl)
      | in_default w ↦ rw w.self-inside-is c.self.invariant
    ]

pub returns : goal.returns
returns c =
    let s = c.self.inside in
    let id = c.args.id in
    let kept = stands-pending s id c.self.invariant (subst (λ (rs : Requests). IsPending rs id) (sym c.self.view_is) c.requires) in
    elim c.match-get_mut.branch [
      | in-Some w ↦
          let r = w.in-Some.request.now in
          let some : IsSome (get s.slab id.key) = rw (sym w.in-Some.ensures.value) refl in
          let new : Request = record r { complete = Some c.args.with } in
          let updates = Updates-with_value s.slab id.key new some in
          let serial : r.serial ≡ id.serial = ap (λ (x : Request). x.serial) (same_Some r kept.0 (w.in-Some.ensures.value ∙ kept.1)) ∙ kept.2 in
          let changed = standing-changed (get s.slab) (get (with_value s.slab id.key new)) id c.args.with r s.order.items (sym w.in-Some.ensures.value) serial updates.changed updates.others in
          rw w.self-inside-is
          (ap (λ (xs : List Standing). record { standing = xs; given = s.given }) changed ∙ ap (λ (rs : Requests). with_complete rs id c.args.with) c.self.view_is)
      | in_default w ↦ absurd (cc (w.in_default.ensures.value ∙ kept.1))
    ]
