use Rattle.std.proofs.Common.{◌≡◌, ◌∙◌, ap, sym, refl, option_copied}
use Rattle.std.proofs.lemmas.Bool.{eq-eqb, ne_eqb}
use Rattle.slab.specs.Slab.{get}
use Rattle.request_set.specs.Requests.{Requests, request_of}
use Rattle.request_set.proofs.Standings.{by_serial}
use Rattle.request_set.proofs.Insides.{looked}
use Rattle.request_set.proofs.set.RequestSet.kept.Goals as goal

pub returns-in-Some : goal.returns-in-Some
returns-in-Some c =
    let id = c.args.id in
    let r = c.in-Some.request.now in
    let told : request_of c.args.self.now id ≡ by_serial id (get c.self.inside.slab id.key) = ap (λ (rs : Requests). request_of rs id) (sym c.self.view_is) ∙ looked c.self.inside id c.self.invariant in
    sym (told ∙ ap (by_serial id) (sym c.in-Some.ensures) ∙ rw (eq-eqb r.serial id.serial c.if-request-id.true) refl)

pub returns-in_default : goal.returns-in_default
returns-in_default c =
    let id = c.args.id in
    let r = c.in-Some.request.now in
    let told : request_of c.args.self.now id ≡ by_serial id (get c.self.inside.slab id.key) = ap (λ (rs : Requests). request_of rs id) (sym c.self.view_is) ∙ looked c.self.inside id c.self.invariant in
    sym (told ∙ ap (by_serial id) (sym c.in-Some.ensures) ∙ rw (ne_eqb r.serial id.serial c.if-request-id.false) refl)

pub returns-in_default-2 : goal.returns-in_default-2
returns-in_default-2 c =
    let id = c.args.id in
    let told : request_of c.args.self.now id ≡ by_serial id (get c.self.inside.slab id.key) = ap (λ (rs : Requests). request_of rs id) (sym c.self.view_is) ∙ looked c.self.inside id c.self.invariant in
    sym (told ∙ ap (by_serial id) (sym c.get.ensures ∙ ap option_copied c.in_default.is))
