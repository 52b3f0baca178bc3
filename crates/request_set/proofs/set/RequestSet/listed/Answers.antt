use Rattle.std.proofs.Common.{◌≡◌, ◌∙◌, ap, sym, refl, Some, None, ℕ, List, Option, option_map, length}
use Rattle.std.specs.Prelude.{slice_get, option_and_then}
use Rattle.std.proofs.lemmas.Option.{slice_get_past, slice_get_read}
use Rattle.slab.specs.Slab.{get}
use Rattle.mc_base.specs.declared.request.RequestId.{RequestId}
use Rattle.request_set.specs.declared.set.Request.{Request}
use Rattle.request_set.specs.declared.set.RequestSet.TheInside.{Inside}
use Rattle.request_set.specs.Requests.{Standing, Requests, listed, progress_of}
use Rattle.request_set.specs.InSet.{standing_in, standing_of, KeepsOrder}
use Rattle.request_set.proofs.Standings.{get-standing, listed-by-id}
use Rattle.request_set.proofs.set.RequestSet.listed.Goals as goal

-- the request at a place, by the key there
at-place : (s : Inside) (at : ℕ) (o : Option ℕ) → KeepsOrder s → slice_get s.order.items at ≡ o → slice_get (standing_in (get s.slab) s.order.items) at ≡ option_and_then (λ key. option_map (standing_of key) (get s.slab key)) o
at-place s at o keeps there = get-standing (get s.slab) s.order.items at keeps.occupied ∙ ap (λ (o : Option ℕ). option_and_then (λ key. option_map (standing_of key) (get s.slab key)) o) there

-- and with what is kept under it
kept-place : (s : Inside) (at key : ℕ) (r : Request) → KeepsOrder s → slice_get s.order.items at ≡ Some key → get s.slab key ≡ Some r → slice_get (standing_in (get s.slab) s.order.items) at ≡ Some (standing_of key r)
kept-place s at key r keeps there is = at-place s at (Some key) keeps there ∙ ap (λ (o : Option Request). option_map (standing_of key) o) is

pub returns-in_err-key-clause-place : goal.returns-in_err-key-clause-place
returns-in_err-key-clause-place c =
    let s = c.self.inside in
    let past : slice_get c.deref.result.now c.args.at ≡ None = slice_get_past c.deref.result.now c.args.at c.in_err-key.ensures.lookup.3 in
    let there : slice_get s.order.items c.args.at ≡ None = ap (λ (xs : List ℕ). slice_get xs c.args.at) (sym c.deref.ensures.0) ∙ past in
    c.from_residual.ensures
    ∙ sym (ap (λ (rs : Requests). listed rs c.args.at) (sym c.self.view_is) ∙ ap (λ (o : Option Standing). option_map (λ r. (r.id, r.ask, r.complete)) o) (at-place s c.args.at None c.self.invariant there))

pub returns-clause-place : goal.returns-clause-place
returns-clause-place c =
    let s = c.self.inside in
    let key = c.in_ok-key.field-0.now in
    let got : slice_get c.deref.result.now c.args.at ≡ Some key = slice_get_read c.deref.result.now (length c.deref.result.now) c.args.at key refl c.in_ok-key.ensures.lookup.3.0 c.in_ok-key.ensures.lookup.1 in
    let there : slice_get s.order.items c.args.at ≡ Some key = ap (λ (xs : List ℕ). slice_get xs c.args.at) (sym c.deref.ensures.0) ∙ got in
    sym (ap (λ (rs : Requests). listed rs c.args.at) (sym c.self.view_is) ∙ ap (λ (o : Option Standing). option_map (λ r. (r.id, r.ask, r.complete)) o) (kept-place s c.args.at key c.in_ok-request.request.now c.self.invariant there (sym c.in_ok-request.ensures)))

pub returns-clause-progress : goal.returns-clause-progress
returns-clause-progress c =
    let s = c.self.inside in
    let key = c.in_ok-key.field-0.now in
    let r = c.in_ok-request.request.now in
    let id : RequestId = record { key = key; serial = r.serial } in
    let got : slice_get c.deref.result.now c.args.at ≡ Some key = slice_get_read c.deref.result.now (length c.deref.result.now) c.args.at key refl c.in_ok-key.ensures.lookup.3.0 c.in_ok-key.ensures.lookup.1 in
    let there : slice_get s.order.items c.args.at ≡ Some key = ap (λ (xs : List ℕ). slice_get xs c.args.at) (sym c.deref.ensures.0) ∙ got in
    let stands = kept-place s c.args.at key r c.self.invariant there (sym c.in_ok-request.ensures) in
    ap (λ (rs : Requests). progress_of rs id) (sym c.self.view_is)
    ∙ ap (λ (o : Option Standing). option_map (λ x. x.complete) o) (listed-by-id (get s.slab) s.order.items c.args.at (standing_of key r) c.self.invariant.ordered stands)
