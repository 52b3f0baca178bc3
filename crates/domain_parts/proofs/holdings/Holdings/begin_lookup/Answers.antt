use Rattle.std.proofs.Common.{◌≡◌, ◌∙◌, ◌∷◌, [], Some, None, ap, rules, subst}
use Rattle.std.specs.Prelude.{option_map}
use Rattle.board_model.specs.Answer.{refusal}
use Rattle.board_model.specs.DomainCall.{lookup_of}
use Rattle.board_model.specs.Journal.{tells}
use Rattle.request_set.specs.declared.ask.Ask.TheVariants as ask
use Rattle.request_set.specs.declared.ask.Complete.TheVariants as complete
use Rattle.domain_parts.specs.Parts.{state_of}
use Rattle.domain_parts.specs.Steps.{Did, request_begun}
use Rattle.domain_parts.proofs.Meaning.{lookup-means}
use Rattle.domain_parts.proofs.Stepping.{acts-done}
use Rattle.domain_parts.proofs.holdings.Holdings.begin_lookup.Goals.{in-None, in-Some}
use Rattle.domain_parts.proofs.holdings.Holdings.begin_lookup.Goals as goal

pub returns : goal.returns
returns g c =
    let M = g.P.PeerLane.Moved in
    let old = c.args.self.now in
    let s = state_of old.parts in
    let id = c.in-Some-begin_request.id in
    let new = c.begin_request.new.self in
    let fresh = c.in-Some-begin_request.ensures.fresh in
    let unrefused : refusal s 0 (lookup_of c.args.name) ≡ None = search rules in
    let found : c.match-address_of.how ≡ option_map (λ a. complete.Address a) c.address_of.result = elim c.match-address_of.branch [ in-Some w ↦ let is = w.in-Some.is in let how = w.how-is in cc | in-None w ↦ let is = w.in-None.is in let how = w.how-is in cc ] in
    let how = found ∙ ap (option_map (λ a. complete.Address a)) c.address_of.ensures in
    acts-done M 0 (lookup_of c.args.name) old new (tells id.serial) (Some id) unrefused (ap tells fresh.serial)
    (record {
      did = subst (λ o. Did M (request_begun id (ask.Lookup c.args.name) o ∷ []) old new) how c.in-Some-begin_request.ensures.did;
      means = lookup-means old.parts c.args.name id fresh;
    })
