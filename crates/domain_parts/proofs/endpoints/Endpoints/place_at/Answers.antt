use Rattle.std.proofs.Common.{◌∙◌, ap, map, sym}
use Rattle.board_model.specs.State.{place_at}
use Rattle.domain_parts.specs.Table.{holding}
use Rattle.domain_parts.specs.Records.{Records}
use Rattle.domain_parts.specs.InBook.{endpoints_in}
use Rattle.domain_parts.specs.Tied.{live_record}
use Rattle.domain_parts.proofs.Addresses.{named, unnamed}
use Rattle.domain_parts.proofs.Tying.{place-is}
use Rattle.domain_parts.proofs.endpoints.Endpoints.place_at.Goals as goal

-- ---- no endpoint has the name

pub returns-in_err-address-clause-place : goal.returns-in_err-address-clause-place
returns-in_err-address-clause-place c = λ b.
    let es = c.args.self.now.endpoints in
    c.from_residual.ensures ∙ sym (place-is b es c.args.at ∙ unnamed c.args.table.now.records es c.args.at c.requires.live c.in_err-address.ensures)

-- ---- one has it

pub returns-clause-place : goal.returns-clause-place
returns-clause-place c = λ b.
    let es = c.self.inside.records.items in
    let at = c.args.at in
    let live = c.requires.live ∙ sym (ap (λ (r : Records). map live_record r.endpoints) c.self.view_is) in
    c.place_with_address.ensures.place
    ∙ rw c.deref.ensures.value (named c.args.table.now.records es at c.in_ok-address.address live c.self.invariant.order c.in_ok-address.ensures ∙ sym (place-is b es at))
    ∙ ap (λ (r : Records). place_at (holding (endpoints_in b r.endpoints)) at) c.self.view_is
