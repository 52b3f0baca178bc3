use Rattle.std.proofs.Common.{◌∙◌, ℕ, List, None, get_or, subst, sym}
use Rattle.std.specs.Prelude.{Result}
use Rattle.std.proofs.lemmas.Option.{slice_get-get_or}
use Rattle.mc_base.specs.declared.refusal.Refusal.{Refusal}
use Rattle.mc_base.specs.declared.request.Done.{Done}
use Rattle.mc_base.specs.declared.request.RequestId.{RequestId}
use Rattle.board_model.specs.DomainCall.{test_of}
use Rattle.board_model.specs.Unnamed.{no_names}
use Rattle.domain_parts.specs.Calls.{result_of_done, tested}
use Rattle.domain_parts.specs.CallSteps.{Acts}
use Rattle.domain_parts.specs.DomainView.{packet_lent_as, place_of_id}
use Rattle.domain_parts.specs.Parts.{shown, state_of}
use Rattle.domain_parts.proofs.WaitPlaces.{complete-ends, named-complete, named-within}
use Rattle.domain_parts.proofs.WaitEnds.{ends-first}
use Rattle.board_model.proofs.RenamedCalls.{answer-renamed}
use Rattle.domain_parts.proofs.holdings.Holdings.end_first.Goals as goal

-- what is read at a place of the list
abbrev id_at : List RequestId → ℕ → RequestId
id_at ids i = get_or ids i (record { key = 0; serial = 0 })

pub bounds-ids-at : goal.bounds-ids-at
bounds-ids-at g c = named-within c.args.ids.now (shown c.args.self.now) c.args.at c.requires.first

pub unwrap-requires : goal.unwrap-requires
unwrap-requires g c =
    let old = shown c.args.self.now in
    let ids = c.args.ids.now in
    let id = id_at ids c.args.at in
    let here = slice_get-get_or ids c.args.at (record { key = 0; serial = 0 }) (named-within ids old c.args.at c.requires.first) in
    complete-ends old.state (place_of_id old.ids id) c.end_request.result c.end_request.new.out (packet_lent_as (shown c.end_request.new.self)) (named-complete ids old c.args.at c.requires.first id here) (c.end_request.ensures.acts.answer ∙ sym (answer-renamed no_names (state_of c.args.self.now.parts) 0 (test_of (place_of_id old.ids id))))

pub returns-clause-does : goal.returns-clause-does
returns-clause-does g c = λ says_place.
    let M = g.P.PeerLane.Moved in
    let old = c.args.self.now in
    let new = c.end_request.new.self in
    let ids = c.args.ids.now in
    let id = id_at ids c.args.at in
    let out = c.end_request.new.out in
    let lends = packet_lent_as (shown new) in
    let here = slice_get-get_or ids c.args.at (record { key = 0; serial = 0 }) (named-within ids (shown old) c.args.at c.requires.first) in
    let acts = subst (λ (r : Result Done Refusal). Acts M 0 (test_of (place_of_id (shown old).ids id)) old new (tested r out lends) None) c.unwrap.ensures c.end_request.ensures.acts in
    ends-first M ids says_place old new c.args.at id (result_of_done c.unwrap.result out lends) c.requires.rests c.requires.exist c.requires.first here acts
