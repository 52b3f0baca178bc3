use Rattle.std.proofs.Common.{◌≡◌, ◌∙◌, ◌++◌, ℕ, Option, ◌∷◌, [], None, ap, sym, subst, rules}
use Rattle.board_model.specs.Answer.{refusal}
use Rattle.board_model.specs.DomainCall.{delete_at}
use Rattle.board_model.specs.Journal.{tells}
use Rattle.board_model.specs.State.{place_at}
use Rattle.domain_parts.specs.Records.{slots_at}
use Rattle.domain_parts.specs.Parts.{Parts, state_of}
use Rattle.domain_parts.specs.Steps.{Did, endpoint_gone}
use Rattle.domain_parts.specs.CallSteps.{drops, if_some}
use Rattle.domain_parts.proofs.Dropping.{delete-means}
use Rattle.domain_parts.proofs.Steps.{drops-place, queue-long}
use Rattle.domain_parts.proofs.Stepping.{acts-done, did-then}
use Rattle.domain_parts.proofs.holdings.Holdings.remove_endpoint.Given.{Over}
use Rattle.domain_parts.proofs.holdings.Holdings.remove_endpoint.Goals as goal

pub remove_empty-requires-clause-there : goal.remove_empty-requires-clause-there
remove_empty-requires-clause-there g c =
    let i = c.in-Some.place in
    let old = c.args.self.now.parts in
    ap (λ (p : Parts). place_at (state_of p) c.args.at) c.drop_all-dropped.ensures.did.parts ∙ drops-place old.book c.args.at i (slots_at old.records i) old ∙ sym c.in-Some.ensures.place

unrefused : (g : Over) (c : goal.After-remove_empty g) → refusal (state_of c.args.self.now.parts) c.args.at.node (delete_at c.args.at.port) ≡ None
unrefused g c = search rules

pub returns : goal.returns
returns g c =
    let M = g.P.PeerLane.Moved in
    let i = c.in-Some.place in
    let old = c.args.self.now in
    let ss = slots_at old.parts.records i in
    let sound = c.in-Some.ensures.sound in
    let did = did-then M g.met.P.PeerLane.both (drops old.parts.book i ss) (endpoint_gone i c.args.at ∷ []) old c.drop_all-dropped.new.self c.remove_empty.new.self c.drop_all-dropped.ensures.did c.remove_empty.ensures in
    acts-done M c.args.at.node (delete_at c.args.at.port) old c.remove_empty.new.self (tells c.drop_all-dropped.result) None (unrefused g c) (ap tells (c.drop_all-dropped.ensures.count ∙ queue-long old.parts c.args.at i (sym c.in-Some.ensures.place)))
    (record {
      did = subst (λ (o : Option ℕ). Did M (if_some o (λ j. drops old.parts.book j (slots_at old.parts.records j) ++ endpoint_gone j c.args.at ∷ [])) old c.remove_empty.new.self) c.in-Some.ensures.place did;
      means = delete-means old.parts sound c.args.at i (sym c.in-Some.ensures.place);
    })
