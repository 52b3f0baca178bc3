use Rattle.std.proofs.Common.{rules, ◌≡◌, ◌∙◌, ap, sym, subst, ◌+◌, None}
use Rattle.std.specs.Prelude.{Err, Ok}
use Rattle.mc_base.specs.FullName.{end_name}
use Rattle.board_model.specs.DomainCall.{create_at}
use Rattle.board_model.specs.Journal.{tells}
use Rattle.endpoint_table.specs.Table.{Table, create_answer}
use Rattle.endpoint_table.specs.Table as endpoint_table
use Rattle.request_set.specs.declared.ask.Complete.TheVariants as complete
use Rattle.domain_parts.specs.LaneSeen.{LaneSeen}
use Rattle.domain_parts.specs.declared.holdings.Holdings.TheInside.{Inside}
use Rattle.domain_parts.specs.declared.requests.Waiters.TheVariants as waiters
use Rattle.domain_parts.specs.Calls.{created}
use Rattle.domain_parts.specs.CallSteps.{Acts}
use Rattle.domain_parts.specs.InRequests.{with_all_complete}
use Rattle.domain_parts.specs.Parts.{Holding, Parts, holding_in, parts_in, peers_seen, plain}
use Rattle.domain_parts.specs.Records.{Records}
use Rattle.domain_parts.specs.Steps.{done, endpoint_made}
use Rattle.domain_parts.proofs.Creating.{create-address, create-done, create-few, create-refused, made-requests, made-sound}
use Rattle.domain_parts.proofs.Meaning.{create-means}
use Rattle.domain_parts.proofs.Stepping.{acts-done, acts-refused, quiet-moved, quiet-peers}
use Rattle.domain_parts.proofs.holdings.Holdings.add_endpoint.Given.{Over}
use Rattle.domain_parts.proofs.holdings.Holdings.add_endpoint.Goals as goal

abbrev v : (g : Over) → (g.row.P.Denot → LaneSeen)
v g = g.P.PeerLane.seen

abbrev p : (g : Over) → Inside g.row.P.Denot → Parts
p g d = parts_in (v g) d.book d.endpoints d.requests d.table d.peers.items

-- ---- it is refused

pub returns-in_err-address : goal.returns-in_err-address
returns-in_err-address g c =
    let d = c.self.inside in
    let M = g.P.PeerLane.Moved in
    let word = c.in_err-address.field-0.0 in
    let call = create_at c.args.at.port in
    let answers : c.from_residual.result ≡ Err word = search rules in
    let stays : c.create.new.self ≡ d.table = rw c.in_err-address.was at c.create.ensures.refused in
    let old = holding_in (v g) d.book d.endpoints d.requests d.table d.peers.items in
    let new = holding_in (v g) d.book d.endpoints d.requests c.create.new.self d.peers.items in
    let acts = acts-refused M c.args.at.node call old new word
    (create-refused plain d.book d.endpoints d.requests d.table (p g d).peers c.args.at c.self.invariant.tied word (sym c.create.ensures.answer ∙ c.in_err-address.was))
    (ap (λ (t : Table). holding_in (v g) d.book d.endpoints d.requests t d.peers.items) stays) in
    subst (λ x. Acts M c.args.at.node call c.args.self.now new (created x) None) (sym answers)
    (subst (λ (x : Holding g.row.P.Denot). Acts M c.args.at.node call x new (created (Err word)) None) c.self.view_is acts)

-- ---- it is made

pub add-requires-clause-few : goal.add-requires-clause-few
add-requires-clause-few g c =
    let d = c.self.inside in
    create-few plain d.book d.endpoints d.requests d.table (p g d).peers c.args.at c.in_ok-address.address (sym c.create.ensures.answer ∙ c.in_ok-address.was) c.self.invariant.tied

answered : (g : Over) (c : goal.After-complete_all g) → create_answer c.self.inside.table c.args.at ≡ Ok c.in_ok-address.address
answered g c = sym c.create.ensures.answer ∙ c.in_ok-address.was

table-is : (g : Over) (c : goal.After-complete_all g) → c.create.new.self ≡ endpoint_table.created c.self.inside.table c.args.at
table-is g c = rw c.in_ok-address.was at c.create.ensures.created

requests-are : (g : Over) (c : goal.After-complete_all g) → c.complete_all.new.requests ≡ with_all_complete c.self.inside.requests (waiters.Lookups (end_name c.self.inside.table.domain c.args.at)) (complete.Address (1024 + c.self.inside.table.given))
requests-are g c =
    let d = c.self.inside in
    let number = c.number.ensures ∙ ap (λ (r : Records). r.number) c.add.ensures.added ∙ sym c.self.invariant.tied.domain in
    made-requests plain d.book d.endpoints d.requests d.table (p g d).peers c.args.at c.in_ok-address.address (answered g c) c.complete_all.new.requests c.number.result c.complete_all.ensures number

pub invariant_of-self-2 : goal.invariant_of-self-2
invariant_of-self-2 g c =
    let d = c.self.inside in
    made-sound plain d.book d.endpoints d.requests d.table (p g d).peers c.args.at c.in_ok-address.address (answered g c)
    c.add.new.self c.complete_all.new.requests c.create.new.self c.add.ensures.added (requests-are g c) (table-is g c) c.self.invariant

after : (g : Over) (c : goal.After-complete_all g) → parts_in (v g) c.self.inside.book c.add.new.self c.complete_all.new.requests c.create.new.self c.self.inside.peers.items ≡ done (endpoint_made c.self.inside.table.domain c.args.at (1024 + c.self.inside.table.given)) (p g c.self.inside)
after g c =
    let r = c.add.ensures.added in
    let q = requests-are g c in
    let t = table-is g c in
    let ps = sym (quiet-peers (peers_seen (v g) c.self.inside.peers.items)) in
    cc

pub returns : goal.returns
returns g c =
    let d = c.self.inside in
    let M = g.P.PeerLane.Moved in
    let a = c.in_ok-address.address in
    let tied = c.self.invariant.tied in
    let old = holding_in (v g) d.book d.endpoints d.requests d.table d.peers.items in
    let new = holding_in (v g) d.book c.add.new.self c.complete_all.new.requests c.create.new.self d.peers.items in
    subst (λ (x : Holding g.row.P.Denot). Acts M c.args.at.node (create_at c.args.at.port) x new (tells a) None) c.self.view_is
    (acts-done M c.args.at.node (create_at c.args.at.port) old new (tells a) None
    (create-done plain d.book d.endpoints d.requests d.table (p g d).peers c.args.at a (answered g c) tied)
    (ap tells (create-address plain d.book d.endpoints d.requests d.table (p g d).peers c.args.at a (answered g c)))
    (record {
      did = record { parts = after g c; moved = quiet-moved M g.met.P.PeerLane.none (v g) d.peers.items };
      means = create-means (p g d) c.self.invariant c.args.at;
    }))
