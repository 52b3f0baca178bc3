use Rattle.std.proofs.Common.{refl, rules, ◌≡◌, ◌<◌, ◌∙◌, List, Some, ap, arith, length, subst, sym, ◌≤◌, ◌+◌}
use Rattle.std.specs.Prelude.{IfSome, slice_get, Option}
use Rattle.board_model.specs.Choice.{best}
use Rattle.message_queue.specs.Queue.{Queue, Waiting, waiting}
use Rattle.domain_parts.specs.declared.endpoints.Endpoint.{Endpoint}
use Rattle.domain_parts.specs.Records.{Records, waiting_in, with_best_taken, with_best_taken_at}
use Rattle.domain_parts.specs.InTable.{IsKept, records_of, IsNumbered}
use Rattle.domain_parts.proofs.Addresses.{all-written, order-written}
use Rattle.domain_parts.proofs.Tables.{changed-set, slice_get-read}
use Rattle.domain_parts.proofs.endpoints.Endpoints.take_best.Goals as goal

-- its address stays
pub invariant_of-self : goal.invariant_of-self
invariant_of-self c =
    let i = c.self.invariant in
    let es = c.self.inside.records.items in
    let e = c.index_mut-endpoint.result.now in
    let d : Endpoint = record { local = e.local; address = e.address; queue = c.pop_best.new.self; channel = e.channel } in
    let lt : c.args.place < length es = omega (arith, c.requires.within, ap (λ (r : Records). length r.endpoints) c.self.view_is) in
    let read = c.index_mut-endpoint.ensures.value in
    record {
      rooms = all-written (λ (x : Endpoint). x.queue.room ≡ c.self.inside.room) es c.args.place e d lt read (λ same. ap (λ (q : Queue). q.room) c.pop_best.ensures.rest ∙ same) i.rooms;
      spare = i.spare;
      records = search rules;
      addresses = all-written (λ (x : Endpoint). 1024 ≤ x.address) es c.args.place e d lt read (λ same. same) i.addresses;
      order = order-written es c.args.place e d lt read refl i.order;
      ends = all-written (λ (x : Endpoint). IsKept x.channel) es c.args.place e d lt read (λ same. same) i.ends;
      numbered = all-written (λ (x : Endpoint). IsNumbered x.channel) es c.args.place e d lt read (λ same. same) i.numbered;
      below = all-written (λ (x : Endpoint). x.address < 1024 + c.self.inside.given) es c.args.place e d lt read (λ same. same) i.below;
      records_room = search rules;
      spare_room = i.spare_room;
      lent_room = i.lent_room;
      parts_room = i.parts_room;
    }

pub returns-clause-best : goal.returns-clause-best
returns-clause-best c =
    let es = c.self.inside.records.items in
    let e = c.index_mut-endpoint.result.now in
    let lt : c.args.place < length es = omega (arith, c.requires.within, ap (λ (r : Records). length r.endpoints) c.self.view_is) in
    let there : e.queue.waiting ≡ waiting_in (slice_get c.args.self.now.endpoints c.args.place) = sym (ap (λ (o : Option Endpoint). waiting_in o) (slice_get-read es c.args.place e lt c.index_mut-endpoint.ensures.value)) ∙ ap (λ (r : Records). waiting_in (slice_get r.endpoints c.args.place)) c.self.view_is in
    subst (λ (ws : List Waiting). IfSome c.pop_best.result (λ r. best (λ (w : Waiting). w.priority) ws ≡ Some (waiting r.0 r.1))) there c.pop_best.ensures.best

pub returns-clause-rest : goal.returns-clause-rest
returns-clause-rest c =
    let es = c.self.inside.records.items in
    let e = c.index_mut-endpoint.result.now in
    let d : Endpoint = record { local = e.local; address = e.address; queue = c.pop_best.new.self; channel = e.channel } in
    let lt : c.args.place < length es = omega (arith, c.requires.within, ap (λ (r : Records). length r.endpoints) c.self.view_is) in
    let less = changed-set with_best_taken es c.args.place e d lt c.index_mut-endpoint.ensures.value (ap (λ (q : Queue). record e { queue = q }) c.pop_best.ensures.rest) in
    ap (λ (xs : List Endpoint). record (records_of c.self.inside) { endpoints = xs }) less
    ∙ ap (λ (r : Records). with_best_taken_at r c.args.place) c.self.view_is

pub returns-clause-none : goal.returns-clause-none
returns-clause-none c =
    let es = c.self.inside.records.items in
    let e = c.index_mut-endpoint.result.now in
    let lt : c.args.place < length es = omega (arith, c.requires.within, ap (λ (r : Records). length r.endpoints) c.self.view_is) in
    let there : e.queue.waiting ≡ waiting_in (slice_get c.args.self.now.endpoints c.args.place) = sym (ap (λ (o : Option Endpoint). waiting_in o) (slice_get-read es c.args.place e lt c.index_mut-endpoint.ensures.value)) ∙ ap (λ (r : Records). waiting_in (slice_get r.endpoints c.args.place)) c.self.view_is in
    λ none. sym there ∙ c.pop_best.ensures.none.0 none
