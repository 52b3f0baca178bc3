use Rattle.std.proofs.Common.{refl, rules, ◌<◌, ◌∙◌, List, ap, arith, length, ◌≡◌, ◌≤◌, ◌+◌}
use Rattle.message_queue.specs.Queue.{Queue, waiting}
use Rattle.domain_parts.specs.declared.endpoints.Endpoint.{Endpoint}
use Rattle.domain_parts.specs.Records.{Records, all_waiting, with_waiting, with_waiting_at}
use Rattle.domain_parts.specs.InTable.{IsKept, records_of, IsNumbered}
use Rattle.domain_parts.proofs.Addresses.{all-written, order-written}
use Rattle.domain_parts.proofs.Tables.{changed-set, queue-within, room-at}
use Rattle.domain_parts.proofs.endpoints.Endpoints.queue_last.Goals as goal

-- its address stays
pub invariant_of-self : goal.invariant_of-self
invariant_of-self c =
    let i = c.self.invariant in
    let es = c.self.inside.records.items in
    let e = c.index_mut-endpoint.result.now in
    let d : Endpoint = record { local = e.local; address = e.address; queue = c.push.new.self; channel = e.channel } in
    let lt : c.args.place < length es = omega (arith, c.requires.within, ap (λ (r : Records). length r.endpoints) c.self.view_is) in
    let read = c.index_mut-endpoint.ensures.value in
    record {
      rooms = all-written (λ (x : Endpoint). x.queue.room ≡ c.self.inside.room) es c.args.place e d lt read (λ same. ap (λ (q : Queue). q.room) c.push.ensures.last ∙ same) i.rooms;
      spare = i.spare;
      records = search rules;
      addresses = all-written (λ (x : Endpoint). 1024 ≤ x.address) es c.args.place e d lt read (λ same. same) i.addresses;
      order = order-written es c.args.place e d lt read refl i.order;
      ends = all-written (λ (x : Endpoint). IsKept x.channel) es c.args.place e d lt read (λ same. same) i.ends;
      numbered = all-written (λ (x : Endpoint). IsNumbered x.channel) es c.args.place e d lt read (λ same. same) i.numbered;
      below = all-written (λ (x : Endpoint). x.address < 1024 + c.self.inside.given) es c.args.place e d lt read (λ same. same) i.below;
      records_room = search rules;
      spare_room = i.spare_room;
      lent_room = i.lent_room;
      parts_room = i.parts_room;
    }

pub push-requires : goal.push-requires
push-requires c =
    let es = c.self.inside.records.items in
    let e = c.index_mut-endpoint.result.now in
    let lt : c.args.place < length es = omega (arith, c.requires.within, ap (λ (r : Records). length r.endpoints) c.self.view_is) in
    let room = room-at c.self.inside.room es c.args.place e c.self.invariant.rooms lt c.index_mut-endpoint.ensures.value in
    let within = queue-within es c.args.place e lt c.index_mut-endpoint.ensures.value in
    record { room = omega (arith, room, within, c.requires.room, ap (λ (r : Records). length (all_waiting r.endpoints)) c.self.view_is, ap (λ (r : Records). r.room) c.self.view_is) }

pub returns : goal.returns
returns c =
    let es = c.self.inside.records.items in
    let e = c.index_mut-endpoint.result.now in
    let w = waiting c.args.slot c.args.priority in
    let d : Endpoint = record { local = e.local; address = e.address; queue = c.push.new.self; channel = e.channel } in
    let lt : c.args.place < length es = omega (arith, c.requires.within, ap (λ (r : Records). length r.endpoints) c.self.view_is) in
    let more = changed-set (with_waiting w) es c.args.place e d lt c.index_mut-endpoint.ensures.value (ap (λ (q : Queue). record e { queue = q }) c.push.ensures.last) in
    ap (λ (xs : List Endpoint). record (records_of c.self.inside) { endpoints = xs }) more
    ∙ ap (λ (r : Records). with_waiting_at r c.args.place w) c.self.view_is
