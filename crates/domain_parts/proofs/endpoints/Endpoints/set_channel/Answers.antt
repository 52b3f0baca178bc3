use Rattle.std.proofs.Common.{refl, rules, ◌<◌, ◌∙◌, List, ap, arith, length, ◌≡◌, ◌≤◌, ◌+◌}
use Rattle.std.specs.Prelude.{Option}
use Rattle.packet_channel.specs.declared.channel.Channel.{Channel}
use Rattle.domain_parts.specs.declared.endpoints.Endpoint.{Endpoint}
use Rattle.domain_parts.specs.Records.{Records, kept, with_channel_at, with_end}
use Rattle.domain_parts.specs.InTable.{IsKept, records_of, IsNumbered}
use Rattle.domain_parts.proofs.Addresses.{all-written, order-written}
use Rattle.domain_parts.proofs.Tables.{changed-set}
use Rattle.domain_parts.proofs.endpoints.Endpoints.set_channel.Goals as goal

pub invariant_of-self : goal.invariant_of-self
invariant_of-self c =
    let i = c.self.invariant in
    let es = c.self.inside.records.items in
    let e = c.index_mut-endpoint.result.now in
    let d : Endpoint = record e { channel = c.kept-endpoint.result } in
    let lt : c.args.place < length es = omega (arith, c.requires.within, ap (λ (r : Records). length r.endpoints) c.self.view_is) in
    let read = c.index_mut-endpoint.ensures.value in
    record {
      rooms = all-written (λ (x : Endpoint). x.queue.room ≡ c.self.inside.room) es c.args.place e d lt read (λ same. same) i.rooms;
      spare = i.spare;
      records = search rules;
      addresses = all-written (λ (x : Endpoint). 1024 ≤ x.address) es c.args.place e d lt read (λ same. same) i.addresses;
      order = order-written es c.args.place e d lt read refl i.order;
      ends = all-written (λ (x : Endpoint). IsKept x.channel) es c.args.place e d lt read (λ same. c.kept-endpoint.ensures.kept) i.ends;
      numbered = all-written (λ (x : Endpoint). IsNumbered x.channel) es c.args.place e d lt read (λ same. c.kept-endpoint.ensures.numbered) i.numbered;
      below = all-written (λ (x : Endpoint). x.address < 1024 + c.self.inside.given) es c.args.place e d lt read (λ same. same) i.below;
      records_room = search rules;
      spare_room = i.spare_room;
      lent_room = i.lent_room;
      parts_room = i.parts_room;
    }

pub returns : goal.returns
returns c =
    let es = c.self.inside.records.items in
    let e = c.index_mut-endpoint.result.now in
    let d : Endpoint = record e { channel = c.kept-endpoint.result } in
    let lt : c.args.place < length es = omega (arith, c.requires.within, ap (λ (r : Records). length r.endpoints) c.self.view_is) in
    let set = changed-set (with_end (kept c.args.channel)) es c.args.place e d lt c.index_mut-endpoint.ensures.value (ap (λ (o : Option Channel). record e { channel = o }) c.kept-endpoint.ensures.same) in
    ap (λ (xs : List Endpoint). record (records_of c.self.inside) { endpoints = xs }) set
    ∙ ap (λ (r : Records). with_channel_at r c.args.place (kept c.args.channel)) c.self.view_is
