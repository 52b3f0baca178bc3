use Rattle.std.proofs.Common.{rules, None, ◌≡◌, ◌<◌, ◌≤◌, ◌+◌, ◌++◌, ◌∷◌, [], List, length, arith, ap, ◌∙◌}
use Rattle.std.proofs.lemmas.List.{length_push}
use Rattle.endpoint_table.proofs.RecordLemmas.{all-weaken}
use Rattle.message_queue.specs.Queue.{Queue}
use Rattle.domain_parts.specs.declared.endpoints.Endpoint.{Endpoint}
use Rattle.domain_parts.specs.Records.{Records, new_record, with_record}
use Rattle.domain_parts.specs.InTable.{IsKept, IsSpare, records_of, IsNumbered}
use Rattle.domain_parts.proofs.Addresses.{order-push}
use Rattle.domain_parts.proofs.Tables.{All-front, All-push}
use Rattle.domain_parts.proofs.endpoints.Endpoints.add.Goals as goal

-- the record that is made
abbrev made : goal.After-self-1 → Endpoint
made c = record { local = c.args.at; address = 1024 + c.self.inside.given; queue = c.unwrap-queue.result; channel = None }

popped : (c : goal.After-self-1) → c.self.inside.spare.items ≡ c.pop.new.self.items ++ c.unwrap-queue.result ∷ []
popped c = search rules

pushed : (c : goal.After-self-1) → c.push.new.self.items ≡ c.self.inside.records.items ++ made c ∷ []
pushed c = search rules

-- the queue that it takes was a spare one
pub invariant_of-self : goal.invariant_of-self
invariant_of-self c =
    let i = c.self.invariant in
    let es = c.self.inside.records.items in
    let room = c.self.inside.room in
    let split = All-front (IsSpare room) c.pop.new.self.items c.unwrap-queue.result (rw (popped c) at i.spare) in
    let fresh : 1024 ≤ 1024 + c.self.inside.given = omega arith in
    record {
      rooms = rw (pushed c) (All-push (λ (e : Endpoint). e.queue.room ≡ room) es (made c) i.rooms (ap (λ (q : Queue). q.room) split.1));
      spare = split.0;
      records = omega (arith, i.records, ap length (pushed c), length_push es (made c), ap length (popped c), length_push c.pop.new.self.items c.unwrap-queue.result);
      addresses = rw (pushed c) (All-push (λ (e : Endpoint). 1024 ≤ e.address) es (made c) i.addresses fresh);
      order = rw (pushed c) (order-push es (made c) i.order i.below);
      ends = rw (pushed c) (All-push (λ (e : Endpoint). IsKept e.channel) es (made c) i.ends tt);
      numbered = rw (pushed c) (All-push (λ (e : Endpoint). IsNumbered e.channel) es (made c) i.numbered tt);
      below = rw (pushed c) (All-push (λ (e : Endpoint). e.address < 1024 + (c.self.inside.given + 1)) es (made c) (all-weaken (λ (e : Endpoint). e.address < 1024 + c.self.inside.given) (λ (e : Endpoint). e.address < 1024 + (c.self.inside.given + 1)) (λ e lt. omega (arith, lt)) es i.below) (omega arith));
      records_room = search rules;
      spare_room = search rules;
      lent_room = search rules;
      parts_room = search rules;
    }

pub returns-clause-added : goal.returns-clause-added
returns-clause-added c =
    let es = c.self.inside.records.items in
    let t = records_of c.self.inside in
    let split = All-front (IsSpare c.self.inside.room) c.pop.new.self.items c.unwrap-queue.result (rw (popped c) at c.self.invariant.spare) in
    let is_new : made c ≡ new_record c.self.inside.room c.args.at (1024 + c.self.inside.given) = ap (λ (q : Queue). record (made c) { queue = q }) split.1 in
    let more : c.push.new.self.items ≡ es ++ new_record c.self.inside.room c.args.at (1024 + c.self.inside.given) ∷ [] = pushed c ∙ ap (λ (e : Endpoint). es ++ e ∷ []) is_new in
    ap (λ (xs : List Endpoint). record t { endpoints = xs; given = t.given + 1 }) more ∙ ap (λ (r : Records). with_record r c.args.at) c.self.view_is
