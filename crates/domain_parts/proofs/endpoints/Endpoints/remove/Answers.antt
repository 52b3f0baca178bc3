use Rattle.std.proofs.Common.{rules, ◌≡◌, ◌<◌, ◌≤◌, ◌+◌, ◌++◌, ◌∷◌, [], List, ap, sym, subst, arith, length, ◌∙◌}
use Rattle.std.specs.Prelude.{Option, slice_get}
use Rattle.std.specs.List.{AllByRecursion}
use Rattle.std.proofs.lemmas.List.{length_push}
use Rattle.message_queue.specs.Queue.{Waiting, empty_queue}
use Rattle.board_model.specs.Lists.{without_at}
use Rattle.domain_parts.specs.declared.endpoints.Endpoint.{Endpoint}
use Rattle.domain_parts.specs.Records.{Records, waiting_in, without_record_at}
use Rattle.domain_parts.specs.InTable.{AreInOrder, IsKept, IsSpare, records_of, IsNumbered}
use Rattle.domain_parts.proofs.Addresses.{order-without}
use Rattle.domain_parts.proofs.Tables.{All-push, All-without, length-without, removed, room-at, slice_get-read}
use Rattle.domain_parts.proofs.endpoints.Endpoints.remove.Goals as goal

less : (c : goal.After-unwrap) → c.remove-endpoint.new.self.items ≡ without_at c.args.place c.self.inside.records.items
less c = c.remove-endpoint.ensures.items ∙ removed c.self.inside.records.items c.args.place

within : (c : goal.After-unwrap) → c.args.place < length c.self.inside.records.items
within c = omega (arith, c.requires.within, ap (λ (r : Records). length r.endpoints) c.self.view_is)

pushed : (c : goal.After-unwrap) → c.push.new.self.items ≡ c.self.inside.spare.items ++ c.remove-endpoint.result.queue ∷ []
pushed c = search rules

-- its queue is empty
emptied : (c : goal.After-unwrap) → IsSpare c.self.inside.room c.remove-endpoint.result.queue
emptied c =
    let e = c.remove-endpoint.result in
    let es = c.self.inside.records.items in
    let room = room-at c.self.inside.room es c.args.place e c.self.invariant.rooms (within c) c.remove-endpoint.ensures.value in
    let none : e.queue.waiting ≡ [] = sym (ap (λ (o : Option Endpoint). waiting_in o) (slice_get-read es c.args.place e (within c) c.remove-endpoint.ensures.value)) ∙ ap (λ (r : Records). waiting_in (slice_get r.endpoints c.args.place)) c.self.view_is ∙ c.requires.empty in
    ap (λ (ws : List Waiting). record e.queue { waiting = ws }) none ∙ ap empty_queue room

pub invariant_of-self : goal.invariant_of-self
invariant_of-self c =
    let i = c.self.invariant in
    let es = c.self.inside.records.items in
    let room = c.self.inside.room in
    let place = c.args.place in
    record {
      rooms = subst (AllByRecursion (λ (e : Endpoint). e.queue.room ≡ room)) (sym (less c)) (All-without (λ (e : Endpoint). e.queue.room ≡ room) place es i.rooms);
      spare = subst (AllByRecursion (IsSpare room)) (sym (pushed c)) (All-push (IsSpare room) c.self.inside.spare.items c.remove-endpoint.result.queue i.spare (emptied c));
      records = omega (arith, i.records, ap length (less c), length-without place es (within c), ap length (pushed c), length_push c.self.inside.spare.items c.remove-endpoint.result.queue);
      addresses = subst (AllByRecursion (λ (e : Endpoint). 1024 ≤ e.address)) (sym (less c)) (All-without (λ (e : Endpoint). 1024 ≤ e.address) place es i.addresses);
      order = subst AreInOrder (sym (less c)) (order-without place es i.order);
      ends = subst (AllByRecursion (λ (e : Endpoint). IsKept e.channel)) (sym (less c)) (All-without (λ (e : Endpoint). IsKept e.channel) place es i.ends);
      numbered = subst (AllByRecursion (λ (e : Endpoint). IsNumbered e.channel)) (sym (less c)) (All-without (λ (e : Endpoint). IsNumbered e.channel) place es i.numbered);
      below = subst (AllByRecursion (λ (e : Endpoint). e.address < 1024 + c.self.inside.given)) (sym (less c)) (All-without (λ (e : Endpoint). e.address < 1024 + c.self.inside.given) place es i.below);
      records_room = search rules;
      spare_room = search rules;
      lent_room = search rules;
      parts_room = search rules;
    }

pub returns : goal.returns
returns c =
    ap (λ (xs : List Endpoint). record (records_of c.self.inside) { endpoints = xs }) (less c)
    ∙ ap (λ (r : Records). without_record_at r c.args.place) c.self.view_is
