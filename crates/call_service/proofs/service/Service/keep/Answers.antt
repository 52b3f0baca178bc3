use Rattle.std.proofs.Common.{◌≡◌, List, length, sym, ap, arith, rules}
use Rattle.std.proofs.lemmas.Bool.{leb-false}
use Rattle.call_service.specs.declared.carried.Carried.{Carried}
use Rattle.call_service.specs.Handled.{State}
use Rattle.call_service.proofs.Numbers.{length-more}
use Rattle.call_service.proofs.Histories.{numbered-more}
use Rattle.call_service.proofs.Keeping.{cells-more, lasts-more}
use Rattle.call_service.proofs.service.Service.keep.Goals as goal

pub invariant_of-self : goal.invariant_of-self
invariant_of-self c =
    let h : List Carried = c.self.inside.history.items in
    let e : Carried = c.args.call in
    let items = rw c.unwrap.ensures at c.push.ensures.items in
    let same : c.args.self.now.history ≡ h = ap (λ (s : State). s.history) (sym c.self.view_is) in
    let rooms : c.args.self.now.room ≡ c.self.inside.room = ap (λ (s : State). s.room) (sym c.self.view_is) in
    let next = rw same at c.requires.next in
    let is = rw same at c.requires.value in
    let room = leb-false c.args.self.now.room (length c.args.self.now.history) c.requires.room in
    let few = ap length same in
    record {
      numbered = rw items (numbered-more h e c.self.invariant.numbered next);
      cells = rw items (cells-more h e c.self.inside.cells c.from.result c.self.invariant.cells c.from.ensures c.requires.cell is);
      last = rw items (lasts-more h e c.self.inside.last c.from-2.result (record { number = e.number; reply = c.reply_to.result }) c.self.invariant.last c.from-2.ensures c.requires.client (ap (λ r. record { number = e.number; reply = r }) c.reply_to.ensures));
      room = search (rules, arith);
      fits = rw items (rw (length-more h e) (omega (arith, room, few, rooms)));
    }
