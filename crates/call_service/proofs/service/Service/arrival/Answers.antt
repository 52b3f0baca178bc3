use Rattle.std.proofs.Common.{ap, sym, ◌∙◌}
use Rattle.call_service.specs.declared.service.Arrival.TheVariants.{Repeat}
use Rattle.call_service.proofs.Arrivals.{gap-zero, repeat_is, next_is, gap-more}
use Rattle.call_service.proofs.service.Service.arrival.Goals as goal

pub returns-then-request-eq0 : goal.returns-then-request-eq0
returns-then-request-eq0 c = sym (gap-zero c.args.self.now.history c.args.request c.last_call-last.ensures.numbered c.if-request-eq0.true)

pub returns-then-request-last : goal.returns-then-request-last
returns-then-request-last c =
    ap Repeat c.again.ensures
    ∙ sym (repeat_is c.args.self.now.history c.args.request c.last_call-last.result c.last_call-last.ensures.numbered c.last_call-last.ensures.last c.if-request-eq0.false c.if-request-last.true)

pub returns-then-request-last-2 : goal.returns-then-request-last-2
returns-then-request-last-2 c = sym (next_is c.args.self.now.history c.args.request c.last_call-last.result c.last_call-last.ensures.numbered c.last_call-last.ensures.last c.if-request-last.false c.if-request-last-2.true)

pub returns-else-request-last-2 : goal.returns-else-request-last-2
returns-else-request-last-2 c = sym (gap-more c.args.self.now.history c.args.request c.last_call-last.result c.last_call-last.ensures.numbered c.last_call-last.ensures.last c.if-request-last.false c.if-request-last-2.false)
