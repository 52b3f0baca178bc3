use Rattle.std.proofs.Common.{◌≡◌, ◌∙◌, ◌+◌, arith, take}
use Rattle.std.specs.Prelude.{slice_get}
use Rattle.buffer_book.specs.Book.{IsQueued}
use Rattle.domain_parts.specs.InBook.{frames_count}
use Rattle.domain_parts.specs.InRequests.{handed_slots}
use Rattle.domain_parts.proofs.CountsFrom.{all-handed, all-listed, handed-most, handed-next, held-listed, listed-all}
use Rattle.domain_parts.proofs.requests.handed_from.Goals as goal

pub held_from-count-requires : goal.held_from-count-requires
held_from-count-requires c =
    let rs = c.args.requests.now.standing in
    listed-all (IsQueued c.args.book.now) rs c.loop-at.at (c.in-Some.field-0-0, c.in-Some.field-0-1, c.in-Some.complete) c.in-Some.ensures.place c.requires.queued

more : (c : goal.After-held_from-count) → frames_count c.args.book.now c.args.peer (handed_slots (take (c.loop-at.at + 1) c.args.requests.now.standing)) ≡ c.loop-at.count + c.held_from-count.result
more c =
    let b = c.args.book.now in
    let rs = c.args.requests.now.standing in
    let at = c.loop-at.at in
    let before = c.loop-at.invariant.count in
    let next = handed-next b c.args.peer rs at in
    let one = held-listed b c.args.peer (slice_get rs at) (c.in-Some.field-0-0, c.in-Some.field-0-1, c.in-Some.complete) c.in-Some.ensures.place in
    omega (arith, before, next, one, c.held_from-count.ensures)

pub overflow_add-count : goal.overflow_add-count
overflow_add-count c =
    let most = handed-most c.args.book.now c.args.peer c.args.requests.now.standing (c.loop-at.at + 1) in
    omega (arith, more c, most, c.requires.few)

pub loop-at-preserved : goal.loop-at-preserved
loop-at-preserved c = record { count = omega (arith, more c) }

pub returns-after-loop-at : goal.returns-after-loop-at
returns-after-loop-at c =
    let rs = c.args.requests.now.standing in
    let few = c.requires.receives.few in
    c.loop-at.invariant.count ∙ all-handed c.args.book.now c.args.peer rs c.loop-at.at (omega (arith, few, c.loop-at-test.false))

pub returns-in_default : goal.returns-in_default
returns-in_default c = c.loop-at.invariant.count ∙ all-listed c.args.book.now c.args.peer c.args.requests.now.standing c.loop-at.at c.in_default.ensures.place
