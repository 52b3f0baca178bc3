use Rattle.std.proofs.Common.{get_or, ap, sym, ◌∙◌}
use Rattle.buffer_book.specs.Book.{Shelf, enqueued}
use Rattle.buffer_book.proofs.ShelfLemmas.{found-at, set-at, place-away, unqueued-there, no-place}
use Rattle.buffer_book.proofs.shelves.put.Goals as goal

pub put-requires-clause-away : goal.put-requires-clause-away
put-requires-clause-away c =
    let ss = c.args.shelves.now in
    let i = c.in-Some.at in
    let s = get_or ss i c.index-shelves-at.result in
    let found = found-at ss c.args.slot.peer i s (sym c.in-Some.ensures.place) c.in-Some.ensures.within (ap (λ (x : Shelf). get_or ss i x) c.index-shelves-at.is) in
    (place-away ss c.args.slot s found c.requires.away).0

pub put-requires-clause-within : goal.put-requires-clause-within
put-requires-clause-within c =
    let ss = c.args.shelves.now in
    let i = c.in-Some.at in
    let s = get_or ss i c.index-shelves-at.result in
    let found = found-at ss c.args.slot.peer i s (sym c.in-Some.ensures.place) c.in-Some.ensures.within (ap (λ (x : Shelf). get_or ss i x) c.index-shelves-at.is) in
    (place-away ss c.args.slot s found c.requires.away).1

pub put-requires-clause-free : goal.put-requires-clause-free
put-requires-clause-free c =
    let ss = c.args.shelves.now in
    let i = c.in-Some.at in
    let s = get_or ss i c.index-shelves-at.result in
    let found = found-at ss c.args.slot.peer i s (sym c.in-Some.ensures.place) c.in-Some.ensures.within (ap (λ (x : Shelf). get_or ss i x) c.index-shelves-at.is) in
    unqueued-there ss c.args.slot s found c.requires.unqueued

pub returns-in-Some : goal.returns-in-Some
returns-in-Some c =
    let ss = c.args.shelves.now in
    let i = c.in-Some.at in
    set-at ss c.args.slot.peer (enqueued c.args.slot.buffer c.args.held) i (get_or ss i c.index-shelves-at.result) c.put.new.self c.requires.differ (sym c.in-Some.ensures.place) c.in-Some.ensures.within (ap (λ (x : Shelf). get_or ss i x) c.index-shelves-at.is) c.put.ensures

pub returns-in_default : goal.returns-in_default
returns-in_default c = absurd (no-place c.args.shelves.now c.args.slot (sym c.place_of.ensures.place ∙ c.in_default.is) c.requires.away)
