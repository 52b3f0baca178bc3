use Rattle.std.proofs.Common.{◌≡◌, ◌<◌, ◌-◌, ℕ, List, length, get_or, map, arith, ap, ap₂, ◌∙◌}
use Rattle.std.specs.Prelude.{slice_index}
use Rattle.std.proofs.lemmas.Grind.{get_or_default_zero}
use Rattle.board_model.proofs.LawfulBoards.{lawful_is_linked}
use Rattle.board_model.specs.SerialRun.{journal_left}
use Rattle.board_model.specs.declared.totals.Totals.{Totals}
use Rattle.board_numbers.specs.declared.items.ItemCounts.{ItemCounts}
use Rattle.board_numbers.specs.ItemCounts.{HaveMoreThan}
use Rattle.board_numbers.proofs.ChannelLemmas.{item-sums, items-fit, totals-by}
use Rattle.board_numbers.proofs.channels.totals_of.Goals as goal

-- the channel has a place in each list
record Reads (counts : ItemCounts) (n : ℕ) : Type 0 where
  sent : n < length counts.sent.items
  brought : n < length counts.brought.items
  dropped : n < length counts.dropped.items

reads : (counts : ItemCounts) (n : ℕ) → HaveMoreThan n counts → Reads counts n
reads counts n places = record { sent = omega (arith, places.1, places.2.sent); brought = omega (arith, places.1, places.2.brought); dropped = omega (arith, places.1, places.2.dropped) }

-- what is read at a place
at_place : (xs : List ℕ) (n x : ℕ) → n < length xs → x ≡ get_or xs n x → x ≡ slice_index xs n
at_place xs n x within is = is ∙ get_or_default_zero xs n x within

-- totals by what is taken and what is on the ring
abbrev with_parts : ℕ → ℕ → ℕ → ℕ → ℕ → Totals
with_parts accepted dropped queued taken ring = record { accepted = accepted; taken = taken; dropped = dropped; queued = queued; ring = ring }

pub returns : goal.returns
returns g c ts ran ends =
    let es = map g.D.EndedDomain.ended c.args.domains.now in
    let s = c.args._scenario.now in
    let board = lawful_is_linked s c.requires.lawful in
    let fit = items-fit s board ts ran es ends c.args.owner c.requires.owner in
    let k = item-sums s board ts ran es ends c.args.owner c.requires.owner c.args.number in
    let read = reads c.args.counts.now c.args.number c.requires.places in
    let counts = c.requires.counts fit in
    let ring = c.saturating_sub-ring.ensures in
    let taken = c.saturating_sub-3.ensures ∙ ap₂ (λ (x y : ℕ). x - y) (c.saturating_sub-2.ensures ∙ ap (λ (x : ℕ). x - c.queued_on-queued.result) c.saturating_sub.ensures) ring in
    ap₂ (with_parts c.index-sent.result.now c.index-dropped.result.now c.queued_on-queued.result) taken ring
    ∙ totals-by s (map journal_left ts) es c.args.owner c.args.number c.index-sent.result.now c.index-brought.result.now c.index-dropped.result.now c.queued_on-queued.result k
    (at_place c.args.counts.now.sent.items c.args.number c.index-sent.result.now read.sent c.index-sent.ensures ∙ counts.sent c.args.number read.sent)
    (at_place c.args.counts.now.brought.items c.args.number c.index-brought.result.now read.brought c.index-brought.ensures ∙ counts.brought c.args.number read.brought)
    (at_place c.args.counts.now.dropped.items c.args.number c.index-dropped.result.now read.dropped c.index-dropped.ensures ∙ counts.dropped c.args.number read.dropped) (c.queued_on-queued.ensures (fit.queued c.args.number))
