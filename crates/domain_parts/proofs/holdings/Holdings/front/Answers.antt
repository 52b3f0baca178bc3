use Rattle.std.proofs.Common.{◌≡◌, ◌∙◌, ◌<◌, ℕ, List, Option, Some, ap, arith, length, take, sym, subst}
use Rattle.std.specs.Prelude.{option_map}
use Rattle.mc_base.specs.declared.request.Got.{Got}
use Rattle.mc_base.specs.declared.request.Slot.{Slot}
use Rattle.board_model.specs.Choice.{oldest}
use Rattle.board_model.specs.State.{Item, place_at, queue_at}
use Rattle.domain_parts.specs.Parts.{Holding, Parts, parts_in, plain, state_of}
use Rattle.domain_parts.specs.Records.{slots_at}
use Rattle.domain_parts.specs.declared.holdings.Holdings.TheInside.{Inside}
use Rattle.domain_parts.proofs.DataMeaning.{no-oldest, oldest-there}
use Rattle.domain_parts.proofs.Receiving.{content-fits}
use Rattle.domain_parts.proofs.Steps.{oldest_dropped-left, oldest_dropped-queued}
use Rattle.domain_parts.proofs.holdings.Holdings.front.Given.{Over}
use Rattle.domain_parts.proofs.holdings.Holdings.front.Goals as goal

abbrev p : (g : Over) → Inside g.row.P.Denot → Parts
p g d = parts_in g.P.PeerLane.seen d.book d.endpoints d.requests d.table d.peers.items

abbrev lengths : Option Item → Option ℕ
lengths o = option_map (λ (i : Item). length i.content) o

abbrev fronts : Option Item → Option (List ℕ)
fronts o = option_map (λ (i : Item). take 8 i.content) o

-- ---- none is queued

pub returns-in_err-slot-clause-size : goal.returns-in_err-slot-clause-size
returns-in_err-slot-clause-size g c =
    let d = c.self.inside in
    let at = c.args.at in
    let there = subst (λ (x : Holding g.row.P.Denot). place_at (state_of x.parts) at ≡ Some c.args.place) (sym c.self.view_is) c.requires.there in
    ap (λ (o : Option Got). option_map (λ (x : Got). x.size) o) c.from_residual.ensures
    ∙ sym (ap lengths (no-oldest (p g d) at c.args.place there c.in_err-slot.ensures))
    ∙ ap (λ (x : Holding g.row.P.Denot). lengths (oldest (queue_at (state_of x.parts) at))) c.self.view_is

-- ---- one is

pub give-requires-clause-queued : goal.give-requires-clause-queued
give-requires-clause-queued g c = oldest_dropped-queued (p g c.self.inside) c.self.invariant c.args.place c.in_ok-slot.slot c.in_ok-slot.ensures

pub give-requires-clause-short : goal.give-requires-clause-short
give-requires-clause-short g c =
    let d = c.self.inside in
    content-fits plain d.book d.endpoints d.requests d.table (p g d).peers c.self.invariant c.in_ok-slot.slot

pub returns-clause-size : goal.returns-clause-size
returns-clause-size g c =
    let d = c.self.inside in
    let at = c.args.at in
    let there = subst (λ (x : Holding g.row.P.Denot). place_at (state_of x.parts) at ≡ Some c.args.place) (sym c.self.view_is) c.requires.there in
    ap (λ (n : ℕ). Some n) c.give.ensures.size
    ∙ sym (ap lengths (oldest-there (p g d) c.self.invariant at c.args.place there c.in_ok-slot.slot c.in_ok-slot.ensures))
    ∙ ap (λ (x : Holding g.row.P.Denot). lengths (oldest (queue_at (state_of x.parts) at))) c.self.view_is

pub returns-clause-bytes : goal.returns-clause-bytes
returns-clause-bytes g c =
    let d = c.self.inside in
    let at = c.args.at in
    let there = subst (λ (x : Holding g.row.P.Denot). place_at (state_of x.parts) at ≡ Some c.args.place) (sym c.self.view_is) c.requires.there in
    ap (λ (xs : List ℕ). Some xs) c.give.ensures.bytes
    ∙ sym (ap fronts (oldest-there (p g d) c.self.invariant at c.args.place there c.in_ok-slot.slot c.in_ok-slot.ensures))
    ∙ ap (λ (x : Holding g.row.P.Denot). fronts (oldest (queue_at (state_of x.parts) at))) c.self.view_is

pub returns-clause-waits : goal.returns-clause-waits
returns-clause-waits g c =
    let left = ap (λ (ss : List Slot). length ss) (oldest_dropped-left (p g c.self.inside) c.self.invariant c.args.place c.in_ok-slot.slot c.in_ok-slot.ensures) in
    subst (λ (x : Holding g.row.P.Denot). 0 < length (slots_at x.parts.records c.args.place)) c.self.view_is (omega (arith, left))
