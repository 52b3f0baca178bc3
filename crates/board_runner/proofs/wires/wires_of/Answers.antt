use Rattle.std.proofs.Common.{◌≡◌, ◌∙◌, ◌++◌, ◌<◌, ℕ, false, true≢false, nat_lt, List, [], ◌∷◌, drop, length, rules, refl, arith, sym, ap, subst, append-nil}
use Rattle.std.proofs.lemmas.Bool.{lt-ltb}
use Rattle.std.proofs.lemmas.Option.{get_or_from_slice_get, slice_get_within}
use Rattle.board_runner.specs.declared.rings.LinkHalves.{LinkHalves}
use Rattle.board_runner.specs.Wired.{AreRings, HaveParts, wires_for}
use Rattle.board_runner.proofs.WiredLemmas.{next-rings, none-rings, wires-more}
use Rattle.board_runner.proofs.wires.wires_of.Goals as goal
use Rattle.board_runner.proofs.wires.wires_of.Goals.{in_default-via-in-Some+in_default, in_default-via-in_default}

none-left : (hs : List LinkHalves) → length hs ≡ 0 → hs ≡ []
none-left [] e = refl
none-left (h ∷ hs) e = absurd (omega (arith, e))

never : (i n : ℕ) → i < n → false ≡ nat_lt i n → ⊥
never i n within other = true≢false (sym (other ∙ lt-ltb i n within))

-- each link has its rings, and both lists are longer than the links before this one
pub unreachable-requires : goal.unreachable-requires
unreachable-requires c =
    let i = c.loop-two.at in
    let n = next-rings c.args.links.now c.args.rings.now i c.in-Some.two c.next.new.self.rest.items (subst (λ (hs : List LinkHalves). AreRings (drop i c.args.links.now) (drop i c.args.rings.now) hs) c.in-Some.ensures.steps.0 c.loop-two.invariant.are) in
    elim c.in_default.branch [
      | in_default-via-in-Some+in_default w ↦ never i (length c.args.rings.now) (slice_get_within c.args.rings.now i n.on n.ring_at) w.in_default.ensures'.lookup.0
      | in_default-via-in_default w ↦ never i (length c.args.links.now) (slice_get_within c.args.links.now i n.line n.line_at) w.in_default.ensures.lookup.0
    ]

pub open_link-requires : goal.open_link-requires
open_link-requires c =
    let i = c.loop-two.at in
    let n = next-rings c.args.links.now c.args.rings.now i c.in-Some.two c.next.new.self.rest.items (subst (λ (hs : List LinkHalves). AreRings (drop i c.args.links.now) (drop i c.args.rings.now) hs) c.in-Some.ensures.steps.0 c.loop-two.invariant.are) in
    let line : c.in-Some-Some.line.now ≡ n.line = c.in-Some-Some.ensures.lookup.1 ∙ get_or_from_slice_get c.args.links.now i n.line c.in-Some-Some.line.now n.line_at in
    let on : c.in-Some-Some.on.now ≡ n.on = c.in-Some-Some.ensures'.lookup.1 ∙ get_or_from_slice_get c.args.rings.now i n.on c.in-Some-Some.on.now n.ring_at in
    subst (λ x. HaveParts x.size c.in-Some-Some.on.now c.in-Some.two) (sym line) (subst (λ y. HaveParts n.line.size y c.in-Some.two) (sym on) n.parts)

pub loop-two-preserved : goal.loop-two-preserved
loop-two-preserved c =
    let i = c.loop-two.at in
    let n = next-rings c.args.links.now c.args.rings.now i c.in-Some.two c.next.new.self.rest.items (subst (λ (hs : List LinkHalves). AreRings (drop i c.args.links.now) (drop i c.args.rings.now) hs) c.in-Some.ensures.steps.0 c.loop-two.invariant.are) in
    let line : c.in-Some-Some.line.now ≡ n.line = c.in-Some-Some.ensures.lookup.1 ∙ get_or_from_slice_get c.args.links.now i n.line c.in-Some-Some.line.now n.line_at in
    let on : c.in-Some-Some.on.now ≡ n.on = c.in-Some-Some.ensures'.lookup.1 ∙ get_or_from_slice_get c.args.rings.now i n.on c.in-Some-Some.on.now n.ring_at in
    record {
      so_far = wires-more c.args.links.now c.args.rings.now i c.in-Some.two c.next.new.self.rest.items n c.in-Some-Some.line.now c.in-Some-Some.on.now c.loop-two.wires.items c.append.new.items.items c.append-in-loop-two.new.items.items (wires_for c.args.links.now c.args.rings.now) c.in_ok-there.there c.in_ok-there.back line on c.in_ok-append.ensures c.in_ok-append-2.ensures c.in_ok-there.ensures.0 c.in_ok-there.ensures.1 c.loop-two.invariant.so_far;
      are = n.rest;
    }

pub returns : goal.returns
returns c =
    let none : length c.loop-two.two-iterator.rest.items ≡ 0 = search rules in
    let i = c.loop-two.at in
    let empty = none-rings (drop i c.args.links.now) (drop i c.args.rings.now) (subst (λ (hs : List LinkHalves). AreRings (drop i c.args.links.now) (drop i c.args.rings.now) hs) (none-left c.loop-two.two-iterator.rest.items none) c.loop-two.invariant.are) in
    sym (append-nil c.loop-two.wires.items) ∙ ap (λ ws. c.loop-two.wires.items ++ ws) (sym empty) ∙ c.loop-two.invariant.so_far
