use Rattle.std.proofs.Common.{◌≡◌, ℕ, ◌<◌, false, true≢false, nat_lt, List, [], ◌∷◌, drop, length, Some, rules, refl, sym, ap, ◌∙◌, subst, arith}
use Rattle.std.proofs.lemmas.Bool.{lt-ltb}
use Rattle.std.proofs.lemmas.Option.{get_or_from_slice_get, slice_get_within}
use Rattle.board_model.specs.declared.scenario.LinkLine.{LinkLine}
use Rattle.board_runner.specs.declared.rings.LinkRings.{LinkRings}
use Rattle.board_runner.specs.Finishing.{LinksHaveRun, LinkHasRun}
use Rattle.board_runner.proofs.FinishingLemmas.{GoesOn, goes-begin, next-link, all-at-next, goes-on, all-finished}
use Rattle.board_runner.proofs.finishing.finish_rings.Goals as goal

none-left : (rs : List LinkRings) → length rs ≡ 0 → rs ≡ []
none-left [] e = refl
none-left (r ∷ rs) e = absurd (omega (arith, e))

never : (i n : ℕ) → i < n → false ≡ nat_lt i n → ⊥
never i n within other = true≢false (sym (other ∙ lt-ltb i n within))

pub loop-two-init : goal.loop-two-init
loop-two-init c moves ran = goes-begin moves c.args.links.now c.args.rings.items _ c.args.ended.items _ (search rules) (search rules) ran

pub unreachable-requires : goal.unreachable-requires
unreachable-requires c =
    let i = c.loop-two.at in
    let ls = c.args.links.now in
    let h = c.loop-two.invariant c.requires.moves c.requires.ran in
    let n = next-link c.requires.moves ls i c.in-Some.two c.next.new.self.rest.items c.loop-two.ended.items (subst (λ (rs : List LinkRings). LinksHaveRun c.requires.moves (drop i ls) rs c.loop-two.ended.items) c.in-Some.ensures.steps.0 h.left) in
    never i (length ls) (slice_get_within ls i n.line n.at) c.in_default.ensures.lookup.0

pub finish_link-zero-requires : goal.finish_link-zero-requires
finish_link-zero-requires c =
    let i = c.loop-two.at in
    let ls = c.args.links.now in
    let h = c.loop-two.invariant c.requires.moves c.requires.ran in
    let n = next-link c.requires.moves ls i c.in-Some.two c.next.new.self.rest.items c.loop-two.ended.items (subst (λ (rs : List LinkRings). LinksHaveRun c.requires.moves (drop i ls) rs c.loop-two.ended.items) c.in-Some.ensures.steps.0 h.left) in
    let line : c.in-Some-get.line.now ≡ n.line = c.in-Some-get.ensures.lookup.1 ∙ get_or_from_slice_get ls i n.line c.in-Some-get.line.now n.at in
    record {
      moves = c.requires.moves;
      ran = subst (λ (l : LinkLine). LinkHasRun c.requires.moves l c.in-Some.two c.loop-two.ended.items) (sym line) n.ran;
      apart = subst (λ (l : LinkLine). l.driver ≡ l.device → ⊥) (sym line) (all-at-next (λ l. l.driver ≡ l.device → ⊥) ls i n.line n.at c.requires.apart);
    }

pub returns : goal.returns
returns c moves ran =
    let none : length c.loop-two.two-iterator.rest.items ≡ 0 = search rules in
    all-finished moves c.args.links.now c.args.rings.items c.loop-two.at c.loop-two.two-iterator.rest.items c.loop-two.ended.items c.loop-two.closed (none-left c.loop-two.two-iterator.rest.items none) (c.loop-two.invariant moves ran)

pub loop-two-preserved : goal.loop-two-preserved
loop-two-preserved c moves ran =
    let i = c.loop-two.at in
    let ls = c.args.links.now in
    let h = c.loop-two.invariant moves ran in
    let n = next-link moves ls i c.in-Some.two c.next.new.self.rest.items c.loop-two.ended.items (subst (λ (rs : List LinkRings). LinksHaveRun moves (drop i ls) rs c.loop-two.ended.items) c.in-Some.ensures.steps.0 h.left) in
    let line : c.in-Some-get.line.now ≡ n.line = c.in-Some-get.ensures.lookup.1 ∙ get_or_from_slice_get ls i n.line c.in-Some-get.line.now n.at in
    goes-on moves ls c.args.rings.items i c.in-Some.two c.next.new.self.rest.items c.in-Some-get.line.now c.loop-two.ended.items c.finish_link-zero.new.ended.items c.loop-two.closed _ _ _ _ c.requires.differ
    (subst (λ (rs : List LinkRings). GoesOn moves ls c.args.rings.items i rs c.loop-two.ended.items c.loop-two.closed) c.in-Some.ensures.steps.0 h)
    (n.at ∙ ap Some (sym line)) (λ has. c.finish_link-zero.ensures.finished moves has) c.finish_link-zero.ensures.others c.in_ok-add.ensures c.in_ok-add-2.ensures
