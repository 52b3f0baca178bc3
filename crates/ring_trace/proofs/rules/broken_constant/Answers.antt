use Rattle.std.proofs.Common.{◌≡◌, ◌∙◌, ℕ, List, ◌++◌, find, option_map, Option, Some, None, ap, sym, refl, arith}
use Rattle.std.specs.List.{flat_map, range_with_len}
use Rattle.std.specs.Option.{option_or}
use Rattle.std.proofs.lemmas.List.Folds.{find-append}
use Rattle.ring_trace.specs.ImageFaults.{Rule, is_broken, descriptor_constants, ring_constants}
use Rattle.ring_trace.proofs.Firsts.{found-here, none-more}
use Rattle.ring_trace.proofs.rules.broken_constant.Goals as goal

abbrev place_of : Option Rule → Option ℕ
place_of o = option_map (λ r. r.place) o

-- where a place is found, a rule is; and where none is found, none is
some_rule : (o : Option Rule) (place : ℕ) → Some place ≡ place_of o → (r : Rule) × (o ≡ Some r) × (r.place ≡ place)
some_rule None place h = grind arith
some_rule (Some r) place h = (r, refl, grind arith)

no_rule : (o : Option Rule) → None ≡ place_of o → o ≡ None
no_rule None h = refl
no_rule (Some r) h = grind arith

-- after the descriptors come the rings
after : (image : List ℕ) (xs ys : List Rule) → find (is_broken image) xs ≡ None → find (is_broken image) (xs ++ ys) ≡ find (is_broken image) ys
after image xs ys none = find-append (is_broken image) xs ys ∙ ap (λ o. option_or o (find (is_broken image) ys)) none

before : (image : List ℕ) (xs ys : List Rule) (r : Rule) → find (is_broken image) xs ≡ Some r → find (is_broken image) (xs ++ ys) ≡ Some r
before image xs ys r some = find-append (is_broken image) xs ys ∙ ap (λ o. option_or o (find (is_broken image) ys)) some

pub returns-in-Some : goal.returns-in-Some
returns-in-Some c =
    let image = c.args.image.now in
    let each = descriptor_constants c.args.size c.args.queue in
    let i = c.loop-i.i in
    let rule = some_rule (find (is_broken image) (each i)) c.in-Some.place (sym c.in-Some.is ∙ c.broken_descriptor.ensures) in
    let all = found-here (is_broken image) each i c.args.size rule.0 c.loop-i-test.true c.loop-i.invariant rule.1 in
    let whole = before image (flat_map each (range_with_len 0 c.args.size)) (ring_constants c.args.size) rule.0 all in
    sym (ap place_of whole ∙ ap Some rule.2)

pub loop-i-preserved : goal.loop-i-preserved
loop-i-preserved c =
    let image = c.args.image.now in
    let each = descriptor_constants c.args.size c.args.queue in
    none-more (is_broken image) each c.loop-i.i c.loop-i.invariant (no_rule (find (is_broken image) (each c.loop-i.i)) (sym c.in_default.is ∙ c.broken_descriptor.ensures))

pub returns : goal.returns
returns c =
    let image = c.args.image.now in
    let each = descriptor_constants c.args.size c.args.queue in
    let end : c.loop-i.i ≡ c.args.size = let f = c.loop-i-test.false in let t = c.loop-i.auto.i-end in omega (arith, f, t) in
    let none : find (is_broken image) (flat_map each (range_with_len 0 c.args.size)) ≡ None = ap (λ n. find (is_broken image) (flat_map each (range_with_len 0 n))) (sym end) ∙ c.loop-i.invariant in
    c.broken_ring.ensures ∙ sym (ap place_of (after image (flat_map each (range_with_len 0 c.args.size)) (ring_constants c.args.size) none))
