use Rattle.std.proofs.Common.{◌≡◌, ◌∙◌, ◌<◌, ◌≤◌, ◌+◌, ◌*◌, ℕ, List, ◌∷◌, [], find, option_map, Some, None, ap, sym, arith}
use Rattle.std.specs.List.{flat_map, range_with_len}
use Rattle.std.proofs.lemmas.List.Concat.{flat_map_single}
use Rattle.mc_base.specs.Bytes.{number_at}
use Rattle.ring_trace.specs.ImageFaults.{Rule, is_broken, at_most, first_broken, rules_of_column}
use Rattle.ring_trace.proofs.Firsts.{found-here, none-more}
use Rattle.ring_trace.proofs.rules.broken_column.Goals as goal

abbrev rules_at : (ℕ → ℕ) → ℕ → ℕ → ℕ → List Rule
rules_at place width most p = at_most (place p) width most ∷ []

-- the first of a column is the first of its rules one by one
one_by_one : (image : List ℕ) (place : ℕ → ℕ) (width most n : ℕ) → first_broken image (rules_of_column place width most n) ≡ option_map (λ r. r.place) (find (is_broken image) (flat_map (rules_at place width most) (range_with_len 0 n)))
one_by_one image place width most n = ap (first_broken image) (sym (flat_map_single (λ p. at_most (place p) width most) (range_with_len 0 n)))

over : (image : List ℕ) (place width most : ℕ) → most < number_at place width image → find (is_broken image) (at_most place width most ∷ []) ≡ Some (at_most place width most)
over image place width most h = grind (arith, h)

within : (image : List ℕ) (place width most : ℕ) → number_at place width image ≤ most → find (is_broken image) (at_most place width most ∷ []) ≡ None
within image place width most h = grind (arith, h)

pub returns-then-number_in-most : goal.returns-then-number_in-most
returns-then-number_in-most c =
    let image = c.args.image.now in
    let place : ℕ → ℕ = λ p. c.args.column.first + c.args.column.step * p in
    let width = c.args.column.width in
    let most = c.args.most in
    let p = c.loop-p.p in
    let here = over image (place p) width most (let t = c.if-number_in-most.true in let v = c.number_in.ensures in omega (arith, t, v)) in
    sym (one_by_one image place width most c.args.size ∙ ap (option_map (λ r. r.place)) (found-here (is_broken image) (rules_at place width most) p c.args.size (at_most (place p) width most) c.loop-p-test.true c.loop-p.invariant here))

pub loop-p-preserved : goal.loop-p-preserved
loop-p-preserved c =
    let image = c.args.image.now in
    let place : ℕ → ℕ = λ p. c.args.column.first + c.args.column.step * p in
    let width = c.args.column.width in
    let most = c.args.most in
    let p = c.loop-p.p in
    let here = within image (place p) width most (let t = c.if-number_in-most.false in let v = c.number_in.ensures in omega (arith, t, v)) in
    none-more (is_broken image) (rules_at place width most) p c.loop-p.invariant here

pub returns : goal.returns
returns c =
    let image = c.args.image.now in
    let place : ℕ → ℕ = λ p. c.args.column.first + c.args.column.step * p in
    let width = c.args.column.width in
    let most = c.args.most in
    let end : c.loop-p.p ≡ c.args.size = let f = c.loop-p-test.false in let t = c.loop-p.auto.p-end in omega (arith, f, t) in
    let none : find (is_broken image) (flat_map (rules_at place width most) (range_with_len 0 c.args.size)) ≡ None = ap (λ n. find (is_broken image) (flat_map (rules_at place width most) (range_with_len 0 n))) (sym end) ∙ c.loop-p.invariant in
    sym (one_by_one image place width most c.args.size ∙ ap (option_map (λ r. r.place)) none)
