use Rattle.std.proofs.Common.{◌≡◌, ◌∙◌, ◌+◌, ◌<◌, ◌++◌, ℕ, zero, suc, List, [], ◌∷◌, length, take, get_or, refl, sym, ap, subst, arith}
use Rattle.board_model.specs.declared.scenario.LinkLine.{LinkLine}
use Rattle.board_runner.specs.declared.rings.LinkHalves.{LinkHalves}
use Rattle.board_runner.specs.declared.rings.LinkRings.{LinkRings}
use Rattle.board_runner.specs.Wired.{AreRings}
use Rattle.board_runner.proofs.WiredLemmas.{rings-more}
use Rattle.board_runner.proofs.rings.rings_of.Goals as goal

take-suc : (xs : List LinkLine) (i : ℕ) (d : LinkLine) → i < length xs → take (suc i) xs ≡ take i xs ++ get_or xs i d ∷ []
take-suc [] i d within = absurd (omega (arith, within))
take-suc (x ∷ xs) zero d within = refl
take-suc (x ∷ xs) (suc i) d within = ap (λ (ys : List LinkLine). x ∷ ys) (take-suc xs i d (omega (arith, within)))

take-next : (xs : List LinkLine) (i : ℕ) (d : LinkLine) → i < length xs → take (i + 1) xs ≡ take i xs ++ get_or xs i d ∷ []
take-next xs i d within = let next : i + 1 ≡ suc i = omega arith in ap (λ (k : ℕ). take k xs) next ∙ take-suc xs i d within

pub loop-link-preserved : goal.loop-link-preserved
loop-link-preserved c =
    let ls = c.args.links.now in
    let i = c.loop-link.link-index in
    let more = rings-more (take i ls) c.loop-link.rings.items c.loop-link.halves.items (get_or ls i (record { driver = 0; device = 0; size = 0 })) c.in_ok-two.two c.in_ok-two.parts c.loop-link.invariant c.in_ok-two.ensures in
    subst (λ (xs : List LinkLine). AreRings xs c.append.new.items.items c.append-in-loop-link.new.items.items) (sym (take-next ls i (record { driver = 0; device = 0; size = 0 }) c.loop-link-test.true))
    (subst (λ (rs : List LinkRings). AreRings (take i ls ++ get_or ls i (record { driver = 0; device = 0; size = 0 }) ∷ []) rs c.append-in-loop-link.new.items.items) (sym c.in_ok-append.ensures)
    (subst (λ (hs : List LinkHalves). AreRings (take i ls ++ get_or ls i (record { driver = 0; device = 0; size = 0 }) ∷ []) (c.loop-link.rings.items ++ c.in_ok-two.two ∷ []) hs) (sym c.in_ok-append-2.ensures) more))
