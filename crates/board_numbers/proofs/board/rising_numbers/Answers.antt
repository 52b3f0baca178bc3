use Rattle.std.proofs.Common.{◌≡◌, ◌++◌, ◌∷◌, [], cond, Bool, sym, ap, ◌∙◌, arith, length, append-nil}
use Rattle.arrayvec.specs.ArrayVec.{array_vec_len, ArrayVec}
use Rattle.board_numbers.proofs.BoardLemmas.{numbers_below, numbers-first, numbers-next, numbers-all}
use Rattle.board_numbers.proofs.ToldDomains.{domains_alone, told-domains}
use Rattle.board_numbers.proofs.board.rising_numbers.Goals.{then-is_some, else-is_some}
use Rattle.board_numbers.proofs.board.rising_numbers.Goals as goal

pub loop-number-init : goal.loop-number-init
loop-number-init c = record {
  items = c.new-numbers.ensures ∙ sym (numbers-first c.args.scenario.now);
  few = omega (arith, ap length c.new-numbers.ensures);
}

pub loop-number-preserved : goal.loop-number-preserved
loop-number-preserved c =
    let s = c.args.scenario.now in
    let n = c.loop-number.number in
    let before = c.loop-number.invariant in
    let next = numbers-next (domains_alone s) (told-domains s c.requires) n c.line_of.result c.line_of.ensures in
    elim c.if-is_some.branch [
      | then-is_some w ↦
          let told = ap (λ (b : Bool). numbers_below s n ++ cond b (n ∷ []) []) (sym c.is_some.ensures ∙ w.if-is_some.true) in
          record {
            items = ap (λ (v : ArrayVec _). v.items) w.numbers-is ∙ w.push.ensures.items ∙ ap (λ ns. ns ++ n ∷ []) before.items ∙ sym told ∙ sym next;
            few = omega (arith, before.few, w.push.ensures.len, ap (λ (v : ArrayVec _). array_vec_len v) w.numbers-is);
          }
      | else-is_some w ↦
          let told = ap (λ (b : Bool). numbers_below s n ++ cond b (n ∷ []) []) (sym c.is_some.ensures ∙ w.if-is_some.false) in
          record {
            items = ap (λ (v : ArrayVec _). v.items) w.numbers-is ∙ before.items ∙ sym (append-nil (numbers_below s n)) ∙ sym told ∙ sym next;
            few = omega (arith, before.few, ap (λ (v : ArrayVec _). array_vec_len v) w.numbers-is);
          }
    ]

pub returns : goal.returns
returns c =
    let s = c.args.scenario.now in
    let end = c.loop-number-test.false in
    let here = c.loop-number.auto.number-end in
    let all : c.loop-number.number ≡ 8 = omega (arith, end, here) in
    c.loop-number.invariant.items ∙ ap (numbers_below s) all ∙ numbers-all (domains_alone s) (told-domains s c.requires)
