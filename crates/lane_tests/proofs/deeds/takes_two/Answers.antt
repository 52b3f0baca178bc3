use Rattle.std.proofs.Common.{◌≡◌, ◌∙◌, ℕ, List, [], ◌∷◌, ◌++◌, take, refl, ap, arith}
use Rattle.std.specs.Prelude.{Contains}
use Rattle.lane_end.specs.Numbers.{often}
use Rattle.lane_end.specs.ReceiveMoves.{Looked, Took, Gave}
use Rattle.lane_end.specs.ReceiverContract.{without}
use Rattle.lane_end.proofs.CountLemmas.{tick-same, often-append, often-without, contained-often}
use Rattle.lane_tests.proofs.deeds.takes_two.Goals as goal

-- the number taken first is out after the one taken second is given back
still-out : (before one two left : List ℕ) (a b : ℕ) → one ≡ before ++ a ∷ [] → two ≡ one ++ b ∷ [] → left ≡ without b two → Contains left a
still-out before one two left a b first second given =
    let first_a = ap (often a) first ∙ often-append a before (a ∷ []) in
    let second_a = ap (often a) second ∙ often-append a one (b ∷ []) in
    let second_b = ap (often b) second ∙ often-append b one (b ∷ []) in
    let one_a = tick-same a a refl in
    let one_b = tick-same b b refl in
    let struck = often-without a b two (omega (arith, second_b, one_b)) in
    let rest = ap (often a) given in
    contained-often left a (omega (arith, first_a, second_a, one_a, struck, rest))

pub give_back-requires-2 : goal.give_back-requires-2
give_back-requires-2 g c = record {
  out = still-out (g.R.RecvEnd.out c.look.new.self) (g.R.RecvEnd.out c.take-first.new.self) (g.R.RecvEnd.out c.take-second.new.self) (g.R.RecvEnd.out c.give_back.new.self) c.take-first.result.0.number c.take-second.result.0.number
      c.take-first.ensures.out c.take-second.ensures.out c.give_back.ensures.out;
  wide = c.take-first.ensures.wide;
}

pub returns : goal.returns
returns g c =
    let both = g.met.R.RecvEnd.both in
    let one = c.take-first.result in
    let two = c.take-second.result in
    let seen = Looked c.look.result ∷ [] in
    let took = Took one.0.number (take one.1 one.0.bytes) ∷ [] in
    let then = Took two.0.number (take two.1 two.0.bytes) ∷ [] in
    let gave = Gave two.0.number ∷ [] in
    let last = Gave one.0.number ∷ [] in
    let first = both c.args.end.now c.look.new.self c.take-first.new.self seen took c.look.ensures.moved c.take-first.ensures.moved in
    let second = both c.args.end.now c.take-first.new.self c.take-second.new.self (seen ++ took) then first c.take-second.ensures.moved in
    let third = both c.args.end.now c.take-second.new.self c.give_back.new.self ((seen ++ took) ++ then) gave second c.give_back.ensures.moved in
    ((((seen ++ took) ++ then) ++ gave) ++ last, both c.args.end.now c.give_back.new.self c.give_back-2.new.self (((seen ++ took) ++ then) ++ gave) last third c.give_back-2.ensures.moved)
