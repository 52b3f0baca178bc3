-- The first of some members, and the others behind commas.
use Rattle.std.proofs.Common.{◌≡◌, ℕ, ◌-◌, ◌≤◌, ◌<◌, List, [], ◌∷◌, ◌++◌, length, get_or, take, drop, refl, sym, ap, ap₂, subst, arith}
use Rattle.std.specs.List.{flat_map}
use Rattle.std.proofs.lemmas.List.{take_rest}
use Rattle.picture_text.specs.Objects.{member_text, members_text, more_member}
use Rattle.picture_text.specs.declared.json.Member.{Member}

pub members_front : (ms : List Member) (d : Member) → 1 ≤ length ms → member_text (get_or ms 0 d) ++ flat_map more_member (take (length ms - 1) (drop 1 ms)) ≡ members_text ms
unfolding members_text
members_front [] d some = absurd (omega (arith, some))
members_front (x ∷ xs) d some = ap (λ (ys : List Member). member_text x ++ flat_map more_member ys) (take_rest (x ∷ xs) 1)

pub members_none : (ms : List Member) → length ms < 1 → [] ≡ members_text ms
unfolding members_text
members_none [] few = refl
members_none (m ∷ ms) few = absurd (omega (arith, few))
