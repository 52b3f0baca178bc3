-- The role of each number: it is one of this number, and of a domain that is neither the first nor the last it is that of one between.
use Rattle.std.proofs.Common.{◌≡◌, ℕ, ◌≤◌, ◌<◌, Bool, true, false, cond, List, refl, sym, ap, ◌∙◌, arith}
use Rattle.std.specs.Prelude.{◌==◌}
use Rattle.std.proofs.lemmas.Bool.{eq-eqb, eqb-true, ne_eqb}
use Rattle.hop_relay.specs.declared.role.Role.{Role}
use Rattle.hop_relay.specs.declared.role.Role.TheVariants.{First, Middle, Last}
use Rattle.hop_relay.specs.RelayActors.{domain_of_role}
use Rattle.hop_relay.specs.RelayBoard.{role_of}
use Rattle.hop_relay.proofs.RoleLines.{IsRoleOf}

pub role_is : (packets : List (List ℕ)) (hops most d : ℕ) → IsRoleOf d (role_of packets hops most d)
role_is packets hops most d = by_first (d == 0) refl
  where
    by_last : (b : Bool) → IsRoleOf d (cond b (Last d most) (Middle d most))
    by_last true = refl
    by_last false = refl

    by_first : (b : Bool) → (d == 0) ≡ b → IsRoleOf d (cond b (First packets) (cond (d == hops) (Last d most) (Middle d most)))
    by_first true is = eqb-true d 0 is
    by_first false is = by_last (d == hops)

number_is : (d : ℕ) (role : Role) → IsRoleOf d role → domain_of_role role ≡ d
number_is d (First packets) is = sym is
number_is d (Middle e most) is = sym is
number_is d (Last e most) is = sym is

pub role-number : (packets : List (List ℕ)) (hops most d : ℕ) → domain_of_role (role_of packets hops most d) ≡ d
role-number packets hops most d = number_is d (role_of packets hops most d) (role_is packets hops most d)

pub is_between : (packets : List (List ℕ)) (hops most d : ℕ) → 0 < d → d < hops → role_of packets hops most d ≡ Middle d most
is_between packets hops most d after before =
    ap (λ b. cond b (First packets) (cond (d == hops) (Last d most) (Middle d most))) (ne_eqb d 0 (λ e. absurd (omega arith)))
    ∙ ap (λ b. cond b (Last d most) (Middle d most)) (ne_eqb d hops (λ e. absurd (omega arith)))

pub last_is : (packets : List (List ℕ)) (hops most : ℕ) → 1 ≤ hops → role_of packets hops most hops ≡ Last hops most
last_is packets hops most some =
    ap (λ b. cond b (First packets) (cond (hops == hops) (Last hops most) (Middle hops most))) (ne_eqb hops 0 (λ e. absurd (omega (arith, some, e))))
    ∙ ap (λ b. cond b (Last hops most) (Middle hops most)) (eq-eqb hops hops refl)
