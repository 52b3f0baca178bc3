-- The endpoints of one domain have names of their own: each is the one that is found by its name.
use Rattle.std.proofs.Common.{◌≡◌, true, false, cond, List, [], ◌∷◌, Some, refl, sym, ap, ◌∙◌, inl, inr}
use Rattle.std.specs.Prelude.{find, ◌==◌}
use Rattle.std.specs.List.{AllByRecursion}
use Rattle.std.proofs.lemmas.Bool.{and_parts, eqb-true, eq-eqb, cases_Bool}
use Rattle.mc_base.specs.declared.name.Local.{Local}
use Rattle.board_model.specs.State.{Endpoint, is_at}
use Rattle.board_model.proofs.OrderSound.{Apart}
use Rattle.board_model.proofs.MessageAlls.{all-weaken}

-- what has a name has no other
at_one : (at : Local) (e f : Endpoint) → is_at at e ≡ true → is_at at f ≡ true → is_at e.local f ≡ true
at_one at e f here there =
    let named = and_parts (e.local.node == at.node) (e.local.port == at.port) here in
    let named' = and_parts (f.local.node == at.node) (f.local.port == at.port) there in
    let node : f.local.node ≡ e.local.node = eqb-true f.local.node at.node named'.0 ∙ sym (eqb-true e.local.node at.node named.0) in
    let port : f.local.port ≡ e.local.port = eqb-true f.local.port at.port named'.1 ∙ sym (eqb-true e.local.port at.port named.1) in
    rw (eq-eqb f.local.node e.local.node node, eq-eqb f.local.port e.local.port port) refl

-- ---- each is found by its name

abbrev pub found_by : Local → List Endpoint → Endpoint → Type 0
found_by at es e = is_at at e ≡ true → find (is_at at) es ≡ Some e

pub each-found : (at : Local) (es : List Endpoint) → Apart es → AllByRecursion (found_by at es) es
each-found at [] apart = tt
each-found at (e ∷ es) apart =
    let here : found_by at (e ∷ es) e = λ is. ap (λ b. cond b (Some e) (find (is_at at) es)) is in
    elim (cases_Bool (is_at at e)) [
      | inl is ↦ (here, all-weaken (λ f. is_at e.local f ≡ false) (found_by at (e ∷ es)) (λ f not_it there. let it : is_at e.local f ≡ true = at_one at e f is there in absurd cc) es apart.0)
      | inr other ↦ (here, all-weaken (found_by at es) (found_by at (e ∷ es)) (λ f found there. ap (λ b. cond b (Some e) (find (is_at at) es)) other ∙ found there) es (each-found at es apart.1))
    ]
