-- The pieces of a packet, gathered one after the other.
use Rattle.std.proofs.Common.{◌≡◌, ℕ, suc, zero, ◌+◌, ◌≤◌, List, [], ◌∷◌, ◌++◌, length, take, flat_map, slice_get, Option, Some, None, option_map, option_and_then, refl, sym, ap, ◌∙◌, subst, arith, append-nil, append_assoc, length-append}
use Rattle.std.specs.Prelude.{IfSome}
use Rattle.std.proofs.lemmas.List.{take_all}
use Rattle.board_model.specs.State.{LentPacket}
use Rattle.domain_core.specs.DomainView.{content_by}

abbrev joined : List (List ℕ) → List ℕ
joined ps = flat_map (λ p. p) ps

-- the first n pieces are the first bytes of a room
abbrev pub Gathered : ℕ → ℕ → List ℕ → Option (List (List ℕ)) → Type 0
Gathered n size out pieces = IfSome pieces (λ ps. (take size out ≡ joined (take n ps)) × (size ≡ length (joined (take n ps))))

next_joined : (ps : List (List ℕ)) (n : ℕ) (b : List ℕ) → slice_get ps n ≡ Some b → joined (take (suc n) ps) ≡ joined (take n ps) ++ b
next_joined [] n b e = absurd cc
next_joined (p ∷ ps) zero b e = let same : p ≡ b = cc in append-nil p ∙ same
next_joined (p ∷ ps) (suc n) b e = ap (λ bs. p ++ bs) (next_joined ps n b e) ∙ sym (append_assoc p (joined (take n ps)) b)

next_fits : (ps : List (List ℕ)) (n : ℕ) (b : List ℕ) → slice_get ps n ≡ Some b → length (joined (take n ps)) + length b ≤ length (joined ps)
next_fits [] n b e = absurd cc
next_fits (p ∷ ps) zero b e = let same : p ≡ b = cc in omega (arith, ap length same, length-append p (joined ps))
next_fits (p ∷ ps) (suc n) b e = omega (arith, next_fits ps n b e, length-append p (joined (take n ps)), length-append p (joined ps))

pub gathered-none : (out : List ℕ) (pieces : Option (List (List ℕ))) → Gathered 0 0 out pieces
gathered-none out None = tt
gathered-none out (Some ps) = (refl, refl)

-- together they have no more bytes than the packet
pieces_few : (limit : ℕ) (ps : List (List ℕ)) (lent : Option LentPacket) → Some (joined ps) ≡ option_map (λ p. p.item.content) lent → IfSome lent (λ p. length p.item.content ≤ limit) → length (joined ps) ≤ limit
pieces_few limit ps None whole short = absurd cc
pieces_few limit ps (Some p) whole short = let same : joined ps ≡ p.item.content = cc in subst (λ bytes. length bytes ≤ limit) (sym same) short

-- the next piece has room where the content has
pub gathered-fits : (limit n size : ℕ) (out b : List ℕ) (pieces : Option (List (List ℕ))) (lent : Option LentPacket) → Gathered n size out pieces → content_by pieces ≡ option_map (λ p. p.item.content) lent → IfSome lent (λ p. length p.item.content ≤ limit) → Some b ≡ option_and_then (λ ps. slice_get ps n) pieces → size + length b ≤ limit
gathered-fits limit n size out b None lent h whole short is = absurd cc
gathered-fits limit n size out b (Some ps) lent h whole short is =
    let few = pieces_few limit ps lent whole short in
    omega (arith, h.1, next_fits ps n b (sym is), few)

pub gathered-next : (n size size' : ℕ) (out out' b : List ℕ) (pieces : Option (List (List ℕ))) → Gathered n size out pieces → Some b ≡ option_and_then (λ ps. slice_get ps n) pieces → size' ≡ size + length b → take size' out' ≡ take size out ++ b → Gathered (n + 1) size' out' pieces
gathered-next n size size' out out' b None h is more bytes = tt
gathered-next n size size' out out' b (Some ps) h is more bytes =
    let count : suc n ≡ n + 1 = omega arith in
    let next = next_joined ps n b (sym is) in
    subst (λ k. (take size' out' ≡ joined (take k ps)) × (size' ≡ length (joined (take k ps)))) count
    (bytes ∙ ap (λ bs. bs ++ b) h.0 ∙ sym next, omega (arith, more, h.1, ap length next, length-append (joined (take n ps)) b))

-- all pieces are the content
pub gathered-all : (k n size : ℕ) (out : List ℕ) (pieces : Option (List (List ℕ))) (content : Option (List ℕ)) → Gathered n size out pieces → Some k ≡ option_map length pieces → k ≤ n → content_by pieces ≡ content → Some (take size out) ≡ content
gathered-all k n size out None content h count all whole = absurd cc
gathered-all k n size out (Some ps) content h count all whole =
    let many : k ≡ length ps = cc in
    ap (λ bs. Some bs) (h.0 ∙ ap joined (take_all n ps (omega (arith, many, all)))) ∙ whole

pub gathered-few : (limit k n size : ℕ) (out : List ℕ) (pieces : Option (List (List ℕ))) (lent : Option LentPacket) → Gathered n size out pieces → Some k ≡ option_map length pieces → k ≤ n → content_by pieces ≡ option_map (λ p. p.item.content) lent → IfSome lent (λ p. length p.item.content ≤ limit) → size ≤ limit
gathered-few limit k n size out None lent h count all whole short = absurd cc
gathered-few limit k n size out (Some ps) lent h count all whole short =
    let many : k ≡ length ps = cc in
    let few = pieces_few limit ps lent whole short in
    omega (arith, h.1, few, ap (λ qs. length (joined qs)) (take_all n ps (omega (arith, many, all))))
