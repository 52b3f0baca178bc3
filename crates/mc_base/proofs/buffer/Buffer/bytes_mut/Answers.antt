use Rattle.std.proofs.Common.{◌≡◌, refl, ap, ◌∙◌, ℕ, sym, List, ◌++◌, take, drop, length, arith}
use Rattle.std.specs.Prelude.{vec_len}
use Rattle.std.specs.Global.{Global}
use Rattle.std.specs.declared.vec.Vec.{Vec}
use Rattle.mc_base.specs.Stored.{Stored}
use Rattle.mc_base.proofs.buffer.Buffer.bytes_mut.Goals as goal

-- The lent slice is the vector in the box, of which nothing but the items changes.
pub returns : goal.returns
returns c =
    let lent : c.as_mut_slice.result.now ≡ c.args.self.now.bytes = c.as_mut_slice.ensures.value ∙ ap (λ (v : Vec ℕ Global). v.items) c.deref_mut.ensures.value ∙ ap (λ (v : Stored). v.bytes) c.self.view_is in
    let long : length c.as_mut_slice.result.now ≡ vec_len c.self.inside.bytes.value = c.as_mut_slice.ensures.len ∙ ap (λ (v : Vec ℕ Global). vec_len v) c.deref_mut.ensures.value in
    let inv = c.self.invariant in
    let number : c.self.inside.number ≡ c.args.self.now.number = ap (λ (v : Stored). v.number) c.self.view_is in
    let bytes : c.deref_mut.result.now.items ≡ c.args.self.now.bytes = ap (λ (v : Vec ℕ Global). v.items) c.deref_mut.ensures.value ∙ ap (λ (v : Stored). v.bytes) c.self.view_is in
    let all : vec_len c.deref_mut.result.now ≡ length c.args.self.now.bytes = sym c.as_mut_slice.ensures.len ∙ ap (length {A = ℕ}) lent in
    let back : (w : List ℕ) → ◌≡◌ {A = Stored} (record { number = c.self.inside.number; bytes = take (vec_len c.deref_mut.result.now) (w ++ drop (length w) c.deref_mut.result.now.items) }) (record { number = c.args.self.now.number; bytes = take (length c.args.self.now.bytes) (w ++ drop (length w) c.args.self.now.bytes) })
    = λ w. (λ i. record { number = number i; bytes = take (all i) (w ++ drop (length w) (bytes i)) }) in
    ((refl, back), record { writes_back = tt; value = lent; len = (omega (arith, long, inv), omega (arith, long, inv)) })
