use Rattle.std.proofs.Common.{◌≡◌, ◌∙◌, ◌==◌, ℕ, false, get_or, not, take, take_all, sym, ap, arith}
use Rattle.std.specs.List.{prefix_len}
use Rattle.std.proofs.lemmas.List.Sums.{prefix_len_is}
use Rattle.name_service.proofs.name.before_nul.Goals as goal

pub returns-then-b-eq0 : goal.returns-then-b-eq0
returns-then-b-eq0 c =
    let bytes = c.args.bytes.now in
    let nul : not (get_or bytes c.loop-i.i 0 == 0) ≡ false = ap (λ (b : ℕ). not (b == 0)) c.if-b-eq0.true in
    let len : prefix_len (λ b. not (b == 0)) bytes ≡ c.loop-i.i = prefix_len_is (λ b. not (b == 0)) bytes c.loop-i.i 0 (omega arith) c.loop-i.invariant (λ _. nul) in
    c.split_at.ensures.front ∙ ap (λ n. take n bytes) (sym len)

pub returns : goal.returns
returns c =
    let bytes = c.args.bytes.now in
    let len : prefix_len (λ b. not (b == 0)) bytes ≡ c.loop-i.i = prefix_len_is (λ b. not (b == 0)) bytes c.loop-i.i 0 (omega arith) c.loop-i.invariant (λ h. absurd (omega arith)) in
    sym (ap (λ n. take n bytes) len ∙ take_all c.loop-i.i bytes (omega arith))
