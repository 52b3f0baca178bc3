use Rattle.std.proofs.Common.{◌≡◌, ◌∙◌, ◌≤◌, ◌++◌, ℕ, List, ap, arith, length, take, drop}
use Rattle.std.proofs.lemmas.List.{take-append-le, take-take}
use Rattle.lane_end.proofs.carried.Carried.load.Goals as goal

-- the first bytes of a buffer whose bytes were lent
lent-back : (out bytes : List ℕ) (len : ℕ) → len ≤ length out → len ≤ length bytes → take len (take (length bytes) (out ++ drop (length out) bytes)) ≡ take len out
lent-back out bytes len within le = take-take len (length bytes) (out ++ drop (length out) bytes) le ∙ take-append-le len out (drop (length out) bytes) within

pub returns : goal.returns
returns c =
    let out = c.copy.new.out in
    let wide = c.requires.wide in let fits = c.requires.fits in
    let lent : length c.bytes_mut.result.now ≡ length c.args.buffer.bytes = ap (length {A = ℕ}) c.bytes_mut.ensures.value in
    let within : length c.args.frame.now ≤ length out = omega (arith, lent, wide, c.copy.auto.out, fits) in
    ap (λ (bytes : List ℕ). (c.args.buffer.number, bytes)) (lent-back out c.args.buffer.bytes (length c.args.frame.now) within (omega (arith, wide, fits)) ∙ c.copy.ensures)
