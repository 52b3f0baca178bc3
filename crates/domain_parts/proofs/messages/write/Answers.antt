use Rattle.std.proofs.Common.{◌≡◌, ◌∙◌, ◌+◌, ◌++◌, ap, sym, arith, length, take, drop, List, ℕ, append_assoc, length-append}
use Rattle.mc_base.specs.Frame.{header, made}
use Rattle.mc_base.specs.Letter.{letter_text}
use Rattle.std.proofs.lemmas.List.{take_at}
use Rattle.domain_parts.proofs.messages.write.Goals as goal

-- a frame in front of other bytes
frame-cut : (src dst n : ℕ) (text rest : List ℕ) → n ≡ length text → take (16 + n) (header src dst n ++ (text ++ rest)) ≡ made src dst text
frame-cut src dst n text rest is =
    let whole : length (header src dst n ++ text) ≡ 16 + n = omega (arith, length-append (header src dst n) text) in
    ap (λ (xs : List ℕ). take (16 + n) xs) (sym (append_assoc (header src dst n) text rest)) ∙ take_at (header src dst n ++ text) rest (16 + n) whole ∙ ap (λ (k : ℕ). header src dst k ++ text) is

pub returns-clause-frame : goal.returns-clause-frame
returns-clause-frame c =
    let text = letter_text c.args.letter.now in
    let len = c.write_payload-len.result in
    let rest = drop (length text) (drop 16 c.args.out.now) in
    let written : c.write_header.new.out ≡ header c.args.source c.args.destination len ++ drop 16 c.write_payload-len.new.out = c.write_header.ensures in
    ap (λ (xs : List ℕ). take (16 + len) xs) (written ∙ ap (λ (xs : List ℕ). header c.args.source c.args.destination len ++ xs) c.write_payload-len.ensures.payload)
    ∙ frame-cut c.args.source c.args.destination len text rest c.write_payload-len.ensures.len
