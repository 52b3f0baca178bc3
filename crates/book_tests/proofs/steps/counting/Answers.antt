use Rattle.std.proofs.Common.{◌≡◌, ◌∙◌, ℕ, List, ◌++◌, length, take, drop, ap, arith, length-append, length-drop, length-take-le}
use Rattle.std.proofs.lemmas.List.{length-replicate}
use Rattle.book_tests.proofs.steps.counting.Goals as goal

-- bytes over the first of others leave as many
same-length : (out bytes : List ℕ) → length (take (length bytes) (out ++ drop (length out) bytes)) ≡ length bytes
same-length out bytes = length-take-le (length bytes) (out ++ drop (length out) bytes) (let a = length-append out (drop (length out) bytes) in let d = length-drop (length out) bytes in omega (arith, a, d))

pub returns-clause-wide : goal.returns-clause-wide
returns-clause-wide c =
    same-length c.count_up.new.out c.in_ok-buffer.buffer.bytes ∙ ap (length {A = ℕ}) c.in_ok-buffer.ensures.zeros ∙ length-replicate {A = ℕ} 512 0
