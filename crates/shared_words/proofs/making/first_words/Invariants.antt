use Rattle.std.proofs.Common.{◌≡◌, ◌<◌, ℕ, get_or, vec_len}
use Rattle.shared_words.specs.Start.{shape, start_word}
use Rattle.shared_words.proofs.making.first_words.Given as goal

abbrev pub invariant-loop-i : goal.invariant-loop-i
invariant-loop-i l = record { len : vec_len l.words ≡ l.i; words : (j : ℕ) → j < l.i → get_or l.words.items j 0 ≡ start_word (shape l.queue l.size l.length) j }
