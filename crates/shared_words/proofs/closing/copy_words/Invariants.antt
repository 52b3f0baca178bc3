use Rattle.std.proofs.Common.{◌≡◌, ◌≤◌, take, vec_len, vec_capacity}
use Rattle.std.specs.Slots.{slots_items}
use Rattle.shared_words.proofs.closing.copy_words.Given as goal

abbrev pub invariant-loop-i : goal.invariant-loop-i
invariant-loop-i l = record { items : l.words.items ≡ take l.i (slots_items l.closed.words); len : vec_len l.words ≡ l.i; room : l.count ≤ vec_capacity l.words }
