use Rattle.std.proofs.Common.{◌≡◌, ◌≤◌, ◌<◌, ℕ, length, vec_len, vec_capacity}
use Rattle.std.specs.Prelude.{slice_index}
use Rattle.std.specs.List.Sorted.{IsStrictlyIncreasing}
use Rattle.shared_words.specs.Entry.{often}
use Rattle.split_ring.specs.Kept.{flag_count}
use Rattle.split_ring.proofs.finish.numbers_held.Given as goal

abbrev pub invariant-loop-id : goal.invariant-loop-id
invariant-loop-id l = record {
  below : (x : ℕ) → x < l.id → often x l.out.items ≡ flag_count l.held x;
  above : (x : ℕ) → l.id ≤ x → often x l.out.items ≡ 0;
  rises : IsStrictlyIncreasing l.out.items;
  low : (i : ℕ) → i < length l.out.items → slice_index l.out.items i < l.id;
  len : vec_len l.out ≤ l.id;
  room : length l.held ≤ vec_capacity l.out;
}
