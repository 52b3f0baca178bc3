use Rattle.std.proofs.Common.{◌≡◌, ◌<◌, ℕ, zero, suc, replicate, None, Some, refl, arith}
use Rattle.std.specs.Prelude.{slice_get, Option}
use Rattle.book_tests.proofs.lending.are_all_lent.Goals as goal

none_at : {X : Type 0} (n i : ℕ) → i < n → slice_get {X = Option X} (replicate n None) i ≡ Some None
none_at zero i within = absurd (omega arith)
none_at (suc n) zero within = refl
none_at (suc n) (suc i) within = none_at n i (omega arith)

-- Nothing is held of the last peer in a new book.
pub lend_first-requires : goal.lend_first-requires
lend_first-requires c = λ slot peer within. rw (c.in_ok-book.ensures, peer) (none_at 256 slot.buffer within)
