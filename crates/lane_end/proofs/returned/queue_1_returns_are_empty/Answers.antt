use Rattle.std.proofs.Common.{◌≡◌, ◌∙◌, ℕ, zero, suc, List, [], ◌∷◌, length, drop, sym, ap, arith}
use Rattle.std.specs.List.{All}
use Rattle.shared_words.specs.Entry.{Entry}
use Rattle.shared_words.specs.Shown.{RingId}
use Rattle.shared_words.specs.declared.view.Role.{Role}
use Rattle.shared_words.specs.declared.view.Role.TheVariants.{Device}
use Rattle.lane_end.specs.Entries.{returns_in}
use Rattle.lane_end.specs.Opened.{written_before}
use Rattle.lane_end.specs.ReceiveParts.{numbers_given}
use Rattle.lane_end.specs.RingReceiver.{receiver_size, with_lengths}
use Rattle.lane_end.proofs.returned.queue_1_returns_are_empty.Goals as goal

abbrev first_length : List (ℕ × ℕ) → ℕ
first_length [] = 0
first_length (x ∷ xs) = x.1

abbrev others : List (ℕ × ℕ) → List (ℕ × ℕ)
others [] = []
others (x ∷ xs) = xs

all_empty : (ring : RingId) (es : List Entry) (ns : List ℕ) → returns_in es ≡ with_lengths Device ring ns → All (λ (e : Entry). e.1 ≡ 0) es
all_empty ring [] ns is k d h = absurd (omega (arith, h))
all_empty ring (e ∷ es) [] is k d h = let long = ap (λ (l : List (ℕ × ℕ)). length l) is in absurd (omega (arith, long))
all_empty ring (e ∷ es) (n ∷ ns) is zero d h = ap first_length is
all_empty ring (e ∷ es) (n ∷ ns) is (suc k) d h = all_empty ring es ns (ap others is) k d (omega (arith, h))

pub returns : goal.returns
returns c ring moves r moved =
    let all = ap (λ (role : Role). returns_in (drop (written_before role (receiver_size r)) r.half.written)) moved.role in
    all_empty ring r.half.written (numbers_given moves) (sym all ∙ moved.given)
