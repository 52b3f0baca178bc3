-- A fetch or a reclaim changes neither the ring of a half nor what it wrote.
use Rattle.std.proofs.Common.{◌≡◌, List, Some, inl, inr, ap}
use Rattle.shared_words.specs.Entry.{Entry}
use Rattle.shared_words.specs.Shown.{RingId}
use Rattle.split_ring.specs.Ends.{End, TakesNext}

pub still : (old new : End) (e : Entry) → TakesNext old (Some e) new → (new.ring ≡ old.ring) × (new.written ≡ old.written)
still old new e (inl (left, is)) = (ap (λ (h : End). h.ring) is, ap (λ (h : End). h.written) is)
still old new e (inr (none_left, (n, some_shown, is))) = (ap (λ (h : End). h.ring) is, ap (λ (h : End). h.written) is)
