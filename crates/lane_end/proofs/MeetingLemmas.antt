-- What the two ends of a lane over one ring know of each other.
use Rattle.std.proofs.Common.{◌≡◌, ℕ, ◌+◌, ◌-◌, ◌≤◌, List, [], ◌∷◌, ◌++◌, length, drop, sym, refl, ap, ◌∙◌, arith, length-append, length-drop, append_assoc}
use Rattle.std.proofs.lemmas.List.{map-append, length-map, drop-append-le}
use Rattle.shared_words.specs.Entry.{Entry, IsPrefix}
use Rattle.shared_words.specs.Shown.{TableShown, size_of}
use Rattle.shared_words.specs.declared.view.Role.{Role}
use Rattle.shared_words.specs.declared.view.Role.TheVariants.{Driver, Device}
use Rattle.split_ring.specs.Ends.{End}
use Rattle.split_ring.specs.Finished.{FinishedRing}
use Rattle.lane_end.specs.Entries.{frame_in, load_in, loads_in, numbers_in}
use Rattle.lane_end.specs.Opened.{taken_before, written_before}
use Rattle.lane_end.specs.RingSender.{RingSender, sender_size}
use Rattle.lane_end.specs.RingReceiver.{RingReceiver, receiver_size, given_entries}
use Rattle.lane_end.specs.RingLane.{IsSender, IsReceiver, AreOfOneRing, IsRingLane, sender_met, receiver_met, HaveMet, IsFinishedBetween, IsFinishedLane}
use Rattle.lane_end.proofs.EntryLemmas.{numbers-append, taken-other}

-- both ends count from the same opening
before-same : (s : RingSender) (r : RingReceiver) → AreOfOneRing s r → written_before r.role (receiver_size r) ≡ taken_before s.role (sender_size s)
before-same s r one = (λ i. written_before (one.role i) (size_of (one.ring i))) ∙ taken-other s.role (sender_size s)

module _ (s : RingSender) (r : RingReceiver) (one : AreOfOneRing s r) (a : IsSender s) (front : IsPrefix r.half.taken s.half.written) (back : IsPrefix s.half.taken r.half.written) where
  pub given-is : given_entries r ≡ drop (taken_before s.role (sender_size s)) s.half.taken ++ back.0
  given-is =
      let within : taken_before s.role (sender_size s) ≤ length s.half.taken = omega (arith, a) in
      (λ i. drop (before-same s r one i) (back.1 i)) ∙ drop-append-le (taken_before s.role (sender_size s)) s.half.taken back.0 within

  pub given-count : length (given_entries r) + taken_before s.role (sender_size s) ≡ length s.half.taken + length back.0
  given-count =
      let g = ap (λ (l : List Entry). length l) given-is in let l = length-append (drop (taken_before s.role (sender_size s)) s.half.taken) back.0 in
      let d = length-drop (taken_before s.role (sender_size s)) s.half.taken in omega (arith, a, g, l, d)

  pub ring-lane : IsReceiver r → r.half.shown ≤ length s.half.written → IsRingLane s r
  ring-lane b most = record {
    taken = (loads_in front.0, ap loads_in front.1 ∙ map-append load_in r.half.taken front.0);
    back = (numbers_in back.0, ap numbers_in given-is ∙ numbers-append (drop (taken_before s.role (sender_size s)) s.half.taken) back.0);
    shown = let t = length-map r.half.taken load_in in let w = length-map s.half.written load_in in let k = b.shown in omega (arith, t, w, k, most);
    looked = let g = given-count in omega (arith, a, g);
  }

  pub met-receiver : IsReceiver r → r.half.shown ≤ length s.half.written → IsReceiver (receiver_met s r)
  met-receiver b most = record { shown = let k = b.shown in omega (arith, k, most); opened = b.opened }

written-count : (s : RingSender) (r : RingReceiver) → AreOfOneRing s r → IsSender s → IsPrefix s.half.taken r.half.written → length r.half.written - taken_before s.role (sender_size s) ≡ length (given_entries r)
written-count s r one a back =
    let d = length-drop (written_before r.role (receiver_size r)) r.half.written in let b = before-same s r one in omega (arith, d, b)

pub have-met : (s : RingSender) (r : RingReceiver) → AreOfOneRing s r → IsSender s → IsReceiver r → IsPrefix r.half.taken s.half.written → IsPrefix s.half.taken r.half.written → r.half.shown ≤ length s.half.written → s.half.shown ≤ length r.half.written
    → HaveMet s r (sender_met s r) (receiver_met s r)
have-met s r one a b front back most most_back = record {
  sends = refl;
  receives = refl;
  come = let w = length-map s.half.written frame_in in omega (arith, most, w);
  back = let w = written-count s r one a back in omega (arith, most_back, w);
  all_come = sym (length-map s.half.written frame_in);
  all_back = written-count s r one a back;
  lane = ring-lane (sender_met s r) (receiver_met s r) (record { ring = one.ring; role = one.role }) a front back (met-receiver s r one a front back b most) (Rattle.std.proofs.Common.le_refl (length s.half.written));
}

-- what a finished ring tells, whichever half sends
pub finished-front : (role : Role) (ring : TableShown) (sending receiving : End) (closed : FinishedRing) → IsFinishedBetween role ring sending receiving closed
    → (IsPrefix receiving.taken sending.written) × (IsPrefix sending.taken receiving.written) × (receiving.shown ≤ length sending.written)
finished-front Driver ring sending receiving closed f = ((f.offered_rest, f.offered), (f.returned_rest, f.returned), f.device_shown)
finished-front Device ring sending receiving closed f = ((f.returned_rest, f.returned), (f.offered_rest, f.offered), f.driver_shown)

pub finished-lane : (ring : TableShown) (s : RingSender) (r : RingReceiver) (closed : FinishedRing) → AreOfOneRing s r → IsSender s → IsReceiver r → IsFinishedLane ring s r closed → IsRingLane s r
finished-lane ring s r closed one a b f = let k = finished-front s.role ring s.half r.half closed f in ring-lane s r one a k.0 k.1 b k.2
