-- What a shuttle leaves, as a meeting of the ends of a plain lane.
-- Source: docs/PROFILE.md, "Lanes": a meeting is not a look, and what the two ends hold is theirs together.
use Rattle.std.specs.Prelude.{◌≡◌, ℕ, ◌+◌, List, [], ◌∷◌, ◌++◌}
use Rattle.std.proofs.Common.{ap, arith, ◌∙◌, subst, sym}
use Rattle.std.proofs.lemmas.List.{map-append}
use Rattle.lane_end.specs.Meeting.{SeenStays}
use Rattle.lane_end.specs.Numbers.{often}
use Rattle.lane_end.specs.PlainSender.{Sender}
use Rattle.lane_end.specs.PlainReceiver.{Receiver}
use Rattle.lane_end.specs.PlainLane.{AreOneLane, HasShuttled, carriers, receiver_numbers, sender_numbers, shuttled_receiver, shuttled_sender}

pub often-append : (x : ℕ) (a b : List ℕ) → often x (a ++ b) ≡ often x a + often x b
often-append x [] b = omega arith
often-append x (n ∷ a) b = let h = often-append x a b in omega (arith, h)

-- how often a number stands among three lists, one after the other
pub often-three : (x : ℕ) (a b c : List ℕ) → often x (a ++ (b ++ c)) ≡ often x a + often x b + often x c
often-three x a b c = let one = often-append x a (b ++ c) in let two = often-append x b c in omega (arith, one, two)

pub carriers-append : (a b : List (ℕ × List ℕ)) → carriers (a ++ b) ≡ carriers a ++ carriers b
carriers-append a b = map-append (λ (f : ℕ × List ℕ). f.0) a b

-- a shuttle carries the numbers from one end to the other
pub shuttled-one-lane : (from : Sender) (to : Receiver) → AreOneLane from to → AreOneLane (shuttled_sender from to) (shuttled_receiver from to)
shuttled-one-lane from to lane = record {
  size = lane.size;
  once = λ x.
      let old = often-append x (sender_numbers from) (receiver_numbers to) in
      let old_from = often-three x from.free (carriers from.put) from.back in
      let old_to = often-three x (carriers to.came) to.out to.given in
      let new = often-append x (sender_numbers (shuttled_sender from to)) (receiver_numbers (shuttled_receiver from to)) in
      let new_from = often-three x from.free [] (from.back ++ to.given) in
      let new_to = often-three x (carriers (to.came ++ from.put)) to.out [] in
      let back = often-append x from.back to.given in
      let came = ap (often x) (carriers-append to.came from.put) ∙ often-append x (carriers to.came) (carriers from.put) in
      let is = lane.once x in
      omega (arith, old, old_from, old_to, new, new_from, new_to, back, came, is);
}

-- what a caller sees of each end stays
pub shuttled-seen : (s : Sender) (r : Receiver) (s' : Sender) (r' : Receiver) → HasShuttled s r s' r' → SeenStays (λ (s : Sender). s.size) (λ (s : Sender). s.free) (λ (r : Receiver). r.size) (λ (r : Receiver). r.shown) (λ (r : Receiver). r.out) s r s' r'
shuttled-seen s r s' r' met = record {
  size_to = ap (λ (x : Sender). x.size) met.sends;
  free = ap (λ (x : Sender). x.free) met.sends;
  size_from = ap (λ (x : Receiver). x.size) met.receives;
  shown = ap (λ (x : Receiver). x.shown) met.receives;
  out = ap (λ (x : Receiver). x.out) met.receives;
}

pub shuttled-still : (s : Sender) (r : Receiver) (s' : Sender) (r' : Receiver) → HasShuttled s r s' r' → AreOneLane s r → AreOneLane s' r'
shuttled-still s r s' r' met one = subst (λ (x : Sender). AreOneLane x r') (sym met.sends) (subst (λ (y : Receiver). AreOneLane (shuttled_sender s r) y) (sym met.receives) (shuttled-one-lane s r one))
