-- From the moves of the two ends of a lane and its finished ring, the run of the lane.
use Rattle.std.proofs.Common.{◌≡◌, ℕ, zero, suc, ◌+◌, ◌≤◌, ◌%◌, ◌^◌, List, [], ◌∷◌, ◌++◌, length, drop, map, refl, ap, sym, ◌∙◌, subst, arith, length-append}
use Rattle.std.specs.Prelude.{sum}
use Rattle.std.proofs.lemmas.List.{map-append, length-map}
use Rattle.shared_words.specs.Entry.{Entry, number_of}
use Rattle.shared_words.specs.Places.{starts_with}
use Rattle.shared_words.specs.Shown.{TableShown, RingId, size_of}
use Rattle.shared_words.specs.Way.{other}
use Rattle.shared_words.specs.declared.view.Role.{Role}
use Rattle.shared_words.specs.declared.view.Role.TheVariants.{Driver, Device}
use Rattle.split_ring.specs.Ends.{End}
use Rattle.split_ring.specs.Finished.{FinishedRing}
use Rattle.lane_end.specs.SendMoves.{SendMove}
use Rattle.lane_end.specs.ReceiveMoves as receiving
use Rattle.lane_end.specs.SendParts.{frames_sent, back_counts}
use Rattle.lane_end.specs.ReceiveParts.{frames_taken, numbers_given, see_counts, SeenBetween}
use Rattle.lane_end.specs.Entries.{frame_in, frames_in, numbers_in, load_in, loads_in, returns_in}
use Rattle.lane_end.specs.Opened.{taken_before}
use Rattle.lane_end.specs.PlainLane.{carriers}
use Rattle.lane_end.specs.RingSender.{RingSender, sender_size, put_by, loads_by, Hand, hand_of, back_to, Deals, RingSends}
use Rattle.lane_end.specs.RingReceiver.{RingReceiver, taken_by, given_entries, given_by, with_lengths, RingReceives}
use Rattle.lane_end.specs.RingLane.{IsSender, IsReceiver, AreOfOneRing, IsFinishedBetween}
use Rattle.lane_end.specs.RingOpening.{queue1_sender, queue1_receiver, queue0_sender, queue0_receiver, whole, new_buffers}
use Rattle.lane_end.specs.LaneRun.{in_ring, coming_back, with_sender, with_receiver, sender_looks, sender_saw, receiver_looks, receiver_saw, frames_of, SeesAtMost, first_hand, IsLaneRun}
use Rattle.lane_end.proofs.EntryLemmas.{numbers-length, numbers-append}
use Rattle.lane_end.proofs.OpeningLemmas.{whole-new}
use Rattle.lane_end.proofs.MeetingLemmas.{given-is, given-count}

-- ---- loads

pub carriers-of : (es : List Entry) → carriers (loads_in es) ≡ numbers_in es
carriers-of [] = refl
carriers-of (e ∷ es) = ap (λ (l : List ℕ). number_of e ∷ l) (carriers-of es)

frames-of : (es : List Entry) → frames_of (loads_in es) ≡ frames_in es
frames-of [] = refl
frames-of (e ∷ es) = ap (λ (l : List (List ℕ)). frame_in e ∷ l) (frames-of es)

abbrev firsts : List (ℕ × ℕ) → List ℕ
firsts rs = map (λ (r : ℕ × ℕ). r.0) rs

firsts-of : (es : List Entry) → firsts (returns_in es) ≡ numbers_in es
firsts-of [] = refl
firsts-of (e ∷ es) = ap (λ (l : List ℕ). number_of e ∷ l) (firsts-of es)

firsts-with : (role : Role) (ring : RingId) (ns : List ℕ) → firsts (with_lengths role ring ns) ≡ ns
firsts-with role ring [] = refl
firsts-with role ring (n ∷ ns) = ap (λ (l : List ℕ). n ∷ l) (firsts-with role ring ns)

drop-all : {A : Type 0} (n : ℕ) (xs : List A) → length xs ≡ n → drop n xs ≡ []
drop-all {A} zero [] e = refl
drop-all {A} (suc n) [] e = refl
drop-all {A} zero (x ∷ xs) e = absurd (omega (arith, e))
drop-all {A} (suc n) (x ∷ xs) e = drop-all n xs (omega (arith, e))

sees-at-most : (low high put before : ℕ) (ms : List receiving.ReceiveMove) → high ≤ put → SeenBetween low high before ms → SeesAtMost put before ms
sees-at-most low high put before [] l s = tt
sees-at-most low high put before (receiving.Looked n ∷ ms) l s = (let q = s.1 in omega (arith, l, q), sees-at-most low high put before ms l s.2)
sees-at-most low high put before (receiving.Took n f ∷ ms) l s = sees-at-most low high put (before + 1) ms l s
sees-at-most low high put before (receiving.Gave n ∷ ms) l s = sees-at-most low high put before ms l s

-- ---- since the opening

abbrev pub sender_opened : Role → RingId → RingSender
sender_opened Driver ring = queue1_sender ring
sender_opened Device ring = queue0_sender ring

abbrev pub receiver_opened : Role → RingId → RingReceiver
receiver_opened Driver ring = queue1_receiver ring
receiver_opened Device ring = queue0_receiver ring

pub record Sent (sender : Role) (ring : RingId) (sends : List SendMove) (s : RingSender) : Type 0 where
  pub role : s.role ≡ sender
  pub ring_is : s.half.ring ≡ ring
  pub put : put_by s ≡ frames_sent sends
  pub looks : s.half.looks ≡ back_counts sends
  pub deals : Deals (size_of ring) (first_hand (size_of ring)) sends (hand_of s)

none-new : (ring : RingId) → drop (size_of ring) (whole (new_buffers ring)) ≡ []
none-new ring = drop-all (size_of ring) (whole (new_buffers ring)) (whole-new ring)

pub sent-since : (sender : Role) (ring : RingId) (sends : List SendMove) (s : RingSender) → RingSends (sender_opened sender ring) sends s → Sent sender ring sends s
sent-since Driver ring sends s m = record { role = m.role; ring_is = m.ring; put = m.put; looks = m.looks; deals = m.deals }
sent-since Device ring sends s m = record {
  role = m.role;
  ring_is = m.ring;
  put = m.put;
  looks = m.looks;
  deals = subst (λ (h : Hand). Deals (size_of ring) h sends (hand_of s)) (λ i. record { free = (first_hand (size_of ring)).free; sent = []; back = numbers_in (none-new ring i) }) m.deals;
}

pub record Received (sender : Role) (ring : RingId) (receives : List receiving.ReceiveMove) (r : RingReceiver) : Type 0 where
  pub role : r.role ≡ other sender
  pub ring_is : r.half.ring ≡ ring
  pub taken : taken_by r ≡ frames_taken receives
  pub given : numbers_in (given_entries r) ≡ numbers_given receives
  pub looks : r.half.looks ≡ see_counts receives
  pub seen : SeenBetween 0 r.half.shown 0 receives

given-since : (old : List (ℕ × ℕ)) (role : Role) (ring : RingId) (es : List Entry) (ns : List ℕ) → old ≡ [] → returns_in es ≡ old ++ with_lengths role ring ns → numbers_in es ≡ ns
given-since old role ring es ns none is = sym (firsts-of es) ∙ (ap firsts (is ∙ ap (λ (l : List (ℕ × ℕ)). l ++ with_lengths role ring ns) none) ∙ firsts-with role ring ns)

pub received-since : (sender : Role) (ring : RingId) (receives : List receiving.ReceiveMove) (r : RingReceiver) → RingReceives (receiver_opened sender ring) receives r → Received sender ring receives r
received-since Driver ring receives r m = record {
  role = m.role;
  ring_is = m.ring;
  taken = m.taken;
  given = given-since [] Device ring (given_entries r) (numbers_given receives) refl m.given;
  looks = m.looks;
  seen = m.seen;
}
received-since Device ring receives r m = record {
  role = m.role;
  ring_is = m.ring;
  taken = m.taken;
  given = given-since (given_by (queue0_receiver ring)) Driver ring (given_entries r) (numbers_given receives) (ap returns_in (none-new ring)) m.given;
  looks = m.looks;
  seen = m.seen;
}

-- ---- the finished ring, whichever half sends

pub record Sides (sender : Role) (size : ℕ) (sending receiving : End) (closed : FinishedRing) : Type 0 where
  pub rest : List Entry
  pub rest_back : List Entry
  pub front : sending.written ≡ receiving.taken ++ rest
  pub back : receiving.written ≡ sending.taken ++ rest_back
  pub in_ring_is : in_ring sender closed ≡ numbers_in rest
  pub coming_back_is : coming_back sender closed ≡ numbers_in rest_back
  pub shown : receiving.shown ≤ length sending.written
  pub sender_has : length (with_sender sender closed) + length sending.written ≡ starts_with sender size + length sending.taken
  pub receiver_has : length (with_receiver sender closed) + length receiving.written ≡ starts_with (other sender) size + length receiving.taken
  pub back_looks : sender_looks sender closed ≡ length sending.looks % 2 ^ 64
  pub back_saw : sender_saw sender closed ≡ sum sending.looks % 2 ^ 64
  pub see_looks : receiver_looks sender closed ≡ length receiving.looks % 2 ^ 64
  pub see_saw : receiver_saw sender closed ≡ sum receiving.looks % 2 ^ 64

pub sides : (sender : Role) (ring : TableShown) (sending receiving : End) (closed : FinishedRing) → IsFinishedBetween sender ring sending receiving closed → Sides sender (size_of ring.ring) sending receiving closed
sides Driver ring sending receiving closed f = record {
  rest = f.offered_rest;
  rest_back = f.returned_rest;
  front = f.offered;
  back = f.returned;
  in_ring_is = f.offered_numbers;
  coming_back_is = f.returned_numbers;
  shown = f.device_shown;
  sender_has = f.driver_count;
  receiver_has = let c = f.device_count in omega (arith, c);
  back_looks = f.driver_looked;
  back_saw = f.driver_saw;
  see_looks = f.device_looked;
  see_saw = f.device_saw;
}
sides Device ring sending receiving closed f = record {
  rest = f.returned_rest;
  rest_back = f.offered_rest;
  front = f.returned;
  back = f.offered;
  in_ring_is = f.returned_numbers;
  coming_back_is = f.offered_numbers;
  shown = f.driver_shown;
  sender_has = let c = f.device_count in omega (arith, c);
  receiver_has = f.driver_count;
  back_looks = f.device_looked;
  back_saw = f.device_saw;
  see_looks = f.driver_looked;
  see_saw = f.driver_saw;
}

-- what the half that sends began with, and had taken when the lane was opened, are all buffers
starts-before : (sender : Role) (size : ℕ) → starts_with sender size + taken_before sender size ≡ size
starts-before Driver size = omega arith
starts-before Device size = omega arith

starts-other : (sender : Role) (size : ℕ) → starts_with (other sender) size ≡ taken_before sender size
starts-other Driver size = refl
starts-other Device size = refl

-- ---- the run

module _ (sender : Role) (ring : TableShown) (s : RingSender) (r : RingReceiver) (sends : List SendMove) (receives : List receiving.ReceiveMove) (closed : FinishedRing)
    (a : Sent sender ring.ring sends s) (b : Received sender ring.ring receives r) (is_sender : IsSender s) (is_receiver : IsReceiver r) (f : Sides sender (size_of ring.ring) s.half r.half closed) where
  one : AreOfOneRing s r
  one = record { ring = b.ring_is ∙ sym a.ring_is; role = b.role ∙ ap other (sym a.role) }

  before : taken_before s.role (sender_size s) ≡ taken_before sender (size_of ring.ring)
  before = λ i. taken_before (a.role i) (size_of (a.ring_is i))

  put-count : length s.half.written ≡ length (frames_sent sends)
  put-count = sym (length-map s.half.written frame_in) ∙ ap (λ (l : List (List ℕ)). length l) a.put

  taken-count : length r.half.taken ≡ length (frames_taken receives)
  taken-count = sym (length-map r.half.taken load_in) ∙ ap (λ (l : List (ℕ × List ℕ)). length l) b.taken

  given-number : length (given_entries r) ≡ length (numbers_given receives)
  given-number = sym (numbers-length (given_entries r)) ∙ ap (λ (l : List ℕ). length l) b.given

  backs-are : sum (back_counts sends) + taken_before sender (size_of ring.ring) ≡ length s.half.taken
  backs-are = let l = ap sum a.looks in let t = before in omega (arith, is_sender, l, t)

  pub given-all : given_entries r ≡ drop (taken_before s.role (sender_size s)) s.half.taken ++ f.rest_back
  given-all = given-is s r one is_sender (f.rest, f.front) (f.rest_back, f.back)

  given-split : length (numbers_given receives) ≡ sum (back_counts sends) + length f.rest_back
  given-split = let g = given-count s r one is_sender (f.rest, f.front) (f.rest_back, f.back) in let n = given-number in let k = backs-are in let t = before in omega (arith, g, n, k, t)

  written-split : length r.half.written ≡ length s.half.taken + length f.rest_back
  written-split = ap (λ (es : List Entry). length es) f.back ∙ length-append s.half.taken f.rest_back

  pub loads-are : loads_by s ≡ frames_taken receives ++ loads_in f.rest
  loads-are = ap loads_in f.front ∙ (map-append load_in r.half.taken f.rest ∙ ap (λ (l : List (ℕ × List ℕ)). l ++ loads_in f.rest) b.taken)

  frames-are : frames_of (loads_by s) ≡ frames_sent sends
  frames-are = frames-of s.half.written ∙ a.put

  in-ring-length : length (in_ring sender closed) ≡ length f.rest
  in-ring-length = ap (λ (l : List ℕ). length l) f.in_ring_is ∙ numbers-length f.rest

  coming-back-length : length (coming_back sender closed) ≡ length f.rest_back
  coming-back-length = ap (λ (l : List ℕ). length l) f.coming_back_is ∙ numbers-length f.rest_back

  front-length : length s.half.written ≡ length r.half.taken + length f.rest
  front-length = ap (λ (es : List Entry). length es) f.front ∙ length-append r.half.taken f.rest

  is-lane-run : IsLaneRun sender (size_of ring.ring) sends receives closed
  is-lane-run = record {
    puts = loads_by s;
    left = loads_in f.rest;
    back = back_to s;
    free = s.free;
    frames = frames-are;
    deals = subst (λ (ns : List ℕ). Deals (size_of ring.ring) (first_hand (size_of ring.ring)) sends (record { free = s.free; sent = ns; back = back_to s })) (sym (carriers-of s.half.written)) a.deals;
    taken = loads-are;
    taken_first = (
      frames_of (loads_in f.rest),
      sym frames-are ∙ (ap frames_of loads-are ∙ map-append (λ (l : ℕ × List ℕ). l.1) (frames_taken receives) (loads_in f.rest)),
    );
    sees = sees-at-most 0 r.half.shown (length (frames_sent sends)) 0 receives (let h = f.shown in let p = put-count in omega (arith, h, p)) b.seen;
    returned = sym b.given ∙ (ap numbers_in given-all ∙ (numbers-append (drop (taken_before s.role (sender_size s)) s.half.taken) f.rest_back ∙ ap (λ (l : List ℕ). back_to s ++ l) (sym f.coming_back_is)));
    backs = let g = given-split in omega (arith, g);
    left_numbers = carriers-of f.rest ∙ sym f.in_ring_is;
    ring_count = let i = in-ring-length in let l = front-length in let p = put-count in let t = taken-count in omega (arith, i, l, p, t);
    back_count = let c = coming-back-length in let g = given-split in omega (arith, c, g);
    sender_count = let h = f.sender_has in let p = put-count in let k = backs-are in let e = starts-before sender (size_of ring.ring) in omega (arith, h, p, k, e);
    receiver_count =
        let h = f.receiver_has in let w = written-split in let g = given-split in let k = backs-are in let t = taken-count in
        let e = starts-other sender (size_of ring.ring) in omega (arith, h, w, g, k, t, e);
    back_looks = f.back_looks ∙ ap (λ (l : List ℕ). length l % 2 ^ 64) a.looks;
    back_saw = f.back_saw ∙ ap (λ (l : List ℕ). sum l % 2 ^ 64) a.looks;
    see_looks = f.see_looks ∙ ap (λ (l : List ℕ). length l % 2 ^ 64) b.looks;
    see_saw = f.see_saw ∙ ap (λ (l : List ℕ). sum l % 2 ^ 64) b.looks;
  }

pub lane-run : (sender : Role) (ring : TableShown) (s : RingSender) (r : RingReceiver) (sends : List SendMove) (receives : List receiving.ReceiveMove) (closed : FinishedRing) → RingSends (sender_opened sender ring.ring) sends s → RingReceives (receiver_opened sender ring.ring) receives r
    → IsSender s → IsReceiver r → IsFinishedBetween sender ring s.half r.half closed → IsLaneRun sender (size_of ring.ring) sends receives closed
lane-run sender ring s r sends receives closed sent received is_sender is_receiver done =
    is-lane-run sender ring s r sends receives closed (sent-since sender ring.ring sends s sent) (received-since sender ring.ring receives r received) is_sender is_receiver (sides sender ring s.half r.half closed done)
