-- The numbers of the buffers that ends hold, from move to move.
use Rattle.std.proofs.Common.{◌≡◌, ℕ, ◌+◌, ◌<◌, List, [], ◌∷◌, ◌++◌, length, drop, refl, ap, sym, ◌∙◌, arith}
use Rattle.std.specs.Prelude.{slice_index, slice_get, Some}
use Rattle.lane_end.specs.Numbers.{often, inside}
use Rattle.lane_end.specs.ReceiverContract.{without}
use Rattle.lane_end.specs.MoveLaws.{Lead-keeps}
use Rattle.lane_end.specs.SendMoves.{SendMove, Looked, Sent}
use Rattle.lane_end.specs.ReceiveMoves as receiving
use Rattle.lane_end.specs.PlainSender.{Sender, MaySend, sender_after, Sends}
use Rattle.lane_end.specs.PlainReceiver.{Receiver, MayReceive, receiver_after, Receives}
use Rattle.lane_end.specs.PlainLane.{carriers, sender_numbers, receiver_numbers, AreOneLane}
use Rattle.lane_end.specs.PlainLaws.{Sends-size, Receives-size}
use Rattle.lane_end.proofs.CountLemmas.{tick, often-append, often-contained, often-without}
pub use Rattle.lane_end.specs.ShuttleLaws.{often-three, carriers-append, shuttled-one-lane}

first-leaves : (x : ℕ) (xs : List ℕ) → 0 < length xs → often x xs ≡ often x (drop 1 xs) + tick (slice_index xs 0) x
first-leaves x [] l = absurd (omega arith)
first-leaves x (n ∷ xs) l = omega arith

-- a move keeps the numbers that a sender holds
pub sender-holds : (x : ℕ) (s : Sender) (m : SendMove) → MaySend s m → often x (sender_numbers (sender_after s m)) ≡ often x (sender_numbers s)
sender-holds x s (Looked n) may =
    let old = often-three x s.free (carriers s.put) s.back in
    let new = often-three x (s.free ++ s.back) (carriers s.put) [] in
    let free = often-append x s.free s.back in
    omega (arith, old, new, free)
sender-holds x s (Sent frame) may =
    let old = often-three x s.free (carriers s.put) s.back in
    let new = often-three x (drop 1 s.free) (carriers (s.put ++ (slice_index s.free 0, frame) ∷ [])) s.back in
    let put = ap (often x) (carriers-append s.put ((slice_index s.free 0, frame) ∷ [])) ∙ often-append x (carriers s.put) (slice_index s.free 0 ∷ []) in
    let first = first-leaves x s.free may in
    omega (arith, old, new, put, first)

first-came : (x n : ℕ) (frame : List ℕ) (came : List (ℕ × List ℕ)) → slice_get came 0 ≡ Some (n, frame) → often x (carriers came) ≡ often x (carriers (drop 1 came)) + tick n x
first-came x n frame [] e = cc
first-came x n frame (f ∷ came) e = let is : f ≡ (n, frame) = cc in let number = ap (λ (g : ℕ × List ℕ). tick g.0 x) is in omega (arith, number)

-- a move keeps the numbers that a receiver holds
pub receiver-holds : (x : ℕ) (r : Receiver) (m : receiving.ReceiveMove) → MayReceive r m → often x (receiver_numbers (receiver_after r m)) ≡ often x (receiver_numbers r)
receiver-holds x r (receiving.Looked n) may = refl
receiver-holds x r (receiving.Took n frame) may =
    let old = often-three x (carriers r.came) r.out r.given in
    let new = often-three x (carriers (drop 1 r.came)) (r.out ++ n ∷ []) r.given in
    let out = often-append x r.out (n ∷ []) in
    let first = first-came x n frame r.came may.1 in
    omega (arith, old, new, out, first)
receiver-holds x r (receiving.Gave n) may =
    let old = often-three x (carriers r.came) r.out r.given in
    let new = often-three x (carriers r.came) (without n r.out) (r.given ++ n ∷ []) in
    let given = often-append x r.given (n ∷ []) in
    let left = often-without x n r.out (often-contained r.out n may) in
    omega (arith, old, new, given, left)

-- so do moves
pub sends-hold : (x : ℕ) (a b : Sender) (xs : List SendMove) → Sends a xs b → often x (sender_numbers b) ≡ often x (sender_numbers a)
sends-hold x a b xs moved = Lead-keeps MaySend sender_after (λ s. often x (sender_numbers s)) (sender-holds x) a b xs moved

pub receives-hold : (x : ℕ) (a b : Receiver) (xs : List receiving.ReceiveMove) → Receives a xs b → often x (receiver_numbers b) ≡ often x (receiver_numbers a)
receives-hold x a b xs moved = Lead-keeps MayReceive receiver_after (λ r. often x (receiver_numbers r)) (receiver-holds x) a b xs moved

pub stay-one-lane : (a b : Sender) (c d : Receiver) (xs : List SendMove) (ys : List receiving.ReceiveMove) → AreOneLane a c → Sends a xs b → Receives c ys d → AreOneLane b d
stay-one-lane a b c d xs ys lane sent received = record {
  size = Receives-size c d ys received ∙ lane.size ∙ sym (Sends-size a b xs sent);
  once = λ x.
      let old = often-append x (sender_numbers a) (receiver_numbers c) in
      let new = often-append x (sender_numbers b) (receiver_numbers d) in
      let send = sends-hold x a b xs sent in
      let receive = receives-hold x c d ys received in
      let is = lane.once x in
      let size = ap (λ (n : ℕ). inside n x) (Sends-size a b xs sent) in
      omega (arith, old, new, send, receive, is, size);
}
