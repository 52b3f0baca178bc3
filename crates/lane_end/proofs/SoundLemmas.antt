-- A move keeps an end sound.
use Rattle.std.proofs.Common.{◌≡◌, ℕ, ◌+◌, ◌-◌, ◌≤◌, List, [], ◌∷◌, ◌++◌, length, drop, refl, ap, sym, subst, arith}
use Rattle.std.specs.Prelude.{slice_index}
use Rattle.std.proofs.lemmas.List.{length-append, length-map}
use Rattle.lane_end.specs.Numbers.{often, inside, AreApart, all_numbers}
use Rattle.lane_end.specs.SendMoves.{SendMove, Looked, Sent}
use Rattle.lane_end.specs.ReceiveMoves as receiving
use Rattle.lane_end.specs.PlainSender.{Sender}
use Rattle.lane_end.specs.PlainReceiver.{Receiver, MayReceive, receiver_after}
use Rattle.lane_end.specs.PlainLane.{carriers, sender_numbers, receiver_numbers, AreOneLane, new_sender, new_receiver}
use Rattle.lane_end.specs.Loop.{Loop, sending_side, receiving_side, MayLoopSend, loop_after_send, MayLoopReceive, loop_after_receive, loop_numbers, new_loop}
use Rattle.lane_end.specs.KeptReceiver.{IsSound}
use Rattle.lane_end.specs.KeptLoop as loop
use Rattle.lane_end.proofs.CountLemmas.{often-append, often-all, length-apart, apart-part}
use Rattle.lane_end.proofs.LaneLemmas.{often-three, sender-holds, receiver-holds}

length-carriers : (frames : List (ℕ × List ℕ)) → length (carriers frames) ≡ length frames
length-carriers frames = length-map frames (λ (f : ℕ × List ℕ). f.0)

length-three : (a b c : List ℕ) → length (a ++ (b ++ c)) ≡ length a + length b + length c
length-three a b c = let one = length-append a (b ++ c) in let two = length-append b c in omega (arith, one, two)

receiver-fits : (r : Receiver) → AreApart r.size (receiver_numbers r) → length r.came + length r.out + length r.given ≤ r.size
receiver-fits r apart =
    let most = length-apart r.size (receiver_numbers r) apart in
    let parts = length-three (carriers r.came) r.out r.given in
    let came = length-carriers r.came in
    omega (arith, most, parts, came)

-- no more is shown than came, after a move too
shown-after : (r : Receiver) (m : receiving.ReceiveMove) → MayReceive r m → r.shown ≤ length r.came → (receiver_after r m).shown ≤ length (receiver_after r m).came
shown-after r (receiving.Looked n) may shown = omega (arith, may)
shown-after r (receiving.Took n frame) may shown = elim r.came as (λ came. r.shown ≤ length came → r.shown - 1 ≤ length (drop 1 came)) [
  | [] ↦ λ le. omega arith
  | f ∷ came ↦ λ le. omega arith
] shown
shown-after r (receiving.Gave n) may shown = shown

size-after : (r : Receiver) (m : receiving.ReceiveMove) → (receiver_after r m).size ≡ r.size
size-after r (receiving.Looked n) = refl
size-after r (receiving.Took n frame) = refl
size-after r (receiving.Gave n) = refl

apart-after : (r : Receiver) (m : receiving.ReceiveMove) → MayReceive r m → AreApart r.size (receiver_numbers r) → AreApart (receiver_after r m).size (receiver_numbers (receiver_after r m))
apart-after r m may apart x =
    let same = receiver-holds x r m may in
    let size = ap (λ (n : ℕ). inside n x) (size-after r m) in
    let was = apart x in
    omega (arith, same, size, was)

sound-after : (r : Receiver) (m : receiving.ReceiveMove) → MayReceive r m → IsSound r → IsSound (receiver_after r m)
sound-after r m may sound = let apart = apart-after r m may sound.apart in record {
  shown = shown-after r m may sound.shown;
  fits = receiver-fits (receiver_after r m) apart;
  apart = apart;
}

pub receives-sound : (old new : Receiver) (m : receiving.ReceiveMove) → MayReceive old m → new ≡ receiver_after old m → IsSound old → IsSound new
receives-sound old new m may is sound = subst IsSound (sym is) (sound-after old m may sound)

pub receiver-apart : (r : Receiver) → IsSound r → AreApart r.size r.out
receiver-apart r sound = apart-part r.size r.out (receiver_numbers r) (λ x. let h = often-three x (carriers r.came) r.out r.given in omega (arith, h)) sound.apart

pub receiver-room : (r : Receiver) → IsSound r → length r.out + r.shown ≤ r.size
receiver-room r sound = omega (arith, sound.fits, sound.shown)

loop-fits : (l : Loop) → AreApart l.size (loop_numbers l) → length l.free + length l.back + length l.frames + length l.out ≤ l.size
loop-fits l apart =
    let most = length-apart l.size (loop_numbers l) apart in
    let whole = length-append l.free (carriers l.frames ++ (l.out ++ l.back)) in
    let parts = length-three (carriers l.frames) l.out l.back in
    let frames = length-carriers l.frames in
    omega (arith, most, whole, parts, frames)

loop-sound : (l : Loop) → l.shown ≤ length l.frames → AreApart l.size (loop_numbers l) → loop.IsSound l
loop-sound l shown apart = record { shown = shown; fits = loop-fits l apart; apart = apart }

-- how often a number is on either side
loop-by-receiver : (x : ℕ) (l : Loop) → often x (loop_numbers l) ≡ often x l.free + often x (receiver_numbers (receiving_side l))
loop-by-receiver x l = often-append x l.free (receiver_numbers (receiving_side l))

loop-by-sender : (x : ℕ) (l : Loop) → often x (loop_numbers l) ≡ often x l.out + often x (sender_numbers (sending_side l))
loop-by-sender x l =
    let whole = often-append x l.free (carriers l.frames ++ (l.out ++ l.back)) in
    let rest = often-three x (carriers l.frames) l.out l.back in
    let side = often-three x l.free (carriers l.frames) l.back in
    omega (arith, whole, rest, side)

loop-sent-shown : (l : Loop) (m : SendMove) → l.shown ≤ length l.frames → (loop_after_send l m).shown ≤ length (loop_after_send l m).frames
loop-sent-shown l (Looked n) shown = shown
loop-sent-shown l (Sent frame) shown = let more = length-append l.frames ((slice_index l.free 0, frame) ∷ []) in omega (arith, more)

pub loop-sends-sound : (old new : Loop) (m : SendMove) → MayLoopSend old m → new ≡ loop_after_send old m → loop.IsSound old → loop.IsSound new
loop-sends-sound old new m may is sound =
    let after = loop_after_send old m in
    let apart : AreApart after.size (loop_numbers after) = λ x.
    let was = loop-by-sender x old in
    let now = loop-by-sender x after in
    let same = sender-holds x (sending_side old) m may in
    let bound = sound.apart x in
    omega (arith, was, now, same, bound) in
    subst loop.IsSound (sym is) (loop-sound after (loop-sent-shown old m sound.shown) apart)

pub loop-receives-sound : (old new : Loop) (m : receiving.ReceiveMove) → MayLoopReceive old m → new ≡ loop_after_receive old m → loop.IsSound old → loop.IsSound new
loop-receives-sound old new m may is sound =
    let after = loop_after_receive old m in
    let apart : AreApart after.size (loop_numbers after) = λ x.
    let was = loop-by-receiver x old in
    let now = loop-by-receiver x after in
    let same = receiver-holds x (receiving_side old) m may in
    let bound = sound.apart x in
    omega (arith, was, now, same, bound) in
    subst loop.IsSound (sym is) (loop-sound after (shown-after (receiving_side old) m may sound.shown) apart)

pub loop-apart : (l : Loop) → loop.IsSound l → AreApart l.size l.out
loop-apart l sound = apart-part l.size l.out (loop_numbers l) (λ x. let h = loop-by-sender x l in omega (arith, h)) sound.apart

pub loop-room : (l : Loop) → loop.IsSound l → length l.out + l.shown ≤ l.size
loop-room l sound = omega (arith, sound.fits, sound.shown)

-- where all buffers are free
pub new-one-lane : (size : ℕ) → AreOneLane (new_sender size) (new_receiver size)
new-one-lane size = record {
  size = refl;
  once = λ x.
      let all = often-append x (sender_numbers (new_sender size)) [] in
      let free = often-append x (all_numbers size) [] in
      let each = often-all size x in
      omega (arith, all, free, each);
}

pub new-loop-sound : (size : ℕ) → loop.IsSound (new_loop size)
new-loop-sound size = loop-sound (new_loop size) (omega arith) (λ x. let free = often-append x (all_numbers size) [] in let each = often-all size x in omega (arith, free, each))

-- the buffers of one lane fit into it
pub lane-fits : (from : Sender) (to : Receiver) → AreOneLane from to → length from.free + length from.put + length from.back + (length to.came + length to.out + length to.given) ≤ from.size
lane-fits from to lane =
    let apart : AreApart from.size (sender_numbers from ++ receiver_numbers to) = λ x. let h = lane.once x in omega (arith, h) in
    let most = length-apart from.size (sender_numbers from ++ receiver_numbers to) apart in
    let whole = length-append (sender_numbers from) (receiver_numbers to) in
    let send = length-three from.free (carriers from.put) from.back in
    let put = length-carriers from.put in
    let receive = length-three (carriers to.came) to.out to.given in
    let came = length-carriers to.came in
    omega (arith, most, whole, send, put, receive, came)

-- a receiver of a lane is sound where it shows no more than came
pub lane-sound : (from : Sender) (to : Receiver) → AreOneLane from to → to.shown ≤ length to.came → IsSound to
lane-sound from to lane shown =
    let apart : AreApart to.size (receiver_numbers to) = λ x.
    let whole = often-append x (sender_numbers from) (receiver_numbers to) in
    let each = lane.once x in
    let size = ap (λ (n : ℕ). inside n x) lane.size in
    omega (arith, whole, each, size) in
    record { shown = shown; fits = receiver-fits to apart; apart = apart }
