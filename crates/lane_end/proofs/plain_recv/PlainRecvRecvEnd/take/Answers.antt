use Rattle.std.proofs.Common.{◌≡◌, ◌<◌, ℕ, List, ◌∷◌, ap, arith}
use Rattle.std.specs.Prelude.{slice_get}
use Rattle.lane_end.specs.Arrived.{Arrived, first_taken}
use Rattle.lane_end.specs.Held.{numbers_of, frame_of}
use Rattle.lane_end.specs.PlainReceiver.{Receiver}
use Rattle.lane_end.specs.ReceiveMoves.{Took}
use Rattle.lane_end.specs.KeptReceiver.{receiver_with, IsSound}
use Rattle.lane_end.proofs.SoundLemmas.{receives-sound, receiver-apart}
use Rattle.lane_end.proofs.plain_recv.PlainRecvRecvEnd.take.Goals as goal

sound : (a b : Arrived) (given : List ℕ) (f : ℕ × List ℕ) → 0 < a.shown → a.came ≡ f ∷ b.came → b ≡ first_taken a f.0 → IsSound (receiver_with a given) → IsSound (receiver_with b given)
sound a b given f shown first rest old =
    receives-sound (receiver_with a given) (receiver_with b given) (Took f.0 f.1) (shown, ap (λ (fs : List (ℕ × List ℕ)). slice_get fs 0) first) (ap (λ (i : Arrived). receiver_with i given) rest) old

pub invariant_of-self : goal.invariant_of-self
invariant_of-self c =
    let shown = ap (λ (r : Receiver). r.shown) c.self.view_is in
    let size = ap (λ (a : Arrived). a.size) c.take-carried.ensures.rest in
    record {
      sound = sound c.self.inside.inbox c.take-carried.new.self (numbers_of c.self.inside.given.items) (frame_of c.take-carried.result) (omega (arith, shown, c.requires.shown)) c.take-carried.ensures.first c.take-carried.ensures.rest c.self.invariant.sound;
      room = omega (arith, size, c.self.invariant.room);
    }

pub returns-clause-apart : goal.returns-clause-apart
returns-clause-apart c =
    let given = numbers_of c.self.inside.given.items in
    let shown = ap (λ (r : Receiver). r.shown) c.self.view_is in
    receiver-apart (receiver_with c.take-carried.new.self given) (sound c.self.inside.inbox c.take-carried.new.self given (frame_of c.take-carried.result) (omega (arith, shown, c.requires.shown)) c.take-carried.ensures.first c.take-carried.ensures.rest c.self.invariant.sound)
