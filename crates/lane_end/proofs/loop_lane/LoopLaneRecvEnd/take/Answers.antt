use Rattle.std.proofs.Common.{◌≡◌, ◌∙◌, ◌<◌, ℕ, List, ◌∷◌, ap, arith}
use Rattle.std.specs.Prelude.{slice_get}
use Rattle.lane_end.specs.Arrived.{Arrived, first_taken}
use Rattle.lane_end.specs.Waiting.{Waiting}
use Rattle.lane_end.specs.Held.{frame_of}
use Rattle.lane_end.specs.Loop.{Loop}
use Rattle.lane_end.specs.ReceiveMoves.{Took}
use Rattle.lane_end.specs.KeptLoop.{loop_with, IsSound}
use Rattle.lane_end.proofs.SoundLemmas.{loop-receives-sound, loop-apart}
use Rattle.lane_end.proofs.loop_lane.LoopLaneRecvEnd.take.Goals as goal

sound : (w : Waiting) (a b : Arrived) (f : ℕ × List ℕ) → 0 < a.shown → a.came ≡ f ∷ b.came → b ≡ first_taken a f.0 → IsSound (loop_with w a) → IsSound (loop_with w b)
sound w a b f shown first rest old =
    loop-receives-sound (loop_with w a) (loop_with w b) (Took f.0 f.1) (shown, ap (λ (fs : List (ℕ × List ℕ)). slice_get fs 0) first) (ap (loop_with w) rest) old

pub invariant_of-self : goal.invariant_of-self
invariant_of-self c =
    let shown = ap (λ (l : Loop). l.shown) c.self.view_is in
    record {
      size = ap (λ (a : Arrived). a.size) c.take-carried.ensures.rest ∙ c.self.invariant.size;
      sound = sound c.self.inside.waiting c.self.inside.inbox c.take-carried.new.self (frame_of c.take-carried.result) (omega (arith, shown, c.requires.shown)) c.take-carried.ensures.first c.take-carried.ensures.rest c.self.invariant.sound;
    }

pub returns-clause-apart : goal.returns-clause-apart
returns-clause-apart c =
    let shown = ap (λ (l : Loop). l.shown) c.self.view_is in
    loop-apart (loop_with c.self.inside.waiting c.take-carried.new.self)
    (sound c.self.inside.waiting c.self.inside.inbox c.take-carried.new.self (frame_of c.take-carried.result) (omega (arith, shown, c.requires.shown)) c.take-carried.ensures.first c.take-carried.ensures.rest c.self.invariant.sound)
