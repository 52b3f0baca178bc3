use Rattle.std.proofs.Common.{◌≡◌, ◌∙◌, ◌<◌, ℕ, List, [], ◌∷◌, ap, sym, arith, length}
use Rattle.std.specs.Prelude.{slice_index}
use Rattle.lane_end.specs.Arrived.{Arrived, with_frames}
use Rattle.lane_end.specs.Waiting.{Waiting, first_used}
use Rattle.lane_end.specs.Held.{frame_of}
use Rattle.lane_end.specs.Loop.{Loop}
use Rattle.lane_end.specs.SendMoves.{Sent}
use Rattle.lane_end.specs.KeptLoop.{loop_with, IsSound}
use Rattle.lane_end.proofs.SoundLemmas.{loop-sends-sound}
use Rattle.lane_end.proofs.loop_lane.LoopLaneSendEnd.put.Goals as goal

sound : (w v : Waiting) (a b : Arrived) (n : ℕ) (frame : List ℕ) (f : ℕ × List ℕ) → 0 < length w.free → w.free ≡ n ∷ v.free → v ≡ first_used w → f ≡ (n, frame) → b ≡ with_frames a (f ∷ []) → IsSound (loop_with w a) → IsSound (loop_with v b)
sound w v a b n frame f free first rest carried more was =
    let number = ap (λ (ns : List ℕ). slice_index ns 0) first in
    let frames = more ∙ ap (λ (g : ℕ × List ℕ). with_frames a (g ∷ [])) (carried ∙ ap (λ (m : ℕ). (m, frame)) (sym number)) in
    loop-sends-sound (loop_with w a) (loop_with v b) (Sent frame) free
    (ap (λ (u : Waiting). loop_with u b) rest ∙ ap (loop_with (first_used w)) frames) was

pub invariant_of-self : goal.invariant_of-self
invariant_of-self c =
    let free = ap (λ (l : Loop). length l.free) c.self.view_is in
    record {
      size = ap (λ (a : Arrived). a.size) c.add.ensures ∙ c.self.invariant.size ∙ sym (ap (λ (w : Waiting). w.size) c.use_first-buffer.ensures.rest);
      sound = sound c.self.inside.waiting c.use_first-buffer.new.self c.self.inside.inbox c.add.new.self c.use_first-buffer.result.number c.args.frame.now (frame_of c.load.result) (omega (arith, free, c.requires.free))
          c.use_first-buffer.ensures.first c.use_first-buffer.ensures.rest c.load.ensures c.add.ensures c.self.invariant.sound;
    }
