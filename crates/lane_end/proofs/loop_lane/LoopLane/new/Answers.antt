use Rattle.std.proofs.Common.{◌≡◌, ◌∙◌, ℕ, ap, sym, subst}
use Rattle.lane_end.specs.Arrived.{Arrived, none_arrived}
use Rattle.lane_end.specs.Waiting.{Waiting, all_free}
use Rattle.lane_end.specs.KeptLoop.{loop_with, IsSound}
use Rattle.lane_end.proofs.SoundLemmas.{new-loop-sound}
use Rattle.lane_end.proofs.loop_lane.LoopLane.new.Goals as goal

sound : (w : Waiting) (a : Arrived) (size : ℕ) → w ≡ all_free size → a ≡ none_arrived size → IsSound (loop_with w a)
sound w a size free none = subst IsSound (sym (ap (λ (v : Waiting). loop_with v a) free ∙ ap (loop_with (all_free size)) none)) (new-loop-sound size)

pub invariant_of-result : goal.invariant_of-result
invariant_of-result c = record {
  size = ap (λ (a : Arrived). a.size) c.in_ok-inbox.ensures ∙ sym (ap (λ (w : Waiting). w.size) c.in_ok-waiting.ensures);
  sound = sound c.in_ok-waiting.waiting c.in_ok-inbox.inbox c.args.size c.in_ok-waiting.ensures c.in_ok-inbox.ensures;
}
