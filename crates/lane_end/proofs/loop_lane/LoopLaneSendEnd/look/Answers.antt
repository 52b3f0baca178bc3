use Rattle.std.proofs.Common.{◌∙◌, ap, sym, refl, length}
use Rattle.lane_end.specs.Waiting.{Waiting}
use Rattle.lane_end.specs.SendMoves.{Looked}
use Rattle.lane_end.specs.KeptLoop.{loop_with}
use Rattle.lane_end.proofs.SoundLemmas.{loop-sends-sound}
use Rattle.lane_end.proofs.loop_lane.LoopLaneSendEnd.look.Goals as goal

pub invariant_of-self : goal.invariant_of-self
invariant_of-self c = let inbox = c.self.inside.inbox in record {
  size = c.self.invariant.size ∙ sym (ap (λ (w : Waiting). w.size) c.look.ensures.all);
  sound = loop-sends-sound (loop_with c.self.inside.waiting inbox) (loop_with c.look.new.self inbox) (Looked (length c.self.inside.waiting.back)) refl (ap (λ (w : Waiting). loop_with w inbox) c.look.ensures.all) c.self.invariant.sound;
}
