use Rattle.std.proofs.Common.{◌≡◌, ◌∙◌, ℕ, [], ◌∷◌, ap, sym, subst}
use Rattle.std.specs.Prelude.{Contains}
use Rattle.lane_end.specs.Arrived.{Arrived, without_out}
use Rattle.lane_end.specs.Waiting.{Waiting, with_back}
use Rattle.lane_end.specs.Loop.{Loop}
use Rattle.lane_end.specs.ReceiveMoves.{Gave}
use Rattle.lane_end.specs.KeptLoop.{loop_with, IsSound}
use Rattle.lane_end.proofs.SoundLemmas.{loop-receives-sound, loop-apart, loop-room}
use Rattle.lane_end.proofs.loop_lane.LoopLaneRecvEnd.give_back.Goals as goal

sound : (w v : Waiting) (a b : Arrived) (buffer n : ℕ) → Contains a.out buffer → n ≡ buffer → b ≡ without_out a n → v ≡ with_back w (buffer ∷ []) → IsSound (loop_with w a) → IsSound (loop_with v b)
sound w v a b buffer n held number struck back was =
    let out = struck ∙ ap (without_out a) number in
    loop-receives-sound (loop_with w a) (loop_with v b) (Gave buffer) held (ap (λ (u : Waiting). loop_with u b) back ∙ ap (loop_with (with_back w (buffer ∷ []))) out) was

pub invariant_of-self : goal.invariant_of-self
invariant_of-self c =
    let held = subst (λ (l : Loop). Contains l.out c.args.buffer.number) (sym c.self.view_is) c.requires.out in
    record {
      size = ap (λ (a : Arrived). a.size) c.strike.ensures ∙ c.self.invariant.size ∙ sym (ap (λ (w : Waiting). w.size) c.add.ensures);
      sound = sound c.self.inside.waiting c.add.new.self c.self.inside.inbox c.strike.new.self c.args.buffer.number c.number.result held c.number.ensures c.strike.ensures c.add.ensures c.self.invariant.sound;
    }

pub returns-clause-apart : goal.returns-clause-apart
returns-clause-apart c =
    let held = subst (λ (l : Loop). Contains l.out c.args.buffer.number) (sym c.self.view_is) c.requires.out in
    loop-apart (loop_with c.add.new.self c.strike.new.self)
    (sound c.self.inside.waiting c.add.new.self c.self.inside.inbox c.strike.new.self c.args.buffer.number c.number.result held c.number.ensures c.strike.ensures c.add.ensures c.self.invariant.sound)

pub returns-clause-room : goal.returns-clause-room
returns-clause-room c =
    let held = subst (λ (l : Loop). Contains l.out c.args.buffer.number) (sym c.self.view_is) c.requires.out in
    loop-room (loop_with c.add.new.self c.strike.new.self)
    (sound c.self.inside.waiting c.add.new.self c.self.inside.inbox c.strike.new.self c.args.buffer.number c.number.result held c.number.ensures c.strike.ensures c.add.ensures c.self.invariant.sound)
