use Rattle.std.proofs.Common.{◌≡◌, ◌∙◌, ℕ, List, [], ◌∷◌, ◌++◌, ap, sym, subst, arith}
use Rattle.std.specs.Prelude.{Contains}
use Rattle.std.proofs.lemmas.List.{map-append}
use Rattle.mc_base.specs.Stored.{Stored}
use Rattle.lane_end.specs.Arrived.{Arrived, without_out}
use Rattle.lane_end.specs.Held.{numbers_of}
use Rattle.lane_end.specs.PlainReceiver.{Receiver}
use Rattle.lane_end.specs.ReceiveMoves.{Gave}
use Rattle.lane_end.specs.KeptReceiver.{receiver_with, IsSound}
use Rattle.lane_end.proofs.SoundLemmas.{receives-sound, receiver-apart, receiver-room}
use Rattle.lane_end.proofs.plain_recv.PlainRecvRecvEnd.give_back.Goals as goal

sound : (a b : Arrived) (old new : List Stored) (s : Stored) (n : ℕ) → Contains a.out s.number → n ≡ s.number → b ≡ without_out a n → new ≡ old ++ s ∷ [] → IsSound (receiver_with a (numbers_of old)) → IsSound (receiver_with b (numbers_of new))
sound a b old new s n held number struck more was =
    let out = struck ∙ ap (without_out a) number in
    let given = ap numbers_of more ∙ map-append (λ (t : Stored). t.number) old (s ∷ []) in
    receives-sound (receiver_with a (numbers_of old)) (receiver_with b (numbers_of new)) (Gave s.number) held
    (ap (λ (i : Arrived). receiver_with i (numbers_of new)) out ∙ ap (receiver_with (without_out a s.number)) given) was

pub invariant_of-self : goal.invariant_of-self
invariant_of-self c =
    let held = subst (λ (r : Receiver). Contains r.out c.args.buffer.number) (sym c.self.view_is) c.requires.out in
    let size = ap (λ (a : Arrived). a.size) c.strike.ensures in
    record {
      sound = sound c.self.inside.inbox c.strike.new.self c.self.inside.given.items c.push_back_reserved.new.self.items c.args.buffer c.number.result held c.number.ensures c.strike.ensures (c.push_back_reserved.ensures.items ∙ ap (λ (b : Stored). c.self.inside.given.items ++ b ∷ []) c.new.ensures) c.self.invariant.sound;
      room = omega (arith, size, c.push_back_reserved.ensures.capacity, c.self.invariant.room);
    }

pub returns-clause-apart : goal.returns-clause-apart
returns-clause-apart c =
    let held = subst (λ (r : Receiver). Contains r.out c.args.buffer.number) (sym c.self.view_is) c.requires.out in
    receiver-apart (receiver_with c.strike.new.self (numbers_of c.push_back_reserved.new.self.items))
    (sound c.self.inside.inbox c.strike.new.self c.self.inside.given.items c.push_back_reserved.new.self.items c.args.buffer c.number.result held c.number.ensures c.strike.ensures (c.push_back_reserved.ensures.items ∙ ap (λ (b : Stored). c.self.inside.given.items ++ b ∷ []) c.new.ensures) c.self.invariant.sound)

pub returns-clause-room : goal.returns-clause-room
returns-clause-room c =
    let held = subst (λ (r : Receiver). Contains r.out c.args.buffer.number) (sym c.self.view_is) c.requires.out in
    receiver-room (receiver_with c.strike.new.self (numbers_of c.push_back_reserved.new.self.items))
    (sound c.self.inside.inbox c.strike.new.self c.self.inside.given.items c.push_back_reserved.new.self.items c.args.buffer c.number.result held c.number.ensures c.strike.ensures (c.push_back_reserved.ensures.items ∙ ap (λ (b : Stored). c.self.inside.given.items ++ b ∷ []) c.new.ensures) c.self.invariant.sound)
