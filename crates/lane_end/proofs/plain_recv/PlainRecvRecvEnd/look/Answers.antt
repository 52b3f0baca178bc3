use Rattle.std.proofs.Common.{◌≡◌, ap, refl, arith, length}
use Rattle.lane_end.specs.Arrived.{Arrived}
use Rattle.lane_end.specs.Held.{numbers_of}
use Rattle.lane_end.specs.ReceiveMoves.{Looked}
use Rattle.lane_end.specs.KeptReceiver.{receiver_with, IsSound}
use Rattle.lane_end.proofs.SoundLemmas.{receives-sound, receiver-apart}
use Rattle.lane_end.proofs.plain_recv.PlainRecvRecvEnd.look.Goals as goal

sound : (a b : Arrived) (given : _) → b ≡ record a { shown = length a.came } → IsSound (receiver_with a given) → IsSound (receiver_with b given)
sound a b given is old = receives-sound (receiver_with a given) (receiver_with b given) (Looked (length a.came)) refl (ap (λ (i : Arrived). receiver_with i given) is) old

pub invariant_of-self : goal.invariant_of-self
invariant_of-self c = record {
  sound = sound c.self.inside.inbox c.look.new.self (numbers_of c.self.inside.given.items) c.look.ensures.all c.self.invariant.sound;
  room = let size = ap (λ (i : Arrived). i.size) c.look.ensures.all in omega (arith, size);
}

pub returns-clause-apart : goal.returns-clause-apart
returns-clause-apart c = receiver-apart (receiver_with c.look.new.self (numbers_of c.self.inside.given.items)) (sound c.self.inside.inbox c.look.new.self (numbers_of c.self.inside.given.items) c.look.ensures.all c.self.invariant.sound)
