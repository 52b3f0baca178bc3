use Rattle.std.proofs.Common.{◌≡◌, ℕ, sym, subst}
use Rattle.lane_end.specs.PlainSender.{Sender}
use Rattle.lane_end.specs.PlainReceiver.{Receiver}
use Rattle.lane_end.specs.PlainLane.{new_sender, new_receiver, AreOneLane}
use Rattle.lane_end.proofs.SoundLemmas.{new-one-lane}
use Rattle.lane_end.proofs.plain.plain_lane.Goals as goal

one-lane : (s : Sender) (r : Receiver) (size : ℕ) → s ≡ new_sender size → r ≡ new_receiver size → AreOneLane s r
one-lane s r size send recv = subst (λ (x : Sender). AreOneLane x r) (sym send) (subst (λ (x : Receiver). AreOneLane (new_sender size) x) (sym recv) (new-one-lane size))

pub returns-clause-lane : goal.returns-clause-lane
returns-clause-lane c = one-lane c.in_ok-send.send c.in_ok-recv.recv c.args.size c.in_ok-send.ensures c.in_ok-recv.ensures
