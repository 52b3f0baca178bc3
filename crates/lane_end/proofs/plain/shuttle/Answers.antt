use Rattle.std.proofs.Common.{◌≡◌, ◌∙◌, ◌≤◌, ℕ, List, [], ap, sym, subst, arith, length}
use Rattle.std.proofs.lemmas.List.{length-append, length-map}
use Rattle.lane_end.specs.Arrived.{Arrived, with_frames}
use Rattle.lane_end.specs.Waiting.{Waiting, with_back}
use Rattle.lane_end.specs.Held.{frames_of, frame_of, numbers_of}
use Rattle.mc_base.specs.Stored.{Stored}
use Rattle.lane_end.specs.declared.carried.Carried.{Carried}
use Rattle.lane_end.specs.PlainSender.{Sender}
use Rattle.lane_end.specs.PlainReceiver.{Receiver}
use Rattle.lane_end.specs.PlainLane.{AreOneLane, shuttled_sender, shuttled_receiver}
use Rattle.lane_end.specs.KeptSender.{sender_with, sender_of}
use Rattle.lane_end.specs.KeptReceiver.{receiver_with, receiver_of, IsSound}
use Rattle.lane_end.proofs.LaneLemmas.{shuttled-one-lane}
use Rattle.lane_end.proofs.SoundLemmas.{lane-fits, lane-sound}
use Rattle.lane_end.proofs.plain.shuttle.Goals as goal

seen : (s t : Sender) (r u : Receiver) → s ≡ t → r ≡ u → AreOneLane t u → AreOneLane s r
seen s t r u send recv lane = subst (λ (x : Sender). AreOneLane x r) (sym send) (subst (λ (x : Receiver). AreOneLane t x) (sym recv) lane)

module _ (w v : Waiting) (put left : List (ℕ × List ℕ)) (a b : Arrived) (given rest : List ℕ) (back : v ≡ with_back w given) (none : left ≡ []) (came : b ≡ with_frames a put) (empty : rest ≡ []) where
  sender-is : sender_with v left ≡ shuttled_sender (sender_with w put) (receiver_with a given)
  sender-is = ap (λ (u : Waiting). sender_with u left) back ∙ ap (sender_with (with_back w given)) none

  receiver-is : receiver_with b rest ≡ shuttled_receiver (sender_with w put) (receiver_with a given)
  receiver-is = ap (λ (i : Arrived). receiver_with i rest) came ∙ ap (receiver_with (with_frames a put)) empty

  stays : AreOneLane (sender_with w put) (receiver_with a given) → AreOneLane (sender_with v left) (receiver_with b rest)
  stays lane = seen _ _ _ _ sender-is receiver-is (shuttled-one-lane (sender_with w put) (receiver_with a given) lane)

  sound : AreOneLane (sender_with w put) (receiver_with a given) → a.shown ≤ length a.came → IsSound (receiver_with b rest)
  sound lane shown =
      let more = length-append a.came put in
      let old = shuttled-one-lane (sender_with w put) (receiver_with a given) lane in
      subst IsSound (sym receiver-is) (lane-sound (shuttled_sender (sender_with w put) (receiver_with a given)) (shuttled_receiver (sender_with w put) (receiver_with a given)) old (omega (arith, more, shown)))

pub add_all-requires : goal.add_all-requires
add_all-requires c =
    let lane = seen (sender_of c.from.inside) _ (receiver_of c.to.inside) _ c.from.view_is c.to.view_is c.requires.lane in
    let fits = lane-fits (sender_of c.from.inside) (receiver_of c.to.inside) lane in
    let put = length-map c.from.inside.put.items frame_of in
    omega (arith, fits, lane.size, put, c.from.inside.put.ok)

pub add_all-requires-2 : goal.add_all-requires-2
add_all-requires-2 c =
    let lane = seen (sender_of c.from.inside) _ (receiver_of c.to.inside) _ c.from.view_is c.to.view_is c.requires.lane in
    let fits = lane-fits (sender_of c.from.inside) (receiver_of c.to.inside) lane in
    let given = length-map c.to.inside.given.items (λ (b : Stored). b.number) in
    omega (arith, fits, given, c.to.inside.given.ok)

pub invariant_of-from : goal.invariant_of-from
invariant_of-from c =
    let lane = seen (sender_of c.from.inside) _ (receiver_of c.to.inside) _ c.from.view_is c.to.view_is c.requires.lane in
    let fits = lane-fits (sender_of c.from.inside) (receiver_of c.to.inside) lane in
    let free = ap (λ (w : Waiting). length w.free) c.add_all-2.ensures.added in
    let back = ap (λ (w : Waiting). length w.back) c.add_all-2.ensures.added ∙ length-append c.from.inside.waiting.back (numbers_of c.to.inside.given.items) in
    let size = ap (λ (w : Waiting). w.size) c.add_all-2.ensures.added in
    let none = ap (λ (cs : List Carried). length cs) c.add_all.ensures.left in
    record {
      fits = omega (arith, fits, free, back, size, none, c.add_all.new.frames.ok);
      room = omega (arith, size, c.add_all.ensures.room, c.from.invariant.room);
    }

pub invariant_of-to : goal.invariant_of-to
invariant_of-to c =
    let lane = seen (sender_of c.from.inside) _ (receiver_of c.to.inside) _ c.from.view_is c.to.view_is c.requires.lane in
    let size = ap (λ (a : Arrived). a.size) c.add_all.ensures.added in
    record {
      sound = sound c.from.inside.waiting c.add_all-2.new.self (frames_of c.from.inside.put.items) (frames_of c.add_all.new.frames.items) c.to.inside.inbox c.add_all.new.self
          (numbers_of c.to.inside.given.items) (numbers_of c.add_all-2.new.buffers.items) c.add_all-2.ensures.added (ap frames_of c.add_all.ensures.left) c.add_all.ensures.added (ap numbers_of c.add_all-2.ensures.left)
          lane c.to.invariant.sound.shown;
      room = omega (arith, size, c.add_all-2.ensures.room, c.to.invariant.room);
    }

pub returns-clause-lane : goal.returns-clause-lane
returns-clause-lane c =
    let lane = seen (sender_of c.from.inside) _ (receiver_of c.to.inside) _ c.from.view_is c.to.view_is c.requires.lane in
    stays c.from.inside.waiting c.add_all-2.new.self (frames_of c.from.inside.put.items) (frames_of c.add_all.new.frames.items) c.to.inside.inbox c.add_all.new.self
    (numbers_of c.to.inside.given.items) (numbers_of c.add_all-2.new.buffers.items) c.add_all-2.ensures.added (ap frames_of c.add_all.ensures.left) c.add_all.ensures.added (ap numbers_of c.add_all-2.ensures.left)
    lane
