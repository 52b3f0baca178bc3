-- The length with which a receiver over queue 1 returns its buffers.
-- Source: VIRTIO 1.2, section 2.7.8.2: a device that writes nothing into a buffer returns it with a length of 0.
use Rattle.std.specs.Prelude.{◌≡◌, List}
use Rattle.std.specs.List.{All}
use Rattle.shared_words.specs.Entry.{Entry}
use Rattle.shared_words.specs.Shown.{RingId}
use Rattle.lane_end.specs.ReceiveMoves.{ReceiveMove}
use Rattle.lane_end.specs.RingReceiver.{RingReceiver, RingReceives}
use Rattle.lane_end.specs.RingOpening.{queue1_receiver}

-- whatever moves it has made since the lane was opened, its half returned every buffer with a length of 0
abbrev pub Queue1ReturnsAreEmpty : Type 0
Queue1ReturnsAreEmpty =
    (ring : RingId) (moves : List ReceiveMove) (r : RingReceiver) → RingReceives (queue1_receiver ring) moves r
    → All (λ (e : Entry). e.1 ≡ 0) r.half.written
