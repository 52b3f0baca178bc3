-- The image with which the finished ring of a lane is left, and when its buffers came back.
-- Source: VIRTIO 1.2, section 2.7; docs/PROFILE.md, "Lanes"; docs/FORMATS.md, "Ring lines".
use Rattle.std.specs.Prelude.{◌≡◌, ℕ, List, []}
use Rattle.mc_base.specs.Limits.{buffer_size}
use Rattle.shared_words.specs.Shown.{TableShown}
use Rattle.shared_words.specs.declared.view.Role.{Role}
use Rattle.shared_words.specs.declared.view.Role.TheVariants.{Driver, Device}
use Rattle.split_ring.specs.Finished.{FinishedRing}
use Rattle.lane_end.specs.SendMoves.{SendMove}
use Rattle.lane_end.specs.ReceiveMoves.{ReceiveMove}
use Rattle.lane_end.specs.LaneRun.{HaveRun}
use Rattle.lane_end.specs.Halves.{AreFinished}
use Rattle.lane_end.specs.declared.finishing.SendHalf.{SendHalf}
use Rattle.lane_end.specs.declared.finishing.RecvHalf.{RecvHalf}
use Rattle.ring_trace.specs.WordImage.{word_image}
use Rattle.ring_numbers.specs.InTime.{ComeBackLater}
use Rattle.ring_numbers.specs.RingLists.{image_left}
use Rattle.lane_images.specs.GivesAt.{GivesAt}
use Rattle.lane_images.specs.Sendings.{sendings, numbers_after}

-- the ends of a lane over this ring made these moves, and from the halves that they left the ring was finished
pub record WasRun (sender : Role) (ring : TableShown) (sends : List SendMove) (receives : List ReceiveMove) (closed : FinishedRing) : Type 0 where
  pub send : SendHalf
  pub recv : RecvHalf
  pub ran : HaveRun sender ring sends receives send recv
  pub finished : AreFinished ring send recv closed

-- in queue 1 the driver sends, and in queue 0 the device
abbrev pub queue_of : Role → ℕ
queue_of Driver = 1
queue_of Device = 0

-- the image of the ring is that which the numbers of the buffers come to
abbrev pub HasImage : List SendMove → FinishedRing → List ℕ → Type 0
HasImage sends closed places = word_image closed.size closed.words ≡ image_left closed.size closed.queue (numbers_after closed.size places sends).used places

-- the buffers come back after the frames were put
abbrev pub AreLater : List SendMove → List ℕ → Type 0
AreLater sends places = ComeBackLater places 0 (sendings sends)

abbrev pub ImagesAreLeft : Type 0
ImagesAreLeft =
    (sender : Role) (ring : TableShown) (sends : List SendMove) (receives : List ReceiveMove) (closed : FinishedRing) (places : List ℕ)
    → WasRun sender ring sends receives closed → closed.queue ≡ queue_of sender → closed.width ≡ buffer_size → GivesAt [] places receives → HasImage sends closed places

abbrev pub BacksAreLater : Type 0
BacksAreLater =
    (sender : Role) (ring : TableShown) (sends : List SendMove) (receives : List ReceiveMove) (closed : FinishedRing) (places : List ℕ)
    → WasRun sender ring sends receives closed → GivesAt [] places receives → AreLater sends places
