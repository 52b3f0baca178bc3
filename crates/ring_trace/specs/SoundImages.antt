-- The image of a finished ring has no fault.
-- Source: docs/FORMATS.md, "Faults of an image"; VIRTIO 1.2, section 2.7.8.2: a device that writes nothing into a buffer returns it
-- with a length of 0.
use Rattle.std.specs.Prelude.{◌≡◌, ℕ, ◌≤◌, ◌%◌, List, length, Ok}
use Rattle.std.specs.List.{All}
use Rattle.mc_base.specs.Limits.{buffer_size, link_limit}
use Rattle.shared_words.specs.Entry.{Entry}
use Rattle.shared_words.specs.Shown.{TableShown}
use Rattle.split_ring.specs.Ends.{End}
use Rattle.split_ring.specs.Finished.{FinishedRing, IsFinished}
use Rattle.board_model.specs.RingImage.{image_length}
use Rattle.ring_trace.specs.declared.checking.ImageInfo.{ImageInfo}
use Rattle.ring_trace.specs.ImageFaults.{checked}
use Rattle.ring_trace.specs.WordImage.{word_image}

-- in queue 1, whose buffers the device reads, each was returned with a length of 0
abbrev pub ReturnsAreEmpty : ℕ → List Entry → Type 0
ReturnsAreEmpty queue returned = queue ≡ 1 → All (λ (e : Entry). e.1 ≡ 0) returned

-- the size and the queue of a finished ring, and how many buffers were offered and returned, modulo 65536
abbrev pub info_of : FinishedRing → End → End → ImageInfo
info_of closed driver device = record { size = closed.size; queue = closed.queue; avail = length driver.written % 65536; used = length device.written % 65536 }

-- the ring is one that a link of a board has: it has at most 256 buffers of 512 bytes
abbrev pub IsOfLink : FinishedRing → Type 0
IsOfLink closed = (closed.size ≤ link_limit) × (closed.width ≡ buffer_size)

-- a check of the image of any such ring finds no fault, and finds this
abbrev pub FinishedImagesAreSound : Type 0
FinishedImagesAreSound =
    (ring : TableShown) (driver device : End) (closed : FinishedRing) → IsFinished ring driver device closed → IsOfLink closed
    → ReturnsAreEmpty closed.queue device.written
    → checked (word_image closed.size closed.words) ≡ Ok (info_of closed driver device)

-- and it is no longer than that of the largest ring, so it can be checked
abbrev pub FinishedImagesAreShort : Type 0
FinishedImagesAreShort =
    (ring : TableShown) (driver device : End) (closed : FinishedRing) → IsFinished ring driver device closed → IsOfLink closed
    → length (word_image closed.size closed.words) ≤ image_length link_limit
