-- The writes of the two sides, made on the starting image, make the image of the finished ring.
-- Source: VIRTIO 1.2, section 2.7: the driver writes the descriptors and the available ring, and the device the used ring.
use Rattle.std.specs.Prelude.{◌≡◌, ℕ, List, ◌++◌, map}
use Rattle.mc_base.specs.Limits.{buffer_size}
use Rattle.shared_words.specs.Entry.{Entry, number_of}
use Rattle.shared_words.specs.Shown.{TableShown}
use Rattle.split_ring.specs.Ends.{End}
use Rattle.split_ring.specs.Finished.{FinishedRing, IsFinished}
use Rattle.board_model.specs.RingImage.{Offer, ImageWrite, start_image, driver_writes, device_writes, all_written}
use Rattle.ring_trace.specs.WordImage.{word_image}

-- a buffer's number with the length
abbrev pub offer_of : Entry → Offer
offer_of e = (number_of e, e.1)

-- what the driver writes for all that it offered, and the device for all that it returned
abbrev pub writes_of_driver : ℕ → End → List ImageWrite
writes_of_driver size driver = driver_writes size (map offer_of driver.written)

abbrev pub writes_of_device : ℕ → End → List ImageWrite
writes_of_device size device = device_writes size (map offer_of device.written)

-- the starting image with these writes is the image of the finished ring
abbrev pub MakeTheImage : FinishedRing → List ImageWrite → Type 0
MakeTheImage closed writes = all_written (start_image closed.size closed.queue) writes ≡ word_image closed.size closed.words

-- whichever side comes first, for every finished ring whose buffers have 512 bytes
abbrev pub BothSidesMakeTheImage : Type 0
BothSidesMakeTheImage =
    (ring : TableShown) (driver device : End) (closed : FinishedRing) → IsFinished ring driver device closed → closed.width ≡ buffer_size
    → MakeTheImage closed (writes_of_driver closed.size driver ++ writes_of_device closed.size device)
    × MakeTheImage closed (writes_of_device closed.size device ++ writes_of_driver closed.size driver)
