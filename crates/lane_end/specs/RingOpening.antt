-- The ends of a lane over a ring when it is opened.
-- Source: docs/PROFILE.md, "Lanes": all buffers are free with the sender. In queue 1 the driver sends, which has them from the
-- beginning. In queue 0 the device sends: first the driver offers every buffer, whole, and the device fetches them all.
use Rattle.std.specs.Prelude.{ℕ, List, length, map}
use Rattle.mc_base.specs.Stored.{Stored}
use Rattle.shared_words.specs.Entry.{Entry}
use Rattle.shared_words.specs.Slots.{numbers_from}
use Rattle.shared_words.specs.Start.{new_buffer}
use Rattle.shared_words.specs.Shown.{RingId, size_of}
use Rattle.shared_words.specs.declared.view.Role.TheVariants.{Driver, Device}
use Rattle.split_ring.specs.Ends.{End, new_end}
use Rattle.lane_end.specs.Numbers.{all_numbers}
use Rattle.lane_end.specs.RingSender.{RingSender}
use Rattle.lane_end.specs.RingReceiver.{RingReceiver}

-- the buffers of a new ring
abbrev pub new_buffers : RingId → List Stored
new_buffers ring = map (new_buffer ring.width) (numbers_from 0 (size_of ring))

-- buffers that are offered whole
abbrev pub whole : List Stored → List Entry
whole buffers = map (λ (b : Stored). (b, length b.bytes)) buffers

-- the halves after every buffer went from the driver to the device; no look was made
abbrev pub primed_driver : RingId → List Stored → End
primed_driver ring buffers = record (new_end ring) { written = whole buffers }

abbrev pub primed_device : RingId → List Stored → ℕ → End
primed_device ring buffers count = record (new_end ring) { taken = whole buffers; shown = count }

abbrev pub queue1_sender : RingId → RingSender
queue1_sender ring = record { role = Driver; half = new_end ring; free = all_numbers (size_of ring) }

abbrev pub queue1_receiver : RingId → RingReceiver
queue1_receiver ring = record { role = Device; half = new_end ring; shown = 0 }

abbrev pub queue0_sender : RingId → RingSender
queue0_sender ring = record { role = Device; half = primed_device ring (new_buffers ring) (size_of ring); free = all_numbers (size_of ring) }

abbrev pub queue0_receiver : RingId → RingReceiver
queue0_receiver ring = record { role = Driver; half = primed_driver ring (new_buffers ring); shown = 0 }
