-- What is known of a ring that is finished: of its words, of where its buffers are, and of what its halves saw.
-- Source: VIRTIO 1.2, section 2.7; docs/PROFILE.md: the driver owns all buffers.
use Rattle.std.specs.Prelude.{◌≡◌, ℕ, ◌+◌, ◌≤◌, ◌%◌, ◌^◌, List, ◌++◌, map, length, sum}
use Rattle.std.specs.List.{All}
use Rattle.std.specs.List.Sorted.{IsStrictlyIncreasing}
use Rattle.shared_words.specs.Shape.{IsShape}
use Rattle.shared_words.specs.Entry.{Entry, number_of, often, inside}
use Rattle.shared_words.specs.Constants.{IsLawful}
use Rattle.shared_words.specs.Shown.{TableShown, size_of, shape_of}
use Rattle.shared_words.specs.Closed.{AreFinal}
use Rattle.shared_words.specs.declared.view.Role.TheVariants.{Driver, Device}
use Rattle.split_ring.specs.Ends.{End, holding_of}

-- what contracts see of a finished ring
pub record FinishedRing : Type 0 where
  pub queue : ℕ
  pub size : ℕ
  pub width : ℕ
  pub words : List ℕ
  pub offered_left : List ℕ
  pub returned_left : List ℕ
  pub driver_held : List ℕ
  pub device_held : List ℕ
  pub driver_looks : ℕ
  pub driver_saw : ℕ
  pub device_looks : ℕ
  pub device_saw : ℕ

-- the ring between these halves is finished as this
pub record IsFinished (ring : TableShown) (driver device : End) (closed : FinishedRing) : Type 0 where
  pub queue : closed.queue ≡ ring.queue
  pub size : closed.size ≡ size_of ring.ring
  pub width : closed.width ≡ ring.ring.width
  -- it is queue 0 or 1, of a size that a queue can have, over buffers of a length that buffers can have
  pub shape : IsShape (shape_of ring)
  -- each number is below the size, each length fits a buffer, and each buffer is as long as all of the ring
  pub offered_fit : All (IsLawful (shape_of ring)) driver.written
  pub returned_fit : All (IsLawful (shape_of ring)) device.written
  -- what was offered is what was fetched and then what is left, with bytes and lengths; and the same of what was returned
  pub offered_rest : List Entry
  pub returned_rest : List Entry
  pub offered : driver.written ≡ device.taken ++ offered_rest
  pub returned : device.written ≡ driver.taken ++ returned_rest
  pub offered_numbers : closed.offered_left ≡ map number_of offered_rest
  pub returned_numbers : closed.returned_left ≡ map number_of returned_rest
  -- no half was shown more than was written
  pub device_shown : device.shown ≤ length driver.written
  pub driver_shown : driver.shown ≤ length device.written
  -- each number is held by a half as often as it had it and took it, less as it wrote it
  pub driver_holds : (x : ℕ) → often x closed.driver_held ≡ holding_of Driver driver x
  pub device_holds : (x : ℕ) → often x closed.device_held ≡ holding_of Device device x
  -- its list rises, and has as many numbers as it holds
  pub driver_rises : IsStrictlyIncreasing closed.driver_held
  pub device_rises : IsStrictlyIncreasing closed.device_held
  pub driver_count : length closed.driver_held + length driver.written ≡ size_of ring.ring + length driver.taken
  pub device_count : length closed.device_held + length device.written ≡ length device.taken
  -- each number below the size stands exactly once in the four lists, and any other nowhere
  pub each_once : (x : ℕ) → often x (closed.driver_held ++ (closed.offered_left ++ (closed.device_held ++ closed.returned_left))) ≡ inside (size_of ring.ring) x
  -- every word is a function of the queue, the size and the two lists
  pub all_words : AreFinal (shape_of ring) driver.written device.written closed.words
  -- the looks and what they answered in all
  pub driver_looked : closed.driver_looks ≡ length driver.looks % 2 ^ 64
  pub driver_saw : closed.driver_saw ≡ sum driver.looks % 2 ^ 64
  pub device_looked : closed.device_looks ≡ length device.looks % 2 ^ 64
  pub device_saw : closed.device_saw ≡ sum device.looks % 2 ^ 64
