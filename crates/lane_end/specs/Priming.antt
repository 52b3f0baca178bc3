-- The priming of queue 0 in progress: the driver offers buffers, and the device fetches them.
-- Source: docs/ARCHITECTURE.md, "The ends of a lane".
use Rattle.std.specs.Prelude.{◌≡◌, ℕ, List, ◌++◌, length}
use Rattle.mc_base.specs.Stored.{Stored}
use Rattle.shared_words.specs.Entry.{Entry}
use Rattle.shared_words.specs.declared.view.Role.TheVariants.{Driver, Device}
use Rattle.split_ring.specs.Ends.{End, AreHeld, IsSound}
use Rattle.lane_end.specs.Held.{numbers_of}
use Rattle.lane_end.specs.Entries.{numbers_in}
use Rattle.lane_end.specs.RingOpening.{whole}

-- the driver offered some of its buffers, and holds the others
pub record Offers (old new : End) (done left : List Stored) : Type 0 where
  pub driver : new ≡ record old { written = old.written ++ whole done }
  pub held : AreHeld Driver new left
  pub sound : IsSound Driver new

-- the device fetched `count` buffers, which were appended to a list
pub record Fetches (old new : End) (before after : List Stored) (count : ℕ) : Type 0 where
  pub more : List Entry
  pub device : new ≡ record old { taken = old.taken ++ more }
  pub many : length more ≡ count
  pub added : numbers_of after ≡ numbers_of before ++ numbers_in more
  pub sound : IsSound Device new
