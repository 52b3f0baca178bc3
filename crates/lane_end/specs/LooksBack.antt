-- A look of a sender over a ring in progress: it showed `seen` buffers, of which `done` are taken and free.
-- Source: docs/ARCHITECTURE.md, "The ends of a lane".
use Rattle.std.specs.Prelude.{◌≡◌, ℕ, ◌+◌, ◌≤◌, List, [], ◌∷◌, ◌++◌, length}
use Rattle.shared_words.specs.Entry.{Entry}
use Rattle.shared_words.specs.Shown.{TableShown}
use Rattle.split_ring.specs.Ends.{IsSound}
use Rattle.lane_end.specs.Entries.{numbers_in}
use Rattle.lane_end.specs.RingSender.{RingSender}
use Rattle.lane_end.specs.KeptRing.{KeepsSender}

pub record LooksBack (on : TableShown) (capacity seen done : ℕ) (start now : RingSender) : Type 0 where
  pub starts : KeepsSender on capacity start
  pub sound : IsSound now.role now.half
  pub role : now.role ≡ start.role
  pub ring : now.half.ring ≡ start.half.ring
  pub written : now.half.written ≡ start.half.written
  pub looks : now.half.looks ≡ start.half.looks ++ seen ∷ []
  pub shown : now.half.shown ≡ length start.half.taken + seen
  pub known : start.half.shown ≤ now.half.shown
  pub more : List Entry
  pub taken : now.half.taken ≡ start.half.taken ++ more
  pub count : length more ≡ done
  pub free : now.free ≡ start.free ++ numbers_in more
