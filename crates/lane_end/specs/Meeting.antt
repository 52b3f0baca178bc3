-- What a meeting of the two ends of a lane leaves, whatever carries the frames.
-- Source: docs/PROFILE.md, "Lanes": a meeting is not a look.
use Rattle.std.specs.Prelude.{◌≡◌, ℕ, List}

-- what a caller sees of each end is the same after a meeting as before it
pub record SeenStays {S R : Type 0} (of_sender : S → ℕ) (free_of : S → List ℕ) (of_receiver : R → ℕ) (shown_of : R → ℕ) (out_of : R → List ℕ) (a : S) (b : R) (c : S) (d : R) : Type 0 where
  pub size_to : of_sender c ≡ of_sender a
  pub free : free_of c ≡ free_of a
  pub size_from : of_receiver d ≡ of_receiver b
  pub shown : shown_of d ≡ shown_of b
  pub out : out_of d ≡ out_of b
