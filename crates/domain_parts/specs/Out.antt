-- The buffers of the lane from a peer that a domain took and has not given back.
-- Source: docs/PROFILE.md, "Lanes".
use Rattle.std.specs.Prelude.{ℕ, List}
use Rattle.lane_end.specs.ReceiverContract.{without}

-- the lane's size, and the numbers of those buffers
pub record Out : Type 0 where
  pub size : ℕ
  pub numbers : List ℕ

abbrev pub out_of : ℕ → List ℕ → Out
out_of size numbers = record { size = size; numbers = numbers }

-- one of them is given back
abbrev pub with_one_back : Out → ℕ → Out
with_one_back o n = record o { numbers = without n o.numbers }
