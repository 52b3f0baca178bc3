-- When a count of faults has risen, and how a call's answer and the count go together.
-- Source: docs/PROFILE.md, "The outside". A count is a u64, and stands still at the greatest one.
use Rattle.std.specs.Prelude.{◌≡◌, ℕ, ◌+◌, ◌-◌, ◌^◌, ◌≤◌, min, Result, OnOk, OnErr}

-- one more, or the greatest u64
abbrev pub one_more : ℕ → ℕ
one_more count = min (count + 1) (2 ^ 64 - 1)

-- the count rose, or stands at the greatest u64
abbrev pub Rose : ℕ → ℕ → Type 0
Rose before now = one_more before ≤ now

-- the count rose where the call failed, and stands where it did not. It never falls
pub record HasCause {T E : Type 0} (before now : ℕ) (result : Result T E) : Type 0 where
  pub later : before ≤ now
  pub failed : OnErr result (Rose before now)
  pub quiet : OnOk result (now ≡ before)
