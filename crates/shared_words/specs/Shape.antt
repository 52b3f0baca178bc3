-- The shapes that a queue can have.
-- Source: VIRTIO 1.2, section 2.7: the size of a queue is a power of two; the limits are docs/PROFILE.md's.
use Rattle.std.specs.Prelude.{◌≡◌, ℕ, ◌≤◌, ◌^◌}
use Rattle.mc_base.specs.Limits.{IsBufferLength}
use Rattle.shared_words.specs.declared.rule.Shape.{Shape}

-- a power of two from 2 to 32768
abbrev pub IsRingSize : ℕ → Type 0
IsRingSize size = (k : ℕ) × (1 ≤ k) × (k ≤ 15) × (size ≡ 2 ^ k)

pub record IsShape (key : Shape) : Type 0 where
  pub queue : key.queue ≤ 1
  pub size : IsRingSize key.size
  pub length : IsBufferLength key.length
