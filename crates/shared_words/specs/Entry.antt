-- The entries of a ring's lists, and how often a number stands among them.
-- Source: VIRTIO 1.2, sections 2.7.6 and 2.7.8: a buffer is offered, and returned, with a length.
use Rattle.std.specs.Prelude.{◌≡◌, ℕ, List, ◌++◌}
use Rattle.mc_base.specs.Stored.{Stored}
pub use Rattle.mc_base.specs.Numbers.{times_by, often, inside}

-- a buffer with a length
abbrev pub Entry : Type 0
Entry = Stored × ℕ

abbrev pub number_of : Entry → ℕ
number_of e = e.0.number

-- how often a number stands among the entries
abbrev pub times : ℕ → List Entry → ℕ
times x es = times_by number_of x es

abbrev pub IsPrefix : {A : Type 0} → List A → List A → Type 0
IsPrefix {A} xs ys = (rest : List A) × (ys ≡ xs ++ rest)
