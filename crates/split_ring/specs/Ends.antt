-- What contracts see of a driver and of a device, and what each call does to it.
-- Source: VIRTIO 1.2, section 2.7: the driver offers buffers, and the device returns them.
use Rattle.std.specs.Prelude.{◌≡◌, ◌⊎◌, ℕ, ◌+◌, ◌-◌, ◌<◌, ◌≤◌, List, [], ◌∷◌, ◌++◌, length, Option, Some, None}
use Rattle.std.specs.List.{All}
use Rattle.mc_base.specs.Stored.{Stored}
use Rattle.shared_words.specs.Entry.{Entry, times, times_by, inside}
use Rattle.shared_words.specs.Places.{begins, starts_with}
use Rattle.shared_words.specs.Shown.{RingId, size_of}
use Rattle.shared_words.specs.declared.view.Role.{Role}

-- a half with nothing begun: what it wrote and took, how many entries of the other half were shown, and its looks
pub record End : Type 0 where
  pub ring : RingId
  pub written : List Entry
  pub taken : List Entry
  pub shown : ℕ
  pub looks : List ℕ

abbrev pub new_end : RingId → End
new_end ring = record { ring = ring; written = []; taken = []; shown = 0; looks = [] }

-- a buffer is offered or given back with a length
abbrev pub writes : Entry → End → End
writes e half = record half { written = half.written ++ e ∷ [] }

-- a look shows n entries that were not taken
abbrev pub looks_at : ℕ → End → End
looks_at n half = record half { shown = length half.taken + n; looks = half.looks ++ n ∷ [] }

-- a meeting shows n entries of the other half
abbrev pub shows : ℕ → End → End
shows n half = record half { shown = n }

-- an entry is fetched or reclaimed
abbrev pub takes : Entry → End → End
takes e half = record half { taken = half.taken ++ e ∷ [] }

-- one that was shown is left
abbrev pub IsLeft : End → Type 0
IsLeft half = length half.taken < half.shown

-- a fetch or a reclaim: where one is left it is taken, and else the half looks once, and takes the first where it sees some
abbrev pub TakesNext : End → Option Entry → End → Type 0
TakesNext old (Some e) new = (IsLeft old × (new ≡ takes e old)) ⊎ ((old.shown ≡ length old.taken) × ((n : ℕ) × (0 < n) × (new ≡ takes e (looks_at n old))))
TakesNext old None new = (old.shown ≡ length old.taken) × (new ≡ looks_at 0 old)

-- how often it holds the number x, and that it holds it
abbrev pub holding_of : Role → End → ℕ → ℕ
holding_of role half x = begins role (size_of half.ring) x + times x half.taken - times x half.written

abbrev pub HoldsNumber : Role → End → ℕ → Type 0
HoldsNumber role half x = times x half.written < begins role (size_of half.ring) x + times x half.taken

-- the buffer is as long as each buffer of the ring
abbrev pub HasWidth : End → Stored → Type 0
HasWidth half b = length b.bytes ≡ half.ring.width

-- it holds the buffer
abbrev pub HoldsBuffer : Role → End → Stored → Type 0
HoldsBuffer role half b = HoldsNumber role half b.number × HasWidth half b

-- it holds the numbers of all these buffers, each for one of them
abbrev pub HoldsNumbers : Role → End → List Stored → Type 0
HoldsNumbers role half buffers = (x : ℕ) → times_by (λ (b : Stored). b.number) x buffers ≤ holding_of role half x

-- it holds all these buffers
pub record AreHeld (role : Role) (half : End) (buffers : List Stored) : Type 0 where
  pub numbers : HoldsNumbers role half buffers
  pub wide : All (HasWidth half) buffers

-- how many numbers it holds
abbrev pub held_count : Role → End → ℕ
held_count role half = starts_with role (size_of half.ring) + length half.taken - length half.written

-- what holds of every half: the numbers that it holds differ and are below the size, and with what was shown and not taken they are at most as many
pub record IsSound (role : Role) (half : End) : Type 0 where
  pub owned : (x : ℕ) → times x half.written ≤ begins role (size_of half.ring) x + times x half.taken
  pub differ : (x : ℕ) → begins role (size_of half.ring) x + times x half.taken ≤ inside (size_of half.ring) x + times x half.written
  pub shown : length half.taken ≤ half.shown
  pub room : half.shown + starts_with role (size_of half.ring) ≤ size_of half.ring + length half.written
