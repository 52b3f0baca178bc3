-- What the fields of a set of requests stand for, and what they keep.
-- Source: the code of the set.
use Rattle.std.specs.Prelude.{◌≡◌, ◌≢◌, ◌⊎◌, ⊤, ℕ, ◌≤◌, List, [], ◌∷◌, length, filter_map, Option, IsSome, option_map}
use Rattle.std.specs.List.{AllByRecursion}
use Rattle.slab.specs.Slab.{get, slab_len}
use Rattle.mc_base.specs.Limits.{request_limit, no_key}
use Rattle.request_set.specs.declared.set.Request.{Request}
use Rattle.request_set.specs.declared.set.RequestSet.TheInside.{Inside}
use Rattle.request_set.specs.Requests.{Standing, Requests}

abbrev pub standing_of : ℕ → Request → Standing
standing_of key r = record { id = record { key = key; serial = r.serial }; ask = r.ask; complete = r.complete }

-- the requests under these keys, where `kept` gives what is kept under a key
abbrev pub standing_in : (ℕ → Option Request) → List ℕ → List Standing
standing_in kept order = filter_map (λ key. option_map (standing_of key) (kept key)) order

abbrev pub requests_of : Inside → Requests
requests_of s = record { standing = standing_in (get s.slab) s.order.items; given = s.given }

-- no key comes twice
abbrev pub Differ : List ℕ → Type 0
Differ [] = ⊤
Differ (key ∷ rest) = AllByRecursion (λ other. other ≢ key) rest × Differ rest

-- a key is one of these
abbrev pub Among : ℕ → List ℕ → Type 0
Among key [] = ⊥
Among key (first ∷ rest) = (first ≡ key) ⊎ Among key rest

-- the order names each key of the slab once, and a key that the slab gives is below its capacity
pub record KeepsOrder (s : Inside) : Type 0 where
  pub occupied : AllByRecursion (λ key. IsSome (get s.slab key)) s.order.items
  pub ordered : (key : ℕ) → IsSome (get s.slab key) → Among key s.order.items
  pub differ : Differ s.order.items
  pub counted : slab_len s.slab ≡ length s.order.items
  pub few : length s.order.items ≤ request_limit
  pub room : request_limit ≤ s.slab.capacity
  pub keys_fit : s.slab.capacity ≤ no_key
