-- Tables of faults: rows in their order, of which the first that stands counts.
-- Source: the tables of faults in docs/FORMATS.md.
use Rattle.std.specs.Prelude.{ℕ, Bool, List, [], ◌∷◌, Option, Some, None, option_map, if◌then◌else◌}

-- a fault, whether it stands, and the place in the frame at which it is told
pub record FaultRow (F : Type 0) : Type 0 where
  pub fault : F
  pub stands : Bool
  pub place : ℕ

abbrev pub row : {F : Type 0} → F → Bool → ℕ → FaultRow F
row fault stands place = record { fault = fault; stands = stands; place = place }

-- the first row that stands
abbrev pub first : {F : Type 0} → List (FaultRow F) → Option (FaultRow F)
first [] = None
first (r ∷ rs) = if r.stands then Some r else first rs

-- its fault
abbrev pub first_fault : {F : Type 0} → List (FaultRow F) → Option F
first_fault rows = option_map (λ r. r.fault) (first rows)

-- the same rows of a wider kind of fault
abbrev pub widened : {F G : Type 0} → (F → G) → List (FaultRow F) → List (FaultRow G)
widened f [] = []
widened f (r ∷ rs) = row (f r.fault) r.stands r.place ∷ widened f rs
