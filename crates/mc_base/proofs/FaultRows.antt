-- The first fault of a table, row by row.
use Rattle.std.proofs.Common.{◌≡◌, Bool, true, false, cond, List, [], ◌∷◌, ◌++◌, Some, None, refl, ap}
use Rattle.std.specs.Prelude.{option_map}
use Rattle.mc_base.specs.FaultRow.{FaultRow, first, first_fault, widened}

-- a row that doesn't stand is passed over
pub first_fault-passed : {F : Type 0} (r : FaultRow F) (rows : List (FaultRow F)) → r.stands ≡ false → first_fault (r ∷ rows) ≡ first_fault rows
first_fault-passed r rows passed = rw passed refl

one_wider : {F G : Type 0} (wider : F → G) (b : Bool) (r : FaultRow F) (rows : List (FaultRow F)) → r.stands ≡ b
    → first_fault (widened wider rows) ≡ option_map wider (first_fault rows)
    → first_fault (widened wider (r ∷ rows)) ≡ option_map wider (first_fault (r ∷ rows))
one_wider wider true r rows is rest = rw is refl
one_wider wider false r rows is rest = rw is rest

-- the first fault of a wider kind
pub first_fault-widened : {F G : Type 0} (wider : F → G) (rows : List (FaultRow F)) → first_fault (widened wider rows) ≡ option_map wider (first_fault rows)
first_fault-widened wider [] = refl
first_fault-widened wider (r ∷ rows) = one_wider wider r.stands r rows refl (first_fault-widened wider rows)

-- rows none of which stands are passed over
pub widened-passed : {F G : Type 0} (wider : F → G) (rows : List (FaultRow F)) (more : List (FaultRow G)) → first_fault rows ≡ None
    → first_fault (widened wider rows ++ more) ≡ first_fault more
widened-passed wider [] more none = refl
widened-passed wider (r ∷ rows) more none =
    elim r.stands as (λ b. option_map (λ x. x.fault) (cond b (Some r) (first rows)) ≡ None
    → option_map (λ x. x.fault) (cond b (Some (record { fault = wider r.fault; stands = r.stands; place = r.place })) (first (widened wider rows ++ more))) ≡ first_fault more)
    [ true ↦ λ h. absurd cc | false ↦ λ h. widened-passed wider rows more h ] none

-- the first fault of rows in front is the first of all
pub widened-stands : {F G : Type 0} (wider : F → G) (rows : List (FaultRow F)) (more : List (FaultRow G)) (f : F) → first_fault rows ≡ Some f
    → first_fault (widened wider rows ++ more) ≡ Some (wider f)
widened-stands wider [] more f is = absurd cc
widened-stands wider (r ∷ rows) more f is =
    elim r.stands as (λ b. option_map (λ x. x.fault) (cond b (Some r) (first rows)) ≡ Some f
    → option_map (λ x. x.fault) (cond b (Some (record { fault = wider r.fault; stands = r.stands; place = r.place })) (first (widened wider rows ++ more))) ≡ Some (wider f))
    [ true ↦ λ h. let same : r.fault ≡ f = cc in ap (λ x. Some (wider x)) same | false ↦ λ h. widened-stands wider rows more f h ] is
