-- Where no place is found, none is found in the parts.
use Rattle.std.proofs.Common.{◌≡◌, ℕ, Bool, true, false, cond, Option, Some, None, refl}
use Rattle.report_text.specs.TextLines.{moved, or_else}
use Rattle.report_text.specs.TurnOrder.{sooner}

pub none-moved : (n : ℕ) (o : Option ℕ) → moved n o ≡ None → o ≡ None
none-moved n None e = refl
none-moved n (Some k) e = absurd cc

pub none-either : (a b : Option ℕ) → or_else a b ≡ None → (a ≡ None) × (b ≡ None)
none-either None b e = (refl, e)
none-either (Some n) b e = absurd cc

pub none-sooner : (a b : Option ℕ) → sooner a b ≡ None → (a ≡ None) × (b ≡ None)
none-sooner None b e = (refl, e)
none-sooner (Some n) None e = absurd cc
none-sooner (Some n) (Some m) e = absurd cc

-- where a test is passed, the place behind
pub none-if : (b : Bool) (o : Option ℕ) (n : ℕ) → cond b o (Some n) ≡ None → (b ≡ true) × (o ≡ None)
none-if true o n e = (refl, e)
none-if false o n e = absurd cc

pub none-next : (b : Bool) (o : Option ℕ) (n : ℕ) → cond b (moved 1 o) (Some n) ≡ None → (b ≡ true) × (o ≡ None)
none-next true o n e = (refl, none-moved 1 o e)
none-next false o n e = absurd cc
