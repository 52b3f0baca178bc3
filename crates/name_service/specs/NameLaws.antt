-- What holds of the names that are known: that they are a finite map.
-- Source: docs/PROFILE.md, "Names".
use Rattle.std.specs.Prelude.{◌≡◌, ◌≢◌, ◌+◌, ℕ, ◌==◌, ◌&&◌, Bool, None, Some, is_some, length, find, option_map, if◌then◌else◌}
use Rattle.mc_base.specs.declared.name.EndName.{EndName}
use Rattle.mc_base.specs.NameMap.{Names, HasBounds, IsRising, IsNameMap, rank, learned, forgotten, address_in}

-- names of one rank are one name, so the order tells names apart
abbrev pub RankTellsNames : Type 0
RankTellsNames = (n m : EndName) → HasBounds n → HasBounds m → rank n ≡ rank m → n ≡ m

abbrev pub is_same : EndName → EndName → Bool
is_same n m = m.domain == n.domain && (m.node == n.node && m.port == n.port)

-- the address of a name is that which stands beside this very name
abbrev pub AddressOfTheVeryName : Type 0
AddressOfTheVeryName =
    (n : EndName) (ks : Names) → HasBounds n → IsNameMap ks
    → address_in n ks ≡ option_map (λ k. k.1) (find (λ k. is_same n k.0) ks)

-- a name that was learned has the address
abbrev pub LearnedHasItsAddress : Type 0
LearnedHasItsAddress = (n : EndName) (a : ℕ) (ks : Names) → address_in n (learned n a ks) ≡ Some a

-- and all others have what they had
abbrev pub LearnedLeavesOthers : Type 0
LearnedLeavesOthers =
    (n m : EndName) (a : ℕ) (ks : Names) → rank m ≢ rank n → address_in m (learned n a ks) ≡ address_in m ks

-- a name that was forgotten has none
abbrev pub ForgottenHasNone : Type 0
ForgottenHasNone = (n : EndName) (ks : Names) → address_in n (forgotten n ks) ≡ None

-- and all others have what they had
abbrev pub ForgottenLeavesOthers : Type 0
ForgottenLeavesOthers =
    (n m : EndName) (ks : Names) → rank m ≢ rank n → address_in m (forgotten n ks) ≡ address_in m ks

-- a name that is new is one more
abbrev pub LearnedCounts : Type 0
LearnedCounts =
    (n : EndName) (a : ℕ) (ks : Names) → IsRising ks
    → length (learned n a ks) ≡ length ks + (if is_some (address_in n ks) then 0 else 1)

-- a name that is forgotten is one less
abbrev pub ForgottenCounts : Type 0
ForgottenCounts =
    (n : EndName) (ks : Names) → IsRising ks
    → length (forgotten n ks) + (if is_some (address_in n ks) then 1 else 0) ≡ length ks

-- the list stays in rising order
abbrev pub OrderStays : Type 0
OrderStays =
    (n : EndName) (a : ℕ) (ks : Names) → IsRising ks → IsRising (learned n a ks) × IsRising (forgotten n ks)

-- nothing is in the list but which name has which address
abbrev pub OneListForEachMap : Type 0
OneListForEachMap =
    (ks ls : Names) → IsNameMap ks → IsNameMap ls
    → ((n : EndName) → HasBounds n → address_in n ks ≡ address_in n ls) → ks ≡ ls
