-- The names that are known, each with its address: a finite map of at most 64 names, told as its list in rising order.
-- Source: docs/PROFILE.md, "Names".
use Rattle.std.specs.Prelude.{◌<◌, ◌≤◌, ◌+◌, ◌*◌, ⊤, ℕ, Bool, not, ◌==◌, nat_lt, List, [], ◌∷◌, length, filter, find, Option, option_map, if◌then◌else◌}
use Rattle.std.specs.List.{AllByRecursion}
use Rattle.mc_base.specs.declared.name.EndName.{EndName}

-- the most names that are known
abbrev pub names_limit : ℕ
names_limit = 64

-- the place of a name in the order: by domain, then node, then port
unfoldable pub rank : EndName → ℕ
rank n = (n.domain * 256 + n.node) * 65536 + n.port

-- each name with its address
abbrev pub Names : Type 0
Names = List (EndName × ℕ)

abbrev pub has_name : EndName → EndName × ℕ → Bool
has_name n k = rank k.0 == rank n

-- a name learned: a known one gets the address, a new one goes to its place
abbrev pub learned : EndName → ℕ → Names → Names
learned n a [] = (n, a) ∷ []
learned n a (k ∷ ks) =
    if has_name n k then (n, a) ∷ ks
    else (if nat_lt (rank n) (rank k.0) then (n, a) ∷ k ∷ ks else k ∷ learned n a ks)

-- a name forgotten
abbrev pub forgotten : EndName → Names → Names
forgotten n ks = filter (λ k. not (has_name n k)) ks

-- the address of a name, where it is known
abbrev pub address_in : EndName → Names → Option ℕ
address_in n ks = option_map (λ k. k.1) (find (has_name n) ks)

-- each name comes before all that follow it, so no name comes twice
abbrev pub IsRising : Names → Type 0
IsRising [] = ⊤
IsRising (k ∷ ks) = AllByRecursion (λ later. rank k.0 < rank later.0) ks × IsRising ks

-- the numbers of a name are a u8, a u8 and a u16
pub record HasBounds (n : EndName) : Type 0 where
  pub domain : n.domain < 256
  pub node : n.node < 256
  pub port : n.port < 65536

-- a finite map of at most 64 names
pub record IsNameMap (ks : Names) : Type 0 where
  pub rising : IsRising ks
  pub bounded : AllByRecursion (λ k. HasBounds k.0) ks
  pub few : length ks ≤ names_limit
