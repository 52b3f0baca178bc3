-- What the field of the known names stands for, what it keeps, and what a search in it finds.
-- Source: the code of the known names.
use Rattle.std.specs.Prelude.{◌≡◌, ◌<◌, ◌≤◌, ℕ, List, length, map}
use Rattle.std.specs.List.{AllWithin, HoldsAt}
use Rattle.std.specs.Vec.{vec_capacity}
use Rattle.mc_base.specs.declared.name.EndName.{EndName}
use Rattle.name_service.specs.declared.known.Known.{Known}
use Rattle.name_service.specs.declared.known.KnownNames.TheInside.{Inside}
use Rattle.mc_base.specs.NameMap.{Names, IsNameMap, names_limit, rank}

abbrev pub pair_of : Known → EndName × ℕ
pair_of k = (k.name, k.addr)

abbrev pub names_in : List Known → Names
names_in ks = map pair_of ks

abbrev pub names_of : Inside → Names
names_of s = names_in s.list.items

-- the list is a map, and has room for all names
pub record KeepsOrder (s : Inside) : Type 0 where
  pub map : IsNameMap (names_in s.list.items)
  pub room : names_limit ≤ vec_capacity s.list

-- the name stands at this place
pub record IsPlace (ks : Names) (n : EndName) (place : ℕ) : Type 0 where
  pub within : place < length ks
  pub named : HoldsAt (λ k. rank k.0 ≡ rank n) ks place

-- the name would stand at this place
pub record IsGap (ks : Names) (n : EndName) (place : ℕ) : Type 0 where
  pub within : place ≤ length ks
  pub before : AllWithin (λ k. rank k.0 < rank n) ks 0 place
  pub after : AllWithin (λ k. rank n < rank k.0) ks place (length ks)
