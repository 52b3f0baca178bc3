-- The name under which an endpoint is announced, `mcapi:D:N:P` in decimal without leading zeros, and the endpoint that a name
-- names.
-- Source: docs/PROFILE.md, "Names".
use Rattle.std.specs.Prelude.{ℕ, Bool, ◌&&◌, ◌==◌, nat_le, List, [], ◌∷◌, ◌++◌, codes, decimal, Option, None, Some, if◌then◌else◌}
use Rattle.std.specs.List.{slice_split}
use Rattle.std.specs.Str.{bytes_eq}
use Rattle.std.specs.Str.Parse.{digits_value}
use Rattle.mc_base.specs.Limits.{last_node}
use Rattle.mc_base.specs.declared.name.Local.{Local}
use Rattle.mc_base.specs.declared.name.EndName.{EndName}

abbrev pub colon : ℕ
colon = 58

abbrev pub is_colon : ℕ → Bool
is_colon b = b == colon

abbrev pub end_name : ℕ → Local → EndName
end_name domain at = record { domain = domain; node = at.node; port = at.port }

-- the full name of an endpoint
abbrev pub full_name : EndName → List ℕ
full_name n = codes "mcapi:" ++ (decimal n.domain ++ (colon ∷ (decimal n.node ++ (colon ∷ decimal n.port))))

-- a domain is 0 to 255, a node 0 to 15, and a port 0 to 65535
abbrev pub is_in_range : EndName → Bool
is_in_range n = nat_le n.domain 255 && (nat_le n.node last_node && nat_le n.port 65535)

-- the endpoint whose numbers the parts between colons are, whatever else the parts say
abbrev pub numbered : List (List ℕ) → Option EndName
numbered (first ∷ domain ∷ node ∷ port ∷ []) = Some (record { domain = digits_value 10 domain; node = digits_value 10 node; port = digits_value 10 port })
numbered other = None

-- the endpoint, where the name is its full name
abbrev pub where_full : List ℕ → Option EndName → Option EndName
where_full name None = None
where_full name (Some n) = if is_in_range n && bytes_eq (full_name n) name then Some n else None

-- the endpoint that a name names, or none where it is no full name
abbrev pub endpoint_named : List ℕ → Option EndName
endpoint_named name = where_full name (numbered (slice_split is_colon name))
