-- What the fields of a domain's inside stand for, and what they keep.
-- Source: the code of the inside.
use Rattle.domain_parts.specs.LaneSeen.{LaneSeen}
use Rattle.domain_parts.specs.declared.holdings.Holdings.TheInside.{Inside}
use Rattle.domain_parts.specs.Parts.{Holding, Sound, holding_in, parts_in}

abbrev pub holding_of : {P : Type 0} → (P → LaneSeen) → Inside P → Holding P
holding_of v d = holding_in v d.book d.endpoints d.requests d.table d.peers.items

abbrev pub IsSound : {P : Type 0} → (P → LaneSeen) → Inside P → Type 0
IsSound v d = Sound (parts_in v d.book d.endpoints d.requests d.table d.peers.items)
