-- The two tables of a domain's endpoints: the queues of those that are live, and the records in use with what is owed to linked
-- domains. Both tell the same endpoints.
-- Source: docs/PROFILE.md, "A domain" and "Names".
use Rattle.std.specs.Prelude.{◌≡◌, ◌<◌, ◌+◌, ℕ, true, not, List, map, filter, ◌==◌}
use Rattle.std.specs.List.{AllByRecursion}
use Rattle.mc_base.specs.Limits.{first_address}
use Rattle.endpoint_table.specs.declared.record.Record.{Record}
use Rattle.endpoint_table.specs.InTable.{IsRising}
use Rattle.endpoint_table.specs.Table.{Table, is_in_use}
use Rattle.domain_parts.specs.declared.endpoints.Endpoint.{Endpoint}
use Rattle.domain_parts.specs.Records.{Records}

-- the record of a live endpoint
abbrev pub live_record : Endpoint → Record
live_record e = record { local = e.local; address = e.address; live = true }

-- the linked domains among the peers
abbrev pub linked_among : ℕ → List ℕ → List ℕ
linked_among number peers = filter (λ n. not (n == number)) peers

-- for a domain with these peers, itself among them
pub record AreTied (r : Records) (t : Table) (peers : List ℕ) : Type 0 where
  pub domain : t.domain ≡ r.number
  pub given : t.given ≡ r.given
  pub live : filter (λ x. x.live) t.records ≡ map live_record r.endpoints
  -- addresses rise, and are those that were given
  pub rising : IsRising t.records
  pub below : AllByRecursion (λ x. x.address < first_address + t.given) t.records
  -- none is left that is in use no more
  pub used : AllByRecursion (λ x. is_in_use t.owing x ≡ true) t.records
  pub linked : map (λ o. o.peer) t.owing ≡ linked_among r.number peers
