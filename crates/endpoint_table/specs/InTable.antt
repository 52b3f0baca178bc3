-- What the fields of a table stand for, and what they keep.
-- Source: the code of the table.
use Rattle.std.specs.Prelude.{◌≡◌, ◌<◌, ◌≤◌, ◌+◌, ◌-◌, ◌⊎◌, ⊤, ℕ, Bool, true, false, not, nat_le, ◌==◌, List, [], ◌∷◌, length, map, filter, drop, vec_capacity, if◌then◌else◌}
use Rattle.std.specs.List.{AllByRecursion, HoldsAt, list_any}
use Rattle.std.specs.VecDeque.{deque_capacity}
use Rattle.mc_base.specs.Limits.{record_limit, creation_limit, first_address, announcement_limit}
use Rattle.mc_base.specs.declared.name.EndName.{EndName}
use Rattle.mc_base.specs.declared.name.Local.{Local}
use Rattle.mc_base.specs.NameMap.{Names, learned}
use Rattle.endpoint_table.specs.declared.record.Record.{Record}
use Rattle.endpoint_table.specs.declared.announced.Announced.{Announced}
use Rattle.endpoint_table.specs.declared.debts.Debt.{Debt}
use Rattle.endpoint_table.specs.declared.table.EndpointTable.TheInside.{Inside}
use Rattle.endpoint_table.specs.Table.{Table, Owing, tells_gone, is_live_at}

-- the latest of the events are owed to a linked domain
abbrev pub owing_of : List Announced → Debt → Owing
owing_of events d = record { peer = d.peer; owed = drop (length events - d.owed) events }

abbrev pub owing_in : List Announced → List Debt → List Owing
owing_in events debts = map (owing_of events) debts

abbrev pub table_of : Inside → Table
table_of t = record { domain = t.domain; nodes = t.nodes; records = t.records.items; owing = owing_in t.events.items t.debts.items; given = t.given }

-- ---- changes of the fields

abbrev pub debt_of_none : ℕ → Debt
debt_of_none peer = record { peer = peer; owed = 0 }

abbrev pub one_more : Debt → Debt
one_more d = record d { owed = d.owed + 1 }

abbrev pub one_less : ℕ → Debt → Debt
one_less peer d = if d.peer == peer then record d { owed = d.owed - 1 } else d

-- a linked domain is owed so many events
abbrev pub owes : ℕ → Debt → Bool
owes count d = d.owed == count

-- the oldest event goes where all linked domains were told of it, and with an end the record of its address
abbrev pub settled_events : List Announced → List Debt → List Announced
settled_events events debts = if list_any (owes (length events)) debts then events else drop 1 events

abbrev pub without_ended : List Record → List Announced → List Record
without_ended records [] = records
without_ended records (a ∷ es) = if a.create then records else filter (λ r. not (r.address == a.address)) records

abbrev pub settled_records : List Record → List Announced → List Debt → List Record
settled_records records events debts = if list_any (owes (length events)) debts then records else without_ended records events

-- ---- what is kept

-- records in rising order of their addresses
abbrev pub IsRising : List Record → Type 0
IsRising [] = ⊤
IsRising (r ∷ rs) = AllByRecursion (λ later. r.address < later.address) rs × IsRising rs

-- the record of an address stands at this place
pub record IsPlace (records : List Record) (address place : ℕ) : Type 0 where
  pub within : place < length records
  pub addressed : HoldsAt (λ r. r.address ≡ address) records place

-- ---- the live endpoints by name

-- the name of an endpoint of a domain among those of all domains
abbrev pub name_in : ℕ → Local → EndName
name_in domain local = record { domain = domain; node = local.node; port = local.port }

-- the addresses of the live endpoints
abbrev pub addresses_in : ℕ → List Record → Names
addresses_in domain [] = []
addresses_in domain (r ∷ rs) =
    if r.live then learned (name_in domain r.local) r.address (addresses_in domain rs) else addresses_in domain rs

-- one endpoint at most is live under a name
abbrev pub AreApart : List Record → Type 0
AreApart [] = ⊤
AreApart (r ∷ rs) = (r.live ≡ true → AllByRecursion (λ later. is_live_at r.local later ≡ false) rs) × AreApart rs

-- the numbers of a name are a u8 and a u16
pub record HasBounds (r : Record) : Type 0 where
  pub node : r.local.node < 256
  pub port : r.local.port < 65536

-- the live endpoints are found by name
pub record IsIndexed (domain : ℕ) (records : List Record) (live : Names) : Type 0 where
  pub addresses : live ≡ addresses_in domain records
  pub apart : AreApart records
  pub bounded : AllByRecursion HasBounds records

-- ---- the order of the events

-- From an address on, endpoints are announced one after the other, up to that of the next creation; an endpoint is gone
-- only after it was there, and once.
abbrev pub IsNext : Bool → ℕ → ℕ → List Announced → Type 0
IsNext true from address later = address ≡ from
IsNext false from address later = (address < from) × (list_any (tells_gone address) later ≡ false)

abbrev pub from_after : Announced → ℕ → ℕ
from_after a from = if a.create then from + 1 else from

abbrev pub InOrder : ℕ → List Announced → ℕ → Type 0
InOrder from [] next = from ≡ next
InOrder from (a ∷ es) next = IsNext a.create from a.address es × InOrder (from_after a from) es next

-- how many announcements of a record may be owed, where those from an address on were not yet announced
abbrev pub weight : ℕ → Record → ℕ
weight from r = (if nat_le from r.address then 1 else 0) + (if r.live then 0 else 1)

-- at most so many announcements of all records may be owed
abbrev pub most_owed : ℕ → List Record → ℕ
most_owed from [] = 0
most_owed from (r ∷ rs) = weight from r + most_owed from rs

-- the events owe a record's end exactly where it is not live
abbrev pub IsMarked : List Announced → Record → Type 0
IsMarked events r = list_any (tells_gone r.address) events ≡ not r.live

-- what holds of the records and the events, the next address being this one
pub record IsOrderly (records : List Record) (events : List Announced) (next : ℕ) : Type 0 where
  pub rising : IsRising records
  pub below : AllByRecursion (λ r. r.address < next) records
  pub from : ℕ
  pub ordered : InOrder from events next
  pub weighed : length events ≤ most_owed from records
  pub marked : AllByRecursion (IsMarked events) records

-- no linked domain is owed more than the events, and one is owed all of them
pub record IsTight (events : List Announced) (debts : List Debt) : Type 0 where
  pub within : AllByRecursion (λ d. d.owed ≤ length events) debts
  pub tight : (events ≡ []) ⊎ (list_any (owes (length events)) debts ≡ true)

pub record IsKept (t : Inside) : Type 0 where
  pub orderly : IsOrderly t.records.items t.events.items (first_address + t.given)
  pub tight : IsTight t.events.items t.debts.items
  pub indexed : IsIndexed t.domain t.records.items t.live
  pub few : length t.records.items ≤ record_limit
  pub given : t.given ≤ creation_limit
  pub record_room : record_limit ≤ vec_capacity t.records
  pub event_room : announcement_limit ≤ deque_capacity t.events
