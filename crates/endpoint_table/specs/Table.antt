-- The table of a domain's endpoints: the records that are in use, and the announcements that are owed to each linked domain.
-- Source: docs/PROFILE.md, "A domain" and "Names".
use Rattle.std.specs.Prelude.{ℕ, ◌+◌, Bool, true, false, not, ◌&&◌, ◌||◌, ◌==◌, nat_lt, nat_le, List, [], ◌∷◌, ◌++◌, length, map, filter, find, drop, slice_get, Option, None, Some, is_some, option_and_then, Result, Ok, Err, if◌then◌else◌}
use Rattle.std.specs.List.{list_any}
use Rattle.mc_base.specs.Limits.{first_address, record_limit, creation_limit}
use Rattle.mc_base.specs.FullName.{end_name, full_name}
use Rattle.mc_base.specs.declared.name.Local.{Local}
use Rattle.mc_base.specs.declared.refusal.Refusal.{Refusal}
use Rattle.mc_base.specs.declared.refusal.Refusal.TheVariants as refusal
use Rattle.endpoint_table.specs.declared.record.Record.{Record}
use Rattle.endpoint_table.specs.declared.announced.Announced.{Announced}

-- A `Record` is an endpoint's name in its domain, its address, and whether it is live. An `Announced` is what a linked
-- domain is told: that the endpoint of this name and address is there from now on (`create`), or gone.

-- a linked domain, and what is owed to it, the oldest first
pub record Owing : Type 0 where
  pub peer : ℕ
  pub owed : List Announced

-- the records in the order of their creation, and how many were ever created
pub record Table : Type 0 where
  pub domain : ℕ
  pub nodes : ℕ
  pub records : List Record
  pub owing : List Owing
  pub given : ℕ

abbrev pub nothing_owed : ℕ → Owing
nothing_owed peer = record { peer = peer; owed = [] }

abbrev pub opening_table : ℕ → ℕ → List ℕ → Table
opening_table domain nodes peers = record { domain = domain; nodes = nodes; records = []; owing = map nothing_owed peers; given = 0 }

-- ---- endpoints

abbrev pub is_live_at : Local → Record → Bool
is_live_at local r = r.live && (r.local.node == local.node && r.local.port == local.port)

-- the live endpoint of a name, and of an address
abbrev pub live_at : Table → Local → Option Record
live_at t local = find (is_live_at local) t.records

abbrev pub has_live_address : ℕ → Record → Bool
has_live_address address r = r.live && r.address == address

abbrev pub live_with_address : Table → ℕ → Option Record
live_with_address t address = find (has_live_address address) t.records

-- ---- what is owed

abbrev pub owing_to : Table → ℕ → Option Owing
owing_to t peer = find (λ o. o.peer == peer) t.owing

-- the oldest announcement that is owed to a linked domain
abbrev pub owed_to : Table → ℕ → Option Announced
owed_to t peer = option_and_then (λ o. slice_get o.owed 0) (owing_to t peer)

-- the name of an endpoint as all domains have it
abbrev pub name_of : ℕ → Local → List ℕ
name_of domain local = full_name (end_name domain local)

-- an announcement's name, its address, and whether the endpoint is there or gone
abbrev pub announcement_of : ℕ → Announced → List ℕ × ℕ × Bool
announcement_of domain a = (name_of domain a.local, a.address, a.create)

-- ---- records in use

-- a linked domain is still to be told that the endpoint of this address is gone
abbrev pub tells_gone : ℕ → Announced → Bool
tells_gone address a = not a.create && a.address == address

abbrev pub owes_gone : ℕ → Owing → Bool
owes_gone address o = list_any (tells_gone address) o.owed

-- a record is in use while its endpoint is live, and until all linked domains were told that it is gone
abbrev pub is_in_use : List Owing → Record → Bool
is_in_use owing r = r.live || list_any (owes_gone r.address) owing

-- the records that are no more in use go
abbrev pub freed : Table → Table
freed t = record t { records = filter (is_in_use t.owing) t.records }

-- ---- what changes

abbrev pub also_owing : Announced → Owing → Owing
also_owing a o = record o { owed = o.owed ++ a ∷ [] }

-- all linked domains are to be told
abbrev pub announced : Table → Announced → Table
announced t a = record t { owing = map (also_owing a) t.owing }

abbrev pub next_address : Table → ℕ
next_address t = first_address + t.given

abbrev pub created : Table → Local → Table
created t local =
    announced
    (record t { records = t.records ++ record { local = local; address = next_address t; live = true } ∷ []; given = t.given + 1 })
    (record { local = local; address = next_address t; create = true })

-- the record of this address is live no more
abbrev pub ended : ℕ → Record → Record
ended address r = if r.address == address then record r { live = false } else r

abbrev pub ended_in : Table → Option Record → Table
ended_in t None = t
ended_in t (Some r) =
    freed (announced
    (record t { records = map (ended r.address) t.records })
    (record { local = r.local; address = r.address; create = false }))

abbrev pub deleted : Table → Local → Table
deleted t local = ended_in t (live_at t local)

-- a linked domain was told the oldest that was owed to it
abbrev pub told_oldest : ℕ → Owing → Owing
told_oldest peer o = if o.peer == peer then record o { owed = drop 1 o.owed } else o

abbrev pub paid_to : Table → ℕ → Table
paid_to t peer = freed (record t { owing = map (told_oldest peer) t.owing })

-- ---- what the calls answer

abbrev pub create_answer : Table → Local → Result ℕ Refusal
create_answer t local =
    if not (nat_lt local.node t.nodes) then Err refusal.NodeInvalid
    else (if is_some (live_at t local) then Err refusal.ExistsAlready
    else (if nat_le record_limit (length t.records) then Err refusal.EndpLimit
    else (if nat_le creation_limit t.given then Err refusal.AddressSpent
    else Ok (next_address t))))

abbrev pub delete_answer : Table → Local → Result (Unit {0}) Refusal
delete_answer t local = if is_some (live_at t local) then Ok tt else Err refusal.EndpInvalid
