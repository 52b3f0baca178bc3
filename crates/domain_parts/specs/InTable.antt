-- What the fields of a table of endpoints stand for, and what they keep.
-- Source: the code of the table.
use Rattle.std.specs.Prelude.{◌≡◌, ℕ, ◌+◌, ◌<◌, ◌≤◌, List, [], ◌∷◌, length, Option, None, Some, vec_capacity}
use Rattle.std.specs.List.{AllByRecursion}
use Rattle.mc_base.specs.Limits.{domain_limit, first_address, record_limit}
use Rattle.message_queue.specs.Queue.{Queue, empty_queue}
use Rattle.packet_channel.specs.End.{end_of, kept_end}
use Rattle.packet_channel.specs.declared.channel.Channel.{Channel}
use Rattle.domain_parts.specs.declared.endpoints.Endpoint.{Endpoint}
use Rattle.domain_parts.specs.declared.endpoints.Endpoints.TheInside.{Inside}
use Rattle.domain_parts.specs.Records.{Records}

abbrev pub records_of : Inside → Records
records_of t = record { number = t.number; endpoints = t.records.items; given = t.given; channels = t.channels; lent = t.lent.items; parts = t.parts.items; room = t.room }

-- each queue has room for so many
abbrev pub HaveRoom : ℕ → List Endpoint → Type 0
HaveRoom room es = AllByRecursion (λ e. e.queue.room ≡ room) es

-- none has an address that is reserved
abbrev pub HaveAddresses : List Endpoint → Type 0
HaveAddresses es = AllByRecursion (λ e. first_address ≤ e.address) es

-- each has a lower address than all that follow it
abbrev pub AreInOrder : List Endpoint → Type 0
AreInOrder [] = Unit {0}
AreInOrder (e ∷ es) = AllByRecursion (λ later. e.address < later.address) es × AreInOrder es

-- a queue that no endpoint has yet
abbrev pub IsSpare : ℕ → Queue → Type 0
IsSpare room q = q ≡ empty_queue room

-- where an endpoint has an end of a channel, the channel has not ended
abbrev pub IsKept : Option Channel → Type 0
IsKept None = Unit {0}
IsKept (Some c) = kept_end c ≡ Some (end_of c)

abbrev pub HaveKept : List Endpoint → Type 0
HaveKept es = AllByRecursion (λ e. IsKept e.channel) es

-- and it has a number, which is not 0
abbrev pub IsNumbered : Option Channel → Type 0
IsNumbered None = Unit {0}
IsNumbered (Some c) = 0 < c.number

abbrev pub HaveNumbers : List Endpoint → Type 0
HaveNumbers es = AllByRecursion (λ e. IsNumbered e.channel) es

-- the table has queues for 64 endpoints, with or without an owner
pub record HasQueues (t : Inside) : Type 0 where
  pub rooms : HaveRoom t.room t.records.items
  pub spare : AllByRecursion (IsSpare t.room) t.spare.items
  pub records : length t.records.items + length t.spare.items ≡ record_limit
  pub addresses : HaveAddresses t.records.items
  pub order : AreInOrder t.records.items
  pub ends : HaveKept t.records.items
  pub numbered : HaveNumbers t.records.items
  -- the address that comes next is above them
  pub below : AllByRecursion (λ e. e.address < first_address + t.given) t.records.items
  pub records_room : record_limit ≤ vec_capacity t.records
  pub spare_room : record_limit ≤ vec_capacity t.spare
  pub lent_room : t.room ≤ vec_capacity t.lent
  pub parts_room : domain_limit ≤ vec_capacity t.parts
