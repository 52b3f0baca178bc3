-- The ids that a runner holds for labels: those of requests, and those of packets.
-- Source: docs/PROFILE.md, "Requests", "Packets and scalars" and "Serial run". The domain gives ids for its requests and for the packets
-- that it lends; a scenario names them by labels.
use Rattle.std.specs.Prelude.{◌≡◌, ℕ, ◌-◌, ◌^◌, List, Option, None, Some, unwrap_or, if◌then◌else◌}
use Rattle.std.specs.Option.{option_or}
use Rattle.std.specs.HashMap.{HashMap, get_by}
use Rattle.std.specs.Str.{bytes_eq}
use Rattle.std.proofs.Common.{BuildHasherDefault, FoldHasher}
use Rattle.arrayvec.specs.ArrayVec.{ArrayVec}
use Rattle.mc_base.specs.Limits.{no_key}
use Rattle.mc_base.specs.declared.request.PacketId.{PacketId}
use Rattle.mc_base.specs.declared.request.RequestId.{RequestId}

-- what was given for labels
abbrev pub Held : Type 0 → Type 0
Held A = HashMap (ArrayVec ℕ) A (BuildHasherDefault FoldHasher)

-- the ids of the requests that were given for labels, and of the packets that were lent under them
abbrev pub Ids : Type 0
Ids = Held RequestId

abbrev pub PacketIds : Type 0
PacketIds = Held PacketId

-- the id that is held for a label
abbrev pub id_for : {A : Type 0} → Held A → List ℕ → Option A
id_for ids label = get_by (λ k. bytes_eq label k.items) ids

-- the ids for a label for which none is held: they name no request and no packet
abbrev pub no_id : RequestId
no_id = record { key = no_key; serial = 0 }

abbrev pub no_packet : PacketId
no_packet = record { peer = 255; buffer = 0; serial = 2 ^ 64 - 1 }

abbrev pub id_or_none : Ids → List ℕ → RequestId
id_or_none ids label = unwrap_or (id_for ids label) no_id

abbrev pub packet_or_none : PacketIds → List ℕ → PacketId
packet_or_none packets label = unwrap_or (id_for packets label) no_packet

-- the id that a line tells for a label: none where it has another label or gives none
abbrev pub told_for : {A : Type 0} → Option (List ℕ) → Option A → List ℕ → Option A
told_for (Some label) (Some id) other = if bytes_eq label other then Some id else None
told_for label id other = None

-- the ids with those that a line tells. The first id for a label stays
abbrev pub TellsId : {A : Type 0} → Option (List ℕ) → Option A → Held A → Held A → Type 0
TellsId label id ids more = (other : List ℕ) → id_for more other ≡ option_or (id_for ids other) (told_for label id other)
