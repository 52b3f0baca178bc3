-- The load board of n packets: four domains in a ring of links, of which each sends n packets to the domain after it over one
-- channel, and receives and releases those of the domain before it.
-- Source: docs/FORMATS.md, "The load board". The lines come in groups. Each group is written for the domains 0 to 3 before the next begins.
use Rattle.std.specs.Prelude.{ℕ, zero, suc, ◌+◌, ◌%◌, List, [], ◌∷◌, ◌++◌, map, codes}
use Rattle.std.specs.List.{flat_map}
use Rattle.byteorder.specs.Endian.{little_bytes}
use Rattle.mc_base.specs.declared.name.EndName.{EndName}
use Rattle.mc_base.specs.declared.channel.Kind.TheVariants.{Packet}
use Rattle.board_model.specs.declared.scenario.DomainLine.{DomainLine}
use Rattle.board_model.specs.declared.scenario.LinkLine.{LinkLine}
use Rattle.board_model.specs.declared.scenario.Call.TheVariants.{Create, Lookup, Connect, OpenSend, OpenRecv, PktSend, PktRecv, Release, CloseSend, CloseRecv}
use Rattle.board_model.specs.declared.scenario.CallLine.{CallLine}
use Rattle.board_model.specs.declared.scenario.Scenario.{Scenario}
use Rattle.board_model.specs.Forms.{label_of}
use Rattle.board_model.specs.MadeLines.{once, tried, labelled, labelled_tried, waited, packet_label}

-- ---- the ring

abbrev pub ring_numbers : List ℕ
ring_numbers = 0 ∷ 1 ∷ 2 ∷ 3 ∷ []

-- the domain after one on the ring
abbrev pub next_on_ring : ℕ → ℕ
next_on_ring d = (d + 1) % 4

abbrev pub ring_domain : ℕ → DomainLine
ring_domain d = record { domain = d; nodes = 1; pool = 2 }

abbrev pub ring_link : ℕ → LinkLine
ring_link d = record { driver = d; device = next_on_ring d; size = 16 }

-- the endpoint at which the next domain receives
abbrev pub far_end : ℕ → EndName
far_end d = record { domain = next_on_ring d; node = 0; port = 2 }

-- ---- the groups, each by its lines of a domain

abbrev pub creates : ℕ → List CallLine
creates d = once d (Create 1) ∷ once d (Create 2) ∷ []

abbrev pub lookups : ℕ → List CallLine
lookups d = labelled d (codes "a") (Lookup (far_end d)) ∷ waited d (codes "a") ∷ []

abbrev pub connects : ℕ → List CallLine
connects d = labelled_tried d (codes "c") (Connect 1 (far_end d) Packet) ∷ waited d (codes "c") ∷ []

abbrev pub opens : ℕ → List CallLine
opens d = tried d (OpenRecv 2 Packet) ∷ tried d (OpenSend 1 Packet) ∷ []

-- the bytes of a packet are its number
abbrev pub packet_bytes : ℕ → List ℕ
packet_bytes k = little_bytes 4 k

abbrev pub sends : ℕ → ℕ → List CallLine
sends k d = tried d (PktSend 1 (packet_bytes k)) ∷ []

abbrev pub receives : ℕ → ℕ → List CallLine
receives k d = labelled_tried d (packet_label k) (PktRecv 2) ∷ []

abbrev pub releases : ℕ → ℕ → List CallLine
releases k d = once d (Release (label_of (packet_label k))) ∷ []

abbrev pub closes : ℕ → List CallLine
closes d = tried d (CloseSend 1) ∷ tried d (CloseRecv 2) ∷ []

-- ---- the board

-- a group, for each domain
abbrev pub for_each : (ℕ → List CallLine) → List CallLine
for_each group = flat_map group ring_numbers

-- the channels are made
abbrev pub opening : List CallLine
opening = for_each creates ++ (for_each lookups ++ (for_each connects ++ for_each opens))

-- the packet of this number goes over each
abbrev pub exchange : ℕ → List CallLine
exchange k = for_each (sends k) ++ (for_each (receives k) ++ for_each (releases k))

-- the packets from 1 to this number
abbrev pub exchanges : ℕ → List CallLine
exchanges zero = []
exchanges (suc n) = exchanges n ++ exchange (suc n)

-- and the channels are closed
abbrev pub closing : List CallLine
closing = for_each closes

abbrev pub load_calls : ℕ → List CallLine
load_calls n = opening ++ (exchanges n ++ closing)

-- the ring, with these lines
abbrev pub ring_board : List CallLine → Scenario
ring_board calls = record { domains = map ring_domain ring_numbers; links = map ring_link ring_numbers; calls = calls }

-- it is not unfolded, so that a proof never computes a run of it
unfoldable pub load_board : ℕ → Scenario
load_board n = ring_board (load_calls n)

-- the most packets
abbrev pub load_limit : ℕ
load_limit = 100000
