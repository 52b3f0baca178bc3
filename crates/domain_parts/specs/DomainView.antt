-- What contracts see of a domain.
-- Source: docs/PROFILE.md, "A domain", "Lanes" and "Requests".
use Rattle.std.specs.Prelude.{◌≡◌, ℕ, Bool, ◌&&◌, ◌==◌, List, position, slice_get, Option, option_and_then, option_map}
use Rattle.std.specs.List.{flat_map}
use Rattle.mc_base.specs.declared.request.PacketId.{PacketId}
use Rattle.mc_base.specs.declared.request.RequestId.{RequestId}
use Rattle.board_model.specs.State.{DomainState, LentPacket, packet_at_place}
use Rattle.board_model.specs.Unnamed.{unnamed}

-- the state, in which no frame has a name of its own; the same state with each frame named by the number of its buffer; the ends towards each peer, in the
-- order of the state's peers; the ids of the requests that stand and of the packets that are lent, in their orders in the state; and of each of these
-- packets the contents of its frames, oldest first
pub record DomainView (L : Type 0) : Type 0 where
  pub state : DomainState
  pub numbered : DomainState
  pub nameless : state ≡ unnamed numbered
  pub ends : List L
  pub ids : List RequestId
  pub packets : List PacketId
  pub pieces : List (List (List ℕ))

abbrev pub has_id : RequestId → RequestId → Bool
has_id id i = i.key == id.key && i.serial == id.serial

-- the place of the request with this id
abbrev pub place_of_id : List RequestId → RequestId → Option ℕ
place_of_id ids id = position (has_id id) ids

abbrev pub has_packet_id : PacketId → PacketId → Bool
has_packet_id id i = i.peer == id.peer && (i.buffer == id.buffer && i.serial == id.serial)

-- the place of the packet with this id
abbrev pub place_of_packet_id : List PacketId → PacketId → Option ℕ
place_of_packet_id ids id = position (has_packet_id id) ids

-- the packet that is lent with this id
abbrev pub packet_lent_as : {L : Type 0} → DomainView L → PacketId → Option LentPacket
packet_lent_as d id = packet_at_place d.state (place_of_packet_id d.packets id)

-- the contents of its frames, oldest first
abbrev pub pieces_lent_as : {L : Type 0} → DomainView L → PacketId → Option (List (List ℕ))
pieces_lent_as d id = option_and_then (λ i. slice_get d.pieces i) (place_of_packet_id d.packets id)

-- one after the other they are the bytes of the packet
abbrev pub content_by : Option (List (List ℕ)) → Option (List ℕ)
content_by pieces = option_map (λ ps. flat_map (λ p. p) ps) pieces
