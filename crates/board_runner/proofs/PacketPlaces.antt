-- The packet that is held for a label is lent where the label's packet is.
use Rattle.std.proofs.Common.{◌≡◌, ℕ, ◌+◌, ◌-◌, ◌<◌, ◌^◌, Bool, true, false, ◌&&◌, cond, List, [], ◌∷◌, Option, Some, None, position, option_map, option_and_then, refl, sym, ap, ap₂, ◌∙◌, arith, eq-eqb, eqb-true}
use Rattle.std.specs.Prelude.{◌==◌, unwrap_or, IfSome}
use Rattle.std.specs.List.{AllByRecursion, position_from}
use Rattle.std.proofs.lemmas.Bool.{ne_eqb}
use Rattle.std.proofs.lemmas.Iterator.Adapters.{position_from-zero}
use Rattle.mc_base.specs.declared.request.PacketId.{PacketId}
use Rattle.board_model.specs.Labels.{Labelled, serial_of, place_lent}
use Rattle.board_model.specs.State.{place_of_packet}
use Rattle.board_model.proofs.SerialRequests.{position-map}
use Rattle.domain_core.specs.DomainView.{place_of_packet_id, has_packet_id}
use Rattle.board_runner.specs.Held.{PacketIds, id_for, packet_or_none, no_packet}
use Rattle.board_runner.specs.Near.{RunDomain}
use Rattle.board_runner.specs.Stations.{IsKnownPacket, HoldsPackets}
use Rattle.board_runner.proofs.SerialPackets.{place_is}

-- no packet has the serial of no packet
and_last : (a b c : Bool) → c ≡ false → (a && (b && c)) ≡ false
and_last true true c off = off
and_last true false c off = refl
and_last false b c off = refl

nowhere_from : (k lent : ℕ) (ids : List PacketId) → lent < 2 ^ 64 → AllByRecursion (λ i. i.serial < lent) ids → position_from (has_packet_id no_packet) k ids ≡ None
nowhere_from k lent [] small all = refl
nowhere_from k lent (i ∷ is) small all =
    let less : i.serial < lent = all.0 in
    ap (λ (b : Bool). cond b (Some k) (position_from (has_packet_id no_packet) (k + 1) is)) (and_last (i.peer == 255) (i.buffer == 0) (i.serial == 2 ^ 64 - 1) (ne_eqb i.serial (2 ^ 64 - 1) (λ e. absurd (omega (arith, less, small, e)))))
    ∙ nowhere_from (k + 1) lent is small all.1

nowhere : (lent : ℕ) (ids : List PacketId) → lent < 2 ^ 64 → AllByRecursion (λ i. i.serial < lent) ids → position (has_packet_id no_packet) ids ≡ None
nowhere lent ids small all = position_from-zero (has_packet_id no_packet) ids ∙ nowhere_from 0 lent ids small all

-- where no other has its serial, its place is that of the serial
same_ids : (id i : PacketId) → (i.serial ≡ id.serial → i ≡ id) → has_packet_id id i ≡ (i.serial == id.serial)
same_ids id i only = go (i.serial == id.serial) refl
  where
    go : (b : Bool) → (i.serial == id.serial) ≡ b → has_packet_id id i ≡ b
    go false is = and_last (i.peer == id.peer) (i.buffer == id.buffer) (i.serial == id.serial) is
    go true is =
        let same = only (eqb-true i.serial id.serial is) in
        ap₂ (λ (a b : Bool). a && (b && (i.serial == id.serial))) (eq-eqb i.peer id.peer (ap (λ (x : PacketId). x.peer) same)) (eq-eqb i.buffer id.buffer (ap (λ (x : PacketId). x.buffer) same)) ∙ is

pub packet_held : (d : RunDomain) (held : PacketIds) (labels : List Labelled) (k : ℕ) (label : List ℕ) → HoldsPackets d held labels k → place_of_packet_id d.packets (packet_or_none held label) ≡ place_lent labels d.state label
packet_held d held labels k label h = go (id_for held label) (h.told label) (h.known label)
  where
    agree : (id : PacketId) (is : List PacketId) → AllByRecursion (λ i. i.serial ≡ id.serial → i ≡ id) is → AllByRecursion (λ i. has_packet_id id i ≡ (i.serial == id.serial)) is
    agree id [] all = tt
    agree id (i ∷ is) all = (same_ids id i all.0, agree id is all.1)

    go : (o : Option PacketId) → option_map (λ i. i.serial) o ≡ serial_of labels label → IfSome o (IsKnownPacket d) → place_of_packet_id d.packets (unwrap_or o no_packet) ≡ place_lent labels d.state label
    go None told known = nowhere d.state.packets_lent d.packets h.small h.lent ∙ ap (option_and_then (place_of_packet d.state)) told
    go (Some id) told known =
        position-map (has_packet_id id) (λ m. m == id.serial) (λ i. i.serial) d.packets (agree id d.packets known.only)
        ∙ ap (position (λ m. m == id.serial)) h.serials ∙ sym (place_is d.state id.serial) ∙ ap (option_and_then (place_of_packet d.state)) told
