-- The ids of packets that a runner holds go along with the labels of the run.
use Rattle.std.proofs.Common.{◌≡◌, ℕ, ◌+◌, ◌<◌, ◌≤◌, ◌^◌, List, ◌++◌, length, map, Option, Some, None, option_map, option_to_list, refl, sym, ap, ap₂, ◌∙◌, subst, arith}
use Rattle.std.specs.Prelude.{IfSome}
use Rattle.std.specs.Option.{option_or}
use Rattle.std.specs.List.{AllByRecursion}
use Rattle.std.proofs.lemmas.List.{map-append}
use Rattle.mc_base.specs.declared.request.PacketId.{PacketId}
use Rattle.board_model.specs.DomainCall.{DomainCall, create_at, delete_at, lookup_of, send_from, receive_at, request_at, available_at, connect_from, open_at, packet_from, lend_at, packet_request_at, release_of, scalar_from, scalar_at, close_at, test_of, wait_for, cancel_of, raw_to, turn_alone}
use Rattle.board_model.specs.Answer.{refusal, unless_refused}
use Rattle.board_model.specs.CallChanges.{effect}
use Rattle.board_model.specs.Labels.{Labelled, serial_of, packet_given, with_label}
use Rattle.board_model.specs.Lists.{without}
use Rattle.board_model.specs.State.{DomainState}
use Rattle.board_model.proofs.MessageAlls.{all-weaken}
use Rattle.board_model.proofs.SerialRequests.{map-without}
use Rattle.domain_core.specs.Calls.{place_released, success_releases}
use Rattle.board_runner.specs.Held.{PacketIds, id_for, told_for, TellsId}
use Rattle.board_runner.specs.Near.{RunDomain}
use Rattle.board_runner.specs.Stations.{IsKnownPacket, HoldsPackets}
use Rattle.board_runner.proofs.HeldLemmas.{all_ids, few_more, if_or, if_told, if_weaker, map-option, map-or, serial_after}
use Rattle.board_runner.proofs.SerialPackets.{packets, call_packets, call_lends, lent_is_next, success_released}

same_releases : (call : DomainCall) → success_releases call ≡ success_released call
same_releases (release_of place) = refl
same_releases (create_at port) = refl
same_releases (delete_at port) = refl
same_releases (lookup_of name) = refl
same_releases (send_from port to priority bytes) = refl
same_releases (receive_at port max) = refl
same_releases (request_at port max) = refl
same_releases (available_at port) = refl
same_releases (connect_from port to kind) = refl
same_releases (open_at port side kind) = refl
same_releases (packet_from port bytes) = refl
same_releases (lend_at port) = refl
same_releases (packet_request_at port) = refl
same_releases (scalar_from port bits value) = refl
same_releases (scalar_at port bits) = refl
same_releases (close_at port side) = refl
same_releases (test_of p) = refl
same_releases (wait_for requests says_place) = refl
same_releases (cancel_of p) = refl
same_releases (raw_to to bytes) = refl
same_releases turn_alone = refl

-- the packet that a call lends has the next serial
next_packet : (s : DomainState) (node : ℕ) (call : DomainCall) (lent : Option PacketId) → option_map (λ i. i.serial) lent ≡ packet_given s node call → IfSome lent (λ i. i.serial ≡ s.packets_lent)
next_packet s node call None gave = tt
next_packet s node call (Some i) gave = lent_is_next s node call i.serial (sym gave)

-- ---- a call

-- what is held after a call, once the packet that it lends is held for its label
module _ (old new : RunDomain) (held more : PacketIds) (labels : List Labelled) (k node : ℕ) (call : DomainCall) (label : Option (List ℕ)) (lent : Option PacketId) (small : k + 1 < 2 ^ 64) (h : HoldsPackets old held labels k) (is : new.state ≡ effect old.state node call) (stays : new.packets ≡ without (place_released old.state node call) old.packets ++ option_to_list lent) (gave : option_map (λ i. i.serial) lent ≡ packet_given old.state node call) (tells : TellsId label lent held more) where
  abbrev total : ℕ
  total = (effect old.state node call).packets_lent

  abbrev place : Option ℕ
  place = place_released old.state node call

  counts : total ≡ old.state.packets_lent + length (option_to_list (packet_given old.state node call))
  counts = call_lends old.state node call (omega (arith, small, h.few))

  now : new.state.packets_lent ≡ total
  now = ap (λ (x : DomainState). x.packets_lent) is

  rises : old.state.packets_lent ≤ new.state.packets_lent
  rises = omega (arith, counts, now)

  next : IfSome lent (λ i. i.serial ≡ old.state.packets_lent)
  next = next_packet old.state node call lent gave

  below : (o : Option PacketId) → lent ≡ o → IfSome o (λ i. i.serial ≡ old.state.packets_lent) → IfSome o (λ i. i.serial < new.state.packets_lent)
  below None is_it at = tt
  below (Some i) is_it at = omega (arith, at, counts, now, ap (λ (o : Option ℕ). length (option_to_list o)) (sym gave ∙ ap (option_map (λ (j : PacketId). j.serial)) is_it))

  still_known : (i : PacketId) → IsKnownPacket old i → IsKnownPacket new i
  still_known i known =
      let less = known.lent in
      record {
        lent = omega (arith, less, rises);
        only = all_ids (λ j. j.serial ≡ i.serial → j ≡ i) place old.packets new.packets lent stays known.only (if_weaker (λ j. j.serial ≡ old.state.packets_lent) (λ j. j.serial ≡ i.serial → j ≡ i) lent (λ j at e. absurd (omega (arith, at, e, less))) next);
      }

  newly_known : (o : Option PacketId) → lent ≡ o → IfSome o (λ i. i.serial ≡ old.state.packets_lent) → IfSome o (IsKnownPacket new)
  newly_known None is_it at = tt
  newly_known (Some i) is_it at = record {
    lent = below (Some i) is_it at;
    only = all_ids (λ j. j.serial ≡ i.serial → j ≡ i) place old.packets new.packets (Some i) (stays ∙ ap (λ (o : Option PacketId). without place old.packets ++ option_to_list o) is_it) (all-weaken (λ j. j.serial < old.state.packets_lent) (λ j. j.serial ≡ i.serial → j ≡ i) (λ j less e. absurd (omega (arith, less, e, at))) old.packets h.lent) (λ e. refl);
  }

  serial_list : map (λ (i : PacketId). i.serial) new.packets ≡ packets (effect old.state node call)
  serial_list =
      ap (map (λ (i : PacketId). i.serial)) stays
      ∙ map-append (λ (i : PacketId). i.serial) (without place old.packets) (option_to_list lent)
      ∙ ap₂ (λ (xs ys : List ℕ). xs ++ ys) (map-without (λ (i : PacketId). i.serial) place old.packets ∙ ap (without place) h.serials) (map-option (λ (i : PacketId). i.serial) lent ∙ ap option_to_list gave)
      ∙ ap (λ (q : Option ℕ). without q (packets old.state) ++ option_to_list (packet_given old.state node call)) (ap (unless_refused (refusal old.state node call) None) (same_releases call))
      ∙ sym (call_packets old.state node call)

  pub packets_after : HoldsPackets new more (with_label labels label (packet_given old.state node call)) (k + 1)
  packets_after = record {
    few = omega (arith, now, counts, h.few, few_more (packet_given old.state node call));
    small = omega (arith, now, counts, h.few, small, few_more (packet_given old.state node call));
    serials = serial_list ∙ sym (ap packets is);
    lent = all_ids (λ i. i.serial < new.state.packets_lent) place old.packets new.packets lent stays (all-weaken (λ (i : PacketId). i.serial < old.state.packets_lent) (λ (i : PacketId). i.serial < new.state.packets_lent) (λ i lt. omega (arith, lt, rises)) old.packets h.lent) (below lent refl next);
    told = λ other. ap (option_map (λ (i : PacketId). i.serial)) (tells other) ∙ map-or (λ (i : PacketId). i.serial) (id_for held other) (told_for label lent other)
        ∙ ap (λ (x : Option ℕ). option_or x (option_map (λ (i : PacketId). i.serial) (told_for label lent other))) (h.told other)
        ∙ sym (serial_after (λ (i : PacketId). i.serial) labels label lent other) ∙ ap (λ (o : Option ℕ). serial_of (with_label labels label o) other) gave;
    known = λ other. subst (λ (o : Option PacketId). IfSome o (IsKnownPacket new)) (sym (tells other)) (if_or (IsKnownPacket new) (id_for held other) (told_for label lent other)
        (if_weaker (IsKnownPacket old) (IsKnownPacket new) (id_for held other) still_known (h.known other))
        (if_told (IsKnownPacket new) label lent other (newly_known lent refl next)));
  }

-- ---- where the packets stay

pub packets_stay : (d d' : RunDomain) (held : PacketIds) (labels : List Labelled) (lines : ℕ) → d'.state.packets_lent ≡ d.state.packets_lent → packets d'.state ≡ packets d.state → d'.packets ≡ d.packets → HoldsPackets d held labels lines → HoldsPackets d' held labels lines
packets_stay d d' held labels lines lent serials same h = record {
  few = omega (arith, h.few, lent);
  small = omega (arith, h.small, lent);
  serials = ap (map (λ (i : PacketId). i.serial)) same ∙ h.serials ∙ sym serials;
  lent = subst (AllByRecursion (λ (i : PacketId). i.serial < d'.state.packets_lent)) (sym same) (subst (λ (g : ℕ). AllByRecursion (λ (i : PacketId). i.serial < g) d.packets) (sym lent) h.lent);
  told = h.told;
  known = λ label. if_weaker (IsKnownPacket d) (IsKnownPacket d') (id_for held label) still (h.known label);
}
  where
    still : (id : PacketId) → IsKnownPacket d id → IsKnownPacket d' id
    still id known =
        let less = known.lent in
        record { lent = omega (arith, less, lent); only = subst (AllByRecursion (λ (i : PacketId). i.serial ≡ id.serial → i ≡ id)) (sym same) known.only }
