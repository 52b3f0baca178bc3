-- The verdict on an item by how many bytes it has: a message, and a packet at the end of a channel.
use Rattle.std.proofs.Common.{◌≡◌, ℕ, Bool, true, false, List, [], ◌∷◌, length, Option, Some, None, refl, sym, ap, ◌∙◌, subst}
use Rattle.std.specs.Prelude.{◌&&◌, is_some, not, option_map, slice_get}
use Rattle.mc_base.specs.Letter.{Carrier, of_message, of_packet, carried, msg, packet}
use Rattle.mc_base.specs.declared.channel.Kind.TheVariants.{Packet}
use Rattle.mc_base.specs.declared.fate.Fate.{Fate}
use Rattle.mc_base.specs.declared.fate.Fate.TheVariants as fate
use Rattle.board_model.specs.ChannelEnds.{end_row, end_row_of, first_end_row, hears_from, is_closed, left_row, same_kind}
use Rattle.board_model.specs.Parts.{Came}
use Rattle.board_model.specs.State.{ChannelEnd, DomainState, endpoint_of, place_of_address}
use Rattle.board_model.specs.TakenFrames.{first_row, item_of, letter_rows, message_item, row}
use Rattle.buffer_book.specs.Book.{Book}
use Rattle.packet_channel.specs.End.{end_of}
use Rattle.packet_channel.specs.declared.channel.Channel.{Channel}
use Rattle.request_set.specs.Requests.{Requests}
use Rattle.domain_parts.specs.declared.dealing.Verdict.{Verdict}
use Rattle.domain_parts.specs.declared.dealing.Verdict.TheVariants as verdict
use Rattle.domain_parts.specs.declared.endpoints.Endpoint.{Endpoint}
use Rattle.domain_parts.specs.Accepting.{DoesBy, Hears}
use Rattle.domain_parts.specs.InBook.{endpoints_in}
use Rattle.domain_parts.specs.InRequests.{AreReceives}
use Rattle.domain_parts.specs.Items.{BringsMessage, BringsUnless}
use Rattle.domain_parts.specs.Pieces.{carrier_channel, carrier_priority}
use Rattle.domain_parts.specs.Records.{Records}
use Rattle.domain_parts.specs.Table.{holding}
use Rattle.domain_parts.specs.Verdicts.{Brings, Desk, IsJudged, Shows, item_with, letter_row, nothing}
use Rattle.domain_parts.proofs.Judging.{brought-judged, has-read, message-row, no-channel, on-channel, some-channel}

-- what is carried is an item, with the priority and the channel of its carrier
pub carried-item : (k : Carrier) (content : List ℕ) (came : Came) (peer source : ℕ) → item_of peer came source (carried k content) ≡ item_with came.names peer source (carrier_priority k) (carrier_channel k) content
carried-item (of_message priority) content came peer source = refl
carried-item (of_packet number) content came peer source = refl

-- one to no endpoint
pub nobody-item : (k : Carrier) (content : List ℕ) (s : DomainState) (came : Came) (peer source dst : ℕ) → endpoint_of s dst ≡ None → letter_row s came peer source dst (carried k content) ≡ row true fate.NoEndpoint []
nobody-item (of_message priority) content s came peer source dst none = ap (λ o. first_row (letter_rows s peer came source dst o (msg priority content))) none
nobody-item (of_packet number) content s came peer source dst none = ap (λ o. first_row (letter_rows s peer came source dst o (packet number content))) none

-- ---- a message

module _ (b : Book) (d : Desk) (s : DomainState) (peer : ℕ) (shows : Shows s peer b d) (dst at : ℕ) (e : Endpoint) (there : Some at ≡ place_of_address (holding (endpoints_in b d.records.endpoints)) dst) (get : slice_get d.records.endpoints at ≡ Some e)
    (came : Came) (source priority : ℕ) (content : List ℕ) (receives : AreReceives d.requests) (size : ℕ) (long : size ≡ length content) (v : Verdict) where
  by_channel : (has : Bool) → is_some e.channel ≡ has → BringsUnless has d.records d.requests at priority size v → IsJudged s came peer source dst (msg priority content) v d d
  by_channel true has does =
      let some = some-channel e.channel has in
      subst (λ w. IsJudged s came peer source dst (msg priority content) w d d) (sym does)
      (record { effect = nothing; applies = true; row_is = on-channel b d s peer shows dst at e there get came source priority content some.0 some.1; returned = refl; placed = tt; left = refl })
  by_channel false has does =
      let l = msg priority content in
      let row = message-row b d s peer shows dst at e there get came source priority content (no-channel e.channel has) in
      brought-judged b d s peer shows dst at e there get (letter_row s came peer source dst l) (message_item peer came source priority content) row came source l refl refl tt receives priority size refl long v does

  pub message-judged : BringsMessage d.records d.requests at priority size v → IsJudged s came peer source dst (msg priority content) v d d
  message-judged m = by_channel m.has (has-read d.records.endpoints at e get m.has m.there) m.does

-- ---- a packet

-- the words that an end of a channel has for a packet
abbrev IsPacketWord : Fate → Type 0
IsPacketWord fate.Queued = Unit {0}
IsPacketWord fate.Closed = Unit {0}
IsPacketWord fate.State = Unit {0}
IsPacketWord other = ⊥

packet-word : (peer number : ℕ) (content : List ℕ) (c : ChannelEnd) → IsPacketWord (end_row_of peer (Some c) (packet number content)).word
packet-word peer number content c = go (hears_from peer number c && (same_kind c.kind Packet && (not c.far_closed && is_closed c.stage))) (hears_from peer number c && (same_kind c.kind Packet && not c.far_closed))
  where
    go : (a b : Bool) → IsPacketWord (first_end_row (end_row a fate.Closed (Some c) ∷ end_row b fate.Queued (Some c) ∷ []) (left_row (Some c))).word
    go true b = tt
    go false true = tt
    go false false = tt

module _ (r : Records) (q : Requests) (peer place number : ℕ) (content : List ℕ) where
  returned_so : (word : Fate) (left : Option ChannelEnd) → IsPacketWord word → (word ≡ fate.Queued → ⊥) → DoesBy word left r r q q place (packet number content) (verdict.Returned word)
  returned_so fate.Queued left is other = absurd (other refl)
  returned_so fate.Closed left is other = (refl, refl, refl)
  returned_so fate.State left is other = (refl, refl, refl)
  returned_so word left is other = absurd is

  -- there is no channel
  pub packet-nowhere : Some None ≡ option_map (λ (e : Endpoint). e.channel) (slice_get r.endpoints place) → Hears r r q q peer place (packet number content) (verdict.Returned fate.State)
  packet-nowhere there = record { channel = None; there = there; does = (refl, refl, refl) }

  module _ (end : Channel) (there : Some (Some end) ≡ option_map (λ (e : Endpoint). e.channel) (slice_get r.endpoints place)) (word : Fate) (is : word ≡ (end_row_of peer (Some (end_of end)) (packet number content)).word) where
    abbrev left : Option ChannelEnd
    left = (end_row_of peer (Some (end_of end)) (packet number content)).leaves

    -- the channel takes it
    pub packet-brought : word ≡ fate.Queued → (v : Verdict) → Brings r q place 0 (length content) v → Hears r r q q peer place (packet number content) v
    packet-brought queued v brings = record { channel = Some end; there = there; does = subst (λ w. DoesBy w left r r q q place (packet number content) v) (sym queued ∙ is) (brings, refl, refl) }

    -- or not
    pub packet-returned : (word ≡ fate.Queued → ⊥) → Hears r r q q peer place (packet number content) (verdict.Returned word)
    packet-returned other =
        let lawful = subst IsPacketWord (sym is) (packet-word peer number content (end_of end)) in
        record { channel = Some end; there = there; does = subst (λ w. DoesBy w left r r q q place (packet number content) (verdict.Returned word)) is (returned_so word left lawful other) }
