-- What the steps of the calls mean that send and receive items on channels.
use Rattle.std.proofs.Common.{◌≡◌, ℕ, Bool, true, false, cond, List, [], ◌∷◌, ◌<◌, ◌≤◌, drop, take, length, map, Option, Some, None, refl, sym, ap, ◌∙◌, arith}
use Rattle.std.specs.Prelude.{Err, Ok, Result, nat_lt, not, option_and_then, option_map, option_to_list, position, slice_get, ◌==◌, ◌||◌}
use Rattle.std.specs.List.{flat_map}
use Rattle.std.proofs.lemmas.Bool.{ne_eqb}
use Rattle.std.proofs.lemmas.List.{append-nil, take_all}
use Rattle.byteorder.specs.Endian.{little_number}
use Rattle.mc_base.specs.Letter.{PlainLetter, bytes_of_bits}
use Rattle.mc_base.specs.Limits.{item_size}
use Rattle.mc_base.specs.Pieces.{frames_needed}
use Rattle.mc_base.specs.declared.channel.Bits.{Bits}
use Rattle.mc_base.specs.declared.channel.Bits.TheVariants as bits
use Rattle.mc_base.specs.declared.channel.Kind.TheVariants.{Packet, Scalar}
use Rattle.mc_base.specs.declared.name.Local.{Local}
use Rattle.mc_base.specs.declared.refusal.Refusal.{Refusal}
use Rattle.mc_base.specs.declared.refusal.Refusal.TheVariants.{Empty, NoBuffer, PktSize, SclSize}
use Rattle.mc_base.specs.declared.refusal.SclSize as size
use Rattle.mc_base.specs.declared.request.Slot.{Slot}
use Rattle.board_model.specs.Answer.{Post, channel_at, is_of_other_size, lacks_buffers, over_end, passes_lane, post, puts_of, refusal, success_posts, success_puts, value_of}
use Rattle.board_model.specs.CallChanges.{at_end, at_live, success_changes, success_returned}
use Rattle.board_model.specs.ChannelEnds.{end_refusal, receives, sends}
use Rattle.board_model.specs.Change.{buffers_used, changed, changed_all, oldest_gone, with_queue}
use Rattle.board_model.specs.Choice.{oldest}
use Rattle.board_model.specs.DomainCall.{DomainCall, packet_from, scalar_at}
use Rattle.board_model.specs.Journal.{tells}
use Rattle.board_model.specs.Labels.{success_packet}
use Rattle.board_model.specs.State as state
use Rattle.board_model.specs.State.{ChannelEnd, DomainState, Item, address_at, live_at, place_at, queue_at, queue_in}
use Rattle.message_queue.specs.Queue.{Waiting}
use Rattle.packet_channel.specs.End.{may}
use Rattle.scalar_channel.specs.Scalar.{scalar_of}
use Rattle.domain_parts.specs.AllMoved.{moves_at}
use Rattle.domain_parts.specs.LaneSeen.{LaneSeen}
use Rattle.domain_parts.specs.declared.peer.Peer.{Peer}
use Rattle.domain_parts.specs.Calls.{success_ends, success_releases}
use Rattle.domain_parts.specs.CallSteps.{Means, call_steps, dropped_at, if_some, oldest_slot, putting_all}
use Rattle.domain_parts.specs.InBook.{endpoints_in, numbered_at, item_in}
use Rattle.domain_parts.specs.Parts.{Parts, Sound, plain, state_of}
use Rattle.domain_parts.specs.Records.{waiting_in}
use Rattle.domain_parts.specs.Steps.{Step, all_moves, done, done_all}
use Rattle.board_model.proofs.StateEnds.{by_address}
use Rattle.domain_parts.proofs.CallsAgree.{returned-agrees, there_at}
use Rattle.domain_parts.proofs.ChannelMeaning.{changed-there, end-changes}
use Rattle.domain_parts.proofs.Channels.{answered-none, answered-word, data-words, or_then, posts-are}
use Rattle.domain_parts.proofs.Ending.{ids_in}
use Rattle.domain_parts.proofs.Dropping.{one-dropped}
use Rattle.domain_parts.proofs.Meaning.{one-gave}
use Rattle.domain_parts.proofs.Posting.{posted-means}
use Rattle.domain_parts.proofs.Removing.{gone-items}
use Rattle.domain_parts.proofs.StateFits.{ends-of}
use Rattle.domain_parts.proofs.Steps.{oldest_dropped-left}
use Rattle.domain_parts.proofs.Waits.{queue-there}

-- an item is sent over the channel of an endpoint
module _ (p : Parts) (sound : Sound p) (at : Local) (i : ℕ) (there : place_at (state_of p) at ≡ Some i) (c : ChannelEnd) (has : channel_at (state_of p) at ≡ Some c) (a : ℕ) (address : Some a ≡ address_at (state_of p) at)
    (call : DomainCall) (letter : ℕ → PlainLetter) where
  abbrev pub post_there : Post
  post_there = post c.peer a c.peer_address (letter c.number)

  pub data-puts : success_puts (state_of p) at.node call ≡ flat_map puts_of (success_posts (state_of p) at.node call) → success_posts (state_of p) at.node call ≡ over_end (state_of p) at letter → success_puts (state_of p) at.node call ≡ puts_of post_there
  data-puts puts posts = puts ∙ ap (flat_map puts_of) (posts ∙ posts-are (state_of p) at a c address has letter) ∙ append-nil (puts_of post_there)

  pub data-means : (j : ℕ) → Some j ≡ position (λ (x : Peer LaneSeen). x.number == c.peer) p.peers → success_puts (state_of p) at.node call ≡ puts_of post_there → call_steps p at.node call None ≡ putting_all (success_puts (state_of p) at.node call)
      → success_changes (state_of p) at.node call ≡ at_end (live_at (state_of p) at) (λ e d. buffers_used d.peer (frames_needed (letter d.number)) ∷ []) → success_returned (state_of p) at.node call ≡ [] → success_ends (state_of p) call ≡ None → success_releases call ≡ None → success_packet (state_of p) call ≡ None → Means p at.node call None
  data-means j peer puts steps changes = posted-means p sound at.node call post_there j peer puts steps (ap (changed_all (state_of p)) (changes ∙ end-changes p sound at i there c has a address j peer (λ e d. buffers_used d.peer (frames_needed (letter d.number)) ∷ [])))

-- the words of the send of a packet: those of the end, and then its own
module _ (s : DomainState) (at : Local) (i : ℕ) (c : ChannelEnd) (there : place_at s at ≡ Some i) (has : channel_at s at ≡ Some c) (bytes : List ℕ) where
  abbrev pub packet_long : Bool
  packet_long = nat_lt item_size (length bytes) || passes_lane s (success_puts s at.node (packet_from at.port bytes))

  abbrev packet_rest : Option Refusal
  packet_rest = cond packet_long (Some PktSize) (cond (lacks_buffers s (success_puts s at.node (packet_from at.port bytes))) (Some NoBuffer) None)

  pub packet-refused : (word : Refusal) → Err word ≡ may (sends Packet) c → refusal s at.node (packet_from at.port bytes) ≡ Some word
  packet-refused word is = data-words s at.node at.port i c there has (sends Packet) packet_rest ∙ ap (λ (o : Option Refusal). or_then o packet_rest) (answered-word _ word is)

  pub packet-words : (long : Bool) → Ok tt ≡ may (sends Packet) c → packet_long ≡ long → refusal s at.node (packet_from at.port bytes) ≡ cond long (Some PktSize) (cond (lacks_buffers s (success_puts s at.node (packet_from at.port bytes))) (Some NoBuffer) None)
  packet-words long may_do size =
      data-words s at.node at.port i c there has (sends Packet) packet_rest
      ∙ ap (λ (o : Option Refusal). or_then o packet_rest) (answered-none _ may_do)
      ∙ ap (λ (b : Bool). cond b (Some PktSize) (cond (lacks_buffers s (success_puts s at.node (packet_from at.port bytes))) (Some NoBuffer) None)) size

-- ---- the oldest item at an endpoint

module _ (p : Parts) (sound : Sound p) (at : Local) (i : ℕ) (there : place_at (state_of p) at ≡ Some i) (s : Slot) (first : Some s ≡ option_map (λ (w : Waiting). w.slot) (oldest (waiting_in (slice_get p.records.endpoints i)))) where
  pub oldest-there : oldest (queue_at (state_of p) at) ≡ Some (numbered_at p.book s)
  oldest-there =
      ap (λ (q : List Item). oldest q) (sym (gone-items plain p.book p.records p.requests p.table p.peers at i sound there))
      ∙ ap (λ (ss : List Slot). oldest (map (numbered_at p.book) ss)) (oldest_dropped-left p sound i s first)

  abbrev the : (e : state.Endpoint) × (live_at (state_of p) at ≡ Some e)
  the = there_at (state_of p) at i there

  taken-state : state_of (done (dropped_at p.book i s) p) ≡ changed (state_of p) (oldest_gone the.0.address)
  taken-state =
      let by = by_address at (state_of p).endpoints the.0 (ends-of plain p.book p.records p.requests p.table p.peers sound).apart the.1 in
      one-dropped p sound i s first
      ∙ ap (λ (es : List state.Endpoint). record (state_of p) { endpoints = es }) (changed-there p at i the.0 there by.changes (with_queue (drop 1)))

  -- it is dropped by the receive of a scalar
  module _ (bits : Bits) where
    pub scalar-steps : call_steps p at.node (scalar_at at.port bits) None ≡ dropped_at p.book i s ∷ []
    scalar-steps =
        ap (λ (o : Option ℕ). if_some o (λ k. if_some (oldest_slot p k) (λ x. dropped_at p.book k x ∷ []))) there
        ∙ ap (λ (o : Option Slot). if_some o (λ x. dropped_at p.book i x ∷ [])) (sym first)

    pub scalar-means : Means p at.node (scalar_at at.port bits) None
    scalar-means =
        let steps = scalar-steps in
        record {
          state = ap (λ (cs : List Step). state_of (done_all cs p)) steps ∙ taken-state ∙ sym (ap (λ (o : Option state.Endpoint). changed_all (state_of p) (at_live o (λ e. oldest_gone e.address ∷ []))) the.1);
          moves = λ n. ap (λ (cs : List Step). all_moves cs n) steps ∙ one-gave p.book s n ∙ ap (λ (is : List Item). moves_at [] is n) (ap (λ (o : Option Item). option_to_list o) (sym oldest-there) ∙ returned-agrees (state_of p) at.node (scalar_at at.port bits));
          ids = ap (λ (cs : List Step). ids_in (done_all cs p).requests) steps ∙ sym (append-nil (ids_in p.requests));
          fresh = tt;
          lent = None;
          packets = ap (λ (cs : List Step). (done_all cs p).records.lent) steps ∙ sym (append-nil p.records.lent);
          lends = refl;
        }

-- where nothing waits
pub no-oldest : (p : Parts) (at : Local) (i : ℕ) → place_at (state_of p) at ≡ Some i → None ≡ option_map (λ (w : Waiting). w.slot) (oldest (waiting_in (slice_get p.records.endpoints i))) → oldest (queue_at (state_of p) at) ≡ None
no-oldest p at i there none =
    ap (λ (o : Option ℕ). oldest (queue_in (option_and_then (λ j. slice_get (endpoints_in p.book p.records.endpoints) j) o))) there
    ∙ ap (λ (q : List Item). oldest q) (queue-there p.book p.records.endpoints i)
    ∙ go (waiting_in (slice_get p.records.endpoints i)) none
  where
    go : (ws : List Waiting) → None ≡ option_map (λ (w : Waiting). w.slot) (oldest ws) → oldest (map (item_in p.book) ws) ≡ None
    go [] e = refl
    go (w ∷ ws) e = absurd cc

-- ---- the front of a queue

pub no-front : (q : List Item) → None ≡ option_map (λ (i : Item). i.content) (oldest q) → (length q == 0) ≡ true
no-front [] none = refl
no-front (i ∷ q) none = absurd cc

pub some-front : (q : List Item) (bs : List ℕ) → Some bs ≡ option_map (λ (i : Item). i.content) (oldest q) → (length q == 0) ≡ false
some-front [] bs is = absurd cc
some-front (i ∷ q) bs is = grind arith

module _ (port : ℕ) (bits : Bits) where
  pub front-size : (q : List Item) (bs : List ℕ) → Some bs ≡ option_map (λ (i : Item). i.content) (oldest q) → is_of_other_size (scalar_at port bits) q ≡ not (length bs == bytes_of_bits bits)
  front-size [] bs is = absurd cc
  front-size (i ∷ q) bs is = let same : i.content ≡ bs = cc in ap (λ (xs : List ℕ). not (length xs == bytes_of_bits bits)) same

  pub front-value : (q : List Item) (bs : List ℕ) → Some bs ≡ option_map (λ (i : Item). i.content) (oldest q) → value_of bits (oldest q) ≡ tells (little_number (bytes_of_bits bits) bs)
  front-value [] bs is = absurd cc
  front-value (i ∷ q) bs is = let same : i.content ≡ bs = cc in ap (λ (xs : List ℕ). tells (little_number (bytes_of_bits bits) xs)) same

  abbrev sized : Bool → List ℕ → Result ℕ size.SclSize
  sized b bs = cond b (Ok (little_number (bytes_of_bits bits) bs)) (Err record {})

  pub scalar-fits : (bs : List ℕ) (v : ℕ) → Ok v ≡ scalar_of bits bs → ((length bs == bytes_of_bits bits) ≡ true) × (v ≡ little_number (bytes_of_bits bits) bs)
  scalar-fits bs v is = go (length bs == bytes_of_bits bits) is
    where
      go : (b : Bool) → Ok v ≡ sized b bs → (b ≡ true) × (v ≡ little_number (bytes_of_bits bits) bs)
      go true e = (refl, cc)
      go false e = absurd cc

  pub scalar-differs : (bs : List ℕ) → ((v : ℕ) → scalar_of bits bs ≡ Ok v → ⊥) → (length bs == bytes_of_bits bits) ≡ false
  scalar-differs bs never = go (length bs == bytes_of_bits bits) never
    where
      go : (b : Bool) → ((v : ℕ) → sized b bs ≡ Ok v → ⊥) → b ≡ false
      go true n = absurd (n (little_number (bytes_of_bits bits) bs) refl)
      go false n = refl

-- ---- the words of the receive of a scalar

abbrev pub scalar_rest : ℕ → Bits → List Item → Option Refusal
scalar_rest port bits q = cond (length q == 0) (Some Empty) (cond (is_of_other_size (scalar_at port bits) q) (Some SclSize) None)

module _ (s : DomainState) (at : Local) (i : ℕ) (c : ChannelEnd) (there : place_at s at ≡ Some i) (has : channel_at s at ≡ Some c) (bits : Bits) (queued : ℕ) (count : queued ≡ length (queue_at s at)) where
  pub scalar-words : refusal s at.node (scalar_at at.port bits) ≡ or_then (end_refusal (receives Scalar queued) (Some c)) (scalar_rest at.port bits (queue_at s at))
  scalar-words =
      let q = queue_at s at in
      data-words s at.node at.port i c there has (receives Scalar (length q)) (scalar_rest at.port bits q)
      ∙ ap (λ (n : ℕ). or_then (end_refusal (receives Scalar n) (Some c)) (scalar_rest at.port bits q)) (sym count)

  -- where the end refuses, and where it does not
  pub scalar-refused : (word : Refusal) → Err word ≡ may (receives Scalar queued) c → refusal s at.node (scalar_at at.port bits) ≡ Some word
  scalar-refused word is = scalar-words ∙ ap (λ (o : Option Refusal). or_then o (scalar_rest at.port bits (queue_at s at))) (answered-word _ word is)

  module _ (may_do : Ok tt ≡ may (receives Scalar queued) c) where
    scalar-rest : refusal s at.node (scalar_at at.port bits) ≡ scalar_rest at.port bits (queue_at s at)
    scalar-rest = scalar-words ∙ ap (λ (o : Option Refusal). or_then o (scalar_rest at.port bits (queue_at s at))) (answered-none _ may_do)

    pub scalar-empty : None ≡ option_map (λ (i : Item). i.content) (oldest (queue_at s at)) → refusal s at.node (scalar_at at.port bits) ≡ Some Empty
    scalar-empty none = scalar-rest ∙ ap (λ (b : Bool). cond b (Some Empty) (cond (is_of_other_size (scalar_at at.port bits) (queue_at s at)) (Some SclSize) None)) (no-front (queue_at s at) none)

    scalar-sized : (bs : List ℕ) → Some bs ≡ option_map (λ (i : Item). i.content) (oldest (queue_at s at)) → refusal s at.node (scalar_at at.port bits) ≡ cond (not (length bs == bytes_of_bits bits)) (Some SclSize) None
    scalar-sized bs is =
        scalar-rest
        ∙ ap (λ (b : Bool). cond b (Some Empty) (cond (is_of_other_size (scalar_at at.port bits) (queue_at s at)) (Some SclSize) None)) (some-front (queue_at s at) bs is)
        ∙ ap (λ (b : Bool). cond b (Some SclSize) None) (front-size at.port bits (queue_at s at) bs is)

    pub scalar-other : (bs : List ℕ) → Some bs ≡ option_map (λ (i : Item). i.content) (oldest (queue_at s at)) → (length bs == bytes_of_bits bits) ≡ false → refusal s at.node (scalar_at at.port bits) ≡ Some SclSize
    scalar-other bs is differs = scalar-sized bs is ∙ ap (λ (b : Bool). cond (not b) (Some SclSize) None) differs

    pub scalar-done : (bs : List ℕ) → Some bs ≡ option_map (λ (i : Item). i.content) (oldest (queue_at s at)) → (length bs == bytes_of_bits bits) ≡ true → refusal s at.node (scalar_at at.port bits) ≡ None
    scalar-done bs is fits = scalar-sized bs is ∙ ap (λ (b : Bool). cond (not b) (Some SclSize) None) fits

-- what is copied of the front of a queue: all of it where it is no longer than 8
abbrev size_by : Option Item → Option ℕ
size_by o = option_map (λ (i : Item). length i.content) o

pub front-none : (o : Option Item) → None ≡ size_by o → None ≡ option_map (λ (i : Item). i.content) o
front-none None none = refl
front-none (Some i) none = absurd cc

pub front-whole : (o : Option Item) (size : ℕ) (bs : List ℕ) → Some size ≡ size_by o → Some bs ≡ option_map (λ (i : Item). take 8 i.content) o → size ≤ 8 → Some bs ≡ option_map (λ (i : Item). i.content) o
front-whole None size bs sized is fits = absurd cc
front-whole (Some i) size bs sized is fits =
    let same : size ≡ length i.content = cc in
    is ∙ ap (λ (xs : List ℕ). Some xs) (take_all 8 i.content (omega (arith, same, fits)))

bits-most : (bits : Bits) → bytes_of_bits bits ≤ 8
bits-most bits.B8 = omega arith
bits-most bits.B16 = omega arith
bits-most bits.B32 = omega arith
bits-most bits.B64 = omega arith

pub front-longer : (o : Option Item) (size : ℕ) (bits : Bits) → Some size ≡ size_by o → 8 < size → (bs : List ℕ) × (Some bs ≡ option_map (λ (i : Item). i.content) o) × ((length bs == bytes_of_bits bits) ≡ false)
front-longer None size bits sized past = absurd cc
front-longer (Some i) size bits sized past =
    let same : size ≡ length i.content = cc in
    let other : (length i.content ≡ bytes_of_bits bits) → ⊥ = λ e. omega (arith, e, same, past, bits-most bits) in
    (i.content, refl, ne_eqb (length i.content) (bytes_of_bits bits) other)
