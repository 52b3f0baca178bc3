-- What a frame's row does, whatever the frame says. A letter of a channel neither brings a message nor takes one.
use Rattle.board_model.specs.Parts.{Came}
use Rattle.std.proofs.Common.{◌≡◌, ℕ, Bool, true, false, not, cond, List, [], ◌∷◌, ◌++◌, length, Option, Some, None, refl, sym, ap, ap₂, ◌∙◌, filter, map, subst, arith}
use Rattle.std.specs.Prelude.{◌==◌, ◌&&◌, ◌||◌, is_some, is_none}
use Rattle.std.specs.List.{AllByRecursion, flat_map}
use Rattle.std.proofs.lemmas.Bool.{eqb-true, eq-eqb, and_parts}
use Rattle.mc_base.specs.Letter.{PlainLetter, msg, connect, accept, reject, recv_open, send_open, packet, scalar, send_close, recv_close}
use Rattle.mc_base.specs.FullName.{endpoint_named}
use Rattle.mc_base.specs.Reading.{Reading, is_faulty, announces, says, brings}
use Rattle.mc_base.specs.declared.fate.Fate.{Fate}
use Rattle.mc_base.specs.declared.fate.Fate.TheVariants as fate
use Rattle.mc_base.specs.declared.channel.Kind.{Kind}
use Rattle.mc_base.specs.declared.channel.Kind.TheVariants as kind
use Rattle.mc_base.specs.declared.channel.Reason.{Reason}
use Rattle.mc_base.specs.declared.channel.Reason.TheVariants as reason
use Rattle.mc_base.specs.declared.channel.Side.{Side}
use Rattle.mc_base.specs.declared.channel.Side.TheVariants.{Sender, Receiver}
use Rattle.mc_base.specs.declared.refusal.Refusal.TheVariants.{ChanClosed}
use Rattle.board_model.specs.State.{connected, Item, ChannelEnd, Endpoint, Outcome, is_accepted, is_rejected, DomainState, endpoint_of, Request, one_waits, oldest_waiting, peer_at}
use Rattle.board_model.specs.Change.{channel_set, waiting_ended, connect_settled, item_queued, item_handed, item_lost, with_channel, all_done, connects_on, changed}
use Rattle.board_model.specs.ChannelEnds.{same_side, same_kind, is_closed, is_connecting, hears_from, sends_to, accepted_end, far_closed_end, data_rows}
use Rattle.board_model.specs.Channels.{is_numbered}
use Rattle.board_model.specs.Deeds.{Deed, taken_change}
use Rattle.board_model.specs.Takings.{taking, is_message_taking, asked_address}
use Rattle.board_model.specs.MessageOrder.{is_queued, item_said}
use Rattle.board_model.specs.TakenFrames.{row, last_row, first_row, row_of, names_of, is_busy, accepting, rejecting, connect_rows, rows_by, channel_rows, letter_rows, item_of}
use Rattle.board_model.proofs.LaneRows.{by_rows}
use Rattle.board_model.proofs.OrderDeeds.{RowDoes, RowHands, quiet_row, idle_row, handed_row, named_rows, messages_do, queues, both_none}
use Rattle.board_model.proofs.OrderEnds.{Follows, mute_sender, far_follows, set_fits, set_same, item_same}
use Rattle.board_model.proofs.OrderQueues.{messages_at, messages_none, queued_same}
use Rattle.board_model.proofs.OrderRequests.{kept, turned, Settles, settles_nothing, settled_turns, ended_by}
use Rattle.board_model.proofs.OrderSerials.{Differ}
use Rattle.board_model.proofs.OrderSound.{Waits, Sound, is_mute, CameOn, Bound, FitsEnd, bound_empty, sound_change}
use Rattle.board_model.proofs.OrderItems.{IsNext, LastIs}
use Rattle.board_model.proofs.OrderTakings.{all_old, done_old, ended_old, waiter_takes}

-- ---- what the conditions of rows say

pub both_hold : (a b : Bool) → a ≡ true → (a && b) ≡ false → b ≡ false
both_hold a b on off = let k : (true && b) ≡ false = subst (λ x. (x && b) ≡ false) on off in k

pub no_length : (q : List Item) → not (length q == 0) ≡ false → q ≡ []
no_length [] h = refl
no_length (i ∷ q) h = let zero : length (i ∷ q) ≡ 0 = eqb-true (length (i ∷ q)) 0 (was (length (i ∷ q) == 0) h) in absurd (omega (arith, zero))
  where
    was : (b : Bool) → not b ≡ false → b ≡ true
    was true k = refl
    was false k = absurd cc

pub either_none : (a b : Bool) → (a || b) ≡ false → (a ≡ false) × (b ≡ false)
either_none true b h = absurd cc
either_none false b h = (refl, h)

sender : (peer n : ℕ) (c : ChannelEnd) → sends_to peer n c ≡ true → same_side c.side Sender ≡ true
sender peer n c on = (and_parts (same_side c.side Sender) (c.number == n && c.peer == peer) on).0

-- an end that a packet or a scalar is queued at
pub hears_loud : (owner number : ℕ) (k : Kind) (c : ChannelEnd) → (hears_from owner number c && (same_kind c.kind k && (not c.far_closed && is_closed c.stage))) ≡ false → (hears_from owner number c && (same_kind c.kind k && not c.far_closed)) ≡ true → is_mute c ≡ false
hears_loud owner number k c off on =
    let hears = and_parts (hears_from owner number c) (same_kind c.kind k && not c.far_closed) on in
    let more = and_parts (same_kind c.kind k) (not c.far_closed) hears.1 in
    let side = and_parts (same_side c.side Receiver) (c.number == number && c.owner == owner) hears.0 in
    let left : (same_kind c.kind k && (not c.far_closed && is_closed c.stage)) ≡ false = both_hold (hears_from owner number c) _ hears.0 off in
    let last : (not c.far_closed && is_closed c.stage) ≡ false = both_hold (same_kind c.kind k) _ more.0 left in
    let stage : is_closed c.stage ≡ false = both_hold (not c.far_closed) (is_closed c.stage) more.1 last in
    ap (λ b. same_side c.side Sender || b) stage ∙ go c.side side.0
  where
    go : (x : Side) → same_side x Receiver ≡ true → (same_side x Sender || false) ≡ false
    go Sender h = absurd cc
    go Receiver h = refl

-- an item with the channel's number that comes from its owner
came_here : (owner number : ℕ) (c : ChannelEnd) (i : Item) → hears_from owner number c ≡ true → i.peer ≡ owner → i.channel ≡ Some number → CameOn c i
came_here owner number c i hears from on =
    let parts = and_parts (same_side c.side Receiver) (c.number == number && c.owner == owner) hears in
    let both = and_parts (c.number == number) (c.owner == owner) parts.1 in
    ap₂ (λ x y. x && y) (eq-eqb i.peer c.owner (from ∙ sym (eqb-true c.owner owner both.1))) (ap (is_numbered c.number) on ∙ eq-eqb number c.number (sym (eqb-true c.number number both.0)))

-- no message is taken
pub no-messages : (request : Option ℕ) (i : Item) → is_none i.channel ≡ false → (addresses : List ℕ) → filter is_message_taking (map (λ a. taking request a i) addresses) ≡ []
no-messages request i none [] = refl
no-messages request i none (a ∷ rest) =
    ap (λ (b : Bool). cond b (taking request a i ∷ filter is_message_taking (map (λ x. taking request x i) rest)) (filter is_message_taking (map (λ x. taking request x i) rest))) none ∙ no-messages request i none rest

pub waiter-no-message : (s : DomainState) (i : Item) → is_none i.channel ≡ false → (o : Option Request) → filter is_message_taking (waiter_takes s i o) ≡ []
waiter-no-message s i none None = refl
waiter-no-message s i none (Some r) = no-messages (Some r.serial) i none (asked_address s r.asked)

module _ (before : List Deed) (s : DomainState) (sound : Sound s) (differ : Differ s.requests) (peer : ℕ) (name : Came) where
  -- after the frame is taken all that matters is as before
  abbrev now : DomainState
  now = changed s (taken_change peer name)

  now_sound : Sound now
  now_sound = sound_change s sound (taken_change peer name) tt

  -- ---- a Connect

  module _ (source destination number : ℕ) (k : Kind) where
    abbrev asks_it : Reading
    asks_it = says source destination (connect number k)

    accepted_row : (e : Endpoint) → endpoint_of s destination ≡ Some e → is_busy s e ≡ false → RowDoes before s peer name asks_it (row true fate.Owed (accepting peer source destination number k))
    accepted_row e found free =
        let idle = either_none (not (length e.queue == 0)) (one_waits s e.local) free in
        let none : e.queue ≡ [] = no_length e.queue idle.0 in
        quiet_row before s sound differ peer name asks_it _
        ((λ f is. let same : e ≡ f = cc in subst (λ x. Bound x.queue (Some (accepted_end k peer number peer source))) same (bound_empty e.queue none (Some (accepted_end k peer number peer source)))), (tt, tt))
        refl (all_old s)
        (λ b. queued_same (with_channel (Some (accepted_end k peer number peer source))) (λ x. refl) now destination b (λ f is. let same : e ≡ f = cc in subst (λ (x : Endpoint). [] ≡ messages_at x.channel x.queue) same (sym (ap (messages_at e.channel) none ∙ messages_none e.channel))))
        (λ b. refl) (kept [] (λ j. refl))

    rejected_row : (applies : Bool) (word : Fate) (r : Reason) → is_queued word ≡ false → RowDoes before s peer name asks_it (row applies word (rejecting peer source destination number r))
    rejected_row applies word r off = quiet_row before s sound differ peer name asks_it _ (tt, tt) refl (all_old s) (λ b. refl) (λ b. ap (λ (x : Bool). cond x [] []) off ∙ refl) (kept [] (λ j. refl))

    connects_do : (o : Option Endpoint) → endpoint_of s destination ≡ o → RowDoes before s peer name asks_it (first_row (connect_rows s peer source destination o number k))
    connects_do None found = by_rows (RowDoes before s peer name asks_it) (connect_rows s peer source destination None number k) (
      (λ on. idle_row before s sound differ peer name asks_it _ fate.RepliesFull (λ b. refl)),
      (λ off. rejected_row true fate.Owed reason.NoEndpoint refl),
    )
    connects_do (Some e) found = by_rows (RowDoes before s peer name asks_it) (connect_rows s peer source destination (Some e) number k) (
      (λ on. idle_row before s sound differ peer name asks_it _ fate.RepliesFull (λ b. refl)),
      (λ off. ((λ on. rejected_row (is_some e.channel) fate.Owed reason.Connected refl), (λ off2. ((λ on. rejected_row (is_busy s e) fate.Owed reason.Busy refl), (λ off3. accepted_row e found off3))))),
    )

  -- ---- a letter at the end of a channel

  module _ (source destination : ℕ) (e : Endpoint) (found : endpoint_of s destination ≡ Some e) (c : ChannelEnd) (at : e.channel ≡ Some c) where
    -- it sets the end
    set_row : (rd : Reading) (applies : Bool) (d : Option ChannelEnd) → Follows c d → ((b : ℕ) → queues b peer name rd fate.Acted ≡ []) → RowDoes before s peer name rd (row applies fate.Acted (channel_set destination d ∷ []))
    set_row rd applies d follows none = quiet_row before s sound differ peer name rd _ (set_fits now now_sound destination e found c at d follows, tt) refl (all_old s) (λ b. set_same now now_sound destination e found c at d follows b) none (kept [] (λ j. refl))

    -- and the request to connect is complete
    settled_row : (rd : Reading) (applies : Bool) (d : Option ChannelEnd) (n : ℕ) (o : Outcome) → Settles o → Follows c d → ((b : ℕ) → queues b peer name rd fate.Acted ≡ []) → RowDoes before s peer name rd (row applies fate.Acted (channel_set destination d ∷ connect_settled n o ∷ []))
    settled_row rd applies d n o settles follows none =
        quiet_row before s sound differ peer name rd _ (set_fits now now_sound destination e found c at d follows, (tt, tt)) refl (done_old s (connects_on n) o (settles_nothing o settles)) (λ b. set_same now now_sound destination e found c at d follows b) none (turned (all_done (connects_on n) o) (settled_turns n o settles))

    -- and all that wait there end
    ended_row : (rd : Reading) (applies : Bool) (d : Option ChannelEnd) → Follows c d → ((b : ℕ) → queues b peer name rd fate.Acted ≡ []) → RowDoes before s peer name rd (row applies fate.Acted (waiting_ended destination ChanClosed ∷ channel_set destination d ∷ []))
    ended_row rd applies d follows none =
        let t : DomainState = changed now (waiting_ended destination ChanClosed) in
        let sure : Sound t = sound_change now now_sound (waiting_ended destination ChanClosed) tt in
        quiet_row before s sound differ peer name rd _ (tt, (set_fits t sure destination e found c at d follows, tt)) refl (ended_old s (endpoint_of s destination) ChanClosed) (λ b. set_same t sure destination e found c at d follows b) none (ended_by s (endpoint_of s destination) ChanClosed)

    -- a packet or a scalar is queued where none waits there
    item_row : (rd : Reading) (i : Item) → one_waits s e.local ≡ false → is_mute c ≡ false → CameOn c i → ((b : ℕ) → queues b peer name rd fate.Queued ≡ []) → RowDoes before s peer name rd (row true fate.Queued (item_queued destination i ∷ []))
    item_row rd i idle loud came none =
        quiet_row before s sound differ peer name rd _
        ((λ f is. let same : e ≡ f = cc in subst (λ x. (Waits x.local s.requests → ⊥) × FitsEnd i x.channel) same ((λ waits. absurd cc), subst (FitsEnd i) (sym at) (loud, came))), tt)
        refl (all_old s) (λ b. item_same now now_sound destination e found c at i b) none (kept [] (λ j. refl))

    -- it is handed to the oldest that waits, and lost where the end is closed
    taken_row : (rd : Reading) (i : Item) (applies : Bool) → IsNext before i → i.peer ≡ peer → is_none i.channel ≡ false → RowDoes before s peer name rd (row applies fate.Handed (item_handed destination i ∷ []))
    taken_row rd i applies next from no_message =
        handed_row before s sound differ peer name i next from destination e found rd applies (subst (AllByRecursion (RowHands s peer name rd fate.Handed)) (sym (waiter-no-message s i no_message (oldest_waiting s e.local))) tt)

    lost_row : (rd : Reading) (i : Item) (applies : Bool) → ((b : ℕ) → queues b peer name rd fate.Closed ≡ []) → RowDoes before s peer name rd (row applies fate.Closed (item_lost destination i ∷ []))
    lost_row rd i applies none = quiet_row before s sound differ peer name rd _ (tt, tt) refl (all_old s) (λ b. refl) none (kept [] (λ j. refl))

    sent_rows : (l : PlainLetter) (k : Kind) (n : ℕ) (i : Item) → IsNext before i → i.peer ≡ peer → i.channel ≡ Some n → ((b : ℕ) → item_said b peer name (says source destination l) ≡ []) →
        RowDoes before s peer name (says source destination l) (first_row (flat_map (λ r. rows_by s destination e i l r.applies r.leaves r.word) (data_rows peer n k c) ++ last_row fate.State []))
    sent_rows l k n i next from on_n none = by_rows (RowDoes before s peer name rd) (flat_map (λ r. rows_by s destination e i l r.applies r.leaves r.word) (data_rows peer n k c) ++ last_row fate.State []) (
      (λ on. lost_row rd i _ (λ b. refl)),
      (λ off. (
        (λ on. taken_row rd i _ next from (ap is_none on_n)),
        (λ off2. (
          (λ on. subst (λ a. RowDoes before s peer name rd (row a fate.Queued (item_queued destination i ∷ []))) (sym on) (item_row rd i (both_hold here (one_waits s e.local) on off2) (hears_loud peer n k c off on) (came_here peer n c i (and_parts (hears_from peer n c) (same_kind c.kind k && not c.far_closed) on).0 from on_n) none)),
          (λ off3. idle_row before s sound differ peer name rd true fate.State (λ b. refl)),
        )),
      )),
    )
      where
        rd : Reading
        rd = says source destination l

        here : Bool
        here = hears_from peer n c && (same_kind c.kind k && not c.far_closed)

    ends_do : (named : LastIs before peer name.names) (l : PlainLetter) → RowDoes before s peer name (says source destination l) (first_row (channel_rows s peer destination e (Some c) (item_of peer name source l) l))
    ends_do named (accept n) = by_rows (RowDoes before s peer name (says source destination (accept n))) (channel_rows s peer destination e (Some c) (item_of peer name source (accept n)) (accept n)) (
      (λ on. settled_row _ _ (Some (record c { stage = connected })) n is_accepted tt (refl, refl, λ m. mute_sender c (sender peer n c (and_parts (sends_to peer n c) (is_connecting c.stage) on).0)) (λ b. refl)),
      (λ off. idle_row before s sound differ peer name _ true fate.State (λ b. refl)),
    )
    ends_do named (reject n why) = by_rows (RowDoes before s peer name (says source destination (reject n why))) (channel_rows s peer destination e (Some c) (item_of peer name source (reject n why)) (reject n why)) (
      (λ on. settled_row _ _ None n (is_rejected why) tt (mute_sender c (sender peer n c (and_parts (sends_to peer n c) (is_connecting c.stage) on).0)) (λ b. refl)),
      (λ off. idle_row before s sound differ peer name _ true fate.State (λ b. refl)),
    )
    ends_do named (recv_open n) = by_rows (RowDoes before s peer name (says source destination (recv_open n))) (channel_rows s peer destination e (Some c) (item_of peer name source (recv_open n)) (recv_open n)) (
      (λ on. set_row _ _ (Some (record c { far_open = true })) (refl, refl, λ m. m) (λ b. refl)),
      (λ off. idle_row before s sound differ peer name _ true fate.State (λ b. refl)),
    )
    ends_do named (send_open n) = by_rows (RowDoes before s peer name (says source destination (send_open n))) (channel_rows s peer destination e (Some c) (item_of peer name source (send_open n)) (send_open n)) (
      (λ on. set_row _ _ (Some (record c { far_open = true })) (refl, refl, λ m. m) (λ b. refl)),
      (λ off. idle_row before s sound differ peer name _ true fate.State (λ b. refl)),
    )
    ends_do named (recv_close n) = by_rows (RowDoes before s peer name (says source destination (recv_close n))) (channel_rows s peer destination e (Some c) (item_of peer name source (recv_close n)) (recv_close n)) (
      (λ on. set_row _ _ (far_closed_end c) (far_follows c) (λ b. refl)),
      (λ off. idle_row before s sound differ peer name _ true fate.State (λ b. refl)),
    )
    ends_do named (send_close n) = by_rows (RowDoes before s peer name (says source destination (send_close n))) (channel_rows s peer destination e (Some c) (item_of peer name source (send_close n)) (send_close n)) (
      (λ on. ended_row _ _ (far_closed_end c) (far_follows c) (λ b. refl)),
      (λ off. idle_row before s sound differ peer name _ true fate.State (λ b. refl)),
    )
    ends_do named (packet n content) = sent_rows (packet n content) kind.Packet n (item_of peer name source (packet n content)) named refl refl (λ b. refl)
    ends_do named (scalar n bits value) = sent_rows (scalar n bits value) kind.Scalar n (item_of peer name source (scalar n bits value)) named refl refl (λ b. refl)
    ends_do named other = idle_row before s sound differ peer name _ true fate.State (λ b. both_none false)

  letter_does : (named : LastIs before peer name.names) (source destination : ℕ) (l : PlainLetter) (o : Option Endpoint) → endpoint_of s destination ≡ o → RowDoes before s peer name (says source destination l) (first_row (letter_rows s peer name source destination o l))
  letter_does named source destination (msg priority content) o found = messages_do before s sound differ peer name source destination priority content named o found
  letter_does named source destination (connect n k) o found = connects_do source destination n k o found
  letter_does named source destination l None found = idle_row before s sound differ peer name (says source destination l) true fate.NoEndpoint (λ b. refl)
  letter_does named source destination l (Some e) found = at e.channel refl
    where
      at : (c : Option ChannelEnd) → e.channel ≡ c → RowDoes before s peer name (says source destination l) (first_row (channel_rows s peer destination e c (item_of peer name source l) l))
      at None free = idle_row before s sound differ peer name (says source destination l) true fate.State (λ b. both_none false)
      at (Some c) is = ends_do source destination e found c is named l

  -- whatever the frame says
  pub row_does : (named : LastIs before peer name.names) (rd : Reading) → RowDoes before s peer name rd (row_of s peer name rd)
  row_does named (is_faulty f) = quiet_row before s sound differ peer name (is_faulty f) (row_of s peer name (is_faulty f)) tt refl (all_old s) (λ b. refl) (λ b. both_none (is_queued (row_of s peer name (is_faulty f)).word)) (kept [] (λ k. refl))
  row_does named (announces text address there) = named_rows before s sound differ peer name text (names_of (peer_at s peer)) (endpoint_named text) address there
  row_does named (brings source destination q) = by_rows (RowDoes before s peer name (brings source destination q)) (row (is_none name.part) fate.Stray [] ∷ last_row fate.Part []) ((λ on. idle_row before s sound differ peer name (brings source destination q) _ fate.Stray (λ b. refl)), (λ off. idle_row before s sound differ peer name (brings source destination q) true fate.Part (λ b. refl)))
  row_does named (says source destination l) = letter_does named source destination l (endpoint_of s destination) refl
