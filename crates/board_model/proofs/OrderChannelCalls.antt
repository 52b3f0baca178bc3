-- What the calls of channels do to the messages that are queued.
use Rattle.mc_base.specs.Letter.{packet}
use Rattle.mc_base.specs.Pieces.{frames_needed}
use Rattle.std.proofs.Common.{◌≡◌, inl, ℕ, ◌+◌, ◌≤◌, Bool, true, false, not, cond, List, [], ◌∷◌, map, filter, drop, length, Option, Some, None, option_map, option_to_list, refl, sym, ap, ◌∙◌, subst, arith}
use Rattle.std.specs.Prelude.{◌==◌, ◌||◌}
use Rattle.std.specs.List.{AllByRecursion}
use Rattle.std.proofs.lemmas.Bool.{eqb-true}
use Rattle.mc_base.specs.declared.name.Local.{Local}
use Rattle.mc_base.specs.declared.name.EndName.{EndName}
use Rattle.mc_base.specs.declared.channel.Kind.{Kind}
use Rattle.mc_base.specs.declared.channel.Kind.TheVariants.{Packet, Scalar}
use Rattle.mc_base.specs.declared.channel.Bits.{Bits}
use Rattle.mc_base.specs.declared.channel.Side.{Side}
use Rattle.mc_base.specs.declared.channel.Side.TheVariants.{Sender, Receiver}
use Rattle.mc_base.specs.declared.refusal.Refusal.{Refusal}
use Rattle.mc_base.specs.declared.refusal.Refusal.TheVariants.{ChanDirection, ChanClosed}
use Rattle.board_model.specs.DomainCall.{connect_from, open_at, packet_from, lend_at, packet_request_at, scalar_from, scalar_at, close_at}
use Rattle.board_model.specs.Journal.{agrees}
use Rattle.board_model.specs.Choice.{oldest}
use Rattle.board_model.specs.State.{Item, ChannelEnd, Endpoint, channel_of, packet_at, has_item, DomainState, live_at, queue_at, endpoint_of, queue_in, channel_in, one_waits}
use Rattle.board_model.specs.Answer.{local, holds, words_of, refusal, success, unless_refused, lent_whole, value_of, holds_at_end}
use Rattle.board_model.specs.Change.{Change, oldest_gone, channel_set, queue_dropped, request_added, waiting_ended, with_channel, buffers_used, packet_lent, channel_given, changed, changed_all}
use Rattle.board_model.specs.ChannelEnds.{opens, sends, receives, closes, same_side, opened_end, closed_end}
use Rattle.board_model.specs.CallChanges.{at_live, at_channel, at_end, new_sender, closing, lending, success_changes}
use Rattle.board_model.specs.Deeds.{Deed, calls}
use Rattle.board_model.specs.Takings.{taking, is_message_taking, answered_by}
use Rattle.board_model.proofs.ItemsHeld.{queue_holds}
use Rattle.board_model.proofs.OrderChannels.{no_length, either_none}
use Rattle.board_model.proofs.OrderDeeds.{Does}
use Rattle.board_model.proofs.OrderEnds.{Follows, mute_sender, closed_follows, end_bound, none_queued, set_fits, set_same, dropped_same, oldest_same}
use Rattle.board_model.proofs.OrderItems.{IsPast, left_of, left_none}
use Rattle.board_model.proofs.OrderQueues.{messages_at, messages_none, queued_for, queued_same}
use Rattle.board_model.proofs.OrderRequests.{RequestsBy, kept, given, ended_by, items_one, no_items}
use Rattle.board_model.proofs.OrderSound.{Sound, CameOn, came-no-message, Bound, bound_empty, FitAllSound, sound_change, sound_own, not_received, not_waiting}
use Rattle.board_model.proofs.OrderTakings.{taken_of, all_old, none_taken, ended_old, added_takes, old_last}
use Rattle.board_model.proofs.OrderMoments.{Moment}
use Rattle.board_model.proofs.OrderLookups.{live_found, none_holds, not_not, live_here, end_here}
use Rattle.board_model.proofs.OrderEffects.{IsBest, Effect, effect_does, quiet}
use Rattle.board_model.proofs.OrderMessageCalls.{one_gone, zero_full, found_own, packet_turned, may_wait}

module _ (room : ℕ) (before : List Deed) (s : DomainState) (moment : Moment room before s) (node : ℕ) where
  -- ---- connect

  connect_effect : (e : Endpoint) (at : Local) (peer number : ℕ) (c : ChannelEnd) → live_at s at ≡ Some e → e.queue ≡ [] → Effect before s (buffers_used peer 1 ∷ channel_set e.address (Some c) ∷ request_added (channel_of number) None ∷ channel_given ∷ []) [] (λ b. [])
  connect_effect e at peer number c found none =
      let t : DomainState = changed s (buffers_used peer 1) in
      quiet before s (buffers_used peer 1 ∷ channel_set e.address (Some c) ∷ request_added (channel_of number) None ∷ channel_given ∷ [])
      (tt, ((λ f is. let same : e ≡ f = one f is in subst (λ x. Bound x.queue (Some c)) same (bound_empty e.queue none (Some c))), (not_received (channel_of number) (λ l. refl) None (changed t (channel_set e.address (Some c))).endpoints, (tt, tt))))
      (old_last s _ (inl refl) s.requests (all_old s))
      (λ b. queued_same (with_channel (Some c)) (λ x. refl) t e.address b (λ f is. let same : e ≡ f = one f is in subst (λ (x : Endpoint). [] ≡ messages_at x.channel x.queue) same (sym (ap (messages_at e.channel) none ∙ messages_none e.channel))))
      (given (channel_of number) None [] tt (λ k. sym (no_items (s.requests_given == k))))
    where
      one : (f : Endpoint) → endpoint_of s e.address ≡ Some f → e ≡ f
      one f is = let own : endpoint_of s e.address ≡ Some e = sound_own s moment.sound at e found in let both : Some e ≡ Some f = sym own ∙ is in cc

  pub connect_does : (port : ℕ) (to : EndName) (kind : Kind) → refusal s node (connect_from port to kind) ≡ None → 1 ≤ room → Does room before s (calls node (connect_from port to kind) (success s node (connect_from port to kind)))
  connect_does port to kind is fits =
      let words = none_holds (holds s node (connect_from port to kind)) (words_of (connect_from port to kind)) is in
      let e = live_here s (local node port) words.0 in
      let idle = either_none (not (length (queue_at s (local node port)) == 0)) (one_waits s (local node port)) words.1.1.0 in
      let none : e.0.queue ≡ [] = sym (ap queue_in (live_found s (local node port) ∙ e.1)) ∙ no_length (queue_at s (local node port)) idle.0 in
      effect_does room before s moment node (connect_from port to kind) (success s node (connect_from port to kind)) (connect_changes (Some e.0)) [] (λ b. [])
      (ap (λ o. unless_refused o [] (success_changes s node (connect_from port to kind))) is ∙ ap connect_changes e.1) refl (λ b. refl) (omega arith)
      (connect_effect e.0 (local node port) to.domain (s.channels_given + 1) (new_sender s to kind) e.1 none)
    where
      connect_changes : Option Endpoint → List Change
      connect_changes o = at_live o (λ e. buffers_used to.domain 1 ∷ channel_set e.address (Some (new_sender s to kind)) ∷ request_added (channel_of (s.channels_given + 1)) None ∷ channel_given ∷ [])

  -- ---- open and close

  module _ (e : Endpoint) (at : Local) (found : live_at s at ≡ Some e) (c : ChannelEnd) (ends : e.channel ≡ Some c) (peer : ℕ) where
    abbrev used : DomainState
    used = changed s (buffers_used peer 1)

    used_sound : Sound used
    used_sound = sound_change s moment.sound (buffers_used peer 1) tt

    here_own : endpoint_of s e.address ≡ Some e
    here_own = sound_own s moment.sound at e found

    set_effect : (d : Option ChannelEnd) → Follows c d → Effect before s (buffers_used peer 1 ∷ channel_set e.address d ∷ []) [] (λ b. [])
    set_effect d follows = quiet before s (buffers_used peer 1 ∷ channel_set e.address d ∷ []) (tt, (set_fits used used_sound e.address e here_own c ends d follows, tt)) (all_old s) (λ b. set_same used used_sound e.address e here_own c ends d follows b) (kept [] (λ k. refl))

    dropped_effect : (w : Refusal) (d : Option ChannelEnd) → Effect before s (buffers_used peer 1 ∷ waiting_ended e.address w ∷ queue_dropped e.address d ∷ []) [] (λ b. [])
    dropped_effect w d =
        let t : DomainState = changed used (waiting_ended e.address w) in
        let sure : Sound t = sound_change used used_sound (waiting_ended e.address w) tt in
        quiet before s (buffers_used peer 1 ∷ waiting_ended e.address w ∷ queue_dropped e.address d ∷ []) (tt, (tt, (tt, tt))) (ended_old s (endpoint_of s e.address) w) (λ b. dropped_same t sure e.address e here_own c ends d b) (ended_by s (endpoint_of s e.address) w)

  opened_follows : (c : ChannelEnd) → Follows c (Some (opened_end c))
  opened_follows c = (refl, refl, λ m. mute_sender c (go (same_side c.side Sender) m))
    where
      go : (b : Bool) → (b || false) ≡ true → b ≡ true
      go true h = refl
      go false h = absurd cc

  -- the changes of a call at an end
  end_changes : (f : Endpoint → ChannelEnd → List Change) (at : Local) (e : Endpoint) (c : ChannelEnd) → live_at s at ≡ Some e → e.channel ≡ Some c → at_end (live_at s at) f ≡ f e c
  end_changes f at e c found ends = ap (λ o. at_end o f) found ∙ ap (λ o. at_channel o (f e)) ends

  pub open_does : (port : ℕ) (side : Side) (kind : Kind) → refusal s node (open_at port side kind) ≡ None → Does room before s (calls node (open_at port side kind) agrees)
  open_does port side kind is =
      let words = none_holds (holds s node (open_at port side kind)) (words_of (open_at port side kind)) is in
      let e = live_here s (local node port) words.0 in
      let c = end_here s (local node port) e.0 (opens side kind) e.1 words.1.0 in
      effect_does room before s moment node (open_at port side kind) agrees (buffers_used c.0.peer 1 ∷ channel_set e.0.address (Some (opened_end c.0)) ∷ []) [] (λ b. [])
      (ap (λ o. unless_refused o [] (success_changes s node (open_at port side kind))) is ∙ end_changes (λ e c. buffers_used c.peer 1 ∷ channel_set e.address (Some (opened_end c)) ∷ []) (local node port) e.0 c.0 e.1 c.1) refl (λ b. refl) (omega arith)
      (set_effect e.0 (local node port) e.1 c.0 c.1 c.0.peer (Some (opened_end c.0)) (opened_follows c.0))

  pub close_does : (port : ℕ) (side : Side) → refusal s node (close_at port side) ≡ None → Does room before s (calls node (close_at port side) (success s node (close_at port side)))
  close_does port Sender is =
      let words = none_holds (holds s node (close_at port Sender)) (words_of (close_at port Sender)) is in
      let e = live_here s (local node port) words.0 in
      let c = end_here s (local node port) e.0 (closes Sender) e.1 words.1.0 in
      let side : same_side c.0.side Sender ≡ true = not_not (same_side c.0.side Sender) (sym (ap (λ o. holds_at_end (Some (closes Sender)) (channel_in o) ChanDirection) e.1 ∙ ap (λ o. holds_at_end (Some (closes Sender)) o ChanDirection) c.1) ∙ words.1.1.0) in
      effect_does room before s moment node (close_at port Sender) agrees (closing Sender e.0 c.0) [] (λ b. [])
      (ap (λ o. unless_refused o [] (success_changes s node (close_at port Sender))) is ∙ end_changes (closing Sender) (local node port) e.0 c.0 e.1 c.1) refl (λ b. refl) (omega arith)
      (set_effect e.0 (local node port) e.1 c.0 c.1 c.0.peer (closed_end c.0) (closed_follows c.0 side))
  close_does port Receiver is =
      let words = none_holds (holds s node (close_at port Receiver)) (words_of (close_at port Receiver)) is in
      let e = live_here s (local node port) words.0 in
      let c = end_here s (local node port) e.0 (closes Receiver) e.1 words.1.0 in
      effect_does room before s moment node (close_at port Receiver) (success s node (close_at port Receiver)) (closing Receiver e.0 c.0) [] (λ b. [])
      (ap (λ o. unless_refused o [] (success_changes s node (close_at port Receiver))) is ∙ end_changes (closing Receiver) (local node port) e.0 c.0 e.1 c.1) refl (λ b. refl) (omega arith)
      (dropped_effect e.0 (local node port) e.1 c.0 c.1 c.0.peer ChanClosed (closed_end c.0))

  -- ---- sends

  put_effect : (peer count : ℕ) → Effect before s (buffers_used peer count ∷ []) [] (λ b. [])
  put_effect peer count = quiet before s (buffers_used peer count ∷ []) (tt, tt) (all_old s) (λ b. refl) (kept [] (λ k. refl))

  pub packet_does : (port : ℕ) (bytes : List ℕ) → refusal s node (packet_from port bytes) ≡ None → Does room before s (calls node (packet_from port bytes) agrees)
  packet_does port bytes is =
      let words = none_holds (holds s node (packet_from port bytes)) (words_of (packet_from port bytes)) is in
      let e = live_here s (local node port) words.0 in
      let c = end_here s (local node port) e.0 (sends Packet) e.1 words.1.0 in
      effect_does room before s moment node (packet_from port bytes) agrees (buffers_used c.0.peer (frames_needed (packet c.0.number bytes)) ∷ []) [] (λ b. [])
      (ap (λ o. unless_refused o [] (success_changes s node (packet_from port bytes))) is ∙ end_changes (λ e c. buffers_used c.peer (frames_needed (packet c.number bytes)) ∷ []) (local node port) e.0 c.0 e.1 c.1) refl (λ b. refl) (omega arith) (put_effect c.0.peer (frames_needed (packet c.0.number bytes)))

  pub scalar_does : (port : ℕ) (bits : Bits) (value : ℕ) → refusal s node (scalar_from port bits value) ≡ None → Does room before s (calls node (scalar_from port bits value) agrees)
  scalar_does port bits value is =
      let words = none_holds (holds s node (scalar_from port bits value)) (words_of (scalar_from port bits value)) is in
      let e = live_here s (local node port) words.0 in
      let c = end_here s (local node port) e.0 (sends Scalar) e.1 words.1.0 in
      effect_does room before s moment node (scalar_from port bits value) agrees (buffers_used c.0.peer 1 ∷ []) [] (λ b. [])
      (ap (λ o. unless_refused o [] (success_changes s node (scalar_from port bits value))) is ∙ end_changes (λ e c. buffers_used c.peer 1 ∷ []) (local node port) e.0 c.0 e.1 c.1) refl (λ b. refl) (omega arith) (put_effect c.0.peer 1)

  -- ---- the oldest of a channel is gone

  oldest_found : (at : Local) (e : Endpoint) → live_at s at ≡ Some e → oldest (queue_at s at) ≡ oldest e.queue
  oldest_found at e found = ap (λ o. oldest (queue_in o)) (live_found s at ∙ found)

  some_oldest : (e : Endpoint) (at : Local) → live_at s at ≡ Some e → (length (queue_at s at) == 0) ≡ false → (i : Item) × (oldest e.queue ≡ Some i)
  some_oldest e at found full = go e.queue (subst (λ q. (length q == 0) ≡ false) (ap queue_in (live_found s at ∙ found)) full)
    where
      go : (q : List Item) → (length q == 0) ≡ false → (i : Item) × (oldest q ≡ Some i)
      go [] h = absurd (zero_full room before s moment node h)
      go (i ∷ q) h = (i, refl)

  module _ (e : Endpoint) (at : Local) (found : live_at s at ≡ Some e) (c : ChannelEnd) (ends : e.channel ≡ Some c) where
    own_end : endpoint_of s e.address ≡ Some e
    own_end = sound_own s moment.sound at e found

    oldest_kept : (b : ℕ) → queued_for (changed s (oldest_gone e.address)) b ≡ queued_for s b
    oldest_kept b = oldest_same s moment.sound e.address e own_end c ends b

    module _ (i : Item) (is : oldest e.queue ≡ Some i) where
      oldest_so : (P : Item → Type 0) → AllByRecursion P e.queue → P i
      oldest_so P all = go e.queue is all
        where
          go : (q : List Item) → oldest q ≡ Some i → AllByRecursion P q → P i
          go [] h all = absurd cc
          go (x ∷ q) h all = let same : x ≡ i = cc in subst P same all.0

      oldest_left : (b : ℕ) → queued_for s b ≡ left_of (cond (e.address == b) (i ∷ []) []) (queued_for s b)
      oldest_left b = go (e.address == b) refl
        where
          go : (x : Bool) → (e.address == b) ≡ x → queued_for s b ≡ left_of (cond x (i ∷ []) []) (queued_for s b)
          go true same =
              let empty : queued_for s b ≡ [] = ap (queued_for s) (sym (eqb-true e.address b same)) ∙ none_queued s moment.sound e.address e own_end c ends in
              empty ∙ sym (ap (left_of (i ∷ [])) empty)
          go false other = sym (left_none (queued_for s b))

      oldest_past : (b : ℕ) → AllByRecursion (IsPast before) (cond (e.address == b) (i ∷ []) [])
      oldest_past b = go (e.address == b)
        where
          go : (x : Bool) → AllByRecursion (IsPast before) (cond x (i ∷ []) [])
          go true = (oldest_so (IsPast before) (queue_holds (IsPast before) s moment.held node at e found), tt)
          go false = tt

      -- it is no message
      no_message : (request : Option ℕ) → filter is_message_taking (taking request e.address i ∷ []) ≡ []
      no_message request = ap (λ (b : Bool). cond b (taking request e.address i ∷ []) []) (came-no-message c i (oldest_so (CameOn c) (end_bound s moment.sound e.address e own_end c ends).1))

      -- a receive that answers, and may lend what it took
      at_once_effect : (more : List Change) → FitAllSound (changed s (oldest_gone e.address)) more → taken_of s (changed_all s (oldest_gone e.address ∷ more)).requests ≡ [] → ((b : ℕ) → queued_for (changed_all s (oldest_gone e.address ∷ more)) b ≡ queued_for (changed s (oldest_gone e.address)) b) →
          RequestsBy s (changed_all s (oldest_gone e.address ∷ more)).requests (taking None e.address i ∷ []) (changed_all s (oldest_gone e.address ∷ more)).requests_given → Effect before s (oldest_gone e.address ∷ more) (taking None e.address i ∷ []) (λ b. [])
      at_once_effect more fits none same requests = record {
        fits = (tt, fits);
        completed = [];
        takings = none;
        queue = λ b. same b ∙ (oldest_kept b ∙ (oldest_left b ∙ ap (λ g. left_of g (queued_for s b)) (sym (one_gone room before s moment node (taking None e.address i) b))));
        past = λ b. subst (AllByRecursion (IsPast before)) (sym (one_gone room before s moment node (taking None e.address i) b)) (oldest_past b);
        best_first = subst (AllByRecursion (IsBest s)) (sym (no_message None)) tt;
        requests = requests;
      }

      lend_effect : Effect before s (oldest_gone e.address ∷ packet_lent i ∷ []) (taking None e.address i ∷ []) (λ b. [])
      lend_effect = at_once_effect (packet_lent i ∷ []) (tt, tt) (none_taken s s.requests (all_old s)) (λ b. refl) (kept (taking None e.address i ∷ []) (λ k. refl))

      value_effect : Effect before s (oldest_gone e.address ∷ []) (taking None e.address i ∷ []) (λ b. [])
      value_effect = at_once_effect [] tt (none_taken s s.requests (all_old s)) (λ b. refl) (kept (taking None e.address i ∷ []) (λ k. refl))

    packet_effect : (x : Option Item) → oldest e.queue ≡ x → Effect before s (oldest_gone e.address ∷ request_added (packet_at e.local) (option_map has_item x) ∷ []) [] (λ b. [])
    packet_effect None none =
        quiet before s (oldest_gone e.address ∷ request_added (packet_at e.local) None ∷ [])
        (tt, (may_wait room before s moment node e at (packet_at e.local) (drop 1) refl (λ f. packet_turned room before s moment node f e.local) found (empty e.queue none), tt)) (old_last s _ (inl refl) s.requests (all_old s)) oldest_kept (given (packet_at e.local) None [] tt (λ k. sym (no_items (s.requests_given == k))))
      where
        empty : (q : List Item) → oldest q ≡ None → q ≡ []
        empty [] h = refl
        empty (i ∷ q) h = absurd cc
    packet_effect (Some i) is = record {
      fits = (tt, (not_waiting (packet_at e.local) i (changed s (oldest_gone e.address)).endpoints, tt));
      completed = taking (Some s.requests_given) e.address i ∷ [];
      takings = added_takes s (packet_at e.local) (Some (has_item i)) moment.serials.below ∙ ap (λ o. map (λ a. taking (Some s.requests_given) a i) (at_live o (λ f. f.address ∷ []))) (found_own room before s moment node at e found);
      queue = λ b. oldest_kept b ∙ (oldest_left i is b ∙ ap (λ g. left_of g (queued_for s b)) (sym (one_gone room before s moment node (taking (Some s.requests_given) e.address i) b)));
      past = λ b. subst (AllByRecursion (IsPast before)) (sym (one_gone room before s moment node (taking (Some s.requests_given) e.address i) b)) (oldest_past i is b);
      best_first = subst (AllByRecursion (IsBest s)) (sym (no_message i is (Some s.requests_given))) tt;
      requests = given (packet_at e.local) (Some (has_item i)) (taking (Some s.requests_given) e.address i ∷ []) tt (λ k. items_one k s.requests_given e.address i);
    }

  pub lend_does : (port : ℕ) → refusal s node (lend_at port) ≡ None → Does room before s (calls node (lend_at port) (success s node (lend_at port)))
  lend_does port is =
      let words = none_holds (holds s node (lend_at port)) (words_of (lend_at port)) is in
      let e = live_here s (local node port) words.0 in
      let c = end_here s (local node port) e.0 (receives Packet (length (queue_at s (local node port)))) e.1 words.1.0 in
      let i = some_oldest e.0 (local node port) e.1 words.1.1.1.1.1.1.0 in
      effect_does room before s moment node (lend_at port) (success s node (lend_at port)) (oldest_gone e.0.address ∷ packet_lent i.0 ∷ []) (taking None e.0.address i.0 ∷ []) (λ b. [])
      (ap (λ o. unless_refused o [] (success_changes s node (lend_at port))) is ∙ (ap lend_changes e.1 ∙ ap (λ x. oldest_gone e.0.address ∷ lending x) i.1))
      (ap (λ x. answered_by s (calls node (lend_at port) (lent_whole x))) (oldest_found (local node port) e.0 e.1 ∙ i.1) ∙ (ap (λ o. at_live o (λ f. map (taking None f.address) (option_to_list (oldest f.queue)))) e.1 ∙ ap (λ x. map (taking None e.0.address) (option_to_list x)) i.1))
      (λ b. refl) (omega arith) (lend_effect e.0 (local node port) e.1 c.0 c.1 i.0 i.1)
    where
      lend_changes : Option Endpoint → List Change
      lend_changes o = at_live o (λ e. oldest_gone e.address ∷ lending (oldest e.queue))

  pub value_does : (port : ℕ) (bits : Bits) → refusal s node (scalar_at port bits) ≡ None → Does room before s (calls node (scalar_at port bits) (success s node (scalar_at port bits)))
  value_does port bits is =
      let words = none_holds (holds s node (scalar_at port bits)) (words_of (scalar_at port bits)) is in
      let e = live_here s (local node port) words.0 in
      let c = end_here s (local node port) e.0 (receives Scalar (length (queue_at s (local node port)))) e.1 words.1.0 in
      let i = some_oldest e.0 (local node port) e.1 words.1.1.1.1.1.1.0 in
      effect_does room before s moment node (scalar_at port bits) (success s node (scalar_at port bits)) (oldest_gone e.0.address ∷ []) (taking None e.0.address i.0 ∷ []) (λ b. [])
      (ap (λ o. unless_refused o [] (success_changes s node (scalar_at port bits))) is ∙ ap value_changes e.1)
      (ap (λ x. answered_by s (calls node (scalar_at port bits) (value_of bits x))) (oldest_found (local node port) e.0 e.1 ∙ i.1) ∙ (ap (λ o. at_live o (λ f. map (taking None f.address) (option_to_list (oldest f.queue)))) e.1 ∙ ap (λ x. map (taking None e.0.address) (option_to_list x)) i.1))
      (λ b. refl) (omega arith) (value_effect e.0 (local node port) e.1 c.0 c.1 i.0 i.1)
    where
      value_changes : Option Endpoint → List Change
      value_changes o = at_live o (λ e. oldest_gone e.address ∷ [])

  pub packet_request_does : (port : ℕ) → refusal s node (packet_request_at port) ≡ None → 1 ≤ room → Does room before s (calls node (packet_request_at port) (success s node (packet_request_at port)))
  packet_request_does port is fits =
      let words = none_holds (holds s node (packet_request_at port)) (words_of (packet_request_at port)) is in
      let e = live_here s (local node port) words.0 in
      let c = end_here s (local node port) e.0 (receives Packet (length (queue_at s (local node port)))) e.1 words.1.0 in
      effect_does room before s moment node (packet_request_at port) (success s node (packet_request_at port)) (packet_changes (Some e.0)) [] (λ b. [])
      (ap (λ o. unless_refused o [] (success_changes s node (packet_request_at port))) is ∙ ap packet_changes e.1) refl (λ b. refl) (omega arith) (packet_effect e.0 (local node port) e.1 c.0 c.1 (oldest e.0.queue) refl)
    where
      packet_changes : Option Endpoint → List Change
      packet_changes o = at_live o (λ e. oldest_gone e.address ∷ request_added (packet_at e.local) (option_map has_item (oldest e.queue)) ∷ [])
