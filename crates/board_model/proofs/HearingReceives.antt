-- What a call takes and loses of a channel, by its answer and its requests, is what its changes do; and queues stay as they are bound to
-- channels.
use Rattle.std.proofs.Common.{◌≡◌, ℕ, ◌+◌, ◌≤◌, Bool, true, false, not, List, [], ◌∷◌, ◌++◌, map, drop, find, length, Option, Some, None, option_map, option_to_list, inl, refl, sym, ap, ap₂, ◌∙◌, subst, arith}
use Rattle.std.specs.Prelude.{◌==◌, ◌&&◌, ◌||◌, is_some}
use Rattle.std.specs.List.{AllByRecursion}
use Rattle.std.proofs.lemmas.Bool.{eqb-true, eq-eqb}
use Rattle.std.proofs.lemmas.List.{append-nil}
use Rattle.mc_base.specs.Limits.{first_address}
use Rattle.mc_base.specs.FullName.{end_name}
use Rattle.mc_base.specs.declared.name.Local.{Local}
use Rattle.mc_base.specs.declared.name.EndName.{EndName}
use Rattle.mc_base.specs.declared.channel.Kind.TheVariants.{Packet, Scalar}
use Rattle.mc_base.specs.declared.channel.Bits.{Bits}
use Rattle.mc_base.specs.declared.channel.Side.TheVariants.{Sender, Receiver}
use Rattle.mc_base.specs.declared.refusal.Refusal.{Refusal}
use Rattle.mc_base.specs.declared.refusal.Refusal.TheVariants.{NotConnected, ChanDirection, EndpInvalid, ChanClosed}
use Rattle.board_model.specs.Answer.{first_complete, local, address_of, channel_at, has_channel, holds_at_end, end_holds, holds, words_of, refusal, unless_refused, answer, answer_by, success, lent_whole, value_of, given}
use Rattle.board_model.specs.CallChanges.{at_channel, at_end, at_live, best_item, lent_by, lent_by_test, lending, success_changes, call_changes, new_sender}
use Rattle.board_model.specs.Change.{Change, oldest_gone, best_gone, request_added, request_gone, packet_lent, asks_for, with_queue, changed, changed_all}
use Rattle.board_model.specs.ChannelEnds.{EndCall, opens, sends, closes, end_refuses, same_side, opened_end, closed_end}
use Rattle.board_model.specs.Channels.{contents_of, lost_by}
use Rattle.board_model.specs.Choice.{least, best, oldest, without_best}
use Rattle.board_model.specs.Deeds.{calls}
use Rattle.board_model.specs.DomainCall.{DomainCall, create_at, delete_at, lookup_of, send_from, receive_at, request_at, available_at, connect_from, open_at, packet_from, lend_at, packet_request_at, release_of, scalar_from, scalar_at, close_at, test_of, wait_for, cancel_of, raw_to, turn_alone}
use Rattle.board_model.specs.Journal.{PlainAnswer, refuses, agrees, tells}
use Rattle.board_model.specs.Lists.{changed_first}
use Rattle.board_model.specs.State.{Item, ChannelEnd, Endpoint, Asked, name_of, channel_of, message_at, packet_at, Outcome, has_address, has_item, Request, DomainState, is_at, has_address_of, place_at, live_at, endpoint_at, endpoint_of, queue_at, queue_in, channel_in, receives_at, one_waits, request_at_place}
use Rattle.board_model.specs.Takings.{taking, asked_address, answered_by}
use Rattle.board_model.proofs.ChannelWords.{hears, contents_if, taken_by, dropped_by, through}
use Rattle.board_model.proofs.HearingGives.{items_of}
use Rattle.board_model.proofs.HearingItems.{messages_none, bound_contents}
use Rattle.board_model.proofs.MessageAlls.{all-found}
use Rattle.board_model.proofs.MessageBest.{best-none}
use Rattle.board_model.proofs.MessageLists.{get-position, some-position, best_is}
use Rattle.board_model.proofs.OrderSerials.{Below, given_by_all, succeeds}
use Rattle.board_model.proofs.OrderSound.{Sound, is_mute, IsMessage, Bound, bound_empty, bound_other, MayAsk, FitAllSound, all_changed, only_at, sound_own, sound_bound, sound_named, not_received, not_waiting}
use Rattle.board_model.proofs.OrderTakings.{taken_of, IsOld, all_old, none_taken, done_old, ended_old, old_without, added_takes, given_takes, old_last}
use Rattle.board_model.proofs.OrderLookups.{none_holds}
use Rattle.board_model.proofs.StateEnds.{there_is}
use Rattle.board_model.proofs.OrderChannels.{no_length, either_none}
use Rattle.board_model.proofs.OrderEnds.{mute_sender}

not_not : (b : Bool) → not b ≡ false → b ≡ true
not_not true e = refl
not_not false e = absurd cc

-- the oldest of a queue that is bound to a channel, and the best among messages
bound_oldest : (q : List Item) (x : Option ChannelEnd) → Bound q x → Bound (option_to_list (oldest q)) x
bound_oldest [] x bound = bound
bound_oldest (i ∷ q) None bound = (bound.0, tt)
bound_oldest (i ∷ q) (Some c) bound = ((λ m. let never : i ∷ q ≡ [] = bound.0 m in absurd cc), (bound.1.0, tt))

best_message : (q : List Item) → AllByRecursion IsMessage q → AllByRecursion IsMessage (option_to_list (best (λ i. i.priority) q))
best_message q all = go (best (λ i. i.priority) q) (sym (best_is (λ i. i.priority) q))
  where
    go : (x : Option Item) → find (λ i. i.priority == least (λ i. i.priority) q) q ≡ x → AllByRecursion IsMessage (option_to_list x)
    go None is = tt
    go (Some i) is = (all-found IsMessage _ q i all is, tt)

module _ (o n : ℕ) (s : DomainState) (sound : Sound s) (below : Below s.requests_given s.requests) (node : ℕ) where
  -- what a call keeps, takes and loses, with this answer and these changes
  pub record Yields (call : DomainCall) (a : PlainAnswer) (cs : List Change) : Type 0 where
    pub fits : FitAllSound s cs
    pub few : given_by_all cs ≤ succeeds (calls node call a)
    pub taken : contents_of o n (items_of (answered_by s (calls node call a) ++ taken_of s (changed_all s cs).requests)) ≡ through (taken_by o n) s cs
    pub lost : lost_by o n s (calls node call a) ≡ through (dropped_by o n) s cs

  -- one by which nothing is taken or lost
  quiet_call : (call : DomainCall) (a : PlainAnswer) (cs : List Change) → answered_by s (calls node call a) ≡ [] → lost_by o n s (calls node call a) ≡ [] → FitAllSound s cs → given_by_all cs ≤ succeeds (calls node call a) → AllByRecursion (IsOld s) (changed_all s cs).requests →
      [] ≡ through (taken_by o n) s cs → [] ≡ through (dropped_by o n) s cs → Yields call a cs
  quiet_call call a cs answers loses fits few old takes drops = record {
    fits = fits;
    few = few;
    taken = ap₂ (λ xs ys. contents_of o n (items_of (xs ++ ys))) answers (none_taken s (changed_all s cs).requests old) ∙ takes;
    lost = loses ∙ drops;
  }

  -- ---- E

  with_live : (call : DomainCall) (a : PlainAnswer) (at : Local) (f : Endpoint → List Change) → not (is_some (place_at s at)) ≡ false → ((e : Endpoint) → live_at s at ≡ Some e → Yields call a (f e)) → Yields call a (at_live (live_at s at) f)
  with_live call a at f there each =
      let e = there_is s at there in
      subst (λ x. Yields call a (at_live x f)) (sym e.1) (each e.0 e.1)

  -- E with its channel
  with_end : (call : DomainCall) (a : PlainAnswer) (at : Local) (asks : EndCall) (f : Endpoint → ChannelEnd → List Change) → not (is_some (place_at s at)) ≡ false → holds_at_end (Some asks) (channel_at s at) NotConnected ≡ false →
      ((e : Endpoint) (c : ChannelEnd) → live_at s at ≡ Some e → e.channel ≡ Some c → Yields call a (f e c)) → Yields call a (at_end (live_at s at) f)
  with_end call a at asks f there connected each =
      let e = there_is s at there in
      subst (λ x. Yields call a (at_end x f)) (sym e.1) (go e.0 e.1 e.0.channel refl (sym (ap (λ x. end_holds asks (channel_in x) NotConnected) e.1) ∙ connected))
    where
      go : (e : Endpoint) → live_at s at ≡ Some e → (x : Option ChannelEnd) → e.channel ≡ x → end_holds asks x NotConnected ≡ false → Yields call a (at_channel x (f e))
      go e is None has h = absurd cc
      go e is (Some c) has h = each e c is has

  queue_is : (at : Local) (e : Endpoint) → live_at s at ≡ Some e → queue_at s at ≡ e.queue
  queue_is at e is = ap queue_in (get-position (is_at at) s.endpoints ∙ is)

  bound_at : (at : Local) (e : Endpoint) → live_at s at ≡ Some e → Bound e.queue e.channel
  bound_at at e is = sound_bound s sound (is_at at) e is

  -- a word of E's channel that does not hold
  of_end : (at : Local) (asks : EndCall) (word : Refusal) (e : Endpoint) (c : ChannelEnd) → live_at s at ≡ Some e → e.channel ≡ Some c → holds_at_end (Some asks) (channel_at s at) word ≡ false → end_refuses asks c word ≡ false
  of_end at asks word e c is has none = sym (ap (λ x. end_holds asks (channel_in x) word) is ∙ ap (λ x. end_holds asks x word) has) ∙ none

  free_at : (at : Local) (e : Endpoint) → live_at s at ≡ Some e → has_channel (endpoint_at s at) ≡ false → e.channel ≡ None
  free_at at e is none = go e.channel (sym (ap has_channel (get-position (is_at at) s.endpoints ∙ is)) ∙ none)
    where
      go : (x : Option ChannelEnd) → is_some x ≡ false → x ≡ None
      go None h = refl
      go (Some c) h = absurd cc

  -- an end is set at E
  set_fits : (at : Local) (e : Endpoint) (x : Option ChannelEnd) → live_at s at ≡ Some e → Bound e.queue x → (f : Endpoint) → endpoint_of s e.address ≡ Some f → Bound f.queue x
  set_fits at e x is bound f found =
      let own : endpoint_of s e.address ≡ Some e = sound_own s sound at e is in
      let same : e ≡ f = one (sym own ∙ found) in
      subst (λ y. Bound y.queue x) same bound
    where
      one : Some e ≡ Some f → e ≡ f
      one both = cc

  -- E is found by its own name
  named_itself : (at : Local) (e : Endpoint) → live_at s at ≡ Some e → live_at s e.local ≡ Some e
  named_itself at e is = sound_named s sound e.local (is_at at) e is (rw (eq-eqb e.local.node e.local.node refl, eq-eqb e.local.port e.local.port refl) refl)

  -- ---- requests that are given

  -- a receive asks at E, where an item is gone or nothing is queued
  module _ (at : Local) (e : Endpoint) (is : live_at s at ≡ Some e) (asked : Asked) (here : (l : Local) → receives_at l asked ≡ true → (l.node == e.local.node && l.port == e.local.port) ≡ true) (less : List Item → List Item) (less_none : less [] ≡ []) where
    may_ask : (x : Option Item) → (x ≡ None → e.queue ≡ []) → AllByRecursion (MayAsk asked (option_map has_item x)) (changed_first (has_address_of e.address) (with_queue less) s.endpoints)
    may_ask (Some i) empty = not_waiting asked i (changed_first (has_address_of e.address) (with_queue less) s.endpoints)
    may_ask None empty =
        all_changed (λ f. is_at e.local f ≡ true → f.queue ≡ []) (MayAsk asked None) (has_address_of e.address) (with_queue less)
        (λ f none h. none (here f.local h)) s.endpoints
        (λ f found none h. ap less (none (here f.local h)) ∙ less_none)
        (only_at (λ f. f.queue ≡ []) e.local s.endpoints e sound.apart (named_itself at e is) (empty refl))

  at_message : (e : Endpoint) (max : ℕ) (l : Local) → receives_at l (message_at e.local max) ≡ true → (l.node == e.local.node && l.port == e.local.port) ≡ true
  at_message e max l h = grind (arith, eqb-true, eq-eqb, h)

  at_packet : (e : Endpoint) (l : Local) → receives_at l (packet_at e.local) ≡ true → (l.node == e.local.node && l.port == e.local.port) ≡ true
  at_packet e l h = grind (arith, eqb-true, eq-eqb, h)

  -- the items that a request takes which is given
  given_items : (at : Local) (e : Endpoint) → live_at s at ≡ Some e → (asked : Asked) → asked_address s asked ≡ e.address ∷ [] → (x : Option Item) → items_of (given_takes s asked (option_map has_item x)) ≡ option_to_list x
  given_items at e is asked address None = refl
  given_items at e is asked address (Some i) = ap (λ ks. items_of (map (λ a. taking (Some s.requests_given) a i) ks)) address

  -- ---- items that are taken

  -- the oldest item of E's queue, as the end hears it
  oldest_contents : (at : Local) (e : Endpoint) → live_at s at ≡ Some e → contents_of o n (option_to_list (oldest e.queue)) ≡ taken_by o n s (oldest_gone e.address)
  oldest_contents at e is =
      bound_contents o n (option_to_list (oldest e.queue)) e.channel (bound_oldest e.queue e.channel (bound_at at e is))
      ∙ ap (λ x. contents_if (hears o n x) (option_to_list (oldest (queue_in x)))) (sym (sound_own s sound at e is))

  -- a receive of a channel that answers
  takes_oldest : (call : DomainCall) (a : PlainAnswer) (later : List Change) (at : Local) (e : Endpoint) → live_at s at ≡ Some e → items_of (answered_by s (calls node call a)) ≡ option_to_list (oldest e.queue) → lost_by o n s (calls node call a) ≡ [] →
      FitAllSound (changed s (oldest_gone e.address)) later → given_by_all later ≡ 0 → (changed_all (changed s (oldest_gone e.address)) later).requests ≡ s.requests → [] ≡ through (taken_by o n) (changed s (oldest_gone e.address)) later → [] ≡ through (dropped_by o n) (changed s (oldest_gone e.address)) later →
      Yields call a (oldest_gone e.address ∷ later)
  takes_oldest call a later at e is answers loses fits few same takes drops =
      let none : taken_of s (changed_all (changed s (oldest_gone e.address)) later).requests ≡ [] = ap (taken_of s) same ∙ none_taken s s.requests (all_old s) in
      record {
        fits = (tt, fits);
        few = omega (arith, few);
        taken =
            ap (λ ts. contents_of o n (items_of (answered_by s (calls node call a) ++ ts))) none
            ∙ (ap (λ ts. contents_of o n (items_of ts)) (append-nil (answered_by s (calls node call a)))
            ∙ (ap (contents_of o n) answers
            ∙ (oldest_contents at e is
            ∙ (sym (append-nil (taken_by o n s (oldest_gone e.address))) ∙ ap (λ ds. taken_by o n s (oldest_gone e.address) ++ ds) takes))));
        lost = loses ∙ drops;
      }

  items_back : (a : ℕ) (x : Option Item) → items_of (map (taking None a) (option_to_list x)) ≡ option_to_list x
  items_back a None = refl
  items_back a (Some i) = refl

  oldest_answered : (at : Local) (e : Endpoint) → live_at s at ≡ Some e → items_of (at_live (live_at s at) (λ f. map (taking None f.address) (option_to_list (oldest f.queue)))) ≡ option_to_list (oldest e.queue)
  oldest_answered at e is = ap (λ x. items_of (at_live x (λ f. map (taking None f.address) (option_to_list (oldest f.queue))))) is ∙ items_back e.address (oldest e.queue)

  lend_yields : (port : ℕ) (e : Endpoint) → live_at s (local node port) ≡ Some e → Yields (lend_at port) (success s node (lend_at port)) (oldest_gone e.address ∷ lending (oldest e.queue))
  lend_yields port e is =
      subst (λ q. Yields (lend_at port) (lent_whole (oldest q)) (oldest_gone e.address ∷ lending (oldest e.queue))) (sym (queue_is (local node port) e is)) (go (oldest e.queue) refl)
    where
      go : (x : Option Item) → oldest e.queue ≡ x → Yields (lend_at port) (lent_whole x) (oldest_gone e.address ∷ lending x)
      go None same = takes_oldest (lend_at port) (lent_whole None) [] (local node port) e is (ap option_to_list (sym same)) refl tt refl refl refl refl
      go (Some i) same = takes_oldest (lend_at port) (lent_whole (Some i)) (lending (Some i)) (local node port) e is (oldest_answered (local node port) e is) refl (tt, tt) refl refl refl refl

  scalar_yields : (port : ℕ) (bits : Bits) (e : Endpoint) → live_at s (local node port) ≡ Some e → Yields (scalar_at port bits) (success s node (scalar_at port bits)) (oldest_gone e.address ∷ [])
  scalar_yields port bits e is =
      subst (λ q. Yields (scalar_at port bits) (value_of bits (oldest q)) (oldest_gone e.address ∷ [])) (sym (queue_is (local node port) e is)) (go (oldest e.queue) refl)
    where
      go : (x : Option Item) → oldest e.queue ≡ x → Yields (scalar_at port bits) (value_of bits x) (oldest_gone e.address ∷ [])
      go None same = takes_oldest (scalar_at port bits) (value_of bits None) [] (local node port) e is (ap option_to_list (sym same)) refl tt refl refl refl refl
      go (Some i) same = takes_oldest (scalar_at port bits) (value_of bits (Some i)) [] (local node port) e is (oldest_answered (local node port) e is) refl tt refl refl refl refl

  -- a request for a packet
  packet_yields : (port : ℕ) (e : Endpoint) → live_at s (local node port) ≡ Some e → Yields (packet_request_at port) (tells s.requests_given) (oldest_gone e.address ∷ request_added (packet_at e.local) (option_map has_item (oldest e.queue)) ∷ [])
  packet_yields port e is = record {
    fits = (tt, (may_ask (local node port) e is (packet_at e.local) (at_packet e) (drop 1) refl (oldest e.queue) (none_oldest e.queue), tt));
    few = omega arith;
    taken =
        ap (λ ts. contents_of o n (items_of ts)) (added_takes s (packet_at e.local) (option_map has_item (oldest e.queue)) below)
        ∙ (ap (contents_of o n) (given_items (local node port) e is (packet_at e.local) (ap (λ x. at_live x (λ f. f.address ∷ [])) (named_itself (local node port) e is)) (oldest e.queue))
        ∙ (oldest_contents (local node port) e is ∙ sym (append-nil (taken_by o n s (oldest_gone e.address)))));
    lost = refl;
  }
    where
      none_oldest : (q : List Item) → oldest q ≡ None → q ≡ []
      none_oldest [] h = refl
      none_oldest (i ∷ q) h = absurd cc

  -- ---- messages

  best_none : (e : Endpoint) (at : Local) → live_at s at ≡ Some e → e.channel ≡ None → contents_of o n (option_to_list (best_item e)) ≡ []
  best_none e at is free = messages_none o n (option_to_list (best_item e)) (best_message e.queue (subst (Bound e.queue) free (bound_at at e is)))

  receive_yields : (port max : ℕ) (e : Endpoint) → live_at s (local node port) ≡ Some e → e.channel ≡ None → Yields (receive_at port max) (success s node (receive_at port max)) (best_gone e.address ∷ [])
  receive_yields port max e is free = go (best (λ i. i.priority) (queue_at s (local node port)))
    where
      answers : (x : Option Item) → contents_of o n (items_of (answered_by s (calls node (receive_at port max) (given max x)))) ≡ []
      answers None = refl
      answers (Some i) =
          ap (λ x. contents_of o n (items_of (at_live x (λ f. map (taking None f.address) (option_to_list (best_item f)))))) is
          ∙ (ap (contents_of o n) (items_back e.address (best_item e)) ∙ best_none e (local node port) is free)

      go : (x : Option Item) → Yields (receive_at port max) (given max x) (best_gone e.address ∷ [])
      go x = record {
        fits = (tt, tt);
        few = omega arith;
        taken =
            ap (λ ts. contents_of o n (items_of (answered_by s (calls node (receive_at port max) (given max x)) ++ ts))) (none_taken s s.requests (all_old s))
            ∙ (ap (λ ts. contents_of o n (items_of ts)) (append-nil (answered_by s (calls node (receive_at port max) (given max x)))) ∙ answers x);
        lost = refl;
      }

  request_yields : (port max : ℕ) (e : Endpoint) → live_at s (local node port) ≡ Some e → e.channel ≡ None → Yields (request_at port max) (tells s.requests_given) (best_gone e.address ∷ request_added (message_at e.local max) (option_map has_item (best_item e)) ∷ [])
  request_yields port max e is free = record {
    fits = (tt, (may_ask (local node port) e is (message_at e.local max) (at_message e max) (without_best (λ i. i.priority)) refl (best_item e) (λ none. best-none (λ i. i.priority) e.queue none), tt));
    few = omega arith;
    taken =
        ap (λ ts. contents_of o n (items_of ts)) (added_takes s (message_at e.local max) (option_map has_item (best_item e)) below)
        ∙ (ap (contents_of o n) (given_items (local node port) e is (message_at e.local max) (ap (λ x. at_live x (λ f. f.address ∷ [])) (named_itself (local node port) e is)) (best_item e))
        ∙ best_none e (local node port) is free);
    lost = refl;
  }

  -- ---- each call

  -- what a test lends
  lent_cases : (P : List Change → Type 0) → P [] → ((i : Item) → P (packet_lent i ∷ [])) → (x : Option Request) → P (lent_by_test x)
  lent_cases P none some None = none
  lent_cases P none some (Some r) = go r.asked r.outcome
    where
      go : (asked : Asked) (x : Option Outcome) → P (lent_by asked x)
      go (packet_at at) (Some (has_item i)) = some i
      go asked x = none

  opened_mute : (c : ChannelEnd) → is_mute (opened_end c) ≡ true → is_mute c ≡ true
  opened_mute c m = mute_sender c (or_false (same_side c.side Sender) m)
    where
      or_false : (b : Bool) → (b || false) ≡ true → b ≡ true
      or_false true h = refl
      or_false false h = h

  lookup_yields : (name : EndName) (x : Option ℕ) → Yields (lookup_of name) (tells s.requests_given) (request_added (name_of name) (option_map has_address x) ∷ [])
  lookup_yields name None = quiet_call (lookup_of name) (tells s.requests_given) (request_added (name_of name) None ∷ []) refl refl (not_received (name_of name) (λ l. refl) None s.endpoints, tt) (omega arith) (old_last s _ (inl refl) s.requests (all_old s)) refl refl
  lookup_yields name (Some a) = quiet_call (lookup_of name) (tells s.requests_given) (request_added (name_of name) (Some (has_address a)) ∷ []) refl refl (not_received (name_of name) (λ l. refl) (Some (has_address a)) s.endpoints, tt) (omega arith) (old_last s _ (inl refl) s.requests (all_old s)) refl refl

  success_yields : (call : DomainCall) → AllByRecursion (λ w. holds s node call w ≡ false) (words_of call) → Yields call (success s node call) (success_changes s node call)
  success_yields (create_at port) no_word =
      quiet_call (create_at port) (success s node (create_at port)) (success_changes s node (create_at port)) refl refl (sym (some-position (is_at (local node port)) s.endpoints) ∙ no_word.1.0, (tt, (tt, tt))) (omega arith)
      (done_old s (asks_for (end_name s.number (local node port))) (has_address (first_address + s.endpoints_given)) refl) refl refl
  success_yields (delete_at port) no_word = with_live (delete_at port) (success s node (delete_at port)) (local node port) _ no_word.0 (λ e is.
      quiet_call (delete_at port) (success s node (delete_at port)) _ refl refl (tt, (tt, (tt, tt))) (omega arith) (ended_old s (endpoint_of s e.address) EndpInvalid) refl refl)
  success_yields (lookup_of name) no_word = lookup_yields name (address_of s name)
  success_yields (send_from port to priority bytes) no_word = quiet_call (send_from port to priority bytes) agrees _ refl refl (tt, tt) (omega arith) (all_old s) refl refl
  success_yields (receive_at port max) no_word = with_live (receive_at port max) (success s node (receive_at port max)) (local node port) _ no_word.0 (λ e is. receive_yields port max e is (free_at (local node port) e is no_word.1.0))
  success_yields (request_at port max) no_word = with_live (request_at port max) (success s node (request_at port max)) (local node port) _ no_word.0 (λ e is. request_yields port max e is (free_at (local node port) e is no_word.1.0))
  success_yields (available_at port) no_word = quiet_call (available_at port) (success s node (available_at port)) [] refl refl tt (omega arith) (all_old s) refl refl
  success_yields (connect_from port to kind) no_word = with_live (connect_from port to kind) (success s node (connect_from port to kind)) (local node port) _ no_word.0 (λ e is.
      let none : e.queue ≡ [] = sym (queue_is (local node port) e is) ∙ no_length (queue_at s (local node port)) (either_none (not (length (queue_at s (local node port)) == 0)) (one_waits s (local node port)) no_word.1.1.0).0 in
      quiet_call (connect_from port to kind) (success s node (connect_from port to kind)) _ refl refl
      (tt, (set_fits (local node port) e (Some (new_sender s to kind)) is (bound_empty e.queue none (Some (new_sender s to kind))), (not_received (channel_of (s.channels_given + 1)) (λ l. refl) None _, (tt, tt)))) (omega arith)
      (old_last s _ (inl refl) s.requests (all_old s)) refl refl)
  success_yields (open_at port side kind) no_word = with_end (open_at port side kind) agrees (local node port) (opens side kind) _ no_word.0 no_word.1.0 (λ e c is has.
      quiet_call (open_at port side kind) agrees _ refl refl (tt, (set_fits (local node port) e (Some (opened_end c)) is (bound_other e.queue c (opened_end c) refl refl (opened_mute c) (subst (Bound e.queue) has (bound_at (local node port) e is))), tt)) (omega arith) (all_old s) refl refl)
  success_yields (packet_from port bytes) no_word = with_end (packet_from port bytes) agrees (local node port) (sends Packet) _ no_word.0 no_word.1.0 (λ e c is has. quiet_call (packet_from port bytes) agrees _ refl refl (tt, tt) (omega arith) (all_old s) refl refl)
  success_yields (lend_at port) no_word = with_live (lend_at port) (success s node (lend_at port)) (local node port) _ no_word.0 (λ e is. lend_yields port e is)
  success_yields (packet_request_at port) no_word = with_live (packet_request_at port) (success s node (packet_request_at port)) (local node port) _ no_word.0 (λ e is. packet_yields port e is)
  success_yields (release_of place) no_word = quiet_call (release_of place) agrees _ refl refl (tt, tt) (omega arith) (all_old s) refl refl
  success_yields (scalar_from port bits value) no_word = with_end (scalar_from port bits value) agrees (local node port) (sends Scalar) _ no_word.0 no_word.1.0 (λ e c is has. quiet_call (scalar_from port bits value) agrees _ refl refl (tt, tt) (omega arith) (all_old s) refl refl)
  success_yields (scalar_at port bits) no_word = with_live (scalar_at port bits) (success s node (scalar_at port bits)) (local node port) _ no_word.0 (λ e is. scalar_yields port bits e is)
  success_yields (close_at port Sender) no_word = with_end (close_at port Sender) agrees (local node port) (closes Sender) _ no_word.0 no_word.1.0 (λ e c is has.
      let sends_it : same_side c.side Sender ≡ true = not_not (same_side c.side Sender) (of_end (local node port) (closes Sender) ChanDirection e c is has no_word.1.1.0) in
      let bound : Bound e.queue (Some c) = subst (Bound e.queue) has (bound_at (local node port) e is) in
      quiet_call (close_at port Sender) agrees _ refl refl (tt, (set_fits (local node port) e (closed_end c) is (bound_empty e.queue (bound.0 (mute_sender c sends_it)) (closed_end c)), tt)) (omega arith) (all_old s) refl refl)
  success_yields (close_at port Receiver) no_word = with_end (close_at port Receiver) (success s node (close_at port Receiver)) (local node port) (closes Receiver) _ no_word.0 no_word.1.0 (λ e c is has. record {
    fits = (tt, (tt, (tt, tt)));
    few = omega arith;
    taken = ap (λ ts. contents_of o n (items_of ts)) (none_taken s _ (ended_old s (endpoint_of s e.address) ChanClosed));
    lost =
        ap (λ x. at_live x (λ f. contents_of o n f.queue)) is
        ∙ (bound_contents o n e.queue e.channel (bound_at (local node port) e is)
        ∙ (ap (λ x. contents_if (hears o n x) (queue_in x)) (sym (sound_own s sound (local node port) e is)) ∙ sym (append-nil (contents_if (hears o n (endpoint_of s e.address)) (queue_in (endpoint_of s e.address))))));
  })
  success_yields (test_of place) no_word = lent_cases (λ cs. Yields (test_of place) (success s node (test_of place)) (request_gone place ∷ cs))
      (quiet_call (test_of place) (success s node (test_of place)) (request_gone place ∷ []) refl refl (tt, tt) (omega arith) (old_without s place s.requests (all_old s)) refl refl)
      (λ i. quiet_call (test_of place) (success s node (test_of place)) (request_gone place ∷ packet_lent i ∷ []) refl refl (tt, (tt, tt)) (omega arith) (old_without s place s.requests (all_old s)) refl refl) (request_at_place s place)
  success_yields (wait_for requests says_place) no_word =
      let wait : DomainCall = wait_for requests says_place in
      let place : Option ℕ = first_complete s requests in
      lent_cases (λ cs. Yields wait (success s node wait) (request_gone place ∷ cs))
      (quiet_call wait (success s node wait) (request_gone place ∷ []) refl refl (tt, tt) (omega arith) (old_without s place s.requests (all_old s)) refl refl)
      (λ i. quiet_call wait (success s node wait) (request_gone place ∷ packet_lent i ∷ []) refl refl (tt, (tt, tt)) (omega arith) (old_without s place s.requests (all_old s)) refl refl) (request_at_place s place)
  success_yields (cancel_of place) no_word = quiet_call (cancel_of place) agrees _ refl refl (tt, tt) (omega arith) (old_without s place s.requests (all_old s)) refl refl
  success_yields (raw_to to bytes) no_word = quiet_call (raw_to to bytes) agrees _ refl refl (tt, tt) (omega arith) (all_old s) refl refl
  success_yields turn_alone no_word = quiet_call turn_alone agrees [] refl refl tt (omega arith) (all_old s) refl refl

  -- ---- a refused call

  refused_answers : (call : DomainCall) (w : Refusal) → answered_by s (calls node call (refuses w)) ≡ []
  refused_answers (receive_at port max) w = refl
  refused_answers (lend_at port) w = refl
  refused_answers (scalar_at port bits) w = refl
  refused_answers other w = refl

  refused_loses : (call : DomainCall) (w : Refusal) → lost_by o n s (calls node call (refuses w)) ≡ []
  refused_loses (close_at port Sender) w = refl
  refused_loses (close_at port Receiver) w = refl
  refused_loses other w = refl

  pub call_yields : (call : DomainCall) (a : PlainAnswer) → a ≡ answer s node call → Yields call a (call_changes s node call)
  call_yields call a is = subst (λ x. Yields call x (call_changes s node call)) (sym is) (go (refusal s node call) refl)
    where
      go : (r : Option Refusal) → refusal s node call ≡ r → Yields call (answer_by r (success s node call)) (unless_refused r [] (success_changes s node call))
      go (Some w) h = quiet_call call (refuses w) [] (refused_answers call w) (refused_loses call w) tt (omega arith) (all_old s) refl refl
      go None h = success_yields call (none_holds (holds s node call) (words_of call) h)
