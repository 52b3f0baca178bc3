-- What the calls of messages and of requests do to the messages that are queued.
use Rattle.std.proofs.Common.{◌≡◌, ◌⊎◌, inl, inr, ℕ, ◌+◌, ◌≤◌, Bool, true, false, cond, List, [], ◌∷◌, map, find, flat_map, length, Option, Some, None, option_map, option_to_list, refl, sym, ap, ap₂, ◌∙◌, subst, arith}
use Rattle.std.specs.Prelude.{◌==◌, ◌&&◌}
use Rattle.std.specs.List.{AllByRecursion}
use Rattle.std.proofs.lemmas.Bool.{eqb-true, eq-eqb, and_parts}
use Rattle.std.proofs.lemmas.List.{append-nil}
use Rattle.mc_base.specs.Limits.{first_address}
use Rattle.mc_base.specs.FullName.{end_name}
use Rattle.mc_base.specs.declared.name.Local.{Local}
use Rattle.mc_base.specs.declared.name.EndName.{EndName}
use Rattle.mc_base.specs.declared.refusal.Refusal.{Refusal}
use Rattle.mc_base.specs.declared.refusal.Refusal.TheVariants.{EndpInvalid}
use Rattle.board_model.specs.DomainCall.{DomainCall, create_at, delete_at, lookup_of, send_from, receive_at, request_at, available_at, release_of, test_of, wait_for, cancel_of, raw_to, turn_alone}
use Rattle.board_model.specs.Journal.{PlainAnswer, refuses, agrees}
use Rattle.board_model.specs.Choice.{least, best, without_best}
use Rattle.board_model.specs.State.{Item, Endpoint, Asked, name_of, message_at, packet_at, has_address, has_item, DomainState, is_at, has_address_of, live_at, queue_at, endpoint_of, request_at_place, queue_in, receives_at}
use Rattle.board_model.specs.Answer.{first_complete, local, holds, words_of, refusal, success, unless_refused, given as given_first, address_of}
use Rattle.board_model.specs.Change.{Change, end_announced, asks_for, all_done, best_gone, request_added, request_gone, endpoint_gone, waiting_ended, ended_in, with_queue, packet_lent, packet_gone, at_address, changed}
use Rattle.board_model.specs.CallChanges.{at_live, best_item, lent_by_test, success_changes}
use Rattle.board_model.specs.Deeds.{Deed, calls}
use Rattle.board_model.specs.Takings.{Taking, taking, is_message_taking, answered_by}
use Rattle.board_model.specs.MessageOrder.{items_at, dropped_at, dropped_from}
use Rattle.board_model.proofs.MessageAlls.{all-filter}
use Rattle.board_model.proofs.StateEnds.{tested-are}
use Rattle.board_model.proofs.MessageLists.{best_is, without_best_is}
use Rattle.board_model.proofs.MessageBest.{best-none}
use Rattle.board_model.proofs.OrderDeeds.{Does}
use Rattle.board_model.proofs.OrderItems.{IsPast, Apart, left_of, left_none, left_self, left_first, found_all}
use Rattle.board_model.proofs.OrderQueues.{messages_at, messages_of, queued_for, queued_made, queued_gone, queued_best}
use Rattle.board_model.proofs.OrderRequests.{kept, turned, gone, given, found_turns, ended_by, items_one, no_items}
use Rattle.board_model.proofs.OrderSerials.{given_by_all}
use Rattle.board_model.proofs.OrderSound.{all_changed, only_at, MayAsk, sound_own, not_received, not_waiting}
use Rattle.board_model.proofs.OrderTakings.{all_old, none_taken, done_old, ended_old, old_without, added_takes, old_last}
use Rattle.board_model.proofs.OrderMoments.{Moment}
use Rattle.board_model.proofs.OrderLookups.{live_found, live_some, none_holds, live_here, free_here}
use Rattle.board_model.proofs.OrderEffects.{refused_none, refused_dropped, gone_of, IsBest, Effect, effect_does, quiet, test_given}

module _ (room : ℕ) (before : List Deed) (s : DomainState) (moment : Moment room before s) (node : ℕ) where
  -- ---- refused

  pub refused_does : (call : DomainCall) (w : Refusal) → refusal s node call ≡ Some w → Does room before s (calls node call (refuses w))
  refused_does call w is =
      effect_does room before s moment node call (refuses w) [] [] (λ b. []) (ap (λ o. unless_refused o [] (success_changes s node call)) is) (refused_none s node call w) (λ b. refused_dropped b s node call w) (omega arith)
      (quiet before s [] tt (all_old s) (λ b. refl) (kept [] (λ k. refl)))

  -- ---- a success that takes and drops nothing

  quiet_does : (call : DomainCall) (a : PlainAnswer) → refusal s node call ≡ None → answered_by s (calls node call a) ≡ [] → ((b : ℕ) → dropped_from b s (calls node call a) ≡ []) → given_by_all (success_changes s node call) ≤ room → Effect before s (success_changes s node call) [] (λ b. []) → Does room before s (calls node call a)
  quiet_does call a is answers drops fits effect = effect_does room before s moment node call a (success_changes s node call) [] (λ b. []) (ap (λ o. unless_refused o [] (success_changes s node call)) is) answers drops fits effect

  -- ---- create, send, available, test, cancel, a raw frame, turn, lookup

  pub create_does : (port : ℕ) → refusal s node (create_at port) ≡ None → Does room before s (calls node (create_at port) (success s node (create_at port)))
  create_does port is =
      let words = none_holds (holds s node (create_at port)) (words_of (create_at port)) is in
      quiet_does (create_at port) (success s node (create_at port)) is refl (λ b. refl) (omega arith)
      (quiet before s (success_changes s node (create_at port)) (sym (live_some s (local node port)) ∙ words.1.0, (tt, (tt, tt))) (done_old s (asks_for (end_name s.number (local node port))) (has_address (first_address + s.endpoints_given)) refl) (λ b. queued_made s (local node port) b) (turned (all_done (asks_for (end_name s.number (local node port))) (has_address (first_address + s.endpoints_given))) (found_turns (end_name s.number (local node port)) (first_address + s.endpoints_given))))

  pub send_does : (port : ℕ) (to : EndName) (priority : ℕ) (bytes : List ℕ) → refusal s node (send_from port to priority bytes) ≡ None → Does room before s (calls node (send_from port to priority bytes) agrees)
  send_does port to priority bytes is = quiet_does (send_from port to priority bytes) agrees is refl (λ b. refl) (omega arith) (quiet before s (success_changes s node (send_from port to priority bytes)) (tt, tt) (all_old s) (λ b. refl) (kept [] (λ k. refl)))

  pub available_does : (port : ℕ) → refusal s node (available_at port) ≡ None → Does room before s (calls node (available_at port) (success s node (available_at port)))
  available_does port is = quiet_does (available_at port) (success s node (available_at port)) is refl (λ b. refl) (omega arith) (quiet before s [] tt (all_old s) (λ b. refl) (kept [] (λ k. refl)))

  pub raw_does : (to : ℕ) (bytes : List ℕ) → refusal s node (raw_to to bytes) ≡ None → Does room before s (calls node (raw_to to bytes) agrees)
  raw_does to bytes is = quiet_does (raw_to to bytes) agrees is refl (λ b. refl) (omega arith) (quiet before s (success_changes s node (raw_to to bytes)) (tt, tt) (all_old s) (λ b. refl) (kept [] (λ k. refl)))

  pub turn_does : Does room before s (calls node turn_alone agrees)
  turn_does = quiet_does turn_alone agrees refl refl (λ b. refl) (omega arith) (quiet before s [] tt (all_old s) (λ b. refl) (kept [] (λ k. refl)))

  test_effect : (place : Option ℕ) (lent : List Change) → (lent ≡ []) ⊎ ((i : Item) × (lent ≡ packet_lent i ∷ [])) → Effect before s (request_gone place ∷ lent) [] (λ b. [])
  test_effect place lent (inl none) = subst (λ cs. Effect before s (request_gone place ∷ cs) [] (λ b. [])) (sym none) (quiet before s (request_gone place ∷ []) (tt, tt) (old_without s place s.requests (all_old s)) (λ b. refl) (gone place))
  test_effect place lent (inr one) = subst (λ cs. Effect before s (request_gone place ∷ cs) [] (λ b. [])) (sym one.1) (quiet before s (request_gone place ∷ packet_lent one.0 ∷ []) (tt, (tt, tt)) (old_without s place s.requests (all_old s)) (λ b. refl) (gone place))

  pub wait_does : (requests : List (Option ℕ)) (says_place : Bool) → refusal s node (wait_for requests says_place) ≡ None → Does room before s (calls node (wait_for requests says_place) (success s node (wait_for requests says_place)))
  wait_does requests says_place is =
      let place : Option ℕ = first_complete s requests in
      let tested = tested-are (request_at_place s place) in
      quiet_does (wait_for requests says_place) (success s node (wait_for requests says_place)) is refl (λ b. refl) (omega (arith, test_given (lent_by_test (request_at_place s place)) tested)) (test_effect place (lent_by_test (request_at_place s place)) tested)

  pub test_does : (place : Option ℕ) → refusal s node (test_of place) ≡ None → Does room before s (calls node (test_of place) (success s node (test_of place)))
  test_does place is =
      let tested = tested-are (request_at_place s place) in
      quiet_does (test_of place) (success s node (test_of place)) is refl (λ b. refl) (omega (arith, test_given (lent_by_test (request_at_place s place)) tested)) (test_effect place (lent_by_test (request_at_place s place)) tested)

  pub release_does : (place : Option ℕ) → refusal s node (release_of place) ≡ None → Does room before s (calls node (release_of place) agrees)
  release_does place is = quiet_does (release_of place) agrees is refl (λ b. refl) (omega arith) (quiet before s (packet_gone place ∷ []) (tt, tt) (all_old s) (λ b. refl) (kept [] (λ k. refl)))

  pub cancel_does : (place : Option ℕ) → refusal s node (cancel_of place) ≡ None → Does room before s (calls node (cancel_of place) agrees)
  cancel_does place is = quiet_does (cancel_of place) agrees is refl (λ b. refl) (omega arith) (quiet before s (success_changes s node (cancel_of place)) (tt, tt) (old_without s place s.requests (all_old s)) (λ b. refl) (gone place))

  -- ---- lookup

  lookup_effect : (name : EndName) (x : Option ℕ) → Effect before s (request_added (name_of name) (option_map has_address x) ∷ []) [] (λ b. [])
  lookup_effect name None = quiet before s (request_added (name_of name) None ∷ []) (not_received (name_of name) (λ l. refl) None s.endpoints, tt) (old_last s _ (inl refl) s.requests (all_old s)) (λ b. refl) (given (name_of name) None [] tt (λ k. sym (no_items (s.requests_given == k))))
  lookup_effect name (Some a) = quiet before s (request_added (name_of name) (Some (has_address a)) ∷ []) (not_received (name_of name) (λ l. refl) (Some (has_address a)) s.endpoints, tt) (old_last s _ (inl refl) s.requests (all_old s)) (λ b. refl) (given (name_of name) (Some (has_address a)) [] tt (λ k. sym (no_items (s.requests_given == k))))

  pub lookup_does : (name : EndName) → refusal s node (lookup_of name) ≡ None → 1 ≤ room → Does room before s (calls node (lookup_of name) (success s node (lookup_of name)))
  lookup_does name is fits = quiet_does (lookup_of name) (success s node (lookup_of name)) is refl (λ b. refl) (omega arith) (lookup_effect name (address_of s name))

  -- ---- what is queued at an endpoint that is live

  queue_here : (e : Endpoint) (at : Local) → live_at s at ≡ Some e → e.channel ≡ None → (b : ℕ) → (e.address == b) ≡ true → queued_for s b ≡ e.queue
  queue_here e at found free b same = ap messages_of (ap (λ x. endpoint_of s x) (sym (eqb-true e.address b same)) ∙ sound_own s moment.sound at e found) ∙ ap (λ c. messages_at c e.queue) free

  -- ---- delete

  delete_effect : (e : Endpoint) (at : Local) → live_at s at ≡ Some e → e.channel ≡ None → Effect before s (waiting_ended e.address EndpInvalid ∷ endpoint_gone e.address ∷ end_announced (record { local = e.local; address = e.address; create = false }) ∷ []) [] (λ b. dropped_at b (Some e))
  delete_effect e at found free = record {
    fits = (tt, (tt, (tt, tt)));
    completed = [];
    takings = none_taken s (ended_in (endpoint_of s e.address) EndpInvalid s.requests) (ended_old s (endpoint_of s e.address) EndpInvalid);
    queue = λ b. queued_gone (changed s (waiting_ended e.address EndpInvalid)) e.address b ∙ left b (e.address == b) refl;
    past = λ b. all_past b (e.address == b) refl;
    best_first = tt;
    requests = ended_by s (endpoint_of s e.address) EndpInvalid;
  }
    where
      left : (b : ℕ) (c : Bool) → (e.address == b) ≡ c → cond c [] (queued_for s b) ≡ left_of (cond c e.queue []) (queued_for s b)
      left b true same = sym (ap (left_of e.queue) (queue_here e at found free b same) ∙ left_self e.queue)
      left b false other = sym (left_none (queued_for s b))

      all_past : (b : ℕ) (c : Bool) → (e.address == b) ≡ c → AllByRecursion (IsPast before) (cond c e.queue [])
      all_past b true same = subst (AllByRecursion (IsPast before)) (queue_here e at found free b same) (moment.items b)
      all_past b false other = tt

  pub delete_does : (port : ℕ) → refusal s node (delete_at port) ≡ None → Does room before s (calls node (delete_at port) (success s node (delete_at port)))
  delete_does port is =
      let words = none_holds (holds s node (delete_at port)) (words_of (delete_at port)) is in
      let e = live_here s (local node port) words.0 in
      effect_does room before s moment node (delete_at port) (success s node (delete_at port)) (delete_changes (Some e.0)) [] (λ b. dropped_at b (Some e.0))
      (ap (λ o. unless_refused o [] (success_changes s node (delete_at port))) is ∙ ap delete_changes e.1) refl (λ b. ap (dropped_at b) e.1) (omega arith) (delete_effect e.0 (local node port) e.1 (free_here s (local node port) e.0 e.1 words.1.0))
    where
      delete_changes : Option Endpoint → List Change
      delete_changes o = at_live o (λ e. waiting_ended e.address EndpInvalid ∷ endpoint_gone e.address ∷ end_announced (record { local = e.local; address = e.address; create = false }) ∷ [])

  -- ---- the best is gone

  best_at : (e : Endpoint) (i : Item) → best_item e ≡ Some i → find (λ x. x.priority == least (λ y. y.priority) e.queue) e.queue ≡ Some i
  best_at e i is = sym (best_is (λ x. x.priority) e.queue) ∙ is

  best_left : (e : Endpoint) (at : Local) (i : Item) → live_at s at ≡ Some e → e.channel ≡ None → best_item e ≡ Some i → (b : ℕ) → queued_for (changed s (best_gone e.address)) b ≡ left_of (cond (e.address == b) (i ∷ []) []) (queued_for s b)
  best_left e at i found free is b = queued_best s e.address b ∙ go (e.address == b) refl
    where
      go : (c : Bool) → (e.address == b) ≡ c → cond c (without_best (λ x. x.priority) (queued_for s b)) (queued_for s b) ≡ left_of (cond c (i ∷ []) []) (queued_for s b)
      go true same =
          let here : queued_for s b ≡ e.queue = queue_here e at found free b same in
          ap (without_best (λ x. x.priority)) here
          ∙ (without_best_is (λ x. x.priority) e.queue
          ∙ (sym (left_first (λ x. x.priority == least (λ y. y.priority) e.queue) e.queue i (best_at e i is) (subst Apart here (moment.apart b)))
          ∙ sym (ap (left_of (i ∷ [])) here)))
      go false other = sym (left_none (queued_for s b))

  best_past : (e : Endpoint) (at : Local) (i : Item) → live_at s at ≡ Some e → e.channel ≡ None → best_item e ≡ Some i → (b : ℕ) → AllByRecursion (IsPast before) (cond (e.address == b) (i ∷ []) [])
  best_past e at i found free is b = go (e.address == b) refl
    where
      go : (c : Bool) → (e.address == b) ≡ c → AllByRecursion (IsPast before) (cond c (i ∷ []) [])
      go true same = (found_all (IsPast before) (λ x. x.priority == least (λ y. y.priority) e.queue) e.queue i (best_at e i is) (subst (AllByRecursion (IsPast before)) (queue_here e at found free b same) (moment.items b)), tt)
      go false other = tt

  best_queued : (e : Endpoint) (at : Local) (i : Item) → live_at s at ≡ Some e → e.channel ≡ None → best_item e ≡ Some i → best (λ x. x.priority) (queued_for s e.address) ≡ Some i
  best_queued e at i found free is = ap (best (λ x. x.priority)) (queue_here e at found free e.address (eq-eqb e.address e.address refl)) ∙ is

  -- one taking
  pub one_gone : (t : Taking) (b : ℕ) → gone_of (t ∷ []) (λ x. []) b ≡ cond (t.address == b) (t.item ∷ []) []
  one_gone t b = append-nil (flat_map (items_at b) (t ∷ [])) ∙ append-nil (cond (t.address == b) (t.item ∷ []) [])

  -- ---- receive

  receive_effect : (e : Endpoint) (at : Local) (i : Item) → live_at s at ≡ Some e → e.channel ≡ None → best_item e ≡ Some i → Effect before s (best_gone e.address ∷ []) (taking None e.address i ∷ []) (λ b. [])
  receive_effect e at i found free is = record {
    fits = (tt, tt);
    completed = [];
    takings = none_taken s s.requests (all_old s);
    queue = λ b. best_left e at i found free is b ∙ ap (λ g. left_of g (queued_for s b)) (sym (one_gone (taking None e.address i) b));
    past = λ b. subst (AllByRecursion (IsPast before)) (sym (one_gone (taking None e.address i) b)) (best_past e at i found free is b);
    best_first = all-filter (IsBest s) is_message_taking (taking None e.address i ∷ []) (best_queued e at i found free is, tt);
    requests = kept (taking None e.address i ∷ []) (λ k. refl);
  }

  -- the best of the old lookups
  best_found : (at : Local) (e : Endpoint) → live_at s at ≡ Some e → best (λ x. x.priority) (queue_at s at) ≡ best_item e
  best_found at e found = ap (λ o. best (λ x. x.priority) (queue_in o)) (live_found s at ∙ found)

  pub zero_full : (0 == 0) ≡ false → ⊥
  zero_full h = absurd cc

  some_best : (e : Endpoint) (at : Local) → live_at s at ≡ Some e → (length (queue_at s at) == 0) ≡ false → (i : Item) × (best_item e ≡ Some i)
  some_best e at found full = go (best_item e) refl
    where
      go : (o : Option Item) → best_item e ≡ o → (i : Item) × (best_item e ≡ Some i)
      go None none =
          let empty : e.queue ≡ [] = best-none (λ x. x.priority) e.queue none in
          let here : queue_at s at ≡ [] = ap queue_in (live_found s at ∙ found) ∙ empty in
          absurd (zero_full (subst (λ q. (length q == 0) ≡ false) here full))
      go (Some i) is = (i, is)

  pub receive_does : (port max : ℕ) → refusal s node (receive_at port max) ≡ None → Does room before s (calls node (receive_at port max) (success s node (receive_at port max)))
  receive_does port max is =
      let words = none_holds (holds s node (receive_at port max)) (words_of (receive_at port max)) is in
      let e = live_here s (local node port) words.0 in
      let i = some_best e.0 (local node port) e.1 words.1.1.0 in
      effect_does room before s moment node (receive_at port max) (success s node (receive_at port max)) (receive_changes (Some e.0)) (taking None e.0.address i.0 ∷ []) (λ b. [])
      (ap (λ o. unless_refused o [] (success_changes s node (receive_at port max))) is ∙ ap receive_changes e.1)
      (ap (λ x. answered_by s (calls node (receive_at port max) (given_first max x))) (best_found (local node port) e.0 e.1 ∙ i.1) ∙ (ap (λ o. at_live o (λ f. map (taking None f.address) (option_to_list (best_item f)))) e.1 ∙ ap (λ x. map (taking None e.0.address) (option_to_list x)) i.1))
      (λ b. refl) (omega arith) (receive_effect e.0 (local node port) i.0 e.1 (free_here s (local node port) e.0 e.1 words.1.0) i.1)
    where
      receive_changes : Option Endpoint → List Change
      receive_changes o = at_live o (λ e. best_gone e.address ∷ [])

  -- ---- request

  -- an endpoint is found by its own name
  own_name : (at : Local) (es : List Endpoint) (e : Endpoint) → find (is_at at) es ≡ Some e → (e.local.node ≡ at.node) × (e.local.port ≡ at.port)
  own_name at [] e found = absurd cc
  own_name at (x ∷ xs) e found = go (is_at at x) refl found (λ k. own_name at xs e k)
    where
      go : (b : Bool) → is_at at x ≡ b → cond b (Some x) (find (is_at at) xs) ≡ Some e → (find (is_at at) xs ≡ Some e → (e.local.node ≡ at.node) × (e.local.port ≡ at.port)) → (e.local.node ≡ at.node) × (e.local.port ≡ at.port)
      go true here k later =
          let same : x ≡ e = cc in
          let parts = and_parts (x.local.node == at.node) (x.local.port == at.port) here in
          subst (λ y. (y.local.node ≡ at.node) × (y.local.port ≡ at.port)) same (eqb-true x.local.node at.node parts.0, eqb-true x.local.port at.port parts.1)
      go false here k later = later k

  pub found_own : (at : Local) (e : Endpoint) → live_at s at ≡ Some e → live_at s e.local ≡ Some e
  found_own at e found =
      let names = own_name at s.endpoints e found in
      ap₂ (λ n p. find (λ x. x.local.node == n && x.local.port == p) s.endpoints) names.0 names.1 ∙ found

  -- where nothing is queued one may wait
  message_turned : (f : Endpoint) (at : Local) (max : ℕ) → receives_at f.local (message_at at max) ≡ is_at at f
  message_turned f at max = grind (arith, eqb-true, eq-eqb)

  pub packet_turned : (f : Endpoint) (at : Local) → receives_at f.local (packet_at at) ≡ is_at at f
  packet_turned f at = grind (arith, eqb-true, eq-eqb)

  pub may_wait : (e : Endpoint) (at : Local) (asked : Asked) (g : List Item → List Item) → g [] ≡ [] → ((f : Endpoint) → receives_at f.local asked ≡ is_at e.local f) → live_at s at ≡ Some e → e.queue ≡ [] → AllByRecursion (MayAsk asked None) (at_address e.address (with_queue g) s.endpoints)
  may_wait e at asked g still named_at found empty =
      all_changed (λ f. is_at e.local f ≡ true → f.queue ≡ []) (MayAsk asked None) (has_address_of e.address) (with_queue g)
      (λ f none h. none (sym (named_at f) ∙ h)) s.endpoints
      (λ f at_f none h. ap g (none (sym (named_at f) ∙ h)) ∙ still)
      (only_at (λ f. f.queue ≡ []) e.local s.endpoints e moment.sound.apart (found_own at e found) empty)

  request_effect : (e : Endpoint) (at : Local) (max : ℕ) → live_at s at ≡ Some e → e.channel ≡ None → (x : Option Item) → best_item e ≡ x → Effect before s (best_gone e.address ∷ request_added (message_at e.local max) (option_map has_item x) ∷ []) [] (λ b. [])
  request_effect e at max found free None none =
      let empty : e.queue ≡ [] = best-none (λ i. i.priority) e.queue none in
      quiet before s (best_gone e.address ∷ request_added (message_at e.local max) None ∷ []) (tt, (may_wait e at (message_at e.local max) (without_best (λ i. i.priority)) refl (λ f. message_turned f e.local max) found empty, tt)) (old_last s _ (inl refl) s.requests (all_old s))
      (λ b. queued_best s e.address b ∙ same b (e.address == b) refl) (given (message_at e.local max) None [] tt (λ k. sym (no_items (s.requests_given == k))))
    where
      same : (b : ℕ) (c : Bool) → (e.address == b) ≡ c → cond c (without_best (λ i. i.priority) (queued_for s b)) (queued_for s b) ≡ queued_for s b
      same b true is =
          let here : queued_for s b ≡ [] = queue_here e at found free b is ∙ best-none (λ i. i.priority) e.queue none in
          ap (without_best (λ i. i.priority)) here ∙ sym here
      same b false is = refl
  request_effect e at max found free (Some i) is = record {
    fits = (tt, (not_waiting (message_at e.local max) i (changed s (best_gone e.address)).endpoints, tt));
    completed = taking (Some s.requests_given) e.address i ∷ [];
    takings = added_takes s (message_at e.local max) (Some (has_item i)) moment.serials.below ∙ ap (λ o. map (λ a. taking (Some s.requests_given) a i) (at_live o (λ f. f.address ∷ []))) (found_own at e found);
    queue = λ b. best_left e at i found free is b ∙ ap (λ g. left_of g (queued_for s b)) (sym (one_gone (taking (Some s.requests_given) e.address i) b));
    past = λ b. subst (AllByRecursion (IsPast before)) (sym (one_gone (taking (Some s.requests_given) e.address i) b)) (best_past e at i found free is b);
    best_first = all-filter (IsBest s) is_message_taking (taking (Some s.requests_given) e.address i ∷ []) (best_queued e at i found free is, tt);
    requests = given (message_at e.local max) (Some (has_item i)) (taking (Some s.requests_given) e.address i ∷ []) tt (λ k. items_one k s.requests_given e.address i);
  }

  pub request_does : (port max : ℕ) → refusal s node (request_at port max) ≡ None → 1 ≤ room → Does room before s (calls node (request_at port max) (success s node (request_at port max)))
  request_does port max is fits =
      let words = none_holds (holds s node (request_at port max)) (words_of (request_at port max)) is in
      let e = live_here s (local node port) words.0 in
      effect_does room before s moment node (request_at port max) (success s node (request_at port max)) (request_changes (Some e.0)) [] (λ b. [])
      (ap (λ o. unless_refused o [] (success_changes s node (request_at port max))) is ∙ ap request_changes e.1) refl (λ b. refl) (omega arith) (request_effect e.0 (local node port) max e.1 (free_here s (local node port) e.0 e.1 words.1.0) (best_item e.0) refl)
    where
      request_changes : Option Endpoint → List Change
      request_changes o = at_live o (λ e. best_gone e.address ∷ request_added (message_at e.local max) (option_map has_item (best_item e)) ∷ [])
