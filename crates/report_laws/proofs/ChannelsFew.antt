-- A domain numbers no more channels than it has lines of calls, and accepts no more items of a channel.
use Rattle.std.proofs.Common.{◌≡◌, ◌⊎◌, inl, inr, ℕ, ◌+◌, ◌≤◌, ◌<◌, ◌^◌, Bool, true, false, cond, List, [], ◌∷◌, length, Option, Some, None, refl, sym, ap, ◌∙◌, subst, arith}
use Rattle.std.specs.Prelude.{◌==◌}
use Rattle.std.proofs.lemmas.List.{length-append}
use Rattle.std.proofs.lemmas.List.Sums.{length-filter, count_by-le-length}
use Rattle.mc_base.specs.Letter.{PlainLetter, accept, packet, reject, send_close}
use Rattle.mc_base.specs.Pieces.{frames_needed}
use Rattle.mc_base.specs.Reading.{Reading}
use Rattle.mc_base.specs.declared.channel.Side.{Side}
use Rattle.mc_base.specs.declared.channel.Side.TheVariants.{Sender, Receiver}
use Rattle.mc_base.specs.declared.refusal.Refusal.{Refusal}
use Rattle.mc_base.specs.declared.refusal.Refusal.TheVariants.{EndpInvalid}
use Rattle.board_model.specs.declared.scenario.CallLine.{CallLine}
use Rattle.board_model.specs.declared.scenario.Scenario.{Scenario}
use Rattle.board_model.specs.Answer.{local, refusal, success, answer, answer_by, unless_refused, first_complete}
use Rattle.board_model.specs.Board.{DomainJournal}
use Rattle.board_model.specs.CallChanges.{at_live, at_channel, at_end, best_item, new_sender, closing, lending, lent_by_test, success_changes, call_changes}
use Rattle.board_model.specs.Change.{Change, buffers_used, channel_set, request_added, channel_given, oldest_gone, best_gone, packet_lent, waiting_ended, endpoint_gone, end_announced, channels_given_after, changed, changed_all}
use Rattle.board_model.specs.ChannelEnds.{opened_end}
use Rattle.board_model.specs.Channels.{sent_over, accepted_by}
use Rattle.board_model.specs.Choice.{oldest}
use Rattle.board_model.specs.Deeds.{Deed, looks_back, puts_owed, looks_ahead, takes, calls, happens_by, after_deed, after_deeds, MayDo, AllMayDo, along}
use Rattle.board_model.specs.DomainCall.{DomainCall, create_at, delete_at, lookup_of, send_from, receive_at, request_at, available_at, connect_from, open_at, packet_from, lend_at, packet_request_at, release_of, scalar_from, scalar_at, close_at, test_of, wait_for, cancel_of, raw_to, turn_alone}
use Rattle.board_model.specs.Journal.{PlainAnswer, agrees}
use Rattle.board_model.specs.JournalDeeds.{deeds_of, opened, left_in}
use Rattle.board_model.specs.LinkedBoard.{IsLinkedBoard}
use Rattle.board_model.specs.Run.{start, left_by, IsDomainRun}
use Rattle.board_model.specs.Scenario.{script}
use Rattle.board_model.specs.State.{Item, Endpoint, ChannelEnd, channel_of, message_at, packet_at, has_item, DomainState, live_at, request_at_place}
use Rattle.board_model.specs.Parts.{Came, came_from, said_from}
use Rattle.board_model.specs.TakenFrames.{acting, row_of}
use Rattle.board_model.proofs.LaneRows.{Deals, stays, strays, awaits, learns, forgets, hands, queues, loses, rejects, accepts, acts, row-deals}
use Rattle.board_model.proofs.OrderRuns.{few_left}
use Rattle.board_model.proofs.OrderSerials.{succeeds, all_succeed}
use Rattle.board_model.proofs.RunDeeds.{allowed-all, deeds_run}
use Rattle.board_model.proofs.StateEnds.{tested-are}
use Rattle.std.specs.Prelude.{option_map}

-- ---- how many channels changes number

abbrev numbered : Change → ℕ
numbered channel_given = 1
numbered other = 0

abbrev numbered_all : List Change → ℕ
numbered_all [] = 0
numbered_all (c ∷ cs) = numbered c + numbered_all cs

change-numbers : (c : Change) (n : ℕ) → channels_given_after c n ≡ n + numbered c
change-numbers channel_given n = refl
change-numbers other n = omega arith

changes-number : (s : DomainState) (cs : List Change) → (changed_all s cs).channels_given ≡ s.channels_given + numbered_all cs
changes-number s [] = omega arith
changes-number s (c ∷ cs) = omega (arith, changes-number (changed s c) cs, change-numbers c s.channels_given)

-- ---- frames

frame-numbers : (s : DomainState) (q : ℕ) (name : Came) (rd : Reading) → numbered_all (row_of s q name rd).happens ≡ 0
frame-numbers s q name rd = go (row-deals s q name rd)
  where
    acting-numbers : (at : ℕ) (left : Option ChannelEnd) (l : PlainLetter) → numbered_all (acting at left l) ≡ 0
    acting-numbers at left (accept n) = refl
    acting-numbers at left (reject n why) = refl
    acting-numbers at left (send_close n) = refl
    acting-numbers at left other = refl

    go : Deals s q name rd (row_of s q name rd) → numbered_all (row_of s q name rd).happens ≡ 0
    go (stays happens word) = ap numbered_all happens
    go (strays source at p is none happens word) = ap numbered_all happens
    go (awaits source at p is some happens word) = ap numbered_all happens
    go (learns text n a names is learned_so happens word) = ap numbered_all happens
    go (forgets text n a names is forgotten_so happens word) = ap numbered_all happens
    go (hands source at l e is found carried waits happens word) = ap numbered_all happens
    go (queues source at l e is found carried none happens word) = ap numbered_all happens
    go (loses source at l e is found late happens word) = ap numbered_all happens
    go (rejects source at number kind why is happens word) = ap numbered_all happens
    go (accepts source at number kind e is found free idle happens word) = ap numbered_all happens
    go (acts source at l e c left is found has row happens word) = ap numbered_all happens ∙ acting-numbers at left l

-- ---- calls

live-numbers : (o : Option Endpoint) (f : Endpoint → List Change) (n : ℕ) → ((e : Endpoint) → numbered_all (f e) ≤ n) → numbered_all (at_live o f) ≤ n
live-numbers None f n each = omega arith
live-numbers (Some e) f n each = each e

end-numbers : (o : Option Endpoint) (f : Endpoint → ChannelEnd → List Change) → ((e : Endpoint) (c : ChannelEnd) → numbered_all (f e c) ≤ 0) → numbered_all (at_end o f) ≤ 0
end-numbers None f each = omega arith
end-numbers (Some e) f each = go e.channel
  where
    go : (c : Option ChannelEnd) → numbered_all (at_channel c (f e)) ≤ 0
    go None = omega arith
    go (Some c) = each e c

closing-numbers : (side : Side) (e : Endpoint) (c : ChannelEnd) → numbered_all (closing side e c) ≤ 0
closing-numbers Sender e c = omega arith
closing-numbers Receiver e c = omega arith

test-numbers : (lent : List Change) → (lent ≡ []) ⊎ ((i : Item) × (lent ≡ packet_lent i ∷ [])) → numbered_all lent ≡ 0
test-numbers lent (inl none) = ap numbered_all none
test-numbers lent (inr one) = ap numbered_all one.1

none-less : {n m : ℕ} → n ≤ 0 → n ≤ m
none-less le = omega arith

success-numbers : (s : DomainState) (node : ℕ) (call : DomainCall) → numbered_all (success_changes s node call) ≤ succeeds (calls node call (success s node call))
success-numbers s node (create_at port) = omega arith
success-numbers s node (delete_at port) = none-less (live-numbers (live_at s (local node port)) (λ e. waiting_ended e.address EndpInvalid ∷ endpoint_gone e.address ∷ end_announced (record { local = e.local; address = e.address; create = false }) ∷ []) 0 (λ e. omega arith))
success-numbers s node (lookup_of name) = omega arith
success-numbers s node (send_from port to priority bytes) = omega arith
success-numbers s node (receive_at port max) = none-less (live-numbers (live_at s (local node port)) (λ e. best_gone e.address ∷ []) 0 (λ e. omega arith))
success-numbers s node (request_at port max) = none-less (live-numbers (live_at s (local node port)) (λ e. best_gone e.address ∷ request_added (message_at e.local max) (option_map has_item (best_item e)) ∷ []) 0 (λ e. omega arith))
success-numbers s node (available_at port) = omega arith
success-numbers s node (connect_from port to kind) = live-numbers (live_at s (local node port)) (λ e. buffers_used to.domain 1 ∷ channel_set e.address (Some (new_sender s to kind)) ∷ request_added (channel_of (s.channels_given + 1)) None ∷ channel_given ∷ []) 1 (λ e. omega arith)
success-numbers s node (open_at port side kind) = none-less (end-numbers (live_at s (local node port)) (λ e c. buffers_used c.peer 1 ∷ channel_set e.address (Some (opened_end c)) ∷ []) (λ e c. omega arith))
success-numbers s node (packet_from port bytes) = none-less (end-numbers (live_at s (local node port)) (λ e c. buffers_used c.peer (frames_needed (packet c.number bytes)) ∷ []) (λ e c. omega arith))
success-numbers s node (lend_at port) = none-less (live-numbers (live_at s (local node port)) (λ e. oldest_gone e.address ∷ lending (oldest e.queue)) 0 (λ e. lends e.address (oldest e.queue)))
  where
    lends : (a : ℕ) (o : Option Item) → numbered_all (oldest_gone a ∷ lending o) ≤ 0
    lends a None = omega arith
    lends a (Some i) = omega arith
success-numbers s node (packet_request_at port) = none-less (live-numbers (live_at s (local node port)) (λ e. oldest_gone e.address ∷ request_added (packet_at e.local) (option_map has_item (oldest e.queue)) ∷ []) 0 (λ e. omega arith))
success-numbers s node (release_of place) = omega arith
success-numbers s node (scalar_from port bits value) = none-less (end-numbers (live_at s (local node port)) (λ e c. buffers_used c.peer 1 ∷ []) (λ e c. omega arith))
success-numbers s node (scalar_at port bits) = none-less (live-numbers (live_at s (local node port)) (λ e. oldest_gone e.address ∷ []) 0 (λ e. omega arith))
success-numbers s node (close_at port side) = none-less (end-numbers (live_at s (local node port)) (closing side) (closing-numbers side))
success-numbers s node (test_of place) = omega (arith, test-numbers (lent_by_test (request_at_place s place)) (tested-are (request_at_place s place)))
success-numbers s node (wait_for requests says_place) = omega (arith, test-numbers (lent_by_test (request_at_place s (first_complete s requests))) (tested-are (request_at_place s (first_complete s requests))))
success-numbers s node (cancel_of place) = omega arith
success-numbers s node (raw_to to bytes) = omega arith
success-numbers s node turn_alone = omega arith

call-numbers : (s : DomainState) (node : ℕ) (call : DomainCall) (a : PlainAnswer) → a ≡ answer s node call → numbered_all (call_changes s node call) ≤ succeeds (calls node call a)
call-numbers s node call a is = subst (λ x. numbered_all (call_changes s node call) ≤ succeeds (calls node call x)) (sym is) (go (refusal s node call))
  where
    go : (o : Option Refusal) → numbered_all (unless_refused o [] (success_changes s node call)) ≤ succeeds (calls node call (answer_by o (success s node call)))
    go None = success-numbers s node call
    go (Some w) = omega arith

-- ---- deeds

deed-numbers : (s : DomainState) (d : Deed) → MayDo s d → numbered_all (happens_by s d) ≤ succeeds d
deed-numbers s (looks_back q n) may = omega arith
deed-numbers s (puts_owed q frame) may = omega arith
deed-numbers s (looks_ahead q n) may = omega arith
deed-numbers s (takes q name frame word) may = omega (arith, frame-numbers s q (came_from s q name frame) (said_from s q frame))
deed-numbers s (calls node call a) may = call-numbers s node call a may

deeds-number : (s : DomainState) (ds : List Deed) → AllMayDo s ds → (after_deeds s ds).channels_given ≤ s.channels_given + all_succeed ds
deeds-number s [] may = omega arith
deeds-number s (d ∷ ds) may = omega (arith, deeds-number (after_deed s d) ds may.1, changes-number s (happens_by s d), deed-numbers s d may.0)

module _ (n : ℕ) where
  one-few : (b : Bool) (c : List ℕ) → length (cond b (c ∷ []) []) ≤ 1
  one-few true c = omega arith
  one-few false c = omega arith

  end-few : (x : Option Endpoint) (c : List ℕ) → length (at_end x (sent_over n c)) ≤ 1
  end-few None c = omega arith
  end-few (Some e) c = go e.channel
    where
      go : (y : Option ChannelEnd) → length (at_channel y (sent_over n c e)) ≤ 1
      go None = omega arith
      go (Some d) = one-few (d.number == n) c

  call-few : (t : DomainState) (node : ℕ) (call : DomainCall) (a : PlainAnswer) → length (accepted_by n t (calls node call a)) ≤ succeeds (calls node call a)
  call-few t node (packet_from port bytes) agrees = end-few (live_at t (local node port)) bytes
  call-few t node (scalar_from port bits value) agrees = end-few (live_at t (local node port)) _
  call-few t node call a = omega arith

  deeds-few : (t : DomainState) (ds : List Deed) → length (along (accepted_by n) t ds) ≤ all_succeed ds
  deeds-few t [] = omega arith
  deeds-few t (calls node call a ∷ ds) = omega (arith, length-append (accepted_by n t (calls node call a)) (along (accepted_by n) (after_deed t (calls node call a)) ds), call-few t node call a, deeds-few (after_deed t (calls node call a)) ds)
  deeds-few t (takes p name frame word ∷ ds) = omega (arith, deeds-few (after_deed t (takes p name frame word)) ds)
  deeds-few t (looks_back p k ∷ ds) = omega (arith, deeds-few (after_deed t (looks_back p k)) ds)
  deeds-few t (puts_owed p f ∷ ds) = omega (arith, deeds-few (after_deed t (puts_owed p f)) ds)
  deeds-few t (looks_ahead p k ∷ ds) = omega (arith, deeds-few (after_deed t (looks_ahead p k)) ds)

-- ---- a domain's run

module _ (s : Scenario) (board : IsLinkedBoard s) (j : DomainJournal) (run : IsDomainRun s j.line j.entries) where
  succeed-few : all_succeed (deeds_of s j) < 2 ^ 32
  succeed-few =
      let lines = script s j.line.domain in
      let within : length (script s j.line.domain) ≤ length s.calls = omega (arith, length-filter (λ (c : CallLine). c.domain == j.line.domain) s.calls, count_by-le-length (λ (c : CallLine). c.domain == j.line.domain) s.calls) in
      omega (arith, few_left lines [] (start s j.line) j.entries (allowed-all lines (start s j.line) (left_by s j.line j.entries) j.entries run.steps) (omega arith), within, board.lines_few)

  pub channels-few : (left_in s j).channels_given < 2 ^ 32
  channels-few = omega (arith, deeds-number (opened s j) (deeds_of s j) (deeds_run s j board run).may, succeed-few)

  pub accepted-few : (n : ℕ) → length (along (accepted_by n) (opened s j) (deeds_of s j)) < 2 ^ 32
  accepted-few n = omega (arith, deeds-few n (opened s j) (deeds_of s j), succeed-few)
