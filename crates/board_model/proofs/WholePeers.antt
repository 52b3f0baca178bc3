-- What is read of peers as a board runs: their sizes and numbers stay, and what is shown and free is by looks, frames and calls.
use Rattle.mc_base.specs.Letter.{packet, msg}
use Rattle.mc_base.specs.Pieces.{frames_needed}
use Rattle.std.proofs.Common.{◌≡◌, ℕ, ◌+◌, ◌-◌, Bool, true, false, cond, List, [], ◌∷◌, map, length, Option, Some, None, option_map, refl, sym, ap, ◌∙◌}
use Rattle.std.specs.Prelude.{◌==◌, unwrap_or}
use Rattle.std.specs.List.{AllByRecursion}
use Rattle.std.proofs.lemmas.Bool.{eq-eqb, ne_eqb}
use Rattle.mc_base.specs.declared.channel.Side.{Side}
use Rattle.mc_base.specs.declared.channel.Side.TheVariants.{Sender, Receiver}
use Rattle.mc_base.specs.declared.refusal.Refusal.{Refusal}
use Rattle.mc_base.specs.declared.refusal.Refusal.TheVariants.{EndpInvalid}
use Rattle.board_model.specs.Journal.{Visit, Taken}
use Rattle.board_model.specs.State.{DomainState, ChannelEnd, Endpoint, Peer, channel_of, message_at, packet_at, has_item, live_at, request_at_place, peer_at, peer_of, free_to}
use Rattle.board_model.specs.DomainCall.{DomainCall, create_at, delete_at, lookup_of, send_from, receive_at, request_at, available_at, connect_from, open_at, packet_from, lend_at, packet_request_at, release_of, scalar_from, scalar_at, close_at, test_of, wait_for, cancel_of, raw_to, turn_alone}
use Rattle.board_model.specs.Answer.{first_complete, local, refusal, unless_refused}
use Rattle.board_model.specs.Choice.{oldest}
use Rattle.board_model.specs.ChannelEnds.{opened_end}
use Rattle.board_model.specs.Change.{Change, endpoint_gone, best_gone, oldest_gone, channel_set, request_added, waiting_ended, end_announced, buffers_used, channel_given}
use Rattle.board_model.specs.CallChanges.{at_live, new_sender, closing, lending, best_item, success_changes, call_changes, effect}
use Rattle.board_model.specs.Deeds.{Deed, happens_by, after_deed, after_deeds}
use Rattle.board_model.specs.Serial.{looks_deeds}
use Rattle.board_model.specs.Turn.{nameless, takes_named}
use Rattle.board_model.proofs.StateEnds.{numbers-all, end-holds, lending-holds, tested-holds}
use Rattle.board_model.proofs.LanePeers.{peer_found, read_of, Keeps, read-all, size-all, cond-keeps, owed-shown, free-at}
use Rattle.board_model.proofs.VisitLooks.{after_looks, after_takes, looked, looks-peer}
use Rattle.board_model.proofs.LaneTakes.{takes-free, shown_in, takes-shown}

abbrev pub size_at : DomainState → ℕ → Option ℕ
size_at s n = option_map (λ p. p.size) (peer_of s n)

abbrev pub shown_at : DomainState → ℕ → ℕ
shown_at s n = unwrap_or (option_map (λ p. p.shown) (peer_of s n)) 0

abbrev pub numbers : DomainState → List ℕ
numbers s = map (λ p. p.number) s.peers

size_read : (s : DomainState) (n : ℕ) → size_at s n ≡ read_of (λ p. p.size) s n
size_read s n = ap (option_map (λ p. p.size)) (peer_found s n)

shown_read : (s : DomainState) (n : ℕ) → shown_at s n ≡ shown_in s n
shown_read s n = ap (λ (o : Option Peer). unwrap_or (option_map (λ p. p.shown) o) 0) (peer_found s n)

-- ---- deeds, and frames that are taken

pub deeds_size : (s : DomainState) (ds : List Deed) (n : ℕ) → read_of (λ p. p.size) (after_deeds s ds) n ≡ read_of (λ p. p.size) s n
deeds_size s [] n = refl
deeds_size s (d ∷ ds) n = deeds_size (after_deed s d) ds n ∙ size-all s (happens_by s d) n

pub takes_size : (s : DomainState) (peer : ℕ) (ts : List Taken) (n : ℕ) → size_at (after_takes s peer ts) n ≡ size_at s n
takes_size s peer ts n = size_read (after_takes s peer ts) n ∙ (deeds_size s (takes_named nameless peer ts) n ∙ sym (size_read s n))

pub takes_free : (s : DomainState) (peer : ℕ) (ts : List Taken) (n : ℕ) → free_to (after_takes s peer ts) n ≡ free_to s n
takes_free s peer ts n = free-at (after_takes s peer ts) n ∙ (ap (λ o. unwrap_or o 0) (takes-free s peer ts n) ∙ sym (free-at s n))

pub takes_shown : (s : DomainState) (peer : ℕ) (ts : List Taken) (n : ℕ) (b : Bool) → (peer == n) ≡ b → shown_at (after_takes s peer ts) n ≡ shown_at s n - cond b (length ts) 0
takes_shown s peer ts n b is =
    shown_read (after_takes s peer ts) n ∙ (takes-shown s peer ts n b is ∙ ap (λ k. k - cond b (length ts) 0) (sym (shown_read s n)))

-- ---- calls

pub call_size : (s : DomainState) (node : ℕ) (call : DomainCall) (n : ℕ) → size_at (effect s node call) n ≡ size_at s n
call_size s node call n = size_read (effect s node call) n ∙ (size-all s (call_changes s node call) n ∙ sym (size_read s n))

pub call_numbers : (s : DomainState) (node : ℕ) (call : DomainCall) → numbers (effect s node call) ≡ numbers s
call_numbers s node call = numbers-all s (call_changes s node call)

module _ (s : DomainState) (node n : ℕ) where
  abbrev KeepShown : List Change → Type 0
  KeepShown cs = AllByRecursion (Keeps (λ p. p.shown) s.number n) cs

  live_shown : (o : Option Endpoint) (f : Endpoint → List Change) → ((e : Endpoint) → KeepShown (f e)) → KeepShown (at_live o f)
  live_shown None f each = tt
  live_shown (Some e) f each = each e

  used_shown : (m count : ℕ) → Keeps (λ p. p.shown) s.number n (buffers_used m count)
  used_shown m count p = cond-keeps (λ q. q.shown) (m == n) p (record p { free = p.free - count }) refl

  closing_shown : (side : Side) (e : Endpoint) (c : ChannelEnd) → KeepShown (closing side e c)
  closing_shown Sender e c = (used_shown c.peer 1, ((λ p. refl), tt))
  closing_shown Receiver e c = (used_shown c.peer 1, ((λ p. refl), ((λ p. refl), tt)))

  success_shown : (call : DomainCall) → KeepShown (success_changes s node call)
  success_shown (create_at port) = ((λ p. refl), ((λ p. owed-shown s.number (record { local = local node port; address = 1024 + s.endpoints_given; create = true }) p), ((λ p. refl), tt)))
  success_shown (delete_at port) =
      live_shown (live_at s (local node port)) (λ e. waiting_ended e.address EndpInvalid ∷ endpoint_gone e.address ∷ end_announced (record { local = e.local; address = e.address; create = false }) ∷ [])
      (λ e. ((λ p. refl), ((λ p. refl), ((λ p. owed-shown s.number (record { local = e.local; address = e.address; create = false }) p), tt))))
  success_shown (lookup_of name) = ((λ p. refl), tt)
  success_shown (send_from port to priority bytes) = (used_shown to.domain (frames_needed (msg priority bytes)), tt)
  success_shown (receive_at port max) = live_shown (live_at s (local node port)) (λ e. best_gone e.address ∷ []) (λ e. ((λ p. refl), tt))
  success_shown (request_at port max) =
      live_shown (live_at s (local node port)) (λ e. best_gone e.address ∷ request_added (message_at e.local max) (option_map has_item (best_item e)) ∷ []) (λ e. ((λ p. refl), ((λ p. refl), tt)))
  success_shown (available_at port) = tt
  success_shown (connect_from port to kind) =
      live_shown (live_at s (local node port)) (λ e. buffers_used to.domain 1 ∷ channel_set e.address (Some (new_sender s to kind)) ∷ request_added (channel_of (s.channels_given + 1)) None ∷ channel_given ∷ [])
      (λ e. (used_shown to.domain 1, ((λ p. refl), ((λ p. refl), ((λ p. refl), tt)))))
  success_shown (open_at port side kind) = end-holds KeepShown tt (live_at s (local node port)) (λ e c. buffers_used c.peer 1 ∷ channel_set e.address (Some (opened_end c)) ∷ []) (λ e c live has. (used_shown c.peer 1, ((λ p. refl), tt)))
  success_shown (packet_from port bytes) = end-holds KeepShown tt (live_at s (local node port)) (λ e c. buffers_used c.peer (frames_needed (packet c.number bytes)) ∷ []) (λ e c live has. (used_shown c.peer (frames_needed (packet c.number bytes)), tt))
  success_shown (lend_at port) = live_shown (live_at s (local node port)) (λ e. oldest_gone e.address ∷ lending (oldest e.queue)) (λ e. ((λ p. refl), lending-holds (Keeps (λ p. p.shown) s.number n) (λ i p. refl) (oldest e.queue)))
  success_shown (packet_request_at port) =
      live_shown (live_at s (local node port)) (λ e. oldest_gone e.address ∷ request_added (packet_at e.local) (option_map has_item (oldest e.queue)) ∷ []) (λ e. ((λ p. refl), ((λ p. refl), tt)))
  success_shown (release_of place) = ((λ p. refl), tt)
  success_shown (scalar_from port bits value) = end-holds KeepShown tt (live_at s (local node port)) (λ e c. buffers_used c.peer 1 ∷ []) (λ e c live has. (used_shown c.peer 1, tt))
  success_shown (scalar_at port bits) = live_shown (live_at s (local node port)) (λ e. oldest_gone e.address ∷ []) (λ e. ((λ p. refl), tt))
  success_shown (close_at port side) = end-holds KeepShown tt (live_at s (local node port)) (closing side) (λ e c live has. closing_shown side e c)
  success_shown (test_of request) = ((λ p. refl), tested-holds (Keeps (λ p. p.shown) s.number n) (λ i p. refl) (request_at_place s request))
  success_shown (wait_for requests says_place) = ((λ p. refl), tested-holds (Keeps (λ p. p.shown) s.number n) (λ i p. refl) (request_at_place s (first_complete s requests)))
  success_shown (cancel_of request) = ((λ p. refl), tt)
  success_shown (raw_to to bytes) = (used_shown to 1, tt)
  success_shown turn_alone = tt

  keep_shown : (call : DomainCall) → KeepShown (call_changes s node call)
  keep_shown call = go (refusal s node call)
    where
      go : (o : Option Refusal) → KeepShown (unless_refused o [] (success_changes s node call))
      go (Some word) = tt
      go None = success_shown call

  pub call_shown : (call : DomainCall) → shown_at (effect s node call) n ≡ shown_at s n
  call_shown call =
      shown_read (effect s node call) n
      ∙ (ap (λ o. unwrap_or o 0) (read-all (λ p. p.shown) s (call_changes s node call) n (keep_shown call)) ∙ sym (shown_read s n))

-- ---- looks

pub looks_size : (s : DomainState) (v : Visit) (n : ℕ) → size_at (after_looks s v) n ≡ size_at s n
looks_size s v n = size_read (after_looks s v) n ∙ (deeds_size s (looks_deeds v.peer v.back v.owed v.see) n ∙ sym (size_read s n))

-- at another peer nothing is changed
pub looks_other : (s : DomainState) (v : Visit) (n : ℕ) → (v.peer ≡ n → ⊥) → peer_of (after_looks s v) n ≡ peer_of s n
looks_other s v n differ = peer_found (after_looks s v) n ∙ (looks-peer s v n false (ne_eqb v.peer n differ) ∙ (go (peer_at s n) ∙ sym (peer_found s n)))
  where
    go : (o : Option Peer) → option_map (λ p. p) o ≡ o
    go None = refl
    go (Some p) = refl

pub looks_own : (s : DomainState) (v : Visit) (n : ℕ) → v.peer ≡ n → peer_of (after_looks s v) n ≡ option_map (looked v) (peer_of s n)
looks_own s v n same = peer_found (after_looks s v) n ∙ (looks-peer s v n true (eq-eqb v.peer n same) ∙ ap (option_map (looked v)) (sym (peer_found s n)))
