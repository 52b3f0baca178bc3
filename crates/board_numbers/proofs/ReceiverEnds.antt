-- The receiver's end of a channel has the channel's owner for its peer.
use Rattle.std.proofs.Common.{◌≡◌, ℕ, true, Bool, not, List, [], ◌∷◌, ◌++◌, drop, Option, Some, None, refl, sym, subst}
use Rattle.std.specs.Prelude.{find}
use Rattle.std.specs.List.{AllByRecursion}
use Rattle.mc_base.specs.Reading.{Reading}
use Rattle.mc_base.specs.declared.channel.Side.{Side}
use Rattle.mc_base.specs.declared.channel.Side.TheVariants.{Sender, Receiver}
use Rattle.mc_base.specs.declared.refusal.Refusal.{Refusal}
use Rattle.board_model.specs.Choice.{without_best}
use Rattle.board_model.specs.DomainCall.{DomainCall, create_at, delete_at, lookup_of, send_from, receive_at, request_at, available_at, connect_from, open_at, packet_from, lend_at, packet_request_at, release_of, scalar_from, scalar_at, close_at, test_of, wait_for, cancel_of, raw_to, turn_alone}
use Rattle.board_model.specs.State.{ChannelEnd, Endpoint, DomainState, is_at, has_address_of, live_at}
use Rattle.board_model.specs.Change.{Change, endpoint_made, endpoint_gone, item_queued, best_gone, oldest_gone, channel_set, queue_dropped, item_handed, item_lost, names_known, name_found, endpoint_with, with_queue, with_channel, without_queue, changed, changed_all}
use Rattle.board_model.specs.ChannelEnds.{same_side}
use Rattle.board_model.specs.Parts.{Came, came_from, said_from}
use Rattle.board_model.specs.TakenFrames.{rejecting, accepting, acting, item_of, row_of}
use Rattle.board_model.specs.Answer.{local, refusal, unless_refused}
use Rattle.board_model.specs.CallChanges.{closing, success_changes}
use Rattle.board_model.specs.Deeds.{Deed, looks_back, puts_owed, looks_ahead, takes, calls, happens_by, after_deed}
use Rattle.board_model.proofs.LaneRows.{Deals, stays, strays, awaits, learns, forgets, hands, queues, loses, rejects, accepts, acts, acting-all, row-deals}
use Rattle.board_model.proofs.MessageAlls.{all-append, all-filter, all-found, all-changed-first}
use Rattle.board_model.proofs.StateEnds.{end-holds, lending-holds, tested-holds}
use Rattle.board_model.proofs.HonestDeeds.{live_holds}
use Rattle.board_model.proofs.HonestEnds.{leaves_end, closed_holds}

-- a receiver's end
abbrev pub IsOwned : Option ChannelEnd → Type 0
IsOwned None = Unit {0}
IsOwned (Some c) = same_side c.side Receiver ≡ true → c.owner ≡ c.peer

abbrev pub OwnedEnds : DomainState → Type 0
OwnedEnds s = AllByRecursion (λ e. IsOwned e.channel) s.endpoints

abbrev FitsOwned : Change → Type 0
FitsOwned (channel_set a c) = IsOwned c
FitsOwned (queue_dropped a c) = IsOwned c
FitsOwned other = Unit {0}

abbrev OfEnd : Endpoint → Type 0
OfEnd e = IsOwned e.channel

owned_change : (s : DomainState) (c : Change) → FitsOwned c → OwnedEnds s → OwnedEnds (changed s c)
owned_change s (endpoint_made at) fits owned = all-append OfEnd s.endpoints (endpoint_with s at ∷ []) owned (tt, tt)
owned_change s (endpoint_gone a) fits owned = all-filter OfEnd (λ e. not (has_address_of a e)) s.endpoints owned
owned_change s (item_queued a i) fits owned = all-changed-first OfEnd (has_address_of a) (with_queue (λ q. q ++ i ∷ [])) s.endpoints owned (λ e is it. it)
owned_change s (best_gone a) fits owned = all-changed-first OfEnd (has_address_of a) (with_queue (without_best (λ i. i.priority))) s.endpoints owned (λ e is it. it)
owned_change s (oldest_gone a) fits owned = all-changed-first OfEnd (has_address_of a) (with_queue (drop 1)) s.endpoints owned (λ e is it. it)
owned_change s (channel_set a c) fits owned = all-changed-first OfEnd (has_address_of a) (with_channel c) s.endpoints owned (λ e is it. fits)
owned_change s (queue_dropped a c) fits owned = all-changed-first OfEnd (has_address_of a) (without_queue c) s.endpoints owned (λ e is it. fits)
owned_change s other fits owned = owned

owned_changes : (s : DomainState) (cs : List Change) → AllByRecursion FitsOwned cs → OwnedEnds s → OwnedEnds (changed_all s cs)
owned_changes s [] fits owned = owned
owned_changes s (c ∷ cs) fits owned = owned_changes (changed s c) cs fits.1 (owned_change s c fits.0 owned)

module _ (s : DomainState) (owned : OwnedEnds s) where
  end_owned : (p : Endpoint → Bool) (e : Endpoint) (c : ChannelEnd) → find p s.endpoints ≡ Some e → e.channel ≡ Some c → IsOwned (Some c)
  end_owned p e c found has = subst IsOwned has (all-found OfEnd p s.endpoints e owned found)

  frame_owned : (q : ℕ) (name : Came) (r : Reading) → AllByRecursion FitsOwned (row_of s q name r).happens
  frame_owned q name r = go (row-deals s q name r)
    where
      by : (cs : List Change) → (row_of s q name r).happens ≡ cs → AllByRecursion FitsOwned cs → AllByRecursion FitsOwned (row_of s q name r).happens
      by cs happens fits = subst (AllByRecursion FitsOwned) (sym happens) fits

      go : Deals s q name r (row_of s q name r) → AllByRecursion FitsOwned (row_of s q name r).happens
      go (stays happens word) = by [] happens tt
      go (strays source at p is none happens word) = by [] happens tt
      go (awaits source at p is some happens word) = by [] happens tt
      go (learns text n a names is learned_so happens word) = by (names_known q names ∷ name_found n a ∷ []) happens (tt, (tt, tt))
      go (forgets text n a names is forgotten_so happens word) = by (names_known q names ∷ []) happens (tt, tt)
      go (hands source at l e is found carried waits happens word) = by (item_handed at (item_of q name source l) ∷ []) happens (tt, tt)
      go (queues source at l e is found carried none happens word) = by (item_queued at (item_of q name source l) ∷ []) happens (tt, tt)
      go (loses source at l e is found late happens word) = by (item_lost at (item_of q name source l) ∷ []) happens (tt, tt)
      go (rejects source at number k why is happens word) = by (rejecting q source at number why) happens (tt, tt)
      go (accepts source at number k e is found free idle happens word) = by (accepting q source at number k) happens ((λ side. refl), (tt, tt))
      go (acts source at l e c left is found has row happens word) =
          let it : IsOwned (Some c) = end_owned (has_address_of at) e c found has in
          by (acting at left l) happens (acting-all FitsOwned at left (leaves_end IsOwned tt q c (λ st far_open far_closed. it) l left row) (λ n. tt) (λ n why. tt) tt l)

  closes_owned : (side : Side) (e : Endpoint) (c : ChannelEnd) → IsOwned (Some c) → AllByRecursion FitsOwned (closing side e c)
  closes_owned Sender e c it = (tt, (closed_holds IsOwned tt 0 c (λ st far_open far_closed. it), tt))
  closes_owned Receiver e c it = (tt, (tt, (closed_holds IsOwned tt 0 c (λ st far_open far_closed. it), tt)))

  success_owned : (node : ℕ) (call : DomainCall) → AllByRecursion FitsOwned (success_changes s node call)
  success_owned node (create_at port) = (tt, (tt, (tt, tt)))
  success_owned node (delete_at port) = live_holds (AllByRecursion FitsOwned) tt (live_at s (local node port)) _ (λ e is. (tt, (tt, (tt, tt))))
  success_owned node (lookup_of name) = (tt, tt)
  success_owned node (send_from port to priority bytes) = (tt, tt)
  success_owned node (receive_at port max) = live_holds (AllByRecursion FitsOwned) tt (live_at s (local node port)) _ (λ e is. (tt, tt))
  success_owned node (request_at port max) = live_holds (AllByRecursion FitsOwned) tt (live_at s (local node port)) _ (λ e is. (tt, (tt, tt)))
  success_owned node (available_at port) = tt
  success_owned node (connect_from port to k) = live_holds (AllByRecursion FitsOwned) tt (live_at s (local node port)) _ (λ e is. (tt, ((λ side. absurd cc), (tt, (tt, tt)))))
  success_owned node (open_at port side k) = end-holds (AllByRecursion FitsOwned) tt (live_at s (local node port)) _ (λ e c is has. (tt, (end_owned (is_at (local node port)) e c is has, tt)))
  success_owned node (packet_from port bytes) = end-holds (AllByRecursion FitsOwned) tt (live_at s (local node port)) _ (λ e c is has. (tt, tt))
  success_owned node (lend_at port) = live_holds (AllByRecursion FitsOwned) tt (live_at s (local node port)) _ (λ e is. (tt, lending-holds FitsOwned (λ i. tt) _))
  success_owned node (packet_request_at port) = live_holds (AllByRecursion FitsOwned) tt (live_at s (local node port)) _ (λ e is. (tt, (tt, tt)))
  success_owned node (release_of place) = (tt, tt)
  success_owned node (scalar_from port bits value) = end-holds (AllByRecursion FitsOwned) tt (live_at s (local node port)) _ (λ e c is has. (tt, tt))
  success_owned node (scalar_at port bits) = live_holds (AllByRecursion FitsOwned) tt (live_at s (local node port)) _ (λ e is. (tt, tt))
  success_owned node (close_at port side) = end-holds (AllByRecursion FitsOwned) tt (live_at s (local node port)) (closing side) (λ e c is has. closes_owned side e c (end_owned (is_at (local node port)) e c is has))
  success_owned node (test_of request) = (tt, tested-holds FitsOwned (λ i. tt) _)
  success_owned node (wait_for requests says_place) = (tt, tested-holds FitsOwned (λ i. tt) _)
  success_owned node (cancel_of request) = (tt, tt)
  success_owned node (raw_to to bytes) = (tt, tt)
  success_owned node turn_alone = tt

  call_owned : (node : ℕ) (call : DomainCall) (r : Option Refusal) → AllByRecursion FitsOwned (unless_refused r [] (success_changes s node call))
  call_owned node call (Some w) = tt
  call_owned node call None = success_owned node call

  pub owned-deed : (d : Deed) → OwnedEnds (after_deed s d)
  owned-deed (looks_back q n) = owned
  owned-deed (puts_owed q frame) = owned
  owned-deed (looks_ahead q n) = owned
  owned-deed (takes q name frame word) = owned_changes s (happens_by s (takes q name frame word)) (tt, frame_owned q (came_from s q name frame) (said_from s q frame)) owned
  owned-deed (calls node call a) = owned_changes s (happens_by s (calls node call a)) (call_owned node call (refusal s node call)) owned
