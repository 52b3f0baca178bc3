-- What holds of a domain at each moment of its run: its endpoints' addresses rise and their names are apart, its peers keep their
-- numbers, what it owes is honest, and what it knows of names is as what it took says.
use Rattle.std.proofs.Common.{◌≡◌, ℕ, ◌+◌, ◌-◌, ◌≤◌, ◌<◌, Bool, true, false, not, cond, List, [], ◌∷◌, ◌++◌, map, drop, length, Some, None, refl, sym, ap, ◌∙◌, subst, arith}
use Rattle.std.specs.Prelude.{find, ◌==◌}
use Rattle.std.specs.List.{AllByRecursion}
use Rattle.std.proofs.lemmas.Bool.{cond_both, eqb-true, eq-eqb, ne_eqb}
use Rattle.mc_base.specs.Limits.{creation_limit}
use Rattle.mc_base.specs.NameMap.{Names}
use Rattle.board_model.specs.Honesty.{IsMade}
use Rattle.board_model.specs.Choice.{without_best}
use Rattle.board_model.specs.State.{Endpoint, Announcement, Peer, DomainState, is_at, has_address_of, is_numbered}
use Rattle.board_model.specs.Change.{Change, endpoint_made, endpoint_gone, item_queued, best_gone, oldest_gone, channel_set, queue_dropped, end_announced, reply_owed, owed_put, buffers_back, frames_shown, frame_taken, names_known, buffers_used, endpoint_with, with_queue, with_channel, without_queue, at_address, at_peer, also_owed, first_put, changed, changed_all}
use Rattle.board_model.proofs.MessageAlls.{none-passes, all-append, all-changed-first, all-drop, found-passes}
use Rattle.board_model.proofs.StateEnds.{numbers-kept}
use Rattle.board_model.proofs.OrderSound.{Rise, rise_changed, rise_fewer, rise_more, Apart, apart_changed, apart_fewer, apart_more}

-- ---- addresses rise

least_top : (lo hi : ℕ) (es : List Endpoint) → Rise lo es hi → lo ≤ hi
least_top lo hi [] rise = rise
least_top lo hi (e ∷ es) rise = let here : lo ≤ e.address = rise.0 in let more = least_top (e.address + 1) hi es rise.1 in omega arith

-- an endpoint is found by its address, which lies between
pub record Own (lo hi : ℕ) (es : List Endpoint) (e : Endpoint) : Type 0 where
  pub above : lo ≤ e.address
  pub below : e.address < hi
  pub found : find (has_address_of e.address) es ≡ Some e

pub own : (p : Endpoint → Bool) (lo hi : ℕ) (es : List Endpoint) (e : Endpoint) → Rise lo es hi → find p es ≡ Some e → Own lo hi es e
own p lo hi [] e rise is = absurd cc
own p lo hi (x ∷ xs) e rise is = go (p x) is (λ k. own p (x.address + 1) hi xs e rise.1 k)
  where
    go : (b : Bool) → cond b (Some x) (find p xs) ≡ Some e → (find p xs ≡ Some e → Own (x.address + 1) hi xs e) → Own lo hi (x ∷ xs) e
    go true is later =
        let top = least_top (x.address + 1) hi xs rise.1 in
        let same : x ≡ e = cc in
        subst (Own lo hi (x ∷ xs)) same (record { above = rise.0; below = omega arith; found = ap (λ b. cond b (Some x) (find (has_address_of x.address) xs)) (eq-eqb x.address x.address refl) })
    go false is later =
        let k = later is in
        let here : lo ≤ x.address = rise.0 in
        let far : x.address + 1 ≤ e.address = k.above in
        let differs : (x.address == e.address) ≡ false = ne_eqb x.address e.address (λ same. absurd (omega arith)) in
        record { above = omega arith; below = k.below; found = ap (λ b. cond b (Some x) (find (has_address_of e.address) xs)) differs ∙ k.found }

-- ---- the state

-- what is owed to a peer, and what is known of it: `made` is the number of endpoints that the domain makes in all, and `known` says
-- which addresses may be known of a peer
pub record PeerSound (made : ℕ) (known : ℕ → ℕ → Type 0) (p : Peer) : Type 0 where
  pub announced : AllByRecursion (λ a. IsMade made a.address) p.announcements
  pub names : AllByRecursion (λ k. known p.number k.1) p.known

pub record Sound (made : ℕ) (known : ℕ → ℕ → Type 0) (ns : List ℕ) (s : DomainState) : Type 0 where
  pub rise : Rise 1024 s.endpoints (1024 + s.endpoints_given)
  pub few : s.endpoints_given ≤ creation_limit
  pub apart : Apart s.endpoints
  pub peers : AllByRecursion (PeerSound made known) s.peers
  pub numbers : map (λ p. p.number) s.peers ≡ ns

-- the number of endpoints made only rises
given_change : (s : DomainState) (c : Change) → s.endpoints_given ≤ (changed s c).endpoints_given
given_change s (endpoint_made at) = omega arith
given_change s other = omega arith

pub given_changes : (s : DomainState) (cs : List Change) → s.endpoints_given ≤ (changed_all s cs).endpoints_given
given_changes s [] = omega arith
given_changes s (c ∷ cs) = omega (arith, given_change s c, given_changes (changed s c) cs)

-- ---- one change

module _ (made : ℕ) (known : ℕ → ℕ → Type 0) (ns : List ℕ) where
  abbrev OfPeer : Peer → Type 0
  OfPeer p = PeerSound made known p

  abbrev Names_of : ℕ → Names → Type 0
  Names_of q ks = AllByRecursion (λ k. known q k.1) ks

  abbrev pub Fits : DomainState → Change → Type 0
  Fits s (endpoint_made at) = (find (is_at at) s.endpoints ≡ None) × (s.endpoints_given < creation_limit)
  Fits s (end_announced a) = IsMade made a.address
  Fits s (names_known q ks) = Names_of q ks
  Fits s other = Unit {0}

  also_sound : (d : ℕ) (a : Announcement) (p : Peer) → IsMade made a.address → OfPeer p → OfPeer (also_owed d a p)
  also_sound d a p is well = cond_both (p.number == d) p (record p { announcements = p.announcements ++ a ∷ [] }) OfPeer (λ k. well)
      (λ k. record { announced = all-append (λ (x : Announcement). IsMade made x.address) p.announcements (a ∷ []) well.announced (is, tt); names = well.names })

  all_also : (d : ℕ) (a : Announcement) (ps : List Peer) → IsMade made a.address → AllByRecursion OfPeer ps → AllByRecursion OfPeer (map (also_owed d a) ps)
  all_also d a [] is all = tt
  all_also d a (p ∷ ps) is all = (also_sound d a p is all.0, all_also d a ps is all.1)

  put_sound : (p : Peer) → OfPeer p → OfPeer (first_put p)
  put_sound p well = cond_both (length p.announcements == 0) (record p { free = p.free - 1; replies = drop 1 p.replies }) (record p { free = p.free - 1; announcements = drop 1 p.announcements }) OfPeer
      (λ k. record { announced = well.announced; names = well.names })
      (λ k. record { announced = all-drop (λ (x : Announcement). IsMade made x.address) 1 p.announcements well.announced; names = well.names })

  module _ (s : DomainState) (sound : Sound made known ns s) where
    peer_changed : (q : ℕ) (f : Peer → Peer) → ((p : Peer) → is_numbered q p ≡ true → OfPeer p → OfPeer (f p)) → AllByRecursion OfPeer (at_peer q f s.peers)
    peer_changed q f keep = all-changed-first OfPeer (is_numbered q) f s.peers sound.peers (λ p is well. keep p (found-passes (is_numbered q) s.peers p is) well)

    by_peer : (q : ℕ) (f : Peer → Peer) → ((p : Peer) → is_numbered q p ≡ true → OfPeer p → OfPeer (f p)) → (c : Change) → (changed s c).endpoints ≡ s.endpoints → (changed s c).endpoints_given ≡ s.endpoints_given → (changed s c).peers ≡ at_peer q f s.peers → Sound made known ns (changed s c)
    by_peer q f keep c ends given peers = record {
      rise = rw (ends, given) sound.rise;
      few = rw given sound.few;
      apart = rw ends sound.apart;
      peers = rw peers (peer_changed q f keep);
      numbers = numbers-kept s c ∙ sound.numbers;
    }

    by_end : (a : ℕ) (f : Endpoint → Endpoint) → ((e : Endpoint) → (f e).address ≡ e.address) → ((e : Endpoint) → (f e).local ≡ e.local) → (c : Change) → (changed s c).endpoints ≡ at_address a f s.endpoints → (changed s c).endpoints_given ≡ s.endpoints_given → (changed s c).peers ≡ s.peers → Sound made known ns (changed s c)
    by_end a f address name c ends given peers = record {
      rise = rw (ends, given) (rise_changed (has_address_of a) f address 1024 (1024 + s.endpoints_given) s.endpoints sound.rise);
      few = rw given sound.few;
      apart = rw ends (apart_changed (has_address_of a) f name s.endpoints sound.apart);
      peers = rw peers sound.peers;
      numbers = numbers-kept s c ∙ sound.numbers;
    }

    by_others : (c : Change) → (changed s c).endpoints ≡ s.endpoints → (changed s c).endpoints_given ≡ s.endpoints_given → (changed s c).peers ≡ s.peers → Sound made known ns (changed s c)
    by_others c ends given peers = record {
      rise = rw (ends, given) sound.rise;
      few = rw given sound.few;
      apart = rw ends sound.apart;
      peers = rw peers sound.peers;
      numbers = numbers-kept s c ∙ sound.numbers;
    }

    pub sound_change : (c : Change) → Fits s c → Sound made known ns (changed s c)
    sound_change (endpoint_made at) fits = record {
      rise = let next : 1024 + s.endpoints_given + 1 ≡ 1024 + (s.endpoints_given + 1) = omega arith in subst (Rise 1024 (s.endpoints ++ endpoint_with s at ∷ [])) next (rise_more 1024 (1024 + s.endpoints_given) s.endpoints (endpoint_with s at) refl sound.rise);
      few = let less : s.endpoints_given < 60000 = fits.1 in omega arith;
      apart = apart_more s.endpoints (endpoint_with s at) sound.apart (none-passes (is_at at) s.endpoints fits.0);
      peers = sound.peers;
      numbers = sound.numbers;
    }
    sound_change (endpoint_gone a) fits = record {
      rise = rise_fewer (λ e. not (has_address_of a e)) 1024 (1024 + s.endpoints_given) s.endpoints sound.rise;
      few = sound.few;
      apart = apart_fewer (λ e. not (has_address_of a e)) s.endpoints sound.apart;
      peers = sound.peers;
      numbers = sound.numbers;
    }
    sound_change (item_queued a i) fits = by_end a (with_queue (λ q. q ++ i ∷ [])) (λ e. refl) (λ e. refl) (item_queued a i) refl refl refl
    sound_change (best_gone a) fits = by_end a (with_queue (without_best (λ i. i.priority))) (λ e. refl) (λ e. refl) (best_gone a) refl refl refl
    sound_change (oldest_gone a) fits = by_end a (with_queue (drop 1)) (λ e. refl) (λ e. refl) (oldest_gone a) refl refl refl
    sound_change (channel_set a c) fits = by_end a (with_channel c) (λ e. refl) (λ e. refl) (channel_set a c) refl refl refl
    sound_change (queue_dropped a c) fits = by_end a (without_queue c) (λ e. refl) (λ e. refl) (queue_dropped a c) refl refl refl
    sound_change (reply_owed q w) fits = by_peer q (λ p. record p { replies = p.replies ++ w ∷ [] }) (λ p is well. record { announced = well.announced; names = well.names }) (reply_owed q w) refl refl refl
    sound_change (end_announced a) fits = record { rise = sound.rise; few = sound.few; apart = sound.apart; peers = all_also s.number a s.peers fits sound.peers; numbers = numbers-kept s (end_announced a) ∙ sound.numbers }
    sound_change (owed_put q) fits = by_peer q first_put (λ p is well. put_sound p well) (owed_put q) refl refl refl
    sound_change (buffers_back q n) fits = by_peer q (λ p. record p { free = p.free + n }) (λ p is well. record { announced = well.announced; names = well.names }) (buffers_back q n) refl refl refl
    sound_change (frames_shown q n) fits = by_peer q (λ p. record p { shown = n }) (λ p is well. record { announced = well.announced; names = well.names }) (frames_shown q n) refl refl refl
    sound_change (frame_taken q part names) fits = by_peer q (λ p. record p { shown = p.shown - 1; part = part }) (λ p is well. record { announced = well.announced; names = well.names }) (frame_taken q part names) refl refl refl
    sound_change (buffers_used q count) fits = by_peer q (λ p. record p { free = p.free - count }) (λ p is well. record { announced = well.announced; names = well.names }) (buffers_used q count) refl refl refl
    sound_change (names_known q ks) fits = by_peer q (λ p. record p { known = ks })
        (λ p is well. record { announced = well.announced; names = subst (λ n. Names_of n ks) (sym (eqb-true p.number q is)) fits }) (names_known q ks) refl refl refl
    sound_change other fits = by_others other refl refl refl

  abbrev pub FitAll : DomainState → List Change → Type 0
  FitAll s [] = Unit {0}
  FitAll s (c ∷ cs) = Fits s c × FitAll (changed s c) cs

  pub sound_changes : (s : DomainState) (cs : List Change) → FitAll s cs → Sound made known ns s → Sound made known ns (changed_all s cs)
  sound_changes s [] fits sound = sound
  sound_changes s (c ∷ cs) fits sound = sound_changes (changed s c) cs fits.1 (sound_change s sound c fits.0)
