-- What a domain's ends of channels know of their far ends is as what it took says: an address that may be known of the peer, and the
-- number of a channel.
use Rattle.board_model.proofs.PartReadings.{coming-holds}
use Rattle.board_model.specs.Parts.{Came, came_from, said_from, part_of}
use Rattle.std.proofs.Common.{◌≡◌, ℕ, ◌≤◌, ◌<◌, Bool, true, false, not, ◌&&◌, cond, List, [], ◌∷◌, ◌++◌, drop, Option, Some, None, refl, sym, ap, subst, arith}
use Rattle.std.specs.Prelude.{find, ◌==◌, is_some, option_map, unwrap_or}
use Rattle.std.specs.List.{AllByRecursion}
use Rattle.std.proofs.lemmas.Bool.{leb-false, eqb-true}
use Rattle.mc_base.specs.Limits.{channel_limit}
use Rattle.mc_base.specs.Letter.{PlainLetter, connect, accept, reject, recv_open, send_open, packet, scalar, send_close, recv_close, IsChannel, Carrier, of_message, of_packet, carried}
use Rattle.mc_base.specs.NameMap.{Names, has_name, address_in}
use Rattle.mc_base.specs.Reading.{Reading, says, reading}
use Rattle.mc_base.specs.declared.fate.Fate.{Fate}
use Rattle.mc_base.specs.declared.fate.Fate.TheVariants as fate
use Rattle.mc_base.specs.declared.name.Local.{Local}
use Rattle.mc_base.specs.declared.name.EndName.{EndName}
use Rattle.mc_base.specs.declared.channel.Kind.TheVariants as kind
use Rattle.mc_base.specs.declared.channel.Side.{Side}
use Rattle.mc_base.specs.declared.channel.Side.TheVariants.{Sender, Receiver}
use Rattle.mc_base.specs.declared.refusal.Refusal.{Refusal}
use Rattle.board_model.specs.Honesty.{IsMade}
use Rattle.board_model.specs.Choice.{without_best}
use Rattle.board_model.specs.DomainCall.{DomainCall, create_at, delete_at, lookup_of, send_from, receive_at, request_at, available_at, connect_from, open_at, packet_from, lend_at, packet_request_at, release_of, scalar_from, scalar_at, close_at, test_of, wait_for, cancel_of, raw_to, turn_alone}
use Rattle.board_model.specs.State.{connected, closed, Stage, ChannelEnd, Endpoint, Peer, DomainState, is_at, has_address_of, live_at, endpoint_at, peer_of, is_numbered}
use Rattle.board_model.specs.Change.{Change, endpoint_made, endpoint_gone, item_queued, best_gone, oldest_gone, channel_set, queue_dropped, item_handed, item_lost, names_known, name_found, endpoint_with, with_queue, with_channel, without_queue, changed, changed_all}
use Rattle.board_model.specs.ChannelEnds.{is_closed, is_connecting, same_kind, sends_to, hears_from, closed_end, far_closed_end, EndRow, end_row, left_row, end_row_of}
use Rattle.board_model.specs.TakenFrames.{rejecting, accepting, acting, item_of, row_of}
use Rattle.board_model.specs.Answer.{local, known_address, address_of, holds, words_of, refusal, unless_refused}
use Rattle.board_model.specs.CallChanges.{closing, success_changes}
use Rattle.board_model.specs.Deeds.{Deed, looks_back, puts_owed, looks_ahead, takes, calls, happens_by, after_deed, after_deeds}
use Rattle.board_model.proofs.LaneRows.{Deals, stays, strays, awaits, learns, forgets, hands, queues, loses, rejects, accepts, acts, acting-all, row-deals}
use Rattle.board_model.proofs.MessageAlls.{none-passes, all-append, all-filter, all-found, all-changed-first, found-passes}
use Rattle.board_model.proofs.MessageLists.{get-position}
use Rattle.board_model.proofs.StateEnds.{end-holds, lending-holds, tested-holds}
use Rattle.board_model.proofs.HonestSound.{PeerSound, Sound}
use Rattle.board_model.proofs.HonestDeeds.{live_holds, NoWord, OfTaken, HearsDeed, own_made, sound_deed}
use Rattle.board_model.proofs.HonestRuns.{given_deeds}

-- what an end knows of its far end
abbrev pub FarReal : (ℕ → ℕ → Type 0) → Option ChannelEnd → Type 0
FarReal known None = Unit {0}
FarReal known (Some c) = known c.peer c.peer_address × IsChannel c.number

abbrev pub FarEnds : (ℕ → ℕ → Type 0) → DomainState → Type 0
FarEnds known s = AllByRecursion (λ e. FarReal known e.channel) s.endpoints

-- what is heard of an end that connects is as may be known
abbrev pub HearsFar : (ℕ → ℕ → Type 0) → ℕ → Reading → Type 0
HearsFar known q (says src dst (connect m k)) = known q src × IsChannel m
HearsFar known q other = Unit {0}

far_carried : (known : ℕ → ℕ → Type 0) (q a d : ℕ) (k : Carrier) (bytes : List ℕ) → HearsFar known q (says a d (carried k bytes))
far_carried known q a d (of_message priority) bytes = tt
far_carried known q a d (of_packet channel) bytes = tt

abbrev pub HearsFarDeed : (ℕ → ℕ → Type 0) → Deed → Type 0
HearsFarDeed known d = OfTaken (HearsFar known) d

-- ---- the end that a letter leaves: none, or one with the same far end

abbrev is_acted : Fate → Bool
is_acted fate.Acted = true
is_acted other = false

-- what is left by a row with another word
other_word : (r : EndRow) (left : Option ChannelEnd) → is_acted r.word ≡ false → r ≡ end_row true fate.Acted left → ⊥
other_word r left other is = let acts_so : is_acted r.word ≡ true = ap (λ (x : EndRow). is_acted x.word) is in absurd cc

leaves_by : (P : Option ChannelEnd → Type 0) (c : ChannelEnd) (b : Bool) (x left : Option ChannelEnd) → cond b (end_row b fate.Acted x) (left_row (Some c)) ≡ end_row true fate.Acted left → P x → P left
leaves_by P c true x left is good = subst P (ap (λ (r : EndRow). r.leaves) is) good
leaves_by P c false x left is good = absurd (other_word (left_row (Some c)) left refl is)

never_acts : (c : ChannelEnd) (late comes : Bool) (left : Option ChannelEnd) → cond late (end_row late fate.Closed (Some c)) (cond comes (end_row comes fate.Queued (Some c)) (left_row (Some c))) ≡ end_row true fate.Acted left → ⊥
never_acts c true comes left is = other_word (end_row true fate.Closed (Some c)) left refl is
never_acts c false true left is = other_word (end_row true fate.Queued (Some c)) left refl is
never_acts c false false left is = other_word (left_row (Some c)) left refl is

module _ (P : Option ChannelEnd → Type 0) (none : P None) (peer : ℕ) (c : ChannelEnd) (others : (st : Stage) (far_open far_closed : Bool) → P (Some (record c { stage = st; far_open = far_open; far_closed = far_closed }))) where
  far_closed_holds : P (far_closed_end c)
  far_closed_holds = go (is_closed c.stage)
    where
      go : (b : Bool) → P (cond b None (Some (record c { far_closed = true })))
      go true = none
      go false = others c.stage c.far_open true

  pub closed_holds : P (closed_end c)
  closed_holds = go c.far_closed
    where
      go : (b : Bool) → P (cond b None (Some (record c { stage = closed })))
      go true = none
      go false = others closed c.far_open c.far_closed

  pub leaves_end : (l : PlainLetter) (left : Option ChannelEnd) → end_row_of peer (Some c) l ≡ end_row true fate.Acted left → P left
  leaves_end (accept n) left is = leaves_by P c (sends_to peer n c && is_connecting c.stage) (Some (record c { stage = connected })) left is (others connected c.far_open c.far_closed)
  leaves_end (reject n why) left is = leaves_by P c (sends_to peer n c && is_connecting c.stage) None left is none
  leaves_end (recv_open n) left is = leaves_by P c (sends_to peer n c && (not c.far_open && not c.far_closed)) (Some (record c { far_open = true })) left is (others c.stage true c.far_closed)
  leaves_end (send_open n) left is = leaves_by P c (hears_from peer n c && (not c.far_open && not c.far_closed)) (Some (record c { far_open = true })) left is (others c.stage true c.far_closed)
  leaves_end (recv_close n) left is = leaves_by P c (sends_to peer n c && not c.far_closed) (far_closed_end c) left is far_closed_holds
  leaves_end (send_close n) left is = leaves_by P c (hears_from peer n c && not c.far_closed) (far_closed_end c) left is far_closed_holds
  leaves_end (packet n content) left is = absurd (never_acts c (hears_from peer n c && (same_kind c.kind kind.Packet && (not c.far_closed && is_closed c.stage))) (hears_from peer n c && (same_kind c.kind kind.Packet && not c.far_closed)) left is)
  leaves_end (scalar n bits value) left is = absurd (never_acts c (hears_from peer n c && (same_kind c.kind kind.Scalar && (not c.far_closed && is_closed c.stage))) (hears_from peer n c && (same_kind c.kind kind.Scalar && not c.far_closed)) left is)
  leaves_end other left is = absurd (other_word (left_row (Some c)) left refl is)

-- ---- the address of a name: that of an endpoint of the domain, or one that is known of a peer

not_false : (b : Bool) → not b ≡ false → b ≡ true
not_false true h = refl
not_false false h = absurd cc

module _ (made : ℕ) (known : ℕ → ℕ → Type 0) (ns : List ℕ) (s : DomainState) (sound : Sound made known ns s) where
  module _ (P : ℕ → ℕ → Type 0) (own_holds : (p : Endpoint → Bool) (e : Endpoint) → find p s.endpoints ≡ Some e → P s.number e.address) (known_holds : (q a : ℕ) → known q a → P q a) where
    pub named_holds : (at : Local) (x : Option Endpoint) → find (is_at at) s.endpoints ≡ x → is_some (option_map (λ (e : Endpoint). e.address) x) ≡ true → P s.number (unwrap_or (option_map (λ (e : Endpoint). e.address) x) 0)
    named_holds at None is some = absurd cc
    named_holds at (Some e) is some = own_holds (is_at at) e is

    names_hold : (q : ℕ) (n : EndName) (ks : Names) → AllByRecursion (λ k. known q k.1) ks → is_some (address_in n ks) ≡ true → P q (unwrap_or (address_in n ks) 0)
    names_hold q n ks all some = go (find (has_name n) ks) refl some
      where
        go : (x : Option (EndName × ℕ)) → find (has_name n) ks ≡ x → is_some (option_map (λ (k : EndName × ℕ). k.1) x) ≡ true → P q (unwrap_or (option_map (λ (k : EndName × ℕ). k.1) x) 0)
        go None is some = absurd cc
        go (Some k) is some = known_holds q k.1 (all-found (λ (j : EndName × ℕ). known q j.1) (has_name n) ks k all is)

    peers_hold : (n : EndName) (x : Option Peer) → find (is_numbered n.domain) s.peers ≡ x → is_some (known_address n x) ≡ true → P n.domain (unwrap_or (known_address n x) 0)
    peers_hold n None is some = absurd cc
    peers_hold n (Some p) is some =
        subst (λ q. P q (unwrap_or (known_address n (Some p)) 0)) (eqb-true p.number n.domain (found-passes (is_numbered n.domain) s.peers p is))
        (names_hold p.number n p.known (all-found (PeerSound made known) (is_numbered n.domain) s.peers p sound.peers is).names some)

    pub address_holds : (n : EndName) → not (is_some (address_of s n)) ≡ false → P n.domain (unwrap_or (address_of s n) 0)
    address_holds n there =
        go (n.domain == s.number) refl (endpoint_at s (local n.node n.port)) (peer_of s n.domain) (sym (get-position (is_at (local n.node n.port)) s.endpoints)) (sym (get-position (is_numbered n.domain) s.peers)) (not_false (is_some (address_of s n)) there)
      where
        go : (b : Bool) → (n.domain == s.number) ≡ b → (x : Option Endpoint) (y : Option Peer) → find (is_at (local n.node n.port)) s.endpoints ≡ x → find (is_numbered n.domain) s.peers ≡ y → is_some (cond b (option_map (λ (e : Endpoint). e.address) x) (known_address n y)) ≡ true →
            P n.domain (unwrap_or (cond b (option_map (λ (e : Endpoint). e.address) x) (known_address n y)) 0)
        go true here x y ends peers some = subst (λ q. P q (unwrap_or (option_map (λ (e : Endpoint). e.address) x) 0)) (sym (eqb-true n.domain s.number here)) (named_holds (local n.node n.port) x ends some)
        go false here x y ends peers some = peers_hold n y peers some

-- ---- one change

module _ (known : ℕ → ℕ → Type 0) where
  abbrev FitsFar : Change → Type 0
  FitsFar (channel_set a c) = FarReal known c
  FitsFar (queue_dropped a c) = FarReal known c
  FitsFar other = Unit {0}

  abbrev OfEnd : Endpoint → Type 0
  OfEnd e = FarReal known e.channel

  far_change : (s : DomainState) (c : Change) → FitsFar c → FarEnds known s → FarEnds known (changed s c)
  far_change s (endpoint_made at) fits far = all-append OfEnd s.endpoints (endpoint_with s at ∷ []) far (tt, tt)
  far_change s (endpoint_gone a) fits far = all-filter OfEnd (λ e. not (has_address_of a e)) s.endpoints far
  far_change s (item_queued a i) fits far = all-changed-first OfEnd (has_address_of a) (with_queue (λ q. q ++ i ∷ [])) s.endpoints far (λ e is real. real)
  far_change s (best_gone a) fits far = all-changed-first OfEnd (has_address_of a) (with_queue (without_best (λ i. i.priority))) s.endpoints far (λ e is real. real)
  far_change s (oldest_gone a) fits far = all-changed-first OfEnd (has_address_of a) (with_queue (drop 1)) s.endpoints far (λ e is real. real)
  far_change s (channel_set a c) fits far = all-changed-first OfEnd (has_address_of a) (with_channel c) s.endpoints far (λ e is real. fits)
  far_change s (queue_dropped a c) fits far = all-changed-first OfEnd (has_address_of a) (without_queue c) s.endpoints far (λ e is real. fits)
  far_change s other fits far = far

  far_changes : (s : DomainState) (cs : List Change) → AllByRecursion FitsFar cs → FarEnds known s → FarEnds known (changed_all s cs)
  far_changes s [] fits far = far
  far_changes s (c ∷ cs) fits far = far_changes (changed s c) cs fits.1 (far_change s c fits.0 far)

  -- ---- frames and calls

  module _ (s : DomainState) (far : FarEnds known s) where
    end_real : (p : Endpoint → Bool) (e : Endpoint) (c : ChannelEnd) → find p s.endpoints ≡ Some e → e.channel ≡ Some c → FarReal known (Some c)
    end_real p e c found has = subst (FarReal known) has (all-found OfEnd p s.endpoints e far found)

    frame_far : (q : ℕ) (name : Came) (r : Reading) → HearsFar known q r → AllByRecursion FitsFar (row_of s q name r).happens
    frame_far q name r hears = go (row-deals s q name r)
      where
        by : (cs : List Change) → (row_of s q name r).happens ≡ cs → AllByRecursion FitsFar cs → AllByRecursion FitsFar (row_of s q name r).happens
        by cs happens fits = subst (AllByRecursion FitsFar) (sym happens) fits

        go : Deals s q name r (row_of s q name r) → AllByRecursion FitsFar (row_of s q name r).happens
        go (stays happens word) = by [] happens tt
        go (strays source at p is none happens word) = by [] happens tt
        go (awaits source at p is some happens word) = by [] happens tt
        go (learns text n a names is learned_so happens word) = by (names_known q names ∷ name_found n a ∷ []) happens (tt, (tt, tt))
        go (forgets text n a names is forgotten_so happens word) = by (names_known q names ∷ []) happens (tt, tt)
        go (hands source at l e is found carried waits happens word) = by (item_handed at (item_of q name source l) ∷ []) happens (tt, tt)
        go (queues source at l e is found carried none happens word) = by (item_queued at (item_of q name source l) ∷ []) happens (tt, tt)
        go (loses source at l e is found late happens word) = by (item_lost at (item_of q name source l) ∷ []) happens (tt, tt)
        go (rejects source at number k why is happens word) = by (rejecting q source at number why) happens (tt, tt)
        go (accepts source at number k e is found free idle happens word) = by (accepting q source at number k) happens (subst (HearsFar known q) is hears, (tt, tt))
        go (acts source at l e c left is found has row happens word) =
            let real : FarReal known (Some c) = end_real (has_address_of at) e c found has in
            by (acting at left l) happens (acting-all FitsFar at left (leaves_end (FarReal known) tt q c (λ st far_open far_closed. real) l left row) (λ n. tt) (λ n why. tt) tt l)

    module _ (made : ℕ) (ns : List ℕ) (sound : Sound made known ns s) (own_known : (a : ℕ) → IsMade made a → known s.number a) (within : s.endpoints_given ≤ made) where
      closes_far : (side : Side) (e : Endpoint) (c : ChannelEnd) → FarReal known (Some c) → AllByRecursion FitsFar (closing side e c)
      closes_far Sender e c real = (tt, (closed_holds (FarReal known) tt 0 c (λ st far_open far_closed. real), tt))
      closes_far Receiver e c real = (tt, (tt, (closed_holds (FarReal known) tt 0 c (λ st far_open far_closed. real), tt)))

      success_far : (node : ℕ) (call : DomainCall) → NoWord s node call → AllByRecursion FitsFar (success_changes s node call)
      success_far node (create_at port) no_word = (tt, (tt, (tt, tt)))
      success_far node (delete_at port) no_word = live_holds (AllByRecursion FitsFar) tt (live_at s (local node port)) _ (λ e is. (tt, (tt, (tt, tt))))
      success_far node (lookup_of name) no_word = (tt, tt)
      success_far node (send_from port to priority bytes) no_word = (tt, tt)
      success_far node (receive_at port max) no_word = live_holds (AllByRecursion FitsFar) tt (live_at s (local node port)) _ (λ e is. (tt, tt))
      success_far node (request_at port max) no_word = live_holds (AllByRecursion FitsFar) tt (live_at s (local node port)) _ (λ e is. (tt, (tt, tt)))
      success_far node (available_at port) no_word = tt
      success_far node (connect_from port to k) no_word =
          let less : s.channels_given < 65535 = leb-false channel_limit s.channels_given no_word.1.1.1.1.0 in
          let far_address : known to.domain (unwrap_or (address_of s to) 0) = address_holds made known ns s sound known (λ p e is. own_known e.address (own_made made known ns s sound p e within is)) (λ q a is. is) to no_word.1.1.1.0 in
          live_holds (AllByRecursion FitsFar) tt (live_at s (local node port)) _ (λ e is. (tt, ((far_address, (omega arith, omega arith)), (tt, (tt, tt)))))
      success_far node (open_at port side k) no_word = end-holds (AllByRecursion FitsFar) tt (live_at s (local node port)) _ (λ e c is has. (tt, (end_real (is_at (local node port)) e c is has, tt)))
      success_far node (packet_from port bytes) no_word = end-holds (AllByRecursion FitsFar) tt (live_at s (local node port)) _ (λ e c is has. (tt, tt))
      success_far node (lend_at port) no_word = live_holds (AllByRecursion FitsFar) tt (live_at s (local node port)) _ (λ e is. (tt, lending-holds FitsFar (λ i. tt) _))
      success_far node (packet_request_at port) no_word = live_holds (AllByRecursion FitsFar) tt (live_at s (local node port)) _ (λ e is. (tt, (tt, tt)))
      success_far node (release_of place) no_word = (tt, tt)
      success_far node (scalar_from port bits value) no_word = end-holds (AllByRecursion FitsFar) tt (live_at s (local node port)) _ (λ e c is has. (tt, tt))
      success_far node (scalar_at port bits) no_word = live_holds (AllByRecursion FitsFar) tt (live_at s (local node port)) _ (λ e is. (tt, tt))
      success_far node (close_at port side) no_word = end-holds (AllByRecursion FitsFar) tt (live_at s (local node port)) (closing side) (λ e c is has. closes_far side e c (end_real (is_at (local node port)) e c is has))
      success_far node (test_of request) no_word = (tt, tested-holds FitsFar (λ i. tt) _)
      success_far node (wait_for requests says_place) no_word = (tt, tested-holds FitsFar (λ i. tt) _)
      success_far node (cancel_of request) no_word = (tt, tt)
      success_far node (raw_to to bytes) no_word = (tt, tt)
      success_far node turn_alone no_word = tt

      call_far : (node : ℕ) (call : DomainCall) (o : Option Refusal) → refusal s node call ≡ o → AllByRecursion FitsFar (unless_refused o [] (success_changes s node call))
      call_far node call (Some w) why = tt
      call_far node call None why = success_far node call (none-passes (holds s node call) (words_of call) why)

      pub far_deed : (d : Deed) → HearsFarDeed known d → FarEnds known (after_deed s d)
      far_deed (looks_back q n) hears = far
      far_deed (puts_owed q frame) hears = far
      far_deed (looks_ahead q n) hears = far
      far_deed (takes q name frame word) hears = far_changes s (happens_by s (takes q name frame word)) (tt, frame_far q (came_from s q name frame) (said_from s q frame) (coming-holds (HearsFar known q) (λ a d k bytes. far_carried known q a d k bytes) (λ a d p. tt) (part_of s q) (reading frame) hears)) far
      far_deed (calls node call a) hears = far_changes s (happens_by s (calls node call a)) (call_far node call (refusal s node call) refl) far

  -- ---- a run

  number_same : (s : DomainState) (cs : List Change) → (changed_all s cs).number ≡ s.number
  number_same s [] = refl
  number_same s (c ∷ cs) = number_same (changed s c) cs

  pub far_deeds : (made : ℕ) (ns : List ℕ) (s : DomainState) (ds : List Deed) → ((a : ℕ) → IsMade made a → known s.number a) → AllByRecursion (HearsDeed known) ds → AllByRecursion (HearsFarDeed known) ds → (after_deeds s ds).endpoints_given ≤ made → Sound made known ns s → FarEnds known s → FarEnds known (after_deeds s ds)
  far_deeds made ns s [] own_known hears hears_far within sound far = far
  far_deeds made ns s (d ∷ ds) own_known hears hears_far within sound far =
      let later : (after_deed s d).endpoints_given ≤ made = omega (arith, given_deeds (after_deed s d) ds) in
      let now : s.endpoints_given ≤ made = omega (arith, given_deeds s (d ∷ [])) in
      far_deeds made ns (after_deed s d) ds (λ a is. subst (λ q. known q a) (sym (number_same s (happens_by s d))) (own_known a is)) hears.1 hears_far.1 within
      (sound_deed made known ns s sound d hears.0 later) (far_deed s far made ns sound own_known now d hears_far.0)
