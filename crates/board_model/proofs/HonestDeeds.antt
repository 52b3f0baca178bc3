-- Each deed keeps what holds of a domain, and what a deed puts is honest, whatever the domain takes.
use Rattle.board_model.proofs.PartReadings.{coming-holds}
use Rattle.board_model.proofs.PartLetters.{letter_frames, each-frame, each-put}
use Rattle.board_model.specs.Parts.{Came, came_from, said_from, part_of}
use Rattle.std.proofs.Common.{◌≡◌, ℕ, ◌+◌, ◌≤◌, ◌<◌, ◌⊎◌, inl, inr, Bool, false, not, cond, List, [], ◌∷◌, map, Option, Some, None, refl, sym, ◌∙◌, subst, arith}
use Rattle.std.specs.Prelude.{find, ◌==◌, nat_lt, is_some, option_map, unwrap_or}
use Rattle.std.specs.List.{AllByRecursion, flat_map}
use Rattle.std.proofs.lemmas.Bool.{cond_both, leb-false, eqb-true}
use Rattle.mc_base.specs.Limits.{creation_limit, channel_limit}
use Rattle.mc_base.specs.NameMap.{Names, rank, has_name, learned}
use Rattle.mc_base.specs.declared.fault.Fault.{Fault}
use Rattle.mc_base.specs.Reading.{Reading, is_faulty, announces, reading, says}
use Rattle.mc_base.specs.Letter.{PlainLetter, accept, reject, packet, scalar, send_close, Carrier, of_message, of_packet, carried}
use Rattle.mc_base.specs.declared.channel.Side.{Side}
use Rattle.mc_base.specs.declared.channel.Side.TheVariants.{Sender, Receiver}
use Rattle.mc_base.specs.declared.name.EndName.{EndName}
use Rattle.mc_base.specs.declared.refusal.Refusal.{Refusal}
use Rattle.mc_base.specs.declared.name.Local.{Local}
use Rattle.board_model.specs.Honesty.{IsMade}
use Rattle.board_model.specs.DomainCall.{DomainCall, create_at, delete_at, lookup_of, send_from, receive_at, request_at, available_at, connect_from, open_at, packet_from, lend_at, packet_request_at, release_of, scalar_from, scalar_at, close_at, test_of, wait_for, cancel_of, raw_to, turn_alone}
use Rattle.board_model.specs.State.{Item, ChannelEnd, Endpoint, Announcement, Reply, Peer, DomainState, is_at, live_at, place_at, address_at, peer_at, is_numbered, request_at_place, announcing, replying, owed_to}
use Rattle.board_model.specs.Change.{Change, item_queued, item_handed, item_lost, packet_lent, names_known, name_found, changed_all}
use Rattle.board_model.specs.TakenFrames.{Row, names_of, rejecting, accepting, acting, item_of, row_of}
use Rattle.board_model.specs.Messages.{said_by}
use Rattle.board_model.specs.Answer.{first_complete, local, holds, words_of, refusal, unless_refused, channel_at, over_channel, opening_letter, closing_letter, Post, puts_of, success_posts, success_puts, puts}
use Rattle.board_model.specs.CallChanges.{at_live, closing, lending, lent_by_test, success_changes}
use Rattle.board_model.specs.Deeds.{Deed, looks_back, puts_owed, looks_ahead, takes, calls, happens_by, after_deed, MayDo}
use Rattle.board_model.proofs.DeedRuns.{frames_if, frames_to, puts_by}
use Rattle.board_model.proofs.ListsApart.{all-map}
use Rattle.board_model.proofs.MessageAlls.{none-passes, all-append, all-filter, all-found, all-weaken, found-passes}
use Rattle.board_model.proofs.MessageLists.{get-position, some-position}
use Rattle.board_model.proofs.LaneRows.{Deals, stays, strays, awaits, learns, forgets, hands, queues, loses, rejects, accepts, acts, row-deals}
use Rattle.board_model.proofs.StateEnds.{there_is, end-holds, tested-are}
use Rattle.board_model.proofs.HonestFrames.{HonestLetter, Honest, letter_honest, announcing_honest, announcing_silent, replying_replies, reply_honest, reply_silent}
use Rattle.board_model.proofs.HonestSound.{own, PeerSound, Sound, FitAll, given_changes, sound_changes}
use Rattle.board_model.proofs.RawFrames.{raw_faulty}

peer_number : (q : ℕ) (ps : List Peer) (p : Peer) → find (is_numbered q) ps ≡ Some p → q ≡ p.number
peer_number q ps p is = sym (eqb-true p.number q (found-passes (is_numbered q) ps p is))

-- what is heard of the names of a peer is as may be known
abbrev pub Hears : (ℕ → ℕ → Type 0) → ℕ → Reading → Type 0
Hears known q (announces text a there) = known q a
Hears known q other = Unit {0}

-- what is asked of each frame that is taken, by its peer
pub heard_carried : (known : ℕ → ℕ → Type 0) (q a d : ℕ) (k : Carrier) (bytes : List ℕ) → Hears known q (says a d (carried k bytes))
heard_carried known q a d (of_message priority) bytes = tt
heard_carried known q a d (of_packet channel) bytes = tt

abbrev pub OfTaken : (ℕ → Reading → Type 0) → Deed → Type 0
OfTaken H (takes q name frame word) = H q (reading frame)
OfTaken H other = Unit {0}

abbrev pub HearsDeed : (ℕ → ℕ → Type 0) → Deed → Type 0
HearsDeed known d = OfTaken (Hears known) d

-- ---- the endpoint of a name

pub live_holds : {A : Type 0} (P : List A → Type 0) → P [] → (x : Option Endpoint) (f : Endpoint → List A) → ((e : Endpoint) → x ≡ Some e → P (f e)) → P (at_live x f)
live_holds P none None f each = none
live_holds P none (Some e) f each = each e refl

pub not_some : {A : Type 0} (x : Option A) → is_some x ≡ false → x ≡ None
not_some None is = refl
not_some (Some y) is = absurd cc

abbrev pub NoWord : DomainState → ℕ → DomainCall → Type 0
NoWord s node call = AllByRecursion (λ w. holds s node call w ≡ false) (words_of call)

-- ---- what is read of the frames that a call puts: a raw one has a fault, and the others are those of its letters
module _ (s : DomainState) (Q : Reading → Type 0) (faulty : (w : Fault) → Q (is_faulty w)) (L : Post → Type 0) (letters : (x : Post) → L x → AllByRecursion (λ f. Q (reading f)) (letter_frames x.source x.destination x.letter)) (posts : (node : ℕ) (call : DomainCall) → NoWord s node call → AllByRecursion L (success_posts s node call)) where
  all_read : (xs : List Post) → AllByRecursion L xs → AllByRecursion (λ (p : ℕ × List ℕ). Q (reading p.1)) (flat_map puts_of xs)
  all_read [] all = tt
  all_read (x ∷ xs) all = all-append (λ (p : ℕ × List ℕ). Q (reading p.1)) (puts_of x) (flat_map puts_of xs) (each-put (λ f. Q (reading f)) x (letters x all.0)) (all_read xs all.1)

  success_read : (node : ℕ) (call : DomainCall) → NoWord s node call → AllByRecursion (λ (p : ℕ × List ℕ). Q (reading p.1)) (success_puts s node call)
  success_read node (raw_to to bytes) no_word = let raw = raw_faulty bytes no_word.1.0 in (subst Q (sym raw.1) (faulty raw.0), tt)
  success_read node other no_word = all_read (success_posts s node other) (posts node other no_word)

  to_one : (q : ℕ) (xs : List (ℕ × List ℕ)) → AllByRecursion (λ (p : ℕ × List ℕ). Q (reading p.1)) xs → AllByRecursion (λ f. Q (reading f)) (frames_to q xs)
  to_one q [] all = tt
  to_one q (x ∷ xs) all = all-append (λ f. Q (reading f)) (frames_if (x.0 == q) (x.1 ∷ [])) (frames_to q xs)
      (cond_both (x.0 == q) (x.1 ∷ []) [] (AllByRecursion (λ f. Q (reading f))) (λ k. (all.0, tt)) (λ k. tt)) (to_one q xs all.1)

  pub call_puts : (q node : ℕ) (call : DomainCall) → AllByRecursion (λ f. Q (reading f)) (frames_to q (puts s node call))
  call_puts q node call = to_one q (puts s node call) (by (refusal s node call) refl)
    where
      by : (o : Option Refusal) → refusal s node call ≡ o → AllByRecursion (λ (p : ℕ × List ℕ). Q (reading p.1)) (unless_refused o [] (success_puts s node call))
      by None why = success_read node call (none-passes (holds s node call) (words_of call) why)
      by (Some w) why = tt

module _ (made : ℕ) (known : ℕ → ℕ → Type 0) (ns : List ℕ) where
  abbrev KnownOf : ℕ → Names → Type 0
  KnownOf q ks = AllByRecursion (λ k. known q k.1) ks

  learned_known : (q : ℕ) (n : EndName) (a : ℕ) (ks : Names) → known q a → KnownOf q ks → KnownOf q (learned n a ks)
  learned_known q n a [] is all = (is, tt)
  learned_known q n a (k ∷ ks) is all =
      cond_both (has_name n k) ((n, a) ∷ ks) (cond (nat_lt (rank n) (rank k.0)) ((n, a) ∷ k ∷ ks) (k ∷ learned n a ks)) (KnownOf q)
      (λ here. (is, all.1))
      (λ other. cond_both (nat_lt (rank n) (rank k.0)) ((n, a) ∷ k ∷ ks) (k ∷ learned n a ks) (KnownOf q) (λ first. (is, all)) (λ later. (all.0, learned_known q n a ks is all.1)))

  -- ---- frames

  module _ (s : DomainState) (sound : Sound made known ns s) where
    names_known_of : (q : ℕ) → KnownOf q (names_of (peer_at s q))
    names_known_of q = go s.peers sound.peers
      where
        go : (ps : List Peer) → AllByRecursion (PeerSound made known) ps → KnownOf q (names_of (find (is_numbered q) ps))
        go ps all = by (find (is_numbered q) ps) refl
          where
            by : (x : Option Peer) → find (is_numbered q) ps ≡ x → KnownOf q (names_of x)
            by None is = tt
            by (Some p) is = subst (λ n. KnownOf n p.known) (sym (peer_number q ps p is)) (all-found (PeerSound made known) (is_numbered q) ps p all is).names

    abbrev RowFits : DomainState → Row → Type 0
    RowFits t r = FitAll made known ns t r.happens

    acts_fit : (t : DomainState) (at : ℕ) (left : Option ChannelEnd) (l : PlainLetter) → FitAll made known ns t (acting at left l)
    acts_fit t at left (accept n) = (tt, (tt, tt))
    acts_fit t at left (reject n why) = (tt, (tt, tt))
    acts_fit t at left (send_close n) = (tt, (tt, tt))
    acts_fit t at left other = (tt, tt)

    frame_fits : (t : DomainState) (q : ℕ) (name : Came) (r : Reading) → Hears known q r → RowFits t (row_of s q name r)
    frame_fits t q name r hears = go (row-deals s q name r)
      where
        by : (cs : List Change) → (row_of s q name r).happens ≡ cs → FitAll made known ns t cs → FitAll made known ns t (row_of s q name r).happens
        by cs happens fits = subst (FitAll made known ns t) (sym happens) fits

        go : Deals s q name r (row_of s q name r) → FitAll made known ns t (row_of s q name r).happens
        go (stays happens word) = by [] happens tt
        go (strays source at p is none happens word) = by [] happens tt
        go (awaits source at p is some happens word) = by [] happens tt
        go (learns text n a names is learned_so happens word) =
            by (names_known q names ∷ name_found n a ∷ []) happens (subst (KnownOf q) (sym learned_so) (learned_known q n a (names_of (peer_at s q)) (subst (Hears known q) is hears) (names_known_of q)), (tt, tt))
        go (forgets text n a names is forgotten_so happens word) =
            by (names_known q names ∷ []) happens (subst (KnownOf q) (sym forgotten_so) (all-filter (λ (k : EndName × ℕ). known q k.1) (λ k. not (has_name n k)) (names_of (peer_at s q)) (names_known_of q)), tt)
        go (hands source at l e is found carried waits happens word) = by (item_handed at (item_of q name source l) ∷ []) happens (tt, tt)
        go (queues source at l e is found carried none happens word) = by (item_queued at (item_of q name source l) ∷ []) happens (tt, tt)
        go (loses source at l e is found late happens word) = by (item_lost at (item_of q name source l) ∷ []) happens (tt, tt)
        go (rejects source at number kind why is happens word) = by (rejecting q source at number why) happens (tt, tt)
        go (accepts source at number kind e is found free idle happens word) = by (accepting q source at number kind) happens (tt, (tt, tt))
        go (acts source at l e c left is found has row happens word) = by (acting at left l) happens (acts_fit t at left l)

    -- ---- calls

    pub own_made : (p : Endpoint → Bool) (e : Endpoint) → s.endpoints_given ≤ made → find p s.endpoints ≡ Some e → IsMade made e.address
    own_made p e within is = let k = own p 1024 (1024 + s.endpoints_given) s.endpoints e sound.rise is in let top : e.address < 1024 + s.endpoints_given = k.below in record { above = k.above; below = omega arith }

    lending_fits : (t : DomainState) (o : Option Item) → FitAll made known ns t (lending o)
    lending_fits t None = tt
    lending_fits t (Some i) = (tt, tt)

    tested_fits : (t : DomainState) (lent : List Change) → (lent ≡ []) ⊎ ((i : Item) × (lent ≡ packet_lent i ∷ [])) → FitAll made known ns t lent
    tested_fits t lent (inl none) = subst (FitAll made known ns t) (sym none) tt
    tested_fits t lent (inr one) = subst (FitAll made known ns t) (sym one.1) (tt, tt)

    success_fits : (node : ℕ) (call : DomainCall) → NoWord s node call → (changed_all s (success_changes s node call)).endpoints_given ≤ made → FitAll made known ns s (success_changes s node call)
    success_fits node (create_at port) no_word within =
        let less : s.endpoints_given < 60000 = leb-false creation_limit s.endpoints_given no_word.1.1.1.0 in
        let none : find (is_at (local node port)) s.endpoints ≡ None = not_some (find (is_at (local node port)) s.endpoints) (sym (some-position (is_at (local node port)) s.endpoints) ∙ no_word.1.0) in
        ((none, less), (record { above = omega arith; below = omega arith }, (tt, tt)))
    success_fits node (delete_at port) no_word within =
        let below : s.endpoints_given ≤ made = omega (arith, given_changes s (success_changes s node (delete_at port))) in
        live_holds (FitAll made known ns s) tt (live_at s (local node port)) _ (λ e is. (tt, (tt, (own_made (is_at (local node port)) e below is, tt))))
    success_fits node (lookup_of name) no_word within = (tt, tt)
    success_fits node (send_from port to priority bytes) no_word within = (tt, tt)
    success_fits node (receive_at port max) no_word within = live_holds (FitAll made known ns s) tt (live_at s (local node port)) _ (λ e is. (tt, tt))
    success_fits node (request_at port max) no_word within = live_holds (FitAll made known ns s) tt (live_at s (local node port)) _ (λ e is. (tt, (tt, tt)))
    success_fits node (available_at port) no_word within = tt
    success_fits node (connect_from port to kind) no_word within = live_holds (FitAll made known ns s) tt (live_at s (local node port)) _ (λ e is. (tt, (tt, (tt, (tt, tt)))))
    success_fits node (open_at port side kind) no_word within = end-holds (FitAll made known ns s) tt (live_at s (local node port)) _ (λ e c is has. (tt, (tt, tt)))
    success_fits node (packet_from port bytes) no_word within = end-holds (FitAll made known ns s) tt (live_at s (local node port)) _ (λ e c is has. (tt, tt))
    success_fits node (lend_at port) no_word within = live_holds (FitAll made known ns s) tt (live_at s (local node port)) _ (λ e is. (tt, lending_fits _ _))
    success_fits node (packet_request_at port) no_word within = live_holds (FitAll made known ns s) tt (live_at s (local node port)) _ (λ e is. (tt, (tt, tt)))
    success_fits node (release_of place) no_word within = (tt, tt)
    success_fits node (scalar_from port bits value) no_word within = end-holds (FitAll made known ns s) tt (live_at s (local node port)) _ (λ e c is has. (tt, tt))
    success_fits node (scalar_at port bits) no_word within = live_holds (FitAll made known ns s) tt (live_at s (local node port)) _ (λ e is. (tt, tt))
    success_fits node (close_at port side) no_word within = end-holds (FitAll made known ns s) tt (live_at s (local node port)) (closing side) (λ e c is has. closes_fit side e c)
      where
        closes_fit : (side : Side) (e : Endpoint) (c : ChannelEnd) → FitAll made known ns s (closing side e c)
        closes_fit Sender e c = (tt, (tt, tt))
        closes_fit Receiver e c = (tt, (tt, (tt, tt)))
    success_fits node (test_of request) no_word within = (tt, tested_fits _ (lent_by_test (request_at_place s request)) (tested-are (request_at_place s request)))
    success_fits node (wait_for requests says_place) no_word within = (tt, tested_fits _ (lent_by_test (request_at_place s (first_complete s requests))) (tested-are (request_at_place s (first_complete s requests))))
    success_fits node (cancel_of request) no_word within = (tt, tt)
    success_fits node (raw_to to bytes) no_word within = (tt, tt)
    success_fits node turn_alone no_word within = tt

    call_fits : (node : ℕ) (call : DomainCall) (r : Option Refusal) → refusal s node call ≡ r → (changed_all s (unless_refused r [] (success_changes s node call))).endpoints_given ≤ made → FitAll made known ns s (unless_refused r [] (success_changes s node call))
    call_fits node call (Some w) is within = tt
    call_fits node call None is within = success_fits node call (none-passes (holds s node call) (words_of call) is) within

    deed_fits : (d : Deed) → HearsDeed known d → (after_deed s d).endpoints_given ≤ made → FitAll made known ns s (happens_by s d)
    deed_fits (looks_back q n) hears within = (tt, tt)
    deed_fits (puts_owed q frame) hears within = (tt, tt)
    deed_fits (looks_ahead q n) hears within = (tt, tt)
    deed_fits (takes q name frame word) hears within = (tt, frame_fits _ q (came_from s q name frame) (said_from s q frame) (coming-holds (Hears known q) (λ a d k bytes. heard_carried known q a d k bytes) (λ a d p. tt) (part_of s q) (reading frame) hears))
    deed_fits (calls node call a) hears within = call_fits node call (refusal s node call) refl within

    pub sound_deed : (d : Deed) → HearsDeed known d → (after_deed s d).endpoints_given ≤ made → Sound made known ns (after_deed s d)
    sound_deed d hears within = sound_changes made known ns s (happens_by s d) (deed_fits d hears within) sound

    -- ---- what is put

    owed_holds : (P : List ℕ → Type 0) → ((a : Announcement) → IsMade made a.address → P (announcing s.number a)) → ((r : Reply) → P (replying r)) → (q : ℕ) (p : Peer) → peer_at s q ≡ Some p → AllByRecursion P (owed_to s.number p)
    owed_holds P announced replied q p is =
        let well = all-found (PeerSound made known) (is_numbered q) s.peers p sound.peers is in
        all-append P (map (announcing s.number) p.announcements) (map replying p.replies)
        (all-map P (announcing s.number) p.announcements (all-weaken (λ (a : Announcement). IsMade made a.address) (λ a. P (announcing s.number a)) announced p.announcements well.announced))
        (each_reply p.replies)
      where
        each_reply : (rs : List Reply) → AllByRecursion P (map replying rs)
        each_reply [] = tt
        each_reply (r ∷ rs) = (replied r, each_reply rs)

    -- an owed frame that is put says no message, and announces an address of an endpoint made
    pub record OwedWell (frame : List ℕ) : Type 0 where
      pub honest : Honest made (reading frame)
      pub silent : (sender receiver : ℕ) → said_by sender receiver (reading frame) ≡ []

    pub owed_well : (q : ℕ) (frame : List ℕ) → made ≤ creation_limit → MayDo s (puts_owed q frame) → OwedWell frame
    owed_well q frame few may = first (owed_to s.number may.0) may.3 (owed_holds OwedWell
        (λ a is. record { honest = announcing_honest made s.number a few is; silent = λ sender receiver. announcing_silent sender receiver s.number a })
        (λ r. record { honest = reply_honest made (reading (replying r)) (replying_replies r); silent = λ sender receiver. reply_silent sender receiver (reading (replying r)) (replying_replies r) }) q may.0 may.2)
      where
        first : (fs : List (List ℕ)) → fs ≡ frame ∷ may.1 → AllByRecursion OwedWell fs → OwedWell frame
        first [] e all = absurd cc
        first (f ∷ fs) e all = let same : f ≡ frame = cc in subst OwedWell same all.0

    -- a letter that a call posts
    over_honest : (x : Option Endpoint) (c : Option ChannelEnd) (letter : ℕ → PlainLetter) → ((src n : ℕ) → HonestLetter made src (letter n)) → AllByRecursion (λ p. HonestLetter made p.source p.letter) (over_channel x c letter)
    over_honest None c letter each = tt
    over_honest (Some e) None letter each = tt
    over_honest (Some e) (Some c) letter each = (each e.address c.number, tt)

    opening_honest : (side : Side) (src n : ℕ) → HonestLetter made src (opening_letter side n)
    opening_honest Sender src n = tt
    opening_honest Receiver src n = tt

    closing_honest : (side : Side) (src n : ℕ) → HonestLetter made src (closing_letter side n)
    closing_honest Sender src n = tt
    closing_honest Receiver src n = tt

    own_address : (at : Local) → s.endpoints_given ≤ made → not (is_some (place_at s at)) ≡ false → IsMade made (unwrap_or (address_at s at) 0)
    own_address at within there =
        let e = there_is s at there in
        subst (λ o. IsMade made (unwrap_or (option_map (λ (k : Endpoint). k.address) o) 0)) (sym (get-position (is_at at) s.endpoints ∙ e.1)) (own_made (is_at at) e.0 within e.1)

    posts_honest : (node : ℕ) (call : DomainCall) → NoWord s node call → s.endpoints_given ≤ made → AllByRecursion (λ p. HonestLetter made p.source p.letter) (success_posts s node call)
    posts_honest node (send_from port to priority bytes) no_word within = (tt, tt)
    posts_honest node (connect_from port to kind) no_word within =
        let less : s.channels_given < 65535 = leb-false channel_limit s.channels_given no_word.1.1.1.1.0 in
        ((own_address (local node port) within no_word.0, (omega arith, omega arith)), tt)
    posts_honest node (open_at port side kind) no_word within = over_honest (live_at s (local node port)) (channel_at s (local node port)) (opening_letter side) (opening_honest side)
    posts_honest node (packet_from port bytes) no_word within = over_honest (live_at s (local node port)) (channel_at s (local node port)) (λ number. packet number bytes) (λ src n. tt)
    posts_honest node (scalar_from port bits value) no_word within = over_honest (live_at s (local node port)) (channel_at s (local node port)) (λ number. scalar number bits value) (λ src n. tt)
    posts_honest node (close_at port side) no_word within = over_honest (live_at s (local node port)) (channel_at s (local node port)) (closing_letter side) (closing_honest side)
    posts_honest node other no_word within = tt

    pub deed_honest : (q : ℕ) (d : Deed) → made ≤ creation_limit → s.endpoints_given ≤ made → MayDo s d → AllByRecursion (λ f. Honest made (reading f)) (puts_by q s d)
    deed_honest q (looks_back p n) few within may = tt
    deed_honest q (looks_ahead p n) few within may = tt
    deed_honest q (takes p name frame word) few within may = tt
    deed_honest q (puts_owed p frame) few within may = cond_both (p == q) (frame ∷ []) [] (AllByRecursion (λ f. Honest made (reading f))) (λ k. ((owed_well p frame few may).honest, tt)) (λ k. tt)
    deed_honest q (calls node call a) few within may =
        call_puts s (Honest made) (λ w. tt) (λ x. HonestLetter made x.source x.letter)
        (λ x is. each-frame (Honest made) x.source x.destination x.letter (letter_honest made x.source x.destination x.letter few is) (λ w. tt) (λ a b p. tt))
        (λ n c no_word. posts_honest n c no_word within) q node call
