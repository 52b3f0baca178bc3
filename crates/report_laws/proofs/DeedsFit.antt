-- Turns and calls keep what holds of a domain's numbers and contents, where the frames that are taken are bytes.
use Rattle.std.proofs.Common.{◌≡◌, ℕ, ◌+◌, ◌^◌, ◌<◌, ◌⊎◌, inl, inr, cond, List, [], ◌∷◌, map, Option, Some, None, find, option_map, refl, sym, subst, arith}
use Rattle.std.specs.Prelude.{◌==◌, nat_lt, not}
use Rattle.std.specs.List.{AllByRecursion}
use Rattle.std.proofs.lemmas.Bool.{cond_both, leb-false}
use Rattle.byteorder.specs.Numbers.{length-bytes_low_first}
use Rattle.mc_base.specs.Letter.{PlainLetter, msg, accept, reject, packet, scalar, send_close, bytes_of_bits}
use Rattle.mc_base.specs.Limits.{creation_limit}
use Rattle.mc_base.specs.NameMap.{Names, rank, has_name, learned}
use Rattle.mc_base.specs.Reading.{Reading, reading}
use Rattle.mc_base.specs.declared.channel.Side.{Side}
use Rattle.mc_base.specs.declared.channel.Side.TheVariants.{Sender, Receiver}
use Rattle.mc_base.specs.declared.name.EndName.{EndName}
use Rattle.mc_base.specs.declared.name.Local.{Local}
use Rattle.mc_base.specs.declared.refusal.Refusal.{Refusal}
use Rattle.board_model.specs.Answer.{local, known_address, address_of, first_complete, refusal, holds, words_of, unless_refused}
use Rattle.board_model.specs.CallChanges.{closing, lending, lent_by_test, success_changes, call_changes, effect}
use Rattle.board_model.specs.Change.{Change, packet_lent, changed}
use Rattle.board_model.specs.Choice.{least, best, oldest}
use Rattle.board_model.specs.Deeds.{Deed, taken_change, looks_back, puts_owed, looks_ahead, takes, calls, happens_by, after_deed, after_deeds}
use Rattle.board_model.specs.DomainCall.{DomainCall, create_at, delete_at, lookup_of, send_from, receive_at, request_at, available_at, connect_from, open_at, packet_from, lend_at, packet_request_at, release_of, scalar_from, scalar_at, close_at, test_of, wait_for, cancel_of, raw_to, turn_alone}
use Rattle.board_model.specs.Journal.{Visit, Taken}
use Rattle.board_model.specs.State.{Item, ChannelEnd, Endpoint, has_address, has_item, Peer, DomainState, is_at, address_at, live_at, is_numbered, peer_at, peer_of, request_at_place}
use Rattle.board_model.specs.Parts.{Came, part_in, part_of, said_from, came_from}
use Rattle.board_model.specs.TakenFrames.{Row, names_of, item_of, acting, row_from}
use Rattle.board_model.specs.Turn.{nameless, takes_named, visit_deeds, after_visit, after_turn}
use Rattle.board_model.proofs.HonestDeeds.{live_holds, NoWord}
use Rattle.board_model.proofs.LanePeers.{peer_found}
use Rattle.board_model.proofs.LaneRows.{Deals, stays, strays, awaits, learns, forgets, hands, queues, loses, rejects, accepts, acts, row-deals}
use Rattle.board_model.proofs.MessageAlls.{none-passes, all-append, all-filter, all-found}
use Rattle.board_model.proofs.MessageLists.{get-position, best_is}
use Rattle.board_model.proofs.StateEnds.{end-holds, tested-are}
use Rattle.mc_journal.specs.EntryText.{AreBytes}
use Rattle.report_laws.proofs.FramesFit.{little-bytes, bits-fit}
use Rattle.report_laws.proofs.ReadingsFit.{FitsSaid, FitsReading, FitsPart, reading-fits, coming-fits}
use Rattle.report_laws.proofs.StatesFit.{FitsItem, FitsOutcome, FitsEnd, FitNames, FitsPeer, Fits, FitChanges, fits-changed, fits-changes}

-- ---- frames

item-fits : (peer : ℕ) (name : Came) (source : ℕ) (l : PlainLetter) → FitsSaid l → FitsItem (item_of peer name source l)
item-fits peer name source (msg priority content) fits = fits
item-fits peer name source (packet number content) fits = fits
item-fits peer name source (scalar number bits value) fits = record {
  size = omega (arith, length-bytes_low_first 0 (bytes_of_bits bits) value, bits-fit bits);
  all = little-bytes (bytes_of_bits bits) value;
}
item-fits peer name source other fits = record { size = omega arith; all = tt }

learned-fits : (n : EndName) (a : ℕ) (ks : Names) → a < 2 ^ 32 → FitNames ks → FitNames (learned n a ks)
learned-fits n a [] one all = (one, tt)
learned-fits n a (k ∷ ks) one all =
    cond_both (has_name n k) ((n, a) ∷ ks) (cond (nat_lt (rank n) (rank k.0)) ((n, a) ∷ k ∷ ks) (k ∷ learned n a ks)) FitNames
    (λ here. (one, all.1))
    (λ other. cond_both (nat_lt (rank n) (rank k.0)) ((n, a) ∷ k ∷ ks) (k ∷ learned n a ks) FitNames (λ first. (one, all)) (λ later. (all.0, learned-fits n a ks one all.1)))

-- the item that a receive takes, where there is one
abbrev pub FitsHeld : Option Item → Type 0
FitsHeld o = FitsOutcome (option_map has_item o)

pub best-fits : (q : List Item) → AllByRecursion FitsItem q → FitsHeld (best (λ i. i.priority) q)
best-fits q all = go (best (λ i. i.priority) q) (sym (best_is (λ i. i.priority) q))
  where
    go : (o : Option Item) → find (λ i. i.priority == least (λ i. i.priority) q) q ≡ o → FitsHeld o
    go None found = tt
    go (Some i) found = all-found FitsItem (λ i. i.priority == least (λ i. i.priority) q) q i all found

pub oldest-fits : (q : List Item) → AllByRecursion FitsItem q → FitsHeld (oldest q)
oldest-fits [] all = tt
oldest-fits (i ∷ q) all = all.0

module _ (s : DomainState) (h : Fits s) where
  names-fit : (peer : ℕ) → FitNames (names_of (peer_at s peer))
  names-fit peer = go (peer_at s peer) refl
    where
      go : (o : Option Peer) → peer_at s peer ≡ o → FitNames (names_of o)
      go None found = tt
      go (Some p) found = (all-found FitsPeer (is_numbered peer) s.peers p h.peers found).known

  part-fits : (peer : ℕ) → FitsPart (part_of s peer)
  part-fits peer = go (peer_at s peer) refl
    where
      go : (o : Option Peer) → peer_at s peer ≡ o → FitsPart (part_in o)
      go None found = tt
      go (Some p) found = (all-found FitsPeer (is_numbered peer) s.peers p h.peers found).part

  acts-fit : (t : DomainState) (at : ℕ) (left : Option ChannelEnd) (l : PlainLetter) → FitChanges t (acting at left l)
  acts-fit t at left (accept n) = (tt, (tt, tt))
  acts-fit t at left (reject n why) = (tt, (tt, tt))
  acts-fit t at left (send_close n) = (tt, (tt, tt))
  acts-fit t at left other = (tt, tt)

  deals-fit : (t : DomainState) (peer : ℕ) (name : Came) (frame : Reading) (r : Row) → FitsReading frame → Deals s peer name frame r → FitChanges t r.happens
  deals-fit t peer name frame r fits (stays happens word) = subst (FitChanges t) (sym happens) tt
  deals-fit t peer name frame r fits (strays source at q is none happens word) = subst (FitChanges t) (sym happens) tt
  deals-fit t peer name frame r fits (awaits source at q is some happens word) = subst (FitChanges t) (sym happens) tt
  deals-fit t peer name frame r fits (learns text n a names is learned_so happens word) =
      let one : a < 2 ^ 32 = subst FitsReading is fits in
      subst (FitChanges t) (sym happens) (subst FitNames (sym learned_so) (learned-fits n a (names_of (peer_at s peer)) one (names-fit peer)), (one, tt))
  deals-fit t peer name frame r fits (forgets text n a names is forgotten_so happens word) =
      subst (FitChanges t) (sym happens) (subst FitNames (sym forgotten_so) (all-filter (λ (k : EndName × ℕ). k.1 < 2 ^ 32) (λ k. not (has_name n k)) (names_of (peer_at s peer)) (names-fit peer)), tt)
  deals-fit t peer name frame r fits (hands source at l e is found carried waits happens word) = subst (FitChanges t) (sym happens) (item-fits peer name source l (subst FitsReading is fits), tt)
  deals-fit t peer name frame r fits (queues source at l e is found carried none happens word) = subst (FitChanges t) (sym happens) (item-fits peer name source l (subst FitsReading is fits), tt)
  deals-fit t peer name frame r fits (loses source at l e is found late happens word) = subst (FitChanges t) (sym happens) (tt, tt)
  deals-fit t peer name frame r fits (rejects source at number kind why is happens word) = subst (FitChanges t) (sym happens) (tt, tt)
  deals-fit t peer name frame r fits (accepts source at number kind e is found free idle happens word) = subst (FitChanges t) (sym happens) (tt, (tt, tt))
  deals-fit t peer name frame r fits (acts source at l e c left is found has row happens word) = subst (FitChanges t) (sym happens) (acts-fit t at left l)

  -- ---- calls

  -- the address of a name
  abbrev FitsAddress : Option ℕ → Type 0
  FitsAddress o = FitsOutcome (option_map has_address o)

  own-address : (at : Local) → FitsAddress (address_at s at)
  own-address at = subst (λ o. FitsAddress (option_map (λ (e : Endpoint). e.address) o)) (sym (get-position (is_at at) s.endpoints)) (go (live_at s at) refl)
    where
      go : (o : Option Endpoint) → live_at s at ≡ o → FitsAddress (option_map (λ e. e.address) o)
      go None found = tt
      go (Some e) found = (all-found FitsEnd (is_at at) s.endpoints e h.ends found).address

  far-address : (n : EndName) (o : Option Peer) → find (is_numbered n.domain) s.peers ≡ o → FitsAddress (known_address n o)
  far-address n None found = tt
  far-address n (Some p) found = go (find (has_name n) p.known) refl
    where
      go : (o : Option (EndName × ℕ)) → find (has_name n) p.known ≡ o → FitsAddress (option_map (λ k. k.1) o)
      go None known = tt
      go (Some k) known = all-found (λ (j : EndName × ℕ). j.1 < 2 ^ 32) (has_name n) p.known k (all-found FitsPeer (is_numbered n.domain) s.peers p h.peers found).known known

  address-fits : (n : EndName) → FitsAddress (address_of s n)
  address-fits n =
      cond_both (n.domain == s.number) (address_at s (local n.node n.port)) (known_address n (peer_of s n.domain)) FitsAddress
      (λ own. own-address (local n.node n.port))
      (λ far. far-address n (peer_of s n.domain) (sym (peer_found s n.domain)))

  pub queue-fits : (at : Local) (e : Endpoint) → live_at s at ≡ Some e → AllByRecursion FitsItem e.queue
  queue-fits at e live = (all-found FitsEnd (is_at at) s.endpoints e h.ends live).queue

  lending-fits : (t : DomainState) (o : Option Item) → FitChanges t (lending o)
  lending-fits t None = tt
  lending-fits t (Some i) = (tt, tt)

  tested-fits : (t : DomainState) (lent : List Change) → (lent ≡ []) ⊎ ((i : Item) × (lent ≡ packet_lent i ∷ [])) → FitChanges t lent
  tested-fits t lent (inl none) = subst (FitChanges t) (sym none) tt
  tested-fits t lent (inr one) = subst (FitChanges t) (sym one.1) (tt, tt)

  closing-fits : (side : Side) (e : Endpoint) (c : ChannelEnd) → FitChanges s (closing side e c)
  closing-fits Sender e c = (tt, (tt, tt))
  closing-fits Receiver e c = (tt, (tt, (tt, tt)))

  module _ (node : ℕ) where
    success-fits : (call : DomainCall) → NoWord s node call → FitChanges s (success_changes s node call)
    success-fits (create_at port) no_word =
        let less : s.endpoints_given < 60000 = leb-false creation_limit s.endpoints_given no_word.1.1.1.0 in
        (omega (arith, less), (tt, (omega (arith, less), tt)))
    success-fits (delete_at port) no_word = live_holds (FitChanges s) tt (live_at s (local node port)) _ (λ e is. (tt, (tt, (tt, tt))))
    success-fits (lookup_of name) no_word = (address-fits name, tt)
    success-fits (send_from port to priority bytes) no_word = (tt, tt)
    success-fits (receive_at port max) no_word = live_holds (FitChanges s) tt (live_at s (local node port)) _ (λ e is. (tt, tt))
    success-fits (request_at port max) no_word = live_holds (FitChanges s) tt (live_at s (local node port)) _ (λ e is. (tt, (best-fits e.queue (queue-fits (local node port) e is), tt)))
    success-fits (available_at port) no_word = tt
    success-fits (connect_from port to kind) no_word = live_holds (FitChanges s) tt (live_at s (local node port)) _ (λ e is. (tt, (tt, (tt, (tt, tt)))))
    success-fits (open_at port side kind) no_word = end-holds (FitChanges s) tt (live_at s (local node port)) _ (λ e c is has. (tt, (tt, tt)))
    success-fits (packet_from port bytes) no_word = end-holds (FitChanges s) tt (live_at s (local node port)) _ (λ e c is has. (tt, tt))
    success-fits (lend_at port) no_word = live_holds (FitChanges s) tt (live_at s (local node port)) _ (λ e is. (tt, lending-fits _ _))
    success-fits (packet_request_at port) no_word = live_holds (FitChanges s) tt (live_at s (local node port)) _ (λ e is. (tt, (oldest-fits e.queue (queue-fits (local node port) e is), tt)))
    success-fits (release_of place) no_word = (tt, tt)
    success-fits (scalar_from port bits value) no_word = end-holds (FitChanges s) tt (live_at s (local node port)) _ (λ e c is has. (tt, tt))
    success-fits (scalar_at port bits) no_word = live_holds (FitChanges s) tt (live_at s (local node port)) _ (λ e is. (tt, tt))
    success-fits (close_at port side) no_word = end-holds (FitChanges s) tt (live_at s (local node port)) (closing side) (λ e c is has. closing-fits side e c)
    success-fits (test_of request) no_word = (tt, tested-fits _ (lent_by_test (request_at_place s request)) (tested-are (request_at_place s request)))
    success-fits (wait_for requests says_place) no_word = (tt, tested-fits _ (lent_by_test (request_at_place s (first_complete s requests))) (tested-are (request_at_place s (first_complete s requests))))
    success-fits (cancel_of request) no_word = (tt, tt)
    success-fits (raw_to to bytes) no_word = (tt, tt)
    success-fits turn_alone no_word = tt

    call-fits : (call : DomainCall) → FitChanges s (call_changes s node call)
    call-fits call = go (refusal s node call) refl
      where
        go : (o : Option Refusal) → refusal s node call ≡ o → FitChanges s (unless_refused o [] (success_changes s node call))
        go (Some word) is = tt
        go None is = success-fits call (none-passes (holds s node call) (words_of call) is)

    pub effect-fits : (call : DomainCall) → Fits (effect s node call)
    effect-fits call = fits-changes s (call_changes s node call) (call-fits call) h

-- ---- turns

-- a frame that is taken is bytes
abbrev BringsBytes : Deed → Type 0
BringsBytes (takes peer name frame word) = AreBytes frame
BringsBytes other = Unit {0}

deed-fits : (s : DomainState) (d : Deed) → BringsBytes d → Fits s → Fits (after_deed s d)
deed-fits s (looks_back peer count) bytes h = fits-changes s (happens_by s (looks_back peer count)) (tt, tt) h
deed-fits s (puts_owed peer frame) bytes h = fits-changes s (happens_by s (puts_owed peer frame)) (tt, tt) h
deed-fits s (looks_ahead peer count) bytes h = fits-changes s (happens_by s (looks_ahead peer count)) (tt, tt) h
deed-fits s (takes peer name frame word) bytes h =
    let came : Came = came_from s peer name frame in
    let fits = coming-fits (part_of s peer) (reading frame) (part-fits s h peer) (reading-fits frame bytes) in
    fits-changes (changed s (taken_change peer came)) (row_from s peer name frame).happens
    (deals-fit s h (changed s (taken_change peer came)) peer came (said_from s peer frame) (row_from s peer name frame) fits.reading (row-deals s peer came (said_from s peer frame)))
    (fits-changed s h (taken_change peer came) fits.part)
deed-fits s (calls node call a) bytes h = effect-fits s h node call

deeds-fit : (s : DomainState) (ds : List Deed) → AllByRecursion BringsBytes ds → Fits s → Fits (after_deeds s ds)
deeds-fit s [] bytes h = h
deeds-fit s (d ∷ ds) bytes h = deeds-fit (after_deed s d) ds bytes.1 (deed-fits s d bytes.0 h)

-- the frames that a visit takes are bytes
abbrev pub TakesBytes : Visit → Type 0
TakesBytes v = AllByRecursion (λ t. AreBytes t.frame) v.takes

takes-bring : (name : ℕ → Option ℕ) (peer : ℕ) (ts : List Taken) → AllByRecursion (λ t. AreBytes t.frame) ts → AllByRecursion BringsBytes (takes_named name peer ts)
takes-bring name peer [] bytes = tt
takes-bring name peer (t ∷ ts) bytes = (bytes.0, takes-bring (λ k. name (k + 1)) peer ts bytes.1)

puts-bring : (peer : ℕ) (fs : List (List ℕ)) → AllByRecursion BringsBytes (map (puts_owed peer) fs)
puts-bring peer [] = tt
puts-bring peer (f ∷ fs) = (tt, puts-bring peer fs)

pub visit-fits : (s : DomainState) (v : Visit) → TakesBytes v → Fits s → Fits (after_visit s v)
visit-fits s v bytes h =
    deeds-fit s (visit_deeds nameless v)
    (tt, all-append BringsBytes (map (puts_owed v.peer) v.owed) (looks_ahead v.peer v.see ∷ takes_named nameless v.peer v.takes) (puts-bring v.peer v.owed) (tt, takes-bring nameless v.peer v.takes bytes)) h

pub turn-fits : (s : DomainState) (vs : List Visit) → AllByRecursion TakesBytes vs → Fits s → Fits (after_turn s vs)
turn-fits s [] bytes h = h
turn-fits s (v ∷ vs) bytes h = turn-fits (after_visit s v) vs bytes.1 (visit-fits s v bytes.0 h)
