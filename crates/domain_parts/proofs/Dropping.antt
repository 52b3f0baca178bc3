-- All messages at an endpoint are dropped, the oldest first, and then it is gone: what these steps mean.
use Rattle.std.proofs.Common.{◌≡◌, ℕ, zero, suc, Bool, true, false, cond, List, [], ◌∷◌, ◌++◌, map, Option, Some, None, refl, sym, ap, ◌∙◌, subst, arith}
use Rattle.std.specs.List.{AllByRecursion, flat_map}
use Rattle.std.proofs.lemmas.List.{map-append}
use Rattle.board_model.proofs.ListsCounts.{count-cons}
use Rattle.board_model.proofs.MessageVisitLines.{count-map}
use Rattle.std.specs.Prelude.{filter, option_map, slice_get, unwrap_or, ◌==◌}
use Rattle.std.proofs.lemmas.List.{append-nil}
use Rattle.mc_base.specs.declared.name.Local.{Local}
use Rattle.mc_base.specs.declared.refusal.Refusal.TheVariants.{EndpInvalid}
use Rattle.mc_base.specs.declared.request.Slot.{Slot}
use Rattle.board_model.specs.DomainCall.{delete_at}
use Rattle.message_queue.specs.Queue.{Waiting}
use Rattle.board_model.specs.Choice.{oldest}
use Rattle.domain_parts.specs.PlacedCalls.{ended_by_word, with_announced, without_endpoint}
use Rattle.board_model.specs.Lists.{changed_at, with_rising, without, without_at}
use Rattle.board_model.specs.State as state
use Rattle.board_model.specs.State.{DomainState, Item, address_at, frames_from, place_at}
use Rattle.buffer_book.specs.Book.{Book}
use Rattle.endpoint_table.specs.Table.{Table, deleted}
use Rattle.lane_end.specs.ReceiveMoves.{Gave}
use Rattle.request_set.specs.declared.ask.Complete.TheVariants as complete
use Rattle.domain_parts.specs.LaneSeen.{LaneSeen}
use Rattle.domain_parts.specs.declared.endpoints.Endpoint.{Endpoint}
use Rattle.domain_parts.specs.declared.peer.Peer.{Peer}
use Rattle.domain_parts.specs.declared.requests.Waiters.TheVariants as waiters
use Rattle.domain_parts.specs.AllMoved.{giving}
use Rattle.domain_parts.specs.CallSteps.{Means, call_steps, dropped_at, drops, if_some}
use Rattle.domain_parts.specs.InBook.{frames_at, frames_in, numbered_at}
use Rattle.domain_parts.specs.LaneMoves.{LaneMove, receiver}
use Rattle.domain_parts.specs.Parts.{Parts, Sound, plain, state_of}
use Rattle.domain_parts.specs.Peers.{state_in}
use Rattle.domain_parts.specs.Records.{all_waiting, lent_slots, slots_at, waiting_in, with_oldest_taken, part_slots}
use Rattle.domain_parts.specs.Steps.{Step, all_moves, done, done_all, endpoint_gone, oldest_dropped, step_moves, without_frames}
use Rattle.domain_parts.proofs.CallsAgree.{delete-agrees, returned-agrees}
use Rattle.domain_parts.specs.InPlaces.{is_same, one_if, slots_of, times_in}
use Rattle.domain_parts.specs.InRequests.{handed_slots}
use Rattle.domain_parts.specs.Sound.{out_at}
use Rattle.domain_parts.proofs.Books.{Others, differ-back}
use Rattle.domain_parts.proofs.GivingLemmas.{all-stand, some-lane}
use Rattle.domain_parts.proofs.Leaving.{left-others}
use Rattle.domain_parts.proofs.Placed.{no-one, none-left}
use Rattle.domain_parts.proofs.Slots.{times-all}
use Rattle.domain_parts.proofs.StateFits.{ends-of}
use Rattle.domain_parts.proofs.Completing.{ids-all, requests-ended}
use Rattle.domain_parts.proofs.Deleting.{endpoints-oldest, endpoints-without, oldest-more, without_first}
use Rattle.domain_parts.proofs.Ending.{ids_in}
use Rattle.domain_parts.proofs.Receiving.{given-state}
use Rattle.domain_parts.proofs.Removing.{count-within, deleted-is, gone-address, gone-items, the}
use Rattle.domain_parts.proofs.Steps.{drops-place, first-there, oldest_dropped-keeps, oldest_dropped-left, oldest_dropped-out}
use Rattle.domain_parts.proofs.Stepping.{Any, done-append, gives-seen, quiet-peers}
use Rattle.domain_parts.proofs.TiedStates.{ended-state}

-- ---- one is dropped

gone-changed : (f : state.Endpoint → state.Endpoint) → ((e : state.Endpoint) → f (without_first e) ≡ f e) → (i : ℕ) (es : List state.Endpoint) → changed_at f i (changed_at without_first i es) ≡ changed_at f i es
gone-changed f same i [] = refl
gone-changed f same zero (e ∷ es) = ap (λ (x : state.Endpoint). x ∷ es) (same e)
gone-changed f same (suc i) (e ∷ es) = ap (λ (xs : List state.Endpoint). e ∷ xs) (gone-changed f same i es)

gone-removed : (i : ℕ) (es : List state.Endpoint) → without_at i (changed_at without_first i es) ≡ without_at i es
gone-removed i [] = refl
gone-removed zero (e ∷ es) = refl
gone-removed (suc i) (e ∷ es) = ap (λ (xs : List state.Endpoint). e ∷ xs) (gone-removed i es)

same-address : (i : ℕ) (es : List Endpoint) → option_map (λ (e : Endpoint). e.address) (slice_get (changed_at with_oldest_taken i es) i) ≡ option_map (λ (e : Endpoint). e.address) (slice_get es i)
same-address i [] = refl
same-address zero (e ∷ es) = refl
same-address (suc i) (e ∷ es) = same-address i es

module _ (p : Parts) (sound : Sound p) (i : ℕ) (s : Slot) (first : Some s ≡ option_map (λ (w : Waiting). w.slot) (oldest (waiting_in (slice_get p.records.endpoints i)))) where
  abbrev step : Step
  step = dropped_at p.book i s

  pub one-dropped : state_of (done (dropped_at p.book i s) p) ≡ record (state_of p) { endpoints = changed_at without_first i (state_of p).endpoints }
  one-dropped =
      let p1 = done step p in
      let gives = gives-seen s.peer (frames_at p.book s) p.peers sound.peers.rising (oldest_dropped-out p sound i s first) in
      given-state Any (λ l. tt) plain p.book p.records p1.records p.requests p.requests p.table s p.peers p1.peers gives (oldest-more plain p.book p.records p.requests p.table p.peers i s sound first) sound.places refl refl refl refl
      ∙ ap (λ (es : List state.Endpoint). record (state_of p) { endpoints = es }) (endpoints-oldest p.book p.records.endpoints i)

  -- what still waits there has the frames that it had
  pub frames-left : AllByRecursion (λ t. frames_at (done (dropped_at p.book i s) p).book t ≡ frames_at p.book t) (slots_at (done (dropped_at p.book i s) p).records i)
  frames-left =
      let r' = (done step p).records in
      let more = oldest-more plain p.book p.records p.requests p.table p.peers i s sound first in
      let lane = some-lane plain p.book p.records p.requests p.table p.peers sound in
      let none = none-left (slots_of p.records p.requests) (lent_slots p.records) p.book (all-stand plain p.book p.records p.requests p.table p.peers sound) s (slots_of r' p.requests) more in
      let within = count-within (λ (w : Waiting). is_same w.slot s) r'.endpoints i in
      let here = count-map (λ (t : Slot). is_same t s) (λ (w : Waiting). w.slot) (waiting_in (slice_get r'.endpoints i)) in
      let all = times-all s (part_slots r'.parts) (all_waiting r'.endpoints) (handed_slots p.requests.standing) in
      each-other s (slots_at r' i) p.book (without_frames p.book s None (frames_at p.book s)) (omega (arith, none, within, here, all)) (left-others p.records r' p.requests p.requests p.book s more lane.0.number (out_at plain lane.0) lane.1)
    where
      each-other : (s : Slot) (ss : List Slot) (b b' : Book) → times_in s ss ≡ 0 → Others b b' s → AllByRecursion (λ t. frames_at b' t ≡ frames_at b t) ss
      each-other s [] b b' none others = tt
      each-other s (t ∷ ss) b b' none others =
          let sum = count-cons (λ (x : Slot). is_same x s) t ss in
          let here : one_if (is_same t s) ≡ 0 = omega (arith, sum, none) in
          (ap frames_in (others t (differ-back t s (no-one (is_same t s) here))), each-other s ss b b' (omega (arith, sum, none)) others)

-- ---- all are dropped

-- what is left: only what waited at the place is gone
pub record IsLeft (p p' : Parts) (i : ℕ) : Type 0 where
  pub sound : Sound p'
  -- nothing waits there
  pub none : slots_at p'.records i ≡ []
  -- nor does it matter for what leaves nothing there
  pub dropped : (f : state.Endpoint → state.Endpoint) → ((e : state.Endpoint) → f (without_first e) ≡ f e) → changed_at f i (state_of p').endpoints ≡ changed_at f i (state_of p).endpoints
  pub others : state_of p' ≡ record (state_of p) { endpoints = (state_of p').endpoints }
  pub left : without_at i (state_of p').endpoints ≡ without_at i (state_of p).endpoints
  pub address : option_map (λ (e : Endpoint). e.address) (slice_get p'.records.endpoints i) ≡ option_map (λ (e : Endpoint). e.address) (slice_get p.records.endpoints i)
  pub requests : p'.requests ≡ p.requests
  pub lent : p'.records.lent ≡ p.records.lent

abbrev pub HaveFrames : Book → Book → List Slot → Type 0
HaveFrames b b' ss = AllByRecursion (λ t. frames_at b' t ≡ frames_at b t) ss

pub have-then : (a b c : Book) (ss : List Slot) → HaveFrames a b ss → HaveFrames b c ss → HaveFrames a c ss
have-then a b c [] one two = tt
have-then a b c (t ∷ ss) one two = (two.0 ∙ one.0, have-then a b c ss one.1 two.1)

-- the frames are those of another book
all-left_by : (b : Book) (p : Parts) → Sound p → (i : ℕ) (ss : List Slot) → slots_at p.records i ≡ ss → HaveFrames b p.book ss → IsLeft p (done_all (drops b i ss) p) i
all-left_by b p sound i [] is frames = record { sound = sound; none = is; dropped = λ f same. refl; others = refl; left = refl; address = refl; requests = refl; lent = refl }
all-left_by b p sound i (s ∷ ss) is frames =
    let first = first-there p i s ss is in
    let p1 = done (dropped_at p.book i s) p in
    let others = one-dropped p sound i s first in
    let one : (state_of p1).endpoints ≡ changed_at without_first i (state_of p).endpoints = ap (λ (x : DomainState). x.endpoints) others in
    let left = tail-of s ss p i p1 is (oldest_dropped-left p sound i s first) in
    let still = subst (HaveFrames p.book p1.book) left (frames-left p sound i s first) in
    let rest = all-left_by b p1 (oldest_dropped-keeps p sound i s first) i ss left (have-then b p.book p1.book ss frames.1 still) in
    subst (λ (fs : List ℕ). IsLeft p (done_all (drops b i ss) (done (oldest_dropped i s fs) p)) i) frames.0
    (record {
      sound = rest.sound;
      none = rest.none;
      dropped = λ f same. rest.dropped f same ∙ ap (changed_at f i) one ∙ gone-changed f same i (state_of p).endpoints;
      others = rest.others ∙ ap (λ (x : DomainState). record x { endpoints = (state_of (done_all (drops b i ss) p1)).endpoints }) others;
      left = rest.left ∙ ap (without_at i) one ∙ gone-removed i (state_of p).endpoints;
      address = rest.address ∙ same-address i p.records.endpoints;
      requests = rest.requests;
      lent = rest.lent;
    })
  where
    tail-of : (s : Slot) (ss : List Slot) (p : Parts) (i : ℕ) (p1 : Parts) → slots_at p.records i ≡ s ∷ ss → slots_at p.records i ≡ s ∷ slots_at p1.records i → slots_at p1.records i ≡ ss
    tail-of s ss p i p1 is left = cc

pub have-own : (b : Book) (ss : List Slot) → HaveFrames b b ss
have-own b [] = tt
have-own b (t ∷ ss) = (refl, have-own b ss)

pub all-left : (p : Parts) → Sound p → (i : ℕ) (ss : List Slot) → slots_at p.records i ≡ ss → IsLeft p (done_all (drops p.book i ss) p) i
all-left p sound i ss is = all-left_by p.book p sound i ss is (have-own p.book ss)

-- ---- and then the endpoint is gone

-- the moves of the droppings, at a peer
pub moves-cons : (c : Step) (cs : List Step) (last : Step) (n : ℕ) → all_moves (c ∷ (cs ++ last ∷ [])) n ≡ step_moves c n ++ all_moves (cs ++ last ∷ []) n
moves-cons c [] last n = refl
moves-cons c (d ∷ cs) last n = refl

pub drops-moves : (b : Book) (i : ℕ) (ss : List Slot) (last : Step) (n : ℕ) → step_moves last n ≡ [] → all_moves (drops b i ss ++ last ∷ []) n ≡ giving (frames_from n (map (numbered_at b) ss))
drops-moves b i [] last n none = none
drops-moves b i (s ∷ ss) last n none =
    moves-cons (dropped_at b i s) (drops b i ss) last n ∙ ap (λ (ms : List LaneMove). step_moves (dropped_at b i s) n ++ ms) (drops-moves b i ss last n none) ∙ by (s.peer == n)
  where
    by : (x : Bool) → cond x (giving (frames_at b s)) [] ++ giving (frames_from n (map (numbered_at b) ss)) ≡ giving (flat_map (λ (y : Item). y.frames) (cond x (numbered_at b s ∷ filter (λ (y : Item). y.peer == n) (map (numbered_at b) ss)) (filter (λ (y : Item). y.peer == n) (map (numbered_at b) ss))))
    by true = sym (map-append (λ (f : ℕ). receiver (Gave f)) (frames_at b s) (frames_from n (map (numbered_at b) ss)))
    by false = refl

module _ (p : Parts) (sound : Sound p) (at : Local) (i : ℕ) (there : place_at (state_of p) at ≡ Some i) where
  abbrev ss : List Slot
  ss = slots_at p.records i

  abbrev p' : Parts
  p' = done_all (drops p.book i ss) p

  abbrev steps : List Step
  steps = drops p.book i ss ++ endpoint_gone i at ∷ []

  all : IsLeft p p' i
  all = all-left p sound i ss refl

  there' : place_at (state_of p') at ≡ Some i
  there' = drops-place p.book at i ss p ∙ there

  -- the address is that which it had
  old-address : unwrap_or (address_at (state_of p) at) 0 ≡ (the plain p.book p.records p.requests p.table p.peers at i sound there).0.address
  old-address = gone-address plain p.book p.records p.requests p.table p.peers at i sound there

  new-address : (the plain p'.book p'.records p'.requests p'.table p'.peers at i all.sound there').0.address ≡ (the plain p.book p.records p.requests p.table p.peers at i sound there).0.address
  new-address =
      let new = the plain p'.book p'.records p'.requests p'.table p'.peers at i all.sound there' in
      let old = the plain p.book p.records p.requests p.table p.peers at i sound there in
      let same : option_map (λ (e : Endpoint). e.address) (Some new.0) ≡ option_map (λ (e : Endpoint). e.address) (Some old.0) = ap (option_map (λ (e : Endpoint). e.address)) (sym new.1) ∙ all.address ∙ ap (option_map (λ (e : Endpoint). e.address)) old.1 in
      cc

  -- the endpoint is gone from a state that has these left
  abbrev left_with : List state.Endpoint → DomainState
  left_with es =
      let address = unwrap_or (address_at (state_of p) at) 0 in
      with_announced (record (state_of p) { endpoints = es; ended = with_rising address (state_of p).ended; requests = map (ended_by_word EndpInvalid at) (state_of p).requests }) (record { local = at; address = address; create = false })

  gone-state : state_of (done (endpoint_gone i at) p') ≡ without_endpoint (state_of p) at (unwrap_or (address_at (state_of p) at) 0)
  gone-state =
      let new = the plain p'.book p'.records p'.requests p'.table p'.peers at i all.sound there' in
      let r = (done (endpoint_gone i at) p').records in
      let q = (done (endpoint_gone i at) p').requests in
      let s' = state_of p' in
      ap (λ (ps : List (Peer LaneSeen)). state_in plain p'.book r q (deleted p'.table at) ps) (quiet-peers p'.peers)
      ∙ ap (λ (t : Table). state_in plain p'.book r q t p'.peers) (deleted-is plain p'.book p'.records p'.requests p'.table p'.peers at i all.sound there')
      ∙ ended-state plain p'.book p'.book p'.records p'.requests q p'.table p'.peers p'.peers all.sound.peers.rising all.sound.tied r at i new.0 new.1 new.2
      (endpoints-without p'.book i p'.records.endpoints ∙ ap (λ (o : Option ℕ). without o s'.endpoints) (sym there'))
      (requests-ended p'.book EndpInvalid at p'.requests.standing) refl refl refl refl refl refl
      ∙ ap (without_endpoint s' at) (new-address ∙ sym old-address)
      ∙ ap (λ (x : DomainState). without_endpoint x at (unwrap_or (address_at (state_of p) at) 0)) all.others
      ∙ ap left_with (ap (λ (o : Option ℕ). without o s'.endpoints) there' ∙ all.left ∙ ap (λ (o : Option ℕ). without o (state_of p).endpoints) (sym there))

  steps-are : steps ≡ call_steps p at.node (delete_at at.port) None
  steps-are = ap (λ (o : Option ℕ). if_some o (λ j. drops p.book j (slots_at p.records j) ++ endpoint_gone j at ∷ [])) (sym there)

  all-done : done (endpoint_gone i at) p' ≡ done_all (call_steps p at.node (delete_at at.port) None) p
  all-done = sym (done-append (drops p.book i ss) (endpoint_gone i at ∷ []) p) ∙ ap (λ (cs : List Step). done_all cs p) steps-are

  pub delete-means : Means p at.node (delete_at at.port) None
  delete-means = record {
    state = ap state_of (sym all-done) ∙ (gone-state ∙ delete-agrees (state_of p) (ends-of plain p.book p.records p.requests p.table p.peers sound) at i there);
    moves = λ n.
        ap (λ (cs : List Step). all_moves cs n) (sym steps-are) ∙ drops-moves p.book i ss (endpoint_gone i at) n refl
        ∙ ap (λ (is : List Item). giving (frames_from n is)) (gone-items plain p.book p.records p.requests p.table p.peers at i sound there ∙ returned-agrees (state_of p) at.node (delete_at at.port));
    ids = ap (λ (x : Parts). ids_in x.requests) (sym all-done) ∙ ids-all (waiters.Receives at) (complete.Ended EndpInvalid) p'.requests.standing ∙ ap ids_in all.requests ∙ sym (append-nil (ids_in p.requests));
    fresh = tt;
    lent = None;
    packets = ap (λ (x : Parts). x.records.lent) (sym all-done) ∙ all.lent ∙ sym (append-nil p.records.lent);
    lends = refl;
  }
