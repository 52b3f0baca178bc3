-- An endpoint that is ended: its messages are dropped, the oldest first, and then it is gone.
use Rattle.std.proofs.Common.{◌≡◌, ℕ, zero, suc, ◌+◌, ◌<◌, ◌≤◌, Bool, List, [], ◌∷◌, ◌++◌, length, map, None, Some, refl, sym, ap, ◌∙◌, subst, arith, drop}
use Rattle.std.specs.Prelude.{count_by, option_map, slice_get}
use Rattle.mc_base.specs.declared.name.Local.{Local}
use Rattle.mc_base.specs.declared.request.Slot.{Slot}
use Rattle.mc_base.specs.declared.refusal.Refusal.TheVariants.{EndpInvalid}
use Rattle.board_model.specs.Lists.{changed_at, without_at}
use Rattle.board_model.specs.Choice.{oldest}
use Rattle.board_model.specs.State as state
use Rattle.board_model.specs.State.{Item}
use Rattle.board_model.proofs.ListsCounts.{count-append, count-cons}
use Rattle.buffer_book.specs.Book.{Book, IsQueued}
use Rattle.endpoint_table.specs.Table as endpoint_table
use Rattle.endpoint_table.proofs.RecordLemmas.{all-weaken}
use Rattle.message_queue.specs.Queue.{Waiting}
use Rattle.request_set.specs.declared.ask.Complete.{Complete}
use Rattle.request_set.specs.declared.ask.Complete.TheVariants as complete
use Rattle.request_set.specs.Requests.{Requests}
use Rattle.domain_parts.specs.LaneSeen.{LaneSeen}
use Rattle.domain_parts.specs.declared.endpoints.Endpoint.{Endpoint}
use Rattle.domain_parts.specs.declared.peer.Peer.{Peer}
use Rattle.domain_parts.specs.AllMoved.{numbers_of}
use Rattle.domain_parts.specs.GivingBack.{AreOutAt, GivesBack}
use Rattle.domain_parts.specs.LaneMoves.{LaneMove}
use Rattle.domain_parts.specs.Records.{Records, all_waiting, waiting_in, with_oldest_taken, with_oldest_taken_at, without_record_at}
use Rattle.domain_parts.specs.Sound.{AreSound, out_at}
use Rattle.domain_parts.specs.Tied.{AreTied}
use Rattle.domain_parts.specs.InBook.{endpoint_in, endpoints_in, frames_at, item_in}
use Rattle.domain_parts.specs.InRequests.{with_all_complete}
use Rattle.domain_parts.specs.declared.requests.Waiters.{Waiters}
use Rattle.domain_parts.specs.declared.requests.Waiters.TheVariants as waiters
use Rattle.domain_parts.specs.Steps.{without_frames}
use Rattle.domain_parts.specs.InPlaces.{is_misplaced, one_if, slots_of, times_in}
use Rattle.domain_parts.proofs.Completing.{handed-all, receives-all}
use Rattle.domain_parts.proofs.GivingLemmas.{InPlacesAt, leaves-out, oldest-same, sound-given, stands-queued}
use Rattle.domain_parts.proofs.Placed.{HasMore, times-here}
use Rattle.domain_parts.proofs.Queuing.{out-fewer, out-more, same-held}

-- ---- the oldest of a queue

first-of : (ws : List Waiting) (s : Slot) → Some s ≡ option_map (λ (w : Waiting). w.slot) (oldest ws) → (w : Waiting) × (ws ≡ w ∷ drop 1 ws) × (w.slot ≡ s)
first-of [] s e = absurd cc
first-of (w ∷ ws) s e = (w, refl, cc)

oldest-less : (test : Waiting → Bool) (w : Waiting) (es : List Endpoint) (i : ℕ) → waiting_in (slice_get es i) ≡ w ∷ drop 1 (waiting_in (slice_get es i)) → count_by test (all_waiting (changed_at with_oldest_taken i es)) + one_if (test w) ≡ count_by test (all_waiting es)
oldest-less test w [] i is = absurd (let e = ap length is in omega (arith, e))
oldest-less test w (e ∷ es) zero is =
    let whole = count-append test e.queue.waiting (all_waiting es) in
    let rest = count-append test (drop 1 e.queue.waiting) (all_waiting es) in
    let first : count_by test e.queue.waiting ≡ one_if (test w) + count_by test (drop 1 e.queue.waiting) = ap (count_by test) is ∙ count-cons test w (drop 1 e.queue.waiting) in
    omega (arith, whole, rest, first)
oldest-less test w (e ∷ es) (suc i) is =
    omega (arith, oldest-less test w es i is, count-append test e.queue.waiting (all_waiting (changed_at with_oldest_taken i es)), count-append test e.queue.waiting (all_waiting es))

-- ---- the endpoint is gone

pub endpoints-without : (b : Book) (i : ℕ) (es : List Endpoint) → endpoints_in b (without_at i es) ≡ without_at i (endpoints_in b es)
endpoints-without b i [] = refl
endpoints-without b zero (e ∷ es) = refl
endpoints-without b (suc i) (e ∷ es) = ap (λ (xs : List state.Endpoint). endpoint_in b e ∷ xs) (endpoints-without b i es)

-- where nothing waited
waiting-without : (i : ℕ) (es : List Endpoint) → waiting_in (slice_get es i) ≡ [] → all_waiting (without_at i es) ≡ all_waiting es
waiting-without i [] none = refl
waiting-without zero (e ∷ es) none = ap (λ (ws : List Waiting). ws ++ all_waiting es) (sym none)
waiting-without (suc i) (e ∷ es) none = ap (λ (ws : List Waiting). e.queue.waiting ++ ws) (waiting-without i es none)

-- ---- its oldest message is gone

abbrev pub without_first : state.Endpoint → state.Endpoint
without_first e = record e { queue = drop 1 e.queue }

map-oldest : (b : Book) (ws : List Waiting) → map (item_in b) (drop 1 ws) ≡ drop 1 (map (item_in b) ws)
map-oldest b [] = refl
map-oldest b (w ∷ ws) = refl

pub endpoints-oldest : (b : Book) (es : List Endpoint) (i : ℕ) → endpoints_in b (changed_at with_oldest_taken i es) ≡ changed_at without_first i (endpoints_in b es)
endpoints-oldest b [] i = refl
endpoints-oldest b (e ∷ es) zero = ap (λ (q : List Item). record (endpoint_in b e) { queue = q } ∷ endpoints_in b es) (map-oldest b e.queue.waiting)
endpoints-oldest b (e ∷ es) (suc i) = ap (λ (xs : List state.Endpoint). endpoint_in b e ∷ xs) (endpoints-oldest b es i)

-- ---- the oldest message at a place leaves its queue, and its buffers are given back

module _ {L : Type 0} (v : L → LaneSeen) (b : Book) (r : Records) (q : Requests) (t : endpoint_table.Table) (ps : List (Peer L)) (i : ℕ) (s : Slot) (sound : AreSound v b r q t ps)
    (first : Some s ≡ option_map (λ (w : Waiting). w.slot) (oldest (waiting_in (slice_get r.endpoints i)))) where
  abbrev left : Records
  left = with_oldest_taken_at r i

  it : (w : Waiting) × (waiting_in (slice_get r.endpoints i) ≡ w ∷ drop 1 (waiting_in (slice_get r.endpoints i))) × (w.slot ≡ s)
  it = first-of (waiting_in (slice_get r.endpoints i)) s first

  one-less : (test : Waiting → Bool) → count_by test (all_waiting left.endpoints) + one_if (test it.0) ≡ count_by test (all_waiting r.endpoints)
  one-less test = oldest-less test it.0 r.endpoints i it.1

  pub oldest-more : HasMore s (slots_of left q) (slots_of r q)
  oldest-more = subst (λ (x : Slot). HasMore x (slots_of left q) (slots_of r q)) it.2 (out-more r q b left.endpoints it.0 one-less)

  pub oldest-fewer : count_by (is_misplaced b) (all_waiting left.endpoints) ≤ count_by (is_misplaced b) (all_waiting r.endpoints)
  oldest-fewer = out-fewer r q b left.endpoints it.0 one-less

  stands : 0 < times_in s (slots_of r q)
  stands = omega (arith, times-here s (slots_of left q) (slots_of r q) oldest-more)

  pub oldest-queued : IsQueued b s
  oldest-queued = stands-queued v b r q t ps sound s stands

  pub oldest-out : AreOutAt v s.peer (frames_at b s) ps
  oldest-out = leaves-out v b r q t ps sound left q s refl (λ are. are) oldest-more oldest-fewer

  module _ (M : L → List LaneMove → L → Type 0) (ps' : List (Peer L)) (gives : GivesBack M v s.peer (frames_at b s) ps ps') where
    pub oldest-sound : AreSound v (without_frames b s None (frames_at b s)) left q t ps'
    oldest-sound = sound-given M v b r left q q t s ps ps' gives (oldest-same r i) refl (λ are. are) oldest-more oldest-fewer sound.receives sound

-- ---- and then it is gone, with the receives that wait there

abbrev pub who : Local → Waiters
who at = waiters.Receives at

abbrev pub how : Complete
how = complete.Ended EndpInvalid

pub gone-sound : {L : Type 0} (v : L → LaneSeen) (b : Book) (r : Records) (q : Requests) (t t' : endpoint_table.Table) (ps : List (Peer L)) (i : ℕ) (at : Local) → waiting_in (slice_get r.endpoints i) ≡ [] → AreSound v b r q t ps → AreTied (without_record_at r i) t' (numbers_of ps) → AreSound v b (without_record_at r i) (with_all_complete q (who at) how) t' ps
gone-sound {L} v b r q t t' ps i at none sound tied =
    let r' = without_record_at r i in
    let q' = with_all_complete q (who at) how in
    let waits = waiting-without i r.endpoints none in
    let handed = handed-all (who at) how q.standing tt in
    record {
      peers = sound.peers;
      places = all-weaken (InPlacesAt v b r q) (InPlacesAt v b r' q') (λ p places. same-held r r' q q' b p.number (out_at v p) refl refl waits handed places) ps sound.places;
      shelves = sound.shelves;
      room = sound.room;
      receives = receives-all q (who at) how tt sound.receives;
      tied = tied;
      given = sound.given;
    }
