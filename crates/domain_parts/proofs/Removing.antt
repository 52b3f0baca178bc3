-- An endpoint that is ended: the words of the call, what it leaves, and what is kept.
use Rattle.std.proofs.Common.{◌≡◌, ℕ, ◌≤◌, Bool, true, false, cond, List, [], ◌∷◌, map, Option, Some, zero, suc, refl, sym, ap, ◌∙◌, subst, arith}
use Rattle.std.specs.Prelude.{Contains, count_by, is_some, not, option_and_then, option_map, position, slice_get, unwrap_or, Ok, Err, ◌==◌}
use Rattle.std.specs.List.{AllByRecursion}
use Rattle.std.proofs.lemmas.Bool.{eqb-true}
use Rattle.std.proofs.lemmas.Option.{slice_get-map}
use Rattle.mc_base.specs.declared.name.Local.{Local}
use Rattle.mc_base.specs.declared.refusal.Refusal.TheVariants.{EndpInvalid}
use Rattle.endpoint_table.specs.Table as table
use Rattle.endpoint_table.specs.Table.{Table, delete_answer, deleted}
use Rattle.board_model.specs.DomainCall.{DomainCall, delete_at}
use Rattle.board_model.specs.State as state
use Rattle.board_model.specs.State.{DomainState, Item, address_at, endpoint_at, is_at, queue_at, queue_in}
use Rattle.board_model.proofs.ListsCounts.{count-append, count-cons}
use Rattle.buffer_book.specs.Book.{Book}
use Rattle.message_queue.specs.Queue.{Waiting}
use Rattle.request_set.specs.Requests.{Requests}
use Rattle.domain_parts.specs.LaneSeen.{LaneSeen}
use Rattle.domain_parts.specs.declared.endpoints.Endpoint.{Endpoint}
use Rattle.domain_parts.specs.declared.peer.Peer.{Peer}
use Rattle.domain_parts.specs.AllMoved.{numbers_of}
use Rattle.domain_parts.specs.InBook.{endpoint_in, endpoints_in, item_in, item_read, numbered_at, priority_in, whole_at}
use Rattle.domain_parts.specs.InPlaces.{is_misplaced, one_if}
use Rattle.domain_parts.specs.Peers.{state_in}
use Rattle.domain_parts.specs.Records.{Records, all_waiting, slots_at, waiting_in, without_record_at}
use Rattle.domain_parts.specs.Sound.{AreSound}
use Rattle.domain_parts.specs.Tied.{AreTied}
use Rattle.domain_parts.proofs.GivingLemmas.{InPlacesAt}
use Rattle.domain_parts.proofs.Placed.{no-one}
use Rattle.domain_parts.proofs.Slots.{slots}
use Rattle.domain_parts.proofs.Tying.{ended_table, is_named, live-there, named-there, place-is, tied-ended}
use Rattle.domain_parts.proofs.Waits.{queue-there}

-- ---- what waits, by its slots

is-true : (x : Bool) → not x ≡ false → x ≡ true
is-true true e = refl
is-true false e = absurd cc

-- a message has the priority of its frame
items-at : (b : Book) (ws : List Waiting) → count_by (is_misplaced b) ws ≡ 0 → map (numbered_at b) (slots ws) ≡ map (item_in b) ws
items-at b [] none = refl
items-at b (w ∷ ws) none =
    let sum = count-cons (is_misplaced b) w ws in
    let here : one_if (is_misplaced b w) ≡ 0 = omega (arith, sum, none) in
    let rest : count_by (is_misplaced b) ws ≡ 0 = omega (arith, sum, none) in
    let o = whole_at b w.slot in
    let same : w.priority ≡ priority_in o = eqb-true w.priority (priority_in o) (is-true (w.priority == priority_in o) (no-one (is_misplaced b w) here)) in
    ap (λ (n : ℕ). item_read o w.slot n ∷ map (numbered_at b) (slots ws)) (sym same)
    ∙ ap (λ (is : List Item). item_in b w ∷ is) (items-at b ws rest)

pub count-within : (test : Waiting → Bool) (es : List Endpoint) (i : ℕ) → count_by test (waiting_in (slice_get es i)) ≤ count_by test (all_waiting es)
count-within test [] i = omega arith
count-within test (e ∷ es) zero = omega (arith, count-append test e.queue.waiting (all_waiting es))
count-within test (e ∷ es) (suc i) = omega (arith, count-within test es i, count-append test e.queue.waiting (all_waiting es))

-- there is a peer, and its lane tells the priorities
none-misplaced : {L : Type 0} (v : L → LaneSeen) (b : Book) (r : Records) (q : Requests) (n : ℕ) (ps : List (Peer L)) → Contains (numbers_of ps) n → AllByRecursion (InPlacesAt v b r q) ps → count_by (is_misplaced b) (all_waiting r.endpoints) ≡ 0
none-misplaced v b r q n [] (k, lt, e) places = absurd (omega (arith, lt))
none-misplaced v b r q n (p ∷ ps) own places = places.0.priorities

-- ---- the endpoint at a place

module _ {L : Type 0} (v : L → LaneSeen) (b : Book) (r : Records) (q : Requests) (t : Table) (ps : List (Peer L)) (at : Local) (i : ℕ) (sound : AreSound v b r q t ps) (place : position (is_at at) (endpoints_in b r.endpoints) ≡ Some i) where
  abbrev s : DomainState
  s = state_in v b r q t ps

  abbrev call : DomainCall
  call = delete_at at.port

  abbrev waits : List Waiting
  waits = waiting_in (slice_get r.endpoints i)

  named-place : position (is_named at) r.endpoints ≡ Some i
  named-place = sym (place-is b r.endpoints at) ∙ place

  pub the : (e : Endpoint) × (slice_get r.endpoints i ≡ Some e) × (e.local ≡ at)
  the = named-there at r.endpoints i named-place

  live : table.live_at t at ≡ Some (record { local = the.0.local; address = the.0.address; live = true })
  live = live-there r t (numbers_of ps) at i the.0 sound.tied named-place the.1

  -- it is in the table
  pub delete-allowed : delete_answer t at ≡ Ok tt
  delete-allowed = ap (λ o. cond (is_some o) (Ok tt) (Err EndpInvalid)) live

  pub deleted-is : deleted t at ≡ ended_table t the.0
  deleted-is = ap (table.ended_in t) live

  pub delete-tied : (r' : Records) (t' : Table) → r' ≡ without_record_at r i → t' ≡ deleted t at → AreTied r' t' (numbers_of ps)
  delete-tied r' t' er et =
      subst (λ (x : Records). AreTied x t' (numbers_of ps)) (sym er) (subst (λ (x : Table). AreTied (without_record_at r i) x (numbers_of ps)) (sym (et ∙ deleted-is)) (tied-ended r t (numbers_of ps) i the.0 sound.tied the.1))

  there : endpoint_at s at ≡ Some (endpoint_in b the.0)
  there = ap (λ (o : Option ℕ). option_and_then (λ k. slice_get s.endpoints k) o) place ∙ slice_get-map (endpoint_in b) r.endpoints i ∙ ap (option_map (endpoint_in b)) the.1

  pub gone-address : unwrap_or (address_at s at) 0 ≡ the.0.address
  gone-address = ap (λ (o : Option state.Endpoint). unwrap_or (option_map (λ (e : state.Endpoint). e.address) o) 0) there

  queue : queue_at s at ≡ map (item_in b) waits
  queue = ap (λ (o : Option ℕ). queue_in (option_and_then (λ k. slice_get s.endpoints k) o)) place ∙ queue-there b r.endpoints i

  pub gone-items : map (numbered_at b) (slots_at r i) ≡ queue_at s at
  gone-items = items-at b waits (let none = none-misplaced v b r q r.number ps sound.peers.own sound.places in omega (arith, none, count-within (is_misplaced b) r.endpoints i)) ∙ sym queue
