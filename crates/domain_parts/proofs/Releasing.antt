-- A packet that is released: its frames leave the book, and their buffers are given back.
use Rattle.domain_parts.proofs.LendingMeaning.{some-of}
use Rattle.domain_parts.proofs.Books.{Changes, Others, same-slot, without-lends, without-shelves}
use Rattle.board_model.proofs.MessageLists.{some-position}
use Rattle.domain_parts.specs.DomainView.{has_packet_id, place_of_packet_id}
use Rattle.std.proofs.lemmas.Bool.{and_parts, and_from, eqb-true}
use Rattle.std.proofs.Common.{◌≡◌, ℕ, zero, suc, ◌+◌, ◌<◌, Bool, true, false, cond, List, [], ◌∷◌, map, Option, Some, None, refl, sym, ap, ◌∙◌, subst, arith, eq-eqb}
use Rattle.std.specs.Prelude.{count_by, is_some, not, option_and_then, option_map, slice_get, ◌==◌, find, ◌&&◌}
use Rattle.std.specs.List.{AllByRecursion}
use Rattle.std.proofs.lemmas.List.{append-nil}
use Rattle.std.proofs.lemmas.Option.{slice_get-map}
use Rattle.mc_base.specs.declared.refusal.Refusal.TheVariants.{BufInvalid}
use Rattle.mc_base.specs.declared.request.PacketId.{PacketId}
use Rattle.mc_base.specs.declared.request.Slot.{Slot}
use Rattle.board_model.specs.Answer.{refusal}
use Rattle.board_model.specs.CallChanges.{item_lent}
use Rattle.board_model.specs.Change.{changed, packet_gone}
use Rattle.board_model.specs.DomainCall.{release_of}
use Rattle.board_model.specs.Lists as lists
use Rattle.board_model.specs.State as state
use Rattle.board_model.specs.State.{DomainState, LentPacket, packet_at_place}
use Rattle.board_model.proofs.ListsCounts.{count-cons, position-tells}
use Rattle.board_model.proofs.MessageAlls.{all-without}
use Rattle.buffer_book.specs.Book.{Book, Item, frames_of, if_state, is_state, item_at, queued_at, slot_of}
use Rattle.request_set.specs.Requests.{Requests}
use Rattle.domain_parts.specs.AllMoved.{moves_at}
use Rattle.domain_parts.specs.CallSteps.{Means, call_steps, if_some}
use Rattle.domain_parts.specs.GivingBack.{AreOutAt, GivesBack}
use Rattle.domain_parts.specs.InBook.{frames_at, open_parts, packet_in}
use Rattle.domain_parts.specs.InPlaces.{IsLentAs, is_misplaced, is_same, lent_item, one_if, slots_of, times_in, times_waiting}
use Rattle.domain_parts.specs.InRequests.{handed_slots}
use Rattle.domain_parts.specs.Parts.{Parts, Sound, plain, state_of}
use Rattle.domain_parts.specs.Peers.{held_in, peers_in}
use Rattle.domain_parts.specs.Records.{Records, all_waiting, lent_slots, part_slots, without_lent_at}
use Rattle.domain_parts.specs.Table.{PartRead}
use Rattle.domain_parts.specs.Steps.{Step, all_moves, done, done_all, packet_released, without_frames}
use Rattle.domain_parts.proofs.Ending.{ids_in}
use Rattle.domain_parts.proofs.GivingLemmas.{All-at, all-stand, given-peers, gives-out, some-lane, sound-gave}
use Rattle.domain_parts.proofs.Handed.{packets-stay, requests-stay}
use Rattle.domain_parts.proofs.Leaving.{GivesUp, each-lent}
use Rattle.domain_parts.proofs.Meaning.{one-gave}
use Rattle.domain_parts.proofs.OpenParts.{open-stay, parts-stay}
use Rattle.domain_parts.proofs.Placed.{HasMore, IsLane, Stands, in-place, lane-of, lent-nowhere, more-behind, stands-of, state-same, times-there}
use Rattle.domain_parts.proofs.Placing.{lane-out, lane-same, out-changes, out-others, out-stands}
use Rattle.domain_parts.proofs.Receives.{map-without}
use Rattle.domain_parts.proofs.Slots.{misplaced-stay, times-all}
use Rattle.domain_parts.proofs.Stepping.{Any, gives-seen}
use Rattle.domain_parts.proofs.Waits.{endpoints-stay}

-- the slots without one at a place
less-lent : (ids : List PacketId) (i : ℕ) (id : PacketId) → slice_get ids i ≡ Some id → HasMore (slot_of id) (map slot_of (lists.without_at i ids)) (map slot_of ids)
less-lent [] i id there test = absurd cc
less-lent (x ∷ ids) zero id there test =
    let same : x ≡ id = cc in
    count-cons test (slot_of x) (map slot_of ids) ∙ ap (λ (y : PacketId). one_if (test (slot_of y)) + count_by test (map slot_of ids)) same ∙ omega arith
less-lent (x ∷ ids) (suc i) id there test =
    let rest = less-lent ids i id there test in
    let all = count-cons test (slot_of x) (map slot_of ids) in
    let left = count-cons test (slot_of x) (map slot_of (lists.without_at i ids)) in
    omega (arith, rest, all, left)

module _ (p : Parts) (sound : Sound p) (i : ℕ) (id : PacketId) (there : slice_get p.records.lent i ≡ Some id) where
  abbrev s : Slot
  s = slot_of id

  abbrev fs : List ℕ
  fs = frames_at p.book s

  abbrev r : Records
  r = p.records

  abbrev q : Requests
  q = p.requests

  abbrev r' : Records
  r' = without_lent_at p.records i

  abbrev b' : Book
  b' = without_frames p.book s (Some id.serial) fs

  less : HasMore s (lent_slots r') (lent_slots r)
  less = less-lent r.lent i id there

  all-lent : AllByRecursion (IsLentAs p.book) r.lent
  all-lent = (some-lane plain p.book r q p.table p.peers sound).1.lent

  pub released-lent : IsLentAs p.book id
  released-lent = All-at (IsLentAs p.book) r.lent i id all-lent there

  -- its item
  it : (x : Item) × (item_at p.book s ≡ Some x) × (is_state x.lent (Some id.serial) ≡ true)
  it = state-same (Some id.serial) (item_at p.book s) released-lent

  module _ (st : Stands (slots_of r q) (lent_slots r) p.book) where
    nowhere : (times_in s (slots_of r q) ≡ 0) × (times_in s (lent_slots r') ≡ 0)
    nowhere = lent-nowhere (slots_of r q) (lent_slots r) p.book st s (lent_slots r') less

    none-waiting : times_waiting s (all_waiting r.endpoints) ≡ 0
    none-waiting = let none = nowhere.0 in omega (arith, none, times-all s (part_slots r.parts) (all_waiting r.endpoints) (handed_slots q.standing))

    none-handed : times_in s (handed_slots q.standing) ≡ 0
    none-handed = let none = nowhere.0 in omega (arith, none, times-all s (part_slots r.parts) (all_waiting r.endpoints) (handed_slots q.standing))

    none-open : times_in s (part_slots r.parts) ≡ 0
    none-open = let none = nowhere.0 in omega (arith, none, times-all s (part_slots r.parts) (all_waiting r.endpoints) (handed_slots q.standing))

    others : Others p.book b' s
    others = out-others (slots_of r q) (lent_slots r) (slots_of r q) (lent_slots r') p.book st s (Some id.serial) it.0 it.1 it.2

    changes : Changes p.book b' s (frames_of it.0) None
    changes = out-changes (slots_of r q) (lent_slots r) (slots_of r q) (lent_slots r') p.book st s (Some id.serial) it.0 it.1 it.2

    now-stands : Stands (slots_of r q) (lent_slots r') b'
    now-stands =
        out-stands (slots_of r q) (lent_slots r) (slots_of r q) (lent_slots r') p.book st s (Some id.serial) it.0 it.1 it.2
        (more-behind s (slots_of r q) (lent_slots r') (lent_slots r) less) (λ t differ. refl) (λ t differ. sym (times-there s t (lent_slots r') (lent_slots r) less differ))

    still-placed : count_by (is_misplaced p.book) (all_waiting r.endpoints) ≡ 0 → count_by (is_misplaced b') (all_waiting r.endpoints) ≡ 0
    still-placed was = misplaced-stay p.book b' s others (all_waiting r.endpoints) none-waiting ∙ was

    still-lent : AllByRecursion (IsLentAs b') r'.lent
    still-lent = each-lent p.book b' s others r'.lent nowhere.1 (all-without (IsLentAs p.book) (Some i) r.lent all-lent)

  up : GivesUp r r' q q p.book b' s fs
  up = record {
    beside = λ number o own places.
        let st = stands-of (lent_slots r) number o (slots_of r q) p.book [] places.each in
        let lane = subst (λ (n : ℕ). IsLane n o p.book []) (sym own) (lane-of (lent_slots r) number o (slots_of r q) p.book [] places.each) in
        let out = lane-out (slots_of r q) (lent_slots r) (slots_of r q) (lent_slots r') p.book st s (Some id.serial) it.0 it.1 it.2 o [] lane in
        record {
          each = in-place (lent_slots r') number o (slots_of r q) b' fs (now-stands st) (subst (λ (n : ℕ). IsLane n o b' fs) own (subst (IsLane s.peer o b') (append-nil fs) out));
          priorities = still-placed st places.priorities;
          lent = still-lent st;
          parts = open-stay p.book b' s (others st) r.parts (none-open st) places.parts;
        };
    others = λ number o differ places.
        let st = stands-of (lent_slots r) number o (slots_of r q) p.book [] places.each in
        record {
          each = in-place (lent_slots r') number o (slots_of r q) b' [] (now-stands st) (lane-same number o p.book b' [] s (frames_of it.0) None (changes st) differ (lane-of (lent_slots r) number o (slots_of r q) p.book [] places.each));
          priorities = still-placed st places.priorities;
          lent = still-lent st;
          parts = open-stay p.book b' s (others st) r.parts (none-open st) places.parts;
        };
  }

  pub released-out : AreOutAt plain s.peer fs p.peers
  released-out = gives-out plain p.book r q p.table p.peers sound s (ap (λ (o : Option Item). is_some o) it.1) r' q b' fs up

  abbrev now : Parts
  now = done (packet_released i id fs) p

  back : GivesBack Any plain s.peer fs p.peers now.peers
  back = gives-seen s.peer fs p.peers sound.peers.rising released-out

  pub released-keeps : Sound now
  released-keeps = sound-gave Any plain p.book b' r r' q q p.table s fs p.peers now.peers back (record { number = refl; given = refl; room = refl; live = refl }) up (without-shelves p.book s (Some id.serial) fs) sound.receives sound

  released-state : state_of now ≡ changed (state_of p) (packet_gone (Some i))
  released-state =
      let st = all-stand plain p.book r q p.table p.peers sound in
      let u = state_of p in
      ap (λ (es : List state.Endpoint). record (state_of now) { endpoints = es }) (endpoints-stay p.book b' s (others st) r.endpoints (none-waiting st))
      ∙ ap (λ (rs : List state.Request). record (state_of now) { endpoints = u.endpoints; requests = rs }) (requests-stay p.book b' s (others st) q.standing (none-handed st))
      ∙ ap (λ (ls : List LentPacket). record (state_of now) { endpoints = u.endpoints; requests = u.requests; lent = ls }) (packets-stay p.book b' s (others st) r'.lent (nowhere st).1 ∙ map-without (packet_in p.book) (Some i) r.lent)
      ∙ ap (λ (n : ℕ). record (state_of now) { endpoints = u.endpoints; requests = u.requests; lent = lists.without (Some i) u.lent; packets_lent = n }) (without-lends p.book s (Some id.serial) fs)
      ∙ ap (λ (os : List PartRead). record u { lent = lists.without (Some i) u.lent; peers = peers_in plain os p.table now.peers; held = held_in os }) (parts-stay p.book b' s (others st) r.parts (none-open st))
      ∙ ap (λ (ps : List state.Peer). record u { lent = lists.without (Some i) u.lent; peers = ps }) (given-peers Any plain s.peer fs p.peers now.peers back (open_parts p.book r.parts) p.table)

  -- ---- the call

  pub release-steps : call_steps p 0 (release_of (Some i)) None ≡ packet_released i id fs ∷ []
  release-steps = ap (λ (o : Option PacketId). if_some o (λ x. packet_released i x (frames_at p.book (slot_of x)) ∷ [])) there

  pub released-packet : packet_at_place (state_of p) (Some i) ≡ Some (packet_in p.book id)
  released-packet = slice_get-map (packet_in p.book) r.lent i ∙ ap (option_map (packet_in p.book)) there

  pub release-means : Means p 0 (release_of (Some i)) None
  release-means =
      let steps = release-steps in
      record {
        state = ap (λ (cs : List Step). state_of (done_all cs p)) steps ∙ released-state;
        moves = λ n. ap (λ (cs : List Step). all_moves cs n) steps ∙ one-gave p.book s n ∙ ap (λ (is : List state.Item). moves_at [] is n) (sym (ap item_lent released-packet));
        ids = ap (λ (cs : List Step). ids_in (done_all cs p).requests) steps ∙ sym (append-nil (ids_in p.requests));
        fresh = tt;
        lent = None;
        packets = ap (λ (cs : List Step). (done_all cs p).records.lent) steps ∙ sym (append-nil (lists.without_at i r.lent));
        lends = refl;
      }

  pub release-done : refusal (state_of p) 0 (release_of (Some i)) ≡ None
  release-done = ap (λ (o : Option LentPacket). cond (not (is_some o)) (Some BufInvalid) None) released-packet

-- no packet has the id
pub release-refused : (u : DomainState) → refusal u 0 (release_of None) ≡ Some BufInvalid
release-refused u = refl

-- ---- what is lent with an id

abbrev id_of : ℕ → ℕ → ℕ → PacketId
id_of peer buffer serial = record { peer = peer; buffer = buffer; serial = serial }

same-id : (id i : PacketId) → has_packet_id id i ≡ true → i ≡ id
same-id id i is =
    let one = and_parts (i.peer == id.peer) (i.buffer == id.buffer && i.serial == id.serial) is in
    let two = and_parts (i.buffer == id.buffer) (i.serial == id.serial) one.1 in
    let peer = eqb-true i.peer id.peer one.0 in
    let buffer = eqb-true i.buffer id.buffer two.0 in
    let serial = eqb-true i.serial id.serial two.1 in
    ap (λ (n : ℕ). id_of n i.buffer i.serial) peer ∙ ap (λ (n : ℕ). id_of id.peer n i.serial) buffer ∙ ap (λ (n : ℕ). id_of id.peer id.buffer n) serial

pub found-id : (ids : List PacketId) (id : PacketId) (i : ℕ) → place_of_packet_id ids id ≡ Some i → slice_get ids i ≡ Some id
found-id ids id i is =
    let told = position-tells (has_packet_id id) ids i is in
    told.1 ∙ ap (λ (x : PacketId). Some x) (same-id id told.0 told.2)

-- what a slot names is lent under one serial
under-serial : (o : Option Item) (n : ℕ) → is_some (option_and_then (if_state (Some n)) o) ≡ true → (i : Item) × (o ≡ Some i) × (i.lent ≡ Some n)
under-serial o n is = let it = state-same (Some n) o is in (it.0, it.1, by it.0.lent it.2)
  where
    by : (l : Option ℕ) → is_state l (Some n) ≡ true → l ≡ Some n
    by None e = absurd cc
    by (Some m) e = ap (λ (x : ℕ). Some x) (eqb-true m n e)

among-ids : (b : Book) (id : PacketId) → IsLentAs b id → (ids : List PacketId) → AllByRecursion (IsLentAs b) ids → 0 < times_in (slot_of id) (map slot_of ids) → is_some (find (has_packet_id id) ids) ≡ true
among-ids b id lends [] all some = absurd (omega (arith, some))
among-ids b id lends (i ∷ ids) all some = go (is_same (slot_of i) (slot_of id)) refl (λ later. among-ids b id lends ids all.1 later)
  where
    sum : times_in (slot_of id) (map slot_of (i ∷ ids)) ≡ one_if (is_same (slot_of i) (slot_of id)) + times_in (slot_of id) (map slot_of ids)
    sum = count-cons (λ (t : Slot). is_same t (slot_of id)) (slot_of i) (map slot_of ids)

    is-it : is_same (slot_of i) (slot_of id) ≡ true → has_packet_id id i ≡ true
    is-it same =
        let slot = same-slot (slot_of i) (slot_of id) same in
        let one = under-serial (item_at b (slot_of i)) i.serial all.0 in
        let two = under-serial (item_at b (slot_of id)) id.serial lends in
        let item : one.0 ≡ two.0 = let e = sym one.1 ∙ ap (item_at b) slot ∙ two.1 in cc in
        let serial : i.serial ≡ id.serial = let e = sym one.2 ∙ ap (λ (x : Item). x.lent) item ∙ two.2 in cc in
        let parts = and_parts (i.peer == id.peer) (i.buffer == id.buffer) same in
        and_from (i.peer == id.peer) (i.buffer == id.buffer && i.serial == id.serial) parts.0 (and_from (i.buffer == id.buffer) (i.serial == id.serial) parts.1 (eq-eqb i.serial id.serial serial))

    go : (x : Bool) → is_same (slot_of i) (slot_of id) ≡ x → (0 < times_in (slot_of id) (map slot_of ids) → is_some (find (has_packet_id id) ids) ≡ true) → is_some (cond (has_packet_id id i) (Some i) (find (has_packet_id id) ids)) ≡ true
    go true same later = ap (λ (x : Bool). is_some (cond x (Some i) (find (has_packet_id id) ids))) (is-it same)
    go false differ later = by (has_packet_id id i)
      where
        by : (x : Bool) → is_some (cond x (Some i) (find (has_packet_id id) ids)) ≡ true
        by true = refl
        by false = later (let none : one_if (is_same (slot_of i) (slot_of id)) ≡ 0 = ap one_if differ in omega (arith, some, sum, none))

module _ (p : Parts) (sound : Sound p) (id : PacketId) where
  pub id-lent : (i : ℕ) → place_of_packet_id p.records.lent id ≡ Some i → IsLentAs p.book id
  id-lent i is = All-at (IsLentAs p.book) p.records.lent i id ((some-lane plain p.book p.records p.requests p.table p.peers sound).1.lent) (found-id p.records.lent id i is)

  -- the book and the list of ids tell the same
  pub place-lent : IsLentAs p.book id → (i : ℕ) × (place_of_packet_id p.records.lent id ≡ Some i) × (slice_get p.records.lent i ≡ Some id)
  place-lent lends =
      let st = all-stand plain p.book p.records p.requests p.table p.peers sound in
      let all = (some-lane plain p.book p.records p.requests p.table p.peers sound).1.lent in
      let two = under-serial (item_at p.book (slot_of id)) id.serial lends in
      let queued : one_if (is_some (queued_at p.book (slot_of id))) ≡ 0 = ap (λ (o : Option Item). one_if (is_some (option_and_then (if_state None) o))) two.1 ∙ ap (λ (l : Option ℕ). one_if (is_some (cond (is_state l None) (Some two.0) None))) two.2 in
      let item : one_if (is_some (item_at p.book (slot_of id))) ≡ 1 = ap (λ (o : Option Item). one_if (is_some o)) two.1 in
      let some : 0 < times_in (slot_of id) (map slot_of p.records.lent) = let once = st.lent_once (slot_of id) in omega (arith, once, queued, item) in
      let found = among-ids p.book id lends p.records.lent all some in
      let at = some-of (place_of_packet_id p.records.lent id) (some-position (has_packet_id id) p.records.lent ∙ found) in
      (at.0, at.1, found-id p.records.lent id at.0 at.1)

  pub none-placed : is_some (lent_item p.book id) ≡ false → place_of_packet_id p.records.lent id ≡ None
  none-placed none = go (place_of_packet_id p.records.lent id) refl
    where
      go : (o : Option ℕ) → place_of_packet_id p.records.lent id ≡ o → place_of_packet_id p.records.lent id ≡ None
      go None e = e
      go (Some i) e = let lends = id-lent i e in absurd (cc (lends, none))
