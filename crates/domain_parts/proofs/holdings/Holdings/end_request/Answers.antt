use Rattle.domain_parts.proofs.Lending.{packet_at_place_in}
use Rattle.domain_parts.specs.Records.{with_last_lent}
use Rattle.mc_base.specs.declared.name.Local.{Local}
use Rattle.mc_base.specs.declared.request.RequestId.{RequestId}
use Rattle.mc_base.specs.declared.request.PacketId.{PacketId}
use Rattle.domain_parts.proofs.LendingMeaning.{tested-room, packet-answer, packet-means, packet_ended-keeps}
use Rattle.request_set.specs.declared.ask.Complete.{Complete}
use Rattle.std.proofs.Common.{arith, rules, ◌≡◌, ◌≤◌, ◌∙◌, Bool, true, false, ◌∷◌, [], ℕ, List, length, take, ap, sym, refl, subst, Some, None, Option, ◌<◌}
use Rattle.std.specs.Prelude.{Err, min, nat_le}
use Rattle.std.proofs.lemmas.Bool.{leb-true, leb-false}
use Rattle.std.proofs.lemmas.List.{take_all}
use Rattle.std.specs.Vec.{with_items}
use Rattle.std.proofs.lemmas.List.{with_items_is}
use Rattle.mc_base.specs.declared.request.Slot.{Slot}
use Rattle.board_model.specs.Answer.{result_of}
use Rattle.board_model.specs.DomainCall.{test_of}
use Rattle.board_model.specs.Journal.{PlainAnswer, PlainResult, brought, completes}
use Rattle.board_model.specs.State.{request_at_place}
use Rattle.board_model.specs.Unnamed.{unnamed}
use Rattle.buffer_book.specs.Book.{Book, IsQueued}
use Rattle.request_set.specs.declared.ask.Complete.TheVariants as complete
use Rattle.request_set.specs.Requests.{Requests, progress_of, without_request}
use Rattle.domain_parts.specs.LaneSeen.{LaneSeen}
use Rattle.domain_parts.specs.declared.holdings.Holdings.TheInside.{Inside}
use Rattle.domain_parts.specs.Calls.{result_of_done, tested, brings_whole, LendsLast}
use Rattle.domain_parts.specs.CallSteps.{Acts, ending, how_held, Means}
use Rattle.domain_parts.specs.DomainView.{place_of_id, packet_lent_as, place_of_packet_id}
use Rattle.domain_parts.specs.GivingBack.{AreOutAt, GivesBack}
use Rattle.domain_parts.specs.InBook.{content_in, frames_at, whole_at}
use Rattle.domain_parts.specs.InRequests.{handed_slots, AreReceives}
use Rattle.domain_parts.specs.Parts.{Holding, Parts, Sound, holding_in, parts_in, peers_seen, plain, shown, state_of}
use Rattle.domain_parts.specs.Steps.{Did, done, message_ended, request_ended, Step, without_at, next_lent, packet_ended}
use Rattle.domain_parts.proofs.Unnaming.{lent-brings}
use Rattle.domain_parts.proofs.Ending.{held-message, ids_in, quiet-items, quiet-lends, quiet-result, quiet-same, quiet-slots, test-complete, test-done, test-refused, tested-fewer, tested-items, tested-lends, tested-result, packet-fewer, held-packet, by, left-receives, packet-request, request_for}
use Rattle.domain_parts.proofs.GivingLemmas.{given-length}
use Rattle.domain_parts.proofs.Meaning.{gone-there, held-there, quiet-means, tested-means}
use Rattle.domain_parts.proofs.Placed.{HasMore}
use Rattle.domain_parts.proofs.Receiving.{content-fits, held-out, held-queued, quiet-sound, tested-sound}
use Rattle.domain_parts.proofs.Stepping.{Any, acts-done, acts-refused, given-moved, given-seen, gives-seen, out-unseen, quiet-moved, quiet-peers}
use Rattle.domain_parts.proofs.holdings.Holdings.end_request.Given.{Over}
use Rattle.domain_parts.proofs.holdings.Holdings.end_request.Goals as goal

abbrev v : (g : Over) → (g.row.P.Denot → LaneSeen)
v g = g.P.PeerLane.seen

abbrev p : (g : Over) → Inside g.row.P.Denot → Parts
p g d = parts_in (v g) d.book d.endpoints d.requests d.table d.peers.items

-- ---- it is not complete

same : (g : Over) (c : goal.After-from_residual g) → c.test.new.self ≡ c.self.inside.requests
same g c = rw c.in_err-how.was at c.test.ensures.refused

answers : (g : Over) (c : goal.After-from_residual g) → c.from_residual.result ≡ Err c.in_err-how.field-0.0
answers g c = search rules

pub invariant_of-self : goal.invariant_of-self
invariant_of-self g c = subst (λ (q : Requests). Sound (record (p g c.self.inside) { requests = q })) (sym (same g c)) c.self.invariant

pub returns-in_err-how-clause-acts : goal.returns-in_err-how-clause-acts
returns-in_err-how-clause-acts g c =
    let d = c.self.inside in
    let M = g.P.PeerLane.Moved in
    let id = c.args.id in
    let out = c.args.out.now in
    let word = c.in_err-how.field-0.0 in
    let e = test-refused d.book d.requests (state_of (p g d)) refl id word (sym c.test.ensures.answer ∙ c.in_err-how.was) in
    let old = holding_in (v g) d.book d.endpoints d.requests d.table d.peers.items in
    let new = holding_in (v g) d.book d.endpoints c.test.new.self d.table d.peers.items in
    let acts = acts-refused M 0 (test_of (place_of_id (ids_in d.requests) id)) old new word e (ap (λ (q : Requests). holding_in (v g) d.book d.endpoints q d.table d.peers.items) (same g c)) in
    subst (λ r. Acts M 0 (test_of (place_of_id (shown c.args.self.now).ids id)) c.args.self.now new (tested r out (packet_lent_as (shown new))) None) (sym (answers g c))
    (subst (λ (x : Holding g.row.P.Denot). Acts M 0 (test_of (place_of_id (shown x).ids id)) x new (tested (Err word) out (packet_lent_as (shown new))) None) c.self.view_is acts)

-- ---- it ended without a message

complete-now : (g : Over) (c : goal.In_default-how g) → progress_of c.self.inside.requests c.args.id ≡ Some (Some c.in_ok-how.how)
complete-now g c = test-complete (progress_of c.self.inside.requests c.args.id) c.in_ok-how.how (sym c.test.ensures.answer ∙ c.in_ok-how.was)

pub told-requires : goal.told-requires
told-requires g c =
    let d = c.self.inside in
    quiet-slots d.book d.requests (state_of (p g d)) refl c.args.id c.self.invariant.receives c.in_ok-how.how (complete-now g c) c.in_default-how.not-Message c.in_default.not-Packet

ended : (g : Over) (c : goal.After-told g) → c.test.new.self ≡ without_request c.self.inside.requests c.args.id
ended g c = rw c.in_ok-how.was at c.test.ensures.ended

now-held : (g : Over) (c : goal.After-told g) → progress_of c.self.inside.requests c.args.id ≡ Some (Some c.in_ok-how.how)
now-held g c = test-complete (progress_of c.self.inside.requests c.args.id) c.in_ok-how.how (sym c.test.ensures.answer ∙ c.in_ok-how.was)

pub invariant_of-self-in_default-how : goal.invariant_of-self-in_default-how
invariant_of-self-in_default-how g c =
    let d = c.self.inside in
    subst (λ (q : Requests). Sound (record (p g d) { requests = q })) (sym (ended g c))
    (quiet-sound plain d.book d.endpoints d.requests d.table (p g d).peers c.args.id c.self.invariant (quiet-same d.book d.requests (state_of (p g d)) refl c.args.id c.self.invariant.receives c.in_ok-how.how (now-held g c) c.in_default-how.not-Message c.in_default.not-Packet))

-- it held no slot
quiet-ending : (b : Book) (place : Option ℕ) (how : Complete) → ((slot : Slot) (max : ℕ) → how ≡ complete.Message slot max → ⊥) → ((slot : Slot) → how ≡ complete.Packet slot → ⊥) → ending b place (Some how) ≡ request_ended place
quiet-ending b place (complete.Address address) other packet = refl
quiet-ending b place complete.Accepted other packet = refl
quiet-ending b place (complete.Rejected reason) other packet = refl
quiet-ending b place (complete.Message slot max) other packet = absurd (other slot max refl)
quiet-ending b place (complete.Packet slot) other packet = absurd (packet slot refl)
quiet-ending b place (complete.Ended word) other packet = refl

none-held : (g : Over) (c : goal.After-told g) → ending c.self.inside.book (place_of_id (ids_in c.self.inside.requests) c.args.id) (how_held c.self.inside.requests (place_of_id (ids_in c.self.inside.requests) c.args.id)) ≡ request_ended (place_of_id (ids_in c.self.inside.requests) c.args.id)
none-held g c =
    let d = c.self.inside in
    let place = place_of_id (ids_in d.requests) c.args.id in
    ap (ending d.book place) (held-there d.requests c.args.id (Some c.in_ok-how.how) (now-held g c))
    ∙ quiet-ending d.book place c.in_ok-how.how c.in_default-how.not-Message c.in_default.not-Packet

after-quiet : (g : Over) (c : goal.After-told g) → parts_in (v g) c.self.inside.book c.self.inside.endpoints c.test.new.self c.self.inside.table c.self.inside.peers.items ≡ done (request_ended (place_of_id (ids_in c.self.inside.requests) c.args.id)) (p g c.self.inside)
after-quiet g c =
    let q = ended g c ∙ gone-there c.self.inside.requests c.args.id c.self.invariant.receives in
    let ps = sym (quiet-peers (peers_seen (v g) c.self.inside.peers.items)) in
    cc

pub returns-in_default-how : goal.returns-in_default-how
returns-in_default-how g c =
    let d = c.self.inside in
    let M = g.P.PeerLane.Moved in
    let s = state_of (p g d) in
    let id = c.args.id in
    let out = c.args.out.now in
    let place = place_of_id (ids_in d.requests) id in
    let how = c.in_ok-how.how in
    let receives = c.self.invariant.receives in
    let other = c.in_default-how.not-Message in
    let packet = c.in_default.not-Packet in
    let new = holding_in (v g) d.book d.endpoints c.test.new.self d.table d.peers.items in
    let told : PlainAnswer = completes None (result_of_done c.told.result out (packet_lent_as (shown new))) in
    let answer : told ≡ completes None (result_of (request_at_place s place)) = ap (λ (r : PlainResult). completes None r) (quiet-result d.book d.requests s refl id receives how (now-held g c) other packet (result_of_done c.told.result out (packet_lent_as (shown new))) (λ asked. c.told.ensures.result d.book asked out (packet_lent_as (shown new)))) in
    let old = holding_in (v g) d.book d.endpoints d.requests d.table d.peers.items in
    let did : Did M (request_ended place ∷ []) old new = record { parts = after-quiet g c; moved = quiet-moved M g.met.P.PeerLane.none (v g) d.peers.items } in
    record {
      acts = subst (λ (x : Holding g.row.P.Denot). Acts M 0 (test_of (place_of_id (shown x).ids id)) x new told None) c.self.view_is
          (acts-done M 0 (test_of place) old new told None (test-done d.book d.requests s refl id how (now-held g c)) answer
          (record {
            did = subst (λ (x : Step). Did M (x ∷ []) old new) (sym (none-held g c)) did;
            means = quiet-means (p g d) place (none-held g c) (quiet-items d.book d.requests s refl id receives how (now-held g c) other packet) (quiet-lends d.book d.requests s refl id receives how (now-held g c) other packet);
          }));
      message = c.told.ensures.gives out;
      lent = subst (λ (x : Holding g.row.P.Denot). LendsLast x.parts.records.lent d.endpoints.lent c.told.result) c.self.view_is (c.told.ensures.lends d.endpoints.lent);
      refused = tt;
    }

-- ---- a message is given

-- more than all bytes are all
take-most : (xs : List ℕ) (room max : ℕ) → length xs ≤ room → take (min room max) xs ≡ take max xs
take-most xs room max fits = go (nat_le max room) refl
  where
    go : (b : Bool) → nat_le max room ≡ b → take (min room max) xs ≡ take max xs
    go true le = ap (λ (k : ℕ). take k xs) (let l = leb-true max room le in omega (arith, l))
    go false lt = let l = leb-false max room lt in take_all (min room max) xs (omega (arith, l, fits)) ∙ sym (take_all max xs (omega (arith, l, fits)))

pub give-got-requires-clause-queued : goal.give-got-requires-clause-queued
give-got-requires-clause-queued g c =
    let d = c.self.inside in
    let slot = c.in-Message.slot in
    let holds = held-message (progress_of d.requests c.args.id) c.in_ok-how.how slot c.in-Message.max (sym c.test.ensures.answer ∙ c.in_ok-how.was) c.in-Message.is in
    held-queued plain d.book d.endpoints d.requests d.table (p g d).peers c.args.id c.self.invariant slot (tested-fewer d.book d.requests (state_of (p g d)) refl c.args.id c.self.invariant.receives slot c.in-Message.max holds)

pub give_back-requires-clause-queued : goal.give_back-requires-clause-queued
give_back-requires-clause-queued g c =
    let d = c.self.inside in
    let slot = c.in-Message.slot in
    let holds = held-message (progress_of d.requests c.args.id) c.in_ok-how.how slot c.in-Message.max (sym c.test.ensures.answer ∙ c.in_ok-how.was) c.in-Message.is in
    held-queued plain d.book d.endpoints d.requests d.table (p g d).peers c.args.id c.self.invariant slot (tested-fewer d.book d.requests (state_of (p g d)) refl c.args.id c.self.invariant.receives slot c.in-Message.max holds)

pub give-got-requires-clause-short : goal.give-got-requires-clause-short
give-got-requires-clause-short g c =
    let d = c.self.inside in
    content-fits plain d.book d.endpoints d.requests d.table (p g d).peers c.self.invariant c.in-Message.slot

pub give_back-requires-clause-out : goal.give_back-requires-clause-out
give_back-requires-clause-out g c =
    let d = c.self.inside in
    let slot = c.in-Message.slot in
    let holds = held-message (progress_of d.requests c.args.id) c.in_ok-how.how slot c.in-Message.max (sym c.test.ensures.answer ∙ c.in_ok-how.was) c.in-Message.is in
    let out = held-out plain d.book d.endpoints d.requests d.table (p g d).peers c.args.id c.self.invariant slot (tested-fewer d.book d.requests (state_of (p g d)) refl c.args.id c.self.invariant.receives slot c.in-Message.max holds) in
    subst (λ ps. AreOutAt (v g) slot.peer (frames_at d.book slot) ps) (sym c.deref_mut.ensures.value) (out-unseen (v g) slot.peer (frames_at d.book slot) d.peers.items out)

held : (g : Over) (c : goal.After-self-1 g) → progress_of c.self.inside.requests c.args.id ≡ Some (Some (complete.Message c.in-Message.slot c.in-Message.max))
held g c = held-message (progress_of c.self.inside.requests c.args.id) c.in_ok-how.how c.in-Message.slot c.in-Message.max (sym c.test.ensures.answer ∙ c.in_ok-how.was) c.in-Message.is

gone : (g : Over) (c : goal.After-self-1 g) → c.test.new.self ≡ without_request c.self.inside.requests c.args.id
gone g c = rw c.in_ok-how.was at c.test.ensures.ended

fewer : (g : Over) (c : goal.After-self-1 g) → HasMore c.in-Message.slot (handed_slots (without_request c.self.inside.requests c.args.id).standing) (handed_slots c.self.inside.requests.standing)
fewer g c =
    let d = c.self.inside in
    tested-fewer d.book d.requests (state_of (p g d)) refl c.args.id c.self.invariant.receives c.in-Message.slot c.in-Message.max (held g c)

its-out : (g : Over) (c : goal.After-self-1 g) → AreOutAt plain c.in-Message.slot.peer (frames_at c.self.inside.book c.in-Message.slot) (p g c.self.inside).peers
its-out g c = let d = c.self.inside in held-out plain d.book d.endpoints d.requests d.table (p g d).peers c.args.id c.self.invariant c.in-Message.slot (fewer g c)

-- the peers are those to which it was given back
gave : (g : Over) (c : goal.After-self-1 g) → GivesBack g.P.PeerLane.Moved (v g) c.in-Message.slot.peer (frames_at c.self.inside.book c.in-Message.slot) c.self.inside.peers.items (with_items c.self.inside.peers c.give_back.new.peers).items
gave g c =
    let d = c.self.inside in
    let M = g.P.PeerLane.Moved in
    let gives = subst (λ ps. GivesBack M (v g) c.in-Message.slot.peer (frames_at d.book c.in-Message.slot) ps c.give_back.new.peers) c.deref_mut.ensures.value c.give_back.ensures.gives in
    subst (λ ps. GivesBack M (v g) c.in-Message.slot.peer (frames_at d.book c.in-Message.slot) d.peers.items ps) (sym (with_items_is d.peers c.give_back.new.peers (given-length M (v g) c.in-Message.slot.peer (frames_at d.book c.in-Message.slot) d.peers.items c.give_back.new.peers gives ∙ sym d.peers.ok.0))) gives

after : (g : Over) (c : goal.After-self-1 g) → parts_in (v g) c.give_back.new.book c.self.inside.endpoints c.test.new.self c.self.inside.table (with_items c.self.inside.peers c.give_back.new.peers).items ≡ done (message_ended (place_of_id (ids_in c.self.inside.requests) c.args.id) c.in-Message.slot (frames_at c.self.inside.book c.in-Message.slot)) (p g c.self.inside)
after g c =
    let d = c.self.inside in
    let b = c.give_back.ensures.book in
    let q = gone g c ∙ gone-there d.requests c.args.id c.self.invariant.receives in
    let ps = given-seen (v g) g.P.PeerLane.Moved g.met.P.PeerLane.none c.in-Message.slot.peer (frames_at d.book c.in-Message.slot) d.peers.items _ c.self.invariant.peers.rising (gave g c) in
    cc

pub invariant_of-self-2 : goal.invariant_of-self-2
invariant_of-self-2 g c =
    let d = c.self.inside in
    subst Sound (sym (after g c))
    (subst (λ (q : Requests). Sound (record (done (message_ended (place_of_id (ids_in d.requests) c.args.id) c.in-Message.slot (frames_at d.book c.in-Message.slot)) (p g d)) { requests = q })) (gone-there d.requests c.args.id c.self.invariant.receives)
    (tested-sound plain d.book d.endpoints d.requests d.table (p g d).peers c.args.id c.self.invariant c.in-Message.slot (fewer g c) Any _ (gives-seen c.in-Message.slot.peer (frames_at d.book c.in-Message.slot) (p g d).peers c.self.invariant.peers.rising (its-out g c))))

pub returns-clause-acts : goal.returns-clause-acts
returns-clause-acts g c =
    let d = c.self.inside in
    let b = d.book in
    let M = g.P.PeerLane.Moved in
    let s = state_of (p g d) in
    let id = c.args.id in
    let place = place_of_id (ids_in d.requests) id in
    let slot = c.in-Message.slot in
    let max = c.in-Message.max in
    let receives = c.self.invariant.receives in
    let told : PlainAnswer = completes None (brought c.give-got.result.size (take c.give-got.result.given c.give-got.new.out)) in
    let content = content_in (whole_at b slot) in
    let short = content-fits plain b d.endpoints d.requests d.table (p g d).peers c.self.invariant slot in
    let answer : told ≡ completes None (result_of (request_at_place s place))
    = ap (λ (k : ℕ). completes None (brought k (take c.give-got.result.given c.give-got.new.out))) c.give-got.ensures.size
    ∙ ap (λ (bs : List ℕ). completes None (brought (length content) bs)) (c.give-got.ensures.bytes ∙ ap (λ (k : ℕ). take k content) c.min-most.ensures ∙ take-most content (length c.args.out.now) max (omega (arith, short, c.requires)))
    ∙ ap (λ (r : PlainResult). completes None r) (sym (tested-result b d.requests s refl id receives slot max (held g c))) in
    let ends : ending b place (how_held d.requests place) ≡ message_ended place slot (frames_at b slot) = ap (ending b place) (held-there d.requests id (Some (complete.Message slot max)) (held g c)) in
    let more = subst (λ (q : Requests). HasMore slot (handed_slots q.standing) (handed_slots d.requests.standing)) (gone-there d.requests id receives) (fewer g c) in
    let old = holding_in (v g) d.book d.endpoints d.requests d.table d.peers.items in
    let new = holding_in (v g) c.give_back.new.book d.endpoints c.test.new.self d.table (with_items d.peers c.give_back.new.peers).items in
    let did : Did M (message_ended place slot (frames_at b slot) ∷ []) old new = record { parts = after g c; moved = given-moved (v g) M g.met.P.PeerLane.none slot.peer (frames_at d.book slot) d.peers.items _ c.self.invariant.peers.rising (gave g c) } in
    subst (λ (x : Holding g.row.P.Denot). Acts M 0 (test_of (place_of_id (shown x).ids id)) x new told None) c.self.view_is
    (acts-done M 0 (test_of place) old new told None (test-done b d.requests s refl id (complete.Message slot max) (held g c)) answer
    (record {
      did = subst (λ (x : Step). Did M (x ∷ []) old new) (sym ends) did;
      means = tested-means (p g d) place c.self.invariant slot ends (its-out g c) more (tested-items b d.requests s refl id receives slot max (held g c)) (tested-lends b d.requests s refl id receives slot max (held g c));
    }))

-- ---- a packet is lent

module _ (parts : Parts) (sound : Sound parts) (id : RequestId) (slot : Slot) (holds : progress_of parts.requests id ≡ Some (Some (complete.Packet slot))) where
  abbrev at_place : Option ℕ
  at_place = place_of_id (ids_in parts.requests) id

  its-fewer : HasMore slot (handed_slots (without_request parts.requests id).standing) (handed_slots parts.requests.standing)
  its-fewer = packet-fewer parts.book parts.requests (state_of parts) refl id sound.receives slot holds

  its-queued : IsQueued parts.book slot
  its-queued = held-queued plain parts.book parts.records parts.requests parts.table parts.peers id sound slot its-fewer

  fewer-there : HasMore slot (handed_slots (without_at parts.requests at_place).standing) (handed_slots parts.requests.standing)
  fewer-there = subst (λ (q : Requests). HasMore slot (handed_slots q.standing) (handed_slots parts.requests.standing)) (gone-there parts.requests id sound.receives) its-fewer

  its-room : length parts.records.lent < parts.records.room
  its-room = tested-room parts sound at_place slot its-queued fewer-there

  lent-keeps : Sound (done (packet_ended at_place (next_lent parts.book slot)) parts)
  lent-keeps = packet_ended-keeps parts sound at_place slot its-queued fewer-there (subst AreReceives (gone-there parts.requests id sound.receives) (left-receives parts.requests id sound.receives))

  lent-ends : ending parts.book at_place (how_held parts.requests at_place) ≡ packet_ended at_place (next_lent parts.book slot)
  lent-ends = ap (ending parts.book at_place) (held-there parts.requests id (Some (complete.Packet slot)) holds)

  abbrev its-at : Local
  its-at = (by parts.book parts.requests (state_of parts) refl id sound.receives slot holds).0

  its-request : request_at_place (state_of parts) at_place ≡ Some (request_for parts.book parts.requests (state_of parts) refl id sound.receives slot holds its-at)
  its-request = packet-request parts.book parts.requests (state_of parts) refl id sound.receives slot holds

  lent-means : Means parts 0 (test_of at_place) None
  lent-means = packet-means parts sound at_place slot its-queued fewer-there its-at _ its-request lent-ends

  lent-answer : brings_whole (packet_at_place_in (state_of (done (packet_ended at_place (next_lent parts.book slot)) parts)).lent (place_of_packet_id (done (packet_ended at_place (next_lent parts.book slot)) parts).records.lent (next_lent parts.book slot))) ≡ result_of (request_at_place (state_of parts) at_place)
  lent-answer = packet-answer parts sound at_place slot its-queued fewer-there its-at _ its-request lent-ends

pub lend-packet-requires : goal.lend-packet-requires
lend-packet-requires g c =
    let d = c.self.inside in
    its-queued (p g d) c.self.invariant c.args.id c.in-Packet.slot (held-packet (progress_of d.requests c.args.id) c.in_ok-how.how c.in-Packet.slot (sym c.test.ensures.answer ∙ c.in_ok-how.was) c.in-Packet.is)

pub keep_lent-requires : goal.keep_lent-requires
keep_lent-requires g c =
    let d = c.self.inside in
    its-room (p g d) c.self.invariant c.args.id c.in-Packet.slot (held-packet (progress_of d.requests c.args.id) c.in_ok-how.how c.in-Packet.slot (sym c.test.ensures.answer ∙ c.in_ok-how.was) c.in-Packet.is)

after-lent : (g : Over) (c : goal.After-keep_lent g) → parts_in (v g) c.lend-packet.new.self c.keep_lent.new.self c.test.new.self c.self.inside.table c.self.inside.peers.items ≡ done (packet_ended (place_of_id (ids_in c.self.inside.requests) c.args.id) (next_lent c.self.inside.book c.in-Packet.slot)) (p g c.self.inside)
after-lent g c =
    let d = c.self.inside in
    let b = c.lend-packet.ensures.book in
    let r = c.keep_lent.ensures ∙ ap (λ (i : PacketId). with_last_lent d.endpoints i) c.lend-packet.ensures.id in
    let ended : c.test.new.self ≡ without_request d.requests c.args.id = rw c.in_ok-how.was at c.test.ensures.ended in
    let q = ended ∙ gone-there d.requests c.args.id c.self.invariant.receives in
    let ps = sym (quiet-peers (peers_seen (v g) d.peers.items)) in
    cc

pub invariant_of-self-in-Packet : goal.invariant_of-self-in-Packet
invariant_of-self-in-Packet g c =
    let d = c.self.inside in
    let holds = held-packet (progress_of d.requests c.args.id) c.in_ok-how.how c.in-Packet.slot (sym c.test.ensures.answer ∙ c.in_ok-how.was) c.in-Packet.is in
    subst Sound (sym (after-lent g c)) (lent-keeps (p g d) c.self.invariant c.args.id c.in-Packet.slot holds)

pub returns-in-Packet-clause-acts : goal.returns-in-Packet-clause-acts
returns-in-Packet-clause-acts g c =
    let d = c.self.inside in
    let M = g.P.PeerLane.Moved in
    let id = c.args.id in
    let slot = c.in-Packet.slot in
    let holds = held-packet (progress_of d.requests id) c.in_ok-how.how slot (sym c.test.ensures.answer ∙ c.in_ok-how.was) c.in-Packet.is in
    let place = place_of_id (ids_in d.requests) id in
    let next = next_lent d.book slot in
    let old = holding_in (v g) d.book d.endpoints d.requests d.table d.peers.items in
    let new = holding_in (v g) c.lend-packet.new.self c.keep_lent.new.self c.test.new.self d.table d.peers.items in
    let did : Did M (packet_ended place next ∷ []) old new = record { parts = after-lent g c; moved = quiet-moved M g.met.P.PeerLane.none (v g) d.peers.items } in
    let told : PlainAnswer = completes None (brings_whole (packet_lent_as (shown new) c.lend-packet.result)) in
    let answer : told ≡ completes None (result_of (request_at_place (state_of (p g d)) place))
    = ap (λ (x : Parts). completes None (brings_whole (packet_at_place_in (unnamed (state_of x)).lent (place_of_packet_id x.records.lent c.lend-packet.result)))) (after-lent g c)
    ∙ ap (λ (i : PacketId). completes None (brings_whole (packet_at_place_in (unnamed (state_of (done (packet_ended place next) (p g d)))).lent (place_of_packet_id (done (packet_ended place next) (p g d)).records.lent i)))) c.lend-packet.ensures.id
    ∙ (let lent_to = done (packet_ended place next) (p g d) in ap (λ (r : PlainResult). completes None r) (lent-brings (state_of lent_to) (place_of_packet_id lent_to.records.lent next)))
    ∙ ap (λ (r : PlainResult). completes None r) (lent-answer (p g d) c.self.invariant id slot holds) in
    subst (λ (x : Holding g.row.P.Denot). Acts M 0 (test_of (place_of_id (shown x).ids id)) x new told None) c.self.view_is
    (acts-done M 0 (test_of place) old new told None (test-done d.book d.requests (state_of (p g d)) refl id (complete.Packet slot) holds) answer
    (record {
      did = subst (λ (x : Step). Did M (x ∷ []) old new) (sym (lent-ends (p g d) c.self.invariant id slot holds)) did;
      means = lent-means (p g d) c.self.invariant id slot holds;
    }))
