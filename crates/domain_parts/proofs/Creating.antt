-- An endpoint that is made: the words of the call, what it leaves, and what is kept.
use Rattle.std.proofs.Common.{◌≡◌, ℕ, ◌+◌, ◌<◌, Bool, true, false, cond, List, ◌++◌, length, Option, Some, None, refl, sym, ap, ◌∙◌, subst, arith}
use Rattle.std.specs.Prelude.{is_some, not, nat_le, nat_lt, Result, Ok, Err}
use Rattle.std.proofs.lemmas.List.{length-map}
use Rattle.mc_base.specs.FullName.{end_name}
use Rattle.mc_base.specs.declared.name.Local.{Local}
use Rattle.mc_base.specs.declared.refusal.Refusal.{Refusal}
use Rattle.mc_base.specs.declared.refusal.Refusal.TheVariants.{NodeInvalid, ExistsAlready, EndpLimit, AddressSpent}
use Rattle.mc_base.specs.declared.request.Slot.{Slot}
use Rattle.endpoint_table.specs.Table.{Table, create_answer, created, live_at}
use Rattle.endpoint_table.proofs.RecordLemmas.{all-weaken}
use Rattle.board_model.specs.DomainCall.{DomainCall, create_at}
use Rattle.board_model.specs.State.{DomainState, place_at}
use Rattle.board_model.specs.Answer.{refusal}
use Rattle.buffer_book.specs.Book.{Book}
use Rattle.message_queue.specs.Queue.{Waiting}
use Rattle.request_set.specs.declared.ask.Complete.{Complete}
use Rattle.request_set.specs.declared.ask.Complete.TheVariants as complete
use Rattle.request_set.specs.Requests.{Requests}
use Rattle.domain_parts.specs.LaneSeen.{LaneSeen}
use Rattle.domain_parts.specs.declared.peer.Peer.{Peer}
use Rattle.domain_parts.specs.declared.requests.Waiters.{Waiters}
use Rattle.domain_parts.specs.declared.requests.Waiters.TheVariants as waiters
use Rattle.domain_parts.specs.AllMoved.{numbers_of}
use Rattle.domain_parts.specs.InBook.{endpoint_in}
use Rattle.domain_parts.specs.InPlaces.{AreInPlaces, slots_of}
use Rattle.domain_parts.specs.InRequests.{handed_slots, with_all_complete}
use Rattle.domain_parts.specs.Peers.{state_in}
use Rattle.domain_parts.specs.Records.{Records, all_waiting, new_record, with_record, part_slots}
use Rattle.domain_parts.specs.Sound.{AreSound, out_at}
use Rattle.domain_parts.specs.Tied.{AreTied}
use Rattle.domain_parts.proofs.Completing.{handed-all, receives-all}
use Rattle.domain_parts.proofs.Queuing.{same-held}
use Rattle.domain_parts.proofs.Slots.{slots}
use Rattle.domain_parts.proofs.Tying.{length-records, live-some, tied-created}
use Rattle.domain_parts.proofs.Waits.{waiting-new}

-- ---- the words, by their conditions

abbrev word_of : Result ℕ Refusal → Option Refusal
word_of (Ok address) = None
word_of (Err word) = Some word

abbrev result_by : Bool → Bool → Bool → Bool → ℕ → Result ℕ Refusal
result_by b1 b2 b3 b4 address = cond b1 (Err NodeInvalid) (cond b2 (Err ExistsAlready) (cond b3 (Err EndpLimit) (cond b4 (Err AddressSpent) (Ok address))))

abbrev word_by : Bool → Bool → Bool → Bool → Option Refusal
word_by b1 b2 b3 b4 = cond b1 (Some NodeInvalid) (cond b2 (Some ExistsAlready) (cond b3 (Some EndpLimit) (cond b4 (Some AddressSpent) None)))

word-by : (b1 b2 b3 b4 : Bool) (address : ℕ) → word_by b1 b2 b3 b4 ≡ word_of (result_by b1 b2 b3 b4 address)
word-by true b2 b3 b4 address = refl
word-by false true b3 b4 address = refl
word-by false false true b4 address = refl
word-by false false false true address = refl
word-by false false false false address = refl

ok-parts : (b1 b2 b3 b4 : Bool) (address a : ℕ) → result_by b1 b2 b3 b4 address ≡ Ok a → (b3 ≡ false) × (b4 ≡ false) × (a ≡ address)
ok-parts true b2 b3 b4 address a e = absurd cc
ok-parts false true b3 b4 address a e = absurd cc
ok-parts false false true b4 address a e = absurd cc
ok-parts false false false true address a e = absurd cc
ok-parts false false false false address a e = (refl, refl, cc)

past-last : (node nodes : ℕ) → nat_le nodes node ≡ not (nat_lt node nodes)
past-last node nodes = by (nat_lt node nodes) refl
  where
    by : (b : Bool) → nat_lt node nodes ≡ b → nat_le nodes node ≡ not b
    by true is = grind (arith, is)
    by false is = grind (arith, is)

fewer-than : (limit n : ℕ) → nat_le limit n ≡ false → n < limit
fewer-than limit n is = grind (arith, is)

-- ---- where all three parts became others

moved-to : (P : Records → Requests → Table → Type 0) (r r' : Records) (q q' : Requests) (t t' : Table) → r' ≡ r → q' ≡ q → t' ≡ t → P r q t → P r' q' t'
moved-to P r r' q q' t t' er eq et p = subst (λ (x : Records). P x q' t') (sym er) (subst (λ (x : Requests). P r x t') (sym eq) (subst (λ (x : Table). P r q x) (sym et) p))

module _ {L : Type 0} (v : L → LaneSeen) (b : Book) (r : Records) (q : Requests) (t : Table) (ps : List (Peer L)) (at : Local) where
  abbrev s : DomainState
  s = state_in v b r q t ps

  abbrev call : DomainCall
  call = create_at at.port

  abbrev who : Waiters
  who = waiters.Lookups (end_name t.domain at)

  abbrev how : Complete
  how = complete.Address (1024 + t.given)

  abbrev made_requests : Requests
  made_requests = with_all_complete q who how

  word-is : AreTied r t (numbers_of ps) → refusal s at.node call ≡ word_of (create_answer t at)
  word-is tie =
      let exists = is_some (place_at s at) in
      let full = nat_le 64 (length s.endpoints + length s.ended) in
      ap (λ (x : Bool). word_by x exists full (nat_le 60000 t.given)) (past-last at.node t.nodes)
      ∙ ap (λ (x : Bool). word_by (not (nat_lt at.node t.nodes)) x full (nat_le 60000 t.given)) (sym (live-some r t (numbers_of ps) b at tie))
      ∙ ap (λ (n : ℕ). word_by (not (nat_lt at.node t.nodes)) (is_some (live_at t at)) (nat_le 64 n) (nat_le 60000 t.given)) (length-records r t (numbers_of ps) b tie)
      ∙ word-by (not (nat_lt at.node t.nodes)) (is_some (live_at t at)) (nat_le 64 (length t.records)) (nat_le 60000 t.given) (1024 + t.given)

  pub create-refused : AreTied r t (numbers_of ps) → (word : Refusal) → create_answer t at ≡ Err word → refusal s at.node call ≡ Some word
  create-refused tie word is = word-is tie ∙ ap word_of is

  module _ (a : ℕ) (is : create_answer t at ≡ Ok a) where
    parts : (nat_le 64 (length t.records) ≡ false) × (nat_le 60000 t.given ≡ false) × (a ≡ 1024 + t.given)
    parts = ok-parts (not (nat_lt at.node t.nodes)) (is_some (live_at t at)) (nat_le 64 (length t.records)) (nat_le 60000 t.given) (1024 + t.given) a is

    pub create-address : a ≡ 1024 + t.given
    create-address = parts.2

    pub create-few : AreTied r t (numbers_of ps) → length r.endpoints < 64
    create-few tie = omega (arith, fewer-than 64 (length t.records) parts.0, length-records r t (numbers_of ps) b tie, length-map r.endpoints (endpoint_in b))

    create-given : AreTied r t (numbers_of ps) → r.given < 60000
    create-given tie = omega (arith, fewer-than 60000 t.given parts.1, tie.given)

    -- lookups of its name are complete
    pub made-requests : (q' : Requests) (n : ℕ) → q' ≡ with_all_complete q (waiters.Lookups (end_name n at)) (complete.Address a) → n ≡ t.domain → q' ≡ made_requests
    made-requests q' n is number =
        is
        ∙ ap (λ (x : ℕ). with_all_complete q (waiters.Lookups (end_name x at)) (complete.Address a)) number
        ∙ ap (λ (x : ℕ). with_all_complete q who (complete.Address x)) create-address

    pub create-done : AreTied r t (numbers_of ps) → refusal s at.node call ≡ None
    create-done tie = word-is tie ∙ ap word_of is

    -- ---- what is kept

    waits-same : all_waiting (with_record r at).endpoints ≡ all_waiting r.endpoints
    waits-same = waiting-new r.endpoints (new_record r.room at (1024 + r.given)) refl

    handed-same : handed_slots made_requests.standing ≡ handed_slots q.standing
    handed-same = handed-all who how q.standing tt

    slots-same : slots_of (with_record r at) made_requests ≡ slots_of r q
    slots-same = ap (λ (ws : List Waiting). part_slots r.parts ++ (slots ws ++ handed_slots made_requests.standing)) waits-same ∙ ap (λ (hs : List Slot). part_slots r.parts ++ (slots (all_waiting r.endpoints) ++ hs)) handed-same

    pub made-sound : (r' : Records) (q' : Requests) (t' : Table) → r' ≡ with_record r at → q' ≡ made_requests → t' ≡ created t at → AreSound v b r q t ps → AreSound v b r' q' t' ps
    made-sound r' q' t' er eq et sound = moved-to (λ (x : Records) (y : Requests) (z : Table). AreSound v b x y z ps) (with_record r at) r' made_requests q' (created t at) t' er eq et (record {
      peers = sound.peers;
      places = all-weaken (λ (p : Peer L). AreInPlaces p.number r q b (out_at v p)) (λ (p : Peer L). AreInPlaces p.number (with_record r at) made_requests b (out_at v p)) (λ p places. same-held r (with_record r at) q made_requests b p.number (out_at v p) refl refl waits-same handed-same places) ps sound.places;
      shelves = sound.shelves;
      room = sound.room;
      receives = receives-all q who how tt sound.receives;
      tied = tied-created r t (numbers_of ps) at sound.tied;
      given = let lt = create-given sound.tied in omega (arith, lt);
    })
