-- A request more, which holds no message.
use Rattle.std.proofs.Common.{◌≡◌, ◌≢◌, ℕ, zero, suc, ◌+◌, ◌<◌, List, [], ◌∷◌, ◌++◌, length, Option, sym, ap, ◌∙◌, subst, arith}
use Rattle.std.specs.Prelude.{Contains, option_map, ◌%◌, ◌^◌}
use Rattle.std.specs.List.{AllByRecursion}
use Rattle.std.proofs.lemmas.List.{append-nil, map_push}
use Rattle.mc_base.specs.declared.request.RequestId.{RequestId}
use Rattle.mc_base.specs.declared.request.Slot.{Slot}
use Rattle.board_model.specs.State as state
use Rattle.board_model.specs.State.{DomainState, Item, Outcome, has_address, name_of}
use Rattle.domain_parts.specs.PlacedCalls.{with_request}
use Rattle.buffer_book.specs.Book.{Book}
use Rattle.endpoint_table.specs.Table as endpoint_table
use Rattle.request_set.specs.declared.ask.Ask.{Ask}
use Rattle.request_set.specs.declared.ask.Complete.{Complete}
use Rattle.request_set.specs.Requests.{Requests, Standing, keys}
use Rattle.domain_parts.specs.LaneSeen.{LaneSeen}
use Rattle.domain_parts.specs.declared.peer.Peer.{Peer}
use Rattle.domain_parts.specs.InBook.{asked_in, outcome_in, request_in, requests_in}
use Rattle.domain_parts.specs.InPlaces.{AreInPlaces, EachInPlace, slots_of}
use Rattle.domain_parts.specs.InRequests.{IsReceive, handed_slots, slots_in}
use Rattle.domain_parts.specs.Out.{Out}
use Rattle.domain_parts.specs.Peers.{state_in}
use Rattle.domain_parts.specs.Records.{Records, all_waiting, lent_slots, part_slots}
use Rattle.domain_parts.specs.Sound.{AreSound, out_at}
use Rattle.domain_parts.specs.Steps.{with_last}
use Rattle.domain_parts.proofs.Beginning.{last-receives, new_standing}
use Rattle.domain_parts.proofs.PeerPlaces.{All-from}
use Rattle.domain_parts.proofs.Slots.{slots}

-- ---- a key that no request has

not-among : (ks : List ℕ) (key : ℕ) → AllByRecursion (λ k. k ≢ key) ks → Contains ks key → ⊥
not-among [] key fresh (i, lt, e) = omega arith
not-among (k ∷ ks) key fresh (zero, lt, e) = fresh.0 e
not-among (k ∷ ks) key fresh (suc i, lt, e) = not-among ks key fresh.1 (i, omega arith, e)

-- ---- nothing that waits or was handed changes

same-handed : (q : Requests) (id : RequestId) (a : Ask) (o : Option Complete) → slots_in o ≡ [] → handed_slots (with_last q id a o).standing ≡ handed_slots q.standing
same-handed q id a o none = go q.standing
  where
    go : (rs : List Standing) → handed_slots (rs ++ new_standing id a o ∷ []) ≡ handed_slots rs
    go [] = append-nil (slots_in o) ∙ none
    go (r ∷ rs) = ap (λ (ss : List Slot). slots_in r.complete ++ ss) (go rs)

same-slots : (r : Records) (q : Requests) (id : RequestId) (a : Ask) (o : Option Complete) → slots_in o ≡ [] → slots_of r (with_last q id a o) ≡ slots_of r q
same-slots r q id a o none = ap (λ (ss : List Slot). part_slots r.parts ++ (slots (all_waiting r.endpoints) ++ ss)) (same-handed q id a o none)

asked-places : (number : ℕ) (r : Records) (q : Requests) (b : Book) (out : Out) (id : RequestId) (a : Ask) (o : Option Complete) → slots_in o ≡ [] → AreInPlaces number r q b out → AreInPlaces number r (with_last q id a o) b out
asked-places number r q b out id a o none places =
    record {
      each = subst (λ (ss : List Slot). EachInPlace number out ss (lent_slots r) b []) (sym (same-slots r q id a o none)) places.each;
      priorities = places.priorities;
      lent = places.lent;
      parts = places.parts;
    }

module _ {L : Type 0} (v : L → LaneSeen) (b : Book) (r : Records) (q : Requests) (t : endpoint_table.Table) (ps : List (Peer L)) (id : RequestId) (a : Ask) (o : Option Complete) where
  abbrev q' : Requests
  q' = with_last q id a o

  abbrev s : DomainState
  s = state_in v b r q t ps

  pub asked-sound : slots_in o ≡ [] → IsReceive (new_standing id a o) → AllByRecursion (λ key. key ≢ id.key) (keys q) → length q.standing < 64 → AreSound v b r q t ps → AreSound v b r q' t ps
  asked-sound none is fresh few sound =
      record {
        peers = sound.peers;
        places = All-from (λ p. AreInPlaces p.number r q b (out_at v p)) (λ p. AreInPlaces p.number r q' b (out_at v p)) (λ p places. asked-places p.number r q b (out_at v p) id a o none places) ps sound.places;
        shelves = sound.shelves;
        room = sound.room;
        receives = last-receives q id a o sound.receives is fresh few;
        tied = sound.tied;
        given = sound.given;
      }

  pub asked-state : id.serial ≡ q.given → state_in v b r q' t ps ≡ with_request s (asked_in a) (option_map (outcome_in b) o)
  asked-state serial =
      let given = (q.given + 1) % 2 ^ 64 in
      ap (λ (rs : List state.Request). record s { requests = rs; requests_given = given }) (map_push (request_in b) q.standing (new_standing id a o))
      ∙ ap (λ (n : ℕ). record s { requests = requests_in b q.standing ++ record { serial = n; asked = asked_in a; outcome = option_map (outcome_in b) o } ∷ []; requests_given = given }) serial
