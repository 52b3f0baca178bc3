-- The book knows how many buffers the lane to each peer has.
use Rattle.std.proofs.Common.{◌≡◌, ℕ, ◌<◌, ◌∙◌, inl, inr, true, false, List, length, Option, None, Some, refl, sym, ap, subst, arith, lt-ltb, le-ltb}
use Rattle.std.proofs.lemmas.Bool.{cases_Bool, ltb-false, ltb-true}
use Rattle.std.proofs.lemmas.Option.{slice_get-get_or, slice_get_past}
use Rattle.std.specs.Prelude.{Contains, is_some, nat_lt, option_and_then, option_map, position, slice_get, unwrap_or, ◌==◌}
use Rattle.board_model.specs.State as state
use Rattle.board_model.specs.State.{size_to}
use Rattle.buffer_book.specs.Book.{Book, Kept, Shelf, place_at, shelf_of, size_in, size_of}
use Rattle.endpoint_table.specs.Table as endpoint_table
use Rattle.request_set.specs.Requests.{Requests}
use Rattle.domain_parts.specs.AllMoved.{numbers_of}
use Rattle.domain_parts.specs.LaneSeen.{LaneSeen}
use Rattle.domain_parts.specs.declared.peer.Peer.{Peer}
use Rattle.domain_parts.specs.Peers.{state_in}
use Rattle.domain_parts.specs.Records.{Records}
use Rattle.domain_parts.specs.Sound.{AreSound, out_at}
use Rattle.domain_parts.specs.InPlaces.{AreInPlaces, slot_at}
use Rattle.domain_parts.proofs.PeerPlaces.{All-at, contained-found, no-peer-in, number-place, peer-at, peer-in}

-- a list that has an element at each place below a number, and at no other, has that length
module _ (xs : List (Option Kept)) (m : ℕ) (has : (k : ℕ) → is_some (slice_get xs k) ≡ nat_lt k m) where
  not-more : m < length xs → ⊥
  not-more more = let clash : true ≡ false = ap (λ (o : Option (Option Kept)). is_some o) (sym (slice_get-get_or xs m None more)) ∙ has m ∙ le-ltb m m (omega arith) in absurd cc

  not-fewer : length xs < m → ⊥
  not-fewer fewer = let clash : false ≡ true = ap (λ (o : Option (Option Kept)). is_some o) (sym (slice_get_past xs (length xs) (omega arith))) ∙ has (length xs) ∙ lt-ltb (length xs) m fewer in absurd cc

  sized : length xs ≡ m
  sized = elim (cases_Bool (nat_lt m (length xs))) [
    | inl more ↦ absurd (not-more (ltb-true m (length xs) more))
    | inr most ↦ elim (cases_Bool (nat_lt (length xs) m)) [
      | inl fewer ↦ absurd (not-fewer (ltb-true (length xs) m fewer))
      | inr least ↦
          let a = ltb-false m (length xs) most in
          let b = ltb-false (length xs) m least in
          omega (arith, a, b)
    ]
  ]

shelf-sized : (o : Option Shelf) (m : ℕ) → ((k : ℕ) → is_some (option_and_then (λ s. slice_get s.places k) o) ≡ nat_lt k m) → size_in o ≡ m
shelf-sized None m has = let least = ltb-false 0 m (sym (has 0)) in omega (arith, least)
shelf-sized (Some s) m has = sized s.places m has

no-shelf : (o : Option Shelf) → (is_some o ≡ true → ⊥) → size_in o ≡ 0
no-shelf None none = refl
no-shelf (Some s) none = absurd (none refl)

module _ {L : Type 0} (v : L → LaneSeen) (b : Book) (r : Records) (q : Requests) (t : endpoint_table.Table) (ps : List (Peer L)) (sound : AreSound v b r q t ps) (n : ℕ) where
  by_place : (o : Option ℕ) → position (λ (p : Peer L). p.number == n) ps ≡ o → size_of b n ≡ size_to (state_in v b r q t ps) n
  by_place (Some i) at =
      let x = peer-at ps n i (sym at) in
      let placed = All-at (λ (p : Peer L). AreInPlaces p.number r q b (out_at v p)) ps i x.0 sound.places x.1 in
      let known = subst (λ (m : ℕ). (k : ℕ) → is_some (place_at b (slot_at m k)) ≡ nat_lt k (out_at v x.0).size) x.2 placed.each.known in
      shelf-sized (shelf_of b n) (out_at v x.0).size known ∙ sym (ap (λ (o : Option state.Peer). unwrap_or (option_map (λ (y : state.Peer). y.size) o) 0) (peer-in v b r q t ps n i x.0 (sym at) x.1))
  by_place None at =
      no-shelf (shelf_of b n) (λ is. let clash : false ≡ true = ap (λ (o : Option ℕ). is_some o) (sym at ∙ number-place ps n) ∙ contained-found (numbers_of ps) n (sound.shelves n is) in absurd cc)
      ∙ sym (ap (λ (o : Option state.Peer). unwrap_or (option_map (λ (y : state.Peer). y.size) o) 0) (no-peer-in v b r q t ps n (sym at)))

  pub book-size : size_of b n ≡ size_to (state_in v b r q t ps) n
  book-size = by_place (position (λ (p : Peer L). p.number == n) ps) refl
