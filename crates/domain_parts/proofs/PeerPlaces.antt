-- Where a peer stands among a domain's, and what the state says of it.
use Rattle.std.proofs.Common.{◌≡◌, ◌≢◌, ℕ, zero, suc, Bool, true, false, cond, List, [], ◌∷◌, map, Option, Some, None, refl, sym, ap, ◌∙◌, subst, arith, eq-eqb, ne_eqb, is_some}
use Rattle.std.specs.Prelude.{◌==◌, Contains, find, position, slice_get, slice_set, option_map, option_and_then, unwrap_or}
use Rattle.std.specs.List.{AllByRecursion}
use Rattle.std.proofs.lemmas.Bool.{eqb-true}
use Rattle.std.proofs.lemmas.Option.{slice_get-map, slice_get_within, get_or_from_slice_get}
use Rattle.mc_base.specs.declared.name.EndName.{EndName}
use Rattle.board_model.specs.Lists.{changed_at}
use Rattle.board_model.specs.State as state
use Rattle.board_model.specs.State.{DomainState, address_at, is_numbered, free_to, peer_of, place_of_peer}
use Rattle.board_model.specs.Answer.{address_of, known_address, local}
use Rattle.board_model.proofs.ListsCounts.{position-tells}
use Rattle.board_model.proofs.MessageLists.{some-position}
use Rattle.buffer_book.specs.Book.{Book}
use Rattle.endpoint_table.specs.Table as endpoint_table
use Rattle.request_set.specs.Requests.{Requests}
use Rattle.domain_parts.specs.LaneSeen.{LaneSeen}
use Rattle.domain_parts.specs.declared.peer.Peer.{Peer}
use Rattle.domain_parts.specs.AllMoved.{numbers_of}
use Rattle.domain_parts.specs.InBook.{open_parts}
use Rattle.domain_parts.specs.Table.{PartRead}
use Rattle.domain_parts.specs.Peers.{peer_in, peers_in, state_in}
use Rattle.domain_parts.specs.Records.{Records}
use Rattle.domain_parts.proofs.Tables.{position-map}

-- ---- what holds of all holds of each

pub All-at : {X : Type 0} (P : X → Type 0) (xs : List X) (i : ℕ) (x : X) → AllByRecursion P xs → slice_get xs i ≡ Some x → P x
All-at P [] i x all there = absurd cc
All-at P (y ∷ xs) zero x all there = let same : y ≡ x = cc in subst P same all.0
All-at P (y ∷ xs) (suc i) x all there = All-at P xs i x all.1 there

pub All-from : {X : Type 0} (P Q : X → Type 0) → ((x : X) → P x → Q x) → (xs : List X) → AllByRecursion P xs → AllByRecursion Q xs
All-from P Q from [] all = tt
All-from P Q from (x ∷ xs) all = (from x all.0, All-from P Q from xs all.1)

pub All-map : {X Y : Type 0} (P : Y → Type 0) (f : X → Y) (xs : List X) → AllByRecursion (λ x. P (f x)) xs → AllByRecursion P (map f xs)
All-map P f [] all = tt
All-map P f (x ∷ xs) all = (all.0, All-map P f xs all.1)

pub All-unmap : {X Y : Type 0} (P : Y → Type 0) (f : X → Y) (xs : List X) → AllByRecursion P (map f xs) → AllByRecursion (λ x. P (f x)) xs
All-unmap P f [] all = tt
All-unmap P f (x ∷ xs) all = (all.0, All-unmap P f xs all.1)

-- ---- one of a list changed

pub changed-map : {X Y : Type 0} (f : X → Y) (g : Y → Y) (xs : List X) (i : ℕ) (x x' : X) → slice_get xs i ≡ Some x → f x' ≡ g (f x) → map f (slice_set xs i x') ≡ changed_at g i (map f xs)
changed-map f g [] i x x' there is = absurd cc
changed-map {Y = Y} f g (y ∷ xs) zero x x' there is = let same : x ≡ y = cc in ap (λ (u : Y). u ∷ map f xs) (is ∙ ap (λ z. g (f z)) same)
changed-map {Y = Y} f g (y ∷ xs) (suc i) x x' there is = ap (λ (us : List Y). f y ∷ us) (changed-map f g xs i x x' there is)

pub set-same : {X Y : Type 0} (f : X → Y) (xs : List X) (i : ℕ) (x x' : X) → slice_get xs i ≡ Some x → f x' ≡ f x → map f (slice_set xs i x') ≡ map f xs
set-same f [] i x x' there is = absurd cc
set-same {Y = Y} f (y ∷ xs) zero x x' there is = let same : x ≡ y = cc in ap (λ (u : Y). u ∷ map f xs) (is ∙ ap f same)
set-same {Y = Y} f (y ∷ xs) (suc i) x x' there is = ap (λ (us : List Y). f y ∷ us) (set-same f xs i x x' there is)

-- ---- a number among numbers

is-found : (ns : List ℕ) (n : ℕ) → Contains ns n → is_some (find (λ m. m == n) ns) ≡ true
is-found [] n (k, lt, e) = absurd (omega arith)
is-found (m ∷ ns) n (zero, lt, e) = ap (λ (b : Bool). is_some (cond b (Some m) (find (λ k. k == n) ns))) (eq-eqb m n e)
is-found (m ∷ ns) n (suc k, lt, e) = go (m == n) (is-found ns n (k, omega arith, e))
  where
    go : (b : Bool) → is_some (find (λ j. j == n) ns) ≡ true → is_some (cond b (Some m) (find (λ j. j == n) ns)) ≡ true
    go true there = refl
    go false there = there

pub contained-found : (ns : List ℕ) (n : ℕ) → Contains ns n → is_some (position (λ m. m == n) ns) ≡ true
contained-found ns n has = some-position (λ m. m == n) ns ∙ is-found ns n has

pub found-contained : (ns : List ℕ) (n i : ℕ) → position (λ m. m == n) ns ≡ Some i → Contains ns n
found-contained ns n i at =
    let t = position-tells (λ (m : ℕ). m == n) ns i at in
    let same : t.0 ≡ n = eqb-true t.0 n t.2 in
    (i, slice_get_within ns i t.0 t.1, get_or_from_slice_get ns i t.0 n t.1 ∙ same)

-- ---- a peer among the peers

module _ {L : Type 0} where
  -- the place of a number is that of a peer with it
  pub peer-at : (ps : List (Peer L)) (n i : ℕ) → Some i ≡ position (λ (p : Peer L). p.number == n) ps → (p : Peer L) × (slice_get ps i ≡ Some p) × (p.number ≡ n)
  peer-at ps n i at = let t = position-tells (λ (p : Peer L). p.number == n) ps i (sym at) in (t.0, t.1, eqb-true t.0.number n t.2)

  pub number-place : (ps : List (Peer L)) (n : ℕ) → position (λ (p : Peer L). p.number == n) ps ≡ position (λ m. m == n) (numbers_of ps)
  number-place ps n = position-map (λ (p : Peer L). p.number) (λ m. m == n) ps

  pub numbers-in : (v : L → LaneSeen) (os : List PartRead) (t : endpoint_table.Table) (ps : List (Peer L)) → map (λ (p : state.Peer). p.number) (peers_in v os t ps) ≡ numbers_of ps
  numbers-in v os t [] = refl
  numbers-in v os t (p ∷ ps) = ap (λ (ns : List ℕ). p.number ∷ ns) (numbers-in v os t ps)

  module _ (v : L → LaneSeen) (b : Book) (r : Records) (q : Requests) (t : endpoint_table.Table) (ps : List (Peer L)) where
    abbrev os : List PartRead
    os = open_parts b r.parts

    abbrev s : DomainState
    s = state_in v b r q t ps

    pub place-in : (n : ℕ) → position (λ (p : Peer L). p.number == n) ps ≡ place_of_peer s n
    place-in n = position-map (peer_in v os t) (is_numbered n) ps

    pub peer-in : (n i : ℕ) (p : Peer L) → Some i ≡ position (λ (p : Peer L). p.number == n) ps → slice_get ps i ≡ Some p → peer_of s n ≡ Some (peer_in v os t p)
    peer-in n i p at there =
        ap (option_and_then (λ (k : ℕ). slice_get s.peers k)) (sym (place-in n) ∙ sym at)
        ∙ slice_get-map (peer_in v os t) ps i
        ∙ ap (option_map (peer_in v os t)) there

    pub no-peer-in : (n : ℕ) → None ≡ position (λ (p : Peer L). p.number == n) ps → peer_of s n ≡ None
    no-peer-in n at = ap (option_and_then (λ (k : ℕ). slice_get s.peers k)) (sym (place-in n) ∙ sym at)

    pub free-there : (n i : ℕ) (p : Peer L) → Some i ≡ position (λ (p : Peer L). p.number == n) ps → slice_get ps i ≡ Some p → free_to s n ≡ (v p.ends).free
    free-there n i p at there = ap (λ (o : Option state.Peer). unwrap_or (option_map (λ (x : state.Peer). x.free) o) 0) (peer-in n i p at there)

    -- the name of another domain's endpoint is looked up among those known of that peer
    pub other-address : (n : EndName) → n.domain ≢ t.domain → address_of s n ≡ known_address n (peer_of s n.domain)
    other-address n other = ap (λ (x : Bool). cond x (address_at s (local n.node n.port)) (known_address n (peer_of s n.domain))) (ne_eqb n.domain t.domain other)
