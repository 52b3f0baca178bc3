-- A domain at its opening: its peers stand in rising number, and nothing is held, known or owed.
use Rattle.std.proofs.Common.{◌≡◌, ◌≤◌, ◌<◌, ◌+◌, ◌*◌, ℕ, Bool, true, false, cond, List, [], ◌∷◌, map, length, replicate, Option, Some, None, refl, sym, ap, ◌∙◌, subst, arith}
use Rattle.std.specs.Prelude.{Contains, find, is_some, nat_lt, option_and_then, option_map, position, slice_get, sum_by, ◌==◌}
use Rattle.std.specs.List.{AllByRecursion}
use Rattle.std.proofs.lemmas.Bool.{ltb-false, ltb-true, ne_eqb}
use Rattle.std.proofs.lemmas.List.{get_or-replicate, length-map, length-replicate}
use Rattle.std.proofs.lemmas.List.FromFn.{length-range_with_len}
use Rattle.std.proofs.lemmas.List.Sums.{sum_by-cons}
use Rattle.std.proofs.lemmas.Option.{slice_get-get_or, slice_get_past}
use Rattle.mc_base.specs.declared.request.Slot.{Slot}
use Rattle.board_model.specs.LinkedBoard.{Differ}
use Rattle.board_model.specs.Scenario.{Neighbour, neighbour}
use Rattle.board_model.specs.State as state
use Rattle.board_model.specs.State.{Announcement, new_peer, opening}
use Rattle.board_model.proofs.ListsApart.{all-map, all-unmap, differ-found}
use Rattle.board_model.proofs.MessageAlls.{all-weaken, all-with}
use Rattle.buffer_book.specs.Book.{AllDiffer, Book, Item, Kept, Shelf, empty_shelf, if_state, item_at, kept_at, name_at, opening_book, place_at, shelf_of}
use Rattle.buffer_book.proofs.ItemLemmas.{item-name}
use Rattle.buffer_book.proofs.NoneAside.{none-opening}
use Rattle.lane_end.specs.Numbers.{often}
use Rattle.domain_parts.specs.InBook.{content_in}
use Rattle.board_model.proofs.ListsCounts.{some_place}
use Rattle.board_model.proofs.MessageLists.{some-position}
use Rattle.domain_parts.proofs.Books.{frames-none, whole-none}
use Rattle.domain_parts.proofs.PeerPlaces.{found-contained}
use Rattle.endpoint_table.specs.Table as endpoint_table
use Rattle.endpoint_table.specs.Table.{Owing, nothing_owed, opening_table, owing_to}
use Rattle.lane_end.specs.Loop.{Loop, new_loop}
use Rattle.request_set.specs.Requests.{Requests, no_requests}
use Rattle.domain_parts.specs.LaneSeen.{LaneSeen}
use Rattle.domain_parts.specs.declared.link.Link.{Link}
use Rattle.domain_parts.specs.declared.ends.Ends.{Ends}
use Rattle.domain_parts.specs.declared.ends.Ends.TheVariants.{Own, Linked}
use Rattle.domain_parts.specs.declared.peer.Peer.{Peer}
use Rattle.domain_parts.specs.AllMoved.{ends_of, numbers_of}
use Rattle.domain_parts.specs.Ends.{ends_seen}
use Rattle.domain_parts.specs.InPlaces.{AreInPlaces, EachInPlace, IsNamed, one_if}
use Rattle.domain_parts.specs.Opened.{linked_peer, own_peer, peers_opened, placed, size_of, sizes_opened}
use Rattle.domain_parts.specs.Opening.{AreLinksOf, IsOpenLink, ends_opened, neighbour_of, neighbours_opened}
use Rattle.domain_parts.specs.Out.{out_of}
use Rattle.domain_parts.specs.Owed.{owed_by}
use Rattle.domain_parts.specs.Peers.{announcement_in, peer_in, state_in}
use Rattle.domain_parts.specs.Records.{Records, opening_records}
use Rattle.domain_parts.specs.Sound.{AreRising, ArePeers, AreSound, IsSized, buffers_count, out_at}
use Rattle.domain_parts.specs.Tied.{linked_among}
use Rattle.domain_parts.proofs.LinkPlaces.{all-placed, length-rising, map-map, map-placed, placed-contains, placed-linked, placed-rising, placed-same, rising-differ}

-- ---- the book of buffers

replicated : {X : Type 0} (size i : ℕ) (x : X) → slice_get (replicate size x) i ≡ cond (nat_lt i size) (Some x) None
replicated {X} size i x = go (nat_lt i size) refl
  where
    go : (b : Bool) → nat_lt i size ≡ b → slice_get (replicate size x) i ≡ cond b (Some x) None
    go true lt =
        let within = ltb-true i size lt in
        slice_get-get_or (replicate size x) i x (omega (arith, within, length-replicate size x)) ∙ ap (λ (y : X). Some y) (get_or-replicate size i x x within)
    go false ge = slice_get_past (replicate size x) i (omega (arith, ltb-false i size ge, length-replicate size x))

module _ (sizes : List (ℕ × ℕ)) where
  abbrev is_of : ℕ → ℕ × ℕ → Bool
  is_of peer x = x.0 == peer

  shelf-is : (xs : List (ℕ × ℕ)) (peer : ℕ) → find (λ (s : Shelf). s.peer == peer) (map empty_shelf xs) ≡ option_map empty_shelf (find (is_of peer) xs)
  shelf-is [] peer = refl
  shelf-is (x ∷ xs) peer =
      let rest = shelf-is xs peer in
      elim (is_of peer x) as (λ b. cond b (Some (empty_shelf x)) (find (λ (s : Shelf). s.peer == peer) (map empty_shelf xs)) ≡ option_map empty_shelf (cond b (Some x) (find (is_of peer) xs)))
      [ true ↦ refl | false ↦ rest ]

  abbrev place_on : ℕ → Option Shelf → Option (Option Kept)
  place_on n o = option_and_then (λ (s : Shelf). slice_get s.places n) o

  place-is : (s : Slot) → place_at (opening_book sizes) s ≡ place_on s.buffer (option_map empty_shelf (find (is_of s.peer) sizes))
  place-is s = ap (place_on s.buffer) (shelf-is sizes s.peer)

  none-kept : (b : Bool) → option_and_then (λ (p : Option Kept). p) (cond b (Some None) None) ≡ None
  none-kept true = refl
  none-kept false = refl

  -- every buffer is away
  pub kept-none : (s : Slot) → kept_at (opening_book sizes) s ≡ None
  kept-none s = ap (λ (o : Option (Option Kept)). option_and_then (λ p. p) o) (place-is s) ∙ go (find (is_of s.peer) sizes)
    where
      go : (o : Option (ℕ × ℕ)) → option_and_then (λ (p : Option Kept). p) (place_on s.buffer (option_map empty_shelf o)) ≡ None
      go None = refl
      go (Some x) = ap (λ (o : Option (Option Kept)). option_and_then (λ p. p) o) (replicated x.1 s.buffer None) ∙ none-kept (nat_lt s.buffer x.1)

  abbrev name_on : ℕ → Option Shelf → Option (Option Item)
  name_on n o = option_and_then (λ (s : Shelf). slice_get s.items n) o

  name-is : (s : Slot) → name_at (opening_book sizes) s ≡ name_on s.buffer (option_map empty_shelf (find (is_of s.peer) sizes))
  name-is s = ap (name_on s.buffer) (shelf-is sizes s.peer)

  -- no name stands for an item
  item-none : (s : Slot) → item_at (opening_book sizes) s ≡ None
  item-none s = item-name (opening_book sizes) s ∙ ap (λ (o : Option (Option Item)). option_and_then (λ i. i) o) (name-is s) ∙ go (find (is_of s.peer) sizes)
    where
      none : (b : Bool) → option_and_then (λ (i : Option Item). i) (cond b (Some None) None) ≡ None
      none true = refl
      none false = refl

      go : (o : Option (ℕ × ℕ)) → option_and_then (λ (i : Option Item). i) (name_on s.buffer (option_map empty_shelf o)) ≡ None
      go None = refl
      go (Some x) = ap (λ (o : Option (Option Item)). option_and_then (λ i. i) o) (replicated x.1 s.buffer None) ∙ none (nat_lt s.buffer x.1)

  -- there is a name for each buffer
  names-known : (s : Slot) → is_some (name_at (opening_book sizes) s) ≡ is_some (place_at (opening_book sizes) s)
  names-known s = ap (λ (o : Option (Option Item)). is_some o) (name-is s) ∙ go (find (is_of s.peer) sizes) ∙ sym (ap (λ (o : Option (Option Kept)). is_some o) (place-is s))
    where
      same : (b : Bool) → is_some {T = Option Item} (cond b (Some None) None) ≡ is_some {T = Option Kept} (cond b (Some None) None)
      same true = refl
      same false = refl

      go : (o : Option (ℕ × ℕ)) → is_some (name_on s.buffer (option_map empty_shelf o)) ≡ is_some (place_on s.buffer (option_map empty_shelf o))
      go None = refl
      go (Some x) = ap (λ (o : Option (Option Item)). is_some o) (replicated x.1 s.buffer None) ∙ same (nat_lt s.buffer x.1) ∙ sym (ap (λ (o : Option (Option Kept)). is_some o) (replicated x.1 s.buffer None))

  some-place : (b : Bool) → is_some {T = Option Kept} (cond b (Some None) None) ≡ b
  some-place true = refl
  some-place false = refl

  place-known : (number size n : ℕ) → find (is_of number) sizes ≡ Some (number, size) → is_some (place_at (opening_book sizes) (record { peer = number; buffer = n })) ≡ nat_lt n size
  place-known number size n found =
      ap (λ (o : Option (Option Kept)). is_some o) (place-is (record { peer = number; buffer = n }) ∙ ap (λ (o : Option (ℕ × ℕ)). place_on n (option_map empty_shelf o)) found ∙ replicated size n None)
      ∙ some-place (nat_lt n size)

  placed-opening : (domain room number size : ℕ) → find (is_of number) sizes ≡ Some (number, size) → AreInPlaces number (opening_records domain room) no_requests (opening_book sizes) (out_of size [])
  placed-opening domain room number size found =
      let each : EachInPlace number (out_of size []) [] [] (opening_book sizes) [] = record {
        stands_once = λ s. sym (ap (λ (o : Option Item). one_if (is_some (option_and_then (if_state None) o))) (item-none s));
        lent_once = λ s. ap (λ (o : Option Item). 0 + one_if (is_some (option_and_then (if_state None) o))) (item-none s) ∙ sym (ap (λ (o : Option Item). one_if (is_some o)) (item-none s));
        framed = λ f. sym (ap (λ (o : Option Kept). one_if (is_some o)) (kept-none f));
        differ = λ s f. let none = ap (often f) (frames-none (opening_book sizes) s (item-none s)) in let zero : often f [] ≡ 0 = refl in omega (arith, none, zero);
        named = λ s. subst (IsNamed s) (sym (item-none s)) tt;
        none_aside = none-opening sizes;
        names = names-known;
        known = λ n. place-known number size n found;
        short = λ s. let none = ap (λ w. length (content_in w)) (whole-none (opening_book sizes) s (item-none s)) in let zero : length (content_in None) ≡ 0 = refl in omega (arith, none, zero);
        once = λ n. let none = ap (λ (o : Option Kept). one_if (is_some o)) (kept-none (record { peer = number; buffer = n })) in omega (arith, none);
        apart = λ n. omega arith;
      } in
      record { each = each; priorities = refl; lent = tt; parts = record { each = tt; apart = λ n. omega arith } }

-- ---- nothing is owed

owed-none : (peers : List ℕ) (n : ℕ) → owed_by (find (λ (o : Owing). o.peer == n) (map nothing_owed peers)) ≡ []
owed-none [] n = refl
owed-none (p ∷ ps) n =
    let rest = owed-none ps n in
    elim (p == n) as (λ b. owed_by (cond b (Some (nothing_owed p)) (find (λ (o : Owing). o.peer == n) (map nothing_owed ps))) ≡ []) [ true ↦ refl | false ↦ rest ]

owing-none : (peers : List ℕ) → map (λ (o : Owing). o.peer) (map nothing_owed peers) ≡ peers
owing-none [] = refl
owing-none (p ∷ ps) = ap (λ (ns : List ℕ). p ∷ ns) (owing-none ps)

-- ---- the sizes

module _ {S R : Type 0} where
  abbrev number_of : Link S R → ℕ
  number_of l = l.peer

  module _ (number pool : ℕ) (ls : List (Link S R)) (links : AreLinksOf number ls) where
    sizes-differ : Differ (map (λ (x : ℕ × ℕ). x.0) (sizes_opened number pool ls))
    sizes-differ =
        subst (λ (ns : List ℕ). Differ (number ∷ ns)) (sym (map-map (λ (x : ℕ × ℕ). x.0) size_of ls)) (all-map (λ m. m ≡ number → ⊥) number_of ls links.others, rising-differ (map number_of ls) links.rising)

    sizes-found : AllByRecursion (λ (x : ℕ × ℕ). find (is_of (sizes_opened number pool ls) x.0) (sizes_opened number pool ls) ≡ Some x) (sizes_opened number pool ls)
    sizes-found = differ-found (λ (x : ℕ × ℕ). x.0) (sizes_opened number pool ls) sizes-differ

    pub sizes-apart : AllDiffer (map (λ (x : ℕ × ℕ). x.0) (sizes_opened number pool ls))
    sizes-apart = go (map (λ (x : ℕ × ℕ). x.0) (sizes_opened number pool ls)) sizes-differ
      where
        go : (ns : List ℕ) → Differ ns → AllDiffer ns
        go [] differ = tt
        go (n ∷ ns) differ = (all-weaken (λ m. m ≡ n → ⊥) (λ m. (m == n) ≡ false) (λ m other. ne_eqb m n other) ns differ.0, go ns differ.1)

  sizes-sum : (xs : List (Link S R)) → AllByRecursion (λ (l : Link S R). l.size ≤ 256) xs → sum_by (λ (x : ℕ × ℕ). x.1) (map size_of xs) ≤ 256 * length xs
  sizes-sum [] fit = omega arith
  sizes-sum (l ∷ xs) fit = omega (arith, fit.0, sizes-sum xs fit.1, sum_by-cons (λ (x : ℕ × ℕ). x.1) (size_of l) (map size_of xs))

module _ {S R : Type 0} (size_to : S → ℕ) (free : S → List ℕ) (size_from : R → ℕ) (shown : R → ℕ) (out : R → List ℕ) where
  abbrev IsOpen : Link S R → Type 0
  IsOpen l = IsOpenLink size_to free size_from shown out l

  abbrev view : Ends S R → LaneSeen
  view = ends_seen size_to free size_from shown out

  module _ (number nodes pool : ℕ) (ls : List (Link S R)) (fits : number ≤ 7) (most : pool ≤ 256) (links : AreLinksOf number ls) (each : AllByRecursion IsOpen ls) where
    abbrev sizes : List (ℕ × ℕ)
    sizes = sizes_opened number pool ls

    abbrev room : ℕ
    room = sum_by (λ (x : ℕ × ℕ). x.1) sizes

    abbrev linked : List ℕ
    linked = map number_of ls

    abbrev own : Peer (Ends S R)
    own = own_peer number (new_loop pool)

    abbrev peers : List (Peer (Ends S R))
    peers = peers_opened number (new_loop pool) ls

    abbrev records : Records
    records = opening_records number room

    abbrev table : endpoint_table.Table
    table = opening_table number nodes linked

    pub room-fits : room < 4294967296
    room-fits =
        let few = length-rising linked (all-map (λ n. n ≤ 7) number_of ls links.few) links.rising in
        let sum = sizes-sum ls (all-weaken IsOpen (λ (l : Link S R). l.size ≤ 256) (λ l o. o.fits) ls each) in
        omega (arith, few, length-map ls number_of, sum, sum_by-cons (λ (x : ℕ × ℕ). x.1) (number, pool) (map size_of ls), most)

    -- ---- the peers

    numbers-are : numbers_of peers ≡ placed number number_of number ls
    numbers-are = map-placed number (λ (p : Peer (Ends S R)). p.number) linked_peer own ls

    are-peers : ArePeers view number peers
    are-peers = record {
      rising = subst AreRising (sym numbers-are) (placed-rising number ls links.rising links.others);
      few = subst (λ (ns : List ℕ). AllByRecursion (λ n. n ≤ 7) ns) (sym numbers-are) (all-placed number (λ n. n ≤ 7) number_of number ls fits links.few);
      own = subst (λ (ns : List ℕ). Contains ns number) (sym numbers-are) (placed-contains number ls);
      sizes =
          all-placed number (IsSized view) linked_peer own ls (record { same = refl; fits = most })
          (all-weaken IsOpen (λ (l : Link S R). IsSized view (linked_peer l)) (λ l o. record { same = o.size_to_is ∙ sym o.size_from_is; fits = omega (arith, o.size_from_is, o.fits) }) ls each);
    }

    abbrev IsInPlaces : Peer (Ends S R) → Type 0
    IsInPlaces p = AreInPlaces p.number records no_requests (opening_book sizes) (out_at view p)

    link-placed : (l : Link S R) → IsOpen l → find (is_of sizes l.peer) sizes ≡ Some (size_of l) → IsInPlaces (linked_peer l)
    link-placed l o found =
        subst (λ (n : ℕ). AreInPlaces l.peer records no_requests (opening_book sizes) (out_of n (out l.recv))) (sym o.size_from_is)
        (subst (λ (ns : List ℕ). AreInPlaces l.peer records no_requests (opening_book sizes) (out_of l.size ns)) (sym o.none_out) (placed-opening sizes number room l.peer l.size found))

    in-places : AllByRecursion IsInPlaces peers
    in-places =
        let found = sizes-found number pool ls links in
        all-placed number IsInPlaces linked_peer own ls (placed-opening sizes number room number pool found.0)
        (all-with IsOpen (λ (l : Link S R). find (is_of sizes l.peer) sizes ≡ Some (size_of l)) (λ (l : Link S R). IsInPlaces (linked_peer l)) link-placed ls each (all-unmap (λ (x : ℕ × ℕ). find (is_of sizes x.0) sizes ≡ Some x) size_of ls found.1))

    -- the book knows no others
    same-some : (n : ℕ) (xs : List (Link S R)) → is_some (find (λ (x : ℕ × ℕ). x.0 == n) (map size_of xs)) ≡ is_some (find (λ m. m == n) (map number_of xs))
    same-some n [] = refl
    same-some n (l ∷ xs) = go (l.peer == n) (same-some n xs)
      where
        go : (b : Bool) → is_some (find (λ (x : ℕ × ℕ). x.0 == n) (map size_of xs)) ≡ is_some (find (λ m. m == n) (map number_of xs)) → is_some (cond b (Some (size_of l)) (find (λ (x : ℕ × ℕ). x.0 == n) (map size_of xs))) ≡ is_some (cond b (Some (number_of l)) (find (λ m. m == n) (map number_of xs)))
        go true rest = refl
        go false rest = rest

    abbrev own_size : Option (ℕ × ℕ)
    own_size = Some (number, pool)

    known-placed : (n : ℕ) (xs : List (Link S R)) → is_some (cond (number == n) own_size (find (λ (x : ℕ × ℕ). x.0 == n) (map size_of xs))) ≡ true → is_some (find (λ m. m == n) (placed number number_of number xs)) ≡ true
    known-placed n [] is = go (number == n) is
      where
        go : (b : Bool) → is_some (cond b own_size None) ≡ true → is_some (cond b (Some number) None) ≡ true
        go true e = refl
        go false e = absurd cc
    known-placed n (l ∷ xs) is = by (nat_lt number l.peer) (number == n) refl (l.peer == n) refl (same-some n xs) (λ left. known-placed n xs left)
      where
        by : (b c : Bool) → (number == n) ≡ c → (d : Bool) → (l.peer == n) ≡ d → is_some (find (λ (x : ℕ × ℕ). x.0 == n) (map size_of xs)) ≡ is_some (find (λ m. m == n) (map number_of xs))
            → (is_some (cond (number == n) own_size (find (λ (x : ℕ × ℕ). x.0 == n) (map size_of xs))) ≡ true → is_some (find (λ m. m == n) (placed number number_of number xs)) ≡ true)
            → is_some (find (λ m. m == n) (cond b (number ∷ map number_of (l ∷ xs)) (number_of l ∷ placed number number_of number xs))) ≡ true
        by true true one d two same later = ap (λ (x : Bool). is_some (cond x (Some number) (find (λ m. m == n) (map number_of (l ∷ xs))))) one
        by true false one true two same later = ap (λ (x : Bool). is_some (cond x (Some number) (find (λ m. m == n) (map number_of (l ∷ xs))))) one ∙ ap (λ (x : Bool). is_some (cond x (Some l.peer) (find (λ m. m == n) (map number_of xs)))) two
        by true false one false two same later =
            ap (λ (x : Bool). is_some (cond x (Some number) (find (λ m. m == n) (map number_of (l ∷ xs))))) one ∙ ap (λ (x : Bool). is_some (cond x (Some l.peer) (find (λ m. m == n) (map number_of xs)))) two
            ∙ sym same ∙ sym (ap (λ (x : Bool). is_some (cond x own_size (cond (l.peer == n) (Some (size_of l)) (find (λ (x : ℕ × ℕ). x.0 == n) (map size_of xs))))) one ∙ ap (λ (x : Bool). is_some (cond x (Some (size_of l)) (find (λ (x : ℕ × ℕ). x.0 == n) (map size_of xs)))) two) ∙ is
        by false c one true two same later = ap (λ (x : Bool). is_some (cond x (Some l.peer) (find (λ m. m == n) (placed number number_of number xs)))) two
        by false c one false two same later =
            ap (λ (x : Bool). is_some (cond x (Some l.peer) (find (λ m. m == n) (placed number number_of number xs)))) two
            ∙ later (sym (ap (λ (x : Bool). is_some (cond (number == n) own_size (cond x (Some (size_of l)) (find (λ (x : ℕ × ℕ). x.0 == n) (map size_of xs))))) two) ∙ is)

    shelves-known : (n : ℕ) → is_some (shelf_of (opening_book sizes) n) ≡ true → Contains (numbers_of peers) n
    shelves-known n is =
        let known = known-placed n ls (some-mapped (find (λ (x : ℕ × ℕ). x.0 == n) sizes) (sym (ap (λ (o : Option Shelf). is_some o) (shelf-is sizes sizes n)) ∙ is)) in
        let at = some_place (position (λ m. m == n) (placed number number_of number ls)) (some-position (λ m. m == n) (placed number number_of number ls) ∙ known) in
        subst (λ (ns : List ℕ). Contains ns n) (sym numbers-are) (found-contained (placed number number_of number ls) n at.0 at.1)
      where
        some-mapped : (o : Option (ℕ × ℕ)) → is_some (option_map empty_shelf o) ≡ true → is_some o ≡ true
        some-mapped None e = absurd cc
        some-mapped (Some x) e = refl

    -- ---- the counts

    buffers-placed : (xs : List (Link S R)) → buffers_count view (placed number linked_peer own xs) ≡ pool + buffers_count view (map linked_peer xs)
    buffers-placed [] = refl
    buffers-placed (l ∷ xs) =
        let rest = buffers-placed xs in
        elim (nat_lt number l.peer) as (λ b. buffers_count view (cond b (own ∷ map linked_peer (l ∷ xs)) (linked_peer l ∷ placed number linked_peer own xs)) ≡ pool + buffers_count view (map linked_peer (l ∷ xs)))
        [ true ↦ omega arith | false ↦ omega (arith, rest) ]

    buffers-are : (xs : List (Link S R)) → AllByRecursion IsOpen xs → buffers_count view (map linked_peer xs) ≡ sum_by (λ (x : ℕ × ℕ). x.1) (map size_of xs)
    buffers-are [] opened = refl
    buffers-are (l ∷ xs) opened = omega (arith, opened.0.size_from_is, buffers-are xs opened.1, sum_by-cons (λ (x : ℕ × ℕ). x.1) (size_of l) (map size_of xs))

    sound-opening : AreSound view (opening_book sizes) records no_requests table peers
    sound-opening = record {
      peers = are-peers;
      places = in-places;
      shelves = shelves-known;
      room = omega (arith, buffers-placed ls, buffers-are ls each, sum_by-cons (λ (x : ℕ × ℕ). x.1) (number, pool) (map size_of ls));
      receives = record { each = tt; differ = tt; few = omega arith };
      tied = record {
        domain = refl;
        given = refl;
        live = refl;
        rising = tt;
        below = tt;
        used = tt;
        linked = owing-none linked ∙ sym (ap (linked_among number) numbers-are ∙ placed-linked number ls links.others);
      };
      given = omega arith;
    }

    -- ---- the state

    abbrev peer_with : ℕ → ℕ → ℕ → ℕ → List Announcement → state.Peer
    peer_with n size many seen owed = record { number = n; size = size; free = many; shown = seen; announcements = owed; replies = []; known = []; part = None }

    peer-as : (n size many seen size' many' seen' : ℕ) (owed : List Announcement) → size ≡ size' → many ≡ many' → seen ≡ seen' → owed ≡ [] → peer_with n size many seen owed ≡ peer_with n size' many' seen' []
    peer-as n size many seen size' many' seen' owed a b c d = rw (a, b, c, d) refl

    none-owed : (n : ℕ) → map announcement_in (owed_by (owing_to table n)) ≡ []
    none-owed n = ap (map announcement_in) (owed-none linked n)

    peer-new : (l : Link S R) → IsOpen l → peer_in view [] table (linked_peer l) ≡ new_peer (neighbour_of l)
    peer-new l o = peer-as l.peer _ _ _ _ _ _ _ o.size_from_is o.all_free o.none_shown (none-owed l.peer)

    own-new : peer_in view [] table own ≡ new_peer (neighbour number pool)
    own-new = peer-as number _ _ _ _ _ _ _ refl (length-range_with_len 0 pool) refl (none-owed number)

    neighbours-placed : (xs : List (Link S R)) → neighbours_opened number pool xs ≡ placed number neighbour_of (neighbour number pool) xs
    neighbours-placed [] = refl
    neighbours-placed (l ∷ xs) =
        let rest = neighbours-placed xs in
        elim (nat_lt number l.peer) as (λ b. cond b (neighbour number pool ∷ map neighbour_of (l ∷ xs)) (neighbour_of l ∷ neighbours_opened number pool xs) ≡ cond b (neighbour number pool ∷ map neighbour_of (l ∷ xs)) (neighbour_of l ∷ placed number neighbour_of (neighbour number pool) xs))
        [ true ↦ refl | false ↦ ap (λ (ns : List Neighbour). neighbour_of l ∷ ns) rest ]

    peers-new : map (peer_in view [] table) peers ≡ map new_peer (neighbours_opened number pool ls)
    peers-new =
        map-placed number (peer_in view [] table) linked_peer own ls
        ∙ placed-same number (λ (l : Link S R). peer_in view [] table (linked_peer l)) (λ (l : Link S R). new_peer (neighbour_of l)) _ _ ls (all-weaken IsOpen (λ (l : Link S R). peer_in view [] table (linked_peer l) ≡ new_peer (neighbour_of l)) peer-new ls each) own-new
        ∙ sym (ap (map new_peer) (neighbours-placed ls) ∙ map-placed number new_peer neighbour_of (neighbour number pool) ls)

    state-opening : state_in view (opening_book sizes) records no_requests table peers ≡ opening number nodes (neighbours_opened number pool ls)
    state-opening = ap (λ (ps : List state.Peer). record (opening number nodes []) { peers = ps }) peers-new

    ends-placed : (own-loop : Loop) (xs : List (Link S R)) → ends_opened number own-loop xs ≡ placed number (λ (l : Link S R). Linked l) (Own own-loop) xs
    ends-placed own-loop [] = refl
    ends-placed own-loop (l ∷ xs) =
        let rest = ends-placed own-loop xs in
        elim (nat_lt number l.peer) as (λ b. cond b (Own own-loop ∷ map (λ (m : Link S R). Linked m) (l ∷ xs)) (Linked l ∷ ends_opened number own-loop xs) ≡ cond b (Own own-loop ∷ map (λ (m : Link S R). Linked m) (l ∷ xs)) (Linked l ∷ placed number (λ (m : Link S R). Linked m) (Own own-loop) xs))
        [ true ↦ refl | false ↦ ap (λ (es : List (Ends S R)). Linked l ∷ es) rest ]

    pub ends-opening : ends_of peers ≡ ends_opened number (new_loop pool) ls
    ends-opening = map-placed number (λ (p : Peer (Ends S R)). p.ends) linked_peer own ls ∙ sym (ends-placed (new_loop pool) ls)

    -- the same of parts that are these

    module _ (b : Book) (r : Records) (q : Requests) (t : endpoint_table.Table) (ps : List (Peer (Ends S R)))
        (book-is : b ≡ opening_book sizes) (records-are : r ≡ records) (requests-are : q ≡ no_requests) (table-is : t ≡ table) (peers-are : ps ≡ peers) where
      pub parts-sound : AreSound view b r q t ps
      parts-sound = rw (book-is, records-are, requests-are, table-is, peers-are) sound-opening

      pub parts-state : state_in view b r q t ps ≡ opening number nodes (neighbours_opened number pool ls)
      parts-state = rw (book-is, records-are, requests-are, table-is, peers-are) state-opening
