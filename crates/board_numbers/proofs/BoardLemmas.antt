-- A board by its lines: its domains in rising number, and its lanes, pair by pair.
use Rattle.std.proofs.Common.{◌≡◌, ℕ, ◌+◌, ◌<◌, ◌≤◌, Bool, true, false, cond, List, [], ◌∷◌, ◌++◌, map, length, Option, Some, None, find, flat_map, option_map, option_to_list, is_some, refl, sym, ap, ◌∙◌, inl, inr, arith, eqb-true, le-ltb, ne_eqb, take, get_or, append-nil}
use Rattle.std.specs.Prelude.{◌==◌}
use Rattle.std.specs.List.{AllByRecursion}
use Rattle.std.proofs.lemmas.List.{length-map, map-append}
use Rattle.std.proofs.lemmas.Grind.{flat_map-append, take_at_read}
use Rattle.std.proofs.lemmas.Bool.Decides.{eqb_tells}
use Rattle.std.proofs.lemmas.List.Folds.{flat_map-map}
use Rattle.board_model.specs.declared.scenario.DomainLine.{DomainLine}
use Rattle.board_model.specs.declared.scenario.LinkLine.{LinkLine}
use Rattle.board_model.specs.declared.scenario.Scenario.{Scenario}
use Rattle.board_model.specs.Scenario.{Neighbour, neighbour, neighbours, lane_to, lanes, rising}
use Rattle.board_model.specs.LinkedBoard.{IsLinkedBoard}
use Rattle.board_model.specs.Grammar.{IsLawfulDomain}
use Rattle.board_model.proofs.MessageAlls.{all-weaken, all-with, none-found, found-passes}
use Rattle.board_model.proofs.ListsApart.{all-unmap, differ-found}
use Rattle.board_model.proofs.PlaceBoards.{rising_differ}
use Rattle.board_model.proofs.WholeHas.{Has, has-map, has-contained, has-gives}
use Rattle.board_model.proofs.WholeJoined.{has-rising}
use Rattle.board_model.proofs.BoardsRising.{AreRising, rising-rises, neighbours-rise}
use Rattle.board_model.proofs.BoardsNeighbours.{LeadsTo, rising-lawful, rising-length, domains-few, neighbours-fit}
use Rattle.board_model.proofs.BoardsFound.{below, of_number, rising-next, rising-done, domain-at, neighbour-at}
use Rattle.board_numbers.specs.Lanes.{numbers_of, line_of_domain, joins, lane_between, lanes_from}

pub numbers-length : (s : Scenario) → length (numbers_of s) ≡ length s.domains
numbers-length s = length-map (rising s) (λ (d : DomainLine). d.domain) ∙ rising-length s

pub numbers-few : (s : Scenario) → IsLinkedBoard s → length (numbers_of s) ≤ 8
numbers-few s board = omega (arith, numbers-length s, domains-few s board)

-- ---- the domains, number by number

-- the numbers below this one
abbrev pub numbers_below : Scenario → ℕ → List ℕ
numbers_below s i = map (λ d. d.domain) (below (λ (d : DomainLine). d.domain) i (rising s))

none_below : (ds : List DomainLine) → below (λ (d : DomainLine). d.domain) 0 ds ≡ []
none_below [] = refl
none_below (d ∷ ds) = let not_yet = le-ltb d.domain 0 (omega arith) in rw not_yet (none_below ds)

pub numbers-first : (s : Scenario) → numbers_below s 0 ≡ []
numbers-first s = ap (map (λ d. d.domain)) (none_below (rising s))

one_number : (i : ℕ) (o : Option DomainLine) → ((d : DomainLine) → o ≡ Some d → d.domain ≡ i) → map (λ d. d.domain) (option_to_list o) ≡ cond (is_some o) (i ∷ []) []
one_number i None at = refl
one_number i (Some d) at = ap (λ n. n ∷ []) (at d refl)

-- the next number is one of them where there is such a line
pub numbers-next : (s : Scenario) → IsLinkedBoard s → (i : ℕ) (o : Option DomainLine) → o ≡ line_of_domain s i → numbers_below s (i + 1) ≡ numbers_below s i ++ cond (is_some o) (i ∷ []) []
numbers-next s board i o is =
    let found : of_number (λ (d : DomainLine). d.domain) i (rising s) ≡ o = domain-at s board i ∙ sym is in
    ap (map (λ d. d.domain)) (rising-next (λ (d : DomainLine). d.domain) i (rising s) (rising-rises s board))
    ∙ map-append (λ (d : DomainLine). d.domain) (below (λ (d : DomainLine). d.domain) i (rising s)) (option_to_list (of_number (λ (d : DomainLine). d.domain) i (rising s)))
    ∙ ap (λ ns. numbers_below s i ++ ns)
    (ap (λ x. map (λ d. d.domain) (option_to_list x)) found ∙ one_number i o (λ d e. eqb-true d.domain i (found-passes (λ x. x.domain == i) s.domains d (sym is ∙ e))))

pub numbers-all : (s : Scenario) → IsLinkedBoard s → numbers_below s 8 ≡ numbers_of s
numbers-all s board =
    ap (map (λ d. d.domain))
    (rising-done (λ (d : DomainLine). d.domain) 8 (rising s) (all-weaken IsLawfulDomain (λ d. d.domain < 8) (λ d lawful. omega (arith, lawful.domain_fits)) (rising s) (rising-lawful s board)))

-- ---- the lanes, pair by pair

module _ {A : Type 0} (key : A → ℕ) where
  abbrev found_at : List A → ℕ → List A
  found_at xs n = option_to_list (find (λ x. key x == n) xs)

  found_later : (x : A) (xs : List A) (ns : List ℕ) → AllByRecursion (λ n. key x < n) ns → flat_map (found_at (x ∷ xs)) ns ≡ flat_map (found_at xs) ns
  found_later x xs [] above = refl
  found_later x xs (n ∷ ns) above =
      let less = above.0 in
      let other = ne_eqb (key x) n (λ e. absurd (omega (arith, less, e))) in
      rw other (ap (λ ys. found_at xs n ++ ys) (found_later x xs ns above.1))

  nothing_found : (ns : List ℕ) → flat_map (found_at []) ns ≡ []
  nothing_found [] = refl
  nothing_found (n ∷ ns) = nothing_found ns

  has_later : (n m : ℕ) (ns : List ℕ) → n < m → Has (λ k. k ≡ m) (n ∷ ns) → Has (λ k. k ≡ m) ns
  has_later n m ns less (inl is) = absurd (omega (arith, less, is))
  has_later n m ns less (inr h) = h

  -- items whose keys rise, found by numbers that rise and have their keys among them
  pub listed-found : (xs : List A) (ns : List ℕ) → AreRising (map key xs) → AreRising ns → AllByRecursion (λ x. Has (λ n. n ≡ key x) ns) xs → xs ≡ flat_map (found_at xs) ns
  listed-found [] ns rise order within = sym (nothing_found ns)
  listed-found (x ∷ xs) [] rise order within = absurd (within.0)
  listed-found (x ∷ xs) (n ∷ ns) rise order within = elim (eqb_tells (key x) n) [
    | inl same ↦
        let later : AllByRecursion (λ m. key x < m) ns = all-weaken (λ m. n < m) (λ m. key x < m) (λ m less. omega (arith, same.1, less)) ns order.0 in
        let rest : AllByRecursion (λ y. Has (λ m. m ≡ key y) ns) xs = all-with (λ y. key x < key y) (λ y. Has (λ m. m ≡ key y) (n ∷ ns)) (λ y. Has (λ m. m ≡ key y) ns) (λ y less has. has_later n (key y) ns (omega (arith, less, same.1)) has) xs (all-unmap (λ m. key x < m) key xs rise.0) within.1 in
        ap (λ ys. x ∷ ys) (listed-found xs ns rise.1 order.1 rest ∙ sym (found_later x xs ns later)) ∙ sym (ap (λ b. option_to_list (cond b (Some x) (find (λ y. key y == n) xs)) ++ flat_map (found_at (x ∷ xs)) ns) same.0)
    | inr other ↦
        let here : Has (λ m. m ≡ key x) ns = has_behind other.1 within.0 in
        let above : n < key x = has-gives (λ m. n < m) (λ m. m ≡ key x) (n < key x) (λ m less is. omega (arith, less, is)) ns order.0 here in
        let all_above : AllByRecursion (λ y. key x < key y) xs = all-unmap (λ m. key x < m) key xs rise.0 in
        let none : find (λ y. key y == n) (x ∷ xs) ≡ None =
        none-found (λ y. key y == n) (x ∷ xs) (other.0, all-weaken (λ y. key x < key y) (λ y. (key y == n) ≡ false) (λ y less. ne_eqb (key y) n (λ e. absurd (omega (arith, above, less, e)))) xs all_above) in
        let rest : AllByRecursion (λ y. Has (λ m. m ≡ key y) ns) xs = all-with (λ y. key x < key y) (λ y. Has (λ m. m ≡ key y) (n ∷ ns)) (λ y. Has (λ m. m ≡ key y) ns) (λ y less has. has_later n (key y) ns (omega (arith, less, above)) has) xs all_above within.1 in
        listed-found (x ∷ xs) ns rise order.1 (here, rest) ∙ sym (ap (λ o. option_to_list o ++ flat_map (found_at (x ∷ xs)) ns) none)
  ]
    where
      has_behind : (key x ≡ n → ⊥) → Has (λ m. m ≡ key x) (n ∷ ns) → Has (λ m. m ≡ key x) ns
      has_behind apart (inl is) = absurd (apart (sym is))
      has_behind apart (inr h) = h

map-joined : {A B C : Type 0} (f : B → C) (g : A → List B) (xs : List A) → map f (flat_map g xs) ≡ flat_map (λ x. map f (g x)) xs
map-joined f g [] = refl
map-joined f g (x ∷ xs) = map-append f (g x) (flat_map g xs) ∙ ap (λ ys. map f (g x) ++ ys) (map-joined f g xs)

joined-same : {A B : Type 0} (f g : A → List B) (xs : List A) → AllByRecursion (λ x. f x ≡ g x) xs → flat_map f xs ≡ flat_map g xs
joined-same f g [] all = refl
joined-same f g (x ∷ xs) all = ap (λ ys. ys ++ flat_map f xs) all.0 ∙ ap (λ ys. g x ++ ys) (joined-same f g xs all.1)

lane_at : (s : Scenario) (d : DomainLine) (n : ℕ) (b : Bool) → (d.domain == n) ≡ b → line_of_domain s d.domain ≡ Some d → (o : Option LinkLine) →
    map (lane_to d.domain) (option_to_list (cond b (Some (neighbour d.domain d.pool)) (option_map (λ l. neighbour n l.size) o)))
    ≡ option_to_list (option_map (λ size. record { sender = d.domain; receiver = n; size = size }) (cond b (option_map (λ x. x.pool) (line_of_domain s d.domain)) (option_map (λ l. l.size) o)))
lane_at s d n true own line o = rw line (ap (λ m. record { sender = d.domain; receiver = m; size = d.pool } ∷ []) (eqb-true d.domain n own))
lane_at s d n false own line None = refl
lane_at s d n false own line (Some l) = refl

-- a domain has lanes to its neighbours
lanes_out : (s : Scenario) → IsLinkedBoard s → (d : DomainLine) → line_of_domain s d.domain ≡ Some d → AllByRecursion (λ n. LeadsTo s n.number n.size) (neighbours s d) → map (lane_to d.domain) (neighbours s d) ≡ lanes_from s d.domain (numbers_of s)
lanes_out s board d line fit =
    let told : AllByRecursion (λ m. Has (λ n. n ≡ m.number) (numbers_of s)) (neighbours s d) =
    all-weaken (λ m. LeadsTo s m.number m.size) (λ m. Has (λ n. n ≡ m.number) (numbers_of s))
    (λ m leads. has-map (λ n. n ≡ m.number) (λ (x : DomainLine). x.domain) (rising s) (has-rising (λ x. x.domain ≡ m.number) s.domains (has-contained (λ (x : DomainLine). x.domain) s.domains m.number leads.told))) (neighbours s d) fit in
    let listed = listed-found (λ (m : Neighbour). m.number) (neighbours s d) (numbers_of s) (neighbours-rise s board d) (rising-rises s board) told in
    ap (map (lane_to d.domain)) listed
    ∙ map-joined (lane_to d.domain) (λ n. option_to_list (find (λ m. m.number == n) (neighbours s d))) (numbers_of s)
    ∙ each (numbers_of s)
  where
    each : (ns : List ℕ) → flat_map (λ n. map (lane_to d.domain) (option_to_list (find (λ m. m.number == n) (neighbours s d)))) ns ≡ lanes_from s d.domain ns
    each [] = refl
    each (n ∷ ns) =
        ap (λ ls. ls ++ flat_map (λ n. map (lane_to d.domain) (option_to_list (find (λ m. m.number == n) (neighbours s d)))) ns)
        (ap (λ o. map (lane_to d.domain) (option_to_list o)) (neighbour-at s board d n) ∙ lane_at s d n (d.domain == n) refl line (find (joins d.domain n) s.links))
        ∙ ap (λ ls. option_to_list (lane_between s d.domain n) ++ ls) (each ns)

pub lanes-listed : (s : Scenario) → IsLinkedBoard s → lanes s ≡ flat_map (λ a. lanes_from s a (numbers_of s)) (numbers_of s)
lanes-listed s board =
    joined-same (λ d. map (lane_to d.domain) (neighbours s d)) (λ d. lanes_from s d.domain (numbers_of s)) (rising s)
    (all-with (λ d. find (λ x. x.domain == d.domain) (rising s) ≡ Some d) (λ d. AllByRecursion (λ n. LeadsTo s n.number n.size) (neighbours s d)) (λ d. map (lane_to d.domain) (neighbours s d) ≡ lanes_from s d.domain (numbers_of s))
    (λ d found fit. lanes_out s board d (sym (domain-at s board d.domain) ∙ found) fit) (rising s) (differ-found (λ (d : DomainLine). d.domain) (rising s) (rising_differ s board)) (neighbours-fit s board))
    ∙ sym (flat_map-map (λ a. lanes_from s a (numbers_of s)) (λ (d : DomainLine). d.domain) (rising s))

-- what joined lists hold up to a place, and of the next one
pub joined-more : {A B : Type 0} (h : A → B) (g : ℕ → List A) (ns : List ℕ) (i : ℕ) → i < length ns → map h (flat_map g (take (i + 1) ns)) ≡ map h (flat_map g (take i ns)) ++ map h (g (get_or ns i 0))
joined-more h g ns i within =
    ap (λ ms. map h (flat_map g ms)) ((take_at_read ns i 0 within).1)
    ∙ ap (map h) (flat_map-append g (take i ns) (get_or ns i 0 ∷ []) ∙ ap (λ xs. flat_map g (take i ns) ++ xs) (append-nil (g (get_or ns i 0))))
    ∙ map-append h (flat_map g (take i ns)) (g (get_or ns i 0))
