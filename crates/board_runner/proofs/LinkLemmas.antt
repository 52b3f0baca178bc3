-- The links that a runner opens are those of a domain's neighbours: found number by number, and such as a domain is opened with.
use Rattle.std.proofs.Common.{◌≡◌, ◌≢◌, ℕ, ◌+◌, ◌<◌, ◌≤◌, Bool, true, false, not, cond, List, [], ◌∷◌, ◌++◌, map, Option, Some, None, find, filter, option_map, option_to_list, refl, sym, ap, ◌∙◌, subst, arith, inl, inr, eq-eqb, true≢false}
use Rattle.std.specs.Prelude.{◌==◌, nat_lt}
use Rattle.std.specs.List.{AllByRecursion}
use Rattle.std.proofs.lemmas.Bool.{cond_both, ne_eqb, lt-ltb, le-ltb}
use Rattle.std.proofs.lemmas.Bool.Decides.{eqb_tells}
use Rattle.std.proofs.lemmas.List.{append-nil, map-append}
use Rattle.std.proofs.lemmas.List.Elements.{filter-append}
use Rattle.lane_end.specs.AnySender as sending
use Rattle.lane_end.specs.AnyReceiver as receiving
use Rattle.board_model.specs.declared.scenario.DomainLine.{DomainLine}
use Rattle.board_model.specs.declared.scenario.LinkLine.{LinkLine}
use Rattle.board_model.specs.declared.scenario.Scenario.{Scenario}
use Rattle.board_model.specs.Scenario.{Neighbour, neighbour, neighbours, rising}
use Rattle.board_model.specs.Grammar.{IsLawfulDomain}
use Rattle.board_model.specs.LinkedBoard.{Joins, IsLinkedBoard}
use Rattle.board_model.proofs.MessageAlls.{all-filter, all-with, all-found, all-weaken, none-found}
use Rattle.board_model.proofs.ListsApart.{all-map, all-unmap}
use Rattle.board_model.proofs.BoardsRising.{AreRising, neighbours-rise}
use Rattle.board_model.proofs.BoardsNeighbours.{LeadsTo, told-fits, neighbours-fit, own-neighbour}
use Rattle.board_model.proofs.BoardsFound.{below, rising-next, rising-done, domain-at, neighbour-at}
use Rattle.domain_core.specs.Opening.{AreLinksOf, IsOpenLink, neighbour_of, neighbours_opened}
use Rattle.domain_core.specs.Sound as sound
use Rattle.domain_core.specs.declared.Link.{Link}
use Rattle.domain_core.specs.Carrying.{AnyLink}
use Rattle.board_numbers.specs.Lanes.{joins, size_between}
use Rattle.board_runner.specs.Wired.{IsNewLink, AreLinksOn, is_other, link_neighbour}
use Rattle.board_runner.specs.Opened.{IsLineIn}

-- a link without its ends
abbrev pub Bare : Type 0
Bare = Link (Unit {0}) (Unit {0})

abbrev pub new_bare : ℕ → ℕ → Bare
new_bare peer size = record { peer = peer; size = size; send = tt; recv = tt }

abbrev pub bare : Neighbour → Bare
bare n = new_bare n.number n.size

abbrev pub to_bare : AnyLink → Bare
to_bare l = new_bare l.peer l.size

-- the links to a domain's neighbours
abbrev pub links_of : Scenario → DomainLine → List Bare
links_of s d = map bare (filter (is_other d.domain) (neighbours s d))

-- ---- a line of the board

pub line-rises : (s : Scenario) → IsLinkedBoard s → (d : DomainLine) → IsLineIn s d → find (λ e. e.domain == d.domain) (rising s) ≡ Some d
line-rises s board d line = domain-at s board d.domain ∙ line

pub line-lawful : (s : Scenario) → IsLinkedBoard s → (d : DomainLine) → IsLineIn s d → IsLawfulDomain d
line-lawful s board d line = all-found IsLawfulDomain (λ e. e.domain == d.domain) s.domains d board.domains_lawful line

line_leads : (s : Scenario) → IsLinkedBoard s → (d : DomainLine) → IsLineIn s d → AllByRecursion (λ n. LeadsTo s n.number n.size) (neighbours s d)
line_leads s board d line =
    all-found (λ e. AllByRecursion (λ n. LeadsTo s n.number n.size) (neighbours s e)) (λ e. e.domain == d.domain) (rising s) d (neighbours-fit s board) (line-rises s board d line)

-- ---- the links to the peers below a number

abbrev pub links_below : Scenario → DomainLine → ℕ → List Bare
links_below s d i = map bare (filter (is_other d.domain) (below (λ n. n.number) i (neighbours s d)))

pub none-below : {A : Type 0} (key : A → ℕ) (xs : List A) → below key 0 xs ≡ []
none-below key [] = refl
none-below key (x ∷ xs) = let not_yet = le-ltb (key x) 0 (omega arith) in rw not_yet (none-below key xs)

pub links-begin : (s : Scenario) (d : DomainLine) → links_below s d 0 ≡ []
links-begin s d = ap (λ ns. map bare (filter (is_other d.domain) ns)) (none-below (λ n. n.number) (neighbours s d))

pub links-done : (s : Scenario) → IsLinkedBoard s → (d : DomainLine) → IsLineIn s d → links_below s d 8 ≡ links_of s d
links-done s board d line =
    ap (λ ns. map bare (filter (is_other d.domain) ns))
    (rising-done (λ n. n.number) 8 (neighbours s d)
    (all-weaken (λ n. LeadsTo s n.number n.size) (λ n. n.number < 8) (λ n leads. omega (arith, told-fits s board n.number leads.told)) (neighbours s d) (line_leads s board d line)))

-- no link joins a domain to itself
apart_at : (s : Scenario) (d : ℕ) (l : LinkLine) → Joins s l → joins d d l ≡ false
apart_at s d l link = elim (eqb_tells l.driver d) [
  | inl driver ↦ elim (eqb_tells l.device d) [
    | inl device ↦ absurd (link.two_domains (driver.1 ∙ sym device.1))
    | inr other ↦ rw (driver.0, other.0) refl
  ]
  | inr other ↦ elim (eqb_tells l.device d) [
    | inl device ↦ rw (other.0, device.0) refl
    | inr neither ↦ rw (other.0, neither.0) refl
  ]
]

none_to_itself : (s : Scenario) → IsLinkedBoard s → (d : ℕ) → find (joins d d) s.links ≡ None
none_to_itself s board d = none-found (joins d d) s.links (all-weaken (Joins s) (λ l. joins d d l ≡ false) (apart_at s d) s.links board.links_join)

-- the links to the domain of one number
kept_link : (d i : ℕ) → (i == d) ≡ false → (o : Option LinkLine) →
    map bare (filter (is_other d) (option_to_list (option_map (λ l. neighbour i l.size) o))) ≡ option_to_list (option_map (new_bare i) (option_map (λ l. l.size) o))
kept_link d i other None = refl
kept_link d i other (Some l) = rw other refl

link_at : (d : DomainLine) (i : ℕ) (o : Option LinkLine) → (d.domain ≡ i → o ≡ None) →
    map bare (filter (is_other d.domain) (option_to_list (cond (d.domain == i) (Some (neighbour d.domain d.pool)) (option_map (λ l. neighbour i l.size) o)))) ≡ option_to_list (option_map (new_bare i) (option_map (λ l. l.size) o))
link_at d i o none = elim (eqb_tells d.domain i) [
  | inl same ↦ let nothing = none same.1 in let itself = eq-eqb d.domain d.domain refl in rw (same.0, nothing, itself) refl
  | inr other ↦ rw other.0 (kept_link d.domain i (ne_eqb i d.domain (λ e. other.1 (sym e))) o)
]

pub links-next : (s : Scenario) → IsLinkedBoard s → (d : DomainLine) (i : ℕ) → links_below s d (i + 1) ≡ links_below s d i ++ option_to_list (option_map (new_bare i) (size_between s d.domain i))
links-next s board d i =
    ap (λ ns. map bare (filter (is_other d.domain) ns)) (rising-next (λ n. n.number) i (neighbours s d) (neighbours-rise s board d) ∙ ap (λ o. below (λ n. n.number) i (neighbours s d) ++ option_to_list o) (neighbour-at s board d i))
    ∙ ap (map bare) (filter-append (is_other d.domain) (below (λ n. n.number) i (neighbours s d)) last)
    ∙ map-append bare (filter (is_other d.domain) (below (λ n. n.number) i (neighbours s d))) (filter (is_other d.domain) last)
    ∙ ap (λ ls. links_below s d i ++ ls) (link_at d i (find (joins d.domain i) s.links) (λ same. subst (λ n. find (joins d.domain n) s.links ≡ None) same (none_to_itself s board d.domain)))
  where
    last : List Neighbour
    last = option_to_list (cond (d.domain == i) (Some (neighbour d.domain d.pool)) (option_map (λ l. neighbour i l.size) (find (joins d.domain i) s.links)))

-- one link more, or none
pub link-more : (s : Scenario) → IsLinkedBoard s → (d : DomainLine) (i size : ℕ) (ls more : List Bare) (l : Bare) → ls ≡ links_below s d i → size_between s d.domain i ≡ Some size → l ≡ new_bare i size → more ≡ ls ++ l ∷ [] → more ≡ links_below s d (i + 1)
link-more s board d i size ls more l so_far sized new added =
    added ∙ ap (λ ks. ks ++ l ∷ []) so_far ∙ ap (λ k. links_below s d i ++ k ∷ []) new
    ∙ sym (links-next s board d i ∙ ap (λ o. links_below s d i ++ option_to_list (option_map (new_bare i) o)) sized)

pub link-none : (s : Scenario) → IsLinkedBoard s → (d : DomainLine) (i : ℕ) (ls : List Bare) → ls ≡ links_below s d i → size_between s d.domain i ≡ None → ls ≡ links_below s d (i + 1)
link-none s board d i ls so_far none =
    so_far ∙ sym (links-next s board d i ∙ ap (λ o. links_below s d i ++ option_to_list (option_map (new_bare i) o)) none ∙ append-nil (links_below s d i))

-- ---- with its links a domain has its neighbours

found_first : {A : Type 0} (b : Bool) (x y : A) (o : Option A) → b ≡ true → cond b (Some x) o ≡ Some y → x ≡ y
found_first true x y o at found = cc
found_first false x y o at found = absurd (true≢false (sym at))

found_later : {A : Type 0} (b : Bool) (x y : A) (o : Option A) → b ≡ false → cond b (Some x) o ≡ Some y → o ≡ Some y
found_later true x y o at found = absurd (true≢false at)
found_later false x y o at found = found

links_back : (ns : List Neighbour) → map neighbour_of (map bare ns) ≡ ns
links_back [] = refl
links_back (n ∷ ns) = ap (λ ms. n ∷ ms) (links_back ns)

module _ (domain : ℕ) where
  all_others : (ns : List Neighbour) → AllByRecursion (λ n. domain < n.number) ns → filter (is_other domain) ns ≡ ns
  all_others [] above = refl
  all_others (n ∷ ns) above = let other = ne_eqb n.number domain (λ e. omega (arith, e, above.0)) in rw other (ap (λ ms. n ∷ ms) (all_others ns above.1))

  opened_first : (pool : ℕ) (ns : List Neighbour) → AllByRecursion (λ n. domain < n.number) ns → neighbours_opened domain pool (map bare ns) ≡ neighbour domain pool ∷ ns
  opened_first pool [] above = refl
  opened_first pool (n ∷ ns) above = let before = lt-ltb domain n.number above.0 in rw before (ap (λ ms. neighbour domain pool ∷ n ∷ ms) (links_back ns))

  opened_all : (pool : ℕ) (ns : List Neighbour) → AreRising (map (λ n. n.number) ns) → find (λ n. n.number == domain) ns ≡ Some (neighbour domain pool) → neighbours_opened domain pool (map bare (filter (is_other domain) ns)) ≡ ns
  opened_all pool [] rising found = absurd cc
  opened_all pool (n ∷ ns) rising found =
      let above = all-unmap (λ m. n.number < m) (λ m. m.number) ns rising.0 in
      elim (eqb_tells n.number domain) [
        | inl same ↦
            let later = subst (λ k. AllByRecursion (λ m. k < m.number) ns) same.1 above in
            let itself = found_first (n.number == domain) n (neighbour domain pool) (find (λ m. m.number == domain) ns) same.0 found in
            rw same.0 (ap (λ ms. neighbours_opened domain pool (map bare ms)) (all_others ns later) ∙ opened_first pool ns later ∙ ap (λ m. m ∷ ns) (sym itself))
        | inr other ↦
            let later = found_later (n.number == domain) n (neighbour domain pool) (find (λ m. m.number == domain) ns) other.0 found in
            let less = all-found (λ m. n.number < m.number) (λ m. m.number == domain) ns (neighbour domain pool) above later in
            let behind = le-ltb domain n.number (omega (arith, less)) in
            rw (other.0, behind) (ap (λ ms. n ∷ ms) (opened_all pool ns rising.1 later))
      ]

-- neighbours hang on numbers and sizes alone
opened_bare : (number pool : ℕ) (ls : List AnyLink) → neighbours_opened number pool ls ≡ neighbours_opened number pool (map bare (map link_neighbour ls))
opened_bare number pool [] = refl
opened_bare number pool (l ∷ ls) =
    let rest = opened_bare number pool ls in
    let all : map neighbour_of ls ≡ map neighbour_of (map bare (map link_neighbour ls)) = bare_neighbours ls in
    cond_same (nat_lt number l.peer) (ap (λ (ns : List Neighbour). neighbour number pool ∷ (neighbour l.peer l.size ∷ ns)) all) (ap (λ (ns : List Neighbour). neighbour l.peer l.size ∷ ns) rest)
  where
    bare_neighbours : (ks : List AnyLink) → map neighbour_of ks ≡ map neighbour_of (map bare (map link_neighbour ks))
    bare_neighbours [] = refl
    bare_neighbours (k ∷ ks) = ap (λ (ns : List Neighbour). neighbour k.peer k.size ∷ ns) (bare_neighbours ks)

    cond_same : (b : Bool) {x x' y y' : List Neighbour} → x ≡ x' → y ≡ y' → cond b x y ≡ cond b x' y'
    cond_same true e f = e
    cond_same false e f = f

module _ (s : Scenario) (board : IsLinkedBoard s) (d : DomainLine) (ls : List AnyLink) (on : AreLinksOn s d ls) where
  bares : map bare (map link_neighbour ls) ≡ links_of s d
  bares = ap (map bare) on.to

  pub neighbours-opened : neighbours_opened d.domain d.pool ls ≡ neighbours s d
  neighbours-opened = opened_bare d.domain d.pool ls ∙ ap (neighbours_opened d.domain d.pool) bares ∙ opened_all d.domain d.pool (neighbours s d) (neighbours-rise s board d) (own-neighbour s board d)

-- ---- they are such as a domain is opened with

rising_links : (p : Neighbour → Bool) (ns : List Neighbour) → AreRising (map (λ n. n.number) ns) → sound.AreRising (map (λ l. l.peer) (map bare (filter p ns)))
rising_links p [] rising = tt
rising_links p (n ∷ ns) rising =
    cond_both (p n) (n ∷ filter p ns) (filter p ns) (λ ms. sound.AreRising (map (λ l. l.peer) (map bare ms)))
    (λ it. (all-map (λ m. n.number < m) (λ l. l.peer) (map bare (filter p ns)) (all-map (λ l. n.number < l.peer) bare (filter p ns) (all-filter (λ m. n.number < m.number) p ns (all-unmap (λ m. n.number < m) (λ m. m.number) ns rising.0))), rising_links p ns rising.1))
    (λ not_it. rising_links p ns rising.1)

others_differ : (domain : ℕ) (ns : List Neighbour) → AllByRecursion (λ n. n.number ≢ domain) (filter (is_other domain) ns)
others_differ domain [] = tt
others_differ domain (n ∷ ns) =
    cond_both (is_other domain n) (n ∷ filter (is_other domain) ns) (filter (is_other domain) ns) (AllByRecursion (λ m. m.number ≢ domain))
    (λ it. ((λ e. true≢false (sym it ∙ ap not (eq-eqb n.number domain e))), others_differ domain ns))
    (λ not_it. others_differ domain ns)

bares-differ : (s : Scenario) (d : DomainLine) → AllByRecursion (λ l. l.peer ≢ d.domain) (links_of s d)
bares-differ s d = all-map (λ l. l.peer ≢ d.domain) bare (filter (is_other d.domain) (neighbours s d)) (others_differ d.domain (neighbours s d))

peers_bare : (ls : List AnyLink) → map (λ (l : AnyLink). l.peer) ls ≡ map (λ (l : Bare). l.peer) (map bare (map link_neighbour ls))
peers_bare [] = refl
peers_bare (l ∷ ls) = ap (λ (ns : List ℕ). l.peer ∷ ns) (peers_bare ls)

module _ (s : Scenario) (d : DomainLine) (ls : List AnyLink) (on : AreLinksOn s d ls) where
  peers_same : map (λ (l : AnyLink). l.peer) ls ≡ map (λ (l : Bare). l.peer) (links_of s d)
  peers_same = peers_bare ls ∙ ap (map (λ (l : Bare). l.peer)) (ap (map bare) on.to)

  -- what holds of the peers
  by_peers : (P : ℕ → Type 0) → AllByRecursion (λ (l : Bare). P l.peer) (links_of s d) → AllByRecursion (λ (l : AnyLink). P l.peer) ls
  by_peers P all = all-unmap P (λ (l : AnyLink). l.peer) ls (subst (AllByRecursion P) (sym peers_same) (all-map P (λ (l : Bare). l.peer) (links_of s d) all))

  pub links-differ : AllByRecursion (λ (l : AnyLink). l.peer ≢ d.domain) ls
  links-differ = by_peers (λ p. p ≢ d.domain) (bares-differ s d)

  pub links-are : IsLinkedBoard s → IsLineIn s d → AreLinksOf d.domain ls
  links-are board line = record {
    rising = subst sound.AreRising (sym peers_same) (rising_links (is_other d.domain) (neighbours s d) (neighbours-rise s board d));
    others = links-differ;
    few = by_peers (λ p. p ≤ 7) (all-map (λ l. l.peer ≤ 7) bare (filter (is_other d.domain) (neighbours s d))
        (all-filter (λ n. n.number ≤ 7) (is_other d.domain) (neighbours s d)
        (all-weaken (λ n. LeadsTo s n.number n.size) (λ n. n.number ≤ 7) (λ n leads. told-fits s board n.number leads.told) (neighbours s d) (line_leads s board d line))));
  }

  abbrev IsOpen : AnyLink → Type 0
  IsOpen l = IsOpenLink sending.size_of_any sending.free_of_any receiving.size_of_any receiving.shown_of_any receiving.out_of_any l

  pub links-open : IsLinkedBoard s → IsLineIn s d → AllByRecursion IsOpen ls
  links-open board line =
      all-with IsNewLink (λ (l : AnyLink). l.size ≤ 256) IsOpen
      (λ l new fits. record { size_to_is = new.size_to; size_from_is = new.size_from; fits = fits; all_free = new.all_free; none_shown = new.none_shown; none_out = new.none_out }) ls on.new
      (all-unmap (λ (n : Neighbour). n.size ≤ 256) link_neighbour ls
      (subst (AllByRecursion (λ (n : Neighbour). n.size ≤ 256)) (sym on.to)
      (all-filter (λ n. n.size ≤ 256) (is_other d.domain) (neighbours s d)
      (all-weaken (λ n. LeadsTo s n.number n.size) (λ n. n.size ≤ 256) (λ n leads. leads.buffers_fit) (neighbours s d) (line_leads s board d line)))))
