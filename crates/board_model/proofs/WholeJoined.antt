-- The lanes of a board of linked domains, told by its lines: each domain has one to itself, and each link makes two.
use Rattle.std.proofs.Common.{◌≡◌, ◌⊎◌, ℕ, Bool, true, false, cond, List, [], ◌∷◌, map, Option, Some, find, flat_map, ltb, refl, sym, ap, ◌∙◌, subst, inl, inr, eqb-true, eq-eqb}
use Rattle.std.specs.Prelude.{◌==◌}
use Rattle.std.specs.List.{AllByRecursion}
use Rattle.std.proofs.lemmas.Bool.{ne_eqb}
use Rattle.board_model.specs.declared.scenario.DomainLine.{DomainLine}
use Rattle.board_model.specs.declared.scenario.LinkLine.{LinkLine}
use Rattle.board_model.specs.declared.scenario.Scenario.{Scenario}
use Rattle.board_model.specs.Scenario.{Neighbour, neighbour, linked_by, ranked, all_ranked, neighbours, lane_to, lanes, ranked_domain, rising_from, rising}
use Rattle.board_model.specs.LinkedBoard.{IsTold, Joins, IsLinkedBoard}
use Rattle.board_model.proofs.MessageAlls.{all-found, all-weaken}
use Rattle.board_model.proofs.ListsApart.{all-map, all-joined}
use Rattle.board_model.proofs.PlaceBoards.{rising_differ, neighbours_differ}
use Rattle.board_model.proofs.WholeHas.{Has, has-weaken, has-with, has-gives, has-map, has-joined, has-each, has-contained, has-differ}

-- a domain's lane to itself, and the two lanes of a link
abbrev pub IsOwn : ℕ → ℕ → ℕ → DomainLine → Type 0
IsOwn a b size d = (d.domain ≡ a) × (d.domain ≡ b) × (d.pool ≡ size)

abbrev pub IsLink : ℕ → ℕ → ℕ → LinkLine → Type 0
IsLink a b size l = (((l.driver ≡ a) × (l.device ≡ b)) ⊎ ((l.driver ≡ b) × (l.device ≡ a))) × (l.size ≡ size)

-- there is a lane of this size from the one domain to the other
abbrev pub Joined : Scenario → ℕ → ℕ → ℕ → Type 0
Joined s a b size = Has (IsOwn a b size) s.domains ⊎ Has (IsLink a b size) s.links

flip_link : (a b size : ℕ) (l : LinkLine) → IsLink a b size l → IsLink b a size l
flip_link a b size l (inl h, e) = (inr h, e)
flip_link a b size l (inr h, e) = (inl h, e)

-- lanes go both ways
pub joined_back : (s : Scenario) (a b size : ℕ) → Joined s a b size → Joined s b a size
joined_back s a b size (inl h) = inl (has-weaken (IsOwn a b size) (IsOwn b a size) (λ d e. (e.1, e.0, e.2)) s.domains h)
joined_back s a b size (inr h) = inr (has-weaken (IsLink a b size) (IsLink b a size) (flip_link a b size) s.links h)

-- ---- lists in rising number have the same items

pub all-rising : (P : DomainLine → Type 0) (ds : List DomainLine) → AllByRecursion P ds → AllByRecursion P (rising_from ds)
all-rising P [] all = tt
all-rising P (d ∷ ds) all = placed (rising_from ds) (all-rising P ds all.1)
  where
    placed : (es : List DomainLine) → AllByRecursion P es → AllByRecursion P (ranked_domain d es)
    placed [] rest = (all.0, tt)
    placed (e ∷ es) rest = go (ltb d.domain e.domain) (placed es rest.1)
      where
        go : (b : Bool) → AllByRecursion P (ranked_domain d es) → AllByRecursion P (cond b (d ∷ e ∷ es) (e ∷ ranked_domain d es))
        go true more = (all.0, rest)
        go false more = (rest.0, more)

pub has-rising : (P : DomainLine → Type 0) (ds : List DomainLine) → Has P ds → Has P (rising_from ds)
has-rising P [] h = h
has-rising P (d ∷ ds) h = placed (rising_from ds) (later h (has-rising P ds))
  where
    later : P d ⊎ Has P ds → (Has P ds → Has P (rising_from ds)) → P d ⊎ Has P (rising_from ds)
    later (inl x) f = inl x
    later (inr x) f = inr (f x)

    placed : (es : List DomainLine) → P d ⊎ Has P es → Has P (ranked_domain d es)
    placed [] x = x
    placed (e ∷ es) x = go (ltb d.domain e.domain) x (placed es)
      where
        go : (b : Bool) → P d ⊎ (P e ⊎ Has P es) → (P d ⊎ Has P es → Has P (ranked_domain d es)) → Has P (cond b (d ∷ e ∷ es) (e ∷ ranked_domain d es))
        go true y f = y
        go false (inl y) f = inr (f (inl y))
        go false (inr (inl y)) f = inl y
        go false (inr (inr y)) f = inr (f (inr y))

pub all-ranked : (P : Neighbour → Type 0) (ns : List Neighbour) → AllByRecursion P ns → AllByRecursion P (all_ranked ns)
all-ranked P [] all = tt
all-ranked P (n ∷ ns) all = placed (all_ranked ns) (all-ranked P ns all.1)
  where
    placed : (ms : List Neighbour) → AllByRecursion P ms → AllByRecursion P (ranked n ms)
    placed [] rest = (all.0, tt)
    placed (m ∷ ms) rest = go (ltb n.number m.number) (placed ms rest.1)
      where
        go : (b : Bool) → AllByRecursion P (ranked n ms) → AllByRecursion P (cond b (n ∷ m ∷ ms) (m ∷ ranked n ms))
        go true more = (all.0, rest)
        go false more = (rest.0, more)

pub has-ranked : (P : Neighbour → Type 0) (ns : List Neighbour) → Has P ns → Has P (all_ranked ns)
has-ranked P [] h = h
has-ranked P (n ∷ ns) h = placed (all_ranked ns) (later h (has-ranked P ns))
  where
    later : P n ⊎ Has P ns → (Has P ns → Has P (all_ranked ns)) → P n ⊎ Has P (all_ranked ns)
    later (inl x) f = inl x
    later (inr x) f = inr (f x)

    placed : (ms : List Neighbour) → P n ⊎ Has P ms → Has P (ranked n ms)
    placed [] x = x
    placed (m ∷ ms) x = go (ltb n.number m.number) x (placed ms)
      where
        go : (b : Bool) → P n ⊎ (P m ⊎ Has P ms) → (P n ⊎ Has P ms → Has P (ranked n ms)) → Has P (cond b (n ∷ m ∷ ms) (m ∷ ranked n ms))
        go true y f = y
        go false (inl y) f = inr (f (inl y))
        go false (inr (inl y)) f = inl y
        go false (inr (inr y)) f = inr (f (inr y))

-- ---- the neighbours of a domain are those that it has lanes to

linked_cond : (d : ℕ) (l : LinkLine) (x y : Bool) → (l.driver == d) ≡ x → (l.device == d) ≡ y → linked_by d l ≡ cond x (neighbour l.device l.size ∷ []) (cond y (neighbour l.driver l.size ∷ []) [])
linked_cond d l x y e f = ap (λ b. cond b (neighbour l.device l.size ∷ []) (cond (l.device == d) (neighbour l.driver l.size ∷ []) [])) e ∙ ap (λ b. cond x (neighbour l.device l.size ∷ []) (cond b (neighbour l.driver l.size ∷ []) [])) f

link_joins : (s : Scenario) (d : ℕ) (l : LinkLine) → Has (λ m. m ≡ l) s.links → AllByRecursion (λ n. Joined s d n.number n.size) (linked_by d l)
link_joins s d l told = go (l.driver == d) (l.device == d) refl refl
  where
    to : (b : ℕ) → IsLink d b l.size l → Joined s d b l.size
    to b is = inr (has-weaken (λ m. m ≡ l) (IsLink d b l.size) (λ m e. subst (IsLink d b l.size) (sym e) is) s.links told)

    go : (x y : Bool) → (l.driver == d) ≡ x → (l.device == d) ≡ y → AllByRecursion (λ n. Joined s d n.number n.size) (linked_by d l)
    go true y e f = subst (AllByRecursion (λ n. Joined s d n.number n.size)) (sym (linked_cond d l true y e f)) (to l.device (inl (eqb-true l.driver d e, refl), refl), tt)
    go false true e f = subst (AllByRecursion (λ n. Joined s d n.number n.size)) (sym (linked_cond d l false true e f)) (to l.driver (inr (refl, eqb-true l.device d f), refl), tt)
    go false false e f = subst (AllByRecursion (λ n. Joined s d n.number n.size)) (sym (linked_cond d l false false e f)) tt

pub neighbours_join : (s : Scenario) (d : DomainLine) → Has (λ e. e ≡ d) s.domains → AllByRecursion (λ n. Joined s d.domain n.number n.size) (neighbours s d)
neighbours_join s d told =
    all-ranked (λ n. Joined s d.domain n.number n.size) (neighbour d.domain d.pool ∷ flat_map (linked_by d.domain) s.links) (
      inl (has-weaken (λ e. e ≡ d) (IsOwn d.domain d.domain d.pool) (λ e is. (ap (λ x. x.domain) is, ap (λ x. x.domain) is, ap (λ x. x.pool) is)) s.domains told),
      all-joined (λ n. Joined s d.domain n.number n.size) (linked_by d.domain) s.links
          (all-weaken (λ l. Has (λ m. m ≡ l) s.links) (λ l. AllByRecursion (λ n. Joined s d.domain n.number n.size) (linked_by d.domain l)) (link_joins s d.domain) s.links (has-each s.links)),
    )

-- the domains in rising number are those that are told
pub rising_told : (s : Scenario) → AllByRecursion (λ d. Has (λ e. e ≡ d) s.domains) (rising s)
rising_told s = all-rising (λ d. Has (λ e. e ≡ d) s.domains) s.domains (has-each s.domains)

pub lanes_join : (s : Scenario) → AllByRecursion (λ l. Joined s l.sender l.receiver l.size) (lanes s)
lanes_join s =
    all-joined (λ l. Joined s l.sender l.receiver l.size) (λ d. map (lane_to d.domain) (neighbours s d)) (rising s)
    (all-weaken (λ d. Has (λ e. e ≡ d) s.domains) (λ d. AllByRecursion (λ l. Joined s l.sender l.receiver l.size) (map (lane_to d.domain) (neighbours s d)))
    (λ d told. all-map (λ l. Joined s l.sender l.receiver l.size) (lane_to d.domain) (neighbours s d) (neighbours_join s d told)) (rising s) (rising_told s))

-- ---- a lane joins domains that are told, and each is a neighbour of the other

pub told_found : (s : Scenario) → IsLinkedBoard s → (n : ℕ) → IsTold s n → (d : DomainLine) × (find (λ e. e.domain == n) (rising s) ≡ Some d)
told_found s board n told =
    let t = has-differ (λ d. d.domain) (λ d. Unit {0}) (rising s) n (rising_differ s board) (has-weaken (λ d. d.domain ≡ n) (λ d. (d.domain ≡ n) × Unit {0}) (λ d e. (e, tt)) (rising s) (has-rising (λ d. d.domain ≡ n) s.domains (has-contained (λ d. d.domain) s.domains n told))) in
    (t.0, t.1)

link_told : (s : Scenario) (a b size : ℕ) (l : LinkLine) → Joins s l → IsLink a b size l → IsTold s a
link_told s a b size l joins (inl h, e) = subst (IsTold s) h.0 joins.driver_told
link_told s a b size l joins (inr h, e) = subst (IsTold s) h.1 joins.device_told

pub joined_found : (s : Scenario) → IsLinkedBoard s → (a b size : ℕ) → Joined s a b size → (d : DomainLine) × (find (λ e. e.domain == a) (rising s) ≡ Some d)
joined_found s board a b size (inl h) =
    let t = has-differ (λ d. d.domain) (λ d. Unit {0}) (rising s) a (rising_differ s board) (has-weaken (IsOwn a b size) (λ d. (d.domain ≡ a) × Unit {0}) (λ d e. (e.0, tt)) (rising s) (has-rising (IsOwn a b size) s.domains h)) in
    (t.0, t.1)
joined_found s board a b size (inr h) =
    told_found s board a (has-gives (Joins s) (IsLink a b size) (IsTold s a) (link_told s a b size) s.links board.links_join h)

-- the neighbour of this number and size
abbrev pub IsNeighbour : ℕ → ℕ → Neighbour → Type 0
IsNeighbour b size n = (n.number ≡ b) × (n.size ≡ size)

link_neighbour : (a b size : ℕ) (l : LinkLine) → (l.driver ≡ l.device → ⊥) → IsLink a b size l → Has (IsNeighbour b size) (linked_by a l)
link_neighbour a b size l apart (inl h, e) =
    subst (Has (IsNeighbour b size)) (sym (linked_cond a l true (l.device == a) (eq-eqb l.driver a h.0) refl)) (inl (h.1, e))
link_neighbour a b size l apart (inr h, e) =
    subst (Has (IsNeighbour b size)) (sym (linked_cond a l false true (ne_eqb l.driver a (λ is. apart (is ∙ sym h.1))) (eq-eqb l.device a h.1))) (inl (h.0, e))

some_line : {x y : DomainLine} → ◌≡◌ {A = Option DomainLine} (Some x) (Some y) → x ≡ y
some_line e = cc

has_neighbour : (s : Scenario) → IsLinkedBoard s → (a b size : ℕ) (d : DomainLine) → find (λ e. e.domain == a) (rising s) ≡ Some d → d.domain ≡ a → Joined s a b size → Has (IsNeighbour b size) (neighbours s d)
has_neighbour s board a b size d found is (inl h) =
    let t = has-differ (λ d. d.domain) (λ d. (d.domain ≡ b) × (d.pool ≡ size)) (rising s) a (rising_differ s board) (has-weaken (IsOwn a b size) (λ d. (d.domain ≡ a) × ((d.domain ≡ b) × (d.pool ≡ size))) (λ d e. (e.0, (e.1, e.2))) (rising s) (has-rising (IsOwn a b size) s.domains h)) in
    let same : t.0 ≡ d = some_line (sym t.1 ∙ found) in
    has-ranked (IsNeighbour b size) (neighbour d.domain d.pool ∷ flat_map (linked_by d.domain) s.links) (inl (ap (λ x. x.domain) (sym same) ∙ t.2.0, ap (λ x. x.pool) (sym same) ∙ t.2.1))
has_neighbour s board a b size d found is (inr h) =
    has-ranked (IsNeighbour b size) (neighbour d.domain d.pool ∷ flat_map (linked_by d.domain) s.links)
    (inr (has-joined (IsNeighbour b size) (linked_by d.domain) s.links
    (has-with (Joins s) (IsLink a b size) (λ l. Has (IsNeighbour b size) (linked_by d.domain l)) (λ l joins e. subst (λ n. Has (IsNeighbour b size) (linked_by n l)) (sym is) (link_neighbour a b size l joins.two_domains e)) s.links board.links_join h)))

pub found_neighbour : (s : Scenario) → IsLinkedBoard s → (a b size : ℕ) (d : DomainLine) → find (λ e. e.domain == a) (rising s) ≡ Some d → d.domain ≡ a → Joined s a b size → (n : Neighbour) × (find (λ m. m.number == b) (neighbours s d) ≡ Some n) × (n.size ≡ size)
found_neighbour s board a b size d found is joined = has-differ (λ n. n.number) (λ n. n.size ≡ size) (neighbours s d) b (neighbours_differ s board d) (has_neighbour s board a b size d found is joined)

pub has_lane : (s : Scenario) → IsLinkedBoard s → (a b size : ℕ) (d : DomainLine) → find (λ e. e.domain == a) (rising s) ≡ Some d → d.domain ≡ a → Joined s a b size → Has (λ l. (l.sender ≡ a) × (l.receiver ≡ b)) (lanes s)
has_lane s board a b size d found is joined =
    has-joined (λ l. (l.sender ≡ a) × (l.receiver ≡ b)) (λ e. map (lane_to e.domain) (neighbours s e)) (rising s)
    (has-weaken (λ e. e ≡ d) (λ e. Has (λ l. (l.sender ≡ a) × (l.receiver ≡ b)) (map (lane_to e.domain) (neighbours s e)))
    (λ e same. subst (λ x. Has (λ l. (l.sender ≡ a) × (l.receiver ≡ b)) (map (lane_to x.domain) (neighbours s x))) (sym same)
    (has-map (λ l. (l.sender ≡ a) × (l.receiver ≡ b)) (lane_to d.domain) (neighbours s d) (has-weaken (IsNeighbour b size) (λ n. (d.domain ≡ a) × (n.number ≡ b)) (λ n at. (is, at.0)) (neighbours s d) (has_neighbour s board a b size d found is joined)))) (rising s)
    (all-found (λ e. Has (λ x. x ≡ e) (rising s)) (λ e. e.domain == a) (rising s) d (has-each (rising s)) found))
