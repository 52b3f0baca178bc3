-- The lanes of a board and the peers of its stations: each lane leads to a peer of its sender, and comes from a peer of its receiver.
use Rattle.std.proofs.Common.{◌≡◌, ℕ, zero, suc, ◌<◌, List, [], ◌∷◌, map, length, get_or, find, slice_get, Contains, Option, Some, None, Bool, true, false, cond, refl, sym, ap, ◌∙◌, inl, inr, subst, arith, eqb-true}
use Rattle.std.specs.Prelude.{◌==◌}
use Rattle.std.specs.List.{AllByRecursion}
use Rattle.board_model.specs.declared.scenario.DomainLine.{DomainLine}
use Rattle.board_model.specs.declared.scenario.Scenario.{Scenario}
use Rattle.board_model.specs.LinkedBoard.{IsLinkedBoard}
use Rattle.board_model.specs.Scenario.{Neighbour, Lane, lanes, rising, neighbours}
use Rattle.board_model.proofs.MessageAlls.{all-at, all-found, all-weaken, found-passes}
use Rattle.board_model.proofs.PlaceBoards.{rising_differ}
use Rattle.board_model.proofs.WholeHas.{Has, has-weaken, has-map, has-each, has-gives}
use Rattle.board_model.proofs.WholeJoined.{Joined, joined_back, joined_found, rising_told, neighbours_join, lanes_join, found_neighbour, has_lane}
use Rattle.board_runner.specs.declared.station.Station.{Station}
use Rattle.board_runner.specs.Near.{peers_of}
use Rattle.board_runner.specs.Stations.{domain_of, IsBoard}
use Rattle.board_runner.proofs.RunBoards.{board-at, board-numbers}
use Rattle.board_runner.proofs.RunFinds.{find-at}
use Rattle.board_runner.proofs.RunStations.{number_in}

-- a peer among them
abbrev pub HasPeer : List ℕ → ℕ → Type 0
HasPeer ps m = Has (λ p. p ≡ m) ps

has_unmap : {A B : Type 0} (P : B → Type 0) (f : A → B) (xs : List A) → Has P (map f xs) → Has (λ x. P (f x)) xs
has_unmap P f [] h = h
has_unmap P f (x ∷ xs) (inl h) = inl h
has_unmap P f (x ∷ xs) (inr h) = inr (has_unmap P f xs h)

pub has-contains : (ps : List ℕ) (m : ℕ) → HasPeer ps m → Contains ps m
has-contains [] m h = absurd h
has-contains (p ∷ ps) m (inl is) = (0, omega arith, is)
has-contains (p ∷ ps) m (inr later) = let c = has-contains ps m later in let within = c.1 in (suc c.0, omega (arith, within), c.2)

pub contains-has : (ps : List ℕ) (m : ℕ) → Contains ps m → HasPeer ps m
contains-has ps m c = go ps c.0 c.1 c.2
  where
    go : (qs : List ℕ) (k : ℕ) → k < length qs → get_or qs k m ≡ m → HasPeer qs m
    go [] k within at = absurd (omega (arith, within))
    go (q ∷ qs) zero within at = inl at
    go (q ∷ qs) (suc k) within at = inr (go qs k (omega (arith, within)) at)

-- where no station's domain has a number, no line tells it
missing : (m : ℕ) (sts : List Station) (ds : List DomainLine) → map number_in sts ≡ map (λ d. d.domain) ds → domain_of (map (λ x. x.domain) sts) m ≡ None → find (λ d. d.domain == m) ds ≡ None
missing m [] [] same none = refl
missing m [] (d ∷ ds) same none = absurd cc
missing m (x ∷ sts) [] same none = absurd cc
missing m (x ∷ sts) (d ∷ ds) same none =
    let here : number_in x ≡ d.domain = cc in
    let rest : map number_in sts ≡ map (λ d. d.domain) ds = cc in
    ap (λ (n : ℕ). cond (n == m) (Some d) (find (λ e. e.domain == m) ds)) (sym here) ∙ go (number_in x == m) none (missing m sts ds rest)
  where
    go : (b : Bool) → cond b (Some x.domain) (domain_of (map (λ y. y.domain) sts) m) ≡ None → (domain_of (map (λ y. y.domain) sts) m ≡ None → find (λ e. e.domain == m) ds ≡ None) → cond b (Some d) (find (λ e. e.domain == m) ds) ≡ None
    go true none later = absurd cc
    go false none later = later none

none_some : {A : Type 0} (o : Option A) (x : A) → o ≡ None → o ≡ Some x → ⊥
none_some o x none some = cc

-- the line of a domain, by the place of its station
record LineAt (s : Scenario) (i n : ℕ) (ps : List ℕ) : Type 0 where
  line : DomainLine
  is_number : line.domain ≡ n
  at : slice_get (rising s) i ≡ Some line
  found : find (λ e. e.domain == n) (rising s) ≡ Some line
  peers : ps ≡ map (λ (m : Neighbour). m.number) (neighbours s line)

module _ (s : Scenario) (board : IsLinkedBoard s) (sts : List Station) (b : IsBoard s sts) where
  line-at : (i : ℕ) (st : Station) → slice_get sts i ≡ Some st → LineAt s i (number_in st) (peers_of st.domain)
  line-at i st at =
      let t = board-at s sts b i st at in
      record {
        line = t.line;
        is_number = sym t.is.number;
        at = t.at;
        found = find-at (λ (d : DomainLine). d.domain) (rising s) i t.line (number_in st) (rising_differ s board) t.at (sym t.is.number);
        peers = t.is.peers;
      }

  module _ (i : ℕ) (st : Station) (at : slice_get sts i ≡ Some st) where
    -- a lane from the domain leads to a peer
    joined_peer : (m size : ℕ) → Joined s (number_in st) m size → HasPeer (peers_of st.domain) m
    joined_peer m size joined =
        let l = line-at i st at in
        let n = found_neighbour s board (number_in st) m size l.line l.found l.is_number joined in
        let is_m : n.0.number ≡ m = eqb-true n.0.number m (found-passes (λ (y : Neighbour). y.number == m) (neighbours s l.line) n.0 n.1) in
        subst (λ (ps : List ℕ). HasPeer ps m) (sym l.peers)
        (has-map (λ p. p ≡ m) (λ (y : Neighbour). y.number) (neighbours s l.line)
        (has-weaken (λ y. y ≡ n.0) (λ y. y.number ≡ m) (λ y is. ap (λ (z : Neighbour). z.number) is ∙ is_m) (neighbours s l.line)
        (all-found (λ (x : Neighbour). Has (λ y. y ≡ x) (neighbours s l.line)) (λ y. y.number == m) (neighbours s l.line) n.0 (has-each (neighbours s l.line)) n.1)))

    -- there is a lane to each peer
    peer_joined : (m : ℕ) → HasPeer (peers_of st.domain) m → (size : ℕ) × Joined s (number_in st) m size
    peer_joined m has =
        let l = line-at i st at in
        has-gives (λ (k : Neighbour). Joined s l.line.domain k.number k.size) (λ k. k.number ≡ m) ((size : ℕ) × Joined s (number_in st) m size)
        (λ k joined is. (k.size, subst (λ (x : ℕ). Joined s x m k.size) l.is_number (subst (λ (x : ℕ). Joined s l.line.domain x k.size) is joined))) (neighbours s l.line)
        (neighbours_join s l.line (all-at (λ (d : DomainLine). Has (λ e. e ≡ d) s.domains) (rising s) i l.line (rising_told s) l.at))
        (has_unmap (λ p. p ≡ m) (λ (y : Neighbour). y.number) (neighbours s l.line) (subst (λ (ps : List ℕ). HasPeer ps m) l.peers has))

    pub lane-to : (m : ℕ) → HasPeer (peers_of st.domain) m → Has (λ l. (l.sender ≡ number_in st) × (l.receiver ≡ m)) (lanes s)
    lane-to m has = let l = line-at i st at in let j = peer_joined m has in has_lane s board (number_in st) m j.0 l.line l.found l.is_number j.1

    -- each lane from the domain leads to a peer, and each to the domain comes from one
    pub sends-to-peer : AllByRecursion (λ l. l.sender ≡ number_in st → HasPeer (peers_of st.domain) l.receiver) (lanes s)
    sends-to-peer =
        all-weaken (λ (l : Lane). Joined s l.sender l.receiver l.size) (λ l. l.sender ≡ number_in st → HasPeer (peers_of st.domain) l.receiver)
        (λ l joined is. joined_peer l.receiver l.size (subst (λ (x : ℕ). Joined s x l.receiver l.size) is joined)) (lanes s) (lanes_join s)

    pub receives-from-peer : AllByRecursion (λ l. l.receiver ≡ number_in st → HasPeer (peers_of st.domain) l.sender) (lanes s)
    receives-from-peer =
        all-weaken (λ (l : Lane). Joined s l.sender l.receiver l.size) (λ l. l.receiver ≡ number_in st → HasPeer (peers_of st.domain) l.sender)
        (λ l joined is. joined_peer l.sender l.size (subst (λ (x : ℕ). Joined s x l.sender l.size) is (joined_back s l.sender l.receiver l.size joined))) (lanes s) (lanes_join s)

  -- the domain of each peer is among the stations'
  pub peer-there : (i : ℕ) (st : Station) → slice_get sts i ≡ Some st → (m : ℕ) → HasPeer (peers_of st.domain) m → domain_of (map (λ x. x.domain) sts) m ≡ None → ⊥
  peer-there i st at m has none =
      let j = peer_joined i st at m has in
      let d = joined_found s board m (number_in st) j.0 (joined_back s (number_in st) m j.0 j.1) in
      let nowhere : find (λ e. e.domain == m) (rising s) ≡ None = missing m sts (rising s) (board-numbers s sts b) none in
      none_some (find (λ e. e.domain == m) (rising s)) d.0 nowhere d.1

  -- of two domains each is a peer of the other, or neither is
  pub peer-back : (i j : ℕ) (one two : Station) → slice_get sts i ≡ Some one → slice_get sts j ≡ Some two → HasPeer (peers_of one.domain) (number_in two) → HasPeer (peers_of two.domain) (number_in one)
  peer-back i j one two at_one at_two has =
      let k = peer_joined i one at_one (number_in two) has in
      joined_peer j two at_two (number_in one) k.0 (joined_back s (number_in one) (number_in two) k.0 k.1)
