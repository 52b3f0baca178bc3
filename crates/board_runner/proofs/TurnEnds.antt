-- A turn at a domain's ends: it keeps whose ends they are, and what stands near towards each peer is what its visit left there.
use Rattle.std.proofs.Common.{◌≡◌, ℕ, Bool, true, false, cond, List, [], ◌∷◌, map, refl, sym, ap, ap₂, ◌∙◌, subst, eq-eqb, ne_eqb, eqb-true, true≢false}
use Rattle.std.specs.Prelude.{◌==◌}
use Rattle.std.specs.List.{AllByRecursion}
use Rattle.lane_end.specs.Halves.{RingSend-stays, RingRecv-stays}
use Rattle.lane_end.specs.AnySender.{AnySends}
use Rattle.lane_end.specs.AnyReceiver.{AnyReceives}
use Rattle.board_model.specs.Scenario.{Lane}
use Rattle.board_model.specs.Journal.{Visit}
use Rattle.board_model.specs.State.{DomainState}
use Rattle.board_model.specs.Deeds.{after_deeds}
use Rattle.board_model.specs.Serial.{returned_at_once}
use Rattle.board_model.specs.Turn.{AreVisits, after_visit}
use Rattle.board_model.specs.Unnamed.{unnamed}
use Rattle.board_model.specs.LinkedBoard.{Differ}
use Rattle.board_model.specs.Loads.{Load, turn_of, loads_turned, visits_to_all, loads_after}
use Rattle.board_model.proofs.ListsApart.{all-map, all-unmap}
use Rattle.board_model.proofs.MessageAlls.{all-weaken, all-with}
use Rattle.board_model.proofs.UnnamedDeeds.{deeds-unnamed, visit-unnamed}
use Rattle.board_model.proofs.WholeTurns.{turn_numbers}
use Rattle.domain_core.specs.declared.Ends.TheVariants.{Own, Linked}
use Rattle.domain_core.specs.LaneMoves.{LaneMove, sends, receives}
use Rattle.domain_core.specs.LinkMoved.{LinkMoved}
use Rattle.domain_core.specs.Carrying.{AnyLink}
use Rattle.domain_core.specs.Ends.{EndsMoved}
use Rattle.domain_core.specs.AllMoved.{AllMoved, turn_moves}
use Rattle.domain_core.specs.NumberedDeeds.{number_in, numbered_deeds}
use Rattle.domain_core.specs.Turned.{HaveNumbers, Turns}
use Rattle.board_runner.specs.Near.{Near, IsLinkTo, RunEnds, RunDomain, near_to, near_among, near_of, peers_of, EndsMatch}
use Rattle.board_runner.proofs.NearEnds.{NearVisited, LinkVisited, gives, visit_taking, link-visited, own-visited}
use Rattle.board_runner.proofs.Unnumbered.{visit-returns}
use Rattle.board_runner.proofs.LanesNear.{LaneStands, Exact, near_now, with_near}
use Rattle.board_runner.proofs.TurnLanes.{Stands, HasBoth, PeerTurn, peer_in, visits_in, peers_in, IsPeerTurn, GiveBack, IsExactTurn, near_after, turn-stands}

-- the moves of the ends
abbrev pub Moved : RunEnds → List LaneMove → RunEnds → Type 0
Moved = EndsMoved AnySends AnyReceives

-- ---- whose ends they are

link-stays : (p : ℕ) (a b : AnyLink) (ms : List LaneMove) → IsLinkTo p a → LinkMoved AnySends AnyReceives a ms b → IsLinkTo p b
link-stays p a b ms h moved = record { peer = moved.peer ∙ h.peer; sends = RingSend-stays a.send b.send (sends ms) h.sends moved.sent; receives = RingRecv-stays a.recv b.recv (receives ms) h.receives moved.received }

pub ends-match : (n : ℕ) (ps : List ℕ) (es : List RunEnds) (moves : List (List LaneMove)) (es' : List RunEnds) → EndsMatch n ps es → AllMoved Moved es moves es' → EndsMatch n ps es'
ends-match n [] [] [] [] matched moved = tt
ends-match n (p ∷ ps) (Own a ∷ es) (ms ∷ moves) (Own b ∷ es') matched moved = (matched.0, ends-match n ps es moves es' matched.1 moved.1)
ends-match n (p ∷ ps) (Linked a ∷ es) (ms ∷ moves) (Linked b ∷ es') matched moved = (matched.0, link-stays p a b ms matched.1 moved.0, ends-match n ps es moves es' matched.2 moved.1)
ends-match n [] [] [] (e ∷ es') matched moved = absurd moved
ends-match n [] [] (ms ∷ moves) es' matched moved = absurd moved
ends-match n [] (e ∷ es) moves es' matched moved = absurd matched
ends-match n (p ∷ ps) [] moves es' matched moved = absurd matched
ends-match n (p ∷ ps) (e ∷ es) [] es' matched moved = absurd moved
ends-match n (p ∷ ps) (e ∷ es) (ms ∷ moves) [] matched moved = absurd moved
ends-match n (p ∷ ps) (Own a ∷ es) (ms ∷ moves) (Linked b ∷ es') matched moved = absurd moved.0
ends-match n (p ∷ ps) (Linked a ∷ es) (ms ∷ moves) (Own b ∷ es') matched moved = absurd moved.0

-- ---- visits from a state, with the ends that they are made at

record Zipped (n : ℕ) (s : DomainState) (es : List RunEnds) (vs : List Visit) (es' : List RunEnds) : Type 0 where
  turns : List PeerTurn
  each : AllByRecursion (IsPeerTurn n) turns
  returns : GiveBack s turns
  visits : vs ≡ visits_in turns
  olds : es ≡ map (λ t. t.old) turns
  news : es' ≡ map (λ t. t.new) turns

abbrev peer_turn : Visit → ℕ → RunEnds → RunEnds → PeerTurn
peer_turn v gave e e' = record { visit = v; gave = gave; old = e; new = e' }

zipped-more : (n : ℕ) (s : DomainState) (e : RunEnds) (es : List RunEnds) (v : Visit) (vs : List Visit) (e' : RunEnds) (es' : List RunEnds) (gave : ℕ) → gave ≡ returned_at_once s v → IsPeerTurn n (peer_turn v gave e e') → Zipped n (after_visit s v) es vs es' → Zipped n s (e ∷ es) (v ∷ vs) (e' ∷ es')
zipped-more n s e es v vs e' es' gave is here rest = record {
  turns = peer_turn v gave e e' ∷ rest.turns;
  each = (here, rest.each);
  returns = (is, rest.returns);
  visits = ap (λ (us : List Visit). v ∷ us) rest.visits;
  olds = ap (λ (fs : List RunEnds). e ∷ fs) rest.olds;
  news = ap (λ (fs : List RunEnds). e' ∷ fs) rest.news;
}

-- the state after a visit, without names
pub visit-after : (s : DomainState) (v : Visit) (ns : List ℕ) → unnamed (after_deeds s (numbered_deeds v ns)) ≡ after_visit (unnamed s) v
visit-after s v ns = deeds-unnamed s (numbered_deeds v ns) ∙ ap (after_deeds (unnamed s)) (visit-unnamed (number_in ns) v)

zipped : (n : ℕ) (s : DomainState) (es : List RunEnds) (vs : List Visit) (numbers : List (List ℕ)) (es' : List RunEnds) → EndsMatch n (map (λ v. v.peer) vs) es → HaveNumbers vs numbers → AllMoved Moved es (turn_moves s vs numbers) es' → Zipped n (unnamed s) es vs es'
zipped n s [] [] numbers [] matched each moved = record { turns = []; each = tt; returns = tt; visits = refl; olds = refl; news = refl }
zipped n s [] [] numbers (e ∷ es') matched each moved = absurd moved
zipped n s (e ∷ es) [] numbers es' matched each moved = absurd matched
zipped n s [] (v ∷ vs) numbers es' matched each moved = absurd matched
zipped n s (e ∷ es) (v ∷ vs) [] es' matched each moved = absurd each
zipped n s (e ∷ es) (v ∷ vs) (ns ∷ numbers) [] matched each moved = absurd moved
zipped n s (Own a ∷ es) (v ∷ vs) (ns ∷ numbers) (Own b ∷ es') matched each moved =
    zipped-more n (unnamed s) (Own a) es v vs (Own b) es' (gives (visit_taking s v ns)) (visit-returns s v ns each.0)
    (subst (λ (o : Bool). NearVisited o (gives (visit_taking s v ns)) v (near_to (Own a)) (near_to (Own b))) (sym (eq-eqb v.peer n matched.0)) (own-visited s v ns a b each.0 moved.0))
    (subst (λ (t : DomainState). Zipped n t es vs es') (visit-after s v ns) (zipped n (after_deeds s (numbered_deeds v ns)) es vs numbers es' matched.1 each.1 moved.1))
zipped n s (Linked a ∷ es) (v ∷ vs) (ns ∷ numbers) (Linked b ∷ es') matched each moved =
    zipped-more n (unnamed s) (Linked a) es v vs (Linked b) es' (gives (visit_taking s v ns)) (visit-returns s v ns each.0)
    (subst (λ (o : Bool). NearVisited o (gives (visit_taking s v ns)) v (near_to (Linked a)) (near_to (Linked b))) (sym (ne_eqb v.peer n matched.0)) (link-visited s v ns v.peer a b matched.1 each.0 moved.0))
    (subst (λ (t : DomainState). Zipped n t es vs es') (visit-after s v ns) (zipped n (after_deeds s (numbered_deeds v ns)) es vs numbers es' matched.2 each.1 moved.1))
zipped n s (Own a ∷ es) (v ∷ vs) (ns ∷ numbers) (Linked b ∷ es') matched each moved = absurd moved.0
zipped n s (Linked a ∷ es) (v ∷ vs) (ns ∷ numbers) (Own b ∷ es') matched each moved = absurd moved.0

-- ---- what stands near

abbrev near_before : List PeerTurn → ℕ → Near
near_before ts q = near_among (peers_in ts) (map (λ t. t.old) ts) q

abbrev near_then : List PeerTurn → ℕ → Near
near_then ts q = near_among (peers_in ts) (map (λ t. t.new) ts) q

-- the first of the peers stands nowhere else
module _ (end : PeerTurn → RunEnds) where
  abbrev near_at : List PeerTurn → ℕ → Near
  near_at ts q = near_among (peers_in ts) (map end ts) q

  pub near-each : (ts : List PeerTurn) → Differ (peers_in ts) → AllByRecursion (λ t. near_at ts (peer_in t) ≡ near_to (end t)) ts
  near-each [] differ = tt
  near-each (t ∷ ts) differ = (
    ap (λ (b : Bool). cond b (near_to (end t)) (near_at ts (peer_in t))) (eq-eqb (peer_in t) (peer_in t) refl),
    all-with (λ u. peer_in u ≡ peer_in t → ⊥) (λ u. near_at ts (peer_in u) ≡ near_to (end u)) (λ u. near_at (t ∷ ts) (peer_in u) ≡ near_to (end u))
        (λ u other at. ap (λ (b : Bool). cond b (near_to (end t)) (near_at ts (peer_in u))) (ne_eqb (peer_in t) (peer_in u) (λ h. other (sym h))) ∙ at) ts
        (all-unmap (λ q. q ≡ peer_in t → ⊥) peer_in ts differ.0) (near-each ts differ.1),
  )

-- what stands near towards another peer stays
near-past : (own : ℕ → Near) (ts : List PeerTurn) (q : ℕ) → AllByRecursion (λ p. p ≡ q → ⊥) (peers_in ts) → near_after own ts q ≡ own q
near-past own [] q others = refl
near-past own (t ∷ ts) q others =
    near-past (with_near (peer_in t) (near_to t.new) own) ts q others.1 ∙ ap (λ (b : Bool). cond b (near_to t.new) (own q)) (ne_eqb q (peer_in t) (λ h. others.0 (sym h)))

near-own : (own : ℕ → Near) (ts : List PeerTurn) (q : ℕ) → Differ (peers_in ts) → own q ≡ near_before ts q → near_after own ts q ≡ near_then ts q
near-own own [] q differ at = at
near-own own (t ∷ ts) q differ at = go (peer_in t == q) refl at (λ later. near-own (with_near (peer_in t) (near_to t.new) own) ts q differ.1 later)
  where
    go : (b : Bool) → (peer_in t == q) ≡ b → own q ≡ cond b (near_to t.old) (near_before ts q) → (with_near (peer_in t) (near_to t.new) own q ≡ near_before ts q → near_after own (t ∷ ts) q ≡ near_then ts q) → near_after own (t ∷ ts) q ≡ cond b (near_to t.new) (near_then ts q)
    go true e h later =
        let is : peer_in t ≡ q = eqb-true (peer_in t) q e in
        near-past (with_near (peer_in t) (near_to t.new) own) ts q (subst (λ (m : ℕ). AllByRecursion (λ p. p ≡ m → ⊥) (peers_in ts)) is differ.0)
        ∙ ap (λ (b : Bool). cond b (near_to t.new) (own q)) (eq-eqb q (peer_in t) (sym is))
    go false e h later =
        later (ap (λ (b : Bool). cond b (near_to t.new) (own q)) (ne_eqb q (peer_in t) (λ is. true≢false (sym (eq-eqb (peer_in t) q (sym is)) ∙ e))) ∙ h)

-- ---- a turn

stands-same : (n : ℕ) (own other : ℕ → Near) (far : ℕ → ℕ → Near) (loads : List Load) → ((q : ℕ) → own q ≡ other q) → (l : Lane) → Stands n own far loads l → Stands n other far loads l
stands-same n own other far loads same l h =
    subst (LaneStands loads l.sender l.receiver (near_now n other far l.sender l.receiver)) (ap (λ (x : Near). cond (l.receiver == n) x (far l.receiver l.sender)) (same l.sender))
    (subst (λ (x : Near). LaneStands loads l.sender l.receiver x (near_now n own far l.receiver l.sender)) (ap (λ (x : Near). cond (l.sender == n) x (far l.sender l.receiver)) (same l.receiver)) h)

map-peers : (ts : List PeerTurn) → map (λ v. v.peer) (visits_in ts) ≡ peers_in ts
map-peers [] = refl
map-peers (t ∷ ts) = ap (λ (ps : List ℕ). peer_in t ∷ ps) (map-peers ts)

-- a turn of a domain at plain ends is that of the serial run, and leaves each lane at its ends
pub record TurnedLanes (far : ℕ → ℕ → Near) (ls : List Lane) (d d' : RunDomain) (visits : List Visit) (loads : List Load) : Type 0 where
  pub visits_are : visits ≡ turn_of d.state loads
  pub peers : peers_of d' ≡ peers_of d
  pub matched : EndsMatch d.state.number (peers_of d') d'.ends
  pub lanes : AllByRecursion (Stands d.state.number (near_of d') far (loads_turned d.state loads)) ls

-- a visit of a link, by what the domain did at its ends before the turn and after it
abbrev pub VisitedAt : RunDomain → RunDomain → Visit → Type 0
VisitedAt d d' v = (v.peer == d.state.number) ≡ false → (gave : ℕ) × LinkVisited gave v (near_of d v.peer) (near_of d' v.peer)

-- and by what the peer did it is exact
abbrev pub ExactAt : (ℕ → ℕ → Near) → RunDomain → Visit → Type 0
ExactAt far d v = (v.peer == d.state.number) ≡ false → Exact v (near_of d v.peer) (far v.peer d.state.number)

visited-false : (gave : ℕ) (v : Visit) (old new : Near) (b : Bool) → b ≡ false → NearVisited b gave v old new → LinkVisited gave v old new
visited-false gave v old new false e visited = visited
visited-false gave v old new true e visited = absurd cc

module _ (d d' : RunDomain) (visits : List Visit) (numbers : List (List ℕ)) (turns : Turns Moved visits numbers d d') (matched : EndsMatch d.state.number (peers_of d) d.ends) (differ : Differ (peers_of d)) where
  abbrev n : ℕ
  n = d.state.number

  z : Zipped n d.state d.ends visits d'.ends
  z = subst (λ (s : DomainState). Zipped n s d.ends visits d'.ends) (sym d.nameless) (zipped n d.numbered d.ends visits numbers d'.ends (subst (λ (ps : List ℕ). EndsMatch n ps d.ends) (sym turns.allowed.each_peer) matched) turns.each turns.moved)

  peers-in : peers_of d ≡ peers_in z.turns
  peers-in = sym turns.allowed.each_peer ∙ ap (map (λ (v : Visit). v.peer)) z.visits ∙ map-peers z.turns

  apart : Differ (peers_in z.turns)
  apart = subst Differ peers-in differ

  before : (q : ℕ) → near_of d q ≡ near_before z.turns q
  before q = ap₂ (λ (qs : List ℕ) (es : List RunEnds). near_among qs es q) peers-in z.olds

  peers-stay : peers_of d' ≡ peers_of d
  peers-stay = ap (λ (s : DomainState). map (λ p. p.number) s.peers) turns.state ∙ turn_numbers d.state visits

  then : (q : ℕ) → near_of d' q ≡ near_then z.turns q
  then q = ap₂ (λ (qs : List ℕ) (es : List RunEnds). near_among qs es q) (peers-stay ∙ peers-in) z.news

  -- each visit of the turn
  pub visits-told : AllByRecursion (VisitedAt d d') visits
  visits-told =
      subst (AllByRecursion (VisitedAt d d')) (sym z.visits)
      (all-map (VisitedAt d d') (λ (t : PeerTurn). t.visit) z.turns
      (all-with (λ t. IsPeerTurn n t × (near_before z.turns (peer_in t) ≡ near_to t.old)) (λ t. near_then z.turns (peer_in t) ≡ near_to t.new) (λ t. VisitedAt d d' t.visit)
      (λ t is new e. (
        t.gave,
        subst (λ (x : Near). LinkVisited t.gave t.visit x (near_of d' (peer_in t))) (sym (before (peer_in t) ∙ is.1))
            (subst (LinkVisited t.gave t.visit (near_to t.old)) (sym (then (peer_in t) ∙ new)) (visited-false t.gave t.visit (near_to t.old) (near_to t.new) (peer_in t == n) e is.0)),
      )) z.turns
      (all-with (IsPeerTurn n) (λ t. near_before z.turns (peer_in t) ≡ near_to t.old) (λ t. IsPeerTurn n t × (near_before z.turns (peer_in t) ≡ near_to t.old)) (λ t a b. (a, b)) z.turns z.each (near-each (λ t. t.old) z.turns apart))
      (near-each (λ t. t.new) z.turns apart)))

  module _ (far : ℕ → ℕ → Near) (ls : List Lane) (loads : List Load) (exact : AllByRecursion (ExactAt far d) visits) where
    exact-turns : AllByRecursion (IsExactTurn n far) z.turns
    exact-turns =
        all-with (λ t. ExactAt far d t.visit) (λ t. near_before z.turns (peer_in t) ≡ near_to t.old) (IsExactTurn n far)
        (λ t is old e. subst (λ (x : Near). Exact t.visit x (far (peer_in t) n)) (before (peer_in t) ∙ old) (is e)) z.turns
        (all-unmap (ExactAt far d) (λ (t : PeerTurn). t.visit) z.turns (subst (AllByRecursion (ExactAt far d)) z.visits exact)) (near-each (λ t. t.old) z.turns apart)

    pub turned-lanes : AllByRecursion (HasBoth ls n) (peers_of d) → AllByRecursion (Stands n (near_of d) far loads) ls → TurnedLanes far ls d d' visits loads
    turned-lanes both stands =
        let after : (q : ℕ) → near_after (near_before z.turns) z.turns q ≡ near_of d' q
        = λ q. near-own (near_before z.turns) z.turns q apart refl ∙ sym (then q) in
        let t = turn-stands n far ls z.turns d.state loads (near_before z.turns) refl z.returns (subst (AreVisits d.state) z.visits turns.allowed.allowed) z.each apart (near-each (λ t. t.old) z.turns apart)
        exact-turns (subst (AllByRecursion (HasBoth ls n)) peers-in both)
        (all-weaken (Stands n (near_of d) far loads) (Stands n (near_before z.turns) far loads) (stands-same n (near_of d) (near_before z.turns) far loads before) ls stands) in
        record {
          visits_are = z.visits ∙ t.visits ∙ ap (visits_to_all d.state loads) (sym peers-in);
          peers = peers-stay;
          matched = subst (λ (qs : List ℕ). EndsMatch n qs d'.ends) (sym peers-stay) (ends-match n (peers_of d) d.ends (turn_moves d.numbered visits numbers) d'.ends matched turns.moved);
          lanes =
              all-weaken (Stands n (near_after (near_before z.turns) z.turns) far (loads_turned d.state loads)) (Stands n (near_of d') far (loads_turned d.state loads))
              (stands-same n (near_after (near_before z.turns) z.turns) (near_of d') far (loads_turned d.state loads) after) ls
              (subst (λ (qs : List ℕ). AllByRecursion (Stands n (near_after (near_before z.turns) z.turns) far (loads_after d.state loads qs)) ls) (sym peers-in) t.lanes);
        }
