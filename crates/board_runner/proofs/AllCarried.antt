-- All is known once each link of the domain that put or gave back was carried.
use Rattle.std.proofs.Common.{◌≡◌, ◌≢◌, ℕ, zero, suc, ◌+◌, ◌<◌, Bool, true, false, cond, List, [], ◌∷◌, ◌++◌, length, slice_get, slice_set, Contains, IfSome, Option, Some, None, refl, sym, ap, ◌∙◌, subst, inl, inr, arith, eqb-true, eq-eqb, ne_eqb, true≢false}
use Rattle.std.specs.Prelude.{◌==◌}
use Rattle.std.specs.List.{AllByRecursion}
use Rattle.std.proofs.lemmas.Bool.Decides.{eqb_tells}
use Rattle.std.proofs.lemmas.List.{length-map}
use Rattle.std.proofs.lemmas.Option.{slice_get_within}
use Rattle.lane_end.specs.AnyLane.{AreEndsOfOneRing, EndsHaveMet}
use Rattle.board_model.specs.declared.scenario.Scenario.{Scenario}
use Rattle.board_model.specs.Language.{IsLawfulBoard}
use Rattle.board_model.specs.LinkedBoard.{Differ, IsLinkedBoard}
use Rattle.board_model.specs.Scenario.{Lane, lanes}
use Rattle.board_model.proofs.LawfulBoards.{lawful_is_linked}
use Rattle.board_model.proofs.WholeHas.{has-gives}
use Rattle.domain_core.specs.declared.Ends.TheVariants.{Own, Linked}
use Rattle.domain_core.specs.Carrying.{AreLinked, Carries}
use Rattle.board_runner.specs.declared.station.Station.{Station}
use Rattle.board_runner.specs.Near.{Near, nothing_near, frame_in, RunEnds, RunDomain, near_to, near_among, near_of, peers_of, EndsMatch}
use Rattle.board_runner.specs.Stations.{domain_of, near_in, near, LaneJoins, IsBoard}
use Rattle.board_runner.specs.Carried.{HasCome, IsTrue, OthersCarried, KnowsTruly, DidNothing}
use Rattle.board_runner.specs.Runs.{AllCarried, CarriedBut, KnowsTrulyAt}
use Rattle.board_runner.specs.Meeting.{MayMeetAt, MeetAt}
use Rattle.board_runner.specs.StationsMet.{AreLinkedPeers, DomainsMeet, linked, apart, StationsMayMeet, StationsMeet, domains_of, numbers_of, KeepsRun, ComesFrom, TrueOf, LinksMeetAt}
use Rattle.board_runner.proofs.PeersLanes.{HasPeer, has-contains, contains-has, lane-to, peer-back, peer-there}
use Rattle.board_runner.proofs.RunBoards.{board-at, board-differ, matched-at}
use Rattle.board_runner.proofs.RunFinds.{mapped-at, some_same}
use Rattle.board_runner.proofs.RunStations.{domain-at}
use Rattle.board_runner.proofs.RunCarried.{did-nothing, did-nothing-both, has-come, come-alike, with_domain, with_these, link-come, numbers-carried, counts-carried, are-carried, board-carried}

abbrev number_in : Station → ℕ
number_in st = st.domain.state.number

-- ---- what is known

-- what has come stays so where nothing is done
pub come-still : (x y x' y' : Near) → DidNothing x x' → DidNothing y y' → HasCome x y → HasCome x' y'
come-still x y x' y' a b h = record { put = omega (arith, ap length a.put, b.knows.come, h.put); given = omega (arith, a.given, b.knows.back, h.given) }

-- what is true later was true
pub true-before : (x y x' y' : Near) → DidNothing x x' → DidNothing y y' → IsTrue x' y' → IsTrue x y
true-before x y x' y' a b h = record {
  taken = (h.taken.0, sym b.put ∙ h.taken.1 ∙ ap (λ (fs : List (List ℕ)). fs ++ h.taken.0) a.taken);
  come = omega (arith, a.knows.come, ap length b.put, h.come);
  back = omega (arith, a.knows.back, b.given, h.back);
}

come_as : (x y u v : Near) → x ≡ u → y ≡ v → HasCome u v → HasCome x y
come_as x y u v e f h = subst (λ (n : Near). HasCome n y) (sym e) (subst (HasCome u) (sym f) h)

true_as : (x y u v : Near) → x ≡ u → y ≡ v → IsTrue u v → IsTrue x y
true_as x y u v e f h = subst (λ (n : Near). IsTrue n y) (sym e) (subst (IsTrue u) (sym f) h)

come_nothing : HasCome nothing_near nothing_near
come_nothing = record { put = omega arith; given = omega arith }

true_nothing : IsTrue nothing_near nothing_near
true_nothing = record { taken = ([], refl); come = omega arith; back = omega arith }

-- ---- stations of a board

module _ (s : Scenario) (board : IsLinkedBoard s) (sts : List Station) (b : IsBoard s sts) where
  near_domain : (i : ℕ) (st : Station) → slice_get sts i ≡ Some st → (p : ℕ) → near (domains_of sts) (number_in st) p ≡ near_of st.domain p
  near_domain i st at p = ap (λ (o : Option RunDomain). near_in o p) (domain-at sts i st (number_in st) (board-differ s sts b board) at refl)

  -- where one is a peer of the other, there is a link between them
  pub linked-peers : (i j : ℕ) (one two : Station) → slice_get sts i ≡ Some one → slice_get sts j ≡ Some two → number_in one ≢ number_in two → AreLinkedPeers one.domain two.domain
  linked-peers i j one two at_one at_two differ has =
      let differ_all = board-differ s sts b board in
      has-gives (LaneJoins (domains_of sts)) (λ (l : Lane). (l.sender ≡ number_in one) × (l.receiver ≡ number_in two)) (AreLinked AreEndsOfOneRing (number_in one) (number_in two) one.domain.ends two.domain.ends)
      (λ l joins is.
      subst (λ (x : ℕ). AreLinked AreEndsOfOneRing x (number_in two) one.domain.ends two.domain.ends) is.0
      (subst (λ (x : ℕ). AreLinked AreEndsOfOneRing l.sender x one.domain.ends two.domain.ends) is.1
      (joins.joined (λ e. differ (sym is.0 ∙ e ∙ is.1)) one.domain two.domain (ap (domain_of (domains_of sts)) is.0 ∙ domain-at sts i one (number_in one) differ_all at_one refl)
      (ap (domain_of (domains_of sts)) is.1 ∙ domain-at sts j two (number_in two) differ_all at_two refl))))
      (lanes s) b.joins (lane-to s board sts b i one at_one (number_in two) (contains-has (peers_of one.domain) (number_in two) has))

nothing_among : (ps : List ℕ) (es : List RunEnds) (m : ℕ) → (HasPeer ps m → ⊥) → near_among ps es m ≡ nothing_near
nothing_among [] es m none = refl
nothing_among (p ∷ ps) [] m none = refl
nothing_among (p ∷ ps) (e ∷ es) m none = ap (λ (b : Bool). cond b (near_to e) (near_among ps es m)) (ne_eqb p m (λ is. none (inl is))) ∙ nothing_among ps es m (λ later. none (inr later))

-- ---- a link that is carried

pub keeps-none : (sts : List Station) → KeepsRun sts sts
keeps-none sts = record { run = λ s r lawful h. h; board = λ s lawful h. h; numbers = refl; counts = refl; alike = λ a b. did-nothing (near (domains_of sts) a b) (near (domains_of sts) a b) refl }

pub keeps-both : (one two three : List Station) → KeepsRun one two → KeepsRun two three → KeepsRun one three
keeps-both one two three first then = record {
  run = λ s r lawful h. then.run s r lawful (first.run s r lawful h);
  board = λ s lawful h. then.board s lawful (first.board s lawful h);
  numbers = then.numbers ∙ first.numbers;
  counts = then.counts ∙ first.counts;
  alike = λ a b. did-nothing-both (near (domains_of one) a b) (near (domains_of two) a b) (near (domains_of three) a b) (first.alike a b) (then.alike a b);
}

pub meets-back : (i j : ℕ) (old new : List Station) → LinksMeetAt i j old new → LinksMeetAt j i old new
meets-back i j old new h = record { keeps = h.keeps; there = h.back; back = h.there; there_true = h.back_true; back_true = h.there_true }

no_item : {A : Type 0} (xs : List A) (i : ℕ) → i < length xs → slice_get xs i ≡ None → ⊥
no_item [] i within none = absurd (omega (arith, within))
no_item (x ∷ xs) zero within none = absurd cc
no_item (x ∷ xs) (suc i) within none = no_item xs i (omega (arith, within)) none

-- what holds of the numbers at two places holds of those told there
at_numbers : (P : ℕ → ℕ → Type 0) (ns : List ℕ) (i j n m : ℕ) → slice_get ns i ≡ Some n → slice_get ns j ≡ Some m → P n m → (x y : ℕ) → slice_get ns i ≡ Some x → slice_get ns j ≡ Some y → P x y
at_numbers P ns i j n m at_n at_m h x y at_x at_y =
    subst (λ (k : ℕ). P k y) (some_same (slice_get ns i) n x at_n at_x) (subst (λ (k : ℕ). P n k) (some_same (slice_get ns j) m y at_m at_y) h)

comes_by : (sts : List Station) (i j n m : ℕ) → slice_get (numbers_of sts) i ≡ Some n → slice_get (numbers_of sts) j ≡ Some m → HasCome (near (domains_of sts) n m) (near (domains_of sts) m n) → ComesFrom sts i j
comes_by sts i j n m at_n at_m h = at_numbers (λ x y. HasCome (near (domains_of sts) x y) (near (domains_of sts) y x)) (numbers_of sts) i j n m at_n at_m h

true_by : (sts : List Station) (i j n m : ℕ) → slice_get (numbers_of sts) i ≡ Some n → slice_get (numbers_of sts) j ≡ Some m → IsTrue (near (domains_of sts) n m) (near (domains_of sts) m n) → TrueOf sts i j
true_by sts i j n m at_n at_m h = at_numbers (λ x y. IsTrue (near (domains_of sts) x y) (near (domains_of sts) y x)) (numbers_of sts) i j n m at_n at_m h

set_here : {A : Type 0} (xs : List A) (i : ℕ) (x : A) → slice_get xs i ≡ Some x → slice_set xs i x ≡ xs
set_here [] i x e = refl
set_here {A} (z ∷ xs) zero x e = let is : z ≡ x = cc in ap (λ (y : A). y ∷ xs) (sym is)
set_here {A} (z ∷ xs) (suc i) x e = ap (λ (ys : List A). z ∷ ys) (set_here xs i x e)

-- the stations at two places with other domains
abbrev pub with_domains : List Station → ℕ → ℕ → Station → Station → RunDomain → RunDomain → List Station
with_domains sts i j one two d e = slice_set (slice_set sts i (with_domain one d)) j (with_domain two e)

module _ (s : Scenario) (lawful : IsLawfulBoard s) (sts : List Station) (on : IsBoard s sts) (i j : ℕ) (one two : Station) (at_one : slice_get sts i ≡ Some one) (at_two : slice_get sts j ≡ Some two) (i_j : i ≢ j) where
  board : IsLinkedBoard s
  board = lawful_is_linked s lawful

  abbrev n : ℕ
  n = number_in one

  abbrev m : ℕ
  m = number_in two

  at_n : slice_get (numbers_of sts) i ≡ Some n
  at_n = mapped-at number_in sts i one at_one

  at_m : slice_get (numbers_of sts) j ≡ Some m
  at_m = mapped-at number_in sts j two at_two

  differ : Differ (numbers_of sts)
  differ = board-differ s sts on board

  -- numbers that differ stand at one place each
  place_of : (ns : List ℕ) (k : ℕ) → AllByRecursion (λ x. x ≡ n → ⊥) ns → slice_get ns k ≡ Some n → ⊥
  place_of [] k others at = cc
  place_of (x ∷ ns) zero others at = let is : x ≡ n = cc in others.0 is
  place_of (x ∷ ns) (suc k) others at = place_of ns k others.1 at

  once : (ns : List ℕ) (k l : ℕ) → Differ ns → slice_get ns k ≡ Some n → slice_get ns l ≡ Some n → k ≡ l
  once [] k l apart_all at_k at_l = absurd cc
  once (x ∷ ns) zero zero apart_all at_k at_l = refl
  once (x ∷ ns) zero (suc l) apart_all at_k at_l = let is : x ≡ n = cc in absurd (place_of ns l (subst (λ (y : ℕ). AllByRecursion (λ z. z ≡ y → ⊥) ns) is apart_all.0) at_l)
  once (x ∷ ns) (suc k) zero apart_all at_k at_l = let is : x ≡ n = cc in absurd (place_of ns k (subst (λ (y : ℕ). AllByRecursion (λ z. z ≡ y → ⊥) ns) is apart_all.0) at_k)
  once (x ∷ ns) (suc k) (suc l) apart_all at_k at_l = ap suc (once ns k l apart_all.1 at_k at_l)

  n_m : n ≢ m
  n_m e = i_j (once (numbers_of sts) i j differ at_n (at_m ∙ ap (λ (x : ℕ). Some x) (sym e)))

  pub stations-may-meet : AreLinkedPeers one.domain two.domain
  stations-may-meet = linked-peers s board sts on i j one two at_one at_two n_m

  match_one : EndsMatch n (peers_of one.domain) one.domain.ends
  match_one = matched-at s sts on i one at_one

  match_two : EndsMatch m (peers_of two.domain) two.domain.ends
  match_two = matched-at s sts on j two at_two

  domains_met : (es fs : List RunEnds) → AreLinked AreEndsOfOneRing n m one.domain.ends two.domain.ends → Carries EndsHaveMet n m one.domain.ends two.domain.ends es fs → LinksMeetAt i j sts (with_domains sts i j one two (with_these one.domain es) (with_these two.domain fs))
  domains_met es fs l c =
      let new = with_domains sts i j one two (with_these one.domain es) (with_these two.domain fs) in
      let come = link-come sts i j one two differ at_one at_two n_m l es fs c match_one match_two in
      let numbers : numbers_of new ≡ numbers_of sts = numbers-carried sts i j one two differ at_one at_two n_m l es fs c match_one match_two in
      let both = has-come n m (near (domains_of sts)) (near (domains_of new)) come in
      let new_n : slice_get (numbers_of new) i ≡ Some n = ap (λ (ns : List ℕ). slice_get ns i) numbers ∙ at_n in
      let new_m : slice_get (numbers_of new) j ≡ Some m = ap (λ (ns : List ℕ). slice_get ns j) numbers ∙ at_m in
      record {
        keeps = record {
          run = λ s' r' lawful' run'. are-carried sts i j one two differ at_one at_two n_m l es fs c match_one match_two s' r' run';
          board = λ s' lawful' on'. board-carried sts i j one two differ at_one at_two n_m l es fs c match_one match_two s' on';
          numbers = numbers;
          counts = counts-carried sts i j one two differ at_one at_two n_m l es fs c match_one match_two;
          alike = come-alike n m (near (domains_of sts)) (near (domains_of new)) come;
        };
        there = comes_by new i j n m new_n new_m both.0;
        back = comes_by new j i m n new_m new_n both.1;
        there_true = true_by sts i j n m at_n at_m come.there.truly;
        back_true = true_by sts j i m n at_m at_n come.back.truly;
      }

  -- where neither is a peer of the other, nothing is between them
  apart_come : (Contains (peers_of one.domain) m → ⊥) → LinksMeetAt i j sts sts
  apart_come none =
      let none_one : HasPeer (peers_of one.domain) m → ⊥ = λ h. none (has-contains (peers_of one.domain) m h) in
      let none_two : HasPeer (peers_of two.domain) n → ⊥ = λ h. none_one (peer-back s board sts on j i two one at_two at_one h) in
      let there : near (domains_of sts) n m ≡ nothing_near = near_domain s board sts on i one at_one m ∙ nothing_among (peers_of one.domain) one.domain.ends m none_one in
      let back : near (domains_of sts) m n ≡ nothing_near = near_domain s board sts on j two at_two n ∙ nothing_among (peers_of two.domain) two.domain.ends n none_two in
      record {
        keeps = keeps-none sts;
        there = comes_by sts i j n m at_n at_m (come_as (near (domains_of sts) n m) (near (domains_of sts) m n) nothing_near nothing_near there back come_nothing);
        back = comes_by sts j i m n at_m at_n (come_as (near (domains_of sts) m n) (near (domains_of sts) n m) nothing_near nothing_near back there come_nothing);
        there_true = true_by sts i j n m at_n at_m (true_as (near (domains_of sts) n m) (near (domains_of sts) m n) nothing_near nothing_near there back true_nothing);
        back_true = true_by sts j i m n at_m at_n (true_as (near (domains_of sts) m n) (near (domains_of sts) n m) nothing_near nothing_near back there true_nothing);
      }

  pub links-meet-at : (d e : RunDomain) → DomainsMeet one.domain two.domain d e → LinksMeetAt i j sts (with_domains sts i j one two d e)
  links-meet-at d e (linked l carries one_is two_is) =
      subst (λ (x : RunDomain). LinksMeetAt i j sts (with_domains sts i j one two x e)) (sym one_is)
      (subst (λ (x : RunDomain). LinksMeetAt i j sts (with_domains sts i j one two (with_these one.domain d.ends) x)) (sym two_is) (domains_met d.ends e.ends l carries))
  links-meet-at d e (apart none one_is two_is) =
      subst (LinksMeetAt i j sts)
      (sym (ap (λ (x : RunDomain). with_domains sts i j one two x e) one_is ∙ ap (with_domains sts i j one two one.domain) two_is
      ∙ ap (λ (xs : List Station). slice_set xs j two) (set_here sts i one at_one) ∙ set_here sts j two at_two))
      (apart_come none)

-- ---- all links of a station

-- the domain that is found stands at a place
found_place : (sts : List Station) (q : ℕ) (d : RunDomain) → domain_of (domains_of sts) q ≡ Some d → (i : ℕ) × (slice_get (numbers_of sts) i ≡ Some q)
found_place [] q d e = absurd cc
found_place (x ∷ sts) q d e = go (number_in x == q) refl e (found_place sts q d)
  where
    go : (b : Bool) → (number_in x == q) ≡ b → cond b (Some x.domain) (domain_of (domains_of sts) q) ≡ Some d → (domain_of (domains_of sts) q ≡ Some d → (i : ℕ) × (slice_get (numbers_of sts) i ≡ Some q))
        → (i : ℕ) × (slice_get (numbers_of (x ∷ sts)) i ≡ Some q)
    go true is here later = (zero, ap (λ (k : ℕ). Some k) (eqb-true (number_in x) q is))
    go false is there later = let t = later there in (suc t.0, t.1)

own_come : (n : ℕ) (ps : List ℕ) (es : List RunEnds) → EndsMatch n ps es → HasCome (near_among ps es n) (near_among ps es n)
own_come n [] [] matched = come_nothing
own_come n [] (e ∷ es) matched = absurd matched
own_come n (p ∷ ps) [] matched = absurd matched
own_come n (p ∷ ps) (Own l ∷ es) matched =
    let is : near_among (p ∷ ps) (Own l ∷ es) n ≡ near_to (Own l) = ap (λ (b : Bool). cond b (near_to (Own l)) (near_among ps es n)) (eq-eqb p n matched.0) in
    come_as (near_among (p ∷ ps) (Own l ∷ es) n) (near_among (p ∷ ps) (Own l ∷ es) n) (near_to (Own l)) (near_to (Own l)) is is (record { put = (let many = length-map l.frames frame_in in omega (arith, many)); given = omega arith })
own_come n (p ∷ ps) (Linked l ∷ es) matched =
    let is : near_among (p ∷ ps) (Linked l ∷ es) n ≡ near_among ps es n = ap (λ (b : Bool). cond b (near_to (Linked l)) (near_among ps es n)) (ne_eqb p n matched.0) in
    come_as (near_among (p ∷ ps) (Linked l ∷ es) n) (near_among (p ∷ ps) (Linked l ∷ es) n) (near_among ps es n) (near_among ps es n) is is (own_come n ps es matched.2)

module _ (s : Scenario) (lawful : IsLawfulBoard s) (sts : List Station) (at : ℕ) (st : Station) (on : IsBoard s sts) (is : slice_get sts at ≡ Some st) where
  board_of : IsLinkedBoard s
  board_of = lawful_is_linked s lawful

  abbrev own : ℕ
  own = number_in st

  own_at : slice_get (numbers_of sts) at ≡ Some own
  own_at = mapped-at number_in sts at st is

  -- what holds of the stations at its place and at each other holds of it and of each other domain
  to_all : (P : Near → Near → Type 0) → ((x y u v : Near) → x ≡ u → y ≡ v → P u v → P x y) → P nothing_near nothing_near
      → ((j : ℕ) → j ≢ at → (n m : ℕ) → slice_get (numbers_of sts) at ≡ Some n → slice_get (numbers_of sts) j ≡ Some m → P (near (domains_of sts) n m) (near (domains_of sts) m n)) → (p : ℕ) → p ≢ own → P (near (domains_of sts) own p) (near (domains_of sts) p own)
  to_all P like nothing others p other = go (domain_of (domains_of sts) p) refl
    where
      go : (o : Option RunDomain) → domain_of (domains_of sts) p ≡ o → P (near (domains_of sts) own p) (near (domains_of sts) p own)
      go None none =
          like (near (domains_of sts) own p) (near (domains_of sts) p own) nothing_near nothing_near
          (near_domain s board_of sts on at st is p ∙ nothing_among (peers_of st.domain) st.domain.ends p (λ has. peer-there s board_of sts on at st is p has none)) (ap (λ (o : Option RunDomain). near_in o own) none) nothing
      go (Some d) found =
          let place = found_place sts p d found in
          others place.0 (λ e. other (some_same (slice_get (numbers_of sts) at) p own (ap (slice_get (numbers_of sts)) (sym e) ∙ place.1) own_at)) own p own_at place.1

  pub come-to-all : ((j : ℕ) → j ≢ at → ComesFrom sts at j) → (p : ℕ) → HasCome (near (domains_of sts) own p) (near (domains_of sts) p own)
  come-to-all others p = elim (eqb_tells p own) [
    | inl same ↦
        let here = near_domain s board_of sts on at st is own in
        subst (λ (q : ℕ). HasCome (near (domains_of sts) own q) (near (domains_of sts) q own)) (sym same.1)
        (come_as (near (domains_of sts) own own) (near (domains_of sts) own own) (near_of st.domain own) (near_of st.domain own) here here (own_come own (peers_of st.domain) st.domain.ends (matched-at s sts on at st is)))
    | inr other ↦ to_all HasCome come_as come_nothing others p other.1
  ]

  pub true-of-all : ((j : ℕ) → j ≢ at → TrueOf sts at j) → KnowsTruly own (domains_of sts)
  true-of-all others p other = to_all IsTrue true_as true_nothing others p other

-- what a call that carries a link tells
pub domains-meet : (one two one' two' : RunDomain) → AreLinkedPeers one two → Contains (peers_of one) two.state.number → Carries EndsHaveMet one.state.number two.state.number one.ends two.ends one'.ends two'.ends
    → one' ≡ record one { ends = one'.ends } → two' ≡ record two { ends = two'.ends } → DomainsMeet one two one' two'
domains-meet one two one' two' may has carries one_is two_is = linked (may has) carries one_is two_is

-- ---- the stations at two places

pub may-meet : (s : Scenario) → IsLawfulBoard s → (sts : List Station) → IsBoard s sts → (low high : ℕ) → low < high → MayMeetAt StationsMayMeet low high sts
may-meet s lawful sts on low high order one two at_one at_two =
    let t = board-at s sts on high two at_two in
    record { number = t.is.domain_number ∙ sym t.is.number; peers = stations-may-meet s lawful sts on low high one two at_one at_two (λ e. omega (arith, order, e)) }

pub links-met : (s : Scenario) → IsLawfulBoard s → (sts : List Station) → IsBoard s sts → (low high : ℕ) → low < high → (new : List Station) → MeetAt StationsMeet low high sts new → LinksMeetAt low high sts new
links-met s lawful sts on low high order new h =
    subst (LinksMeetAt low high sts)
    (sym (h.new_is ∙ ap (λ (x : Station). slice_set (slice_set sts low x) high h.two') h.met.one_keeps ∙ ap (λ (y : Station). slice_set (slice_set sts low (with_domain h.one h.one'.domain)) high y) h.met.two_keeps))
    (links-meet-at s lawful sts on low high h.one h.two h.at_one h.at_two (λ e. omega (arith, order, e)) h.one'.domain h.two'.domain h.met.domains)

-- ---- one station after the other

-- so many first ones know all that the domain at a place did, and what that knew of them was true
pub record CarriedUpTo (at count : ℕ) (old now : List Station) : Type 0 where
  pub keeps : KeepsRun old now
  pub come : (j : ℕ) → j < count → j ≢ at → ComesFrom now at j
  pub truly : (j : ℕ) → j < count → j ≢ at → TrueOf old at j

pub carried-none : (at : ℕ) (sts : List Station) → CarriedUpTo at 0 sts sts
carried-none at sts = record { keeps = keeps-none sts; come = λ j below. absurd (omega (arith, below)); truly = λ j below. absurd (omega (arith, below)) }

comes_stay : (old new : List Station) (i j : ℕ) → KeepsRun old new → ComesFrom old i j → ComesFrom new i j
comes_stay old new i j keeps come n m at_n at_m =
    let was : (k x : ℕ) → slice_get (numbers_of new) k ≡ Some x → slice_get (numbers_of old) k ≡ Some x = λ k x e. ap (λ (ns : List ℕ). slice_get ns k) (sym keeps.numbers) ∙ e in
    come-still (near (domains_of old) n m) (near (domains_of old) m n) (near (domains_of new) n m) (near (domains_of new) m n) (keeps.alike n m) (keeps.alike m n) (come n m (was i n at_n) (was j m at_m))

true_was : (old new : List Station) (i j : ℕ) → KeepsRun old new → TrueOf new i j → TrueOf old i j
true_was old new i j keeps truly n m at_n at_m =
    let is : (k x : ℕ) → slice_get (numbers_of old) k ≡ Some x → slice_get (numbers_of new) k ≡ Some x = λ k x e. ap (λ (ns : List ℕ). slice_get ns k) keeps.numbers ∙ e in
    true-before (near (domains_of old) n m) (near (domains_of old) m n) (near (domains_of new) n m) (near (domains_of new) m n) (keeps.alike n m) (keeps.alike m n) (truly n m (is i n at_n) (is j m at_m))

pub carried-more : (at count : ℕ) (old now new : List Station) → CarriedUpTo at count old now → LinksMeetAt at count now new → CarriedUpTo at (count + 1) old new
carried-more at count old now new h met = record {
  keeps = keeps-both old now new h.keeps met.keeps;
  come = λ j below other. by j (j == count) refl below (ComesFrom new at) met.there (λ less. comes_stay now new at j met.keeps (h.come j less other));
  truly = λ j below other. by j (j == count) refl below (TrueOf old at) (true_was old now at count h.keeps met.there_true) (λ less. h.truly j less other);
}
  where
    by : (j : ℕ) (b : Bool) → (j == count) ≡ b → j < count + 1 → (P : ℕ → Type 0) → P count → (j < count → P j) → P j
    by j true is below P here there = subst P (sym (eqb-true j count is)) here
    by j false not below P here there = there (let differ : j ≢ count = λ e. true≢false (sym (eq-eqb j count e) ∙ not) in omega (arith, below, differ))

pub carried-skip : (at count : ℕ) (old now : List Station) → CarriedUpTo at count old now → count ≡ at → CarriedUpTo at (count + 1) old now
carried-skip at count old now h is = record {
  keeps = h.keeps;
  come = λ j below other. h.come j (omega (arith, below, other, is)) other;
  truly = λ j below other. h.truly j (omega (arith, below, other, is)) other;
}

pub same-length : (old now : List Station) → KeepsRun old now → length now ≡ length old
same-length old now keeps = sym (length-map now number_in) ∙ ap length keeps.numbers ∙ length-map old number_in

-- all is known once it has come to all of them
pub all-carried : (s : Scenario) → IsLawfulBoard s → (old now : List Station) (at : ℕ) (x : Station) → slice_get old at ≡ Some x → IsBoard s old → OthersCarried (number_in x) (domains_of old) → CarriedUpTo at (length old) old now → AllCarried now
all-carried s lawful old now at x is_x on others h a b = elim (eqb_tells a (number_in x)) [
  | inl own ↦ go (slice_get now at) refl own.1
  | inr other ↦ come-still (near (domains_of old) a b) (near (domains_of old) b a) (near (domains_of now) a b) (near (domains_of now) b a) (h.keeps.alike a b) (h.keeps.alike b a) (others a b other.1)
]
  where
    at_x : slice_get (numbers_of now) at ≡ Some (number_in x)
    at_x = ap (λ (ns : List ℕ). slice_get ns at) h.keeps.numbers ∙ mapped-at number_in old at x is_x

    come_to : (j : ℕ) → j ≢ at → ComesFrom now at j
    come_to j other n m at_n at_m = h.come j (let within = slice_get_within (numbers_of now) j m at_m in omega (arith, within, length-map now number_in, same-length old now h.keeps)) other n m at_n at_m

    go : (o : Option Station) → slice_get now at ≡ o → a ≡ number_in x → HasCome (near (domains_of now) a b) (near (domains_of now) b a)
    go None none own = let within = slice_get_within (numbers_of now) at (number_in x) at_x in absurd (no_item now at (omega (arith, within, length-map now number_in)) none)
    go (Some st) is own =
        let same : a ≡ number_in st = own ∙ some_same (slice_get (numbers_of now) at) (number_in x) (number_in st) at_x (mapped-at number_in now at st is) in
        subst (λ (m : ℕ). HasCome (near (domains_of now) m b) (near (domains_of now) b m)) (sym same) (come-to-all s lawful now at st (h.keeps.board s lawful on) is come_to b)

pub all-carried-at : (s : Scenario) → IsLawfulBoard s → (old now : List Station) (at : ℕ) → at < length old → IsBoard s old → CarriedBut at old → CarriedUpTo at (length old) old now → AllCarried now
all-carried-at s lawful old now at within on others h = go (slice_get old at) refl others
  where
    go : (o : Option Station) → slice_get old at ≡ o → IfSome o (λ x. OthersCarried (number_in x) (domains_of old)) → AllCarried now
    go None none others = absurd (no_item old at within none)
    go (Some x) is others = all-carried s lawful old now at x is on others h

-- and what it knew was true
pub all-true-at : (s : Scenario) → IsLawfulBoard s → (old now : List Station) (at : ℕ) → IsBoard s old → CarriedUpTo at (length old) old now → KnowsTrulyAt at old
all-true-at s lawful old now at on h = go (slice_get old at) refl
  where
    true_at : (j : ℕ) → j ≢ at → TrueOf old at j
    true_at j other n m at_n at_m = h.truly j (let within = slice_get_within (numbers_of old) j m at_m in omega (arith, within, length-map old number_in)) other n m at_n at_m

    go : (o : Option Station) → slice_get old at ≡ o → IfSome o (λ x. KnowsTruly (number_in x) (domains_of old))
    go None none = tt
    go (Some x) is = true-of-all s lawful old at x on is true_at
