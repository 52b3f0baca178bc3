-- A board that runs stays as it is where the link between two of its domains is carried.
use Rattle.std.proofs.Common.{◌≡◌, ◌≢◌, ℕ, zero, suc, Bool, cond, List, [], ◌∷◌, ◌++◌, length, map, slice_get, slice_set, Option, Some, refl, sym, ap, ◌∙◌, subst, inl, inr, arith, eq-eqb, ne_eqb}
use Rattle.std.specs.Prelude.{◌==◌}
use Rattle.std.proofs.lemmas.Bool.Decides.{eqb_tells}
use Rattle.lane_end.specs.AnyLane.{AreEndsOfOneRing, EndsHaveMet}
use Rattle.lane_end.specs.AnyLaneLaws.{met-of-one}
use Rattle.board_model.specs.declared.scenario.DomainLine.{DomainLine}
use Rattle.board_model.specs.declared.scenario.Scenario.{Scenario}
use Rattle.board_model.specs.LinkedBoard.{Differ}
use Rattle.board_model.specs.Scenario.{Lane, lanes, rising}
use Rattle.board_model.specs.Loads.{Load, frames_on}
use Rattle.board_model.specs.SerialRun as run
use Rattle.board_model.specs.SerialRun.{Running}
use Rattle.board_model.proofs.MessageAlls.{all-weaken}
use Rattle.domain_core.specs.declared.Ends.TheVariants.{Linked}
use Rattle.domain_core.specs.Carrying.{AnyLink, AreLinked, Carries, link_to}
use Rattle.domain_core.proofs.Carries.{linked-carried}
use Rattle.board_runner.specs.declared.station.Station.{Station}
use Rattle.board_runner.specs.Near.{Near, IsLinkTo, RunEnds, RunDomain, near_to, near_of, near_among, peers_of, EndsMatch}
use Rattle.board_runner.specs.Stations.{domain_of, near, LaneHolds, LaneJoins, IsStation, AreStations, IsRun, IsOnBoard, IsBoard}
use Rattle.board_runner.specs.Carried.{HasCome, DidNothing}
use Rattle.board_runner.specs.StationsMet.{counted}
use Rattle.board_runner.proofs.PacketLemmas.{packets_stay}
use Rattle.board_runner.proofs.NearCarried.{Meets, link-met, link-peer, links-met, links-other, linked-near, match-carried, link-other, near-other, near-own}
use Rattle.board_runner.proofs.RunBoards.{stations-put}
use Rattle.board_runner.proofs.RunFinds.{map-replaced, some_same}
use Rattle.board_runner.proofs.RunStations.{domains_in, number_in, station-number, domain-at, domain-replaced, near-was, near-replaced}
use Rattle.board_runner.proofs.TurnLinks.{linked-back}
use Rattle.board_runner.proofs.TurnStations.{ids-stay}

-- ---- what is near

-- nothing was done, and nothing is known
pub did-nothing : (x y : Near) → y ≡ x → DidNothing x y
did-nothing x y is = record {
  put = ap (λ (n : Near). n.sent.put) is;
  back = ap (λ (n : Near). n.sent.back) is;
  taken = ap (λ (n : Near). n.got.taken) is;
  given = ap (λ (n : Near). n.got.given) is;
  knows = record { come = omega (arith, ap (λ (n : Near). n.got.known) is); back = omega (arith, ap (λ (n : Near). n.sent.known) is) };
}

pub did-nothing-both : (x y z : Near) → DidNothing x y → DidNothing y z → DidNothing x z
did-nothing-both x y z a b = record { put = b.put ∙ a.put; back = b.back ∙ a.back; taken = b.taken ∙ a.taken; given = b.given ∙ a.given; knows = record { come = omega (arith, a.knows.come, b.knows.come); back = omega (arith, a.knows.back, b.knows.back) } }

-- the link between two domains was carried, and all others stay
pub record LinkCome (n m : ℕ) (old new : ℕ → ℕ → Near) : Type 0 where
  pub there : Meets (old n m) (old m n) (new n m)
  pub back : Meets (old m n) (old n m) (new m n)
  pub others : (a b : ℕ) → (a ≡ n → b ≢ m) → (a ≡ m → b ≢ n) → new a b ≡ old a b

come_all : (x y x' y' : Near) → Meets x y x' → Meets y x y' → HasCome x' y'
come_all x y x' y' a b = record { put = omega (arith, ap length a.did.put, b.come); given = omega (arith, a.did.given, b.back) }

module _ (n m : ℕ) where
  -- which of the two ends this is, or neither
  by_ends : {P : Type 0} (a b : ℕ) → (a ≡ n → b ≡ m → P) → (a ≡ m → b ≡ n → P) → ((a ≡ n → b ≢ m) → (a ≡ m → b ≢ n) → P) → P
  by_ends {P} a b there back others = elim (eqb_tells a n) [
    | inl is_n ↦ elim (eqb_tells b m) [
      | inl to_m ↦ there is_n.1 to_m.1
      | inr not_m ↦ second (λ e. not_m.1)
    ]
    | inr not_n ↦ second (λ e. absurd (not_n.1 e))
  ]
    where
      second : (a ≡ n → b ≢ m) → P
      second first = elim (eqb_tells a m) [
        | inl is_m ↦ elim (eqb_tells b n) [
          | inl to_n ↦ back is_m.1 to_n.1
          | inr not_n ↦ others first (λ e. not_n.1)
        ]
        | inr not_m ↦ others first (λ e. absurd (not_m.1 e))
      ]

  module _ (old new : ℕ → ℕ → Near) (come : LinkCome n m old new) where
    pub has-come : HasCome (new n m) (new m n) × HasCome (new m n) (new n m)
    has-come = (come_all (old n m) (old m n) (new n m) (new m n) come.there come.back, come_all (old m n) (old n m) (new m n) (new n m) come.back come.there)

    -- nothing was done
    pub come-alike : (a b : ℕ) → DidNothing (old a b) (new a b)
    come-alike a b =
        by_ends a b (λ e f. subst (λ (x : ℕ). DidNothing (old x b) (new x b)) (sym e) (subst (λ (y : ℕ). DidNothing (old n y) (new n y)) (sym f) come.there.did))
        (λ e f. subst (λ (x : ℕ). DidNothing (old x b) (new x b)) (sym e) (subst (λ (y : ℕ). DidNothing (old m y) (new m y)) (sym f) come.back.did)) (λ first second. did-nothing (old a b) (new a b) (come.others a b first second))

-- ---- one lane

pub held-alike : (loads : List Load) (old new : List RunDomain) → ((a b : ℕ) → DidNothing (near old a b) (near new a b)) → (l : Lane) → LaneHolds old loads l → LaneHolds new loads l
held-alike loads old new alike l h =
    let from = alike l.sender l.receiver in
    let to = alike l.receiver l.sender in
    record {
      listed = h.listed;
      frames = from.put ∙ h.frames ∙ ap (λ (fs : List (List ℕ)). fs ++ frames_on loads l.sender l.receiver) (sym to.taken);
      returned = omega (arith, h.returned, from.back, to.given);
    }

-- ---- the two stations

abbrev pub with_domain : Station → RunDomain → Station
with_domain st d = record st { domain = d }

abbrev pub with_these : RunDomain → List RunEnds → RunDomain
with_these d es = record d { ends = es }

station_carried : (s : Scenario) (t : run.Station) (st : Station) (es : List RunEnds) → EndsMatch (number_in st) (peers_of st.domain) es → IsStation s t st → IsStation s t (with_domain st (with_these st.domain es))
station_carried s t st es matched h = record {
  state = h.state;
  told = h.told;
  number = h.number;
  held = record {
    requests = ids-stay st.domain (with_these st.domain es) st.ids t.run.labels.requests t.run.lines_called refl refl refl h.held.requests;
    packets = packets_stay st.domain (with_these st.domain es) st.packets t.run.labels.packets t.run.lines_called refl refl refl h.held.packets;
  };
  dropped = h.dropped;
  own = h.own;
  domain_number = h.domain_number;
  peers = h.peers;
  matched = subst (λ (n : ℕ). EndsMatch n (peers_of st.domain) es) (station-number s t st h) matched;
}

on_board_carried : (s : Scenario) (d : DomainLine) (st : Station) (es : List RunEnds) → EndsMatch (number_in st) (peers_of st.domain) es → IsOnBoard s d st → IsOnBoard s d (with_domain st (with_these st.domain es))
on_board_carried s d st es matched h = record { number = h.number; domain_number = h.domain_number; peers = h.peers; matched = subst (λ (n : ℕ). EndsMatch n (peers_of st.domain) es) h.number matched }

stations_kept : (s : Scenario) (ts : List run.Station) (sts : List Station) (i : ℕ) (st st' : Station) → AreStations s ts sts → slice_get sts i ≡ Some st → ((t : run.Station) → IsStation s t st → IsStation s t st') → AreStations s ts (slice_set sts i st')
stations_kept s [] [] i st st' are at keeps = tt
stations_kept s [] (u ∷ us) i st st' are at keeps = absurd are
stations_kept s (t ∷ ts) [] i st st' are at keeps = absurd are
stations_kept s (t ∷ ts) (u ∷ us) zero st st' are at keeps = let is : u ≡ st = some_same (Some u) u st refl at in (keeps t (subst (IsStation s t) is are.0), are.1)
stations_kept s (t ∷ ts) (u ∷ us) (suc i) st st' are at keeps = (are.0, stations_kept s ts us i st st' are.1 at keeps)

get_other : {A : Type 0} (xs : List A) (i j : ℕ) (x y : A) → i ≢ j → slice_get xs j ≡ Some x → slice_get (slice_set xs i y) j ≡ Some x
get_other [] i j x y other at = at
get_other (z ∷ xs) zero zero x y other at = absurd (other refl)
get_other (z ∷ xs) zero (suc j) x y other at = at
get_other (z ∷ xs) (suc i) zero x y other at = at
get_other (z ∷ xs) (suc i) (suc j) x y other at = get_other xs i j x y (λ e. other (ap suc e)) at

-- the link between the stations at two places is carried: these are the ends of their domains then
module _ (sts : List Station) (i j : ℕ) (one two : Station) (differ : Differ (map number_in sts)) (at_one : slice_get sts i ≡ Some one) (at_two : slice_get sts j ≡ Some two) (apart : number_in one ≢ number_in two)
    (linked : AreLinked AreEndsOfOneRing (number_in one) (number_in two) one.domain.ends two.domain.ends) (es fs : List RunEnds) (carries : Carries EndsHaveMet (number_in one) (number_in two) one.domain.ends two.domain.ends es fs)
    (match_one : EndsMatch (number_in one) (peers_of one.domain) one.domain.ends) (match_two : EndsMatch (number_in two) (peers_of two.domain) two.domain.ends) where
  abbrev n : ℕ
  n = number_in one

  abbrev m : ℕ
  m = number_in two

  abbrev one' : Station
  one' = with_domain one (with_these one.domain es)

  abbrev two' : Station
  two' = with_domain two (with_these two.domain fs)

  abbrev first : List Station
  first = slice_set sts i one'

  abbrev both : List Station
  both = slice_set first j two'

  abbrev old : List RunDomain
  old = domains_in sts

  abbrev new : List RunDomain
  new = domains_in both

  there_to : IsLinkTo m carries.there_after
  there_to = link-met carries.there carries.back carries.there_after carries.back_after m (link-peer m one.domain.ends carries.there carries.one_had) carries.meets

  back_to : IsLinkTo n carries.back_after
  back_to = link-met carries.back carries.there carries.back_after carries.there_after n (link-peer n two.domain.ends carries.back carries.two_had) (links-other carries.there carries.back carries.there_after carries.back_after carries.meets)

  match_one' : EndsMatch n (peers_of one.domain) es
  match_one' = subst (EndsMatch n (peers_of one.domain)) (sym carries.one_has) (match-carried m carries.there_after there_to n (peers_of one.domain) one.domain.ends match_one)

  match_two' : EndsMatch m (peers_of two.domain) fs
  match_two' = subst (EndsMatch m (peers_of two.domain)) (sym carries.two_has) (match-carried n carries.back_after back_to m (peers_of two.domain) two.domain.ends match_two)

  places_apart : i ≢ j
  places_apart e = apart (ap number_in (some_same (slice_get sts j) one two (ap (slice_get sts) (sym e) ∙ at_one) at_two))

  at_two_first : slice_get first j ≡ Some two
  at_two_first = get_other sts i j two one' places_apart at_two

  differ_first : Differ (map number_in first)
  differ_first = subst Differ (sym (map-replaced number_in sts i one one' at_one refl)) differ

  pub numbers-carried : map number_in both ≡ map number_in sts
  numbers-carried = map-replaced number_in first j two two' at_two_first refl ∙ map-replaced number_in sts i one one' at_one refl

  pub counts-carried : map counted both ≡ map counted sts
  counts-carried = map-replaced counted first j two two' at_two_first refl ∙ map-replaced counted sts i one one' at_one refl

  domain_is : (q : ℕ) → domain_of new q ≡ cond (q == m) (Some two'.domain) (cond (q == n) (Some one'.domain) (domain_of old q))
  domain_is q =
      domain-replaced first j two m differ_first at_two_first refl two' q refl
      ∙ ap (λ (o : Option RunDomain). cond (q == m) (Some two'.domain) o) (domain-replaced sts i one n differ at_one refl one' q refl)

  near_is : (q p : ℕ) → near new q p ≡ cond (q == m) (near_of two'.domain p) (cond (q == n) (near_of one'.domain p) (near old q p))
  near_is q p =
      near-replaced first j two m differ_first at_two_first refl two' refl q p
      ∙ ap (λ (x : Near). cond (q == m) (near_of two'.domain p) x) (near-replaced sts i one n differ at_one refl one' refl q p)

  near_one : (p : ℕ) → near old n p ≡ near_of one.domain p
  near_one p = near-was sts i one n differ at_one refl n p ∙ ap (λ (b : Bool). cond b (near_of one.domain p) (near old n p)) (eq-eqb n n refl)

  near_two : (p : ℕ) → near old m p ≡ near_of two.domain p
  near_two p = near-was sts j two m differ at_two refl m p ∙ ap (λ (b : Bool). cond b (near_of two.domain p) (near old m p)) (eq-eqb m m refl)

  new_one : (p : ℕ) → near new n p ≡ near_of one'.domain p
  new_one p =
      near_is n p ∙ ap (λ (b : Bool). cond b (near_of two'.domain p) (cond (n == n) (near_of one'.domain p) (near old n p))) (ne_eqb n m apart)
      ∙ ap (λ (b : Bool). cond b (near_of one'.domain p) (near old n p)) (eq-eqb n n refl)

  new_two : (p : ℕ) → near new m p ≡ near_of two'.domain p
  new_two p = near_is m p ∙ ap (λ (b : Bool). cond b (near_of two'.domain p) (cond (m == n) (near_of one'.domain p) (near old m p))) (eq-eqb m m refl)

  abbrev near_at : AnyLink → Near
  near_at l = near_to (Linked l)

  met_one : near new n m ≡ near_at carries.there_after
  met_one = new_one m ∙ ap (λ (xs : List RunEnds). near_among (peers_of one.domain) xs m) carries.one_has ∙ near-own m carries.there_after there_to n (λ e. apart (sym e)) (peers_of one.domain) one.domain.ends carries.there match_one carries.one_had

  met_two : near new m n ≡ near_at carries.back_after
  met_two = new_two n ∙ ap (λ (xs : List RunEnds). near_among (peers_of two.domain) xs n) carries.two_has ∙ near-own n carries.back_after back_to m apart (peers_of two.domain) two.domain.ends carries.back match_two carries.two_had

  was_one : near old n m ≡ near_at carries.there
  was_one = near_one m ∙ linked-near n m (peers_of one.domain) one.domain.ends carries.there (λ e. apart (sym e)) match_one carries.one_had

  was_two : near old m n ≡ near_at carries.back
  was_two = near_two n ∙ linked-near m n (peers_of two.domain) two.domain.ends carries.back apart match_two carries.two_had

  meets_as : (a b c x y z : Near) → a ≡ x → b ≡ y → c ≡ z → Meets x y z → Meets a b c
  meets_as a b c x y z e f g h = subst (λ (u : Near). Meets u b c) (sym e) (subst (λ (u : Near). Meets x u c) (sym f) (subst (Meets x y) (sym g) h))

  pub link-come : LinkCome n m (near old) (near new)
  link-come = record {
    there = meets_as (near old n m) (near old m n) (near new n m) (near_at carries.there) (near_at carries.back) (near_at carries.there_after) was_one was_two met_one (links-met carries.there carries.back carries.there_after carries.back_after carries.meets);
    back =
        meets_as (near old m n) (near old n m) (near new m n) (near_at carries.back) (near_at carries.there) (near_at carries.back_after) was_two was_one met_two
        (links-met carries.back carries.there carries.back_after carries.there_after (links-other carries.there carries.back carries.there_after carries.back_after carries.meets));
    others = λ a b not_there not_back. elim (eqb_tells a m) [
      | inl is_m ↦
          ap (λ (x : ℕ). near new x b) is_m.1 ∙ new_two b ∙ ap (λ (xs : List RunEnds). near_among (peers_of two.domain) xs b) carries.two_has ∙ near-other n carries.back_after back_to m b (not_back is_m.1) (peers_of two.domain) two.domain.ends match_two
          ∙ sym (near_two b) ∙ ap (λ (x : ℕ). near old x b) (sym is_m.1)
      | inr not_m ↦ elim (eqb_tells a n) [
        | inl is_n ↦
            ap (λ (x : ℕ). near new x b) is_n.1 ∙ new_one b ∙ ap (λ (xs : List RunEnds). near_among (peers_of one.domain) xs b) carries.one_has ∙ near-other m carries.there_after there_to n b (not_there is_n.1) (peers_of one.domain) one.domain.ends match_one
            ∙ sym (near_one b) ∙ ap (λ (x : ℕ). near old x b) (sym is_n.1)
        | inr not_n ↦
            near_is a b ∙ ap (λ (x : Bool). cond x (near_of two'.domain b) (cond (a == n) (near_of one'.domain b) (near old a b))) not_m.0
            ∙ ap (λ (x : Bool). cond x (near_of one'.domain b) (near old a b)) not_n.0
      ]
    ];
  }

  -- ---- links

  -- the domain of a number, as it was
  record Was (q : ℕ) (d : RunDomain) : Type 0 where
    before : RunDomain
    was : domain_of old q ≡ Some before
    is_one : q ≡ n → (before ≡ one.domain) × (d ≡ one'.domain)
    is_two : q ≡ m → (before ≡ two.domain) × (d ≡ two'.domain)
    other : q ≢ n → q ≢ m → d ≡ before

  was_at : (q : ℕ) (d : RunDomain) → domain_of new q ≡ Some d → Was q d
  was_at q d at = elim (eqb_tells q m) [
    | inl is_m ↦
        let is : two'.domain ≡ d = some_same (domain_of new q) two'.domain d (domain_is q ∙ ap (λ (b : Bool). cond b (Some two'.domain) (cond (q == n) (Some one'.domain) (domain_of old q))) is_m.0) at in
        record {
          before = two.domain;
          was = ap (domain_of old) is_m.1 ∙ domain-at sts j two m differ at_two refl;
          is_one = λ e. absurd (apart (sym e ∙ is_m.1));
          is_two = λ e. (refl, sym is);
          other = λ no_n no_m. absurd (no_m is_m.1);
        }
    | inr not_m ↦
        let rest : domain_of new q ≡ cond (q == n) (Some one'.domain) (domain_of old q) = domain_is q ∙ ap (λ (b : Bool). cond b (Some two'.domain) (cond (q == n) (Some one'.domain) (domain_of old q))) not_m.0 in
        elim (eqb_tells q n) [
          | inl is_n ↦
              let is : one'.domain ≡ d = some_same (domain_of new q) one'.domain d (rest ∙ ap (λ (b : Bool). cond b (Some one'.domain) (domain_of old q)) is_n.0) at in
              record {
                before = one.domain;
                was = ap (domain_of old) is_n.1 ∙ domain-at sts i one n differ at_one refl;
                is_one = λ e. (refl, sym is);
                is_two = λ e. absurd (not_m.1 e);
                other = λ no_n no_m. absurd (no_n is_n.1);
              }
          | inr not_n ↦ record {
            before = d;
            was = sym (rest ∙ ap (λ (b : Bool). cond b (Some one'.domain) (domain_of old q)) not_n.0) ∙ at;
            is_one = λ e. absurd (not_n.1 e);
            is_two = λ e. absurd (not_m.1 e);
            other = λ no_n no_m. refl;
          }
        ]
  ]

  -- a link that was not carried is as it was
  link_same : (q p : ℕ) (d : RunDomain) (w : Was q d) → (q ≡ n → p ≢ m) → (q ≡ m → p ≢ n) → link_to p d.ends ≡ link_to p w.before.ends
  link_same q p d w not_there not_back = elim (eqb_tells q n) [
    | inl is_n ↦
        let is = w.is_one is_n.1 in
        ap (λ (x : RunDomain). link_to p x.ends) is.1 ∙ ap (link_to p) carries.one_has ∙ link-other m carries.there_after there_to p (not_there is_n.1) one.domain.ends ∙ ap (λ (x : RunDomain). link_to p x.ends) (sym is.0)
    | inr not_n ↦ elim (eqb_tells q m) [
      | inl is_m ↦
          let is = w.is_two is_m.1 in
          ap (λ (x : RunDomain). link_to p x.ends) is.1 ∙ ap (link_to p) carries.two_has ∙ link-other n carries.back_after back_to p (not_back is_m.1) two.domain.ends ∙ ap (λ (x : RunDomain). link_to p x.ends) (sym is.0)
      | inr not_m ↦ ap (λ (x : RunDomain). link_to p x.ends) (w.other not_n.1 not_m.1)
    ]
  ]

  abbrev AreOn : ℕ → ℕ → List RunEnds → List RunEnds → Type 0
  AreOn a b xs ys = AreLinked AreEndsOfOneRing a b xs ys

  linked_there : AreOn n m es fs
  linked_there = linked-carried EndsHaveMet AreEndsOfOneRing met-of-one n m one.domain.ends two.domain.ends es fs linked carries

  linked_back : AreOn m n fs es
  linked_back = linked-back n m es fs linked_there

  linked_as : (a b : ℕ) (x y x' y' : RunDomain) (p q : ℕ) → a ≡ p → b ≡ q → x ≡ x' → y ≡ y' → AreOn p q x'.ends y'.ends → AreOn a b x.ends y.ends
  linked_as a b x y x' y' p q e f g h is =
      subst (λ (k : ℕ). AreOn k b x.ends y.ends) (sym e)
      (subst (λ (k : ℕ). AreOn p k x.ends y.ends) (sym f) (subst (λ (z : RunDomain). AreOn p q z.ends y.ends) (sym g) (subst (λ (z : RunDomain). AreOn p q x'.ends z.ends) (sym h) is)))

  joins_carried : (l : Lane) → LaneJoins old l → LaneJoins new l
  joins_carried l h = record {
    joined = λ two_domains x y at_x at_y.
        let a = l.sender in
        let b = l.receiver in
        let u = was_at a x at_x in
        let v = was_at b y at_y in
        by_ends n m a b (λ e f. linked_as a b x y one'.domain two'.domain n m e f (u.is_one e).1 (v.is_two f).1 linked_there)
        (λ e f. linked_as a b x y two'.domain one'.domain m n e f (u.is_two e).1 (v.is_one f).1 linked_back)
        (λ not_there not_back.
        let k = h.joined two_domains u.before v.before u.was v.was in
        record {
          there = k.there;
          back = k.back;
          one_has = link_same a b x u not_there not_back ∙ k.one_has;
          two_has = link_same b a y v (λ e f. not_back f e) (λ e f. not_there f e) ∙ k.two_has;
          joined = k.joined;
        });
  }

  pub are-carried : (s : Scenario) (r : Running) → IsRun s r sts → IsRun s r both
  are-carried s r h = record {
    lines = h.lines;
    each =
        stations_kept s r.stations first j two two' (stations_kept s r.stations sts i one one' h.each at_one (λ t is. station_carried s t one es match_one' is)) at_two_first
        (λ t is. station_carried s t two fs match_two' is);
    holds = all-weaken (LaneHolds old r.loads) (LaneHolds new r.loads) (held-alike r.loads old new (come-alike n m (near old) (near new) link-come)) (lanes s) h.holds;
    joins = all-weaken (LaneJoins old) (LaneJoins new) joins_carried (lanes s) h.joins;
  }

  pub board-carried : (s : Scenario) → IsBoard s sts → IsBoard s both
  board-carried s h = record {
    each =
        stations-put s (rising s) first j two two' (stations-put s (rising s) sts i one one' h.each at_one (λ d is. on_board_carried s d one es match_one' is)) at_two_first
        (λ d is. on_board_carried s d two fs match_two' is);
    joins = all-weaken (LaneJoins old) (LaneJoins new) joins_carried (lanes s) h.joins;
  }
