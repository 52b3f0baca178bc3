-- A board before its first line: its stations stand for those of the run, every lane is empty, and the ends of each link fit together.
use Rattle.std.proofs.Common.{◌≡◌, ◌≢◌, ℕ, ◌+◌, ◌<◌, Bool, true, false, cond, List, [], ◌∷◌, ◌++◌, map, sum_by, Option, Some, None, find, option_map, option_to_list, is_some, refl, sym, ap, ap₂, ◌∙◌, subst, arith, eq-eqb, eqb-true}
use Rattle.std.specs.Prelude.{◌==◌, nat_lt, IfSome, IsSome}
use Rattle.std.specs.List.{AllByRecursion}
use Rattle.std.proofs.lemmas.Bool.{cond_both, ne_eqb, and_from}
use Rattle.std.proofs.lemmas.List.{append-nil}
use Rattle.mc_base.specs.Limits.{no_key}
use Rattle.mc_base.specs.declared.request.PacketId.{PacketId}
use Rattle.mc_base.specs.declared.request.RequestId.{RequestId}
use Rattle.lane_end.specs.Loop.{Loop, new_loop}
use Rattle.board_model.specs.declared.scenario.DomainLine.{DomainLine}
use Rattle.board_model.specs.declared.scenario.LinkLine.{LinkLine}
use Rattle.board_model.specs.declared.scenario.Scenario.{Scenario}
use Rattle.board_model.specs.Scenario.{Neighbour, neighbour, neighbours, Lane, lanes, rising, script}
use Rattle.board_model.specs.Grammar.{IsLawfulDomain}
use Rattle.board_model.specs.LinkedBoard.{IsLinkedBoard}
use Rattle.board_model.specs.State.{DomainState, new_peer}
use Rattle.board_model.specs.Journal.{Line}
use Rattle.board_model.specs.Tallies.{deleted_in}
use Rattle.board_model.specs.Loads.{Load, empty_load, is_between, frames_in, returned_in}
use Rattle.board_model.specs.SerialRun as run
use Rattle.board_model.specs.SerialRun.{opened_station, opened}
use Rattle.board_model.proofs.MessageAlls.{all-found, all-weaken, found-passes}
use Rattle.board_model.proofs.ListsApart.{all-map}
use Rattle.board_model.proofs.BoardsRising.{rising-rises}
use Rattle.board_model.proofs.BoardsNeighbours.{rising-lawful, told-fits, joined-leads}
use Rattle.board_model.proofs.BoardsFound.{below, rising-next, rising-done, domain-at, neighbour-at}
use Rattle.board_model.proofs.WholeHas.{Has, has-weaken, has-map, has-each, has-found}
use Rattle.board_model.proofs.WholeJoined.{Joined, joined_back, joined_found, found_neighbour, lanes_join}
use Rattle.domain_core.specs.declared.Ends.TheVariants.{Own, Linked}
use Rattle.domain_core.specs.Opening.{neighbour_of, neighbours_opened, ends_opened, links_in}
use Rattle.domain_core.specs.Carrying.{AnyLink, link_to}
use Rattle.board_numbers.specs.Lanes.{line_of_domain, joins, size_between}
use Rattle.board_runner.specs.declared.station.Station.{Station}
use Rattle.board_runner.specs.Near.{Near, SentNear, GotNear, nothing_near, RunEnds, RunDomain, near_to, near_among, peers_of, near_of, EndsMatch}
use Rattle.board_runner.specs.declared.wires.Wire.{Wire}
use Rattle.board_runner.specs.Carried.{HasCome}
use Rattle.board_runner.specs.Wired.{IsNewLink, IsWired, wire_at, links_wired}
use Rattle.board_runner.specs.Opened.{IsOpened, AreOpened}
use Rattle.board_runner.specs.Runs.{AllCarried}
use Rattle.board_runner.specs.Stations.{IsKnown, IsKnownPacket, domain_of, near_in, near, LaneHolds, LaneJoins, IsStation, AreStations, IsRun}
use Rattle.board_runner.proofs.LinkLemmas.{none-below, links-differ, neighbours-opened}
use Rattle.board_runner.proofs.WiredLemmas.{find-wired}
use Rattle.board_runner.proofs.RunFinds.{some_same}

each : {A : Type 0} (P : A → Type 0) → ((x : A) → P x) → (xs : List A) → AllByRecursion P xs
each P holds [] = tt
each P holds (x ∷ xs) = (holds x, each P holds xs)

-- ---- the ends of a domain that is opened

linked_match : (number : ℕ) (ls : List AnyLink) → AllByRecursion IsNewLink ls → AllByRecursion (λ l. l.peer ≢ number) ls → EndsMatch number (map (λ n. n.number) (map neighbour_of ls)) (map (λ l. Linked l) ls)
linked_match number [] new others = tt
linked_match number (l ∷ ls) new others = (others.0, record { peer = refl; sends = new.0.sends; receives = new.0.receives }, linked_match number ls new.1 others.1)

opened_match : (number pool : ℕ) (own : Loop) (ls : List AnyLink) → AllByRecursion IsNewLink ls → AllByRecursion (λ l. l.peer ≢ number) ls → EndsMatch number (map (λ n. n.number) (neighbours_opened number pool ls)) (ends_opened number own ls)
opened_match number pool own [] new others = (refl, tt)
opened_match number pool own (l ∷ ls) new others = go (opened_match number pool own ls new.1 others.1) (nat_lt number l.peer)
  where
    go : EndsMatch number (map (λ n. n.number) (neighbours_opened number pool ls)) (ends_opened number own ls) → (b : Bool) →
        EndsMatch number (map (λ n. n.number) (cond b (neighbour number pool ∷ map neighbour_of (l ∷ ls)) (neighbour_of l ∷ neighbours_opened number pool ls))) (cond b (Own own ∷ map (λ m. Linked m) (l ∷ ls)) (Linked l ∷ ends_opened number own ls))
    go rest true = (refl, linked_match number (l ∷ ls) new others)
    go rest false = (others.0, record { peer = refl; sends = new.0.sends; receives = new.0.receives }, rest)

linked_all : (P : RunEnds → Type 0) (ls : List AnyLink) → AllByRecursion (λ l. P (Linked l)) ls → AllByRecursion P (map (λ l. Linked l) ls)
linked_all P ls all = all-map P (λ l. Linked l) ls all

opened_all : (P : RunEnds → Type 0) (number : ℕ) (own : Loop) (ls : List AnyLink) → P (Own own) → AllByRecursion (λ l. P (Linked l)) ls → AllByRecursion P (ends_opened number own ls)
opened_all P number own [] here all = (here, tt)
opened_all P number own (l ∷ ls) here all =
    cond_both (nat_lt number l.peer) (Own own ∷ map (λ m. Linked m) (l ∷ ls)) (Linked l ∷ ends_opened number own ls) (AllByRecursion P)
    (λ before. (here, linked_all P (l ∷ ls) all))
    (λ behind. (all.0, opened_all P number own ls here all.1))

linked_in : (ls : List AnyLink) → links_in (map (λ l. Linked l) ls) ≡ ls
linked_in [] = refl
linked_in (l ∷ ls) = ap (λ ks. l ∷ ks) (linked_in ls)

pub opened-links : (number : ℕ) (own : Loop) (ls : List AnyLink) → links_in (ends_opened number own ls) ≡ ls
opened-links number own [] = refl
opened-links number own (l ∷ ls) =
    cond_both (nat_lt number l.peer) (Own own ∷ map (λ m. Linked m) (l ∷ ls)) (Linked l ∷ ends_opened number own ls) (λ es. links_in es ≡ l ∷ ls)
    (λ before. linked_in (l ∷ ls))
    (λ behind. ap (λ ks. l ∷ ks) (opened-links number own ls))

-- ---- the stations

module _ (ws : List Wire) where
  one_more : (s : Scenario) (ds : List DomainLine) (sts : List Station) (d : DomainLine) (st : Station) → AreOpened s ws ds sts → IsOpened s (links_wired ws d.domain 8) d st → AreOpened s ws (ds ++ d ∷ []) (sts ++ st ∷ [])
  one_more s [] [] d st so_far new = (new, tt)
  one_more s [] (t ∷ ts) d st so_far new = absurd so_far
  one_more s (e ∷ es) [] d st so_far new = absurd so_far
  one_more s (e ∷ es) (t ∷ ts) d st so_far new = (so_far.0, one_more s es ts d st so_far.1 new)

  -- those below a number
  pub opened-begin : (s : Scenario) (sts : List Station) → sts ≡ [] → AreOpened s ws (below (λ d. d.domain) 0 (rising s)) sts
  opened-begin s sts none = subst (AreOpened s ws (below (λ (d : DomainLine). d.domain) 0 (rising s))) (sym none) (subst (λ (ds : List DomainLine). AreOpened s ws ds []) (sym (none-below (λ (d : DomainLine). d.domain) (rising s))) tt)

  next_line : (s : Scenario) → IsLinkedBoard s → (i : ℕ) (o : Option DomainLine) → line_of_domain s i ≡ o → below (λ d. d.domain) (i + 1) (rising s) ≡ below (λ d. d.domain) i (rising s) ++ option_to_list o
  next_line s board i o at = rising-next (λ (d : DomainLine). d.domain) i (rising s) (rising-rises s board) ∙ ap (λ (p : Option DomainLine). below (λ (d : DomainLine). d.domain) i (rising s) ++ option_to_list p) (domain-at s board i ∙ at)

  pub opened-next : (s : Scenario) → IsLinkedBoard s → (i : ℕ) (d : DomainLine) (sts new : List Station) (st : Station) → AreOpened s ws (below (λ d. d.domain) i (rising s)) sts → line_of_domain s i ≡ Some d → IsOpened s (links_wired ws d.domain 8) d st → new ≡ sts ++ st ∷ [] → AreOpened s ws (below (λ d. d.domain) (i + 1) (rising s)) new
  opened-next s board i d sts new st so_far at opens added =
      subst (AreOpened s ws (below (λ (e : DomainLine). e.domain) (i + 1) (rising s))) (sym added)
      (subst (λ (ds : List DomainLine). AreOpened s ws ds (sts ++ st ∷ [])) (sym (next_line s board i (Some d) at)) (one_more s (below (λ e. e.domain) i (rising s)) sts d st so_far opens))

  pub opened-none : (s : Scenario) → IsLinkedBoard s → (i : ℕ) (sts new : List Station) → AreOpened s ws (below (λ d. d.domain) i (rising s)) sts → line_of_domain s i ≡ None → new ≡ sts → AreOpened s ws (below (λ d. d.domain) (i + 1) (rising s)) new
  opened-none s board i sts new so_far at same =
      subst (AreOpened s ws (below (λ (e : DomainLine). e.domain) (i + 1) (rising s))) (sym same)
      (subst (λ (ds : List DomainLine). AreOpened s ws ds sts) (sym (next_line s board i None at ∙ append-nil (below (λ (e : DomainLine). e.domain) i (rising s)))) so_far)

  pub opened-done : (s : Scenario) → IsLinkedBoard s → (sts : List Station) → AreOpened s ws (below (λ d. d.domain) 8 (rising s)) sts → AreOpened s ws (rising s) sts
  opened-done s board sts all =
      subst (λ (ds : List DomainLine). AreOpened s ws ds sts)
      (rising-done (λ (d : DomainLine). d.domain) 8 (rising s) (all-weaken IsLawfulDomain (λ d. d.domain < 8) (λ d lawful. omega (arith, lawful.domain_fits)) (rising s) (rising-lawful s board))) all

  peers_numbered : (ns : List Neighbour) → map (λ p. p.number) (map new_peer ns) ≡ map (λ n. n.number) ns
  peers_numbered [] = refl
  peers_numbered (n ∷ ns) = ap (λ ms. n.number ∷ ms) (peers_numbered ns)

  opened_peers : (s : Scenario) (d : DomainLine) (st : Station) → IsOpened s (links_wired ws d.domain 8) d st → peers_of st.domain ≡ map (λ n. n.number) (neighbours s d)
  opened_peers s d st h = ap (λ (x : DomainState). map (λ p. p.number) x.peers) h.state ∙ peers_numbered (neighbours s d)

  is_station : (s : Scenario) → IsLinkedBoard s → (d : DomainLine) (st : Station) → IsOpened s (links_wired ws d.domain 8) d st → IsStation s (opened_station s d) st
  is_station s board d st h = record {
    state = h.state;
    told = h.told;
    number = h.number;
    held = record {
      requests = record {
        few = omega (arith, ap (λ (x : DomainState). x.requests_given) h.state);
        serials = ap (map (λ (i : RequestId). i.serial)) h.requests ∙ sym (ap (λ (x : DomainState). map (λ q. q.serial) x.requests) h.state);
        given = subst (AllByRecursion (λ (i : RequestId). i.serial < st.domain.state.requests_given)) (sym h.requests) tt;
        keys = subst (AllByRecursion (λ (i : RequestId). i.key ≢ no_key)) (sym h.requests) tt;
        told = λ label. ap (option_map (λ (i : RequestId). i.serial)) (h.labels label);
        known = λ label. subst (λ (o : Option RequestId). IfSome o (IsKnown st.domain)) (sym (h.labels label)) tt;
      };
      packets = record {
        few = omega (arith, ap (λ (x : DomainState). x.packets_lent) h.state);
        small = omega (arith, ap (λ (x : DomainState). x.packets_lent) h.state);
        serials = ap (map (λ (i : PacketId). i.serial)) h.packets ∙ sym (ap (λ (x : DomainState). map (λ p. p.serial) x.lent) h.state);
        lent = subst (AllByRecursion (λ (i : PacketId). i.serial < st.domain.state.packets_lent)) (sym h.packets) tt;
        told = λ label. ap (option_map (λ (i : PacketId). i.serial)) (h.packet_labels label);
        known = λ label. subst (λ (o : Option PacketId). IfSome o (IsKnownPacket st.domain)) (sym (h.packet_labels label)) tt;
      };
    };
    dropped = h.dropped ∙ sym (ap (λ (ls : List Line). sum_by (deleted_in (script s d.domain)) ls) h.told);
    own = refl;
    domain_number = h.domain_number;
    peers = opened_peers s d st h;
    matched = subst (λ (ps : List ℕ). EndsMatch d.domain ps st.domain.ends)
        (sym (opened_peers s d st h ∙ ap (map (λ (n : Neighbour). n.number)) (sym (neighbours-opened s board d (links_wired ws d.domain 8) h.on))))
        (subst (EndsMatch d.domain (map (λ n. n.number) (neighbours_opened d.domain d.pool (links_wired ws d.domain 8)))) (sym h.ends)
        (opened_match d.domain d.pool (new_loop d.pool) (links_wired ws d.domain 8) h.on.new (links-differ s d (links_wired ws d.domain 8) h.on)));
  }

  are_stations : (s : Scenario) → IsLinkedBoard s → (ds : List DomainLine) (sts : List Station) → AreOpened s ws ds sts → AreStations s (map (opened_station s) ds) sts
  are_stations s board [] [] all = tt
  are_stations s board [] (st ∷ sts) all = absurd all
  are_stations s board (d ∷ ds) [] all = absurd all
  are_stations s board (d ∷ ds) (st ∷ sts) all = (is_station s board d st all.0, are_stations s board ds sts all.1)

  lines_opened : (s : Scenario) (ds : List DomainLine) → map (λ (t : run.Station). t.line) (map (opened_station s) ds) ≡ ds
  lines_opened s [] = refl
  lines_opened s (d ∷ ds) = ap (λ es. d ∷ es) (lines_opened s ds)

  abbrev domains_of : List Station → List RunDomain
  domains_of sts = map (λ st. st.domain) sts

  -- the station of a domain
  record StandsAt (s : Scenario) (d : DomainLine) (found : Option RunDomain) : Type 0 where
    station : Station
    is : found ≡ Some station.domain
    opens : IsOpened s (links_wired ws d.domain 8) d station

  first_stands : (s : Scenario) (e d : DomainLine) (st : Station) (rest : Option RunDomain) (others : Option DomainLine) → IsOpened s (links_wired ws e.domain 8) e st → (others ≡ Some d → StandsAt s d rest) →
      (b : Bool) → cond b (Some e) others ≡ Some d → StandsAt s d (cond b (Some st.domain) rest)
  first_stands s e d st rest others first later true found = record { station = st; is = refl; opens = (let same : e ≡ d = cc in subst (λ x. IsOpened s (links_wired ws x.domain 8) x st) same first) }
  first_stands s e d st rest others first later false found = later found

  stands_at : (s : Scenario) (n : ℕ) (d : DomainLine) (ds : List DomainLine) (sts : List Station) → AreOpened s ws ds sts → find (λ e. e.domain == n) ds ≡ Some d → StandsAt s d (domain_of (domains_of sts) n)
  stands_at s n d [] [] all found = absurd cc
  stands_at s n d [] (st ∷ sts) all found = absurd all
  stands_at s n d (e ∷ es) [] all found = absurd all
  stands_at s n d (e ∷ es) (st ∷ sts) all found =
      let named : st.domain.state.number ≡ e.domain = ap (λ (x : DomainState). x.number) all.0.state in
      subst (λ (k : ℕ). StandsAt s d (cond (k == n) (Some st.domain) (domain_of (domains_of sts) n))) (sym named)
      (first_stands s e d st (domain_of (domains_of sts) n) (find (λ x. x.domain == n) es) all.0 (stands_at s n d es sts all.1) (e.domain == n) found)

  -- ---- the lanes

  nothing_among : (ps : List ℕ) (es : List RunEnds) (n : ℕ) → AllByRecursion (λ e. near_to e ≡ nothing_near) es → near_among ps es n ≡ nothing_near
  nothing_among [] es n all = refl
  nothing_among (p ∷ ps) [] n all = refl
  nothing_among (p ∷ ps) (e ∷ es) n all = cond_both (p == n) (near_to e) (near_among ps es n) (λ x. x ≡ nothing_near) (λ it. all.0) (λ not_it. nothing_among ps es n all.1)

  nothing_at : (s : Scenario) (d : DomainLine) (st : Station) → IsOpened s (links_wired ws d.domain 8) d st → (peer : ℕ) → near_of st.domain peer ≡ nothing_near
  nothing_at s d st h peer =
      nothing_among (peers_of st.domain) st.domain.ends peer
      (subst (AllByRecursion (λ (e : RunEnds). near_to e ≡ nothing_near)) (sym h.ends)
      (opened_all (λ e. near_to e ≡ nothing_near) d.domain (new_loop d.pool) (links_wired ws d.domain 8) refl
      (all-weaken IsNewLink (λ (l : AnyLink). near_to (Linked l) ≡ nothing_near) (λ l new. ap₂ (λ (x : SentNear) (y : GotNear). record { sent = x; got = y }) new.sent new.got) (links_wired ws d.domain 8) h.on.new)))

  abbrev HasNothingNear : RunDomain → Type 0
  HasNothingNear d = (peer : ℕ) → near_of d peer ≡ nothing_near

  all_nothing : (s : Scenario) (ds : List DomainLine) (sts : List Station) → AreOpened s ws ds sts → AllByRecursion HasNothingNear (domains_of sts)
  all_nothing s [] [] all = tt
  all_nothing s [] (st ∷ sts) all = absurd all
  all_nothing s (d ∷ ds) [] all = absurd all
  all_nothing s (d ∷ ds) (st ∷ sts) all = (nothing_at s d st all.0, all_nothing s ds sts all.1)

  nothing : (ds : List RunDomain) → AllByRecursion HasNothingNear ds → (n peer : ℕ) → near ds n peer ≡ nothing_near
  nothing ds all n peer = go (domain_of ds n) refl
    where
      go : (o : Option RunDomain) → domain_of ds n ≡ o → near_in o peer ≡ nothing_near
      go None found = refl
      go (Some d) found = all-found HasNothingNear (λ x. x.state.number == n) ds d all found peer

  -- no lane has a load
  record IsUnloaded (o : Option Load) : Type 0 where
    frames : frames_in o ≡ []
    returned : returned_in o ≡ 0

  unloaded : (ls : List Lane) (a b : ℕ) → IsUnloaded (find (is_between a b) (map empty_load ls))
  unloaded ls a b = go (find (is_between a b) (map empty_load ls)) refl
    where
      empty : AllByRecursion (λ l. IsUnloaded (Some l)) (map empty_load ls)
      empty = all-map (λ l. IsUnloaded (Some l)) empty_load ls (each (λ l. IsUnloaded (Some (empty_load l))) (λ l. record { frames = refl; returned = refl }) ls)

      go : (o : Option Load) → find (is_between a b) (map empty_load ls) ≡ o → IsUnloaded o
      go None found = record { frames = refl; returned = refl }
      go (Some l) found = all-found (λ x. IsUnloaded (Some x)) (is_between a b) (map empty_load ls) l empty found

  some_found : (o : Option Load) → ((l : Load) × (o ≡ Some l)) → IsSome o
  some_found o (l, e) = ap is_some e

  listed : (ls : List Lane) → AllByRecursion (λ l. IsSome (find (is_between l.sender l.receiver) (map empty_load ls))) ls
  listed ls = all-weaken (λ l. Has (λ m. m ≡ l) ls) (λ l. IsSome (find (is_between l.sender l.receiver) (map empty_load ls))) at ls (has-each ls)
    where
      between : (l m : Lane) → m ≡ l → is_between l.sender l.receiver (empty_load m) ≡ true
      between l m e = and_from (m.sender == l.sender) (m.receiver == l.receiver) (eq-eqb m.sender l.sender (ap (λ (x : Lane). x.sender) e)) (eq-eqb m.receiver l.receiver (ap (λ (x : Lane). x.receiver) e))

      at : (l : Lane) → Has (λ m. m ≡ l) ls → IsSome (find (is_between l.sender l.receiver) (map empty_load ls))
      at l has =
          some_found (find (is_between l.sender l.receiver) (map empty_load ls)) (has-found (is_between l.sender l.receiver) (map empty_load ls)
          (has-map (λ x. is_between l.sender l.receiver x ≡ true) empty_load ls (has-weaken (λ m. m ≡ l) (λ m. is_between l.sender l.receiver (empty_load m) ≡ true) (between l) ls has)))

  lane_holds : (ds : List RunDomain) (ls : List Lane) → AllByRecursion HasNothingNear ds → (l : Lane) → IsSome (find (is_between l.sender l.receiver) (map empty_load ls)) → LaneHolds ds (map empty_load ls) l
  lane_holds ds ls all l some =
      let there = nothing ds all l.sender l.receiver in
      let back = nothing ds all l.receiver l.sender in
      record {
        listed = some;
        frames = ap (λ (x : Near). x.sent.put) there ∙ sym (ap₂ (λ (x : Near) (fs : List (List ℕ)). x.got.taken ++ fs) back (unloaded ls l.sender l.receiver).frames);
        returned = omega (arith, ap (λ (x : Near). x.got.given) back, ap (λ (x : Near). x.sent.back) there, (unloaded ls l.sender l.receiver).returned);
      }

  -- where two domains are joined, the one has ends of a link to the other
  wire_joined : (s : Scenario) → IsLinkedBoard s → IsWired s ws → (a b size : ℕ) → (b ≡ a → ⊥) → Joined s a b size → (l : AnyLink) × (wire_at ws a b ≡ Some l)
  wire_joined s board wired a b size apart joined = go (joined_found s board a b size joined)
    where
      some_wire : (o : Option AnyLink) → IsSome (option_map (λ (l : AnyLink). l.size) o) → (l : AnyLink) × (o ≡ Some l)
      some_wire None some = absurd cc
      some_wire (Some l) some = (l, refl)

      nothing_there : (o : Option LinkLine) → option_map (λ (l : LinkLine). l.size) o ≡ None → o ≡ None
      nothing_there None e = refl
      nothing_there (Some l) e = absurd cc

      sized : (d : DomainLine) → d.domain ≡ a → (o : Option ℕ) → size_between s a b ≡ o → (m : Neighbour) → find (λ n. n.number == b) (neighbours s d) ≡ Some m → IsSome o
      sized d is_a None none m found =
          let at = neighbour-at s board d b in
          let other = ne_eqb d.domain b (λ e. apart (sym e ∙ is_a)) in
          let nowhere : find (joins d.domain b) s.links ≡ None = nothing_there (find (joins d.domain b) s.links) (ap (λ (n : ℕ). option_map (λ (l : LinkLine). l.size) (find (joins n b) s.links)) is_a ∙ none) in
          let gone : find (λ n. n.number == b) (neighbours s d) ≡ None =
          at ∙ ap (λ (x : Bool). cond x (Some (neighbour d.domain d.pool)) (option_map (λ l. neighbour b l.size) (find (joins d.domain b) s.links))) other ∙ ap (option_map (λ l. neighbour b l.size)) nowhere in
          absurd cc
      sized d is_a (Some n) some m found = refl

      go : ((d : DomainLine) × (find (λ e. e.domain == a) (rising s) ≡ Some d)) → (l : AnyLink) × (wire_at ws a b ≡ Some l)
      go (d, at) =
          let is_a : d.domain ≡ a = eqb-true d.domain a (found-passes (λ e. e.domain == a) (rising s) d at) in
          let n = found_neighbour s board a b size d at is_a joined in
          some_wire (wire_at ws a b) (subst IsSome (sym (wired.sizes a b)) (sized d is_a (size_between s a b) refl n.0 n.1))

  -- the link of an opened domain to a peer is that of its wires
  link_at : (s : Scenario) → IsLinkedBoard s → (sts : List Station) → AreOpened s ws (rising s) sts → (a b size : ℕ) → b < 8 → Joined s a b size → (l : AnyLink) → wire_at ws a b ≡ Some l → (one : RunDomain) → domain_of (domains_of sts) a ≡ Some one → link_to b one.ends ≡ Some l
  link_at s board sts all a b size few joined l wire one found = go (joined_found s board a b size joined)
    where
      go : ((d : DomainLine) × (find (λ e. e.domain == a) (rising s) ≡ Some d)) → link_to b one.ends ≡ Some l
      go (d, at) =
          let is_a : d.domain ≡ a = eqb-true d.domain a (found-passes (λ e. e.domain == a) (rising s) d at) in
          let stands = stands_at s a d (rising s) sts all at in
          let same : one ≡ stands.station.domain = some_same (domain_of (domains_of sts) a) one stands.station.domain found stands.is in
          ap (λ (x : RunDomain). link_to b x.ends) same ∙ ap (link_to b) stands.opens.ends ∙ ap (find (λ (k : AnyLink). k.peer == b)) (opened-links d.domain (new_loop d.pool) (links_wired ws d.domain 8))
          ∙ ap (λ (n : ℕ). find (λ (k : AnyLink). k.peer == b) (links_wired ws n 8)) is_a ∙ find-wired ws a b 8 few l wire

  lane_joins : (s : Scenario) → IsLinkedBoard s → IsWired s ws → (sts : List Station) → AreOpened s ws (rising s) sts → (l : Lane) → Joined s l.sender l.receiver l.size → LaneJoins (domains_of sts) l
  lane_joins s board wired sts all l joined = record {
    joined = λ apart one two at_one at_two.
        let w = wire_joined s board wired l.sender l.receiver l.size (λ e. apart (sym e)) joined in
        let h = wired.lanes l.sender l.receiver w.0 w.1 in
        let back = joined_back s l.sender l.receiver l.size joined in
        let fits = told-fits s board l.receiver (joined-leads s board l.sender l.receiver l.size joined).told in
        let fits_back = told-fits s board l.sender (joined-leads s board l.receiver l.sender l.size back).told in
        record {
          there = w.0;
          back = h.back;
          one_has = link_at s board sts all l.sender l.receiver l.size (omega (arith, fits)) joined w.0 w.1 one at_one;
          two_has = link_at s board sts all l.receiver l.sender l.size (omega (arith, fits_back)) back h.back h.is two at_two;
          joined = record { there = h.out.one; back = h.into.one };
        };
  }

  -- ---- the board

  is_run : (s : Scenario) → IsLinkedBoard s → IsWired s ws → (sts : List Station) → AreOpened s ws (rising s) sts → IsRun s (opened s) sts
  is_run s board wired sts all = record {
    lines = lines_opened s (rising s);
    each = are_stations s board (rising s) sts all;
    holds = all-weaken (λ l. IsSome (find (is_between l.sender l.receiver) (map empty_load (lanes s)))) (LaneHolds (domains_of sts) (map empty_load (lanes s))) (lane_holds (domains_of sts) (lanes s) (all_nothing s (rising s) sts all)) (lanes s) (listed (lanes s));
    joins = all-weaken (λ l. Joined s l.sender l.receiver l.size) (LaneJoins (domains_of sts)) (lane_joins s board wired sts all) (lanes s) (lanes_join s);
  }

  -- each knows of all that was done, which is nothing
  pub opened-carried : (s : Scenario) → IsLinkedBoard s → (sts : List Station) → AreOpened s ws (below (λ d. d.domain) 8 (rising s)) sts → AllCarried sts
  opened-carried s board sts all a b =
      let none : (x y : ℕ) → near (domains_of sts) x y ≡ nothing_near = nothing (domains_of sts) (all_nothing s (rising s) sts (opened-done s board sts all)) in
      subst (λ (n : Near). HasCome n (near (domains_of sts) b a)) (sym (none a b)) (subst (HasCome nothing_near) (sym (none b a)) (record { put = omega arith; given = omega arith }))

  pub opened-runs : (s : Scenario) → IsLinkedBoard s → IsWired s ws → (sts : List Station) → AreOpened s ws (below (λ d. d.domain) 8 (rising s)) sts → IsRun s (opened s) sts
  opened-runs s board wired sts all = is_run s board wired sts (opened-done s board sts all)
