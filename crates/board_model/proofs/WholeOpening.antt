-- A board of linked domains before its first line: every lane is empty, and all its buffers are free.
use Rattle.std.proofs.Common.{map-id, ◌≡◌, ℕ, true, ◌&&◌, List, [], ◌∷◌, ◌++◌, length, map, sum, Option, Some, None, find, option_map, refl, sym, ap, ◌∙◌, subst, arith, eq-eqb, eqb-true}
use Rattle.std.specs.Prelude.{◌==◌, unwrap_or}
use Rattle.std.specs.List.{AllByRecursion}
use Rattle.std.proofs.lemmas.Simd.{map-map}
use Rattle.board_model.specs.declared.scenario.DomainLine.{DomainLine}
use Rattle.board_model.specs.declared.scenario.Scenario.{Scenario}
use Rattle.board_model.specs.Scenario.{Neighbour, neighbours, Lane, lanes, rising}
use Rattle.board_model.specs.LinkedBoard.{IsLinkedBoard}
use Rattle.board_model.specs.State.{Peer, new_peer, is_numbered, peer_of, free_to, held_from}
use Rattle.board_model.specs.Run.{start}
use Rattle.board_model.specs.Board.{SeesAtMost}
use Rattle.board_model.specs.Traffic.{put_to, taken_from, back_looks}
use Rattle.board_model.specs.Loads.{empty_load, is_between}
use Rattle.board_model.specs.SerialRun.{Station, is_station, opened_station, opened}
use Rattle.board_model.proofs.MessageAlls.{all-found, found-passes}
use Rattle.board_model.proofs.ListsApart.{all-map}
use Rattle.board_model.proofs.LanePeers.{peer_found}
use Rattle.board_model.proofs.WholeFinds.{find-mapped, some_tells}
use Rattle.board_model.proofs.WholePeers.{shown_at}
use Rattle.board_model.proofs.WholeLanes.{LaneOk}
use Rattle.board_model.proofs.WholeStations.{station, state_in, entries_in, gives_in, states_of, book_of}
use Rattle.board_model.proofs.WholeGoing.{StationOk, Going}
use Rattle.board_model.proofs.WholeHas.{Has, has-weaken, has-found}
use Rattle.board_model.proofs.WholeJoined.{Joined, joined_back, rising_told, neighbours_join, joined_found, found_neighbour, has_lane}

-- the stations
opened_at : (s : Scenario) (n : ℕ) → station (opened s) n ≡ option_map (opened_station s) (find (λ d. d.domain == n) (rising s))
opened_at s n = find-mapped (is_station n) (opened_station s) (rising s)

no_entries : (s : Scenario) (n : ℕ) → entries_in (station (opened s) n) ≡ []
no_entries s n = ap entries_in (opened_at s n) ∙ go (find (λ d. d.domain == n) (rising s))
  where
    go : (o : Option DomainLine) → entries_in (option_map (opened_station s) o) ≡ []
    go None = refl
    go (Some d) = refl

no_gives : (s : Scenario) (n peer : ℕ) → gives_in s (station (opened s) n) peer ≡ 0
no_gives s n peer = ap (λ o. gives_in s o peer) (opened_at s n) ∙ go (find (λ d. d.domain == n) (rising s))
  where
    go : (o : Option DomainLine) → gives_in s (option_map (opened_station s) o) peer ≡ 0
    go None = refl
    go (Some d) = refl

no_items : (s : Scenario) (n peer : ℕ) → held_from peer (states_of (opened s) n) ≡ 0
no_items s n peer = ap (λ o. held_from peer (state_in o)) (opened_at s n) ∙ go (find (λ d. d.domain == n) (rising s))
  where
    go : (o : Option DomainLine) → held_from peer (state_in (option_map (opened_station s) o)) ≡ 0
    go None = refl
    go (Some d) = refl

-- a domain that has a lane, with its neighbour there
record Opens (s : Scenario) (a b size : ℕ) : Type 0 where
  line : DomainLine
  found : find (λ d. d.domain == a) (rising s) ≡ Some line
  peer : Neighbour
  there : peer_of (states_of (opened s) a) b ≡ Some (new_peer peer)
  sized : peer.size ≡ size

opens : (s : Scenario) → IsLinkedBoard s → (a b size : ℕ) → Joined s a b size → Opens s a b size
opens s board a b size joined =
    let t = joined_found s board a b size joined in
    let is_a : t.0.domain ≡ a = eqb-true t.0.domain a (found-passes (λ d. d.domain == a) (rising s) t.0 t.1) in
    let n = found_neighbour s board a b size t.0 t.1 is_a joined in
    let state : states_of (opened s) a ≡ (start s t.0).state = ap state_in (opened_at s a ∙ ap (option_map (opened_station s)) t.1) in
    record {
      line = t.0;
      found = t.1;
      peer = n.0;
      there =
          ap (λ x. peer_of x b) state ∙ peer_found (start s t.0).state b ∙ find-mapped (is_numbered b) new_peer (neighbours s t.0) ∙ ap (option_map new_peer) n.1;
      sized = n.2;
    }

between_ends : (a b : ℕ) (l : Lane) → (l.sender ≡ a) × (l.receiver ≡ b) → is_between a b (empty_load l) ≡ true
between_ends a b l e = ap (λ y. y && (l.receiver == b)) (eq-eqb l.sender a e.0) ∙ eq-eqb l.receiver b e.1

opened_lane : (s : Scenario) → IsLinkedBoard s → (a b size : ℕ) → Joined s a b size → LaneOk size a b (states_of (opened s) a) (states_of (opened s) b) (book_of s (opened s) a b) (opened s).loads
opened_lane s board a b size joined =
    let out = opens s board a b size joined in
    let into = opens s board b a size (joined_back s a b size joined) in
    let is_a : out.line.domain ≡ a = eqb-true out.line.domain a (found-passes (λ d. d.domain == a) (rising s) out.line out.found) in
    let lane = has-found (λ l. is_between a b (empty_load l)) (lanes s) (has-weaken (λ l. (l.sender ≡ a) × (l.receiver ≡ b)) (λ l. is_between a b (empty_load l) ≡ true) (between_ends a b) (lanes s) (has_lane s board a b size out.line out.found is_a joined)) in
    let free : free_to (states_of (opened s) a) b ≡ out.peer.size = ap (λ (o : Option Peer). unwrap_or (option_map (λ p. p.free) o) 0) out.there in
    let shown : shown_at (states_of (opened s) b) a ≡ 0 = ap (λ (o : Option Peer). unwrap_or (option_map (λ p. p.shown) o) 0) into.there in
    record {
      sized_out = ap (option_map (λ p. p.size)) out.there ∙ ap Some out.sized;
      sized_in = ap (option_map (λ p. p.size)) into.there ∙ ap Some into.sized;
      load = empty_load lane.0;
      loaded = find-mapped (is_between a b) empty_load (lanes s) ∙ ap (option_map empty_load) lane.1;
      front = ap (λ es. taken_from a es ++ []) (no_entries s b) ∙ sym (ap (put_to b) (no_entries s a));
      shows = omega (arith, ap (λ es. sum (back_looks b es)) (no_entries s a), no_gives s b a);
      places = omega (arith, free, out.sized, no_items s b a);
      within = omega (arith, shown);
    }

-- a board goes from its opening
pub opened_going : (s : Scenario) → IsLinkedBoard s → Going s (Joined s) (λ n. 0) (λ n. 0) (opened s)
opened_going s board = record {
  domains = map-map (λ (t : Station). t.line) (opened_station s) (rising s) ∙ map-id (rising s);
  each = λ n t e.
      let u = some_tells (opened_station s) (find (λ d. d.domain == n) (rising s)) t (sym (opened_at s n) ∙ e) in
      let is_n : u.0.domain ≡ n = eqb-true u.0.domain n (found-passes (λ d. d.domain == n) (rising s) u.0 u.1) in
      let told = all-found (λ d. Has (λ x. x ≡ d) s.domains) (λ d. d.domain == n) (rising s) u.0 (rising_told s) u.1 in
      subst (λ x. StationOk s (Joined s) n 0 0 x) u.2
      (record {
        leads = refl;
        no_puts = tt;
        lines = refl;
        calls = refl;
        number = is_n;
        peers =
            subst (AllByRecursion (λ p. (size : ℕ) × Joined s n p size)) (sym (map-map (λ (p : Peer). p.number) new_peer (neighbours s u.0)))
            (subst (λ m. AllByRecursion (λ p. (size : ℕ) × Joined s m p size) (map (λ x. x.number) (neighbours s u.0))) is_n
            (all-map (λ p. (size : ℕ) × Joined s u.0.domain p size) (λ x. x.number) (neighbours s u.0) (sized u.0.domain (neighbours s u.0) (neighbours_join s u.0 told))));
      });
  lanes = opened_lane s board;
  sees = λ a b size j. subst (λ es. SeesAtMost a (length (put_to b (entries_in (station (opened s) a)))) 0 es) (sym (no_entries s b)) tt;
}
  where
    sized : (a : ℕ) (ns : List Neighbour) → AllByRecursion (λ n. Joined s a n.number n.size) ns → AllByRecursion (λ n. (size : ℕ) × Joined s a n.number size) ns
    sized a [] all = tt
    sized a (n ∷ ns) all = ((n.size, all.0), sized a ns all.1)
