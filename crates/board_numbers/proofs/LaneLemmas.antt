-- The numbers of a lane, by the tallies of its two ends.
use Rattle.std.proofs.Common.{◌≡◌, ℕ, ◌+◌, ◌-◌, ◌<◌, ◌≤◌, Bool, true, false, ◌&&◌, ◌||◌, cond, List, length, map, find, Option, Some, option_map, get_or, slice_get, slice_index, refl, sym, ap, ◌∙◌, subst, inl, inr, arith, eqb-true, length-append}
use Rattle.std.specs.Prelude.{◌==◌, IsSome}
use Rattle.std.proofs.lemmas.Bool.{and_parts}
use Rattle.std.proofs.lemmas.Option.{get_or_from_slice_get}
use Rattle.std.proofs.lemmas.Simd.{map-map}
use Rattle.std.proofs.lemmas.Bool.Decides.{eqb_tells}
use Rattle.board_model.specs.declared.totals.LanePlaces.{LanePlaces}
use Rattle.board_model.specs.declared.scenario.DomainLine.{DomainLine}
use Rattle.board_model.specs.declared.scenario.LinkLine.{LinkLine}
use Rattle.board_model.specs.declared.scenario.Scenario.{Scenario}
use Rattle.board_model.specs.Scenario.{Neighbour, neighbours, rising, Lane, lanes}
use Rattle.board_model.specs.Language.{IsLawfulBoard}
use Rattle.board_model.specs.LinkedBoard.{IsLinkedBoard}
use Rattle.board_model.specs.State.{DomainState, peer_of, queued_from, lent_from}
use Rattle.board_model.specs.Traffic.{put_to, taken_from}
use Rattle.board_model.specs.Step.{RunState}
use Rattle.board_model.specs.Board.{DomainJournal, journal_in, journal_of, LaneFits}
use Rattle.board_model.specs.Places.{in_last_state, at_end, places_of, EveryBuffer}
use Rattle.board_model.specs.SerialRun.{Station, is_station, journal_left}
use Rattle.board_model.proofs.MessageAlls.{all-found, found-passes}
use Rattle.board_model.proofs.LawfulBoards.{lawful_is_linked}
use Rattle.board_model.proofs.PlaceCounts.{every_lane}
use Rattle.board_model.proofs.BoardsLanes.{lane-found}
use Rattle.board_model.proofs.BoardsNeighbours.{told-fits, joined-leads}
use Rattle.board_model.proofs.WholeHas.{Has, has-weaken, has-each}
use Rattle.board_model.proofs.WholeFinds.{find-mapped, some_tells}
use Rattle.board_model.proofs.WholeJoined.{IsOwn, IsLink, Joined, joined_back, found_neighbour}
use Rattle.buffer_book.specs.declared.places.Places.{Places}
use Rattle.board_numbers.specs.declared.tally.Tally.{Tally}
use Rattle.board_numbers.specs.Lanes.{line_of_domain, joins, buffers_between}
use Rattle.board_numbers.specs.Tallied.{places_held, RanBoard, IsTallyOf, AreTalliesOf}
use Rattle.board_numbers.proofs.RanLemmas.{station_left}
use Rattle.board_numbers.proofs.PeersKnown.{number_known}
use Rattle.board_numbers.proofs.TrafficLemmas.{put-lines, take-lines}

-- ---- the lanes that there are

-- what is found is in the list
found_has : {A : Type 0} (P : A → Type 0) (p : A → Bool) (xs : List A) (x : A) → find p xs ≡ Some x → P x → Has P xs
found_has {A} P p xs x found is = has-weaken (λ y. y ≡ x) P (λ y e. subst P (sym e) is) xs (all-found (λ y. Has (λ (z : A). z ≡ y) xs) p xs x (has-each xs) found)

link_ends : (a b size : ℕ) (l : LinkLine) → joins a b l ≡ true → l.size ≡ size → IsLink a b size l
link_ends a b size l joined sized = go (l.driver == a && l.device == b) refl joined
  where
    go : (x : Bool) → (l.driver == a && l.device == b) ≡ x → (x || (l.device == a && l.driver == b)) ≡ true → IsLink a b size l
    go true one either = let parts = and_parts (l.driver == a) (l.device == b) one in (inl (eqb-true l.driver a parts.0, eqb-true l.device b parts.1), sized)
    go false one either = let parts = and_parts (l.device == a) (l.driver == b) either in (inr (eqb-true l.driver b parts.1, eqb-true l.device a parts.0), sized)

between-joined : (s : Scenario) (a b size : ℕ) → buffers_between s a b ≡ Some size → Joined s a b size
between-joined s a b size at = elim (eqb_tells a b) [
  | inl same ↦
      let d = some_tells (λ (x : DomainLine). x.pool) (line_of_domain s a) size (sym (ap (λ c. cond c (option_map (λ x. x.pool) (line_of_domain s a)) (option_map (λ l. l.size) (find (joins a b) s.links))) same.0) ∙ at) in
      let is_a : d.0.domain ≡ a = eqb-true d.0.domain a (found-passes (λ x. x.domain == a) s.domains d.0 d.1) in
      inl (found_has (IsOwn a b size) (λ x. x.domain == a) s.domains d.0 d.1 (is_a, is_a ∙ same.1, d.2))
  | inr other ↦
      let l = some_tells (λ (x : LinkLine). x.size) (find (joins a b) s.links) size (sym (ap (λ c. cond c (option_map (λ x. x.pool) (line_of_domain s a)) (option_map (λ x. x.size) (find (joins a b) s.links))) other.0) ∙ at) in
      inr (found_has (IsLink a b size) (joins a b) s.links l.0 l.1 (link_ends a b size l.0 (found-passes (joins a b) s.links l.0 l.1) l.2))
]

-- ---- the ends of a lane

pub journal_found : (ts : List Station) (n : ℕ) (t : Station) → find (is_station n) ts ≡ Some t → find (λ j. j.line.domain == n) (map journal_left ts) ≡ Some (journal_left t)
journal_found ts n t found = find-mapped (λ (j : DomainJournal). j.line.domain == n) journal_left ts ∙ ap (option_map journal_left) found

-- what holds of a domain at the end
end_state : (s : Scenario) (ts : List Station) → RanBoard s ts → (n : ℕ) (t : Station) → find (is_station n) ts ≡ Some t → (f : DomainState → ℕ) → at_end s (map journal_left ts) n f ≡ f t.run.state
end_state s ts ran n t found f = ap (in_last_state s f) (journal_found ts n t found) ∙ ap (λ (r : RunState). f r.state) (sym (station_left s ts ran n t found))

some_is : {A : Type 0} (o : Option A) (x : A) → o ≡ Some x → IsSome o
some_is o x e = rw e refl

ends_fit : (s : Scenario) → IsLinkedBoard s → (a b size : ℕ) → Joined s a b size → (a < 8) × (b < 8)
ends_fit s board a b size joined =
    (omega (arith, told-fits s board a (joined-leads s board b a size (joined_back s a b size joined)).told), omega (arith, told-fits s board b (joined-leads s board a b size joined).told))

-- the receiver knows the sender
peer_there : (s : Scenario) → IsLinkedBoard s → (a b size : ℕ) → Joined s a b size → (ts : List Station) → RanBoard s ts → (u : Station) → find (is_station b) ts ≡ Some u → IsSome (peer_of u.run.state a)
peer_there s board a b size joined ts ran u found =
    let is_b : u.line.domain ≡ b = eqb-true u.line.domain b (found-passes (is_station b) ts u found) in
    let line : find (λ d. d.domain == b) (rising s) ≡ Some u.line =
    ap (find (λ (d : DomainLine). d.domain == b)) (sym ran.run.each_domain ∙ map-map (λ (j : DomainJournal). j.line) journal_left ts) ∙ find-mapped (λ (d : DomainLine). d.domain == b) (λ (t : Station). t.line) ts ∙ ap (option_map (λ (t : Station). t.line)) found in
    let n = found_neighbour s board b a size u.line line is_b (joined_back s a b size joined) in
    let peers = all-found (λ (t : Station). map (λ p. p.number) t.run.state.peers ≡ map (λ (n : Neighbour). n.number) (neighbours s t.line)) (is_station b) ts u ran.peers found in
    number_known u.run.state a (neighbours s u.line) n.0 peers n.1

places_same : (from to free ring queue lent free' ring' queue' lent' : ℕ) → free ≡ free' → ring ≡ ring' → queue ≡ queue' → lent ≡ lent' →
    ◌≡◌ {A = LanePlaces} (record { from = from; to = to; free = free; ring = ring; queue = queue; lent = lent }) (record { from = from; to = to; free = free'; ring = ring'; queue = queue'; lent = lent' })
places_same from to free ring queue lent free' ring' queue' lent' e1 e2 e3 e4 = cc

record LaneTold (s : Scenario) (js : List DomainJournal) (a b size : ℕ) (y z : Tally) : Type 0 where
  small : size ≤ 256
  takes_fit : slice_index z.counts.takes a ≤ slice_index y.counts.puts b
  held : Places
  found : slice_get z.held.places a ≡ Some held
  fits : slice_index y.counts.puts b - slice_index z.counts.takes a + held.queue + held.lent ≤ size
  places : ◌≡◌ {A = LanePlaces} (record { from = a; to = b; free = size - (slice_index y.counts.puts b - slice_index z.counts.takes a) - held.queue - held.lent; ring = slice_index y.counts.puts b - slice_index z.counts.takes a; queue = held.queue; lent = held.lent }) (places_of s js (record { sender = a; receiver = b; size = size }))

lane-told : (s : Scenario) → IsLinkedBoard s → (ts : List Station) → RanBoard s ts → (a b size : ℕ) (y z : Tally) → IsTallyOf s ts a y → IsTallyOf s ts b z → buffers_between s a b ≡ Some size → LaneTold s (map journal_left ts) a b size y z
lane-told s board ts ran a b size y z (t, t_found, t_is) (u, u_found, u_is) between =
    let js = map journal_left ts in
    let run = ran.run in
    let l : Lane = record { sender = a; receiver = b; size = size } in
    let joined = between-joined s a b size between in
    let to = joined-leads s board a b size joined in
    let ends = ends_fit s board a b size joined in
    let a_fits = ends.0 in
    let b_fits = ends.1 in
    let listed = lane-found s board a b size joined in
    let fits = all-found (LaneFits s js) (λ k. (k.sender == a) && (k.receiver == b)) (lanes s) l run.lanes_fit listed in
    let adds : EveryBuffer s js l = all-found (EveryBuffer s js) (λ k. (k.sender == a) && (k.receiver == b)) (lanes s) l (every_lane s js board run) listed in
    let puts : slice_index y.counts.puts b ≡ length (put_to b (journal_of a js)) =
    t_is.counts.puts b b_fits ∙ put-lines b t.entries ∙ ap (λ (o : Option DomainJournal). length (put_to b (journal_in o))) (sym (journal_found ts a t t_found)) in
    let takes : slice_index z.counts.takes a ≡ length (taken_from a (journal_of b js)) =
    u_is.counts.takes a a_fits ∙ take-lines a u.entries ∙ ap (λ (o : Option DomainJournal). length (taken_from a (journal_in o))) (sym (journal_found ts b u u_found)) in
    let queue : at_end s js b (queued_from a) ≡ queued_from a u.run.state = end_state s ts ran b u u_found (queued_from a) in
    let lent : at_end s js b (lent_from a) ≡ lent_from a u.run.state = end_state s ts ran b u u_found (lent_from a) in
    let front : length (taken_from a (journal_of b js)) ≤ length (put_to b (journal_of a js)) =
    omega (arith, ap length fits.taken_first.1, length-append (taken_from a (journal_of b js)) fits.taken_first.0) in
    let ring : slice_index y.counts.puts b - slice_index z.counts.takes a ≡ (places_of s js l).ring = omega (arith, puts, takes) in
    let free : size - (slice_index y.counts.puts b - slice_index z.counts.takes a) - queued_from a u.run.state - lent_from a u.run.state ≡ (places_of s js l).free = omega (arith, ring, queue, lent, adds) in
    record {
      small = to.buffers_fit;
      takes_fit = omega (arith, puts, takes, front);
      held = places_held a u.run.state;
      found = u_is.held.places a a_fits (peer_there s board a b size joined ts ran u u_found);
      fits = omega (arith, ring, queue, lent, adds);
      places =
          places_same a b (size - (slice_index y.counts.puts b - slice_index z.counts.takes a) - queued_from a u.run.state - lent_from a u.run.state) (slice_index y.counts.puts b - slice_index z.counts.takes a) (queued_from a u.run.state) (lent_from a u.run.state)
          (places_of s js l).free (places_of s js l).ring (places_of s js l).queue (places_of s js l).lent free ring (sym queue) (sym lent);
    }

-- the same as it is read: `i` and `k` are the sender's number, and `j` is the receiver's
pub record LaneNumbers (s : Scenario) (js : List DomainJournal) (a b size : ℕ) (y z : Tally) (j i k : ℕ) (d : Places) : Type 0 where
  pub takes_fit : get_or z.counts.takes i 0 ≤ get_or y.counts.puts j 0
  pub small : get_or y.counts.puts j 0 - get_or z.counts.takes i 0 ≤ 256
  pub fits : get_or y.counts.puts j 0 - get_or z.counts.takes i 0 + (get_or z.held.places k d).queue + (get_or z.held.places k d).lent ≤ size
  pub places : ◌≡◌ {A = LanePlaces} (record { from = a; to = b; free = size - (get_or y.counts.puts j 0 - get_or z.counts.takes i 0) - (get_or z.held.places k d).queue - (get_or z.held.places k d).lent; ring = get_or y.counts.puts j 0 - get_or z.counts.takes i 0; queue = (get_or z.held.places k d).queue; lent = (get_or z.held.places k d).lent }) (places_of s js (record { sender = a; receiver = b; size = size }))

lane-numbers : (s : Scenario) (js : List DomainJournal) (a b size : ℕ) (y z : Tally) → LaneTold s js a b size y z → (j i k : ℕ) (d : Places) → j ≡ b → i ≡ a → k ≡ a → LaneNumbers s js a b size y z j i k d
lane-numbers s js a b size y z told j i k d is_b is_a also_a =
    let puts : get_or y.counts.puts j 0 ≡ slice_index y.counts.puts b = ap (λ m. get_or y.counts.puts m 0) is_b in
    let takes : get_or z.counts.takes i 0 ≡ slice_index z.counts.takes a = ap (λ m. get_or z.counts.takes m 0) is_a in
    let held : get_or z.held.places k d ≡ told.held = ap (λ m. get_or z.held.places m d) also_a ∙ get_or_from_slice_get z.held.places a told.held d told.found in
    let queue : (get_or z.held.places k d).queue ≡ told.held.queue = ap (λ (h : Places). h.queue) held in
    let lent : (get_or z.held.places k d).lent ≡ told.held.lent = ap (λ (h : Places). h.lent) held in
    let takes_fit = told.takes_fit in
    let fits = told.fits in
    let small = told.small in
    record {
      takes_fit = omega (arith, puts, takes, takes_fit);
      small = omega (arith, puts, takes, fits, small);
      fits = omega (arith, puts, takes, queue, lent, fits);
      places =
          places_same a b (size - (get_or y.counts.puts j 0 - get_or z.counts.takes i 0) - (get_or z.held.places k d).queue - (get_or z.held.places k d).lent) (get_or y.counts.puts j 0 - get_or z.counts.takes i 0) (get_or z.held.places k d).queue (get_or z.held.places k d).lent
          (size - (slice_index y.counts.puts b - slice_index z.counts.takes a) - told.held.queue - told.held.lent) (slice_index y.counts.puts b - slice_index z.counts.takes a) told.held.queue told.held.lent
          (omega (arith, puts, takes, queue, lent)) (omega (arith, puts, takes)) queue lent
          ∙ told.places;
    }

-- ---- lanes of a lawful board

pub lane-ends : (s : Scenario) → IsLawfulBoard s → (a b size : ℕ) → buffers_between s a b ≡ Some size → (a < 8) × (b < 8)
lane-ends s lawful a b size between = ends_fit s (lawful_is_linked s lawful) a b size (between-joined s a b size between)

pub lane-read : (s : Scenario) → IsLawfulBoard s → (ts : List Station) (a b size : ℕ) (y z : Tally) → AreTalliesOf s ts a b y z → buffers_between s a b ≡ Some size → (j i k : ℕ) (d : Places) → j ≡ b → i ≡ a → k ≡ a → LaneNumbers s (map journal_left ts) a b size y z j i k d
lane-read s lawful ts a b size y z h between j i k d is_b is_a also_a = lane-numbers s (map journal_left ts) a b size y z (lane-told s (lawful_is_linked s lawful) ts h.ran a b size y z h.at_sender h.at_receiver between) j i k d is_b is_a also_a
