-- The four numbers of each lane of a board of linked domains add up to its size.
use Rattle.std.proofs.Common.{◌≡◌, ℕ, ◌+◌, ◌-◌, ◌≤◌, Bool, List, [], ◌∷◌, length, map, sum, find, Option, Some, None, option_map, refl, sym, ap, ◌∙◌, subst, arith, length-append}
use Rattle.std.specs.Prelude.{◌==◌, unwrap_or}
use Rattle.std.proofs.lemmas.List.{length-map}
use Rattle.std.specs.List.{AllByRecursion}
use Rattle.board_model.specs.declared.scenario.DomainLine.{DomainLine}
use Rattle.board_model.specs.declared.scenario.Scenario.{Scenario}
use Rattle.board_model.specs.Lists.{IsPrefix}
use Rattle.board_model.specs.Scenario.{Neighbour, Lane, lane_to, lanes, neighbours, rising, script}
use Rattle.board_model.specs.LinkedBoard.{Differ, IsLinkedBoard}
use Rattle.board_model.specs.Journal.{PlainEntry}
use Rattle.board_model.specs.State.{Peer, new_peer, free_to, held_from, queued_from, lent_from}
use Rattle.board_model.specs.Traffic.{put_to, takes_from, taken_from, given, back_looks}
use Rattle.board_model.specs.Run.{start, left_by, IsDomainRun}
use Rattle.board_model.specs.Board.{DomainJournal, journal_in, journal_of, given_by, given_back, LaneFits, IsBoardRun}
use Rattle.board_model.specs.Places.{in_last_state, at_end, EveryBuffer}
use Rattle.board_model.proofs.MessageAlls.{all-with, all-found}
use Rattle.board_model.proofs.ListsApart.{all-map, all-unmap, all-joined, differ-found}
use Rattle.board_model.proofs.LanePeers.{free_in, free_found}
use Rattle.board_model.proofs.LaneRuns.{sums_run, waiting_none}
use Rattle.board_model.proofs.PlaceBoards.{rising_differ, neighbours_differ}

-- ---- a run

-- at a peer: buffers that are free at the start are free, put or came back; what was taken is held or was given back
record Ends (s : Scenario) (d : DomainLine) (es : List PlainEntry) (n : ℕ) : Type 0 where
  free : free_to (left_by s d es).state n + length (put_to n es) ≡ free_to (start s d).state n + sum (back_looks n es)
  held : held_from n (left_by s d es).state + given (script s d.domain) (start s d) n es ≡ length (takes_from n es)

run_ends : (s : Scenario) (d : DomainLine) (es : List PlainEntry) (n : ℕ) → IsDomainRun s d es → Ends s d es n
run_ends s d es n run =
    let h = sums_run (script s d.domain) n (free_to (start s d).state n) 0 0 0 0 (start s d) (left_by s d es) es (record { apart = tt; below = tt }) run.steps (record { frees = omega arith; holds = refl }) in
    record {
      free = omega (arith, h.frees, waiting_none n (left_by s d es).put_since_turn run.settled);
      held = omega (arith, h.holds);
    }

-- ---- a lane

prefix_length : {A : Type 0} (xs ys : List A) → IsPrefix xs ys → length xs ≤ length ys
prefix_length xs ys p = omega (arith, ap length p.1, length-append xs p.0)

places_add : (size free puts backs takes gives queue lent : ℕ) → free + puts ≡ size + backs → queue + lent + gives ≡ takes → takes ≤ puts → backs ≤ gives → free + (gives - backs) + (puts - takes) + queue + lent ≡ size
places_add size free puts backs takes gives queue lent h1 h2 h3 h4 = omega arith

-- what the receiver holds, by its journal; one without a journal takes nothing
record Receives (s : Scenario) (o : Option DomainJournal) (n : ℕ) : Type 0 where
  held : in_last_state s (queued_from n) o + in_last_state s (lent_from n) o + given_by s o n ≡ length (taken_from n (journal_in o))

receives : (s : Scenario) (o : Option DomainJournal) (n : ℕ) → ((j : DomainJournal) → o ≡ Some j → IsDomainRun s j.line j.entries) → Receives s o n
receives s None n runs = record { held = refl }
receives s (Some j) n runs =
    record { held = omega (arith, (run_ends s j.line j.entries n (runs j refl)).held, length-map (takes_from n j.entries) (λ t. t.frame)) }

abbrev pub is_of : ℕ → DomainJournal → Bool
is_of n j = j.line.domain == n

-- every buffer of the lane from a domain whose journal is this one
pub lane_buffers : (s : Scenario) (js : List DomainJournal) (l : Lane) (j : DomainJournal) → AllByRecursion (λ k. IsDomainRun s k.line k.entries) js → find (is_of l.sender) js ≡ Some j → free_to (start s j.line).state l.receiver ≡ l.size → LaneFits s js l → EveryBuffer s js l
lane_buffers s js l j runs found size fits =
    let n = l.receiver in
    let there = find (is_of l.receiver) js in
    let sent = run_ends s j.line j.entries n (all-found (λ k. IsDomainRun s k.line k.entries) (is_of l.sender) js j runs found) in
    let received = receives s there l.sender (λ k at. all-found (λ x. IsDomainRun s x.line x.entries) (is_of l.receiver) js k runs at) in
    let free = ap (in_last_state s (λ st. free_to st n)) found in
    let puts = ap (λ (o : Option DomainJournal). length (put_to n (journal_in o))) found in
    let backs = ap (λ (o : Option DomainJournal). sum (back_looks n (journal_in o))) found in
    let fewer = prefix_length (taken_from l.sender (journal_of n js)) (put_to n (journal_of l.sender js)) fits.taken_first in
    let sums = places_add l.size (free_to (left_by s j.line j.entries).state n) (length (put_to n j.entries)) (sum (back_looks n j.entries)) (length (taken_from l.sender (journal_of n js))) (given_back s js n l.sender)
    (at_end s js n (queued_from l.sender)) (at_end s js n (lent_from l.sender)) (omega (arith, sent.free, size)) received.held (omega (arith, fewer, puts)) (omega (arith, fits.backs, backs)) in
    omega (arith, sums, free, puts, backs)

-- ---- all lanes

-- at the start the lane to each neighbour has all its buffers free
free_each : (ns : List Neighbour) → Differ (map (λ n. n.number) ns) → AllByRecursion (λ n. free_in n.number (map new_peer ns) ≡ n.size) ns
free_each ns differ =
    all-unmap-peers ns (differ-found (λ (p : Peer). p.number) (map new_peer ns) (subst Differ (sym (numbers_same ns)) differ))
  where
    numbers_same : (ms : List Neighbour) → map (λ p. p.number) (map new_peer ms) ≡ map (λ m. m.number) ms
    numbers_same [] = refl
    numbers_same (m ∷ ms) = ap (λ (ks : List ℕ). m.number ∷ ks) (numbers_same ms)

    each : (ps : List Peer) (m : Neighbour) → find (λ p. p.number == m.number) ps ≡ Some (new_peer m) → free_in m.number ps ≡ m.size
    each ps m found = ap (λ (o : Option Peer). unwrap_or (option_map (λ p. p.free) o) 0) found

    all-unmap-peers : (ms : List Neighbour) → AllByRecursion (λ x. find (λ y. y.number == x.number) (map new_peer ms) ≡ Some x) (map new_peer ms) → AllByRecursion (λ m. free_in m.number (map new_peer ms) ≡ m.size) ms
    all-unmap-peers ms all = go ms (all-unmap (λ x. find (λ y. y.number == x.number) (map new_peer ms) ≡ Some x) new_peer ms all)
      where
        go : (ks : List Neighbour) → AllByRecursion (λ k. find (λ y. y.number == k.number) (map new_peer ms) ≡ Some (new_peer k)) ks → AllByRecursion (λ k. free_in k.number (map new_peer ms) ≡ k.size) ks
        go [] h = tt
        go (k ∷ ks) h = (each (map new_peer ms) k h.0, go ks h.1)

module _ (s : Scenario) (js : List DomainJournal) (board : IsLinkedBoard s) (run : IsBoardRun s js) where
  abbrev Fits : Lane → Type 0
  Fits l = LaneFits s js l → EveryBuffer s js l

  lanes_from : (j : DomainJournal) → find (is_of j.line.domain) js ≡ Some j → AllByRecursion Fits (map (lane_to j.line.domain) (neighbours s j.line))
  lanes_from j found = all-map Fits (lane_to j.line.domain) (neighbours s j.line) (go (neighbours s j.line) (free_each (neighbours s j.line) (neighbours_differ s board j.line)))
    where
      go : (ns : List Neighbour) → AllByRecursion (λ n. free_in n.number (map new_peer (neighbours s j.line)) ≡ n.size) ns → AllByRecursion (λ n. Fits (lane_to j.line.domain n)) ns
      go [] all = tt
      go (n ∷ ns) all =
          (λ fits. lane_buffers s js (lane_to j.line.domain n) j run.domain_runs found (free_found (start s j.line).state n.number ∙ all.0) fits, go ns all.1)

  journals_differ : Differ (map (λ j. j.line.domain) js)
  journals_differ = subst Differ (sym (lines_of js ∙ ap (map (λ (d : DomainLine). d.domain)) run.each_domain)) (rising_differ s board)
    where
      lines_of : (ks : List DomainJournal) → map (λ j. j.line.domain) ks ≡ map (λ d. d.domain) (map (λ j. j.line) ks)
      lines_of [] = refl
      lines_of (k ∷ ks) = ap (λ (ns : List ℕ). k.line.domain ∷ ns) (lines_of ks)

  lanes_each : (ks : List DomainJournal) → AllByRecursion (λ j. find (is_of j.line.domain) js ≡ Some j) ks → AllByRecursion (λ d. AllByRecursion Fits (map (lane_to d.domain) (neighbours s d))) (map (λ j. j.line) ks)
  lanes_each [] all = tt
  lanes_each (k ∷ ks) all = (lanes_from k all.0, lanes_each ks all.1)

  -- on a board of linked domains every buffer is at its place
  pub every_lane : AllByRecursion (EveryBuffer s js) (lanes s)
  every_lane =
      let of_domains = subst (AllByRecursion (λ (d : DomainLine). AllByRecursion Fits (map (lane_to d.domain) (neighbours s d)))) run.each_domain (lanes_each js (differ-found (λ (j : DomainJournal). j.line.domain) js journals_differ)) in
      all-with (LaneFits s js) Fits (EveryBuffer s js) (λ l fits f. f fits) (lanes s) run.lanes_fit (all-joined Fits (λ (d : DomainLine). map (lane_to d.domain) (neighbours s d)) (rising s) of_domains)
