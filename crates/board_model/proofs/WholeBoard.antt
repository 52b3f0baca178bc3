-- The serial run of a board of linked domains is a whole run of that board.
use Rattle.std.proofs.Common.{◌≡◌, ℕ, List, [], length, map, sum, find, Option, Some, None, option_map, refl, sym, ap, ◌∙◌, subst, arith}
use Rattle.std.specs.Prelude.{◌==◌}
use Rattle.std.specs.List.{AllByRecursion}
use Rattle.std.proofs.lemmas.Simd.{map-map}
use Rattle.board_model.specs.declared.scenario.Scenario.{Scenario}
use Rattle.board_model.specs.Lists.{IsPrefix}
use Rattle.board_model.specs.Scenario.{script, Lane, lanes, rising}
use Rattle.board_model.specs.LinkedBoard.{Differ, IsLinkedBoard}
use Rattle.board_model.specs.Step.{RunState, HasNoPuts}
use Rattle.board_model.specs.Traffic.{put_to, taken_from, back_looks}
use Rattle.board_model.specs.Run.{start, Leads, left_by, IsDomainRun, IsWhole}
use Rattle.board_model.specs.Board.{DomainJournal, journal_in, journal_of, given_by, given_back, SeesAtMost, LaneFits, IsBoardRun, AreWhole}
use Rattle.board_model.specs.SerialRun.{Station, Running, is_station, opened, finished, journal_left, serial_run}
use Rattle.board_model.proofs.MessageAlls.{all-weaken}
use Rattle.board_model.proofs.ListsApart.{all-map, differ-found}
use Rattle.board_model.proofs.PlaceBoards.{rising_differ}
use Rattle.board_model.proofs.WholeFinds.{find-mapped}
use Rattle.board_model.proofs.WholeJournals.{leads_to}
use Rattle.board_model.proofs.WholeStations.{station, entries_in, gives_in}
use Rattle.board_model.proofs.WholeGoing.{Going}
use Rattle.board_model.proofs.WholeJoined.{Joined, lanes_join}
use Rattle.board_model.proofs.WholeOpening.{opened_going}
use Rattle.board_model.proofs.WholeRests.{opened_rests}
use Rattle.board_model.proofs.WholeLines.{lines_go}

-- every line is called once, and no call is made of a next one
pub finished_going : (s : Scenario) → IsLinkedBoard s → Going s (Joined s) (λ n. length (script s n)) (λ n. 0) (finished s)
finished_going s board = lines_go s board [] s.calls refl board.lines_told (opened s) (opened_rests s) (opened_going s board)

-- ---- journals

-- the journal of a domain is that of its station
journal_at : (ts : List Station) (n : ℕ) → journal_of n (map journal_left ts) ≡ entries_in (find (is_station n) ts)
journal_at ts n = ap journal_in (find-mapped (λ (j : DomainJournal). j.line.domain == n) journal_left ts) ∙ go (find (is_station n) ts)
  where
    go : (o : Option Station) → journal_in (option_map journal_left o) ≡ entries_in o
    go None = refl
    go (Some t) = refl

given_at : (s : Scenario) (ts : List Station) (n peer : ℕ) → given_back s (map journal_left ts) n peer ≡ gives_in s (find (is_station n) ts) peer
given_at s ts n peer = ap (λ o. given_by s o peer) (find-mapped (λ (j : DomainJournal). j.line.domain == n) journal_left ts) ∙ go (find (is_station n) ts)
  where
    go : (o : Option Station) → given_by s (option_map journal_left o) peer ≡ gives_in s o peer
    go None = refl
    go (Some t) = refl

-- ---- domains

-- each station runs its script whole
record RunsWhole (s : Scenario) (t : Station) : Type 0 where
  runs : IsDomainRun s t.line t.entries
  whole : IsWhole s t.line t.entries

runs_whole : (s : Scenario) (r : Running) → Going s (Joined s) (λ n. length (script s n)) (λ n. 0) r → (t : Station) → station r t.line.domain ≡ Some t → RunsWhole s t
runs_whole s r h t e =
    let ok = h.each t.line.domain t e in
    let left : t.run ≡ left_by s t.line t.entries = leads_to (script s t.line.domain) (start s t.line) t.run t.entries ok.leads in
    record {
      runs = record {
        steps = subst (λ x. Leads (script s t.line.domain) (start s t.line) t.entries x) left ok.leads;
        settled = subst (λ (x : RunState). HasNoPuts x.put_since_turn) left ok.no_puts;
      };
      whole = ap (λ (x : RunState). x.lines_called) (sym left) ∙ ok.lines;
    }

all_whole : (s : Scenario) → IsLinkedBoard s → (r : Running) → Going s (Joined s) (λ n. length (script s n)) (λ n. 0) r → AllByRecursion (RunsWhole s) r.stations
all_whole s board r h =
    let numbers : map (λ d. d.domain) (rising s) ≡ map (λ (t : Station). t.line.domain) r.stations = ap (map (λ d. d.domain)) (sym h.domains) ∙ map-map (λ d. d.domain) (λ (t : Station). t.line) r.stations in
    all-weaken (λ t. station r t.line.domain ≡ Some t) (RunsWhole s) (runs_whole s r h) r.stations
    (differ-found (λ (t : Station). t.line.domain) r.stations (subst Differ numbers (rising_differ s board)))

-- ---- lanes

lane_fits : (s : Scenario) (r : Running) → Going s (Joined s) (λ n. length (script s n)) (λ n. 0) r → (l : Lane) → Joined s l.sender l.receiver l.size → LaneFits s (map journal_left r.stations) l
lane_fits s r h l joined =
    let a = l.sender in
    let b = l.receiver in
    let lane = h.lanes a b l.size joined in
    let sent = journal_at r.stations a in
    let got = journal_at r.stations b in
    let front : IsPrefix (taken_from a (entries_in (station r b))) (put_to b (entries_in (station r a))) = (lane.load.frames, sym lane.front) in
    let sees = h.sees a b l.size joined in
    record {
      taken_first =
          subst (λ es. IsPrefix (taken_from a es) (put_to b (journal_of a (map journal_left r.stations)))) (sym got)
          (subst (λ es. IsPrefix (taken_from a (entries_in (station r b))) (put_to b es)) (sym sent) front);
      sees =
          subst (λ es. SeesAtMost a (length (put_to b (journal_of a (map journal_left r.stations)))) 0 es) (sym got)
          (subst (λ es. SeesAtMost a (length (put_to b es)) 0 (entries_in (station r b))) (sym sent) sees);
      backs = omega (arith, lane.shows, given_at s r.stations b a, ap (λ es. sum (back_looks b es)) sent);
    }

pub serial_run_is_whole : (s : Scenario) → IsLinkedBoard s → IsBoardRun s (serial_run s) × AreWhole s (serial_run s)
serial_run_is_whole s board =
    let r = finished s in
    let h = finished_going s board in
    let all = all_whole s board r h in (
      record {
        each_domain = map-map (λ (j : DomainJournal). j.line) journal_left r.stations ∙ h.domains;
        domain_runs = all-map (λ j. IsDomainRun s j.line j.entries) journal_left r.stations (all-weaken (RunsWhole s) (λ t. IsDomainRun s t.line t.entries) (λ t x. x.runs) r.stations all);
        lanes_fit = all-weaken (λ l. Joined s l.sender l.receiver l.size) (LaneFits s (serial_run s)) (lane_fits s r h) (lanes s) (lanes_join s);
      },
      all-map (λ j. IsWhole s j.line j.entries) journal_left r.stations (all-weaken (RunsWhole s) (λ t. IsWhole s t.line t.entries) (λ t x. x.whole) r.stations all),
    )
