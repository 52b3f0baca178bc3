-- The lines of a board's run are those of entries: each frame that is put is bytes, so each that is taken is, and all that is told fits.
use Rattle.std.proofs.Common.{◌≡◌, ℕ, ◌≤◌, Bool, true, false, ◌||◌, cond, List, [], ◌∷◌, map, length, Option, Some, None, find, refl, sym, subst, arith, eqb-true}
use Rattle.std.specs.Prelude.{◌==◌, ◌&&◌}
use Rattle.std.specs.List.{AllByRecursion, list_any}
use Rattle.std.proofs.lemmas.List.{length-map}
use Rattle.board_model.specs.declared.scenario.CallLine.{CallLine}
use Rattle.board_model.specs.declared.scenario.DomainLine.{DomainLine}
use Rattle.board_model.specs.declared.scenario.Scenario.{Scenario}
use Rattle.board_model.specs.Board.{DomainJournal, journal_in, journal_of, LaneFits, IsBoardRun}
use Rattle.board_model.specs.Grammar.{IsLawfulDomain}
use Rattle.board_model.specs.Journal.{PlainEntry, turned, put, again, waits, called, Visit}
use Rattle.board_model.specs.LinkedBoard.{HasFitArguments, IsLinkedBoard}
use Rattle.board_model.specs.Run.{start, left_by, IsDomainRun}
use Rattle.board_model.specs.Scenario.{script, Neighbour, neighbours, Lane, lanes, rising}
use Rattle.board_model.specs.State.{new_peer}
use Rattle.board_model.specs.Traffic.{visits_to, puts_in, put_to, takes_from, taken_from}
use Rattle.board_model.specs.Unjoined.{peers_of}
use Rattle.board_model.proofs.BoardsLanes.{lane-found}
use Rattle.board_model.proofs.BoardsNeighbours.{neighbours-few}
use Rattle.board_model.proofs.HonestBoard.{IsFound, each_found}
use Rattle.board_model.proofs.LawfulBoards.{lawful_is_linked}
use Rattle.board_model.proofs.ListsApart.{all-map, all-unmap, all-joined}
use Rattle.board_model.proofs.MessageAlls.{all-filter, all-found, all-parts, all-weaken, all-with}
use Rattle.board_model.proofs.RunDeeds.{AllAllowed, allowed-all}
use Rattle.board_model.proofs.WholeHas.{Has}
use Rattle.board_model.proofs.WholeJoined.{joined_back, neighbours_join, rising_told}
use Rattle.mc_journal.specs.EntryText.{AreBytes}
use Rattle.report_text.proofs.RunsTold.{rising-lawful, peers-few, opening-going, script-short}
use Rattle.report_text.proofs.TurnsDue.{IsKnown}
use Rattle.report_laws.specs.RunReports.{HaveEntryLines, RunsHaveEntryLines}
use Rattle.report_laws.proofs.EntriesFit.{IsOfBytes, Good, entries-fit}
use Rattle.report_laws.proofs.JoinedFit.{joined-fits}
use Rattle.report_laws.proofs.PutsFit.{OwesBytes, FitsPuts, puts-all}
use Rattle.report_laws.proofs.StatesFit.{FitsPeer}

-- ---- the frames that are put to a peer

entry-bytes : (q : ℕ) (e : PlainEntry) → FitsPuts e → AllByRecursion AreBytes (puts_in q e)
entry-bytes q (turned vs) fits = all-joined AreBytes (λ (v : Visit). v.owed) (visits_to q vs) (all-filter OwesBytes (λ v. v.peer == q) vs fits)
entry-bytes q (put to frame) fits = go (to == q)
  where
    go : (b : Bool) → AllByRecursion AreBytes (cond b (frame ∷ []) [])
    go true = (fits.1, tt)
    go false = tt
entry-bytes q (again word) fits = tt
entry-bytes q (waits k) fits = tt
entry-bytes q (called k a) fits = tt

put-bytes : (q : ℕ) (es : List PlainEntry) → AllByRecursion FitsPuts es → AllByRecursion AreBytes (put_to q es)
put-bytes q es all = all-joined AreBytes (puts_in q) es (all-weaken FitsPuts (λ e. AllByRecursion AreBytes (puts_in q e)) (entry-bytes q) es all)

-- what holds of each of some numbers holds of one that is known
known-holds : (P : ℕ → Type 0) (n : ℕ) (ns : List ℕ) → AllByRecursion P ns → IsKnown ns n → P n
known-holds P n [] all known = absurd cc
known-holds P n (m ∷ ns) all known = go (m == n) refl known (λ more. known-holds P n ns all.1 more)
  where
    go : (b : Bool) → (m == n) ≡ b → (b || list_any (λ k. k == n) ns) ≡ true → (IsKnown ns n → P n) → P n
    go true is known rest = subst P (eqb-true m n is) all.0
    go false is known rest = rest known

new-fit : (ns : List Neighbour) → AllByRecursion FitsPeer (map new_peer ns)
new-fit [] = tt
new-fit (n ∷ ns) = (record { known = tt; part = tt }, new-fit ns)

module _ (s : Scenario) (js : List DomainJournal) (board : IsLinkedBoard s) (run : IsBoardRun s js) where
  -- ---- each journal

  record Placed (j : DomainJournal) : Type 0 where
    is_run : IsDomainRun s j.line j.entries
    found : IsFound js j
    lawful : IsLawfulDomain j.line
    told : Has (λ e. e ≡ j.line) s.domains
    few : length (neighbours s j.line) ≤ 8

  -- what holds of all domains in rising number holds of those of the journals
  by-lines : (P : DomainLine → Type 0) → AllByRecursion P (rising s) → AllByRecursion (λ j. P j.line) js
  by-lines P all = all-unmap P (λ (j : DomainJournal). j.line) js (subst (AllByRecursion P) (sym run.each_domain) all)

  each-placed : AllByRecursion Placed js
  each-placed =
      all-with (λ j. IsDomainRun s j.line j.entries × IsFound js j) (λ j. IsLawfulDomain j.line × (Has (λ e. e ≡ j.line) s.domains × (length (neighbours s j.line) ≤ 8))) Placed
      (λ j is line. record { is_run = is.0; found = is.1; lawful = line.0; told = line.1.0; few = line.1.1 }) js
      (all-with (λ j. IsDomainRun s j.line j.entries) (IsFound js) (λ j. IsDomainRun s j.line j.entries × IsFound js j) (λ j is found. (is, found)) js run.domain_runs (each_found s js board run))
      (by-lines (λ d. IsLawfulDomain d × (Has (λ e. e ≡ d) s.domains × (length (neighbours s d) ≤ 8)))
      (all-with IsLawfulDomain (λ d. Has (λ e. e ≡ d) s.domains × (length (neighbours s d) ≤ 8)) (λ d. IsLawfulDomain d × (Has (λ e. e ≡ d) s.domains × (length (neighbours s d) ≤ 8))) (λ d lawful rest. (lawful, rest)) (rising s) (rising-lawful s board)
      (all-with (λ d. Has (λ e. e ≡ d) s.domains) (λ d. length (neighbours s d) ≤ 8) (λ d. Has (λ e. e ≡ d) s.domains × (length (neighbours s d) ≤ 8)) (λ d told few. (told, few)) (rising s) (rising_told s) (neighbours-few s board))))

  module _ (j : DomainJournal) (at : Placed j) where
    fit : AllByRecursion (λ c. HasFitArguments c.call) (script s j.line.domain)
    fit = all-filter (λ (c : CallLine). HasFitArguments c.call) (λ c. c.domain == j.line.domain) s.calls board.arguments_fit

    allowed : AllAllowed (script s j.line.domain) (start s j.line) j.entries
    allowed = allowed-all (script s j.line.domain) (start s j.line) (left_by s j.line j.entries) j.entries at.is_run.steps

    good : Good (peers_of s j.line) (start s j.line).state
    good = record {
      sound = (opening-going s board j.line at.lawful).sound;
      fits = record { ends = tt; requests = tt; peers = new-fit (neighbours s j.line); serials = omega arith };
      from = record { queued = tt; lent = tt; packets = tt };
    }

    puts-fit : AllByRecursion FitsPuts j.entries
    puts-fit = puts-all (peers_of s j.line) (script s j.line.domain) (peers-few s board j.line at.lawful) fit (start s j.line) j.entries good.sound allowed at.is_run.settled

  -- ---- what is put on a lane, and so what is taken

  put-at : (a b : ℕ) → AllByRecursion AreBytes (put_to b (journal_of a js))
  put-at a b = go (find (λ j. j.line.domain == a) js) refl
    where
      go : (o : Option DomainJournal) → find (λ j. j.line.domain == a) js ≡ o → AllByRecursion AreBytes (put_to b (journal_in o))
      go None is = tt
      go (Some j) is = put-bytes b j.entries (puts-fit j (all-found Placed (λ k. k.line.domain == a) js j each-placed is))

  lane-bytes : (l : Lane) → LaneFits s js l → AllByRecursion AreBytes (taken_from l.sender (journal_of l.receiver js))
  lane-bytes l fits = (all-parts AreBytes (taken_from l.sender (journal_of l.receiver js)) fits.taken_first.0 (subst (AllByRecursion AreBytes) fits.taken_first.1 (put-at l.sender l.receiver))).0

  module _ (j : DomainJournal) (at : Placed j) where
    from-neighbours : AllByRecursion (λ q. AllByRecursion AreBytes (taken_from q j.entries)) (peers_of s j.line)
    from-neighbours =
        all-map (λ q. AllByRecursion AreBytes (taken_from q j.entries)) (λ (n : Neighbour). n.number) (neighbours s j.line)
        (all-weaken _ (λ n. AllByRecursion AreBytes (taken_from n.number j.entries)) (λ n joined.
        let l : Lane = record { sender = n.number; receiver = j.line.domain; size = n.size } in
        let fits : LaneFits s js l = all-found (LaneFits s js) (λ k. (k.sender == n.number) && (k.receiver == j.line.domain)) (lanes s) l run.lanes_fit (lane-found s board n.number j.line.domain n.size (joined_back s j.line.domain n.number n.size joined)) in
        subst (λ o. AllByRecursion AreBytes (taken_from n.number (journal_in o))) at.found (lane-bytes l fits))
        (neighbours s j.line) (neighbours_join s j.line at.told))

    takes-bytes : (n : ℕ) → IsKnown (peers_of s j.line) n → AllByRecursion IsOfBytes (takes_from n j.entries)
    takes-bytes n known = all-unmap AreBytes (λ t. t.frame) (takes_from n j.entries) (known-holds (λ q. AllByRecursion AreBytes (taken_from q j.entries)) n (peers_of s j.line) from-neighbours known)

    journal-fits : HaveEntryLines j
    journal-fits =
        let count : length (peers_of s j.line) ≤ 8 = omega (arith, at.few, length-map (neighbours s j.line) (λ (n : Neighbour). n.number)) in
        joined-fits j.entries
        (entries-fit (peers_of s j.line) (peers-few s board j.line at.lawful) count (script s j.line.domain) (fit j at) (script-short s board j.line.domain) (start s j.line) j.entries (good j at) (allowed j at) (puts-fit j at) takes-bytes)

pub lines_fit : RunsHaveEntryLines
lines_fit s js lawful run =
    let board : IsLinkedBoard s = lawful_is_linked s lawful in
    all-weaken (Placed s js board run) HaveEntryLines (journal-fits s js board run) js (each-placed s js board run)
