-- A line that waits on a board that runs serially: its tests, and what it is answered at its limit.
use Rattle.std.proofs.Common.{◌≡◌, ℕ, ◌+◌, Bool, true, false, not, cond, List, [], ◌∷◌, set, find, Some, None, Option, refl, sym, ap, ap₂, ◌∙◌, subst, eq-eqb}
use Rattle.std.specs.Prelude.{IsSome, slice_get}
use Rattle.std.specs.List.{AllByRecursion}
use Rattle.mc_base.specs.declared.refusal.Refusal.TheVariants.{Timeout}
use Rattle.mc_base.specs.declared.request.RequestId.{RequestId}
use Rattle.board_model.specs.declared.scenario.CallLine.{CallLine}
use Rattle.board_model.specs.declared.scenario.Scenario.{Scenario}
use Rattle.board_model.specs.Answer.{answer, puts}
use Rattle.board_model.specs.CallChanges.{returned}
use Rattle.board_model.specs.DomainCall.{DomainCall}
use Rattle.board_model.specs.Journal.{noted, noted_all, refuses, waits}
use Rattle.board_model.specs.LinkedBoard.{IsLinkedBoard}
use Rattle.board_model.specs.Loads.{Load, loads_given}
use Rattle.board_model.specs.Scenario.{lanes, script}
use Rattle.board_model.specs.SerialRun as run
use Rattle.board_model.specs.SerialRun.{Running, is_station, is_waiting_at, last_call, loads_with_puts, station_of, with_beginning, with_entry}
use Rattle.board_model.specs.State.{DomainState, Item}
use Rattle.board_model.specs.Step.{call_at, is_timeout, limit_of, next_line}
use Rattle.board_model.proofs.WholeStations.{entered_all, station, station_after}
use Rattle.domain_core.specs.Calls.{Does}
use Rattle.domain_core.specs.Waiting.{wait_entries, wait_on}
use Rattle.mc_journal.specs.Entry.{plain_answer}
use Rattle.board_runner.specs.declared.station.Station.{Station}
use Rattle.board_runner.specs.declared.line.Made.{Made}
use Rattle.board_runner.specs.Lines.{NotesCalled, call_at_station}
use Rattle.board_runner.specs.Runs.{IsNext}
use Rattle.board_runner.specs.Stations.{IsRun, IsStation, LaneHolds}
use Rattle.board_runner.specs.Waits.{EndsAtOnce, HasTested, NotesEnd, after_test, ids_named, says_place}
use Rattle.board_runner.proofs.CallKept.{call_kept}
use Rattle.board_runner.proofs.CallLemmas.{DoesNothing, nothing_given, refused_nothing}
use Rattle.board_runner.proofs.RunLemmas.{is_called}
use Rattle.board_runner.proofs.StationCounts.{may_count}
use Rattle.board_runner.proofs.StationLemmas.{StandsAt, domains, domains_differ, found_at, here, own_number, run_entered}
use Rattle.board_runner.proofs.TurnEnds.{Moved}
use Rattle.board_runner.proofs.TurnStations.{turned_station}
use Rattle.board_runner.proofs.WaitLemmas.{timeout-word}
use Rattle.board_runner.proofs.WaitStations.{MadeAtOnce, begun-station, does-line, made-at-once, nothing-station, same-call, same-station, times-out, wait-called, waiting-is}

not-not : (b : Bool) → b ≡ not (not b)
not-not true = refl
not-not false = refl

-- what does nothing leaves the lanes
nothing-loads : (n : ℕ) (s : DomainState) (node : ℕ) (call : DomainCall) (loads : List Load) → DoesNothing s node call → loads_given n (returned s node call) (loads_with_puts n (puts s node call) loads) ≡ loads
nothing-loads n s node call loads nothing =
    ap₂ (λ (items : List Item) (ps : List (ℕ × List ℕ)). loads_given n items (loads_with_puts n ps loads)) nothing.returns_none nothing.puts_none ∙ nothing_given n loads

-- the line, which waits, comes next at a station of a run
module _ (s : Scenario) (board : IsLinkedBoard s) (q : Running) (sts : List Station) (stands : IsRun s q sts) (at : ℕ) (st : Station) (is_at : slice_get sts at ≡ Some st) (line : CallLine) (next : IsNext s line st) (is_wait : IsSome (limit_of line.call)) where
  pub wait-there : StandsAt s q st at
  wait-there = here s q sts at st stands is_at

  abbrev t : run.Station
  t = wait-there.station

  own : t.line.domain ≡ line.domain
  own = sym (own_number s t st wait-there.stands) ∙ next.number

  pub wait-found : station_of line q ≡ Some t
  wait-found = subst (λ (n : ℕ). find (is_station n) q.stations ≡ Some t) own (found_at q.stations at t (domains_differ s board q.stations stands.lines) wait-there.is_at)

  comes : next_line (script s t.line.domain) t.run ≡ Some line
  comes = ap₂ (λ (n k : ℕ). slice_get (script s n) k) own (sym wait-there.stands.number) ∙ next.comes

  abbrev ids : List RequestId
  ids = ids_named st.ids line.call

  abbrev says : Bool
  says = says_place line.call

  abbrev waiting : Bool
  waiting = is_timeout (answer t.run.state line.node (call_at t.run line))

  -- whether it waits in the run is whether it does at the station
  pub waiting-here : (more : Bool) → is_timeout (answer st.domain.state 0 (wait_on ids more st.domain)) ≡ is_waiting_at line (station_of line q)
  waiting-here more = waiting-is s t st wait-there.stands line is_wait more ∙ sym (ap (is_waiting_at line) wait-found)

  -- it goes on to wait where it begins
  begins-waiting : is_waiting_at line (station_of line (with_beginning s line (station_of line q) q)) ≡ waiting
  begins-waiting =
      let k = t.run.lines_called + 1 in
      let d = line.domain in
      ap (λ (o : Option run.Station). is_waiting_at line (station_of line (with_beginning s line o q))) wait-found
      ∙ ap (is_waiting_at line)
      (station_after s d (waits k ∷ []) q t wait-found d ∙ ap (λ (b : Bool). cond b (Some (entered_all s (waits k ∷ []) t)) (station q d)) (eq-eqb d d refl))

  -- ---- it is called

  module _ (called_to new : Station) (m : Made) (does : Does Moved 0 (wait_on ids says st.domain) st.domain called_to.domain (plain_answer m.answer) None) (given : m.given ≡ None) (lends : m.lent ≡ does.lent) where
    pub wait-ends : called_to.journal.lines ≡ st.journal.lines → called_to.ids ≡ st.ids → called_to.packets ≡ st.packets → called_to.number ≡ st.number → called_to.dropped ≡ st.dropped → called_to.domain_number ≡ st.domain_number → NotesCalled line m called_to new → IsRun s (last_call s line (station_of line q) q) (set sts at new)
    wait-ends told held packets number dropped domain_number notes =
        let is_call = wait-called s t st wait-there.stands line is_wait called_to m does given lends told held packets number dropped domain_number in
        subst (λ (o : Option run.Station). IsRun s (last_call s line o q) (set sts at new)) (sym wait-found)
        (is_called s board q sts stands at st is_at t wait-there.is_at line own called_to new m (call_at_station line st) is_call notes.domain notes comes (may_count s board line st next))

  -- ---- it begins

  wait-begins : (waited_to : Station) (m : Made) (does : Does Moved 0 (wait_on ids says st.domain) st.domain waited_to.domain (plain_answer m.answer) None) (given : m.given ≡ None) (lends : m.lent ≡ does.lent) → waiting ≡ true →
      waited_to ≡ turned_station st waited_to.domain waited_to.journal → waited_to.journal.lines ≡ noted st.journal.lines (waits (st.number + 1)) → IsRun s (with_beginning s line (station_of line q) q) (set sts at waited_to)
  wait-begins waited_to m does given lends waits_still same told =
      let call = call_at_station line st in
      let made = does-line s t st wait-there.stands line is_wait waited_to m does given lends in
      let begun = turned_station st st.domain waited_to.journal in
      let timeout = timeout-word (answer st.domain.state 0 (wait_on ids says st.domain)) (waiting-is s t st wait-there.stands line is_wait says ∙ waits_still) in
      let nothing = refused_nothing st.domain.state 0 Timeout (wait_on ids says st.domain) timeout in
      let nothing_by = refused_nothing st.domain.state line.node Timeout call (timeout-word (answer st.domain.state line.node call) (is_timeout_line ∙ waits_still)) in
      let kept = call_kept s board q sts stands at st waited_to is_at line.node call (plain_answer m.answer) m.given made in
      let d = st.domain.state.number in
      let k = t.run.lines_called + 1 in
      let is = subst (λ (x : Station). IsStation s (run.entered s (waits k) t) x) (sym same) (nothing-station s (run.entered s (waits k) t) begun 0 (wait_on ids says st.domain) waited_to.domain (plain_answer m.answer) (begun-station s t st waited_to.journal wait-there.stands told) does nothing) in
      subst (λ (o : Option run.Station). IsRun s (with_beginning s line o q) (set sts at waited_to)) (sym wait-found)
      (subst (λ (n : ℕ). IsRun s (with_entry s n (waits k) q) (set sts at waited_to)) own
      (run_entered s board q sts at t (waits k ∷ []) q.loads waited_to stands wait-there.is_at is
      (subst (λ (ls : List Load). AllByRecursion (LaneHolds (domains (set sts at waited_to)) ls) (lanes s)) (nothing-loads d st.domain.state line.node call q.loads nothing_by) kept.holds) kept.joins))
    where
      is_timeout_line : is_timeout (answer st.domain.state line.node (call_at_station line st)) ≡ waiting
      is_timeout_line =
          ap₂ (λ (x : DomainState) (c : DomainCall). is_timeout (answer x line.node c)) wait-there.stands.state (same-call s t st wait-there.stands line is_wait)

  -- ---- its tests

  pub has-tested : (b : Bool) (new : Station) → EndsAtOnce line b st new → HasTested s line b q (set sts at new)
  has-tested b new e = go b refl e.notes
    where
      m : Made
      m = e.made

      at_once : MadeAtOnce (st.number + 1) ids says st.domain e.waited_to.domain st.journal.lines e.waited_to.journal.lines (plain_answer m.answer) m.lent
      at_once = made-at-once (st.number + 1) 0 ids says st.domain e.waited_to.domain st.journal.lines e.waited_to.journal.lines (plain_answer m.answer) m.lent e.waits.made.waits e.waits.made.waits.few e.waits.made.lends

      timed_out : is_timeout (plain_answer m.answer) ≡ waiting
      timed_out = ap is_timeout at_once.does.answer ∙ waiting-is s t st wait-there.stands line is_wait says

      ends : waiting ≡ not b
      ends = not-not waiting ∙ ap not (ap not (sym timed_out) ∙ sym e.ends)

      told : (x : Bool) → waiting ≡ x → e.waited_to.journal.lines ≡ noted_all st.journal.lines (wait_entries (st.number + 1) x [])
      told x is = at_once.told ∙ ap (λ (y : Bool). noted_all st.journal.lines (wait_entries (st.number + 1) y [])) (waiting-is s t st wait-there.stands line is_wait false ∙ is)

      after : (x : Bool) → b ≡ x → NotesEnd x line m e.waited_to new → IsRun s (after_test s line x q) (set sts at new)
      after true is notes = wait-ends e.waited_to new m at_once.does e.waits.made.given at_once.lends (told false (ends ∙ ap not is)) e.waits.ids e.waits.packets e.waits.number e.waits.dropped e.waits.domain_number notes
      after false is notes =
          let w = e.waited_to in
          subst (λ (x : Station). IsRun s (with_beginning s line (station_of line q) q) (set sts at x)) (sym notes)
          (wait-begins w m at_once.does e.waits.made.given at_once.lends (ends ∙ ap not is) (same-station st w e.waits.ids e.waits.packets e.waits.number e.waits.dropped e.waits.domain_number) (told true (ends ∙ ap not is)))

      go : (x : Bool) → b ≡ x → NotesEnd b line m e.waited_to new → HasTested s line b q (set sts at new)
      go x is notes = record {
        ends = ap (is_waiting_at line) wait-found ∙ ends;
        still = begins-waiting ∙ ends;
        stands = subst (λ (y : Bool). IsRun s (after_test s line y q) (set sts at new)) (sym is) (after x is (subst (λ (y : Bool). NotesEnd y line m e.waited_to new) is notes));
      }

  -- ---- its limit

  pub has-timed-out : (new : Station) (m : Made) → NotesCalled line m st new → plain_answer m.answer ≡ refuses Timeout → m.given ≡ None → m.lent ≡ None → is_waiting_at line (station_of line q) ≡ true → IsRun s (last_call s line (station_of line q) q) (set sts at new)
  has-timed-out new m notes answered given lent waits_still =
      let still = sym (ap (is_waiting_at line) wait-found) ∙ waits_still in
      let out = times-out s t st wait-there.stands line is_wait still (plain_answer m.answer) answered in
      wait-ends st new m out.does given (lent ∙ out.none) refl refl refl refl refl refl notes
