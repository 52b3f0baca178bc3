-- The stations after a call of a line with its turn: the run after it.
use Rattle.std.proofs.Common.{◌≡◌, ℕ, ◌+◌, ◌<◌, ◌^◌, Bool, true, false, ◌&&◌, List, [], ◌∷◌, set, find, Some, refl, sym, ap, ap₂, ◌∙◌, subst}
use Rattle.std.specs.Prelude.{slice_get}
use Rattle.std.specs.List.{AllByRecursion}
use Rattle.std.proofs.lemmas.List.{set-set}
use Rattle.lane_end.specs.AnySender.{AnySends}
use Rattle.lane_end.specs.AnyReceiver.{AnyReceives}
use Rattle.board_model.specs.declared.scenario.CallLine.{CallLine}
use Rattle.board_model.specs.declared.scenario.Scenario.{Scenario}
use Rattle.board_model.specs.LinkedBoard.{IsLinkedBoard}
use Rattle.board_model.specs.Answer.{answer, puts}
use Rattle.board_model.specs.DomainCall.{DomainCall}
use Rattle.board_model.specs.CallChanges.{returned}
use Rattle.board_model.specs.Journal.{turned, again, noted, PlainAnswer}
use Rattle.board_model.specs.Labels.{call_of}
use Rattle.board_model.specs.Loads.{Load, loads_given}
use Rattle.board_model.specs.Scenario.{lanes, script}
use Rattle.board_model.specs.State.{DomainState}
use Rattle.board_model.specs.Step.{next_line, call_at, is_tried}
use Rattle.board_model.specs.SerialRun as run
use Rattle.board_model.specs.SerialRun.{Running, is_station, station_of, turned_once, with_entry, with_entries, word_in, called_by, loads_with_puts}
use Rattle.mc_base.specs.declared.request.PacketId.{PacketId}
use Rattle.mc_base.specs.declared.request.RequestId.{RequestId}
use Rattle.board_model.proofs.WholeTurns.{turn_number}
use Rattle.board_model.proofs.WholeJournals.{call_entries}
use Rattle.domain_core.specs.Calls.{Does}
use Rattle.domain_core.specs.Ends.{EndsMoved}
use Rattle.mc_journal.specs.Entry.{plain_answer}
use Rattle.board_runner.specs.declared.station.Station.{Station}
use Rattle.board_runner.specs.declared.line.Made.{Made}
use Rattle.board_runner.specs.Lines.{call_by, call_at_station, MakesCall, NotesAgain, NotesCalled, NotesAnswer}
use Rattle.board_runner.specs.Runs.{IsNext, IsCalled, after_call}
use Rattle.board_runner.specs.Stations.{IsRun, LaneHolds, near}
use Rattle.board_runner.proofs.CallKept.{LanesKept, call_kept}
use Rattle.board_runner.proofs.CallLemmas.{IsCall, called_station, again_station, again_loads}
use Rattle.board_runner.proofs.HeldLemmas.{call_is}
use Rattle.board_runner.proofs.StationLemmas.{domains, StandsAt, slice_get-set, here, own_number, found_at, domains_differ, run_entered}
use Rattle.board_runner.proofs.TurnEnds.{ExactAt}
use Rattle.board_runner.proofs.TurnKept.{turn_kept}
use Rattle.board_runner.proofs.TurnStations.{turned_station}

-- a call after its turn: what it leaves is the run after it
module _ (s : Scenario) (board : IsLinkedBoard s) (q : Running) (sts : List Station) (stands : IsRun s q sts) (at : ℕ) (st : Station) (is_at : slice_get sts at ≡ Some st)
    (t : run.Station) (t_at : slice_get q.stations at ≡ Some t) (line : CallLine) (own : t.line.domain ≡ line.domain) (called_to new : Station) (m : Made) (call : DomainCall) (h : IsCall s t line st called_to m call) (same : new.domain ≡ called_to.domain) where
  abbrev d : ℕ
  d = st.domain.state.number

  number_is : d ≡ line.domain
  number_is = own_number s t st h.stands ∙ own

  abbrev loads : List Load
  loads = loads_given d (returned st.domain.state line.node call) (loads_with_puts d (puts st.domain.state line.node call) q.loads)

  kept : LanesKept s st.domain new.domain (domains (set sts at new)) loads
  kept = call_kept s board q sts stands at st new is_at line.node call (plain_answer m.answer) m.given (subst (λ e. Does (EndsMoved AnySends AnyReceives) line.node call st.domain e (plain_answer m.answer) m.given) (sym same) h.does)

  -- the last one
  pub is_called : NotesCalled line m called_to new → next_line (script s t.line.domain) t.run ≡ Some line → st.number + 1 < 2 ^ 32 → IsRun s (called_by s line t q) (set sts at new)
  is_called notes comes few =
      let is = called_station s t line st called_to new m call h notes comes few in
      let go = run_entered s board q sts at t (call_entries (puts t.run.state line.node (call_at t.run line)) (t.run.lines_called + 1) (answer t.run.state line.node (call_at t.run line))) loads new stands t_at is kept.holds kept.joins in
      let same_loads : loads ≡ loads_given line.domain (returned t.run.state line.node (call_at t.run line)) (loads_with_puts line.domain (puts t.run.state line.node (call_at t.run line)) q.loads) =
      ap (λ (n : ℕ). loads_given n (returned st.domain.state line.node call) (loads_with_puts n (puts st.domain.state line.node call) q.loads)) number_is
      ∙ ap₂ (λ (x : DomainState) (c : DomainCall). loads_given line.domain (returned x line.node c) (loads_with_puts line.domain (puts x line.node c) q.loads)) h.stands.state h.call_is in
      subst (λ (ls : List Load). IsRun s (with_entries s line.domain (call_entries (puts t.run.state line.node (call_at t.run line)) (t.run.lines_called + 1) (answer t.run.state line.node (call_at t.run line))) (record q { loads = ls })) (set sts at new)) same_loads
      (subst (λ (n : ℕ). IsRun s (with_entries s n (call_entries (puts t.run.state line.node (call_at t.run line)) (t.run.lines_called + 1) (answer t.run.state line.node (call_at t.run line))) (record q { loads = loads })) (set sts at new)) own go)

  -- one that is made again
  pub is_made_again : NotesAgain m called_to new → is_tried (plain_answer m.answer) ≡ true → IsRun s (with_entry s line.domain (again (word_in (answer t.run.state line.node (call_at t.run line)))) q) (set sts at new)
  is_made_again notes tried =
      let is = again_station s t line st called_to new m call h notes tried in
      let holds = subst (λ (ls : List Load). AllByRecursion (LaneHolds (domains (set sts at new)) ls) (lanes s)) (again_loads s t line st called_to new m call h notes tried q.loads) kept.holds in
      subst (λ (n : ℕ). IsRun s (with_entry s n (again (word_in (answer t.run.state line.node (call_at t.run line)))) q) (set sts at new)) own
      (run_entered s board q sts at t (again (word_in (answer t.run.state line.node (call_at t.run line))) ∷ []) q.loads new stands t_at is holds kept.joins)

-- a call with its turn
module _ (s : Scenario) (board : IsLinkedBoard s) (r : Running) (sts : List Station) (stands : IsRun s r sts) (at : ℕ) (old called_to new : Station) (is_at : slice_get sts at ≡ Some old)
    (line : CallLine) (m : Made) (makes : MakesCall line old called_to m) (next : IsNext s line old) (few : old.number + 1 < 2 ^ 32) (exact : AllByRecursion (ExactAt (near (domains sts)) old.domain) makes.calls.visits) where
  -- the station after its turn
  abbrev turned_to : Station
  turned_to = turned_station old makes.calls.turned_to (record old.journal { lines = noted old.journal.lines (turned makes.calls.visits) })

  abbrev turned_all : List Station
  turned_all = set sts at turned_to

  after_turn : IsRun s (turned_once s r line.domain) turned_all
  after_turn = turn_kept s board r sts stands at old makes.calls.turned_to turned_to.journal line.domain is_at makes.calls.visits makes.calls.numbers exact makes.calls.turns refl next.number

  turned_at : slice_get turned_all at ≡ Some turned_to
  turned_at = slice_get-set sts at old turned_to is_at

  there : StandsAt s (turned_once s r line.domain) turned_to at
  there = here s (turned_once s r line.domain) turned_all at turned_to after_turn turned_at

  abbrev t : run.Station
  t = there.station

  own : t.line.domain ≡ line.domain
  own = sym (own_number s t turned_to there.stands) ∙ ap (λ (x : DomainState). x.number) makes.calls.turns.state ∙ turn_number old.domain.state makes.calls.visits ∙ next.number

  found : station_of line (turned_once s r line.domain) ≡ Some t
  found =
      let ts = (turned_once s r line.domain).stations in
      subst (λ (n : ℕ). find (is_station n) ts ≡ Some t) own (found_at ts at t (domains_differ s board ts after_turn.lines) there.is_at)

  abbrev call : DomainCall
  call = call_at_station line old

  same_call : call ≡ call_at t.run line
  same_call =
      ap₂ (λ (ids : List RequestId) (packets : List PacketId). call_by old.ids old.packets ids packets line.call) (sym makes.calls.turns.ids) (sym makes.calls.turns.packets)
      ∙ call_is turned_to.domain old.ids old.packets t.run.labels t.run.lines_called line.call there.stands.held
      ∙ ap (λ (x : DomainState). call_of t.run.labels x line.call) there.stands.state

  is_call : IsCall s t line turned_to called_to m call
  is_call =
      let kept = call_kept s board (turned_once s r line.domain) turned_all after_turn at turned_to called_to turned_at line.node call (plain_answer m.answer) m.given makes.calls.does in
      record {
        stands = there.stands;
        call_is = same_call;
        does = makes.calls.does;
        told = makes.calls.told;
        gives = makes.gives;
        lends = makes.lends;
        ids = makes.ids;
        packets = makes.packets;
        number = makes.number;
        dropped = makes.dropped;
        domain_number = makes.domain_number;
        peers = kept.peers;
        matched = kept.matched;
      }

  same_answer : plain_answer m.answer ≡ answer t.run.state line.node (call_at t.run line)
  same_answer = makes.calls.does.answer ∙ ap₂ (λ (x : DomainState) (c : DomainCall). answer x line.node c) there.stands.state same_call

  comes : next_line (script s t.line.domain) t.run ≡ Some line
  comes = ap₂ (λ (n k : ℕ). slice_get (script s n) k) own (sym there.stands.number) ∙ next.comes

  set_twice : (x : Station) → set turned_all at x ≡ set sts at x
  set_twice x = set-set sts at turned_to x

  tried_of : (x may : Bool) → true ≡ (x && may) → x ≡ true
  tried_of true may e = refl
  tried_of false may e = sym e

  stands_after : (is_again : Bool) (may_try : Bool) → NotesAnswer is_again line m called_to new → is_again ≡ (is_tried (plain_answer m.answer) && may_try) → IsRun s (after_call s line is_again t (turned_once s r line.domain)) (set turned_all at new)
  stands_after true may_try notes again_is = is_made_again s board (turned_once s r line.domain) turned_all after_turn at turned_to turned_at t there.is_at line own called_to new m call is_call notes.domain notes (tried_of (is_tried (plain_answer m.answer)) may_try again_is)
  stands_after false may_try notes again_is = is_called s board (turned_once s r line.domain) turned_all after_turn at turned_to turned_at t there.is_at line own called_to new m call is_call notes.domain notes comes few

  pub call_goes : (is_again may_try : Bool) → NotesAnswer is_again line m called_to new → is_again ≡ (is_tried (plain_answer m.answer) && may_try) → IsCalled s line may_try is_again (turned_once s r line.domain) (set sts at new)
  call_goes is_again may_try notes again_is = record {
    station = t;
    found = found;
    again_is = again_is ∙ ap (λ (a : PlainAnswer). is_tried a && may_try) same_answer;
    stands = subst (λ xs. IsRun s (after_call s line is_again t (turned_once s r line.domain)) xs) (set_twice new) (stands_after is_again may_try notes again_is);
  }
