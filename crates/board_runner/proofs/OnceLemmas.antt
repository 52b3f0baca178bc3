-- A call of a line at its station, where all was known before, and the links that are carried after it.
use Rattle.std.proofs.Common.{◌≡◌, ℕ, ◌<◌, Bool, true, false, not, List, length, map, set, get_or, Some, Result, Ok, Err, sym, ap, ◌∙◌, subst, arith}
use Rattle.std.specs.Prelude.{slice_get, IfOk, OnOk}
use Rattle.std.specs.List.{AllByRecursion, list_all}
use Rattle.std.proofs.lemmas.Option.{slice_get-get_or}
use Rattle.mc_base.specs.declared.refusal.NoMemory.{NoMemory}
use Rattle.board_model.specs.declared.scenario.CallLine.{CallLine}
use Rattle.board_model.specs.declared.scenario.Scenario.{Scenario}
use Rattle.board_model.specs.Journal.{Visit, is_idle}
use Rattle.board_model.specs.Language.{IsLawfulBoard}
use Rattle.board_model.specs.SerialRun.{Running, turned_once}
use Rattle.board_model.specs.State.{DomainState}
use Rattle.board_model.specs.Answer.{puts}
use Rattle.board_model.specs.CallChanges.{returned}
use Rattle.board_model.proofs.LawfulBoards.{lawful_is_linked}
use Rattle.board_model.proofs.WholePeers.{call_numbers}
use Rattle.board_model.proofs.WholeTurns.{turn_number, turn_numbers}
use Rattle.domain_core.specs.AllMoved.{AllMoved, turn_moves}
use Rattle.domain_core.specs.Going.{AnyGoes}
use Rattle.domain_core.proofs.Going.{any-calls-go}
use Rattle.mc_journal.specs.Entry.{plain_answer}
use Rattle.board_runner.specs.declared.station.Station.{Station}
use Rattle.board_runner.specs.declared.line.Made.{Made}
use Rattle.board_runner.specs.Carried.{IsTrue, StayCarriedWhere}
use Rattle.board_runner.specs.Lines.{Tries, NotesAnswer, IsIdleWhere, call_at_station}
use Rattle.board_runner.specs.Near.{Near, RunDomain, near_among, near_of, peers_of, EndsMatch}
use Rattle.board_runner.specs.Runs.{IsSomeBoard, IsSomeNext, Leads, AllCarried, CarriedBut, KnowsTrulyAt, IsNext, after_call, CallsLine}
use Rattle.board_runner.specs.Stations.{IsRun, near}
use Rattle.board_runner.proofs.ExactVisits.{after-call, true-called, come-here, exact-idle, exact-turn, matched-here, peers-differ, stood-all}
use Rattle.board_runner.proofs.RunBoards.{run-board}
use Rattle.board_runner.proofs.RunLemmas.{call_goes}
use Rattle.board_runner.proofs.RunStations.{domains_in, number_in}
use Rattle.board_runner.proofs.Resting.{board-moved, carried-but, carried-still, true-here}
use Rattle.board_runner.proofs.StationCounts.{at_place, may_count}
use Rattle.board_runner.proofs.TurnEnds.{Moved, ExactAt, ends-match}

pub then_given : {A : Type 0} {P Q : A → Type 0} (r : Result A NoMemory) → IfOk r P → ((x : A) → P x → Q x) → IfOk r Q
then_given (Ok x) h f = f x h
then_given (Err e) h f = tt

pub then_ok : {P Q : Type 0} (r : Result (Unit {0}) NoMemory) → OnOk r P → (P → Q) → OnOk r Q
then_ok (Ok x) h f = f h
then_ok (Err e) h f = tt

-- the station at a place that there is
pub placed : (sts : List Station) (n at : ℕ) (d : Station) → n ≡ length sts → at < n → slice_get sts at ≡ Some (get_or sts at d)
placed sts n at d same lt = slice_get-get_or sts at d (omega (arith, same, lt))

-- noting the answer leaves the domain, and its number
record NotesKeep (called_to new : Station) : Type 0 where
  domain : new.domain ≡ called_to.domain
  named : new.domain_number ≡ called_to.domain_number

notes_keep : (b : Bool) (line : CallLine) (m : Made) (called_to new : Station) → NotesAnswer b line m called_to new → NotesKeep called_to new
notes_keep true line m called_to new notes = record { domain = notes.domain; named = notes.domain_number }
notes_keep false line m called_to new notes = record { domain = notes.domain; named = notes.domain_number }

idle_where : (b : Bool) (vs : List Visit) → not b ≡ false → IsIdleWhere b vs → list_all is_idle vs ≡ true
idle_where true vs e idle = idle
idle_where false vs e idle = absurd cc

-- what is carried after it leads to no other run
pub calls_and_carries : (line : CallLine) (may_try is_again : Bool) (at : ℕ) (old mid new : List Station) → CallsLine line may_try is_again at old mid → Leads (λ s r. r) mid new → CallsLine line may_try is_again at old new
calls_and_carries line may_try is_again at old mid new calls carries s r lawful next stands =
    let k = calls s r lawful next stands in
    record { station = k.station; found = k.found; again_is = k.again_is; stands = carries s (after_call s line is_again k.station (turned_once s r line.domain)) lawful k.stands }

module _ (line : CallLine) (may_try is_again is_still : Bool) (old : List Station) (at : ℕ) (st new : Station) (carried : AllCarried old) (is : slice_get old at ≡ Some st) (h : Tries line may_try st new is_again is_still) where
  abbrev mid : List Station
  mid = set old at new

  keeps : NotesKeep h.called_to new
  keeps = notes_keep is_again line h.made h.called_to new h.notes

  goes : AnyGoes st.domain h.called_to.domain
  goes = any-calls-go line.node (call_at_station line st) st.domain h.called_to.domain st.journal.lines h.called_to.journal.lines (plain_answer h.made.answer) h.made.given h.makes.calls

  abbrev turned : RunDomain
  turned = h.makes.calls.turned_to

  number : number_in new ≡ number_in st
  number = ap (λ (d : RunDomain). d.state.number) keeps.domain ∙ goes.number

  named : new.domain_number ≡ st.domain_number
  named = keeps.named ∙ h.makes.domain_number

  peers_turned : peers_of turned ≡ peers_of st.domain
  peers_turned = ap (λ (x : DomainState). map (λ p. p.number) x.peers) h.makes.calls.turns.state ∙ turn_numbers st.domain.state h.makes.calls.visits

  peers_called : peers_of new.domain ≡ peers_of turned
  peers_called = ap peers_of keeps.domain ∙ ap (λ (x : DomainState). map (λ p. p.number) x.peers) h.makes.calls.does.state ∙ call_numbers turned.state line.node (call_at_station line st)

  peers : peers_of new.domain ≡ peers_of st.domain
  peers = peers_called ∙ peers_turned

  moved : AllMoved Moved st.domain.ends goes.moves new.domain.ends
  moved = subst (λ (d : RunDomain). AllMoved Moved st.domain.ends goes.moves d.ends) (sym keeps.domain) goes.moved

  -- in whatever run, the visits of its turn are those of the run
  abbrev ExactCall : Type 0
  ExactCall = (s : Scenario) (r : Running) → IsLawfulBoard s → IsRun s r old → AllByRecursion (ExactAt (near (domains_in old)) st.domain) h.makes.calls.visits

  calls_by : ExactCall → CallsLine line may_try is_again at old mid
  calls_by exact s r lawful next stands =
      let board = lawful_is_linked s lawful in
      let comes = at_place (IsNext s line) old at st is next in
      call_goes s board r old stands at st h.called_to new is line h.made h.makes comes (may_count s board line st comes) (exact s r lawful stands) is_again may_try h.notes h.again_is

  module _ (some : IsSomeNext line at old) where
    pub once_board : IsSomeBoard mid
    once_board = record {
      scenario = some.scenario;
      lawful = some.lawful;
      stands = board-moved some.scenario some.lawful old at st new (run-board some.scenario some.run old some.stands) is number named peers goes.moves moved;
    }

    pub once_but : CarriedBut at mid
    once_but = carried-but some.scenario some.lawful old at st new (run-board some.scenario some.run old some.stands) is number named peers goes.moves moved carried

    -- a quiet one did nothing
    pub once_still : (b : Bool) → not b ≡ false → StayCarriedWhere b st.domain.ends new.domain.ends → AllCarried mid
    once_still true e stay = carried-still some.scenario some.lawful old at st new (run-board some.scenario some.run old some.stands) is number named peers goes.moves moved carried stay
    once_still false e stay = absurd cc

  -- where what it knows is true, the call is that of the run
  pub calls_truly : KnowsTrulyAt at mid → CallsLine line may_try is_again at old mid
  calls_truly truly =
      calls_by (λ s r lawful stands.
      let board = lawful_is_linked s lawful in
      let c = h.makes.calls in
      let matched = matched-here s board r old stands at st is in
      let turned_number : turned.state.number ≡ number_in st = ap (λ (x : DomainState). x.number) c.turns.state ∙ turn_number st.domain.state c.visits in
      let matched_turned : EndsMatch (number_in st) (peers_of turned) turned.ends
      = subst (λ (ps : List ℕ). EndsMatch (number_in st) ps turned.ends) (sym peers_turned) (ends-match (number_in st) (peers_of st.domain) st.domain.ends (turn_moves st.domain.numbered c.visits c.numbers) turned.ends matched c.turns.moved) in
      let after = after-call (number_in st) (puts turned.state line.node (call_at_station line st)) (returned turned.numbered line.node (call_at_station line st)) (peers_of turned) turned.ends h.called_to.domain.ends matched_turned c.does.moved in
      exact-turn st.domain turned c.visits c.numbers c.turns matched (peers-differ s board r old stands at st is) (near (domains_in old)) (come-here s board r old stands at st is carried)
      (λ p other.
      let is_true = true-here s lawful old at st new (run-board s r old stands) is number named peers goes.moves moved truly p other in
      let near_new : near_of new.domain p ≡ near_among (peers_of turned) h.called_to.domain.ends p = (λ k. near_among (peers_called k) (keeps.domain k).ends p) in
      true-called (near_of turned p) (near_among (peers_of turned) h.called_to.domain.ends p) (near (domains_in old) p (number_in st)) (after p other) (subst (λ (x : Near). IsTrue x (near (domains_in old) p (number_in st))) near_new is_true)))

  -- and so it is where its turn is idle
  pub calls_idly : not is_still ≡ false → CallsLine line may_try is_again at old mid
  calls_idly still =
      calls_by (λ s r lawful stands.
      let board = lawful_is_linked s lawful in
      let c = h.makes.calls in
      exact-idle st.domain turned c.visits c.numbers c.turns (matched-here s board r old stands at st is) (peers-differ s board r old stands at st is) (near (domains_in old)) (come-here s board r old stands at st is carried) (idle_where is_still c.visits still h.idle)
      (stood-all s board r old stands at st is c.visits c.turns.allowed.each_peer))
