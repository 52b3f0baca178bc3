-- The stations of a board around a line that waits: what is carried after its tests, and what they count.
use Rattle.std.proofs.Common.{◌≡◌, ℕ, ◌+◌, Bool, true, false, List, map, set, Some, None, option_map, refl, sym, ap, ap₂, ◌∙◌, subst, arith}
use Rattle.std.specs.Prelude.{IsSome, slice_get}
use Rattle.std.proofs.lemmas.List.{map-set}
use Rattle.std.proofs.lemmas.Option.{slice_get-map}
use Rattle.mc_base.specs.declared.refusal.Refusal.TheVariants.{Timeout}
use Rattle.mc_base.specs.declared.request.RequestId.{RequestId}
use Rattle.board_model.specs.declared.scenario.CallLine.{CallLine}
use Rattle.board_model.specs.Answer.{puts}
use Rattle.board_model.specs.CallChanges.{call_changes, returned}
use Rattle.board_model.specs.DomainCall.{DomainCall}
use Rattle.board_model.specs.Journal.{refuses}
use Rattle.board_model.specs.State.{DomainState}
use Rattle.board_model.specs.Step.{limit_of}
use Rattle.board_model.proofs.DeedJoins.{changes-keep}
use Rattle.board_model.proofs.LawfulBoards.{lawful_is_linked}
use Rattle.board_model.proofs.WholePeers.{call_numbers}
use Rattle.domain_core.specs.AllMoved.{AllMoved, call_moves}
use Rattle.domain_core.specs.LaneMoves.{LaneMove}
use Rattle.domain_core.specs.Waiting.{wait_on}
use Rattle.mc_journal.specs.Entry.{plain_answer}
use Rattle.board_runner.specs.declared.station.Station.{Station}
use Rattle.board_runner.specs.declared.line.Made.{Made}
use Rattle.board_runner.specs.Carried.{AreCarried}
use Rattle.board_runner.specs.Lines.{NotesCalled, dropped_by}
use Rattle.board_runner.specs.Near.{RunDomain, peers_of}
use Rattle.board_runner.specs.Runs.{AllCarried, CarriedBut, IsNext, IsSomeBoard, IsSomeNext, KeepCounts, Leads, OneLineMore}
use Rattle.board_runner.specs.StationsMet.{counted, domains_of}
use Rattle.board_runner.specs.Waits.{CountsTest, EndsAtOnce, NotesEnd, TestsWait, TimesOut, after_test, ids_named, says_place}
use Rattle.board_runner.proofs.Resting.{board-moved, carried-but}
use Rattle.board_runner.proofs.RunBoards.{run-board}
use Rattle.board_runner.proofs.RunStations.{number_in}
use Rattle.board_runner.proofs.StationCounts.{at_place, counts_call_after, counts_stay, one_more}
use Rattle.board_runner.proofs.StationLemmas.{set-same}
use Rattle.board_runner.proofs.TurnEnds.{Moved}
use Rattle.board_runner.proofs.WaitLemmas.{wait-drops}
use Rattle.board_runner.proofs.WaitRuns.{has-tested, has-timed-out}
use Rattle.board_runner.proofs.WaitStations.{MadeAtOnce, made-at-once}

-- noting the answer leaves the domain, and its number
record EndKeeps (waited_to new : Station) : Type 0 where
  domain : new.domain ≡ waited_to.domain
  named : new.domain_number ≡ waited_to.domain_number

end_keeps : (b : Bool) (line : CallLine) (m : Made) (waited_to new : Station) → NotesEnd b line m waited_to new → EndKeeps waited_to new
end_keeps true line m waited_to new notes = record { domain = notes.domain; named = notes.domain_number }
end_keeps false line m waited_to new notes = record { domain = ap (λ (x : Station). x.domain) notes; named = ap (λ (x : Station). x.domain_number) notes }

-- a test of the wait at the station of its domain
module _ (line : CallLine) (is_wait : IsSome (limit_of line.call)) (b : Bool) (old : List Station) (at : ℕ) (st new : Station) (is : slice_get old at ≡ Some st) (e : EndsAtOnce line b st new) where
  abbrev mid : List Station
  mid = set old at new

  abbrev ids : List RequestId
  ids = ids_named st.ids line.call

  abbrev says : Bool
  says = says_place line.call

  at_once : MadeAtOnce (st.number + 1) ids says st.domain e.waited_to.domain st.journal.lines e.waited_to.journal.lines (plain_answer e.made.answer) e.made.lent
  at_once = made-at-once (st.number + 1) 0 ids says st.domain e.waited_to.domain st.journal.lines e.waited_to.journal.lines (plain_answer e.made.answer) e.made.lent e.waits.made.waits e.waits.made.waits.few e.waits.made.lends

  keeps : EndKeeps e.waited_to new
  keeps = end_keeps b line e.made e.waited_to new e.notes

  abbrev call : DomainCall
  call = wait_on ids says st.domain

  number : number_in new ≡ number_in st
  number = ap (λ (d : RunDomain). d.state.number) keeps.domain ∙ ap (λ (x : DomainState). x.number) at_once.does.state ∙ changes-keep (λ (x : DomainState). x.number) (λ x c. refl) st.domain.state (call_changes st.domain.state 0 call)

  named : new.domain_number ≡ st.domain_number
  named = keeps.named ∙ e.waits.domain_number

  peers : peers_of new.domain ≡ peers_of st.domain
  peers = ap peers_of keeps.domain ∙ ap (λ (x : DomainState). map (λ p. p.number) x.peers) at_once.does.state ∙ call_numbers st.domain.state 0 call

  abbrev moves : List (List LaneMove)
  moves = call_moves (puts st.domain.state 0 call) (returned st.domain.numbered 0 call) (peers_of st.domain)

  moved : AllMoved Moved st.domain.ends moves new.domain.ends
  moved = subst (λ (d : RunDomain). AllMoved Moved st.domain.ends moves d.ends) (sym keeps.domain) at_once.does.moved

  pub tested-board : IsSomeNext line at old → IsSomeBoard mid
  tested-board some = record {
    scenario = some.scenario;
    lawful = some.lawful;
    stands = board-moved some.scenario some.lawful old at st new (run-board some.scenario some.run old some.stands) is number named peers moves moved;
  }

  pub tested-but : IsSomeNext line at old → AllCarried old → CarriedBut at mid
  tested-but some carried = carried-but some.scenario some.lawful old at st new (run-board some.scenario some.run old some.stands) is number named peers moves moved carried

  pub tests-wait : TestsWait line b at old mid
  tests-wait s r lawful next h = has-tested s (lawful_is_linked s lawful) r old h at st is line (at_place (IsNext s line) old at st is next) is_wait b new e

  pub counts-test : CountsTest b at old mid
  counts-test = go b e.notes
    where
      go : (x : Bool) → NotesEnd x line e.made e.waited_to new → CountsTest x at old mid
      go true notes =
          let none = wait-drops line.call (plain_answer e.made.answer) is_wait in
          one_more old old at st new refl is (notes.number ∙ ap (λ (k : ℕ). k + 1) e.waits.number) (dropped_by line.call (plain_answer e.made.answer)) (omega (arith, none))
          (notes.dropped ∙ ap (λ (k : ℕ). k + dropped_by line.call (plain_answer e.made.answer)) e.waits.dropped)
      go false notes = counts_stay old old at st new refl is (ap counted notes ∙ ap₂ (λ (k n : ℕ). (k, n)) e.waits.number e.waits.dropped)

-- what is carried after it leads to no other run, and counts nothing
pub tests-and-carries : (line : CallLine) (b : Bool) (at : ℕ) (old mid new : List Station) → TestsWait line b at old mid → Leads (λ s r. r) mid new → TestsWait line b at old new
tests-and-carries line b at old mid new tests carries s r lawful next h =
    let t = tests s r lawful next h in
    record { ends = t.ends; still = t.still; stands = carries s (after_test s line b r) lawful t.stands }

pub counts-test-after : (b : Bool) (at : ℕ) (old mid new : List Station) → CountsTest b at old mid → KeepCounts mid new → CountsTest b at old new
counts-test-after true at old mid new counts same = counts_call_after false at old mid new counts same
counts-test-after false at old mid new counts same = counts_call_after true at old mid new counts same

-- the limit of the wait is noted at the station of its domain
module _ (line : CallLine) (is_wait : IsSome (limit_of line.call)) (old : List Station) (at : ℕ) (st new : Station) (is : slice_get old at ≡ Some st) (m : Made) (notes : NotesCalled line m st new) where
  pub timed-out : plain_answer m.answer ≡ refuses Timeout → m.given ≡ None → m.lent ≡ None → TimesOut line at old (set old at new)
  timed-out answered given lent s r lawful next h waits = has-timed-out s (lawful_is_linked s lawful) r old h at st is line (at_place (IsNext s line) old at st is next) is_wait new m notes answered given lent waits

  pub timed-out-carried : AllCarried old → AllCarried (set old at new)
  timed-out-carried carried =
      let same : domains_of (set old at new) ≡ domains_of old =
      map-set (λ (x : Station). x.domain) old at new ∙ ap (set (domains_of old) at) notes.domain ∙ set-same (domains_of old) at st.domain (slice_get-map (λ (x : Station). x.domain) old at ∙ ap (option_map (λ (x : Station). x.domain)) is) in
      subst AreCarried (sym same) carried

  pub timed-out-counts : OneLineMore at old (set old at new)
  timed-out-counts =
      let none = wait-drops line.call (plain_answer m.answer) is_wait in
      one_more old old at st new refl is notes.number (dropped_by line.call (plain_answer m.answer)) (omega (arith, none)) notes.dropped
