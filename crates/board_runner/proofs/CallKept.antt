-- What a call of a domain leaves on the lanes.
use Rattle.std.proofs.Common.{◌≡◌, ℕ, cond, List, length, map, Option, Some, refl, sym, ap, ◌∙◌, subst}
use Rattle.std.specs.Prelude.{◌==◌, slice_get, slice_set}
use Rattle.std.specs.List.{AllByRecursion}
use Rattle.mc_base.specs.declared.request.RequestId.{RequestId}
use Rattle.lane_end.specs.AnySender.{AnySends}
use Rattle.lane_end.specs.AnyReceiver.{AnyReceives}
use Rattle.board_model.specs.declared.scenario.Scenario.{Scenario}
use Rattle.board_model.specs.LinkedBoard.{IsLinkedBoard}
use Rattle.board_model.specs.Answer.{puts}
use Rattle.board_model.specs.DomainCall.{DomainCall}
use Rattle.board_model.specs.CallChanges.{call_changes, returned}
use Rattle.board_model.specs.Journal.{PlainAnswer}
use Rattle.board_model.specs.Loads.{Load, loads_given}
use Rattle.board_model.specs.Scenario.{Lane, lanes}
use Rattle.board_model.specs.State.{DomainState, frames_from}
use Rattle.board_model.specs.SerialRun.{Running, loads_with_puts}
use Rattle.board_model.proofs.DeedJoins.{changes-keep}
use Rattle.board_model.proofs.MessageAlls.{all-weaken, all-with}
use Rattle.board_model.proofs.WholeCalls.{frames_for}
use Rattle.board_model.proofs.WholePeers.{call_numbers}
use Rattle.domain_core.specs.AllMoved.{call_moves}
use Rattle.domain_core.specs.Calls.{Does}
use Rattle.domain_core.specs.Ends.{EndsMoved}
use Rattle.board_runner.specs.declared.station.Station.{Station}
use Rattle.board_runner.specs.Near.{Near, RunDomain, near_among, near_of, peers_of, EndsMatch}
use Rattle.board_runner.specs.Stations.{near, IsRun, LaneHolds, LaneJoins}
use Rattle.board_runner.proofs.RunBoards.{run-board, matched-at}
use Rattle.board_runner.proofs.CallLanes.{loads_called, lane-called}
use Rattle.board_runner.proofs.NamedItems.{named-many}
use Rattle.board_runner.proofs.NearCalled.{NearCalled, peer-called}
use Rattle.board_runner.proofs.PeersLanes.{HasPeer, sends-to-peer, receives-from-peer}
use Rattle.board_runner.proofs.RunStations.{domains_in, number_in, numbers-differ, near-was, near-replaced, holds-stands, stands-holds}
use Rattle.board_runner.proofs.RunTurns.{joins-replaced}
use Rattle.board_runner.proofs.TurnEnds.{ends-match}

-- the lanes hold these loads, and the domain's ends are still those towards its peers
pub record LanesKept (s : Scenario) (old new : RunDomain) (ds : List RunDomain) (loads : List Load) : Type 0 where
  pub holds : AllByRecursion (LaneHolds ds loads) (lanes s)
  pub joins : AllByRecursion (LaneJoins ds) (lanes s)
  pub peers : peers_of new ≡ peers_of old
  pub matched : EndsMatch old.state.number (peers_of new) new.ends

-- the lanes hold what the call puts and gives back
pub call_kept : (s : Scenario) → IsLinkedBoard s → (r : Running) (sts : List Station) → IsRun s r sts → (at : ℕ) (st new : Station) → slice_get sts at ≡ Some st →
    (node : ℕ) (call : DomainCall) (answered : PlainAnswer) (given : Option RequestId) → Does (EndsMoved AnySends AnyReceives) node call st.domain new.domain answered given →
    LanesKept s st.domain new.domain (map (λ x. x.domain) (slice_set sts at new)) (loads_given st.domain.state.number (returned st.domain.state node call) (loads_with_puts st.domain.state.number (puts st.domain.state node call) r.loads))
call_kept s board r sts run at st new is node call answered given does =
    let n = number_in st in
    let old = st.domain.state in
    let frames = puts old node call in
    let items = returned old node call in
    let ps = peers_of st.domain in
    let on_board = run-board s r sts run in
    let matched = matched-at s sts on_board at st is in
    let differ = numbers-differ s board r sts run in
    let number : number_in new ≡ n = ap (λ (x : DomainState). x.number) does.state ∙ changes-keep (λ x. x.number) (λ x c. refl) old (call_changes old node call) in
    let peers : peers_of new.domain ≡ ps = ap (λ (x : DomainState). map (λ p. p.number) x.peers) does.state ∙ call_numbers old node call in
    let named = returned st.domain.numbered node call in
    let called : (q : ℕ) → HasPeer ps q → NearCalled (q == n) (frames_for q frames) (length (frames_from q items)) (near_among ps st.domain.ends q) (near_among ps new.domain.ends q)
    = λ q has. subst (λ (k : ℕ). NearCalled (q == n) (frames_for q frames) k (near_among ps st.domain.ends q) (near_among ps new.domain.ends q)) (named-many st.domain node call q) (peer-called n frames named ps st.domain.ends new.domain.ends matched does.moved q has) in
    let near_new : (q : ℕ) → near_among ps new.domain.ends q ≡ near_of new.domain q = λ q. ap (λ (xs : List ℕ). near_among xs new.domain.ends q) (sym peers) in
    let own' : ℕ → Near = λ q. near_among ps new.domain.ends q in
    let loads = loads_called n frames items r.loads in
    let new_near : (m p : ℕ) → near (domains_in (slice_set sts at new)) m p ≡ cond (m == n) (own' p) (near (domains_in sts) m p)
    = λ m p. near-replaced sts at st n differ is refl new number m p ∙ ap (λ (x : Near). cond (m == n) x (near (domains_in sts) m p)) (sym (near_new p)) in
    record {
      holds =
          all-with (λ (l : Lane). l.receiver ≡ n → HasPeer ps l.sender) (λ l. LaneHolds (domains_in sts) r.loads l × (l.sender ≡ n → HasPeer ps l.receiver)) (LaneHolds (domains_in (slice_set sts at new)) loads)
          (λ l from holds.
          stands-holds (domains_in (slice_set sts at new)) n own' (near (domains_in sts)) loads new_near l
          (lane-called n (near_of st.domain) own' (near (domains_in sts)) frames items r.loads l.sender l.receiver (λ e. called l.receiver (holds.1 e)) (λ e. called l.sender (from e))
          (holds-stands (domains_in sts) n (near_of st.domain) (near (domains_in sts)) r.loads (near-was sts at st n differ is refl) l holds.0))) (lanes s)
          (receives-from-peer s board sts on_board at st is)
          (all-with (LaneHolds (domains_in sts) r.loads) (λ (l : Lane). l.sender ≡ n → HasPeer ps l.receiver) (λ l. LaneHolds (domains_in sts) r.loads l × (l.sender ≡ n → HasPeer ps l.receiver)) (λ l holds to. (holds, to)) (lanes s) run.holds (sends-to-peer s board sts on_board at st is));
      joins =
          all-weaken (LaneJoins (domains_in sts)) (LaneJoins (domains_in (slice_set sts at new))) (joins-replaced sts at st new (call_moves frames named ps) differ is number does.moved) (lanes s) run.joins;
      peers = peers;
      matched = subst (λ (xs : List ℕ). EndsMatch n xs new.domain.ends) (sym peers) (ends-match n ps st.domain.ends (call_moves frames named ps) new.domain.ends matched does.moved);
    }
