-- Visits that are exact: what the domain's looks showed and what it took is just what was there.
use Rattle.std.proofs.Common.{◌≡◌, ◌≢◌, ℕ, ◌+◌, ◌≤◌, Bool, true, false, ◌&&◌, cond, List, [], ◌∷◌, ◌++◌, length, map, Some, refl, sym, ap, ◌∙◌, subst, arith, append-nil, length-append, eq-eqb, eqb-true, true≢false}
use Rattle.std.specs.Prelude.{◌==◌, slice_get}
use Rattle.std.specs.List.{AllByRecursion, list_all}
use Rattle.lane_end.specs.SendMoves.{SendMove}
use Rattle.lane_end.specs.ReceiveMoves.{ReceiveMove}
use Rattle.lane_end.specs.AnySender.{AnySends}
use Rattle.lane_end.specs.AnyReceiver.{AnyReceives}
use Rattle.lane_end.specs.declared.any.AnySend.{AnySend}
use Rattle.lane_end.specs.declared.any.AnyRecv.{AnyRecv}
use Rattle.lane_end.specs.declared.any.AnySend.TheVariants as send
use Rattle.lane_end.specs.declared.any.AnyRecv.TheVariants as recv
use Rattle.board_model.specs.declared.scenario.DomainLine.{DomainLine}
use Rattle.board_model.specs.declared.scenario.Scenario.{Scenario}
use Rattle.board_model.specs.Scenario.{Lane, lanes, rising}
use Rattle.board_model.specs.LinkedBoard.{Differ, IsLinkedBoard}
use Rattle.board_model.specs.Journal.{Visit, Taken, is_idle}
use Rattle.board_model.specs.Loads.{frames_on, returned_on}
use Rattle.board_model.specs.SerialRun.{Running}
use Rattle.board_model.specs.State.{Item, frames_from}
use Rattle.board_model.proofs.ListsApart.{all-unmap}
use Rattle.board_model.proofs.MessageAlls.{all-weaken, all-with}
use Rattle.board_model.proofs.PlaceBoards.{neighbours_differ}
use Rattle.board_model.proofs.WholeHas.{Has, has-gives}
use Rattle.board_model.proofs.WholeTakes.{frames_of}
use Rattle.domain_core.specs.declared.Ends.TheVariants.{Own, Linked}
use Rattle.domain_core.specs.Carrying.{AnyLink}
use Rattle.domain_core.specs.AllMoved.{AllMoved, call_moves, frames_to, moves_at}
use Rattle.domain_core.specs.LaneMoves.{LaneMove, sends, receives}
use Rattle.domain_core.specs.Turned.{Turns}
use Rattle.board_runner.specs.declared.station.Station.{Station}
use Rattle.board_runner.specs.Near.{Near, sent_near, got_near, RunEnds, RunDomain, near_to, near_among, near_of, peers_of, EndsMatch, IsLinkTo}
use Rattle.board_runner.specs.Carried.{HasCome, IsTrue, AreCarried, Knows}
use Rattle.board_runner.specs.Stations.{near, LaneHolds, IsRun}
use Rattle.board_runner.proofs.LanesNear.{Exact}
use Rattle.board_runner.proofs.NearCalled.{link-called, match_rest}
use Rattle.board_runner.proofs.NearEnds.{LinkVisited}
use Rattle.board_runner.proofs.RunBoards.{run-board, matched-at}
use Rattle.board_runner.proofs.RunFinds.{mapped-at}
use Rattle.board_runner.proofs.RunStations.{domains_in, number_in, StationAt, station-at, station-number, numbers-differ, near-was, has-both}
use Rattle.board_runner.proofs.TurnEnds.{Moved, VisitedAt, ExactAt, visits-told}
use Rattle.board_runner.proofs.TurnLanes.{HasBoth}

-- ---- what is known at the ends of a link does not fall

sent_knows : (s t : AnySend) (ms : List SendMove) → AnySends s ms t → (sent_near s).known ≤ (sent_near t).known
sent_knows (send.Driver s) (send.Driver t) ms moved = moved.known
sent_knows (send.Device s) (send.Device t) ms moved = moved.known
sent_knows (send.Plain s) (send.Plain t) ms moved = omega arith
sent_knows (send.Plain s) (send.Driver t) ms moved = absurd moved
sent_knows (send.Plain s) (send.Device t) ms moved = absurd moved
sent_knows (send.Driver s) (send.Plain t) ms moved = absurd moved
sent_knows (send.Driver s) (send.Device t) ms moved = absurd moved
sent_knows (send.Device s) (send.Plain t) ms moved = absurd moved
sent_knows (send.Device s) (send.Driver t) ms moved = absurd moved

got_knows : (r q : AnyRecv) (ms : List ReceiveMove) → AnyReceives r ms q → (got_near r).known ≤ (got_near q).known
got_knows (recv.Driver r) (recv.Driver q) ms moved = moved.known
got_knows (recv.Device r) (recv.Device q) ms moved = moved.known
got_knows (recv.Plain r) (recv.Plain q) ms moved = omega arith
got_knows (recv.Plain r) (recv.Driver q) ms moved = absurd moved
got_knows (recv.Plain r) (recv.Device q) ms moved = absurd moved
got_knows (recv.Driver r) (recv.Plain q) ms moved = absurd moved
got_knows (recv.Driver r) (recv.Device q) ms moved = absurd moved
got_knows (recv.Device r) (recv.Plain q) ms moved = absurd moved
got_knows (recv.Device r) (recv.Driver q) ms moved = absurd moved

-- what holds of the ends of a link to a peer before and after moves holds of what is near towards another domain
module _ (P : Near → Near → Type 0) (nothing : (x : Near) → P x x) (moves_of : ℕ → List LaneMove) (links : (p : ℕ) (a b : AnyLink) → IsLinkTo p a → Moved (Linked a) (moves_of p) (Linked b) → P (near_to (Linked a)) (near_to (Linked b))) where
  pub near-moved : (n : ℕ) (ps : List ℕ) (es : List RunEnds) (es' : List RunEnds) → EndsMatch n ps es → AllMoved Moved es (map moves_of ps) es' → (q : ℕ) → q ≢ n → P (near_among ps es q) (near_among ps es' q)
  near-moved n [] es es' matched moved q other = nothing _
  near-moved n (p ∷ ps) [] es' matched moved q other = absurd matched
  near-moved n (p ∷ ps) (e ∷ es) [] matched moved q other = absurd moved
  near-moved n (p ∷ ps) (e ∷ es) (e' ∷ es') matched moved q other = go (p == q) refl (near-moved n ps es es' (match_rest n p ps e es matched) moved.1 q other)
    where
      here : (e e' : RunEnds) → EndsMatch n (p ∷ ps) (e ∷ es) → Moved e (moves_of p) e' → p ≡ q → P (near_to e) (near_to e')
      here (Own a) e' matched moved is = absurd (other (sym is ∙ matched.0))
      here (Linked a) (Linked b) matched moved is = links p a b matched.1 moved
      here (Linked a) (Own b) matched moved is = absurd moved

      go : (b : Bool) → (p == q) ≡ b → P (near_among ps es q) (near_among ps es' q) → P (cond b (near_to e) (near_among ps es q)) (cond b (near_to e') (near_among ps es' q))
      go true is later = here e e' matched moved.0 (eqb-true p q is)
      go false is later = later

pub knows-moved : (n : ℕ) (ps : List ℕ) (es : List RunEnds) (moves : List (List LaneMove)) (es' : List RunEnds) → EndsMatch n ps es → AllMoved Moved es moves es' → (q : ℕ) → q ≢ n → Knows (near_among ps es q) (near_among ps es' q)
knows-moved n [] es moves es' matched moved q other = record { come = omega arith; back = omega arith }
knows-moved n (p ∷ ps) [] moves es' matched moved q other = absurd matched
knows-moved n (p ∷ ps) (e ∷ es) [] es' matched moved q other = absurd moved
knows-moved n (p ∷ ps) (e ∷ es) (ms ∷ moves) [] matched moved q other = absurd moved
knows-moved n (p ∷ ps) (e ∷ es) (ms ∷ moves) (e' ∷ es') matched moved q other = go (p == q) refl (knows-moved n ps es moves es' (match_rest n p ps e es matched) moved.1 q other)
  where
    here : (e e' : RunEnds) → EndsMatch n (p ∷ ps) (e ∷ es) → Moved e ms e' → p ≡ q → Knows (near_to e) (near_to e')
    here (Own a) e' matched moved is = absurd (other (sym is ∙ matched.0))
    here (Linked a) (Linked b) matched moved is = record { come = got_knows a.recv b.recv (receives ms) moved.received; back = sent_knows a.send b.send (sends ms) moved.sent }
    here (Linked a) (Own b) matched moved is = absurd moved

    go : (b : Bool) → (p == q) ≡ b → Knows (near_among ps es q) (near_among ps es' q) → Knows (cond b (near_to e) (near_among ps es q)) (cond b (near_to e') (near_among ps es' q))
    go true is later = here e e' matched moved.0 (eqb-true p q is)
    go false is later = later

-- ---- a call takes nothing

pub record AfterCall (old new : Near) : Type 0 where
  pub taken : new.got.taken ≡ old.got.taken
  pub knows : Knows old new

pub after-call : (n : ℕ) (puts : List (ℕ × List ℕ)) (items : List Item) (ps : List ℕ) (es es' : List RunEnds) → EndsMatch n ps es → AllMoved Moved es (call_moves puts items ps) es' → (q : ℕ) → q ≢ n → AfterCall (near_among ps es q) (near_among ps es' q)
after-call n puts items =
    near-moved AfterCall (λ x. record { taken = refl; knows = record { come = omega arith; back = omega arith } }) (moves_at puts items)
    (λ p a b to moved.
    let c = link-called (frames_to p puts) (frames_from p items) p a b to moved in
    record { taken = c.got.taken; knows = record { come = c.got.grows; back = c.sent.grows } }) n

-- what is true after it was true before it
pub true-called : (x y far : Near) → AfterCall x y → IsTrue y far → IsTrue x far
true-called x y far after h = record {
  taken = (h.taken.0, h.taken.1 ∙ ap (λ (fs : List (List ℕ)). fs ++ h.taken.0) after.taken);
  come = omega (arith, after.knows.come, h.come);
  back = omega (arith, after.knows.back, h.back);
}

-- ---- visits after which the domain knows no more than what is true

pub exact-of : (gave : ℕ) (v : Visit) (old new far : Near) → LinkVisited gave v old new → HasCome far old → IsTrue new far → Exact v old far
exact-of gave v old new far visited come truly = record {
  rest = truly.taken.0;
  first = truly.taken.1 ∙ ap (λ (fs : List (List ℕ)). fs ++ truly.taken.0) visited.got.taken;
  see = let a = visited.got.low in let b = visited.got.high in let c = come.put in let d = truly.come in omega (arith, a, b, c, d);
  back = let a = visited.sent.low in let b = visited.sent.high in let c = come.given in let d = truly.back in omega (arith, a, b, c, d);
}

not_same : (p n : ℕ) → (p == n) ≡ false → p ≢ n
not_same p n e is = true≢false (sym (eq-eqb p n is) ∙ e)

-- what was on the lanes with a peer
pub record StoodBy (far : ℕ → ℕ → Near) (d : RunDomain) (p : ℕ) : Type 0 where
  pub frames : List (List ℕ)
  pub put : (far p d.state.number).sent.put ≡ (near_of d p).got.taken ++ frames
  pub returned : ℕ
  pub given : (far p d.state.number).got.given ≡ (near_of d p).sent.back + returned

module _ (d d' : RunDomain) (visits : List Visit) (numbers : List (List ℕ)) (turns : Turns Moved visits numbers d d') (matched : EndsMatch d.state.number (peers_of d) d.ends) (differ : Differ (peers_of d)) (far : ℕ → ℕ → Near)
    (come : (p : ℕ) → HasCome (far p d.state.number) (near_of d p)) where
  pub exact-turn : ((p : ℕ) → p ≢ d.state.number → IsTrue (near_of d' p) (far p d.state.number)) → AllByRecursion (ExactAt far d) visits
  exact-turn truly =
      all-weaken (VisitedAt d d') (ExactAt far d)
      (λ v visited e. exact-of (visited e).0 v (near_of d v.peer) (near_of d' v.peer) (far v.peer d.state.number) (visited e).1 (come v.peer) (truly v.peer (not_same v.peer d.state.number e))) visits (visits-told d d' visits numbers turns matched differ)

  -- ---- idle visits, by what was there before them

  none_taken : (ts : List Taken) → length ts ≡ 0 → frames_of ts ≡ []
  none_taken [] e = refl
  none_taken (t ∷ ts) e = absurd (omega (arith, e))

  both_true : (x y : Bool) → (x && y) ≡ true → (x ≡ true) × (y ≡ true)
  both_true true y e = (refl, e)
  both_true false y e = absurd cc

  idle_exact : (gave : ℕ) (v : Visit) (old new there : Near) (frames : List (List ℕ)) (returned : ℕ) → is_idle v ≡ true → LinkVisited gave v old new → HasCome there old → there.sent.put ≡ old.got.taken ++ frames → there.got.given ≡ old.sent.back + returned → Exact v old there
  idle_exact gave v old new there frames returned idle visited come put given =
      let back = both_true (v.back == 0) (length v.owed == 0 && (v.see == 0 && length v.takes == 0)) idle in
      let owed = both_true (length v.owed == 0) (v.see == 0 && length v.takes == 0) back.1 in
      let see = both_true (v.see == 0) (length v.takes == 0) owed.1 in
      let none_back = eqb-true v.back 0 back.0 in
      let none_seen = eqb-true v.see 0 see.0 in
      let many = ap length put in
      let added = length-append old.got.taken frames in
      record {
        rest = frames;
        first = put ∙ ap (λ (fs : List (List ℕ)). fs ++ frames) (sym (append-nil old.got.taken) ∙ ap (λ (fs : List (List ℕ)). old.got.taken ++ fs) (sym (none_taken v.takes (eqb-true (length v.takes) 0 see.1))));
        see = let a = visited.got.low in let c = come.put in omega (arith, a, c, none_seen, many, added);
        back = let a = visited.sent.low in let c = come.given in omega (arith, a, c, none_back, given);
      }

  all_idle : (vs : List Visit) → list_all is_idle vs ≡ true → AllByRecursion (λ v. is_idle v ≡ true) vs
  all_idle [] idle = tt
  all_idle (v ∷ vs) idle = let both = both_true (is_idle v) (list_all is_idle vs) idle in (both.0, all_idle vs both.1)

  pub exact-idle : list_all is_idle visits ≡ true → AllByRecursion (λ v. StoodBy far d v.peer) visits → AllByRecursion (ExactAt far d) visits
  exact-idle idle stood =
      all-with (λ v. (is_idle v ≡ true) × StoodBy far d v.peer) (VisitedAt d d') (ExactAt far d)
      (λ v is visited e. idle_exact (visited e).0 v (near_of d v.peer) (near_of d' v.peer) (far v.peer d.state.number) is.1.frames is.1.returned is.0 (visited e).1 (come v.peer) is.1.put is.1.given) visits
      (all-with (λ v. is_idle v ≡ true) (λ v. StoodBy far d v.peer) (λ v. (is_idle v ≡ true) × StoodBy far d v.peer) (λ v a b. (a, b)) visits (all_idle visits idle) stood) (visits-told d d' visits numbers turns matched differ)

-- ---- at a station of a run

module _ (s : Scenario) (board : IsLinkedBoard s) (r : Running) (sts : List Station) (run : IsRun s r sts) (i : ℕ) (st : Station) (at : slice_get sts i ≡ Some st) where
  pub near-here : (p : ℕ) → near (domains_in sts) (number_in st) p ≡ near_of st.domain p
  near-here p =
      near-was sts i st (number_in st) (numbers-differ s board r sts run) at refl (number_in st) p
      ∙ ap (λ (b : Bool). cond b (near_of st.domain p) (near (domains_in sts) (number_in st) p)) (eq-eqb (number_in st) (number_in st) refl)

  pub matched-here : EndsMatch (number_in st) (peers_of st.domain) st.domain.ends
  matched-here = matched-at s sts (run-board s r sts run) i st at

  place : StationAt s r.stations i st
  place = station-at s r.stations sts i st run.each at

  pub peers-differ : Differ (peers_of st.domain)
  peers-differ = subst Differ (sym place.is.peers) (neighbours_differ s board place.station.line)

  pub come-here : AreCarried (domains_in sts) → (p : ℕ) → HasCome (near (domains_in sts) p (number_in st)) (near_of st.domain p)
  come-here carried p = subst (HasCome (near (domains_in sts) p (number_in st))) (near-here p) (carried p (number_in st))

  line-at : slice_get (rising s) i ≡ Some place.station.line
  line-at = ap (λ (ls : List DomainLine). slice_get ls i) (sym run.lines) ∙ mapped-at (λ t. t.line) r.stations i place.station place.at

  held : (a b : ℕ) → Has (λ (l : Lane). (l.sender ≡ a) × (l.receiver ≡ b)) (lanes s) → LaneHolds (domains_in sts) r.loads (record { sender = a; receiver = b; size = 0 })
  held a b has =
      has-gives (LaneHolds (domains_in sts) r.loads) (λ (l : Lane). (l.sender ≡ a) × (l.receiver ≡ b)) (LaneHolds (domains_in sts) r.loads (record { sender = a; receiver = b; size = 0 }))
      (λ l h is. subst (λ (y : ℕ). LaneHolds (domains_in sts) r.loads (record { sender = a; receiver = y; size = 0 })) is.1 (subst (λ (x : ℕ). LaneHolds (domains_in sts) r.loads (record { sender = x; receiver = l.receiver; size = 0 })) is.0 (record { listed = h.listed; frames = h.frames; returned = h.returned })))
      (lanes s) run.holds has

  abbrev StoodAt : ℕ → Type 0
  StoodAt p = StoodBy (near (domains_in sts)) st.domain p

  stood : (p : ℕ) → HasBoth (lanes s) (number_in st) p → StoodAt p
  stood p both =
      let n = number_in st in
      let into = held p n both.into in
      let out = held n p both.out in
      record {
        frames = frames_on r.loads p n;
        put = into.frames ∙ ap (λ (x : Near). x.got.taken ++ frames_on r.loads p n) (near-here p);
        returned = returned_on r.loads n p;
        given = out.returned ∙ ap (λ (x : Near). x.sent.back + returned_on r.loads n p) (near-here p);
      }

  pub stood-all : (visits : List Visit) → map (λ v. v.peer) visits ≡ peers_of st.domain → AllByRecursion (λ (v : Visit). StoodAt v.peer) visits
  stood-all visits peers =
      all-unmap StoodAt (λ (v : Visit). v.peer) visits (subst (AllByRecursion StoodAt) (sym peers)
      (all-weaken (HasBoth (lanes s) (number_in st)) StoodAt stood (peers_of st.domain)
      (subst (λ (n : ℕ). AllByRecursion (HasBoth (lanes s) n) (peers_of st.domain)) (sym (station-number s place.station st place.is))
      (subst (AllByRecursion (HasBoth (lanes s) place.station.line.domain)) (sym place.is.peers) (has-both s board place.station.line i line-at)))))
