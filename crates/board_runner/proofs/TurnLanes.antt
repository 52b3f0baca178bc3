-- The visits of a turn that each see all that stands are those of the serial run, and leave each lane at its ends.
use Rattle.std.proofs.Common.{◌≡◌, ℕ, ◌+◌, Bool, true, false, ◌&&◌, cond, List, [], ◌∷◌, ◌++◌, length, map, refl, sym, ap, ◌∙◌, subst, arith, append-nil, length-append, eq-eqb, ne_eqb, eqb-true, true≢false}
use Rattle.std.specs.Prelude.{◌==◌}
use Rattle.std.specs.List.{AllByRecursion}
use Rattle.board_model.specs.Scenario.{Lane}
use Rattle.board_model.specs.Journal.{Visit}
use Rattle.board_model.specs.State.{DomainState}
use Rattle.board_model.specs.Serial.{returned_at_once}
use Rattle.board_model.specs.Turn.{after_visit, IsVisit, AreVisits}
use Rattle.board_model.specs.LinkedBoard.{Differ}
use Rattle.board_model.specs.Loads.{Load, frames_in, returned_in, returned_on, frames_on, with_load, frames_due, frames_seen, visit_to, visits_to_all, loads_after}
use Rattle.board_model.proofs.ListsApart.{all-unmap}
use Rattle.board_model.proofs.MessageAlls.{all-weaken, all-with}
use Rattle.board_model.proofs.WholeHas.{Has, has-gives}
use Rattle.board_model.proofs.WholeLoads.{loaded-with}
use Rattle.board_model.proofs.WholeLanes.{refilled}
use Rattle.board_model.proofs.WholeTakes.{frames_of}
use Rattle.board_model.proofs.WholeTurns.{turn_number}
use Rattle.board_runner.specs.Near.{Near, RunEnds, near_to}
use Rattle.board_runner.proofs.NearEnds.{NearVisited, OwnVisited}
use Rattle.board_runner.proofs.TurnVisits.{owed-due, visit-is}
use Rattle.board_runner.proofs.LanesNear.{LaneStands, Exact, rest-on, near_now, with_near, loads_by, CanVisit, lane-visited}

-- a lane of the board stands at its ends
abbrev pub Stands : ℕ → (ℕ → Near) → (ℕ → ℕ → Near) → List Load → Lane → Type 0
Stands n own far loads l = LaneStands loads l.sender l.receiver (near_now n own far l.sender l.receiver) (near_now n own far l.receiver l.sender)

-- the lanes to a peer and from it are among those of the board
pub record HasBoth (ls : List Lane) (n p : ℕ) : Type 0 where
  pub out : Has (λ l. (l.sender ≡ n) × (l.receiver ≡ p)) ls
  pub into : Has (λ l. (l.sender ≡ p) × (l.receiver ≡ n)) ls

module _ (n : ℕ) (own : ℕ → Near) (far : ℕ → ℕ → Near) (loads : List Load) where
  pub stands-at : (ls : List Lane) (a b : ℕ) → AllByRecursion (Stands n own far loads) ls → Has (λ l. (l.sender ≡ a) × (l.receiver ≡ b)) ls → LaneStands loads a b (near_now n own far a b) (near_now n own far b a)
  stands-at ls a b all has =
      has-gives (Stands n own far loads) (λ l. (l.sender ≡ a) × (l.receiver ≡ b)) (LaneStands loads a b (near_now n own far a b) (near_now n own far b a))
      (λ l at is. subst (λ y. LaneStands loads a y (near_now n own far a y) (near_now n own far y a)) is.1 (subst (λ x. LaneStands loads x l.receiver (near_now n own far x l.receiver) (near_now n own far l.receiver x)) is.0 at)) ls all has

-- ---- one visit

-- what a look sees on a lane after owed frames were put on it, or on another
seen_by : (is_own again : Bool) (owed : List (List ℕ)) (l : Load) → again ≡ is_own → (cond (is_own && again) (refilled owed l) l).frames ≡ l.frames ++ cond is_own owed []
seen_by true true owed l e = refl
seen_by true false owed l e = absurd cc
seen_by false again owed l e = sym (append-nil l.frames)

-- what a visit tells, by the loads of both lanes: the buffers that came back, the frames that it saw, and those that it took
record VisitTold (is_own : Bool) (v : Visit) (out into : Load) : Type 0 where
  back : v.back ≡ out.returned
  rest : List (List ℕ)
  see : v.see ≡ length (into.frames ++ cond is_own v.owed [])
  first : into.frames ++ cond is_own v.owed [] ≡ frames_of v.takes ++ rest

module _ (n : ℕ) (own : ℕ → Near) (far : ℕ → ℕ → Near) (v : Visit) (gave : ℕ) (new : Near) (loads : List Load) (can : CanVisit n own far v gave new) where
  link-told : (old to : Near) (out : LaneStands loads n v.peer old to) (into : LaneStands loads v.peer n to old) → Exact v old to → VisitTold false v out.load into.load
  link-told old to out into exact =
      let first = rest-on old.got.taken into.load.frames (frames_of v.takes) exact.rest to.sent.put into.frames exact.first in
      let all : into.load.frames ++ [] ≡ into.load.frames = append-nil into.load.frames in
      record {
        back = omega (arith, exact.back, out.returned);
        rest = exact.rest;
        see = omega (arith, exact.see, ap length into.frames, length-append old.got.taken into.load.frames, ap length all);
        first = all ∙ first;
      }

  own-told : (a b : Load) → (own n).got.given ≡ (own v.peer).sent.back + a.returned → (own n).sent.put ≡ (own v.peer).got.taken ++ b.frames → v.peer ≡ n → OwnVisited gave v (own v.peer) new → VisitTold true v a b
  own-told a b given put at visited =
      let same : own n ≡ own v.peer = ap own (sym at) in
      let frames : (own v.peer).sent.put ≡ b.frames = ap (λ (x : Near). x.sent.put) (sym same) ∙ put ∙ ap (λ (fs : List (List ℕ)). fs ++ b.frames) visited.was.taken in
      record {
        back = omega (arith, visited.back, given, ap (λ (x : Near). x.got.given) same, visited.was.back);
        rest = new.sent.put;
        see = visited.see ∙ ap (λ (fs : List (List ℕ)). length (fs ++ v.owed)) frames;
        first = ap (λ (fs : List (List ℕ)). fs ++ v.owed) (sym frames) ∙ visited.came;
      }

  -- what the visit tells, by the loads of the lanes to the peer and from it
  told-here : (out : LaneStands loads n v.peer (near_now n own far n v.peer) (near_now n own far v.peer n)) (into : LaneStands loads v.peer n (near_now n own far v.peer n) (near_now n own far n v.peer)) → VisitTold (v.peer == n) v out.load into.load
  told-here out into = go (v.peer == n) refl (n == n) (eq-eqb n n refl) out into can.visited can.exact
    where
      go : (x : Bool) → (v.peer == n) ≡ x → (y : Bool) → y ≡ true → (out : LaneStands loads n v.peer (cond y (own v.peer) (far n v.peer)) (cond x (own n) (far v.peer n))) (into : LaneStands loads v.peer n (cond x (own n) (far v.peer n)) (cond y (own v.peer) (far n v.peer)))
          → NearVisited x gave v (own v.peer) new → (x ≡ false → Exact v (own v.peer) (far v.peer n)) → VisitTold x v out.load into.load
      go true is true e out into visited exact =
          let at : v.peer ≡ n = eqb-true v.peer n is in
          own-told out.load into.load out.returned into.frames at visited
      go false is true e out into visited exact = link-told (own v.peer) (far v.peer n) out into (exact refl)
      go x is false e out into visited exact = absurd cc

  frames_are : (owed : List (List ℕ)) (into : LaneStands loads v.peer n (near_now n own far v.peer n) (near_now n own far n v.peer)) → frames_on (with_load n v.peer (refilled owed) loads) v.peer n ≡ into.load.frames ++ cond (v.peer == n) owed []
  frames_are owed into =
      ap frames_in (loaded-with (refilled owed) (record { sender = λ x. refl; receiver = λ x. refl }) loads n v.peer v.peer n into.load into.loaded)
      ∙ seen_by (v.peer == n) (n == v.peer) owed into.load (turned (v.peer == n) refl)
    where
      turned : (b : Bool) → (v.peer == n) ≡ b → (n == v.peer) ≡ (v.peer == n)
      turned true e = eq-eqb n v.peer (sym (eqb-true v.peer n e)) ∙ sym e
      turned false e = ne_eqb n v.peer (λ h. true≢false (sym (eq-eqb v.peer n (sym h)) ∙ e)) ∙ sym e

  pub visit-here : (s : DomainState) → s.number ≡ n → IsVisit s v → LaneStands loads n v.peer (near_now n own far n v.peer) (near_now n own far v.peer n) → LaneStands loads v.peer n (near_now n own far v.peer n) (near_now n own far n v.peer) → v ≡ visit_to s loads v.peer
  visit-here s e h out into =
      let told = told-here out into in
      let back : v.back ≡ returned_on loads s.number v.peer = told.back ∙ ap returned_in (sym out.loaded) ∙ ap (λ (m : ℕ). returned_on loads m v.peer) (sym e) in
      let due = owed-due s loads v h back in
      let seen : frames_seen s loads v.peer ≡ into.load.frames ++ cond (v.peer == n) v.owed []
      = ap (λ (m : ℕ). frames_on (with_load m v.peer (refilled (frames_due s loads v.peer)) loads) v.peer m) e ∙ frames_are (frames_due s loads v.peer) into
      ∙ ap (λ (fs : List (List ℕ)). into.load.frames ++ cond (v.peer == n) fs []) (sym due) in
      visit-is s loads v told.rest h back (told.see ∙ ap length (sym seen)) (seen ∙ told.first)

-- ---- a turn

-- what a turn does at the ends towards a peer, and how many buffers it gives back
pub record PeerTurn : Type 0 where
  pub visit : Visit
  pub gave : ℕ
  pub old : RunEnds
  pub new : RunEnds

abbrev pub peer_in : PeerTurn → ℕ
peer_in t = t.visit.peer

abbrev pub visits_in : List PeerTurn → List Visit
visits_in ts = map (λ t. t.visit) ts

abbrev pub peers_in : List PeerTurn → List ℕ
peers_in ts = map peer_in ts

abbrev pub IsPeerTurn : ℕ → PeerTurn → Type 0
IsPeerTurn n t = NearVisited (peer_in t == n) t.gave t.visit (near_to t.old) (near_to t.new)

-- they give back as many buffers as their visits, one after the other from a state
abbrev pub GiveBack : DomainState → List PeerTurn → Type 0
GiveBack s [] = Unit {0}
GiveBack s (t ∷ ts) = (t.gave ≡ returned_at_once s t.visit) × GiveBack (after_visit s t.visit) ts

-- it is exact, by what the peer did
abbrev pub IsExactTurn : ℕ → (ℕ → ℕ → Near) → PeerTurn → Type 0
IsExactTurn n far t = (peer_in t == n) ≡ false → Exact t.visit (near_to t.old) (far (peer_in t) n)

-- what stands near after them
abbrev pub near_after : (ℕ → Near) → List PeerTurn → ℕ → Near
near_after own [] = own
near_after own (t ∷ ts) = near_after (with_near (peer_in t) (near_to t.new) own) ts

pub record TurnStands (n : ℕ) (far : ℕ → ℕ → Near) (ls : List Lane) (s : DomainState) (loads : List Load) (own : ℕ → Near) (ts : List PeerTurn) : Type 0 where
  pub visits : visits_in ts ≡ visits_to_all s loads (peers_in ts)
  pub lanes : AllByRecursion (Stands n (near_after own ts) far (loads_after s loads (peers_in ts))) ls

module _ (n : ℕ) (far : ℕ → ℕ → Near) (ls : List Lane) where
  -- the other peers' ends are as they were
  others_near : (p : ℕ) (new : Near) (own : ℕ → Near) (ts : List PeerTurn) → AllByRecursion (λ q. q ≡ p → ⊥) (peers_in ts) → AllByRecursion (λ t. own (peer_in t) ≡ near_to t.old) ts → AllByRecursion (λ t. with_near p new own (peer_in t) ≡ near_to t.old) ts
  others_near p new own ts differ near =
      all-with (λ t. peer_in t ≡ p → ⊥) (λ t. own (peer_in t) ≡ near_to t.old) (λ t. with_near p new own (peer_in t) ≡ near_to t.old)
      (λ t other at. ap (λ (b : Bool). cond b new (own (peer_in t))) (ne_eqb (peer_in t) p other) ∙ at) ts (all-unmap (λ q. q ≡ p → ⊥) peer_in ts differ) near

  pub turn-stands : (ts : List PeerTurn) (s : DomainState) (loads : List Load) (own : ℕ → Near) → s.number ≡ n → GiveBack s ts → AreVisits s (visits_in ts) → AllByRecursion (IsPeerTurn n) ts → Differ (peers_in ts) → AllByRecursion (λ t. own (peer_in t) ≡ near_to t.old) ts
      → AllByRecursion (IsExactTurn n far) ts → AllByRecursion (HasBoth ls n) (peers_in ts) → AllByRecursion (Stands n own far loads) ls → TurnStands n far ls s loads own ts
  turn-stands [] s loads own e gives are each differ near exact both stands = record { visits = refl; lanes = stands }
  turn-stands (t ∷ ts) s loads own e gives are each differ near exact both stands =
      let v = t.visit in
      let p = peer_in t in
      let new = near_to t.new in
      let can : CanVisit n own far v t.gave new = record {
        visited = subst (λ (x : Near). NearVisited (p == n) t.gave v x new) (sym near.0) each.0;
        exact = λ h. subst (λ (x : Near). Exact v x (far p n)) (sym near.0) (exact.0 h);
      } in
      let out = stands-at n own far loads ls n p stands both.0.out in
      let into = stands-at n own far loads ls p n stands both.0.into in
      let is : v ≡ visit_to s loads p = visit-here n own far v t.gave new loads can s e are.0 out into in
      let after : AllByRecursion (Stands n (with_near p new own) far (loads_by n v t.gave loads)) ls
      = all-weaken (Stands n own far loads) (Stands n (with_near p new own) far (loads_by n v t.gave loads)) (λ l h. lane-visited n own far v t.gave new loads can l.sender l.receiver h) ls stands in
      let rest = turn-stands ts (after_visit s v) (loads_by n v t.gave loads) (with_near p new own) (turn_number s (v ∷ []) ∙ e) gives.1 are.1 each.1 differ.1 (others_near p new own ts differ.0 near.1) exact.1 both.1 after in
      let w : Visit = visit_to s loads p in
      let gave : t.gave ≡ returned_at_once s w = gives.0 ∙ ap (returned_at_once s) is in
      record {
        visits =
            ap (λ (vs : List Visit). v ∷ vs) rest.visits
            ∙ ap (λ (x : Visit). x ∷ visits_to_all (after_visit s x) (loads_by n x t.gave loads) (peers_in ts)) is
            ∙ ap (λ (m : ℕ). w ∷ visits_to_all (after_visit s w) (loads_by m w t.gave loads) (peers_in ts)) (sym e)
            ∙ ap (λ (k : ℕ). w ∷ visits_to_all (after_visit s w) (loads_by s.number w k loads) (peers_in ts)) gave;
        lanes =
            subst (λ (k : ℕ). AllByRecursion (Stands n (near_after own (t ∷ ts)) far (loads_after (after_visit s w) (loads_by s.number w k loads) (peers_in ts))) ls) gave
            (subst (λ (m : ℕ). AllByRecursion (Stands n (near_after own (t ∷ ts)) far (loads_after (after_visit s w) (loads_by m w t.gave loads) (peers_in ts))) ls) (sym e)
            (subst (λ (x : Visit). AllByRecursion (Stands n (near_after own (t ∷ ts)) far (loads_after (after_visit s x) (loads_by n x t.gave loads) (peers_in ts))) ls) is rest.lanes));
      }
