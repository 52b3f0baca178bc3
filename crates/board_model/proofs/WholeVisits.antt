-- A visit of the serial run: it is one that the lanes allow, and it leaves each lane well.
use Rattle.std.proofs.Common.{◌≡◌, ℕ, ◌+◌, ◌≤◌, min, ◌&&◌, List, length, take, Option, Some, None, option_map, refl, sym, ap, ◌∙◌, subst, arith, length-take, length-append, eq-eqb}
use Rattle.std.specs.Prelude.{◌==◌, unwrap_or}
use Rattle.mc_base.specs.Limits.{turn_limit}
use Rattle.board_model.specs.Journal.{Visit}
use Rattle.board_model.specs.State.{DomainState, Peer, peer_of, free_to, held_from, owed_to}
use Rattle.board_model.specs.Deeds.{after_deeds}
use Rattle.board_model.specs.Turn.{after_visit, IsVisit}
use Rattle.board_model.specs.Serial.{due_to, looks_deeds, returned_at_once}
use Rattle.board_model.specs.Loads.{Load, frames_in, returned_in, returned_on, frames_due, after_owed, frames_seen, with_load, visit_to, loads_visited}
use Rattle.board_model.proofs.VisitLooks.{after_looks, after_takes, HaveWords, visit-after, visit-may, looks-keep}
use Rattle.board_model.proofs.SerialFrames.{dealt_words, length-dealt, frames-dealt}
use Rattle.board_model.proofs.WholeFinds.{some_tells}
use Rattle.board_model.proofs.WholePeers.{size_at, shown_at}
use Rattle.board_model.proofs.WholeLanes.{Book, LaneOk, placed, placed-own, LooksFit, looked_book, looks_lane, shown_own, refilled_more}
use Rattle.board_model.proofs.WholeTakes.{TakesFit, taken_book, emptied, takes_lane}
use Rattle.board_model.proofs.LaneRuns.{visit-gives}

-- ---- the visit

-- lanes go both ways, and each is well
abbrev pub AllOk : (ℕ → ℕ → ℕ → Type 0) → (ℕ → DomainState) → (ℕ → ℕ → Book) → List Load → Type 0
AllOk Joined states books loads = (a b size : ℕ) → Joined a b size → LaneOk size a b (states a) (states b) (books a b) loads

-- the frames that a visit takes, and the state before they are dealt with
abbrev first_seen : DomainState → List Load → ℕ → List (List ℕ)
first_seen s loads p = take (min turn_limit (length (frames_seen s loads p))) (frames_seen s loads p)

abbrev visit_looks : DomainState → List Load → ℕ → DomainState
visit_looks s loads p = after_deeds s (looks_deeds p (returned_on loads s.number p) (frames_due s loads p) (length (frames_seen s loads p)))

takes_many : (s : DomainState) (loads : List Load) (p : ℕ) → length (visit_to s loads p).takes ≡ min turn_limit (length (frames_seen s loads p))
takes_many s loads p =
    omega (arith, length-dealt (visit_looks s loads p) p (first_seen s loads p), length-take (min turn_limit (length (frames_seen s loads p))) (frames_seen s loads p))

due_few : (domain : ℕ) (o : Option Peer) (back : ℕ) → length (due_to domain o back) ≤ unwrap_or (option_map (λ p. p.free) o) 0 + back
due_few domain None back = omega arith
due_few domain (Some p) back = omega (arith, length-take (min turn_limit (p.free + back)) (owed_to domain p))

looks_fit : (s : DomainState) (loads : List Load) (p : ℕ) → LooksFit s.number s (visit_to s loads p) loads
looks_fit s loads p = record {
  room = due_few s.number (peer_of s p) (returned_on loads s.number p);
  back = refl;
  left = omega arith;
}

visit_words : (s : DomainState) (loads : List Load) (p : ℕ) → HaveWords (after_looks s (visit_to s loads p)) p (visit_to s loads p).takes
visit_words s loads p = dealt_words (visit_looks s loads p) p (first_seen s loads p)

takes_fit : (s : DomainState) (loads : List Load) (p size : ℕ) → size_at s p ≡ Some size → TakesFit s.number (after_looks s (visit_to s loads p)) p (visit_to s loads p).takes (after_owed s loads p)
takes_fit s loads p size sized = record {
  words = visit_words s loads p;
  first =
      frames-dealt (visit_looks s loads p) p (first_seen s loads p) ∙ ap (λ (n : ℕ). take n (frames_seen s loads p)) (sym (takes_many s loads p));
  shown = omega (arith, shown_own s (visit_to s loads p) p size refl sized);
}

-- what a visit adds to the book of a lane
abbrev pub visited_book : ℕ → DomainState → Visit → ℕ → ℕ → Book → Book
visited_book d s v a b k = taken_book ((a == v.peer) && (b == d)) (returned_at_once s v) v.takes (looked_book ((a == d) && (b == v.peer)) v k)

-- a visit is allowed, leaves the lanes well, and sees what is put and not taken
pub record Visited (Joined : ℕ → ℕ → ℕ → Type 0) (states : ℕ → DomainState) (d : ℕ) (s : DomainState) (books : ℕ → ℕ → Book) (loads : List Load) (p : ℕ) : Type 0 where
  pub is_visit : IsVisit s (visit_to s loads p)
  pub lanes : AllOk Joined (placed states d (after_visit s (visit_to s loads p))) (λ a b. visited_book d s (visit_to s loads p) a b (books a b)) (loads_visited s loads p)
  pub sees : (visit_to s loads p).see + length (books p d).taken ≡ length (visited_book d s (visit_to s loads p) p d (books p d)).puts

visit_here : (Joined : ℕ → ℕ → ℕ → Type 0) → ((a b size : ℕ) → Joined a b size → Joined b a size) → (states : ℕ → DomainState) (s : DomainState) (books : ℕ → ℕ → Book) (loads : List Load) (p size : ℕ) → Joined s.number p size → AllOk Joined (placed states s.number s) books loads → Visited Joined states s.number s books loads p
visit_here Joined turn states s books loads p size joined h =
    let d = s.number in
    let v = visit_to s loads p in
    let own : placed states d s d ≡ s = placed-own states d s d (eq-eqb d d refl) in
    let out = h d p size joined in
    let into = h p d size (turn d p size joined) in
    let sized : size_at s p ≡ Some size = ap (λ t. size_at t p) (sym own) ∙ out.sized_out in
    let looked : AllOk Joined (placed states d (after_looks s v)) (λ a b. looked_book ((a == d) && (b == p)) v (books a b)) (after_owed s loads p) =
    λ a b z j. looks_lane states d s v loads (looks_fit s loads p) z a b (books a b) (h a b z j) in
    let seen = looked p d size (turn d p size joined) in
    let own_after : placed states d (after_looks s v) d ≡ after_looks s v = placed-own states d (after_looks s v) d (eq-eqb d d refl) in
    let lane : length (frames_seen s loads p) ≡ length seen.load.frames = ap (λ (o : Option Load). length (frames_in o)) seen.loaded in
    let t = some_tells (λ p. p.size) (peer_of s p) size sized in
    let free : free_to s p ≡ t.0.free = ap (λ (o : Option Peer). unwrap_or (option_map (λ x. x.free) o) 0) t.1 in
    let shown : shown_at s p ≡ t.0.shown = ap (λ (o : Option Peer). unwrap_or (option_map (λ x. x.shown) o) 0) t.1 in
    let returned : v.back ≡ out.load.returned = ap returned_in out.loaded in
    record {
      is_visit = record {
        at = t.0;
        known = t.1;
        back_fits = omega (arith, out.places, returned, free, t.2, ap (λ x. free_to x p) own);
        puts_due = ap (λ o. due_to d o v.back) t.1;
        sees_shown = omega (arith, into.within, shown, refilled_more loads d p p d v.owed into.load into.loaded, ap (λ x. shown_at x p) own);
        see_fits = omega (arith, seen.places, lane, t.2, ap (held_from p) own_after, looks-keep (held_from p) (λ u q k. refl) (λ u q. refl) (λ u q k. refl) s v);
        takes_first = takes_many s loads p;
        may = visit-may s v t.0 t.1 (ap (λ o. due_to d o v.back) t.1) (visit_words s loads p);
      };
      lanes =
          subst (λ t. AllOk Joined (placed states d t) (λ a b. visited_book d s v a b (books a b)) (loads_visited s loads p)) (sym (visit-after s v))
          (λ a b z j. subst (λ g. LaneOk z a b (placed states d (after_takes (after_looks s v) p v.takes) a) (placed states d (after_takes (after_looks s v) p v.takes) b) (taken_book ((a == p) && (b == d)) g v.takes (looked_book ((a == d) && (b == p)) v (books a b))) (with_load p d (emptied g v.takes) (after_owed s loads p))) (sym (ap length (visit-gives p s v)))
          (takes_lane states d (after_looks s v) p v.takes (after_owed s loads p) (takes_fit s loads p size sized) z a b (looked_book ((a == d) && (b == p)) v (books a b)) (looked a b z j)));
      sees = omega (arith, lane, ap length seen.front, length-append (books p d).taken seen.load.frames);
    }

-- the same where the domain's number is told apart
pub visit_lanes : (Joined : ℕ → ℕ → ℕ → Type 0) → ((a b size : ℕ) → Joined a b size → Joined b a size) → (states : ℕ → DomainState) (d : ℕ) (s : DomainState) (books : ℕ → ℕ → Book) (loads : List Load) (p size : ℕ) → s.number ≡ d → Joined d p size → AllOk Joined (placed states d s) books loads → Visited Joined states d s books loads p
visit_lanes Joined turn states d s books loads p size e =
    subst (λ n. Joined n p size → AllOk Joined (placed states n s) books loads → Visited Joined states n s books loads p) e (visit_here Joined turn states s books loads p size)
