-- Visits to the peers of a domain, one after the other, and the turn that they make.
use Rattle.std.proofs.Common.{◌≡◌, ℕ, zero, suc, ◌+◌, ◌<◌, ◌≤◌, Bool, true, false, not, cond, List, [], ◌∷◌, ◌++◌, length, map, take, Some, slice_get, refl, sym, ap, ◌∙◌, subst, arith, append_assoc, eq-eqb, ne_eqb}
use Rattle.std.specs.Prelude.{slice_index_or}
use Rattle.std.specs.List.{AllByRecursion, flat_map, list_all}
use Rattle.std.proofs.lemmas.List.{append-nil, length-map, map_push, take_all}
use Rattle.std.proofs.lemmas.Option.{slice_get-get_or}
use Rattle.board_model.specs.Deeds.{Deed, after_deeds}
use Rattle.board_model.specs.Journal.{Line, Visit, turn_line, visit_lines, is_idle, noted, noted_idle, turned}
use Rattle.board_model.specs.State.{DomainState}
use Rattle.board_model.specs.Turn.{IsVisit, AreVisits, after_visit, after_turn}
use Rattle.board_model.specs.Unnamed.{unnamed}
use Rattle.board_model.proofs.DeedJoins.{after-join}
use Rattle.domain_parts.specs.AllMoved.{AllMoved, numbers_of, turn_moves}
use Rattle.domain_parts.specs.Beginning.{told_of, told_of_all, has_begun, has_begun_after}
use Rattle.domain_parts.specs.CallSteps.{Rests}
use Rattle.domain_parts.specs.Doing.{Visits, ids_in}
use Rattle.domain_parts.specs.DomainView.{DomainView}
use Rattle.domain_parts.specs.LaneMoves.{LaneMove}
use Rattle.domain_parts.specs.NumberedDeeds.{numbered_deeds, turn_deeds}
use Rattle.domain_parts.specs.Parts.{Holding, Sound, plain, shown, state_of, parts_read}
use Rattle.domain_parts.specs.Sound.{AreRising}
use Rattle.domain_parts.specs.Steps.{Did, Step, all_moves, at_peer}
use Rattle.domain_parts.specs.Turned.{HaveNumbers, VisitsAll, MakesTurn}
use Rattle.domain_parts.specs.VisitMoves.{visit_moves}
use Rattle.domain_parts.proofs.PeerPlaces.{numbers-in}
use Rattle.domain_parts.proofs.Stepping.{did-then, moves-append}
use Rattle.domain_parts.proofs.ToldTurns.{told-last, begun-last, turn-told, turn-begun}
use Rattle.domain_parts.proofs.Turning.{did-numbers, did-rests, number-in}
use Rattle.domain_parts.proofs.Unnaming.{visit-numbered}

-- ---- one visit more

visits-last : (s : DomainState) (vs : List Visit) (w : Visit) → AreVisits s vs → IsVisit (after_turn s vs) w → AreVisits s (vs ++ w ∷ [])
visits-last s [] w all one = (one, tt)
visits-last s (u ∷ vs) w all one = (all.0, visits-last (after_visit s u) vs w all.1 one)

turn-last : (s : DomainState) (vs : List Visit) (w : Visit) → after_turn s (vs ++ w ∷ []) ≡ after_visit (after_turn s vs) w
turn-last s [] w = refl
turn-last s (u ∷ vs) w = turn-last (after_visit s u) vs w

deeds-last : (vs : List Visit) (nss : List (List ℕ)) (w : Visit) (ns : List ℕ) → HaveNumbers vs nss → turn_deeds (vs ++ w ∷ []) (nss ++ ns ∷ []) ≡ turn_deeds vs nss ++ numbered_deeds w ns
deeds-last [] [] w ns all = append-nil (numbered_deeds w ns)
deeds-last (u ∷ vs) (ms ∷ nss) w ns all = ap (λ (ds : List Deed). numbered_deeds u ms ++ ds) (deeds-last vs nss w ns all.1) ∙ sym (append_assoc (numbered_deeds u ms) (turn_deeds vs nss) (numbered_deeds w ns))
deeds-last [] (ms ∷ nss) w ns all = absurd all
deeds-last (u ∷ vs) [] w ns all = absurd all

have-last : (vs : List Visit) (nss : List (List ℕ)) (w : Visit) (ns : List ℕ) → HaveNumbers vs nss → length ns ≡ length w.takes → HaveNumbers (vs ++ w ∷ []) (nss ++ ns ∷ [])
have-last [] [] w ns all one = (one, tt)
have-last (u ∷ vs) (ms ∷ nss) w ns all one = (all.0, have-last vs nss w ns all.1 one)
have-last [] (ms ∷ nss) w ns all one = absurd all
have-last (u ∷ vs) [] w ns all one = absurd all

-- ---- the moves of visits at the peer of a number

abbrev moves_in : DomainState → List Visit → List (List ℕ) → ℕ → List LaneMove
moves_in s [] nss n = []
moves_in s (v ∷ vs) [] n = []
moves_in s (v ∷ vs) (ns ∷ nss) n = at_peer v.peer (visit_moves s v ns) n ++ moves_in (after_deeds s (numbered_deeds v ns)) vs nss n

moves-last : (s : DomainState) (vs : List Visit) (nss : List (List ℕ)) (w : Visit) (ns : List ℕ) (n : ℕ) → HaveNumbers vs nss → moves_in s (vs ++ w ∷ []) (nss ++ ns ∷ []) n ≡ moves_in s vs nss n ++ at_peer w.peer (visit_moves (after_deeds s (turn_deeds vs nss)) w ns) n
moves-last s [] [] w ns n all = append-nil (at_peer w.peer (visit_moves s w ns) n)
moves-last s (u ∷ vs) (ms ∷ nss) w ns n all =
    let here = at_peer u.peer (visit_moves s u ms) n in
    let now = after_deeds s (numbered_deeds u ms) in
    ap (λ (zs : List LaneMove). here ++ zs) (moves-last now vs nss w ns n all.1)
    ∙ sym (append_assoc here (moves_in now vs nss n) (at_peer w.peer (visit_moves (after_deeds now (turn_deeds vs nss)) w ns) n))
    ∙ ap (λ (t : DomainState). (here ++ moves_in now vs nss n) ++ at_peer w.peer (visit_moves t w ns) n) (sym (after-join s (numbered_deeds u ms) (turn_deeds vs nss)))
moves-last s [] (ms ∷ nss) w ns n all = absurd all
moves-last s (u ∷ vs) [] w ns n all = absurd all

moves-none : (s : DomainState) (vs : List Visit) (nss : List (List ℕ)) (n : ℕ) → AllByRecursion (λ m. n < m) (map (λ (v : Visit). v.peer) vs) → moves_in s vs nss n ≡ []
moves-none s [] nss n above = refl
moves-none s (v ∷ vs) [] n above = refl
moves-none s (v ∷ vs) (ns ∷ nss) n above =
    let now = after_deeds s (numbered_deeds v ns) in
    ap (λ (b : Bool). cond b (visit_moves s v ns) [] ++ moves_in now vs nss n) (ne_eqb v.peer n (λ e. let lt = above.0 in omega (arith, lt, e)))
    ∙ moves-none now vs nss n above.1

maps-above : (k : ℕ) (ms : List LaneMove) (f : ℕ → List LaneMove) (ns : List ℕ) → AllByRecursion (λ m. k < m) ns → map (λ n. at_peer k ms n ++ f n) ns ≡ map f ns
maps-above k ms f [] above = refl
maps-above k ms f (n ∷ ns) above =
    ap (λ (b : Bool). (cond b ms [] ++ f n) ∷ map (λ m. at_peer k ms m ++ f m) ns) (ne_eqb k n (λ e. let lt = above.0 in omega (arith, lt, e)))
    ∙ ap (λ (zs : List (List LaneMove)). f n ∷ zs) (maps-above k ms f ns above.1)

-- each peer is visited once
turn-moves-are : (s : DomainState) (vs : List Visit) (nss : List (List ℕ)) (ns : List ℕ) → HaveNumbers vs nss → map (λ (v : Visit). v.peer) vs ≡ ns → AreRising ns → map (moves_in s vs nss) ns ≡ turn_moves s vs nss
turn-moves-are s [] [] [] have each rising = refl
turn-moves-are s [] [] (n ∷ ns) have each rising = absurd cc
turn-moves-are s [] (ms ∷ nss) ns have each rising = absurd have
turn-moves-are s (v ∷ vs) [] ns have each rising = absurd have
turn-moves-are s (v ∷ vs) (ms ∷ nss) [] have each rising = absurd cc
turn-moves-are s (v ∷ vs) (ms ∷ nss) (n ∷ ns) have each rising =
    let now = after_deeds s (numbered_deeds v ms) in
    let moves = visit_moves s v ms in
    let peer : v.peer ≡ n = cc in
    let rest : map (λ (w : Visit). w.peer) vs ≡ ns = cc in
    let none : moves_in now vs nss n ≡ [] = moves-none now vs nss n (subst (AllByRecursion (λ m. n < m)) (sym rest) rising.0) in
    let here : at_peer v.peer moves n ++ moves_in now vs nss n ≡ moves =
    ap (λ (b : Bool). cond b moves [] ++ moves_in now vs nss n) (eq-eqb v.peer n peer) ∙ ap (λ (zs : List LaneMove). moves ++ zs) none ∙ append-nil moves in
    let later : map (moves_in s (v ∷ vs) (ms ∷ nss)) ns ≡ map (moves_in now vs nss) ns = maps-above v.peer moves (moves_in now vs nss) ns (subst (λ (k : ℕ). AllByRecursion (λ m. k < m) ns) (sym peer) rising.0) in
    ap (λ (z : List LaneMove). z ∷ map (moves_in s (v ∷ vs) (ms ∷ nss)) ns) here
    ∙ ap (λ (zs : List (List LaneMove)). moves ∷ zs) (later ∙ turn-moves-are now vs nss ns have.1 rest rising.1)

-- ---- the first peers were visited

take-at : {X : Type 0} (xs : List X) (i : ℕ) (x : X) → slice_get xs i ≡ Some x → take (i + 1) xs ≡ take i xs ++ x ∷ []
take-at {X} xs i x at = ap (λ (n : ℕ). take n xs) next ∙ go xs i at
  where
    next : i + 1 ≡ suc i
    next = omega arith

    go : (ys : List X) (j : ℕ) → slice_get ys j ≡ Some x → take (suc j) ys ≡ take j ys ++ x ∷ []
    go [] j e = absurd cc
    go (y ∷ ys) zero e = let same : y ≡ x = cc in ap (λ (z : X). z ∷ []) same
    go (y ∷ ys) (suc j) e = ap (λ (zs : List X). y ∷ zs) (go ys j e)

pub record SoFar {L : Type 0} (M : L → List LaneMove → L → Type 0) (old now : Holding L) (lines lines' : List Line) (i : ℕ) (begun : Bool) : Type 0 where
  pub visits : List Visit
  pub numbers : List (List ℕ)
  pub each_peer : map (λ (w : Visit). w.peer) visits ≡ take i (numbers_of old.parts.peers)
  pub allowed : AreVisits (unnamed (state_of old.parts)) visits
  pub state : after_turn (unnamed (state_of old.parts)) visits ≡ unnamed (state_of now.parts)
  pub numbered : state_of now.parts ≡ after_deeds (state_of old.parts) (turn_deeds visits numbers)
  pub each : HaveNumbers visits numbers
  pub steps : List Step
  pub did : Did M steps old now
  pub moves_are : (n : ℕ) → all_moves steps n ≡ moves_in (state_of old.parts) visits numbers n
  pub ids : ids_in now.parts ≡ ids_in old.parts
  pub packets : now.parts.records.lent ≡ old.parts.records.lent
  pub told : lines' ≡ lines ++ told_of_all false visits
  pub begins : begun ≡ has_begun_after false visits
  pub rests : Rests M now

pub so-far-none : {L : Type 0} (M : L → List LaneMove → L → Type 0) (h : Holding L) (lines : List Line) → Rests M h → SoFar M h h lines lines 0 false
so-far-none M h lines rests = record {
  visits = [];
  numbers = [];
  each_peer = refl;
  allowed = tt;
  state = refl;
  numbered = refl;
  each = tt;
  steps = [];
  did = record { parts = refl; moved = rests };
  moves_are = λ n. refl;
  ids = refl;
  packets = refl;
  told = sym (append-nil lines);
  begins = refl;
  rests = rests;
}

module _ {L : Type 0} (M : L → List LaneMove → L → Type 0) (m-none : (l : L) → M l [] l) (m-both : (a b c : L) (xs ys : List LaneMove) → M a xs b → M b ys c → M a (xs ++ ys) c) where
  pub so-far-more : (old now new : Holding L) (lines lines' lines'' : List Line) (i : ℕ) (begun begun' : Bool) → SoFar M old now lines lines' i begun → i < length now.parts.peers → Visits M i begun begun' now new lines' lines'' → SoFar M old new lines lines'' (i + 1) begun'
  so-far-more old now new lines lines' lines'' i begun begun' so_far within made =
      let vs = so_far.visits in
      let w = made.visit in
      let s = unnamed (state_of old.parts) in
      let ns = numbers_of old.parts.peers in
      let same : numbers_of now.parts.peers ≡ ns = did-numbers M so_far.steps old now so_far.did in
      let peer : w.peer ≡ slice_index_or ns i 0 = made.peer_is ∙ number-in now.parts.peers i ∙ ap (λ (zs : List ℕ). slice_index_or zs i 0) same in
      let long : i < length ns = (let many = length-map now.parts.peers (λ x. x.number) in let as_many = ap length same in omega (arith, within, many, as_many)) in
      let more : take (i + 1) ns ≡ take i ns ++ w.peer ∷ [] = take-at ns i (slice_index_or ns i 0) (slice_get-get_or ns i 0 long) ∙ ap (λ (n : ℕ). take i ns ++ n ∷ []) (sym peer) in
      record {
        visits = vs ++ w ∷ [];
        numbers = so_far.numbers ++ made.numbers ∷ [];
        each_peer = map_push (λ (x : Visit). x.peer) vs w ∙ ap (λ (zs : List ℕ). zs ++ w.peer ∷ []) so_far.each_peer ∙ sym more;
        allowed = visits-last s vs w so_far.allowed (subst (λ (x : DomainState). IsVisit x w) (sym so_far.state) made.allowed);
        state = turn-last s vs w ∙ ap (λ (x : DomainState). after_visit x w) so_far.state ∙ sym (ap unnamed made.doing.state ∙ visit-numbered (state_of now.parts) w made.numbers);
        numbered = made.doing.state
            ∙ ap (λ (x : DomainState). after_deeds x (numbered_deeds w made.numbers)) so_far.numbered
            ∙ sym (after-join (state_of old.parts) (turn_deeds vs so_far.numbers) (numbered_deeds w made.numbers))
            ∙ ap (after_deeds (state_of old.parts)) (sym (deeds-last vs so_far.numbers w made.numbers so_far.each));
        each = have-last vs so_far.numbers w made.numbers so_far.each made.each;
        steps = so_far.steps ++ made.doing.steps;
        did = did-then M m-both so_far.steps made.doing.steps old now new so_far.did made.doing.did;
        moves_are = λ n.
            moves-append so_far.steps made.doing.steps n
            ∙ ap (λ zs. zs ++ all_moves made.doing.steps n) (so_far.moves_are n)
            ∙ ap (λ zs. moves_in (state_of old.parts) vs so_far.numbers n ++ zs) (made.doing.moves_are n ∙ ap (λ (t : DomainState). at_peer w.peer (visit_moves t w made.numbers) n) so_far.numbered)
            ∙ sym (moves-last (state_of old.parts) vs so_far.numbers w made.numbers n so_far.each);
        ids = made.doing.ids ∙ so_far.ids;
        packets = made.doing.packets ∙ so_far.packets;
        told =
            made.told
            ∙ ap (λ (ls : List Line). ls ++ told_of begun w) so_far.told
            ∙ append_assoc lines (told_of_all false vs) (told_of begun w)
            ∙ ap (λ (b : Bool). lines ++ (told_of_all false vs ++ told_of b w)) so_far.begins
            ∙ ap (λ (ls : List Line). lines ++ ls) (sym (told-last false vs w));
        begins = made.begins ∙ ap (λ (b : Bool). has_begun b w) so_far.begins ∙ sym (begun-last false vs w);
        rests = did-rests M m-none made.doing.steps now new made.doing.did;
      }

  same_maps : (f g : ℕ → List LaneMove) → ((n : ℕ) → f n ≡ g n) → (ns : List ℕ) → map f ns ≡ map g ns
  same_maps f g same [] = refl
  same_maps f g same (n ∷ ns) = ap (λ z. z ∷ map f ns) (same n) ∙ ap (λ zs. g n ∷ zs) (same_maps f g same ns)

  -- all were visited
  pub so-far-all : (old now : Holding L) (lines lines' : List Line) (i : ℕ) (begun : Bool) → Sound old.parts → SoFar M old now lines lines' i begun → length old.parts.peers ≤ i → VisitsAll M (shown old) (shown now) lines lines' begun
  so-far-all old now lines lines' i begun sound so_far le =
      let ns = numbers_of old.parts.peers in
      let each : map (λ (w : Visit). w.peer) so_far.visits ≡ ns = so_far.each_peer ∙ take_all i ns (let many = length-map old.parts.peers (λ x. x.number) in omega (arith, le, many)) in
      record {
        visits = so_far.visits;
        numbers = so_far.numbers;
        turns = record {
          allowed = record { each_peer = each ∙ sym (numbers-in plain (parts_read old.parts) old.parts.table old.parts.peers); allowed = so_far.allowed };
          state = sym so_far.state;
          numbered = so_far.numbered;
          each = so_far.each;
          moved = subst (λ zs. AllMoved M old.ends zs now.ends) (same_maps (all_moves so_far.steps) (moves_in (state_of old.parts) so_far.visits so_far.numbers) so_far.moves_are ns ∙ turn-moves-are (state_of old.parts) so_far.visits so_far.numbers ns so_far.each each sound.peers.rising) so_far.did.moved;
          ids = so_far.ids;
          packets = so_far.packets;
        };
        told = so_far.told;
        begins = so_far.begins;
      }

-- ---- the turn with its line

noted-begun : (lines lines' : List Line) (vs : List Visit) → lines' ≡ lines ++ told_of_all false vs → list_all is_idle vs ≡ false → lines' ≡ noted lines (turned vs)
noted-begun lines lines' vs told idle =
    told
    ∙ ap (λ (ls : List Line). lines ++ ls) (turn-told vs ∙ ap (λ (b : Bool). cond b [] (turn_line ∷ flat_map visit_lines vs)) idle)
    ∙ sym (ap (λ (b : Bool). cond b (noted_idle lines) (lines ++ turn_line ∷ flat_map visit_lines vs)) idle)

noted-none : (lines lines' : List Line) (vs : List Visit) → lines' ≡ lines ++ told_of_all false vs → list_all is_idle vs ≡ true → noted_idle lines' ≡ noted lines (turned vs)
noted-none lines lines' vs told idle =
    ap (λ (ls : List Line). noted_idle ls) (told ∙ ap (λ (ls : List Line). lines ++ ls) (turn-told vs ∙ ap (λ (b : Bool). cond b [] (turn_line ∷ flat_map visit_lines vs)) idle) ∙ append-nil lines)
    ∙ sym (ap (λ (b : Bool). cond b (noted_idle lines) (lines ++ turn_line ∷ flat_map visit_lines vs)) idle)

not-back : (b c : Bool) → not b ≡ c → b ≡ not c
not-back true c e = ap not e
not-back false c e = ap not e

pub turn-begun-made : {L : Type 0} (M : L → List LaneMove → L → Type 0) (old new : DomainView L) (lines lines' : List Line) → VisitsAll M old new lines lines' true → MakesTurn M old new lines lines' false
turn-begun-made M old new lines lines' all =
    let idle : list_all is_idle all.visits ≡ false = not-back (list_all is_idle all.visits) true (sym (turn-begun all.visits) ∙ sym all.begins) in
    record { visits = all.visits; numbers = all.numbers; turns = all.turns; told = noted-begun lines lines' all.visits all.told idle; idle_is = sym idle }

pub turn-idle-made : {L : Type 0} (M : L → List LaneMove → L → Type 0) (old new : DomainView L) (lines lines' lines'' : List Line) → VisitsAll M old new lines lines' false → lines'' ≡ noted_idle lines' → MakesTurn M old new lines lines'' true
turn-idle-made M old new lines lines' lines'' all noted_is =
    let idle : list_all is_idle all.visits ≡ true = not-back (list_all is_idle all.visits) false (sym (turn-begun all.visits) ∙ sym all.begins) in
    record { visits = all.visits; numbers = all.numbers; turns = all.turns; told = noted_is ∙ noted-none lines lines' all.visits all.told idle; idle_is = sym idle }
