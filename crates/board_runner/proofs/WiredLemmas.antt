-- The links of a board over its rings: those of a domain lead to its neighbours, and the ends of each lane are those of one new ring.
use Rattle.std.proofs.Common.{◌≡◌, ◌≢◌, ℕ, zero, suc, ◌+◌, ◌-◌, ◌<◌, ◌≤◌, Bool, true, false, ◌&&◌, ◌||◌, cond, List, [], ◌∷◌, ◌++◌, length, map, drop, get_or, slice_get, option_and_then, Option, Some, None, find, filter, option_map, option_to_list, refl, sym, ap, ap₂, ◌∙◌, subst, inl, inr, arith, append-nil, append_assoc, eq-eqb, eqb-true, ne_eqb, length-drop}
use Rattle.std.specs.Prelude.{◌==◌, position}
use Rattle.std.specs.List.{remove}
use Rattle.std.proofs.lemmas.Option.{slice_get-get_or}
use Rattle.std.specs.List.{AllByRecursion}
use Rattle.std.proofs.lemmas.Bool.{and_parts}
use Rattle.std.proofs.lemmas.Bool.Decides.{eqb_tells}
use Rattle.std.proofs.lemmas.List.{map-append, length-map}
use Rattle.std.proofs.lemmas.List.FromFn.{length-range_with_len}
use Rattle.mc_base.specs.Stored.{Stored}
use Rattle.shared_words.specs.Shape.{IsRingSize}
use Rattle.shared_words.specs.Shown.{RingId, size_of}
use Rattle.shared_words.specs.Slots.{numbers_from}
use Rattle.shared_words.specs.Start.{new_buffer}
use Rattle.lane_end.specs.Entries.{numbers_in}
use Rattle.lane_end.specs.RingOpening.{new_buffers, whole, queue1_sender, queue1_receiver, queue0_sender, queue0_receiver}
use Rattle.lane_end.specs.RingReceiver.{struck, given_entries}
use Rattle.lane_end.specs.declared.any.AnySend.TheVariants as send
use Rattle.lane_end.specs.declared.any.AnyRecv.TheVariants as recv
use Rattle.board_model.specs.declared.scenario.DomainLine.{DomainLine}
use Rattle.board_model.specs.declared.scenario.LinkLine.{LinkLine}
use Rattle.board_model.specs.declared.scenario.Scenario.{Scenario}
use Rattle.board_model.specs.Language.{IsLawfulBoard}
use Rattle.board_model.specs.LinkedBoard.{Joins, IsLinkedBoard}
use Rattle.board_model.specs.Scenario.{Neighbour, neighbour, neighbours}
use Rattle.board_model.proofs.LawfulRanges.{lawful-sizes}
use Rattle.board_model.proofs.LawfulSizes.{IsPowerOfTwo}
use Rattle.board_model.proofs.MessageAlls.{all-weaken, found-passes}
use Rattle.board_model.proofs.MessageLists.{get-position}
use Rattle.board_model.proofs.WholeFinds.{some_tells}
use Rattle.domain_core.specs.Carrying.{AnyLink}
use Rattle.board_numbers.specs.Lanes.{joins, size_between}
use Rattle.board_runner.specs.declared.rings.LinkHalves.{LinkHalves}
use Rattle.board_runner.specs.declared.rings.LinkRings.{LinkRings}
use Rattle.board_runner.specs.declared.wires.Wire.{Wire}
use Rattle.board_runner.specs.Near.{nothing_sent, nothing_got}
use Rattle.board_runner.specs.Opened.{IsLineIn}
use Rattle.board_runner.specs.Wired.{HaveParts, AreRings, driver_link, device_link, wires_for, leads_from, wire_at, links_wired, IsNewLane, IsWired, IsNewLink, AreLinksOn, link_neighbour, is_other}
use Rattle.board_runner.proofs.LinkLemmas.{Bare, bare, new_bare, to_bare, links_below, links-begin, links-next, links-done}

-- ---- sizes

-- the links of a lawful board have sizes that a ring may have
pub ring-sizes : (s : Scenario) → IsLawfulBoard s → AllByRecursion (λ l. IsRingSize l.size) s.links
ring-sizes s board =
    all-weaken (λ (l : LinkLine). IsPowerOfTwo l.size) (λ (l : LinkLine). IsRingSize l.size) (λ l p. let few = p.2 in (p.0, p.1, omega (arith, few), p.3)) s.links (lawful-sizes s board)

-- ---- a new lane over a ring

struck_none : (ns : List ℕ) → struck ns [] ≡ []
struck_none [] = refl
struck_none (n ∷ ns) = struck_none ns

lane-over-one : (id : RingId) (size : ℕ) → size_of id ≡ size → IsNewLane size (send.Driver (queue1_sender id)) (recv.Device (queue1_receiver id))
lane-over-one id size sized = record {
  one = record { ring = refl; role = refl };
  sends = tt;
  receives = tt;
  size_to = sized;
  all_free = length-range_with_len 0 (size_of id) ∙ sized;
  size_from = sized;
  none_shown = refl;
  none_out = struck_none [];
  sent = ap (λ (n : ℕ). record nothing_sent { known = n }) (let e : 0 - 0 ≡ 0 = omega arith in e);
  got = refl;
}

count-from : (j n : ℕ) → length (numbers_from j n) ≡ n
count-from j zero = refl
count-from j (suc n) = ap suc (count-from (suc j) n)

-- what the driver offered before the lane was opened is as long as the ring
offered_all : (id : RingId) → length (drop (size_of id) (whole (new_buffers id))) ≡ 0
offered_all id =
    let d = length-drop (size_of id) (whole (new_buffers id)) in
    let w : length (whole (new_buffers id)) ≡ length (new_buffers id) = length-map (new_buffers id) (λ (b : Stored). (b, length b.bytes)) in
    let n = length-map (numbers_from 0 (size_of id)) (new_buffer id.width) in
    let k = count-from 0 (size_of id) in
    omega (arith, d, w, n, k)

lane-over-zero : (id : RingId) (size : ℕ) → size_of id ≡ size → IsNewLane size (send.Device (queue0_sender id)) (recv.Driver (queue0_receiver id))
lane-over-zero id size sized = record {
  one = record { ring = refl; role = refl };
  sends = tt;
  receives = tt;
  size_to = sized;
  all_free = length-range_with_len 0 (size_of id) ∙ sized;
  size_from = sized;
  none_shown = refl;
  none_out = struck_none (numbers_in (given_entries (queue0_receiver id)));
  sent = ap (λ (n : ℕ). record nothing_sent { known = n }) (let e : size_of id - size_of id ≡ 0 = omega arith in e);
  got = ap (λ (n : ℕ). record nothing_got { given = n }) (offered_all id);
}

-- ---- the wires of a board

and_swap : (p q : Bool) → (p && q) ≡ (q && p)
and_swap true true = refl
and_swap true false = refl
and_swap false true = refl
and_swap false false = refl

abbrev pub driver_wire : LinkLine → LinkRings → Wire
driver_wire l on = record { owner = l.driver; link = driver_link l on }

abbrev pub device_wire : LinkLine → LinkRings → Wire
device_wire l on = record { owner = l.device; link = device_link l on }

abbrev link_in : Option Wire → Option AnyLink
link_in o = option_map (λ (w : Wire). w.link) o

sizes-are : (ls : List LinkLine) (rings : List LinkRings) (hs : List LinkHalves) → AreRings ls rings hs → (a b : ℕ) → option_map (λ (l : AnyLink). l.size) (wire_at (wires_for ls rings) a b) ≡ option_map (λ (l : LinkLine). l.size) (find (joins a b) ls)
sizes-are [] rings hs are a b = refl
sizes-are (l ∷ ls) [] hs are a b = absurd are
sizes-are (l ∷ ls) (on ∷ rings) [] are a b = absurd are
sizes-are (l ∷ ls) (on ∷ rings) (h ∷ hs) are a b = go (l.driver == a && l.device == b) (l.device == a && l.driver == b) (sizes-are ls rings hs are.1 a b)
  where
    go : (x y : Bool) → option_map (λ (k : AnyLink). k.size) (wire_at (wires_for ls rings) a b) ≡ option_map (λ (k : LinkLine). k.size) (find (joins a b) ls)
        → option_map (λ (k : AnyLink). k.size) (link_in (cond x (Some (driver_wire l on)) (cond y (Some (device_wire l on)) (find (leads_from a b) (wires_for ls rings))))) ≡ option_map (λ (k : LinkLine). k.size) (cond (x || y) (Some l) (find (joins a b) ls))
    go true y rest = refl
    go false true rest = refl
    go false false rest = rest

record LaneBack (ws : List Wire) (a b : ℕ) (there : AnyLink) (back : Option AnyLink) : Type 0 where
  link : AnyLink
  is : back ≡ Some link
  out : IsNewLane there.size there.send link.recv
  into : IsNewLane there.size link.send there.recv

lanes-are : (ls : List LinkLine) (rings : List LinkRings) (hs : List LinkHalves) → AreRings ls rings hs → AllByRecursion (λ (l : LinkLine). l.driver ≡ l.device → ⊥) ls → (a b : ℕ) (there : AnyLink) → wire_at (wires_for ls rings) a b ≡ Some there
    → LaneBack (wires_for ls rings) a b there (wire_at (wires_for ls rings) b a)
lanes-are [] rings hs are two a b there at = absurd cc
lanes-are (l ∷ ls) [] hs are two a b there at = absurd are
lanes-are (l ∷ ls) (on ∷ rings) [] are two a b there at = absurd are
lanes-are (l ∷ ls) (on ∷ rings) (h ∷ hs) are two a b there at =
    again (go (l.driver == a && l.device == b) (l.device == a && l.driver == b) refl refl at (lanes-are ls rings hs are.1 two.1 a b there))
  where
    back_with : Bool → Bool → Option AnyLink
    back_with x y = link_in (cond y (Some (driver_wire l on)) (cond x (Some (device_wire l on)) (find (leads_from b a) (wires_for ls rings))))

    one : IsNewLane l.size (driver_link l on).send (device_link l on).recv
    one = lane-over-one on.queue1.ring l.size are.0.one_new.sized

    back : IsNewLane l.size (device_link l on).send (driver_link l on).recv
    back = lane-over-zero on.queue0.ring l.size are.0.zero_new.sized

    go : (x y : Bool) → (l.driver == a && l.device == b) ≡ x → (l.device == a && l.driver == b) ≡ y → link_in (cond x (Some (driver_wire l on)) (cond y (Some (device_wire l on)) (find (leads_from a b) (wires_for ls rings)))) ≡ Some there
        → (wire_at (wires_for ls rings) a b ≡ Some there → LaneBack (wires_for ls rings) a b there (wire_at (wires_for ls rings) b a)) → LaneBack (wires_for (l ∷ ls) (on ∷ rings)) a b there (back_with (l.driver == a && l.device == b) (l.device == a && l.driver == b))
    go true true e f at rest =
        let p = and_parts (l.driver == a) (l.device == b) e in
        let q = and_parts (l.device == a) (l.driver == b) f in
        absurd (two.0 (eqb-true l.driver a p.0 ∙ sym (eqb-true l.device a q.0)))
    go true false e f at rest =
        let is : driver_link l on ≡ there = cc in
        record {
          link = device_link l on;
          is = ap₂ back_with e f;
          out = subst (λ (k : AnyLink). IsNewLane k.size k.send (device_link l on).recv) is one;
          into = subst (λ (k : AnyLink). IsNewLane k.size (device_link l on).send k.recv) is back;
        }
    go false true e f at rest =
        let is : device_link l on ≡ there = cc in
        record {
          link = driver_link l on;
          is = ap₂ back_with e f;
          out = subst (λ (k : AnyLink). IsNewLane k.size k.send (driver_link l on).recv) is back;
          into = subst (λ (k : AnyLink). IsNewLane k.size (driver_link l on).send k.recv) is one;
        }
    go false false e f at rest =
        let h = rest at in
        record { link = h.link; is = ap₂ back_with e f ∙ h.is; out = h.out; into = h.into }

    again : LaneBack (wires_for (l ∷ ls) (on ∷ rings)) a b there (back_with (l.driver == a && l.device == b) (l.device == a && l.driver == b)) → LaneBack (wires_for (l ∷ ls) (on ∷ rings)) a b there (wire_at (wires_for (l ∷ ls) (on ∷ rings)) b a)
    again h =
        subst (LaneBack (wires_for (l ∷ ls) (on ∷ rings)) a b there)
        (ap₂ (λ (x y : Bool). link_in (cond y (Some (driver_wire l on)) (cond x (Some (device_wire l on)) (find (leads_from b a) (wires_for ls rings))))) (and_swap (l.driver == a) (l.device == b)) (and_swap (l.device == a) (l.driver == b))) h

links-apart : (s : Scenario) (ls : List LinkLine) → AllByRecursion (Joins s) ls → AllByRecursion (λ (l : LinkLine). l.driver ≡ l.device → ⊥) ls
links-apart s [] join = tt
links-apart s (l ∷ ls) join = (join.0.two_domains, links-apart s ls join.1)

pub board-wired : (s : Scenario) → IsLinkedBoard s → (rings : List LinkRings) (hs : List LinkHalves) → AreRings s.links rings hs → IsWired s (wires_for s.links rings)
board-wired s board rings hs are = record {
  sizes = sizes-are s.links rings hs are;
  lanes = λ a b there at. let h = lanes-are s.links rings hs are (links-apart s s.links board.links_join) a b there at in record { back = h.link; is = h.is; out = h.out; into = h.into };
}

-- ---- the links of a domain

pub wire-peer : (ws : List Wire) (a b : ℕ) (l : AnyLink) → wire_at ws a b ≡ Some l → l.peer ≡ b
wire-peer ws a b l at =
    let w = some_tells (λ (x : Wire). x.link) (find (leads_from a b) ws) l at in
    let passes = and_parts (w.0.owner == a) (w.0.link.peer == b) (found-passes (leads_from a b) ws w.0 w.1) in
    ap (λ (x : AnyLink). x.peer) (sym w.2) ∙ eqb-true w.0.link.peer b passes.1

module _ (s : Scenario) (board : IsLinkedBoard s) (ws : List Wire) (wired : IsWired s ws) where
  bare_at : (a i : ℕ) → option_map to_bare (wire_at ws a i) ≡ option_map (new_bare i) (size_between s a i)
  bare_at a i = go (wire_at ws a i) refl
    where
      go : (o : Option AnyLink) → wire_at ws a i ≡ o → option_map to_bare o ≡ option_map (new_bare i) (size_between s a i)
      go None at = ap (option_map (new_bare i)) (sym (ap (option_map (λ (l : AnyLink). l.size)) at) ∙ wired.sizes a i)
      go (Some l) at = ap (λ (p : ℕ). Some (new_bare p l.size)) (wire-peer ws a i l at) ∙ ap (option_map (new_bare i)) (sym (ap (option_map (λ (k : AnyLink). k.size)) at) ∙ wired.sizes a i)

  map_list : (o : Option AnyLink) → map to_bare (option_to_list o) ≡ option_to_list (option_map to_bare o)
  map_list None = refl
  map_list (Some l) = refl

  wired-below : (d : DomainLine) (i : ℕ) → map to_bare (links_wired ws d.domain i) ≡ links_below s d i
  wired-below d zero = sym (links-begin s d)
  wired-below d (suc i) =
      let next : i + 1 ≡ suc i = omega arith in
      map-append to_bare (links_wired ws d.domain i) (option_to_list (wire_at ws d.domain i))
      ∙ ap₂ (λ (xs ys : List Bare). xs ++ ys) (wired-below d i) (map_list (wire_at ws d.domain i) ∙ ap option_to_list (bare_at d.domain i))
      ∙ sym (links-next s board d i) ∙ ap (links_below s d) next

  new-link : (a i : ℕ) (l : AnyLink) → wire_at ws a i ≡ Some l → IsNewLink l
  new-link a i l at =
      let h = wired.lanes a i l at in
      record {
        sends = h.out.sends;
        receives = h.into.receives;
        size_to = h.out.size_to;
        all_free = h.out.all_free;
        size_from = h.into.size_from;
        none_shown = h.into.none_shown;
        none_out = h.into.none_out;
        sent = h.out.sent;
        got = h.into.got;
      }

  all_both : (P : AnyLink → Type 0) (xs ys : List AnyLink) → AllByRecursion P xs → AllByRecursion P ys → AllByRecursion P (xs ++ ys)
  all_both P [] ys a b = b
  all_both P (x ∷ xs) ys a b = (a.0, all_both P xs ys a.1 b)

  new-links : (a i : ℕ) → AllByRecursion IsNewLink (links_wired ws a i)
  new-links a zero = tt
  new-links a (suc i) = all_both IsNewLink (links_wired ws a i) (option_to_list (wire_at ws a i)) (new-links a i) (go (wire_at ws a i) refl)
    where
      go : (o : Option AnyLink) → wire_at ws a i ≡ o → AllByRecursion IsNewLink (option_to_list o)
      go None at = tt
      go (Some l) at = (new-link a i l at, tt)

  neighbours_back : (ls : List AnyLink) → map link_neighbour ls ≡ map (λ (l : Bare). neighbour l.peer l.size) (map to_bare ls)
  neighbours_back [] = refl
  neighbours_back (l ∷ ls) = ap (λ (ns : List Neighbour). link_neighbour l ∷ ns) (neighbours_back ls)

  bares_back : (ns : List Neighbour) → map (λ (l : Bare). neighbour l.peer l.size) (map bare ns) ≡ ns
  bares_back [] = refl
  bares_back (n ∷ ns) = ap (λ (ms : List Neighbour). n ∷ ms) (bares_back ns)

  pub wired-links : (d : DomainLine) → IsLineIn s d → AreLinksOn s d (links_wired ws d.domain 8)
  wired-links d line = record {
    to = neighbours_back (links_wired ws d.domain 8) ∙ ap (map (λ (l : Bare). neighbour l.peer l.size)) (wired-below d 8 ∙ links-done s board d line) ∙ bares_back (filter (is_other d.domain) (neighbours s d));
    new = new-links d.domain 8;
  }

-- ---- the link to a peer among them

module _ (ws : List Wire) (a b : ℕ) where
  find-append : (xs ys : List AnyLink) → find (λ (l : AnyLink). l.peer == b) xs ≡ None → find (λ (l : AnyLink). l.peer == b) (xs ++ ys) ≡ find (λ (l : AnyLink). l.peer == b) ys
  find-append [] ys none = refl
  find-append (x ∷ xs) ys none = go (x.peer == b) none (find-append xs ys)
    where
      go : (c : Bool) → cond c (Some x) (find (λ (l : AnyLink). l.peer == b) xs) ≡ None → (find (λ (l : AnyLink). l.peer == b) xs ≡ None → find (λ (l : AnyLink). l.peer == b) (xs ++ ys) ≡ find (λ (l : AnyLink). l.peer == b) ys) → cond c (Some x) (find (λ (l : AnyLink). l.peer == b) (xs ++ ys)) ≡ find (λ (l : AnyLink). l.peer == b) ys
      go true none later = absurd cc
      go false none later = later none

  find-first : (xs ys : List AnyLink) (l : AnyLink) → find (λ (k : AnyLink). k.peer == b) xs ≡ Some l → find (λ (k : AnyLink). k.peer == b) (xs ++ ys) ≡ Some l
  find-first [] ys l at = absurd cc
  find-first (x ∷ xs) ys l at = go (x.peer == b) at (find-first xs ys l)
    where
      go : (c : Bool) → cond c (Some x) (find (λ (k : AnyLink). k.peer == b) xs) ≡ Some l → (find (λ (k : AnyLink). k.peer == b) xs ≡ Some l → find (λ (k : AnyLink). k.peer == b) (xs ++ ys) ≡ Some l) → cond c (Some x) (find (λ (k : AnyLink). k.peer == b) (xs ++ ys)) ≡ Some l
      go true at later = at
      go false at later = later at

  -- those towards other peers
  none-at : (i : ℕ) → i ≢ b → find (λ (l : AnyLink). l.peer == b) (option_to_list (wire_at ws a i)) ≡ None
  none-at i other = go (wire_at ws a i) refl
    where
      go : (o : Option AnyLink) → wire_at ws a i ≡ o → find (λ (l : AnyLink). l.peer == b) (option_to_list o) ≡ None
      go None at = refl
      go (Some l) at = ap (λ (c : Bool). cond c (Some l) None) (ne_eqb l.peer b (λ e. other (sym (wire-peer ws a i l at) ∙ e)))

  none-below : (i : ℕ) → i ≤ b → find (λ (l : AnyLink). l.peer == b) (links_wired ws a i) ≡ None
  none-below zero less = refl
  none-below (suc i) less =
      find-append (links_wired ws a i) (option_to_list (wire_at ws a i)) (none-below i (omega (arith, less))) ∙ none-at i (λ e. omega (arith, less, e))

  pub find-wired : (i : ℕ) → b < i → (l : AnyLink) → wire_at ws a b ≡ Some l → find (λ (k : AnyLink). k.peer == b) (links_wired ws a i) ≡ Some l
  find-wired zero less l at = absurd (omega (arith, less))
  find-wired (suc i) less l at = elim (eqb_tells i b) [
    | inl same ↦
        find-append (links_wired ws a i) (option_to_list (wire_at ws a i)) (none-below i (omega (arith, same.1)))
        ∙ ap (λ (o : Option AnyLink). find (λ (k : AnyLink). k.peer == b) (option_to_list o)) (ap (wire_at ws a) same.1 ∙ at)
        ∙ ap (λ (c : Bool). cond c (Some l) None) (eq-eqb l.peer b (wire-peer ws a b l at))
    | inr other ↦ find-first (links_wired ws a i) (option_to_list (wire_at ws a i)) l (find-wired i (let apart = other.1 in omega (arith, less, apart)) l at)
  ]

-- ---- wires that are taken out

pub wired-same : (ws us : List Wire) (a : ℕ) → ((b : ℕ) → wire_at us a b ≡ wire_at ws a b) → (i : ℕ) → links_wired us a i ≡ links_wired ws a i
wired-same ws us a same zero = refl
wired-same ws us a same (suc i) = ap₂ (λ (xs : List AnyLink) (o : Option AnyLink). xs ++ option_to_list o) (wired-same ws us a same i) (same i)

wire-found : (ws : List Wire) (d p i : ℕ) (w : Wire) → Some i ≡ position (leads_from d p) ws → i < length ws → (find (leads_from d p) ws ≡ Some (get_or ws i w)) × (slice_get ws i ≡ Some (get_or ws i w))
wire-found ws d p i w is within =
    let at = slice_get-get_or ws i w within in
    (sym (get-position (leads_from d p) ws) ∙ ap (option_and_then (λ j. slice_get ws j)) (sym is) ∙ at, at)

pub wire-there : (ws : List Wire) (d p i : ℕ) (w : Wire) → Some i ≡ position (leads_from d p) ws → i < length ws → w ≡ get_or ws i w → wire_at ws d p ≡ Some w.link
wire-there ws d p i w is within here = ap link_in ((wire-found ws d p i w is within).0) ∙ ap (λ (x : Wire). Some x.link) (sym here)

pub wire-none : (ws : List Wire) (d p : ℕ) → None ≡ position (leads_from d p) ws → wire_at ws d p ≡ None
wire-none ws d p is = ap link_in (sym (get-position (leads_from d p) ws) ∙ ap (option_and_then (λ j. slice_get ws j)) (sym is))

removed-other : (ws : List Wire) (i a b : ℕ) (w : Wire) → slice_get ws i ≡ Some w → leads_from a b w ≡ false → find (leads_from a b) (remove ws i) ≡ find (leads_from a b) ws
removed-other [] i a b w at other = absurd cc
removed-other (x ∷ ws) zero a b w at other =
    let is : x ≡ w = cc in
    sym (ap (λ (c : Bool). cond c (Some x) (find (leads_from a b) ws)) (ap (leads_from a b) is ∙ other))
removed-other (x ∷ ws) (suc i) a b w at other = ap (λ (o : Option Wire). cond (leads_from a b x) (Some x) o) (removed-other ws i a b w at other)

pub leads_no : (a b : ℕ) (w : Wire) → (w.owner ≡ a → w.link.peer ≡ b → ⊥) → leads_from a b w ≡ false
leads_no a b w other = elim (eqb_tells w.owner a) [
  | inl own ↦ ap (λ (c : Bool). c && (w.link.peer == b)) own.0 ∙ ne_eqb w.link.peer b (other own.1)
  | inr not ↦ ap (λ (c : Bool). c && (w.link.peer == b)) not.0
]

-- only those towards the peer are gone
pub wire-other : (ws : List Wire) (d p i : ℕ) (w : Wire) → Some i ≡ position (leads_from d p) ws → i < length ws → (a b : ℕ) → (d ≡ a → p ≡ b → ⊥) → wire_at (remove ws i) a b ≡ wire_at ws a b
wire-other ws d p i w is within a b other =
    let f = wire-found ws d p i w is within in
    let passes = found-passes (leads_from d p) ws (get_or ws i w) f.0 in
    let parts = and_parts ((get_or ws i w).owner == d) ((get_or ws i w).link.peer == p) passes in
    ap link_in (removed-other ws i a b (get_or ws i w) f.1 (leads_no a b (get_or ws i w) (λ e g. other (sym (eqb-true (get_or ws i w).owner d parts.0) ∙ e) (sym (eqb-true (get_or ws i w).link.peer p parts.1) ∙ g))))

-- ---- rings, one link after the other

pub rings-more : (ls : List LinkLine) (rings : List LinkRings) (hs : List LinkHalves) (l : LinkLine) (on : LinkRings) (h : LinkHalves) → AreRings ls rings hs → HaveParts l.size on h → AreRings (ls ++ l ∷ []) (rings ++ on ∷ []) (hs ++ h ∷ [])
rings-more [] [] [] l on h are new = (new, tt)
rings-more (k ∷ ls) (r ∷ rings) (g ∷ hs) l on h are new = (are.0, rings-more ls rings hs l on h are.1 new)
rings-more [] [] (g ∷ hs) l on h are new = absurd are
rings-more [] (r ∷ rings) hs l on h are new = absurd are
rings-more (k ∷ ls) [] hs l on h are new = absurd are
rings-more (k ∷ ls) (r ∷ rings) [] l on h are new = absurd are

-- the next of them
pub record NextRings (ls : List LinkLine) (rings : List LinkRings) (i : ℕ) (h : LinkHalves) (hs : List LinkHalves) : Type 0 where
  pub line : LinkLine
  pub on : LinkRings
  pub line_at : slice_get ls i ≡ Some line
  pub ring_at : slice_get rings i ≡ Some on
  pub parts : HaveParts line.size on h
  pub rest : AreRings (drop (i + 1) ls) (drop (i + 1) rings) hs
  pub wires : wires_for (drop i ls) (drop i rings) ≡ driver_wire line on ∷ (device_wire line on ∷ wires_for (drop (i + 1) ls) (drop (i + 1) rings))

pub next-rings : (ls : List LinkLine) (rings : List LinkRings) (i : ℕ) (h : LinkHalves) (hs : List LinkHalves) → AreRings (drop i ls) (drop i rings) (h ∷ hs) → NextRings ls rings i h hs
next-rings [] [] zero h hs are = absurd are
next-rings [] (r ∷ rings) zero h hs are = absurd are
next-rings (l ∷ ls) [] zero h hs are = absurd are
next-rings (l ∷ ls) (r ∷ rings) zero h hs are = record { line = l; on = r; line_at = refl; ring_at = refl; parts = are.0; rest = are.1; wires = refl }
next-rings [] [] (suc i) h hs are = absurd are
next-rings [] (r ∷ rings) (suc i) h hs are = none-left (drop i rings) are
  where
    none-left : (rs : List LinkRings) → AreRings [] rs (h ∷ hs) → NextRings [] (r ∷ rings) (suc i) h hs
    none-left [] are = absurd are
    none-left (x ∷ rs) are = absurd are
next-rings (l ∷ ls) [] (suc i) h hs are = none-left (drop i ls) are
  where
    none-left : (ks : List LinkLine) → AreRings ks [] (h ∷ hs) → NextRings (l ∷ ls) [] (suc i) h hs
    none-left [] are = absurd are
    none-left (x ∷ ks) are = absurd are
next-rings (l ∷ ls) (r ∷ rings) (suc i) h hs are =
    let n = next-rings ls rings i h hs are in
    let next : suc (i + 1) ≡ suc i + 1 = omega arith in
    record {
      line = n.line;
      on = n.on;
      line_at = n.line_at;
      ring_at = n.ring_at;
      parts = n.parts;
      rest = subst (λ (k : ℕ). AreRings (drop k (l ∷ ls)) (drop k (r ∷ rings)) hs) next n.rest;
      wires = n.wires ∙ ap (λ (k : ℕ). driver_wire n.line n.on ∷ (device_wire n.line n.on ∷ wires_for (drop k (l ∷ ls)) (drop k (r ∷ rings)))) next;
    }

pub none-rings : (ls : List LinkLine) (rings : List LinkRings) → AreRings ls rings [] → wires_for ls rings ≡ []
none-rings [] rings are = refl
none-rings (l ∷ ls) [] are = refl
none-rings (l ∷ ls) (r ∷ rings) are = absurd are

-- ---- the links of a domain, peer after peer

-- those towards the peers below a number are taken out, and no others
pub record TakenSo (old now : List Wire) (d p : ℕ) (links : List AnyLink) : Type 0 where
  pub so_far : links ≡ links_wired old d p
  pub others : (a b : ℕ) → a ≢ d → wire_at now a b ≡ wire_at old a b
  pub rest : (b : ℕ) → p ≤ b → wire_at now d b ≡ wire_at old d b

pub taken-none : (old : List Wire) (d : ℕ) (links : List AnyLink) → links ≡ [] → TakenSo old old d 0 links
taken-none old d links none = record { so_far = none; others = λ a b apart. refl; rest = λ b least. refl }

wired-next : (old : List Wire) (d p : ℕ) (links more : List AnyLink) (o : Option AnyLink) → links ≡ links_wired old d p → wire_at old d p ≡ o → more ≡ links ++ option_to_list o → more ≡ links_wired old d (p + 1)
wired-next old d p links more o so_far at added =
    let next : suc p ≡ p + 1 = omega arith in
    added ∙ ap₂ (λ (xs : List AnyLink) (q : Option AnyLink). xs ++ option_to_list q) so_far (sym at) ∙ ap (links_wired old d) next

pub take-wire : (old now next : List Wire) (d p i : ℕ) (w : Wire) (links more : List AnyLink) → TakenSo old now d p links → Some i ≡ position (leads_from d p) now → i < length now → w ≡ get_or now i w → next ≡ remove now i → more ≡ links ++ w.link ∷ [] → TakenSo old next d (p + 1) more
take-wire old now next d p i w links more h at within here removed added = record {
  so_far = wired-next old d p links more (Some w.link) h.so_far (sym (h.rest p (omega arith)) ∙ wire-there now d p i w at within here) added;
  others = λ a b apart. ap (λ (ws : List Wire). wire_at ws a b) removed ∙ wire-other now d p i w at within a b (λ e g. apart (sym e)) ∙ h.others a b apart;
  rest = λ b least. ap (λ (ws : List Wire). wire_at ws d b) removed ∙ wire-other now d p i w at within d b (λ e g. omega (arith, least, g)) ∙ h.rest b (omega (arith, least));
}

pub skip-wire : (old now next : List Wire) (d p : ℕ) (links more : List AnyLink) → TakenSo old now d p links → None ≡ position (leads_from d p) now → next ≡ now → more ≡ links → TakenSo old next d (p + 1) more
skip-wire old now next d p links more h none same added = record {
  so_far = wired-next old d p links more None h.so_far (sym (h.rest p (omega arith)) ∙ wire-none now d p none) (added ∙ sym (append-nil links));
  others = λ a b apart. ap (λ (ws : List Wire). wire_at ws a b) same ∙ h.others a b apart;
  rest = λ b least. ap (λ (ws : List Wire). wire_at ws d b) same ∙ h.rest b (omega (arith, least));
}

-- what is left of the wires holds the links of the domains that are not opened yet
pub links-left : (s : Scenario) → IsLinkedBoard s → (ws now : List Wire) → IsWired s ws → (d : DomainLine) → IsLineIn s d → (n : ℕ) → d.domain ≡ n → ((a b : ℕ) → n ≤ a → wire_at now a b ≡ wire_at ws a b) → (ls : List AnyLink) → ls ≡ links_wired now n 8
    → (ls ≡ links_wired ws d.domain 8) × AreLinksOn s d ls
links-left s board ws now wired d line n named left ls is =
    let same : ls ≡ links_wired ws d.domain 8 = is ∙ wired-same ws now n (λ b. left n b (omega arith)) 8 ∙ ap (λ (k : ℕ). links_wired ws k 8) (sym named) in
    (same, subst (AreLinksOn s d) (sym same) (wired-links s board ws wired d line))

pub wires-more : (ls : List LinkLine) (rings : List LinkRings) (i : ℕ) (h : LinkHalves) (hs : List LinkHalves) (n : NextRings ls rings i h hs) (line : LinkLine) (on : LinkRings) (old mid new total : List Wire) (a b : Wire) → line ≡ n.line → on ≡ n.on → mid ≡ old ++ a ∷ [] → new ≡ mid ++ b ∷ []
    → a ≡ driver_wire line on → b ≡ device_wire line on → old ++ wires_for (drop i ls) (drop i rings) ≡ total → new ++ wires_for (drop (i + 1) ls) (drop (i + 1) rings) ≡ total
wires-more ls rings i h hs n line on old mid new total a b line_is on_is first second a_is b_is so_far =
    let rest = wires_for (drop (i + 1) ls) (drop (i + 1) rings) in
    let there : a ≡ driver_wire n.line n.on = a_is ∙ ap₂ driver_wire line_is on_is in
    let back : b ≡ device_wire n.line n.on = b_is ∙ ap₂ device_wire line_is on_is in
    ap (λ (ws : List Wire). ws ++ rest) (second ∙ ap (λ (ws : List Wire). ws ++ b ∷ []) first)
    ∙ append_assoc (old ++ a ∷ []) (b ∷ []) rest ∙ append_assoc old (a ∷ []) (b ∷ rest)
    ∙ ap₂ (λ (x y : Wire). old ++ x ∷ (y ∷ rest)) there back
    ∙ ap (λ (ws : List Wire). old ++ ws) (sym n.wires) ∙ so_far

pub some-same : {A : Type 0} (o : Option A) (x y : A) → Some x ≡ o → o ≡ Some y → x ≡ y
some-same o x y a b = cc
