-- The lanes of a board of linked domains: how many there are, their order, and that each is found by its ends.
use Rattle.std.proofs.Common.{◌≡◌, ◌⊎◌, ℕ, ◌+◌, ◌*◌, ◌<◌, ◌≤◌, Bool, true, ◌&&◌, List, [], ◌∷◌, ◌++◌, map, length, Option, Some, find, flat_map, refl, sym, ap, ◌∙◌, subst, arith, inl, inr, eqb-true, eq-eqb}
use Rattle.std.specs.Prelude.{◌==◌}
use Rattle.std.specs.List.{AllByRecursion}
use Rattle.std.proofs.lemmas.Bool.{and_parts, and_from}
use Rattle.board_model.specs.declared.scenario.DomainLine.{DomainLine}
use Rattle.board_model.specs.declared.scenario.Scenario.{Scenario}
use Rattle.board_model.specs.Scenario.{Neighbour, neighbours, Lane, lane_to, lanes, rising}
use Rattle.board_model.specs.LinkedBoard.{IsTold, IsLinkedBoard}
use Rattle.board_model.proofs.MessageAlls.{all-append, all-weaken, all-found, found-passes}
use Rattle.board_model.proofs.MessageOnce.{total, total-same, total-map, total-joined}
use Rattle.board_model.proofs.MessageNeighbours.{over_lanes, lanes_total}
use Rattle.board_model.proofs.ListsApart.{all-map, all-unmap, all-joined}
use Rattle.board_model.proofs.WholeHas.{has-weaken, has-found}
use Rattle.board_model.proofs.WholeJoined.{Joined, joined_back, joined_found, found_neighbour, has_lane, lanes_join}
use Rattle.board_model.proofs.BoardsRising.{AreRising, rising-rises, neighbours-rise}
use Rattle.board_model.proofs.BoardsNeighbours.{LeadsTo, joined-leads, domains-few, rising-length, neighbours-few}

-- the lanes that a domain sends on
abbrev lanes_out : Scenario → DomainLine → List Lane
lanes_out s d = map (lane_to d.domain) (neighbours s d)

-- ---- how many

ones : {A : Type 0} (xs : List A) → total (λ x. 1) xs ≡ length xs
ones [] = refl
ones (x ∷ xs) = omega (arith, ones xs)

twos : {A : Type 0} (xs : List A) → total (λ x. 1 + 1) xs ≡ 2 * length xs
twos [] = refl
twos (x ∷ xs) = omega (arith, twos xs)

lanes_over : (s : Scenario) → length (lanes s) ≡ over_lanes (λ a b. 1) s
lanes_over s =
    sym (ones (lanes s)) ∙ total-joined (λ l. 1) (lanes_out s) (rising s)
    ∙ total-same (λ d. total (λ l. 1) (lanes_out s d)) (λ d. total (λ n. 1) (neighbours s d)) (λ d. total-map (λ l. 1) (lane_to d.domain) (neighbours s d)) (rising s)

-- one for each domain, and two for each link
pub lanes-length : (s : Scenario) → IsLinkedBoard s → length (lanes s) ≡ length s.domains + 2 * length s.links
lanes-length s board = omega (arith, lanes_over s, lanes_total (λ a b. 1) s board, ones s.domains, twos s.links)

total_few : {A : Type 0} (f : A → ℕ) (xs : List A) → AllByRecursion (λ x. f x ≤ 8) xs → total f xs ≤ 8 * length xs
total_few f [] all = omega arith
total_few f (x ∷ xs) all = omega (arith, all.0, total_few f xs all.1)

pub lanes-few : (s : Scenario) → IsLinkedBoard s → length (lanes s) ≤ 64
lanes-few s board =
    let out = total-same (λ d. total (λ n. 1) (neighbours s d)) (λ d. length (neighbours s d)) (λ d. ones (neighbours s d)) (rising s) in
    let few = total_few (λ d. length (neighbours s d)) (rising s) (neighbours-few s board) in
    omega (arith, lanes_over s, out, few, rising-length s, domains-few s board)

-- ---- their order

-- by the sender, and then by the receiver
abbrev pub IsBefore : Lane → Lane → Type 0
IsBefore l m = (l.sender < m.sender) ⊎ ((l.sender ≡ m.sender) × (l.receiver < m.receiver))

abbrev pub AreInOrder : List Lane → Type 0
AreInOrder [] = Unit {0}
AreInOrder (l ∷ ls) = AllByRecursion (IsBefore l) ls × AreInOrder ls

order_joined : (ls ms : List Lane) → AreInOrder ls → AreInOrder ms → AllByRecursion (λ l. AllByRecursion (IsBefore l) ms) ls → AreInOrder (ls ++ ms)
order_joined [] ms order rest before = rest
order_joined (l ∷ ls) ms order rest before = (all-append (IsBefore l) ls ms order.0 before.0, order_joined ls ms order.1 rest before.1)

out_order : (d : ℕ) (ns : List Neighbour) → AreRising (map (λ n. n.number) ns) → AreInOrder (map (lane_to d) ns)
out_order d [] rising = tt
out_order d (n ∷ ns) rising =
    (all-map (IsBefore (lane_to d n)) (lane_to d) ns (all-weaken (λ m. n.number < m.number) (λ m. IsBefore (lane_to d n) (lane_to d m)) (λ m less. inr (refl, less)) ns (all-unmap (λ k. n.number < k) (λ m. m.number) ns rising.0)), out_order d ns rising.1)

-- what holds of the sender holds of all lanes that it sends on
out_all : (P : ℕ → Type 0) (d : ℕ) (ns : List Neighbour) → P d → AllByRecursion (λ l. P l.sender) (map (lane_to d) ns)
out_all P d [] here = tt
out_all P d (n ∷ ns) here = (here, out_all P d ns here)

from_order : (s : Scenario) → IsLinkedBoard s → (ds : List DomainLine) → AreRising (map (λ d. d.domain) ds) → AreInOrder (flat_map (lanes_out s) ds)
from_order s board [] rising = tt
from_order s board (d ∷ ds) rising =
    let later : AllByRecursion (λ l. d.domain < l.sender) (flat_map (lanes_out s) ds)
    = all-joined (λ l. d.domain < l.sender) (lanes_out s) ds
    (all-weaken (λ e. d.domain < e.domain) (λ e. AllByRecursion (λ l. d.domain < l.sender) (lanes_out s e)) (λ e less. out_all (λ n. d.domain < n) e.domain (neighbours s e) less) ds (all-unmap (λ n. d.domain < n) (λ e. e.domain) ds rising.0)) in
    order_joined (lanes_out s d) (flat_map (lanes_out s) ds) (out_order d.domain (neighbours s d) (neighbours-rise s board d)) (from_order s board ds rising.1)
    (all-weaken (λ l. AllByRecursion (λ m. l.sender < m.sender) (flat_map (lanes_out s) ds)) (λ l. AllByRecursion (IsBefore l) (flat_map (lanes_out s) ds))
    (λ l below. all-weaken (λ m. l.sender < m.sender) (IsBefore l) (λ m less. inl less) (flat_map (lanes_out s) ds) below) (lanes_out s d)
    (out_all (λ n. AllByRecursion (λ m. n < m.sender) (flat_map (lanes_out s) ds)) d.domain (neighbours s d) later))

pub lanes-in-order : (s : Scenario) → IsLinkedBoard s → AreInOrder (lanes s)
lanes-in-order s board = from_order s board (rising s) (rising-rises s board)

-- ---- each by its ends

-- a lane has 1 to 256 buffers, and both ends are told
pub lanes-fit : (s : Scenario) → IsLinkedBoard s → AllByRecursion (λ l. LeadsTo s l.receiver l.size × IsTold s l.sender) (lanes s)
lanes-fit s board =
    all-weaken (λ l. Joined s l.sender l.receiver l.size) (λ l. LeadsTo s l.receiver l.size × IsTold s l.sender)
    (λ l joined. (joined-leads s board l.sender l.receiver l.size joined, (joined-leads s board l.receiver l.sender l.size (joined_back s l.sender l.receiver l.size joined)).told)) (lanes s) (lanes_join s)

-- there is one lane from a domain to another
pub joined-once : (s : Scenario) → IsLinkedBoard s → (a b x y : ℕ) → Joined s a b x → Joined s a b y → x ≡ y
joined-once s board a b x y one other = go (joined_found s board a b x one)
  where
    same : (o : Option Neighbour) (n m : Neighbour) → o ≡ Some n → o ≡ Some m → n ≡ m
    same o n m e f = cc

    go : ((d : DomainLine) × (find (λ e. e.domain == a) (rising s) ≡ Some d)) → x ≡ y
    go (d, at) =
        let is_a = eqb-true d.domain a (found-passes (λ e. e.domain == a) (rising s) d at) in
        let n = found_neighbour s board a b x d at is_a one in
        let m = found_neighbour s board a b y d at is_a other in
        sym n.2 ∙ ap (λ (k : Neighbour). k.size) (same (find (λ k. k.number == b) (neighbours s d)) n.0 m.0 n.1 m.1) ∙ m.2

abbrev pub lane_between : ℕ → ℕ → Lane → Bool
lane_between a b l = (l.sender == a) && (l.receiver == b)

abbrev lane_of : ℕ → ℕ → ℕ → Lane
lane_of a b size = record { sender = a; receiver = b; size = size }

named : (l : Lane) (a b size : ℕ) → l.sender ≡ a → l.receiver ≡ b → l.size ≡ size → l ≡ lane_of a b size
named l a b size from to sized = ap (λ x. lane_of x l.receiver l.size) from ∙ ap (λ x. lane_of a x l.size) to ∙ ap (λ x. lane_of a b x) sized

found_named : (s : Scenario) → IsLinkedBoard s → (a b size : ℕ) → Joined s a b size → (l : Lane) → find (lane_between a b) (lanes s) ≡ Some l → l ≡ lane_of a b size
found_named s board a b size joined l found =
    let passes = and_parts (l.sender == a) (l.receiver == b) (found-passes (lane_between a b) (lanes s) l found) in
    let from = eqb-true l.sender a passes.0 in
    let to = eqb-true l.receiver b passes.1 in
    let here : Joined s l.sender l.receiver l.size = all-found (λ k. Joined s k.sender k.receiver k.size) (lane_between a b) (lanes s) l (lanes_join s) found in
    named l a b size from to (joined-once s board a b l.size size (subst (λ x. Joined s x b l.size) from (subst (λ x. Joined s l.sender x l.size) to here)) joined)

pub lane-found : (s : Scenario) → IsLinkedBoard s → (a b size : ℕ) → Joined s a b size → find (λ l. (l.sender == a) && (l.receiver == b)) (lanes s) ≡ Some (record { sender = a; receiver = b; size = size })
lane-found s board a b size joined = go (joined_found s board a b size joined)
  where
    some : ((l : Lane) × (find (lane_between a b) (lanes s) ≡ Some l)) → find (lane_between a b) (lanes s) ≡ Some (lane_of a b size)
    some (l, found) = found ∙ ap (λ (m : Lane). Some m) (found_named s board a b size joined l found)

    go : ((d : DomainLine) × (find (λ e. e.domain == a) (rising s) ≡ Some d)) → find (lane_between a b) (lanes s) ≡ Some (lane_of a b size)
    go (d, at) =
        some (has-found (lane_between a b) (lanes s)
        (has-weaken (λ l. (l.sender ≡ a) × (l.receiver ≡ b)) (λ l. lane_between a b l ≡ true) (λ l is. and_from (l.sender == a) (l.receiver == b) (eq-eqb l.sender a is.0) (eq-eqb l.receiver b is.1)) (lanes s)
        (has_lane s board a b size d at (eqb-true d.domain a (found-passes (λ e. e.domain == a) (rising s) d at)) joined)))
