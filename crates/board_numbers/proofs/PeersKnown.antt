-- A domain knows the neighbours whose numbers its peers have.
use Rattle.std.proofs.Common.{◌≡◌, ℕ, true, List, Option, Some, map, is_some, refl, sym, ap, ◌∙◌}
use Rattle.std.specs.Prelude.{◌==◌, IsSome, find, option_and_then, option_map, position, slice_get}
use Rattle.board_model.specs.Scenario.{Neighbour}
use Rattle.board_model.specs.State.{DomainState, Peer, is_numbered, peer_of, place_of_peer}
use Rattle.board_model.proofs.ListsCounts.{position-tells, some_place}
use Rattle.board_model.proofs.MessageLists.{some-position}
use Rattle.board_model.proofs.ListsMapped.{position-mapped}
use Rattle.board_model.proofs.WholeFinds.{find-mapped}

by_number : (s : DomainState) (n : ℕ) → place_of_peer s n ≡ position (λ m. m == n) (map (λ (p : Peer). p.number) s.peers)
by_number s n = sym (position-mapped (λ (p : Peer). p.number) (λ m. m == n) (is_numbered n) (λ p. refl) s.peers)

pub number_known : (s : DomainState) (n : ℕ) (ns : List Neighbour) (m : Neighbour) → map (λ (p : Peer). p.number) s.peers ≡ map (λ (m : Neighbour). m.number) ns → find (λ m. m.number == n) ns ≡ Some m → IsSome (peer_of s n)
number_known s n ns m same found =
    let placed : is_some (place_of_peer s n) ≡ true =
    ap (λ (o : Option ℕ). is_some o) (by_number s n) ∙ some-position (λ k. k == n) (map (λ (p : Peer). p.number) s.peers) ∙ ap (λ (ks : List ℕ). is_some (find (λ k. k == n) ks)) same
    ∙ ap (λ (o : Option ℕ). is_some o) (find-mapped (λ k. k == n) (λ (x : Neighbour). x.number) ns ∙ ap (option_map (λ (x : Neighbour). x.number)) found) in
    let place = some_place (place_of_peer s n) placed in
    let there = position-tells (is_numbered n) s.peers place.0 place.1 in
    ap (λ (o : Option Peer). is_some o) (ap (option_and_then (λ i. slice_get s.peers i)) place.1 ∙ there.1)
