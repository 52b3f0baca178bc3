-- A domain's peers, by the places where they are found.
use Rattle.std.proofs.Common.{◌≡◌, ℕ, true, List, Option, Some, None, map, is_some, refl, sym, ap, ◌∙◌, true≢false}
use Rattle.std.specs.Prelude.{◌==◌, Contains, IsSome, option_and_then, position, slice_get}
use Rattle.board_model.specs.State.{DomainState, Peer, peer_of, place_of_peer}
use Rattle.domain_core.proofs.PeerPlaces.{contained-found, found-contained}
use Rattle.domain_core.proofs.Tables.{position-map}

module _ (s : DomainState) (n : ℕ) where
  abbrev numbers : List ℕ
  numbers = map (λ (p : Peer). p.number) s.peers

  by_number : place_of_peer s n ≡ position (λ m. m == n) numbers
  by_number = position-map (λ (p : Peer). p.number) (λ m. m == n) s.peers

  in_numbers : (o : Option ℕ) → place_of_peer s n ≡ o → is_some o ≡ true → Contains numbers n
  in_numbers None at there = absurd (true≢false (sym there))
  in_numbers (Some i) at there = found-contained numbers n i (sym by_number ∙ at)

  pub found-peer : is_some (place_of_peer s n) ≡ true → Contains numbers n
  found-peer there = in_numbers (place_of_peer s n) refl there

  pub peer-found : Contains numbers n → is_some (place_of_peer s n) ≡ true
  peer-found has = ap (λ (o : Option ℕ). is_some o) by_number ∙ contained-found numbers n has

  pub peer-contained : IsSome (peer_of s n) → Contains numbers n
  peer-contained has = go (place_of_peer s n) refl has
    where
      go : (o : Option ℕ) → place_of_peer s n ≡ o → IsSome (option_and_then (λ i. slice_get s.peers i) o) → Contains numbers n
      go None at none = absurd (true≢false (sym none))
      go (Some i) at there = in_numbers (Some i) at refl
