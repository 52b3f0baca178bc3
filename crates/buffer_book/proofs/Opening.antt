-- The book in which nothing is held.
use Rattle.std.proofs.Common.{◌≡◌, ℕ, zero, suc, ◌<◌, true, false, cond, List, [], ◌∷◌, replicate, Option, Some, None, refl, ap, ◌∙◌, arith}
use Rattle.std.specs.Prelude.{slice_get, option_map, find, ◌==◌}
use Rattle.mc_base.specs.declared.request.Slot.{Slot}
use Rattle.buffer_book.specs.Book.{IsAway, opening_book, empty_shelf, shelf_of}
use Rattle.buffer_book.proofs.ItemLemmas.{place_of_shelf}

-- ---- the opening book

opening-shelf : (sizes : List (ℕ × ℕ)) (peer : ℕ) → shelf_of (opening_book sizes) peer ≡ option_map empty_shelf (find (λ (x : ℕ × ℕ). x.0 == peer) sizes)
opening-shelf [] peer = refl
opening-shelf (s ∷ sizes) peer =
    elim (s.0 == peer) as (λ b. cond b (Some (empty_shelf s)) (shelf_of (opening_book sizes) peer) ≡ option_map empty_shelf (cond b (Some s) (find (λ (x : ℕ × ℕ). x.0 == peer) sizes))) [
      | true ↦ refl
      | false ↦ opening-shelf sizes peer
    ]

none-at : {X : Type 0} (n i : ℕ) → i < n → slice_get {X = Option X} (replicate n None) i ≡ Some None
none-at zero i within = absurd (omega arith)
none-at (suc n) zero within = refl
none-at (suc n) (suc i) within = none-at n i (omega arith)

-- each buffer is away
pub opening-away : (sizes : List (ℕ × ℕ)) (slot : Slot) (s : ℕ × ℕ) → find (λ (x : ℕ × ℕ). x.0 == slot.peer) sizes ≡ Some s → slot.buffer < s.1 → IsAway (opening_book sizes) slot
opening-away sizes slot s known within =
    ap (place_of_shelf slot.buffer) (opening-shelf sizes slot.peer ∙ ap (option_map empty_shelf) known) ∙ none-at s.1 slot.buffer within
