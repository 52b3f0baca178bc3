-- The stores of a number and of a length, by either half.
use Rattle.std.proofs.Common.{◌≡◌, ◌≢◌, ℕ, ◌%◌, ◌<◌, ◌≤◌, List, length, set, get_or, sym, ap, ◌∙◌, inl, inr, arith, get_or-set_same, mod-lt}
use Rattle.shared_words.specs.declared.rule.Shape.{Shape}
use Rattle.shared_words.specs.declared.view.Role.{Role}
use Rattle.shared_words.specs.declared.view.Staged.{Staged}
use Rattle.shared_words.specs.declared.view.Staged.TheVariants.{NumberRead}
use Rattle.shared_words.specs.declared.view.HalfView.{HalfView}
use Rattle.shared_words.specs.Way.{Way, way_of, Homes}
use Rattle.shared_words.specs.Places.{Holds}
use Rattle.shared_words.specs.Staging.{InOrder, StagedHolds}
use Rattle.shared_words.specs.LastEntries.{HasNumber, HasLength}
use Rattle.shared_words.proofs.WayLemmas.{number_within, len_within, number_not_len, len_place_small}
use Rattle.shared_words.proofs.WordLemmas.{last_number_stored, last_length_stored, range_stored}
use Rattle.shared_words.proofs.Sides.{Sides, some_size, i_hold, store_keeps}

module _ (role : Role) (key : Shape) (words : List ℕ) (homes : Homes) (m y : HalfView) (s : Sides role key words homes m y) where
  abbrev z : ℕ
  z = key.size

  abbrev way : Way
  way = way_of role z

  pub number_here : (i : ℕ) → i ≡ (way_of role key.size).number (length m.written % key.size) → i < length words
  number_here i at = let w = number_within role z (length m.written % z) (mod-lt (length m.written) (some_size role key words homes m y s)) in let c = s.word_count in omega (arith, w, c, at)

  pub len_here : (i id : ℕ) → id < key.size → i ≡ (way_of role key.size).len ((way_of role key.size).len_place (length m.written) id) → i < length words
  len_here i id low at = let w = len_within role z (way.len_place (length m.written) id) (len_place_small role z (length m.written) id low) in let c = s.word_count in omega (arith, w, c, at)

  pub number_stored : (i id : ℕ) (st : Staged) → Holds role key.size m id → i ≡ (way_of role key.size).number (length m.written % key.size) → InOrder role st → ((k : ℕ) → st ≢ NumberRead k)
      → HasNumber st → ((k : ℕ) → HasLength m.staged k → HasLength st k)
      → StagedHolds (way_of role key.size) key.size key.length (set words i id) (Holds role key.size m) (length m.written) st
      → Sides role key (set words i id) homes record m { staged = st } y
  number_stored i id st held at order none_read here same now = let n : ℕ = length m.written in let has = i_hold role key words homes m y s id held in
      store_keeps role key words homes m y s i id id st held (inl at) order none_read now
      (last_number_stored role z words m.written m.staged s.my_way.last_entries st i id (some_size role key words homes m y s) at here same)
      (range_stored role key words m.written s.my_way.in_range i id (number_here i at) (λ p _ _. has.0) (λ k low e. absurd (number_not_len role z (n % z) k low (sym at ∙ e))))

  pub length_stored : (i len id : ℕ) (st : Staged) → Holds role key.size m id → i ≡ (way_of role key.size).len ((way_of role key.size).len_place (length m.written) id) → len ≤ key.length → InOrder role st → ((k : ℕ) → st ≢ NumberRead k)
      → HasLength st id → ((k : ℕ) → HasLength m.staged k → ⊥) → (HasNumber m.staged → HasNumber st)
      → StagedHolds (way_of role key.size) key.size key.length (set words i len) (Holds role key.size m) (length m.written) st
      → Sides role key (set words i len) homes record m { staged = st } y
  length_stored i len id st held at brief order none_read here none_yet same now = let n : ℕ = length m.written in let has = i_hold role key words homes m y s id held in
      store_keeps role key words homes m y s i len id st held (inr at) order none_read now
      (last_length_stored role z words m.written m.staged s.my_way.last_entries st i len id has.0 at here none_yet same)
      (range_stored role key words m.written s.my_way.in_range i len (len_here i id has.0 at) (λ p low e. absurd (number_not_len role z p (way.len_place n id) (len_place_small role z n id has.0) (sym e ∙ at))) (λ k _ _. brief))

  -- what was stored stands where it was stored
  pub stored_here : (i j x : ℕ) → i < length words → i ≡ j → get_or (set words i x) j 0 ≡ x
  stored_here i j x here e = ap (λ (k : ℕ). get_or (set words i x) k 0) (sym e) ∙ get_or-set_same words i x 0 here
