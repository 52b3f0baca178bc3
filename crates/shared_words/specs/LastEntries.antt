-- What stands in the words of a way, taken or not: the last entry that was written there.
-- Source: VIRTIO 1.2, section 2.7: nothing else writes there, and all words but the constants start at 0.
use Rattle.std.specs.Prelude.{◌≡◌, ◌≢◌, ℕ, ◌%◌, ◌<◌, Bool, ◌==◌, suc, List, [], ◌∷◌, length, slice_index, if◌then◌else◌}
use Rattle.shared_words.specs.Entry.{Entry, number_of}
use Rattle.shared_words.specs.Way.{Way}
use Rattle.shared_words.specs.declared.view.Staged.{Staged}
use Rattle.shared_words.specs.declared.view.Staged.TheVariants.{LengthStored, NumberStored, BothStored}

-- the value of the last entry that belongs, and start where none does. n counts the entries before
abbrev pub last_from : (ℕ → Entry → Bool) → (Entry → ℕ) → ℕ → ℕ → List Entry → ℕ
last_from belongs value start n [] = start
last_from belongs value start n (e ∷ es) = last_from belongs value (if belongs n e then value e else start) (suc n) es

abbrev pub last_value : (ℕ → Entry → Bool) → (Entry → ℕ) → List Entry → ℕ
last_value belongs value es = last_from belongs value 0 0 es

-- the number of the last entry at place p
abbrev pub last_number : ℕ → List Entry → ℕ → ℕ
last_number size es p = last_value (λ n e. (n % size) == p) number_of es

-- the length of the last entry whose length stands at k
abbrev pub last_len : Way → List Entry → ℕ → ℕ
last_len way es k = last_value (λ n e. way.len_place n (number_of e) == k) (λ e. e.1) es

-- the word of the next number, or of a length, holds what is staged
abbrev pub HasNumber : Staged → Type 0
HasNumber (NumberStored id) = Unit {0}
HasNumber (BothStored id len) = Unit {0}
HasNumber staged = ⊥

abbrev pub HasLength : Staged → ℕ → Type 0
HasLength (LengthStored id len) x = id ≡ x
HasLength (BothStored id len) x = id ≡ x
HasLength staged x = ⊥

-- the last entries stand in all words of the way but those into which what is staged was stored
pub record LastEntries (way : Way) (size : ℕ) (words : List ℕ) (written : List Entry) (staged : Staged) : Type 0 where
  pub numbers : (p : ℕ) → p < size → (HasNumber staged → p ≢ length written % size) → slice_index words (way.number p) ≡ last_number size written p
  pub lens : (k : ℕ) → k < size → ((id : ℕ) → HasLength staged id → k ≢ way.len_place (length written) id) → slice_index words (way.len k) ≡ last_len way written k
