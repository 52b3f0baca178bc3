-- Digits of lower case are those of the bytes that they spell, and no others spell the same bytes.
use Rattle.std.proofs.Common.{◌≡◌, ℕ, ◌*◌, ◌/◌, Bool, true, false, ◌&&◌, cond, List, [], ◌∷◌, length, Option, Some, bytes_eq, refl, sym, ap, ◌∙◌, arith}
use Rattle.std.specs.Prelude.{nat_le}
use Rattle.std.specs.List.{list_all, flat_map}
use Rattle.std.proofs.lemmas.Bool.{and_parts, and_from}
use Rattle.std.proofs.lemmas.Bool.Decides.{nat_tests, same_from_decides}
use Rattle.std.proofs.lemmas.Slice.Eq.{bytes_eq-Decides}
use Rattle.mc_base.specs.Text.{hex_byte}
use Rattle.board_model.specs.FileWords.{pairs_of}
use Rattle.board_model.proofs.WordHex.{pairs_of-hex}
use Rattle.mc_journal.specs.EntryText.{AreBytes}
use Rattle.mc_journal.specs.Readers.{is_small}
use Rattle.mc_journal.specs.Spelled.{is_lower, bytes_or_none, spelled, AreDigits}
use Rattle.mc_journal.proofs.BytesRead.{pairs-are}
use Rattle.mc_journal.proofs.DigitsRead.{lower_spells}

small_lower : (b : ℕ) → is_lower b ≡ true → is_small b ≡ true
small_lower b lower = go (nat_le 48 b && nat_le b 57) refl lower
  where
    go : (t : Bool) → (nat_le 48 b && nat_le b 57) ≡ t → cond t true (nat_le 97 b && nat_le b 102) ≡ true → is_small b ≡ true
    go true is e = grind (arith, nat_tests)
    go false is e = grind (arith, nat_tests)

all_small : (ds : List ℕ) → list_all is_lower ds ≡ true → list_all is_small ds ≡ true
all_small [] lower = refl
all_small (d ∷ ds) lower =
    let parts = and_parts (is_lower d) (list_all is_lower ds) lower in
    and_from (is_small d) (list_all is_small ds) (small_lower d parts.0) (all_small ds parts.1)

pub digits_back : (ds : List ℕ) → AreDigits ds → flat_map hex_byte (spelled ds) ≡ ds
digits_back ds are =
    let even : length ds ≡ length (spelled ds) * 2 = omega (arith, are.count) in
    let bytes = lower_spells (length (spelled ds)) ds even are.lower in
    let is : spelled ds ≡ bytes.0 = ap bytes_or_none bytes.1 in
    ap (flat_map hex_byte) is ∙ pairs-are ds bytes.0 (all_small ds are.lower) bytes.1

pub same_digits : (ds es : List ℕ) → AreDigits ds → AreDigits es → bytes_eq ds es ≡ bytes_eq (spelled ds) (spelled es)
same_digits ds es one two = go (bytes_eq ds es) refl (bytes_eq (spelled ds) (spelled es)) refl
  where
    go : (t : Bool) → bytes_eq ds es ≡ t → (u : Bool) → bytes_eq (spelled ds) (spelled es) ≡ u → bytes_eq ds es ≡ bytes_eq (spelled ds) (spelled es)
    go true e true f = e ∙ sym f
    go false e false f = e ∙ sym f
    go true e false f =
        let same : spelled ds ≡ spelled es = ap spelled ((bytes_eq-Decides ds es).0 e) in
        let so : bytes_eq (spelled ds) (spelled es) ≡ true = (bytes_eq-Decides (spelled ds) (spelled es)).1 same in
        absurd cc
    go false e true f =
        let same : spelled ds ≡ spelled es = (bytes_eq-Decides (spelled ds) (spelled es)).0 f in
        let digits : ds ≡ es = sym (digits_back ds one) ∙ ap (flat_map hex_byte) same ∙ digits_back es two in
        let so : bytes_eq ds es ≡ true = (bytes_eq-Decides ds es).1 digits in
        absurd cc

pub spelled_bytes : (ds bs : List ℕ) → AreBytes bs → bytes_eq ds (flat_map hex_byte bs) ≡ true → spelled ds ≡ bs
spelled_bytes ds bs bytes e = ap spelled ((bytes_eq-Decides ds (flat_map hex_byte bs)).0 e) ∙ ap bytes_or_none (pairs_of-hex bs bytes)
