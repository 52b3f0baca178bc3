-- Reading a hexadecimal text byte by byte.
use Rattle.std.proofs.Common.{◌≡◌, ℕ, ◌+◌, ◌*◌, ◌%◌, ◌<◌, Bool, true, false, not, ◌||◌, List, [], ◌∷◌, ◌++◌, length, Option, Some, None, refl, sym, subst, ap, ◌∙◌, append_assoc, arith, is_some}
use Rattle.std.specs.Prelude.{IfSome}
use Rattle.std.specs.List.{position_from}
use Rattle.std.proofs.lemmas.Iterator.Adapters.{position_from-zero}
use Rattle.board_model.specs.FileWords.{digit_value}
use Rattle.scenario_cli.specs.Hex.{is_blank, values_in, bytes_of_values, bytes_spelled, bad_place}
use Rattle.scenario_cli.specs.HexFault.{TakesDigit}

-- the bytes that digits spell after the value of a digit that waits
abbrev pub spelled_after : Option ℕ → List ℕ → List ℕ
spelled_after None values = bytes_of_values values
spelled_after (Some high) [] = []
spelled_after (Some high) (low ∷ values) = (16 * high + low) ∷ bytes_of_values values

abbrev pub waiting : Option ℕ → ℕ
waiting None = 0
waiting (Some high) = 1

abbrev pub is_bad : ℕ → Bool
is_bad b = not (is_some (digit_value b) || is_blank b)

-- the bytes so far and what the rest spells are those of the text
pub record Reading (text bytes rest : List ℕ) (place : ℕ) (high : Option ℕ) : Type 0 where
  pub spelled : bytes ++ spelled_after high (values_in rest) ≡ bytes_spelled text
  pub count : (waiting high + length (values_in rest)) % 2 ≡ length (values_in text) % 2
  pub bad : position_from is_bad place rest ≡ bad_place text
  pub small : IfSome high (λ h. h < 16)

-- nothing was read
pub begins : (text : List ℕ) → Reading text [] text 0 None
begins text = record { spelled = refl; count = omega arith; bad = sym (position_from-zero is_bad text); small = tt }

values-skip : (x : ℕ) (rest : List ℕ) → digit_value x ≡ None → values_in (x ∷ rest) ≡ values_in rest
values-skip x rest other = rw other refl

values-next : (x v : ℕ) (rest : List ℕ) → digit_value x ≡ Some v → values_in (x ∷ rest) ≡ v ∷ values_in rest
values-next x v rest digit = rw digit refl

good-next : (x place : ℕ) (rest : List ℕ) → is_bad x ≡ false → position_from is_bad place (x ∷ rest) ≡ position_from is_bad (place + 1) rest
good-next x place rest good = rw good refl

-- the first digit of a byte waits for the second
first_waits : (v : ℕ) (values : List ℕ) → bytes_of_values (v ∷ values) ≡ spelled_after (Some v) values
first_waits v [] = refl
first_waits v (low ∷ values) = refl

good-blank : (x : ℕ) → digit_value x ≡ None → is_blank x ≡ true → is_bad x ≡ false
good-blank x other blank = ap (λ (o : Option ℕ). not (is_some o || is_blank x)) other ∙ ap not blank

good-digit : (x v : ℕ) → digit_value x ≡ Some v → is_bad x ≡ false
good-digit x v digit = ap (λ (o : Option ℕ). not (is_some o || is_blank x)) digit

-- a blank is passed over
pub after_blank : (text bytes rest : List ℕ) (place x : ℕ) (high : Option ℕ) → digit_value x ≡ None → is_blank x ≡ true → Reading text bytes (x ∷ rest) place high → Reading text bytes rest (place + 1) high
after_blank text bytes rest place x high other blank so_far =
    let skip = values-skip x rest other in
    record {
      spelled = ap (λ (vs : List ℕ). bytes ++ spelled_after high vs) (sym skip) ∙ so_far.spelled;
      count = ap (λ (vs : List ℕ). (waiting high + length vs) % 2) (sym skip) ∙ so_far.count;
      bad = sym (good-next x place rest (good-blank x other blank)) ∙ so_far.bad;
      small = so_far.small;
    }

first_digit : (text bytes rest : List ℕ) (place x v : ℕ) → digit_value x ≡ Some v → v < 16 → Reading text bytes (x ∷ rest) place None → Reading text bytes rest (place + 1) (Some v)
first_digit text bytes rest place x v digit small so_far =
    let next = values-next x v rest digit in
    record {
      spelled = ap (λ (bs : List ℕ). bytes ++ bs) (sym (first_waits v (values_in rest))) ∙ ap (λ (vs : List ℕ). bytes ++ bytes_of_values vs) (sym next) ∙ so_far.spelled;
      count = omega (arith, ap (λ (vs : List ℕ). length vs) next, so_far.count);
      bad = sym (good-next x place rest (good-digit x v digit)) ∙ so_far.bad;
      small = small;
    }

second_digit : (text bytes rest : List ℕ) (place x v high : ℕ) → digit_value x ≡ Some v → Reading text bytes (x ∷ rest) place (Some high) → Reading text (bytes ++ (16 * high + v) ∷ []) rest (place + 1) None
second_digit text bytes rest place x v high digit so_far =
    let next = values-next x v rest digit in
    record {
      spelled = append_assoc bytes ((16 * high + v) ∷ []) (bytes_of_values (values_in rest)) ∙ ap (λ (vs : List ℕ). bytes ++ spelled_after (Some high) vs) (sym next) ∙ so_far.spelled;
      count = omega (arith, ap (λ (vs : List ℕ). length vs) next, so_far.count);
      bad = sym (good-next x place rest (good-digit x v digit)) ∙ so_far.bad;
      small = tt;
    }

-- a digit is taken
pub after_digit : (text old new rest : List ℕ) (place x v : ℕ) (high left : Option ℕ) → digit_value x ≡ Some v → v < 16 → TakesDigit old high v new left → Reading text old (x ∷ rest) place high → Reading text new rest (place + 1) left
after_digit text old new rest place x v None left digit small takes so_far =
    let made = first_digit text old rest place x v digit small so_far in
    subst (λ (o : Option ℕ). Reading text new rest (place + 1) o) (sym takes.1) (subst (λ (bs : List ℕ). Reading text bs rest (place + 1) (Some v)) (sym takes.0) made)
after_digit text old new rest place x v (Some high) left digit small takes so_far =
    let made = second_digit text old rest place x v high digit so_far in
    subst (λ (o : Option ℕ). Reading text new rest (place + 1) o) (sym takes.1) (subst (λ (bs : List ℕ). Reading text bs rest (place + 1) None) (sym takes.0) made)
