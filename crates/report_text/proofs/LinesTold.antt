-- What texts tell, line by line: two lines with one text are the same but for the answer of a call.
use Rattle.std.proofs.Common.{◌≡◌, ℕ, ◌+◌, ◌/◌, ◌%◌, ◌^◌, ◌<◌, Bool, true, false, cond, List, [], ◌∷◌, ◌++◌, length, map, take, drop, Option, Some, None, bytes_eq, refl, sym, ap, ap₂, ◌∙◌, arith}
use Rattle.std.specs.Prelude.{decimal, nat_lt, option_map, not, ◌==◌}
use Rattle.std.specs.List.{AllByRecursion, list_all, flat_map}
use Rattle.std.proofs.lemmas.Bool.{and_from}
use Rattle.std.proofs.lemmas.List.{append_cancel_right}
use Rattle.std.proofs.lemmas.Bool.Decides.{nat_tests}
use Rattle.std.proofs.lemmas.Slice.Eq.{bytes_eq-Decides}
use Rattle.mc_base.specs.Text.{hex_digit, hex_byte, hex_text}
use Rattle.board_model.specs.Numerals.{is_other}
use Rattle.board_model.specs.Grammar.{spaced}
use Rattle.board_model.specs.Words.{refusal_text, fate_text}
use Rattle.board_model.specs.WordTables.{refusal_in, fate_in}
use Rattle.board_model.specs.Journal.{agrees, Taken, taken, Line, idle_line, again_line, spin_line, turn_line, back_line, put_line, see_line, take_line, wait_line, call_line}
use Rattle.board_model.specs.Report.{answer_words, line_words, line_text}
use Rattle.board_model.proofs.WordDecimals.{decimal-read}
use Rattle.board_model.proofs.WordsRead.{refusal-read, fate-read}
use Rattle.mc_journal.specs.Readers.{cut_at, both, pair_by, peer_in, count_in, long_in, bytes_in, taken_in, takes, answer_in}
use Rattle.mc_journal.specs.LineForms.{line_in}
use Rattle.mc_journal.proofs.BytesRead.{bytes-are}
use Rattle.mc_journal.proofs.Cuts.{cut-found}
use Rattle.mc_journal.proofs.PartsRead.{decimal-alone, pair_read}
use Rattle.mc_journal.proofs.ResultsRead.{count-read, long-read}
use Rattle.mc_journal.proofs.LinesRead.{line-is, call_spaced}
use Rattle.report_text.specs.TextLines.{moved, first_other}
use Rattle.report_text.proofs.NothingWrong.{none-moved}
use Rattle.report_text.proofs.TurnsDue.{cons-parts}

-- a line but for the answer of a call: `ok 1 66` is the text of two answers
abbrev pub bare : Line → Line
bare (call_line k a) = call_line k agrees
bare other = other

-- ---- digits of bytes

digit-same : (x y : ℕ) → hex_digit x ≡ hex_digit y → x ≡ y
digit-same x y e = go (nat_lt x 10) (nat_lt y 10) refl refl e
  where
    go : (a b : Bool) → nat_lt x 10 ≡ a → nat_lt y 10 ≡ b → cond a (48 + x) (87 + x) ≡ cond b (48 + y) (87 + y) → x ≡ y
    go true true p q e = omega (arith, e)
    go false false p q e = omega (arith, e)
    go true false p q e = let low : x < 10 = grind (arith, nat_tests) in absurd (omega (arith, e, low))
    go false true p q e = let low : y < 10 = grind (arith, nat_tests) in absurd (omega (arith, e, low))

byte-same : (a b : ℕ) → a / 16 ≡ b / 16 → a % 16 ≡ b % 16 → a ≡ b
byte-same a b high low = omega (arith, high, low)

bytes-same : (cs bs : List ℕ) → flat_map hex_byte cs ≡ flat_map hex_byte bs → cs ≡ bs
bytes-same [] [] e = refl
bytes-same [] (b ∷ bs) e = absurd cc
bytes-same (a ∷ cs) [] e = absurd cc
bytes-same (a ∷ cs) (b ∷ bs) e =
    let one = cons-parts (hex_digit (a / 16)) (hex_digit (b / 16)) (hex_digit (a % 16) ∷ flat_map hex_byte cs) (hex_digit (b % 16) ∷ flat_map hex_byte bs) e in
    let two = cons-parts (hex_digit (a % 16)) (hex_digit (b % 16)) (flat_map hex_byte cs) (flat_map hex_byte bs) one.1 in
    ap₂ (λ (x : ℕ) (xs : List ℕ). x ∷ xs) (byte-same a b (digit-same (a / 16) (b / 16) one.0) (digit-same (a % 16) (b % 16) two.0)) (bytes-same cs bs two.1)

no_dash : (b : ℕ) (bs : List ℕ) → 45 ∷ [] ≡ hex_text (b ∷ bs) → ⊥
no_dash b bs e = let none = cons-parts 45 (hex_digit (b / 16)) [] (hex_digit (b % 16) ∷ flat_map hex_byte bs) e in let n = none.1 in absurd cc

hex-same : (cs bs : List ℕ) → hex_text cs ≡ hex_text bs → cs ≡ bs
hex-same [] [] e = refl
hex-same [] (b ∷ bs) e = absurd (no_dash b bs e)
hex-same (a ∷ cs) [] e = absurd (no_dash a cs (sym e))
hex-same (a ∷ cs) (b ∷ bs) e = bytes-same (a ∷ cs) (b ∷ bs) e

digit-other : (x : ℕ) → is_other 32 (hex_digit x) ≡ true
digit-other x = go (nat_lt x 10)
  where
    go : (a : Bool) → is_other 32 (cond a (48 + x) (87 + x)) ≡ true
    go true = let differs : (48 + x == 32) ≡ false = grind (arith, nat_tests) in ap not differs
    go false = let differs : (87 + x == 32) ≡ false = grind (arith, nat_tests) in ap not differs

digits-alone : (bs : List ℕ) → list_all (is_other 32) (flat_map hex_byte bs) ≡ true
digits-alone [] = refl
digits-alone (b ∷ bs) =
    and_from (is_other 32 (hex_digit (b / 16))) (list_all (is_other 32) (hex_digit (b % 16) ∷ flat_map hex_byte bs)) (digit-other (b / 16))
    (and_from (is_other 32 (hex_digit (b % 16))) (list_all (is_other 32) (flat_map hex_byte bs)) (digit-other (b % 16)) (digits-alone bs))

pub hex-alone : (bs : List ℕ) → list_all (is_other 32) (hex_text bs) ≡ true
hex-alone [] = refl
hex-alone (b ∷ bs) = digits-alone (b ∷ bs)

-- what is read of a frame's text is the frame
hex-told : (frame : List ℕ) (o : Option (List ℕ)) → bytes_in (hex_text frame) ≡ o → (bs : List ℕ) → o ≡ Some bs → bs ≡ frame
hex-told frame o is bs e = hex-same bs frame (bytes-are (hex_text frame) bs (is ∙ e))

-- ---- a line's numbers are in range

abbrev pub IsSmall : Line → Type 0
IsSmall (idle_line n) = n < 2 ^ 64
IsSmall (again_line word) = Unit {0}
IsSmall (spin_line n word) = n < 2 ^ 64
IsSmall turn_line = Unit {0}
IsSmall (back_line p n) = (p < 2 ^ 8) × (n < 2 ^ 32)
IsSmall (put_line p frame) = p < 2 ^ 8
IsSmall (see_line p n) = (p < 2 ^ 8) × (n < 2 ^ 32)
IsSmall (take_line p frame fate) = p < 2 ^ 8
IsSmall (wait_line k) = k < 2 ^ 32
IsSmall (call_line k a) = k < 2 ^ 32

peer-read : (n : ℕ) → n < 2 ^ 8 → peer_in (decimal n) ≡ Some n
peer-read n small = decimal-read 255 n (omega (arith, small)) (omega arith)

peer-alone : (n : ℕ) → n < 2 ^ 8 → list_all (is_other 32) (decimal n) ≡ true
peer-alone n small = decimal-alone n (omega (arith, small))

some-line : (l m : Line) → Some l ≡ Some m → l ≡ m
some-line l m e = cc

one-line : (l m : Line) (o : Option Line) → o ≡ Some m → o ≡ Some l → bare l ≡ bare m
one-line l m o is e = ap bare (some-line l m (sym e ∙ is))

-- two parts, of which the first is known
pub pair-told : {A B C : Type 0} (first : List ℕ → Option A) (second : List ℕ → Option B) (make : A → B → C) (u v : List ℕ) (a : A) (c : C)
    → list_all (is_other 32) u ≡ true → first u ≡ Some a → pair_by first second make (cut_at 32 (u ++ 32 ∷ v)) ≡ Some c → (b : B) × (second v ≡ Some b) × (make a b ≡ c)
pair-told {B = B} {C = C} first second make u v a c alone is e = go (second v) refl (sym (ap (pair_by first second make) (cut-found 32 u v alone) ∙ ap (λ x. both make x (second v)) is) ∙ e)
  where
    go : (o : Option B) → second v ≡ o → both make (Some a) o ≡ Some c → (b : B) × (second v ≡ Some b) × (make a b ≡ c)
    go None h k = absurd cc
    go (Some b) h k = let same : make a b ≡ c = some-is (make a b) c k in (b, h, same)
      where
        some-is : (x y : C) → Some x ≡ Some y → x ≡ y
        some-is x y e = cc

pub told-bare : (m l : Line) → IsSmall m → line_in (spaced (line_words m)) ≡ Some l → bare l ≡ bare m
told-bare (idle_line n) l small e = one-line l (idle_line n) _ (ap (option_map idle_line) (long-read n small)) e
told-bare (again_line word) l small e = one-line l (again_line word) _ (ap (option_map again_line) (refusal-read word)) e
told-bare (spin_line n word) l small e = one-line l (spin_line n word) _ (pair_read long_in refusal_in spin_line (decimal n) (refusal_text word) n word (decimal-alone n small) (long-read n small) (refusal-read word)) e
told-bare turn_line l small e = one-line l turn_line (Some turn_line) refl e
told-bare (back_line p n) l small e = one-line l (back_line p n) _ (pair_read peer_in count_in back_line (decimal p) (decimal n) p n (peer-alone p small.0) (peer-read p small.0) (count-read n small.1)) e
told-bare (put_line p frame) l small e =
    let t = pair-told peer_in bytes_in put_line (decimal p) (hex_text frame) p l (peer-alone p small) (peer-read p small) e in
    ap bare (sym t.2 ∙ ap (put_line p) (hex-told frame (bytes_in (hex_text frame)) refl t.0 t.1))
told-bare (see_line p n) l small e = one-line l (see_line p n) _ (pair_read peer_in count_in see_line (decimal p) (decimal n) p n (peer-alone p small.0) (peer-read p small.0) (count-read n small.1)) e
told-bare (take_line p frame fate) l small e =
    let t = pair-told peer_in taken_in takes (decimal p) (hex_text frame ++ 32 ∷ fate_text fate) p l (peer-alone p small) (peer-read p small) e in
    let u = taken-told t.0 t.1 in
    ap bare (sym t.2 ∙ ap (takes p) u)
  where
    taken-told : (x : Taken) → taken_in (hex_text frame ++ 32 ∷ fate_text fate) ≡ Some x → x ≡ taken frame fate
    taken-told x e = go (bytes_in (hex_text frame)) refl (sym (ap (pair_by bytes_in fate_in taken) (cut-found 32 (hex_text frame) (fate_text fate) (hex-alone frame)) ∙ ap (both taken (bytes_in (hex_text frame))) (fate-read fate)) ∙ e)
      where
        go : (o : Option (List ℕ)) → bytes_in (hex_text frame) ≡ o → both taken o (Some fate) ≡ Some x → x ≡ taken frame fate
        go None is e = absurd cc
        go (Some bs) is e = let same : taken bs fate ≡ x = some-taken (taken bs fate) x e in sym same ∙ ap (λ f. taken f fate) (hex-told frame (Some bs) is bs refl)
          where
            some-taken : (a b : Taken) → Some a ≡ Some b → a ≡ b
            some-taken a b e = cc
told-bare (wait_line k) l small e = one-line l (wait_line k) _ (ap (option_map wait_line) (count-read k small)) e
told-bare (call_line k a) l small e =
    let t = pair-told count_in answer_in call_line (decimal k) (spaced (answer_words a)) k l (decimal-alone k (omega (arith, small))) (count-read k small) (sym (ap line_in (call_spaced k a)) ∙ e) in
    sym (ap bare t.2)

-- ---- texts and the lines that they tell

abbrev pub IsText : List ℕ → Line → Type 0
IsText t l = (x : List ℕ) × (t ≡ x ++ 10 ∷ []) × (line_in x ≡ Some l)

abbrev pub Tell : List (List ℕ) → List Line → Type 0
Tell [] [] = Unit {0}
Tell [] (l ∷ ls) = ⊥
Tell (t ∷ ts) [] = ⊥
Tell (t ∷ ts) (l ∷ ls) = IsText t l × Tell ts ls

-- the lines told are those whose texts these are, but for answers
pub tell-bare : (ts : List (List ℕ)) (ls ms : List Line) → Tell ts ls → first_other ts (map line_text ms) ≡ None → AllByRecursion IsSmall ms → map bare ls ≡ map bare ms
tell-bare [] [] [] tell e small = refl
tell-bare [] [] (m ∷ ms) tell e small = absurd cc
tell-bare [] (l ∷ ls) ms tell e small = absurd tell
tell-bare (t ∷ ts) [] ms tell e small = absurd tell
tell-bare (t ∷ ts) (l ∷ ls) [] tell e small = absurd cc
tell-bare (t ∷ ts) (l ∷ ls) (m ∷ ms) tell e small = go (bytes_eq t (line_text m)) refl e (λ k. tell-bare ts ls ms tell.1 k small.1)
  where
    go : (b : Bool) → bytes_eq t (line_text m) ≡ b → cond b (moved 1 (first_other ts (map line_text ms))) (Some 0) ≡ None → (first_other ts (map line_text ms) ≡ None → map bare ls ≡ map bare ms) → map bare (l ∷ ls) ≡ map bare (m ∷ ms)
    go true is e rest =
        let text : t ≡ line_text m = (bytes_eq-Decides t (line_text m)).0 is in
        let front : tell.0.0 ≡ spaced (line_words m) = append_cancel_right tell.0.0 (spaced (line_words m)) (10 ∷ []) (sym tell.0.1 ∙ text) in
        ap₂ (λ (k : Line) (ks : List Line). k ∷ ks) (told-bare m l small.0 (ap line_in (sym front) ∙ tell.0.2)) (rest (none-moved 1 (first_other ts (map line_text ms)) e))
    go false is e rest = absurd cc

-- they are the texts of the lines that they tell
pub tell-texts : (ts : List (List ℕ)) (ls : List Line) → Tell ts ls → ts ≡ map line_text ls
tell-texts [] [] tell = refl
tell-texts [] (l ∷ ls) tell = absurd tell
tell-texts (t ∷ ts) [] tell = absurd tell
tell-texts (t ∷ ts) (l ∷ ls) tell = ap₂ (λ (x : List ℕ) (xs : List (List ℕ)). x ∷ xs) (tell.0.1 ∙ ap (λ x. x ++ 10 ∷ []) (sym (line-is tell.0.0 l tell.0.2))) (tell-texts ts ls tell.1)

pub texts-same : (ts us : List (List ℕ)) → first_other ts us ≡ None → ts ≡ us
texts-same [] [] e = refl
texts-same [] (u ∷ us) e = absurd cc
texts-same (t ∷ ts) [] e = absurd cc
texts-same (t ∷ ts) (u ∷ us) e = go (bytes_eq t u) refl e (λ k. texts-same ts us k)
  where
    go : (b : Bool) → bytes_eq t u ≡ b → cond b (moved 1 (first_other ts us)) (Some 0) ≡ None → (first_other ts us ≡ None → ts ≡ us) → t ∷ ts ≡ u ∷ us
    go true is e rest = ap₂ (λ (x : List ℕ) (xs : List (List ℕ)). x ∷ xs) ((bytes_eq-Decides t u).0 is) (rest (none-moved 1 (first_other ts us) e))
    go false is e rest = absurd cc

pub first-same : (ls : List (List ℕ)) → first_other ls ls ≡ None
first-same [] = refl
first-same (l ∷ ls) = ap (λ (b : Bool). cond b (moved 1 (first_other ls ls)) (Some 0)) ((bytes_eq-Decides l l).1 refl) ∙ ap (moved 1) (first-same ls)

pub tell-take : (ts : List (List ℕ)) (cs bs : List Line) → Tell ts (cs ++ bs) → Tell (take (length cs) ts) cs
tell-take ts [] bs tell = tt
tell-take [] (a ∷ cs) bs tell = absurd tell
tell-take (t ∷ ts) (a ∷ cs) bs tell = (tell.0, tell-take ts cs bs tell.1)

pub tell-drop : (ts : List (List ℕ)) (cs bs : List Line) → Tell ts (cs ++ bs) → Tell (drop (length cs) ts) bs
tell-drop ts [] bs tell = tell
tell-drop [] (a ∷ cs) bs tell = absurd tell
tell-drop (t ∷ ts) (a ∷ cs) bs tell = tell-drop ts cs bs tell.1
