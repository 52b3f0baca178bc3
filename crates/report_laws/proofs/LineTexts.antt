-- A line that is read from another's text is that line, but for the answer of a call, whatever the numbers are.
use Rattle.std.proofs.Common.{◌≡◌, ◌⊎◌, inl, inr, ℕ, ◌^◌, ◌<◌, ◌≤◌, true, List, [], ◌∷◌, ◌++◌, map, Option, Some, refl, sym, ap, ap₂, ◌∙◌, arith}
use Rattle.std.specs.Prelude.{codes, decimal}
use Rattle.std.specs.List.{list_all}
use Rattle.std.proofs.lemmas.List.{append_cancel_right}
use Rattle.mc_base.specs.Text.{hex_text}
use Rattle.mc_base.specs.declared.fate.Fate.{Fate}
use Rattle.board_model.specs.FileWords.{number_of}
use Rattle.board_model.specs.Numerals.{is_other, at_most}
use Rattle.board_model.specs.Grammar.{spaced}
use Rattle.board_model.specs.Words.{refusal_text, fate_text}
use Rattle.board_model.specs.WordTables.{refusal_in, fate_in}
use Rattle.board_model.specs.Journal.{Taken, taken, PlainAnswer, tells, Line, idle_line, again_line, spin_line, turn_line, back_line, put_line, see_line, take_line, wait_line, call_line}
use Rattle.board_model.specs.Report.{answer_words, line_words, line_text}
use Rattle.board_model.proofs.WordDecimals.{decimal-is, decimal-read, within_is}
use Rattle.board_model.proofs.WordsRead.{refusal-read, fate-read}
use Rattle.mc_journal.specs.Readers.{cut_at, pair_by, peer_in, count_in, long_in, bytes_in, taken_in, takes, answer_in}
use Rattle.mc_journal.specs.LineForms.{line_in}
use Rattle.mc_journal.proofs.Cuts.{cut-found}
use Rattle.mc_journal.proofs.LinesRead.{line-is, call_spaced}
use Rattle.mc_journal.proofs.PartsRead.{map_gives, both_give, pair_read}
use Rattle.report_text.proofs.KindsTold.{decimal-alone, number-same}
use Rattle.report_text.proofs.LinesTold.{Tell, hex-alone, told-bare}
use Rattle.report_text.proofs.TurnsDue.{cons-parts}

-- ---- numbers, words and frames

number-told : (most n m : ℕ) → most < 2 ^ 64 → at_most most (number_of (decimal n)) ≡ Some m → m ≡ n
number-told most n m small e =
    let low : m ≤ most = (within_is most m (decimal n) e).0 in
    sym (number-same (tells n) (tells m) (omega (arith, low, small)) (ap (λ xs. codes "ok " ++ xs) (sym (decimal-is most m (decimal n) small e))))

word-told : {A : Type 0} (x y : A) (o : Option A) → o ≡ Some x → o ≡ Some y → y ≡ x
word-told x y o is e = let same : Some y ≡ Some x = sym e ∙ is in cc

abbrev frame-of : Line → List ℕ
frame-of (put_line p frame) = frame
frame-of other = []

frame-told : (frame bs : List ℕ) → bytes_in (hex_text frame) ≡ Some bs → bs ≡ frame
frame-told frame bs e = ap frame-of (told-bare (put_line 0 frame) (put_line 0 bs) (omega arith) (pair_read peer_in bytes_in put_line (decimal 0) (hex_text frame) 0 bs (decimal-alone 0) (decimal-read 255 0 (omega arith) (omega arith)) e))

-- ---- two parts

record TwoParts {A B C : Type 0} (first : List ℕ → Option A) (second : List ℕ → Option B) (make : A → B → C) (u v : List ℕ) (c : C) : Type 0 where
  front : A
  back : B
  front_is : first u ≡ Some front
  back_is : second v ≡ Some back
  made : make front back ≡ c

two-parts : {A B C : Type 0} (first : List ℕ → Option A) (second : List ℕ → Option B) (make : A → B → C) (u v : List ℕ) (c : C) → list_all (is_other 32) u ≡ true → pair_by first second make (cut_at 32 (u ++ 32 ∷ v)) ≡ Some c → TwoParts first second make u v c
two-parts first second make u v c one e =
    both_give make (first u) (second v) (TwoParts first second make u v) (λ a b h k. record { front = a; back = b; front_is = h; back_is = k; made = refl }) c (sym (ap (pair_by first second make) (cut-found 32 u v one)) ∙ e)

taken-told : (frame : List ℕ) (fate : Fate) (x : Taken) → taken_in (hex_text frame ++ 32 ∷ fate_text fate) ≡ Some x → x ≡ taken frame fate
taken-told frame fate x e =
    let p = two-parts bytes_in fate_in taken (hex_text frame) (fate_text fate) x (hex-alone frame) e in
    sym p.made ∙ ap₂ taken (frame-told frame p.front p.front_is) (word-told fate p.back (fate_in (fate_text fate)) (fate-read fate) p.back_is)

-- ---- lines with one text

-- the line that is read, and the one whose text it is
pub record CallsAlike (l m : Line) : Type 0 where
  pub number : ℕ
  pub told : PlainAnswer
  pub answer : PlainAnswer
  pub read : l ≡ call_line number told
  pub written : m ≡ call_line number answer
  pub text : line_text (call_line number told) ≡ line_text (call_line number answer)

abbrev pub OneText : Line → Line → Type 0
OneText l m = (l ≡ m) ⊎ CallsAlike l m

text-one : (m l : Line) → line_in (spaced (line_words m)) ≡ Some l → OneText l m
text-one (idle_line n) l e = map_gives idle_line (long_in (decimal n)) (λ k. OneText k (idle_line n)) (λ x h. inl (ap idle_line (number-told 18446744073709551615 n x (omega arith) h))) l e
text-one (again_line word) l e = map_gives again_line (refusal_in (refusal_text word)) (λ k. OneText k (again_line word)) (λ x h. inl (ap again_line (word-told word x (refusal_in (refusal_text word)) (refusal-read word) h))) l e
text-one (spin_line n word) l e =
    let p = two-parts long_in refusal_in spin_line (decimal n) (refusal_text word) l (decimal-alone n) e in
    inl (sym p.made ∙ ap₂ spin_line (number-told 18446744073709551615 n p.front (omega arith) p.front_is) (word-told word p.back (refusal_in (refusal_text word)) (refusal-read word) p.back_is))
text-one turn_line l e = let same : turn_line ≡ l = cc in inl (sym same)
text-one (back_line q n) l e =
    let p = two-parts peer_in count_in back_line (decimal q) (decimal n) l (decimal-alone q) e in
    inl (sym p.made ∙ ap₂ back_line (number-told 255 q p.front (omega arith) p.front_is) (number-told 4294967295 n p.back (omega arith) p.back_is))
text-one (put_line q frame) l e =
    let p = two-parts peer_in bytes_in put_line (decimal q) (hex_text frame) l (decimal-alone q) e in
    inl (sym p.made ∙ ap₂ put_line (number-told 255 q p.front (omega arith) p.front_is) (frame-told frame p.back p.back_is))
text-one (see_line q n) l e =
    let p = two-parts peer_in count_in see_line (decimal q) (decimal n) l (decimal-alone q) e in
    inl (sym p.made ∙ ap₂ see_line (number-told 255 q p.front (omega arith) p.front_is) (number-told 4294967295 n p.back (omega arith) p.back_is))
text-one (take_line q frame fate) l e =
    let p = two-parts peer_in taken_in takes (decimal q) (hex_text frame ++ 32 ∷ fate_text fate) l (decimal-alone q) e in
    inl (sym p.made ∙ ap₂ takes (number-told 255 q p.front (omega arith) p.front_is) (taken-told frame fate p.back p.back_is))
text-one (wait_line k) l e = map_gives wait_line (count_in (decimal k)) (λ x. OneText x (wait_line k)) (λ x h. inl (ap wait_line (number-told 4294967295 k x (omega arith) h))) l e
text-one (call_line k a) l e =
    let p = two-parts count_in answer_in call_line (decimal k) (spaced (answer_words a)) l (decimal-alone k) (sym (ap line_in (call_spaced k a)) ∙ e) in
    let is : l ≡ call_line k p.back = sym p.made ∙ ap (λ n. call_line n p.back) (number-told 4294967295 k p.front (omega arith) p.front_is) in
    inr (record {
      number = k;
      told = p.back;
      answer = a;
      read = is;
      written = refl;
      text = ap line_text (sym is) ∙ ap (λ xs. xs ++ 10 ∷ []) (line-is (spaced (line_words (call_line k a))) l e);
    })

-- ---- and the lines that texts tell

abbrev pub HaveOneText : List Line → List Line → Type 0
HaveOneText [] [] = Unit {0}
HaveOneText (l ∷ ls) (m ∷ ms) = OneText l m × HaveOneText ls ms
HaveOneText ls ms = ⊥

pub texts-one : (ts : List (List ℕ)) (ls ms : List Line) → Tell ts ls → ts ≡ map line_text ms → HaveOneText ls ms
texts-one [] [] [] tell e = tt
texts-one [] [] (m ∷ ms) tell e = absurd cc
texts-one [] (l ∷ ls) ms tell e = absurd tell
texts-one (t ∷ ts) [] ms tell e = absurd tell
texts-one (t ∷ ts) (l ∷ ls) [] tell e = absurd cc
texts-one (t ∷ ts) (l ∷ ls) (m ∷ ms) tell e =
    let parts = cons-parts t (line_text m) ts (map line_text ms) e in
    let front : tell.0.0 ≡ spaced (line_words m) = append_cancel_right tell.0.0 (spaced (line_words m)) (10 ∷ []) (sym tell.0.1 ∙ parts.0) in
    (text-one m l (ap line_in (sym front) ∙ tell.0.2), texts-one ts ls ms tell.1 parts.1)
