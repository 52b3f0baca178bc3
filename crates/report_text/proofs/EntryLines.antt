-- What is read as a line of a journal is the line of an entry: its numbers are in range, and its bytes are bytes.
use Rattle.std.proofs.Common.{◌≡◌, ℕ, ◌+◌, ◌-◌, ◌*◌, ◌^◌, ◌<◌, ◌≤◌, ◌&&◌, List, [], ◌∷◌, length, Option, Some, None, bytes_eq, refl, subst, arith}
use Rattle.std.specs.Prelude.{codes, nat_le, ◌==◌, option_map}
use Rattle.std.specs.List.{list_all}
use Rattle.std.proofs.lemmas.Bool.Decides.{nat_tests}
use Rattle.board_model.specs.FileWords.{digit_value, byte_and, pairs_of, is_dash}
use Rattle.board_model.specs.WordTables.{refusal_in, fate_in, reason_in}
use Rattle.board_model.specs.Journal.{Taken, taken, PlainResult, found_at, was_accepted, was_rejected, ended_by, PlainAnswer, refuses, agrees, tells, connects, completes, Line, idle_line, again_line, spin_line, turn_line, back_line, put_line, see_line, wait_line, call_line}
use Rattle.board_model.proofs.WordDecimals.{within_is}
use Rattle.mc_journal.specs.declared.forms.Form.{Form}
use Rattle.mc_journal.specs.declared.forms.Form.TheVariants as form
use Rattle.mc_journal.specs.EntryText.{AreBytes, FitsResult, FitsAnswer, IsEntryLine}
use Rattle.mc_journal.specs.Readers.{cut_at, both, pair_in, peer_in, count_in, long_in, bytes_in, is_small, sized, is_cut, is_whole, give, bring, cut_in, whole_in, result_word, result_after, place_in, placed_by, done_after, done_by, done_in, ok_by, ok_in, answer_word, answer_after, answer_by, answer_in, taken_in, takes, rest_in}
use Rattle.mc_journal.specs.LineForms.{form_in, by_form, line_by, line_in}
use Rattle.mc_journal.proofs.PartsRead.{if_gives, map_gives, both_give, or_gives, only_gives, pair_gives}

peer-fits : (n : ℕ) (word : List ℕ) → peer_in word ≡ Some n → n < 2 ^ 8
peer-fits n word e = let w = within_is 255 n word e in omega (arith, w.0)

count-fits : (n : ℕ) (word : List ℕ) → count_in word ≡ Some n → n < 2 ^ 32
count-fits n word e = let w = within_is 4294967295 n word e in omega (arith, w.0)

long-fits : (n : ℕ) (word : List ℕ) → long_in word ≡ Some n → n < 2 ^ 64
long-fits n word e = let w = within_is 18446744073709551615 n word e in omega (arith, w.0)

-- ---- bytes

digit-fits : (b v : ℕ) → digit_value b ≡ Some v → v < 16
digit-fits b v e =
    if_gives (nat_le 48 b && nat_le b 57) (Some (b - 48)) _ (λ v. v < 16)
    (λ is v e. let same : b - 48 ≡ v = cc in let high : b ≤ 57 = grind (arith, nat_tests) in omega (arith, same, high))
    (λ _. if_gives (nat_le 97 b && nat_le b 102) (Some (b - 87)) _ (λ v. v < 16)
    (λ is v e. let same : b - 87 ≡ v = cc in let high : b ≤ 102 = grind (arith, nat_tests) in omega (arith, same, high))
    (λ _. if_gives (nat_le 65 b && nat_le b 70) (Some (b - 55)) None (λ v. v < 16)
    (λ is v e. let same : b - 55 ≡ v = cc in let high : b ≤ 70 = grind (arith, nat_tests) in omega (arith, same, high))
    (λ _ v e. absurd cc)))
    v e

byte_and-fits : (o p : Option ℕ) (q : Option (List ℕ)) (bs : List ℕ) → ((v : ℕ) → o ≡ Some v → v < 16) → ((v : ℕ) → p ≡ Some v → v < 16) → ((cs : List ℕ) → q ≡ Some cs → AreBytes cs) → byte_and o p q ≡ Some bs → AreBytes bs
byte_and-fits (Some h) (Some l) (Some cs) bs high low rest e =
    let same : (h * 16 + l) ∷ cs ≡ bs = cc in
    let less : h < 16 = high h refl in
    let lower : l < 16 = low l refl in
    subst AreBytes same (omega (arith, less, lower), rest cs refl)
byte_and-fits None p q bs high low rest e = absurd cc
byte_and-fits (Some h) None q bs high low rest e = absurd cc
byte_and-fits (Some h) (Some l) None bs high low rest e = absurd cc

pairs-fit : (ds bs : List ℕ) → pairs_of ds ≡ Some bs → AreBytes bs
pairs-fit [] bs e = let same : [] ≡ bs = cc in subst AreBytes same tt
pairs-fit (a ∷ []) bs e = absurd cc
pairs-fit (a ∷ b ∷ ds) bs e = byte_and-fits (digit_value a) (digit_value b) (pairs_of ds) bs (digit-fits a) (digit-fits b) (pairs-fit ds) e

bytes-fit : (bs word : List ℕ) → bytes_in word ≡ Some bs → AreBytes bs
bytes-fit bs word =
    if_gives (is_dash word) (Some []) _ AreBytes (λ _ cs e. let same : [] ≡ cs = cc in subst AreBytes same tt)
    (λ _. if_gives (length word == 0) None _ AreBytes (λ _ cs e. absurd cc)
    (λ _. if_gives (list_all is_small word) (pairs_of word) None AreBytes (λ _ cs e. pairs-fit word cs e) (λ _ cs e. absurd cc)))
    bs

-- ---- answers

FitsSized : ℕ × List ℕ → Type 0
FitsSized x = (x.0 < 2 ^ 32) × AreBytes x.1

cut-fits : (text : List ℕ) (x : ℕ × List ℕ) → cut_in text ≡ Some x → FitsSized x
unfolding FitsSized
cut-fits text x e =
    pair_gives count_in bytes_in sized (λ y _. (y.0 < 2 ^ 32) × AreBytes y.1) (λ u v n bs h k. (count-fits n u h, bytes-fit bs v k)) text x (only_gives is_cut (pair_in count_in bytes_in sized text) x e).1

whole-fits : (head rest : List ℕ) (x : ℕ × List ℕ) → whole_in head rest ≡ Some x → FitsSized x
unfolding FitsSized
whole-fits head rest x e =
    both_give sized (count_in head) (bytes_in rest) (λ y. (y.0 < 2 ^ 32) × AreBytes y.1) (λ n bs h k. (count-fits n head h, bytes-fit bs rest k)) x (only_gives is_whole (both sized (count_in head) (bytes_in rest)) x e).1

result_word-fits : (word : List ℕ) (r : PlainResult) → result_word word ≡ Some r → FitsResult r
result_word-fits word =
    or_gives (option_map found_at (count_in word)) _ FitsResult (map_gives found_at (count_in word) FitsResult (λ n h. count-fits n word h))
    (if_gives (bytes_eq word (codes "accepted")) (Some was_accepted) (option_map ended_by (refusal_in word)) FitsResult
    (λ _ r e. let same : was_accepted ≡ r = cc in subst FitsResult same tt)
    (λ _. map_gives ended_by (refusal_in word) FitsResult (λ w h. tt)))

result_after-fits : (head rest : List ℕ) (r : PlainResult) → result_after head rest ≡ Some r → FitsResult r
unfolding FitsSized
result_after-fits head rest =
    if_gives (bytes_eq head (codes "rejected")) _ _ FitsResult (λ _. map_gives was_rejected (reason_in rest) FitsResult (λ w h. tt))
    (λ _. if_gives (bytes_eq head (codes "truncated")) _ _ FitsResult (λ _. map_gives bring (cut_in rest) FitsResult (λ x h. cut-fits rest x h))
    (λ _. map_gives bring (whole_in head rest) FitsResult (λ x h. whole-fits head rest x h)))

placed-fits : (place : ℕ) (head rest : List ℕ) (o : Option (List ℕ × List ℕ)) → place < 2 ^ 8 → (a : PlainAnswer) → placed_by place head rest o ≡ Some a → FitsAnswer a
unfolding FitsSized
placed-fits place head rest None small =
    or_gives (option_map (completes None) (option_map bring (whole_in head rest))) (option_map (completes (Some place)) (result_word rest)) FitsAnswer
    (map_gives (completes None) (option_map bring (whole_in head rest)) FitsAnswer (λ r h. (tt, map_gives bring (whole_in head rest) FitsResult (λ x k. whole-fits head rest x k) r h)))
    (map_gives (completes (Some place)) (result_word rest) FitsAnswer (λ r h. (small, result_word-fits rest r h)))
placed-fits place head rest (Some x) small = map_gives (completes (Some place)) (result_after x.0 x.1) FitsAnswer (λ r h. (small, result_after-fits x.0 x.1 r h))

done-fits : (text : List ℕ) (a : PlainAnswer) → done_in text ≡ Some a → FitsAnswer a
done-fits text a = go (cut_at 32 text)
  where
    after : (head rest : List ℕ) (o : Option ℕ) → place_in head ≡ o → done_after head rest o ≡ Some a → FitsAnswer a
    after head rest None is e = map_gives (completes None) (result_after head rest) FitsAnswer (λ r h. (tt, result_after-fits head rest r h)) a e
    after head rest (Some place) is e = placed-fits place head rest (cut_at 32 rest) (peer-fits place head is) a e

    go : (o : Option (List ℕ × List ℕ)) → done_by text o ≡ Some a → FitsAnswer a
    go None e = map_gives (completes None) (result_word text) FitsAnswer (λ r h. (tt, result_word-fits text r h)) a e
    go (Some x) e = after x.0 x.1 (place_in x.0) refl e

ok-fits : (text : List ℕ) (a : PlainAnswer) → ok_in text ≡ Some a → FitsAnswer a
unfolding FitsSized
ok-fits text a = go (cut_at 32 text)
  where
    go : (o : Option (List ℕ × List ℕ)) → ok_by text o ≡ Some a → FitsAnswer a
    go None e = map_gives tells (long_in text) FitsAnswer (λ n h. long-fits n text h) a e
    go (Some y) e =
        or_gives (option_map give (whole_in y.0 y.1)) (both connects (long_in y.0) (count_in y.1)) FitsAnswer
        (map_gives give (whole_in y.0 y.1) FitsAnswer (λ x h. whole-fits y.0 y.1 x h))
        (both_give connects (long_in y.0) (count_in y.1) FitsAnswer (λ n c h k. (long-fits n y.0 h, count-fits c y.1 k))) a e

answer_after-fits : (head rest : List ℕ) (a : PlainAnswer) → answer_after head rest ≡ Some a → FitsAnswer a
unfolding FitsSized
answer_after-fits head rest =
    if_gives (bytes_eq head (codes "ok")) _ _ FitsAnswer (λ _ a e. ok-fits rest a e)
    (λ _. if_gives (bytes_eq head (codes "truncated")) _ _ FitsAnswer (λ _. map_gives give (cut_in rest) FitsAnswer (λ x h. cut-fits rest x h))
    (λ _. if_gives (bytes_eq head (codes "done")) _ _ FitsAnswer (λ _ a e. done-fits rest a e) (λ _ a e. absurd cc)))

answer_word-fits : (word : List ℕ) (a : PlainAnswer) → answer_word word ≡ Some a → FitsAnswer a
answer_word-fits word =
    if_gives (bytes_eq word (codes "ok")) (Some agrees) (option_map refuses (refusal_in word)) FitsAnswer
    (λ _ a e. let same : agrees ≡ a = cc in subst FitsAnswer same tt)
    (λ _. map_gives refuses (refusal_in word) FitsAnswer (λ w h. tt))

answer-fits : (text : List ℕ) (a : PlainAnswer) → answer_in text ≡ Some a → FitsAnswer a
answer-fits text a = go (cut_at 32 text)
  where
    go : (o : Option (List ℕ × List ℕ)) → answer_by text o ≡ Some a → FitsAnswer a
    go None e = answer_word-fits text a e
    go (Some x) e = answer_after-fits x.0 x.1 a e

-- ---- lines

FitsTaken : Taken → Type 0
FitsTaken t = AreBytes t.frame

taken-fits : (text : List ℕ) (t : Taken) → taken_in text ≡ Some t → FitsTaken t
unfolding FitsTaken
taken-fits text t e = pair_gives bytes_in fate_in taken (λ s _. AreBytes s.frame) (λ u v bs f h k. bytes-fit bs u h) text t e

rest-fits : (f : Form) (rest : List ℕ) (l : Line) → rest_in f rest ≡ Some l → IsEntryLine l
unfolding FitsTaken
rest-fits form.Idle rest = map_gives idle_line (long_in rest) IsEntryLine (λ n h. long-fits n rest h)
rest-fits form.Again rest = map_gives again_line (refusal_in rest) IsEntryLine (λ w h. tt)
rest-fits form.Spin rest = pair_gives long_in refusal_in spin_line (λ l _. IsEntryLine l) (λ u v n w h k. long-fits n u h) rest
rest-fits form.Turn rest = λ l e. absurd cc
rest-fits form.Back rest = pair_gives peer_in count_in back_line (λ l _. IsEntryLine l) (λ u v p n h k. (peer-fits p u h, count-fits n v k)) rest
rest-fits form.Put rest = pair_gives peer_in bytes_in put_line (λ l _. IsEntryLine l) (λ u v p bs h k. (peer-fits p u h, bytes-fit bs v k)) rest
rest-fits form.See rest = pair_gives peer_in count_in see_line (λ l _. IsEntryLine l) (λ u v p n h k. (peer-fits p u h, count-fits n v k)) rest
rest-fits form.Take rest = pair_gives peer_in taken_in takes (λ l _. IsEntryLine l) (λ u v p t h k. (peer-fits p u h, taken-fits v t k)) rest
rest-fits form.Wait rest = map_gives wait_line (count_in rest) IsEntryLine (λ n h. count-fits n rest h)
rest-fits form.Call rest = pair_gives count_in answer_in call_line (λ l _. IsEntryLine l) (λ u v n a h k. (count-fits n u h, answer-fits v a k)) rest

pub line-fits : (text : List ℕ) (l : Line) → line_in text ≡ Some l → IsEntryLine l
line-fits text l = go (cut_at 32 text)
  where
    by : (rest : List ℕ) (o : Option Form) → by_form rest o ≡ Some l → IsEntryLine l
    by rest None e = absurd cc
    by rest (Some f) e = rest-fits f rest l e

    go : (o : Option (List ℕ × List ℕ)) → line_by text o ≡ Some l → IsEntryLine l
    go None e = if_gives (bytes_eq text (codes "turn")) (Some turn_line) None IsEntryLine (λ _ k e. let same : turn_line ≡ k = cc in subst IsEntryLine same tt) (λ _ k e. absurd cc) l e
    go (Some x) e = by x.1 (form_in x.0) e
