-- How requests ended is read as it is written, and nothing else is read.
use Rattle.std.proofs.Common.{◌≡◌, ℕ, ◌^◌, ◌<◌, Bool, true, false, cond, List, [], ◌∷◌, ◌++◌, length, Option, Some, None, bytes_eq, refl, sym, ap, ap₂, ◌∙◌, arith}
use Rattle.std.specs.Prelude.{decimal, codes, nat_lt, not, option_map}
use Rattle.std.proofs.lemmas.Slice.Eq.{bytes_eq-Decides}
use Rattle.mc_base.specs.declared.channel.Reason.TheVariants.{NoEndpoint, Connected, Busy}
use Rattle.mc_base.specs.declared.refusal.Refusal.{Refusal}
use Rattle.mc_base.specs.Text.{hex_text}
use Rattle.board_model.specs.Grammar.{spaced}
use Rattle.board_model.specs.Words.{refusal_text, reason_text}
use Rattle.board_model.specs.Journal.{PlainResult, found_at, was_accepted, was_rejected, brought, ended_by}
use Rattle.board_model.specs.Report.{result_words}
use Rattle.board_model.proofs.WordDecimals.{decimal-is, decimal-read}
use Rattle.mc_journal.specs.EntryText.{AreBytes, FitsResult}
use Rattle.board_model.specs.WordTables.{refusals, refusal_in, reasons, reason_in}
use Rattle.mc_journal.specs.Readers.{both, or_else, only, pair_in, count_in, long_in, bytes_in, sized, is_cut, is_whole, bring, cut_in, whole_in, result_word, result_after, result_by, result_in}
use Rattle.mc_journal.proofs.Cuts.{cut-found}
use Rattle.board_model.proofs.WordsRead.{found-is, refusal-read}
use Rattle.mc_journal.proofs.RefusalsAlone.{refusal-alone}
use Rattle.mc_journal.proofs.BytesRead.{bytes-are, bytes-read}
use Rattle.mc_journal.proofs.PartsRead.{if_gives, map_gives, both_give, or_gives, only_gives, pair_gives, decimal-alone, decimal-cut, decimal-no_word, pair_read}

-- ---- words

pub refusal-is : (word : List ℕ) (w : Refusal) → refusal_in word ≡ Some w → refusal_text w ≡ word
refusal-is word w e = found-is refusal_text refusals word w e

pub count-is : (n : ℕ) (word : List ℕ) → count_in word ≡ Some n → decimal n ≡ word
count-is n word e = decimal-is 4294967295 n word (omega arith) e

pub long-is : (n : ℕ) (word : List ℕ) → long_in word ≡ Some n → decimal n ≡ word
long-is n word e = decimal-is 18446744073709551615 n word (omega arith) e

pub count-read : (n : ℕ) → n < 2 ^ 32 → count_in (decimal n) ≡ Some n
count-read n small = decimal-read 4294967295 n (omega (arith, small)) (omega arith)

pub long-read : (n : ℕ) → n < 2 ^ 64 → long_in (decimal n) ≡ Some n
long-read n small = decimal-read 18446744073709551615 n (omega (arith, small)) (omega arith)

-- ---- what is read is written so

unfoldable pub sized_text : ℕ × List ℕ → List ℕ
sized_text x = decimal x.0 ++ 32 ∷ hex_text x.1

pub cut-bytes : (text : List ℕ) (x : ℕ × List ℕ) → cut_in text ≡ Some x → (is_cut x ≡ true) × (sized_text x ≡ text)
unfolding sized_text
cut-bytes text x e =
    let o = only_gives is_cut (pair_in count_in bytes_in sized text) x e in
    (o.0, pair_gives count_in bytes_in sized (λ y t. decimal y.0 ++ 32 ∷ hex_text y.1 ≡ t) (λ u v n bs h k. ap₂ (λ (p q : List ℕ). p ++ 32 ∷ q) (count-is n u h) (bytes-are v bs k)) text x o.1)

not_is : (b : Bool) → not b ≡ true → b ≡ false
not_is true e = absurd cc
not_is false e = refl

pub whole-bytes : (head rest : List ℕ) (x : ℕ × List ℕ) → whole_in head rest ≡ Some x → (is_cut x ≡ false) × (sized_text x ≡ head ++ 32 ∷ rest)
unfolding sized_text
whole-bytes head rest x e =
    let o = only_gives is_whole (both sized (count_in head) (bytes_in rest)) x e in
    (not_is (is_cut x) o.0, both_give sized (count_in head) (bytes_in rest) (λ y. decimal y.0 ++ 32 ∷ hex_text y.1 ≡ head ++ 32 ∷ rest) (λ n bs h k. ap₂ (λ (p q : List ℕ). p ++ 32 ∷ q) (count-is n head h) (bytes-are rest bs k)) x o.1)

brought_text : (t : Bool) (x : ℕ × List ℕ) → is_cut x ≡ t → spaced (result_words (bring x)) ≡ cond t (codes "truncated " ++ (decimal x.0 ++ 32 ∷ hex_text x.1)) (decimal x.0 ++ 32 ∷ hex_text x.1)
brought_text true x is = ap (λ t. spaced (cond t (codes "truncated" ∷ decimal x.0 ∷ hex_text x.1 ∷ []) (decimal x.0 ∷ hex_text x.1 ∷ []))) is
brought_text false x is = ap (λ t. spaced (cond t (codes "truncated" ∷ decimal x.0 ∷ hex_text x.1 ∷ []) (decimal x.0 ∷ hex_text x.1 ∷ []))) is

pub brought-is : (head rest : List ℕ) (x : ℕ × List ℕ) → whole_in head rest ≡ Some x → spaced (result_words (bring x)) ≡ head ++ 32 ∷ rest
unfolding sized_text
brought-is head rest x h = let b = whole-bytes head rest x h in brought_text false x b.0 ∙ b.1

pub result_word-is : (word : List ℕ) (r : PlainResult) → result_word word ≡ Some r → spaced (result_words r) ≡ word
result_word-is word =
    or_gives (option_map found_at (count_in word)) _ (λ (r : PlainResult). spaced (result_words r) ≡ word)
    (map_gives found_at (count_in word) (λ (r : PlainResult). spaced (result_words r) ≡ word) (λ n h. count-is n word h))
    (if_gives (bytes_eq word (codes "accepted")) (Some was_accepted) (option_map ended_by (refusal_in word)) (λ (r : PlainResult). spaced (result_words r) ≡ word)
    (λ is r e. let same : was_accepted ≡ r = cc in ap (λ (s : PlainResult). spaced (result_words s)) (sym same) ∙ sym ((bytes_eq-Decides word (codes "accepted")).0 is))
    (λ _. map_gives ended_by (refusal_in word) (λ (r : PlainResult). spaced (result_words r) ≡ word) (λ w h. refusal-is word w h)))

pub result_after-is : (head rest : List ℕ) (r : PlainResult) → result_after head rest ≡ Some r → spaced (result_words r) ≡ head ++ 32 ∷ rest
unfolding sized_text
result_after-is head rest = if_gives (bytes_eq head (codes "rejected")) _ _ (λ (r : PlainResult). spaced (result_words r) ≡ head ++ 32 ∷ rest)
    (λ is. map_gives was_rejected (reason_in rest) (λ (r : PlainResult). spaced (result_words r) ≡ head ++ 32 ∷ rest)
    (λ reason h. ap₂ (λ (p q : List ℕ). p ++ 32 ∷ q) (sym ((bytes_eq-Decides head (codes "rejected")).0 is)) (found-is reason_text reasons rest reason h)))
    (λ _. if_gives (bytes_eq head (codes "truncated")) _ _ (λ (r : PlainResult). spaced (result_words r) ≡ head ++ 32 ∷ rest)
    (λ is. map_gives bring (cut_in rest) (λ (r : PlainResult). spaced (result_words r) ≡ head ++ 32 ∷ rest)
    (λ x h. let b = cut-bytes rest x h in brought_text true x b.0 ∙ ap₂ (λ (p q : List ℕ). p ++ 32 ∷ q) (sym ((bytes_eq-Decides head (codes "truncated")).0 is)) b.1))
    (λ _. map_gives bring (whole_in head rest) (λ (r : PlainResult). spaced (result_words r) ≡ head ++ 32 ∷ rest)
    (λ x h. brought-is head rest x h)))

-- ---- what is written is read

pub cut_in-read : (size : ℕ) (bytes : List ℕ) → size < 2 ^ 32 → AreBytes bytes → nat_lt (length bytes) size ≡ true → cut_in (decimal size ++ 32 ∷ hex_text bytes) ≡ Some (size, bytes)
cut_in-read size bytes small are is =
    ap (only is_cut) (pair_read count_in bytes_in sized (decimal size) (hex_text bytes) size bytes (decimal-alone size (omega (arith, small))) (count-read size small) (bytes-read bytes are))
    ∙ ap (λ t. cond t (Some (size, bytes)) None) is

pub whole_in-read : (size : ℕ) (bytes : List ℕ) → size < 2 ^ 32 → AreBytes bytes → nat_lt (length bytes) size ≡ false → whole_in (decimal size) (hex_text bytes) ≡ Some (size, bytes)
whole_in-read size bytes small are is =
    ap₂ (λ (o : Option ℕ) (p : Option (List ℕ)). only is_whole (both sized o p)) (count-read size small) (bytes-read bytes are)
    ∙ ap (λ t. cond (not t) (Some (size, bytes)) None) is

result_after-read : (size : ℕ) (bytes : List ℕ) → size < 2 ^ 32 → AreBytes bytes → nat_lt (length bytes) size ≡ false → result_after (decimal size) (hex_text bytes) ≡ Some (brought size bytes)
result_after-read size bytes small are is =
    let rejected : bytes_eq (decimal size) (codes "rejected") ≡ false = decimal-no_word (codes "rejected") size (omega (arith, small)) refl in
    let truncated : bytes_eq (decimal size) (codes "truncated") ≡ false = decimal-no_word (codes "truncated") size (omega (arith, small)) refl in
    ap (λ t. cond t (option_map was_rejected (reason_in (hex_text bytes))) (cond (bytes_eq (decimal size) (codes "truncated")) (option_map bring (cut_in (hex_text bytes))) (option_map bring (whole_in (decimal size) (hex_text bytes))))) rejected
    ∙ ap (λ t. cond t (option_map bring (cut_in (hex_text bytes))) (option_map bring (whole_in (decimal size) (hex_text bytes)))) truncated
    ∙ ap (option_map bring) (whole_in-read size bytes small are is)

pub result-read : (r : PlainResult) → FitsResult r → result_in (spaced (result_words r)) ≡ Some r
result-read (found_at address) fits =
    ap (result_by (decimal address)) (decimal-cut address (omega (arith, fits)))
    ∙ ap (λ (o : Option ℕ). or_else (option_map found_at o) (cond (bytes_eq (decimal address) (codes "accepted")) (Some was_accepted) (option_map ended_by (refusal_in (decimal address))))) (count-read address fits)
result-read was_accepted fits = refl
result-read (was_rejected NoEndpoint) fits = refl
result-read (was_rejected Connected) fits = refl
result-read (was_rejected Busy) fits = refl
result-read (brought size bytes) fits = go (nat_lt (length bytes) size) refl
  where
    go : (t : Bool) → nat_lt (length bytes) size ≡ t → result_in (spaced (cond t (codes "truncated" ∷ decimal size ∷ hex_text bytes ∷ []) (decimal size ∷ hex_text bytes ∷ []))) ≡ Some (brought size bytes)
    go true is = ap (option_map bring) (cut_in-read size bytes fits.0 fits.1 is)
    go false is =
        ap (result_by (decimal size ++ 32 ∷ hex_text bytes)) (cut-found 32 (decimal size) (hex_text bytes) (decimal-alone size (omega (arith, fits.0))))
        ∙ result_after-read size bytes fits.0 fits.1 is
result-read (ended_by word) fits =
    let r = refusal-alone word in
    ap (result_by (refusal_text word)) r.alone
    ∙ ap (λ (o : Option ℕ). or_else (option_map found_at o) (cond (bytes_eq (refusal_text word) (codes "accepted")) (Some was_accepted) (option_map ended_by (refusal_in (refusal_text word))))) r.no_count
    ∙ ap (λ t. cond t (Some was_accepted) (option_map ended_by (refusal_in (refusal_text word)))) r.not_accepted
    ∙ ap (option_map ended_by) (refusal-read word)
