-- Parts that stand behind each other as they are, are the joined lines of their entries.
use Rattle.std.proofs.Common.{◌≡◌, ℕ, zero, suc, ◌+◌, ◌-◌, ◌^◌, ◌<◌, ◌≤◌, Bool, true, ◌&&◌, cond, List, [], ◌∷◌, ◌++◌, length, map, take, Some, None, slice_get, refl, sym, ap, ap₂, ◌∙◌, arith, append_assoc, append-nil}
use Rattle.std.specs.Prelude.{slice_set, nat_lt}
use Rattle.std.specs.List.{list_all, flat_map}
use Rattle.std.proofs.lemmas.Bool.Decides.{nat_tests}
use Rattle.std.proofs.lemmas.List.{set_at, take_at, length_push}
use Rattle.std.proofs.lemmas.Slice.Eq.{bytes_eq-Decides}
use Rattle.mc_base.specs.declared.refusal.Refusal.{Refusal}
use Rattle.board_model.specs.Words.{refusal_text, same_word}
use Rattle.board_model.specs.Journal.{PlainAnswer, PlainEntry, put, again, called, Line, idle_line, again_line, spin_line, turn_line, put_line, call_line, visit_lines, is_idle, joinable, with_idle, noted_idle, spinning, with_spin, noted_spin, is_one_idle, noted_again, noted, noted_all}
use Rattle.board_model.specs.Unjoined.{times, idle_turn, visit_in}
use Rattle.board_model.specs.JournalParts.{Part, idles, spins, tries, turn_of, wait_of, call_of, part_lines, part_entries, last_line, StandsBehind, StandBehind}
use Rattle.board_model.specs.JournalLaws.{PartsAreJoined}

-- ---- the last line

last_push : (ls : List Line) (x : Line) → length (ls ++ x ∷ []) - 1 ≡ length ls
last_push ls x = omega (arith, length_push ls x)

get_end : (ls : List Line) (x : Line) → slice_get (ls ++ x ∷ []) (length ls) ≡ Some x
get_end [] x = refl
get_end (l ∷ ls) x = get_end ls x

pub last-is : (ls : List Line) (x : Line) → last_line (ls ++ x ∷ []) ≡ Some x
last-is ls x = ap (slice_get (ls ++ x ∷ [])) (last_push ls x) ∙ get_end ls x

set-last : (ls : List Line) (x y : Line) → slice_set (ls ++ x ∷ []) (length (ls ++ x ∷ []) - 1) y ≡ ls ++ y ∷ []
set-last ls x y = ap (λ n. slice_set (ls ++ x ∷ []) n y) (last_push ls x) ∙ set_at ls x [] y (length ls) refl

take-last : (ls : List Line) (x : Line) → take (length (ls ++ x ∷ []) - 1) (ls ++ x ∷ []) ≡ ls
take-last ls x = ap (λ n. take n (ls ++ x ∷ [])) (last_push ls x) ∙ take_at ls (x ∷ []) (length ls) refl

-- ---- idle turns

-- an idle turn has no visit that is not idle
pub idle_all : (ps : List ℕ) → list_all is_idle (map (visit_in []) ps) ≡ true
idle_all [] = refl
idle_all (p ∷ ps) = idle_all ps

module _ (peers : List ℕ) where
  noted-idle : (ls : List Line) → noted ls (idle_turn peers) ≡ noted_idle ls
  noted-idle ls = ap (λ b. cond b (noted_idle ls) (ls ++ turn_line ∷ flat_map visit_lines (map (visit_in []) peers))) (idle_all peers)

  idle-first : (ls : List Line) → joinable (last_line ls) ≡ None → noted_idle ls ≡ ls ++ idle_line 1 ∷ []
  idle-first ls none = ap (λ o. with_idle o ls) none

  idle-more : (ls : List Line) (k : ℕ) → k < 2 ^ 64 - 1 → noted_idle (ls ++ idle_line k ∷ []) ≡ ls ++ idle_line (k + 1) ∷ []
  idle-more ls k small =
      let test : nat_lt k (2 ^ 64 - 1) ≡ true = grind (arith, nat_tests) in
      let some : joinable (last_line (ls ++ idle_line k ∷ [])) ≡ Some k = ap joinable (last-is ls (idle_line k)) ∙ ap (λ b. cond b (Some k) None) test in
      ap (λ o. with_idle o (ls ++ idle_line k ∷ [])) some ∙ set-last ls (idle_line k) (idle_line (k + 1))

  idles-more : (m : ℕ) (ls : List Line) (k : ℕ) → k + m ≤ 2 ^ 64 - 1 → noted_all (ls ++ idle_line k ∷ []) (times m (idle_turn peers ∷ [])) ≡ ls ++ idle_line (k + m) ∷ []
  idles-more zero ls k few = ap (λ n. ls ++ idle_line n ∷ []) (omega arith)
  idles-more (suc m) ls k few =
      let shift : (k + 1) + m ≡ k + suc m = omega arith in
      ap (λ xs. noted_all xs (times m (idle_turn peers ∷ []))) (noted-idle (ls ++ idle_line k ∷ []) ∙ idle-more ls k (omega (arith, few)))
      ∙ idles-more m ls (k + 1) (omega (arith, few))
      ∙ ap (λ n. ls ++ idle_line n ∷ []) shift

  idles-all : (n : ℕ) (ls : List Line) → 1 ≤ n → n ≤ 2 ^ 64 - 1 → joinable (last_line ls) ≡ None → noted_all ls (times n (idle_turn peers ∷ [])) ≡ ls ++ idle_line n ∷ []
  idles-all zero ls some few none = absurd (omega arith)
  idles-all (suc m) ls some few none =
      let one : 1 + m ≡ suc m = omega arith in
      ap (λ xs. noted_all xs (times m (idle_turn peers ∷ []))) (noted-idle ls ∙ idle-first ls none)
      ∙ idles-more m ls 1 (omega (arith, few))
      ∙ ap (λ n. ls ++ idle_line n ∷ []) one

  -- ---- tries

  -- an idle turn that joins nothing, and a call that is made again, are told together
  again-spins : (word : Refusal) (ls : List Line) → noted_again word (ls ++ idle_line 1 ∷ []) ≡ noted_spin word ls
  again-spins word ls =
      let one : is_one_idle (last_line (ls ++ idle_line 1 ∷ [])) ≡ true = ap is_one_idle (last-is ls (idle_line 1)) in
      ap (λ b. cond b (noted_spin word (take (length (ls ++ idle_line 1 ∷ []) - 1) (ls ++ idle_line 1 ∷ []))) ((ls ++ idle_line 1 ∷ []) ++ again_line word ∷ [])) one
      ∙ ap (noted_spin word) (take-last ls (idle_line 1))

  spin_once : (word : Refusal) (ls : List Line) → joinable (last_line ls) ≡ None → noted_all ls (idle_turn peers ∷ again word ∷ []) ≡ noted_spin word ls
  spin_once word ls none = ap (noted_again word) (noted-idle ls ∙ idle-first ls none) ∙ again-spins word ls

  same-self : (w : Refusal) → same_word w w ≡ true
  same-self w = (bytes_eq-Decides (refusal_text w) (refusal_text w)).1 refl

  spin-more : (word : Refusal) (ls : List Line) (k : ℕ) → k < 2 ^ 64 - 1 → noted_spin word (ls ++ spin_line k word ∷ []) ≡ ls ++ spin_line (k + 1) word ∷ []
  spin-more word ls k small =
      let test : nat_lt k (2 ^ 64 - 1) ≡ true = grind (arith, nat_tests) in
      let some : spinning word (last_line (ls ++ spin_line k word ∷ [])) ≡ Some k = ap (spinning word) (last-is ls (spin_line k word)) ∙ ap₂ (λ (a b : Bool). cond (a && b) (Some k) None) (same-self word) test in
      ap (λ o. with_spin word o (ls ++ spin_line k word ∷ [])) some ∙ set-last ls (spin_line k word) (spin_line (k + 1) word)

  spins-more : (word : Refusal) (m : ℕ) (ls : List Line) (k : ℕ) → k + m ≤ 2 ^ 64 - 1 → noted_all (ls ++ spin_line k word ∷ []) (times m (idle_turn peers ∷ again word ∷ [])) ≡ ls ++ spin_line (k + m) word ∷ []
  spins-more word zero ls k few = ap (λ n. ls ++ spin_line n word ∷ []) (omega arith)
  spins-more word (suc m) ls k few =
      let shift : (k + 1) + m ≡ k + suc m = omega arith in
      ap (λ xs. noted_all xs (times m (idle_turn peers ∷ again word ∷ []))) (spin_once word (ls ++ spin_line k word ∷ []) (ap joinable (last-is ls (spin_line k word))) ∙ spin-more word ls k (omega (arith, few)))
      ∙ spins-more word m ls (k + 1) (omega (arith, few))
      ∙ ap (λ n. ls ++ spin_line n word ∷ []) shift

  spins-all : (word : Refusal) (n : ℕ) (ls : List Line) → 1 ≤ n → n ≤ 2 ^ 64 - 1 → joinable (last_line ls) ≡ None → spinning word (last_line ls) ≡ None → noted_all ls (times n (idle_turn peers ∷ again word ∷ [])) ≡ ls ++ spin_line n word ∷ []
  spins-all word zero ls some few none apart = absurd (omega arith)
  spins-all word (suc m) ls some few none apart =
      let one : 1 + m ≡ suc m = omega arith in
      ap (λ xs. noted_all xs (times m (idle_turn peers ∷ again word ∷ []))) (spin_once word ls none ∙ ap (λ o. with_spin word o ls) apart)
      ∙ spins-more word m ls 1 (omega (arith, few))
      ∙ ap (λ n. ls ++ spin_line n word ∷ []) one

  -- ---- all parts

  puts-all : (qs : List (ℕ × List ℕ)) (k : ℕ) (a : PlainAnswer) (ls : List Line) → noted_all ls (map (λ q. put q.0 q.1) qs ++ called k a ∷ []) ≡ ls ++ (map (λ q. put_line q.0 q.1) qs ++ call_line k a ∷ [])
  puts-all [] k a ls = refl
  puts-all (q ∷ qs) k a ls = puts-all qs k a (ls ++ put_line q.0 q.1 ∷ []) ∙ append_assoc ls (put_line q.0 q.1 ∷ []) (map (λ r. put_line r.0 r.1) qs ++ call_line k a ∷ [])

  part-noted : (p : Part) (ls : List Line) → StandsBehind ls p → noted_all ls (part_entries peers p) ≡ ls ++ part_lines p
  part-noted (idles n) ls h = idles-all n ls h.0.0 h.0.1 h.1
  part-noted (spins n word) ls h = spins-all word n ls h.0.0 h.0.1 h.1 h.2
  part-noted (tries word) ls h = ap (λ b. cond b (noted_spin word (take (length ls - 1) ls)) (ls ++ again_line word ∷ [])) h
  part-noted (turn_of vs) ls h = ap (λ b. cond b (noted_idle ls) (ls ++ turn_line ∷ flat_map visit_lines vs)) h
  part-noted (wait_of k) ls h = refl
  part-noted (call_of qs k a) ls h = puts-all qs k a ls

  noted_all-append : (es fs : List PlainEntry) (ls : List Line) → noted_all ls (es ++ fs) ≡ noted_all (noted_all ls es) fs
  noted_all-append [] fs ls = refl
  noted_all-append (e ∷ es) fs ls = noted_all-append es fs (noted ls e)

  pub parts-noted : (ps : List Part) (ls : List Line) → StandBehind ls ps → noted_all ls (flat_map (part_entries peers) ps) ≡ ls ++ flat_map part_lines ps
  parts-noted [] ls h = sym (append-nil ls)
  parts-noted (p ∷ ps) ls h =
      noted_all-append (part_entries peers p) (flat_map (part_entries peers) ps) ls
      ∙ ap (λ xs. noted_all xs (flat_map (part_entries peers) ps)) (part-noted p ls h.0)
      ∙ parts-noted ps (ls ++ part_lines p) h.1
      ∙ append_assoc ls (part_lines p) (flat_map part_lines ps)

pub parts_are_joined : PartsAreJoined
parts_are_joined peers ps h = parts-noted peers ps [] h
