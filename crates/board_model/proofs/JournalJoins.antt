-- One entry more among joined lines.
use Rattle.std.proofs.Common.{◌≡◌, ℕ, suc, ◌+◌, ◌-◌, ◌^◌, Bool, true, false, cond, ltb, List, [], ◌∷◌, ◌++◌, length, map, take, drop, Option, Some, None, slice_get, refl, sym, ap, ap₂, ◌∙◌, arith, append_assoc, append-nil, take-append-drop, drop-cons, eqb-true, subst}
use Rattle.std.proofs.Math.Seq.{drop-length}
use Rattle.std.specs.Prelude.{slice_set, ◌&&◌}
use Rattle.std.specs.List.{list_all, flat_map}
use Rattle.std.proofs.lemmas.Option.{slice_get_within, get_or_from_slice_get}
use Rattle.std.proofs.lemmas.List.{set_split, drop_all}
use Rattle.mc_base.specs.declared.refusal.Refusal.{Refusal}
use Rattle.board_model.specs.declared.scenario.CallLine.{CallLine}
use Rattle.board_model.specs.Words.{same_word}
use Rattle.board_model.specs.LinkedBoard.{Differ}
use Rattle.board_model.specs.Journal.{PlainEntry, turned, again, Visit, Line, idle_line, again_line, spin_line, turn_line, back_line, put_line, see_line, take_line, wait_line, call_line, is_idle, visit_lines, joinable, with_idle, noted_idle, spinning, with_spin, noted_spin, is_one_idle, noted_again, noted}
use Rattle.board_model.specs.Unjoined.{times, tail, read_onto, entries_in, idle_turn, turn_in, visit_in}
use Rattle.board_model.proofs.JournalReading.{times-more, entries-more, read-turn}
use Rattle.board_model.proofs.JournalVisits.{visits_all, visits_back, idle_is}
use Rattle.board_model.proofs.ListsJoined.{joinable-tells}

-- ---- the last line

pub last_split : (lines : List Line) (x : Line) → slice_get lines (length lines - 1) ≡ Some x → lines ≡ take (length lines - 1) lines ++ x ∷ []
last_split lines x at =
    let last = length lines - 1 in
    let within = slice_get_within lines last x at in
    let all : suc last ≡ length lines = omega (arith, within) in
    let one : drop last lines ≡ x ∷ [] = drop-cons lines last x within ∙ ap₂ (λ (y : Line) (ys : List Line). y ∷ ys) (get_or_from_slice_get lines last x x at) (ap (λ (k : ℕ). drop k lines) all ∙ drop-length lines) in
    sym (take-append-drop last lines) ∙ ap (λ ys. take last lines ++ ys) one

pub last_set : (lines : List Line) (x y : Line) → slice_get lines (length lines - 1) ≡ Some x → slice_set lines (length lines - 1) y ≡ take (length lines - 1) lines ++ y ∷ []
last_set lines x y at =
    let last = length lines - 1 in
    let within = slice_get_within lines last x at in
    let past : drop (suc last) lines ≡ [] = drop_all (suc last) lines (omega (arith, within)) in
    set_split lines last y within ∙ ap (λ ys. take last lines ++ y ∷ ys) past

-- ---- what the last line is

module _ (one_word : (v w : Refusal) → same_word v w ≡ true → v ≡ w) where
  spin_if : (c b : Bool) (m n : ℕ) (v w : Refusal) → (c ≡ true → v ≡ w) → cond (c && b) (Some m) None ≡ Some n → Some (spin_line m v) ≡ Some (spin_line n w)
  spin_if true true m n v w same e = let one : m ≡ n = cc in ap₂ (λ k u. Some (spin_line k u)) one (same refl)
  spin_if true false m n v w same e = absurd cc
  spin_if false b m n v w same e = absurd cc

  pub spinning-tells : (word : Refusal) (o : Option Line) (n : ℕ) → spinning word o ≡ Some n → o ≡ Some (spin_line n word)
  spinning-tells word None n e = absurd cc
  spinning-tells word (Some (idle_line m)) n e = absurd cc
  spinning-tells word (Some (again_line w)) n e = absurd cc
  spinning-tells word (Some (spin_line m v)) n e = spin_if (same_word v word) (ltb m (2 ^ 64 - 1)) m n v word (one_word v word) e
  spinning-tells word (Some turn_line) n e = absurd cc
  spinning-tells word (Some (back_line p k)) n e = absurd cc
  spinning-tells word (Some (put_line p f)) n e = absurd cc
  spinning-tells word (Some (see_line p k)) n e = absurd cc
  spinning-tells word (Some (take_line p f w)) n e = absurd cc
  spinning-tells word (Some (call_line k a)) n e = absurd cc
  spinning-tells word (Some (wait_line k)) n e = absurd cc

pub one_idle-tells : (o : Option Line) → is_one_idle o ≡ true → o ≡ Some (idle_line 1)
one_idle-tells None e = absurd cc
one_idle-tells (Some (idle_line n)) e = ap (λ k. Some (idle_line k)) (eqb-true n 1 e)
one_idle-tells (Some (again_line w)) e = absurd cc
one_idle-tells (Some (spin_line k w)) e = absurd cc
one_idle-tells (Some turn_line) e = absurd cc
one_idle-tells (Some (back_line p k)) e = absurd cc
one_idle-tells (Some (put_line p f)) e = absurd cc
one_idle-tells (Some (see_line p k)) e = absurd cc
one_idle-tells (Some (take_line p f w)) e = absurd cc
one_idle-tells (Some (call_line k a)) e = absurd cc
one_idle-tells (Some (wait_line k)) e = absurd cc

module _ (peers : List ℕ) (script : List CallLine) where
  abbrev E : List Line → List PlainEntry
  E ls = entries_in peers script ls

  -- one more of what a line says many times
  once_more : (front : List Line) (n : ℕ) (xs : List PlainEntry) (old new : Line)
      → read_onto peers script (old ∷ []) (tail 0 [] []) ≡ tail 0 [] (times n xs ++ [])
      → read_onto peers script (new ∷ []) (tail 0 [] []) ≡ tail 0 [] (times (n + 1) xs ++ [])
      → E (front ++ new ∷ []) ≡ E (front ++ old ∷ []) ++ xs
  once_more front n xs old new was now =
      entries-more peers script front (new ∷ []) (times (n + 1) xs ++ []) now
      ∙ ap (λ ys. E front ++ ys) (append-nil (times (n + 1) xs) ∙ times-more n xs)
      ∙ sym (append_assoc (E front) (times n xs) xs)
      ∙ ap (λ ys. ys ++ xs) (sym (entries-more peers script front (old ∷ []) (times n xs ++ []) was ∙ ap (λ ys. E front ++ ys) (append-nil (times n xs))))

  idle_by : (ls : List Line) (o : Option ℕ) → joinable (slice_get ls (length ls - 1)) ≡ o → E (with_idle o ls) ≡ E ls ++ idle_turn peers ∷ []
  idle_by ls None e = entries-more peers script ls (idle_line 1 ∷ []) (idle_turn peers ∷ []) refl
  idle_by ls (Some n) e =
      let at = joinable-tells (slice_get ls (length ls - 1)) n e in
      let front = take (length ls - 1) ls in
      ap E (last_set ls (idle_line n) (idle_line (n + 1)) at)
      ∙ once_more front n (idle_turn peers ∷ []) (idle_line n) (idle_line (n + 1)) refl refl
      ∙ ap (λ ys. E ys ++ idle_turn peers ∷ []) (sym (last_split ls (idle_line n) at))

  pub idle_noted : (ls : List Line) → E (noted_idle ls) ≡ E ls ++ idle_turn peers ∷ []
  idle_noted ls = idle_by ls (joinable (slice_get ls (length ls - 1))) refl

  turn_by : (ls : List Line) (vs : List Visit) (b : Bool) → list_all is_idle vs ≡ b → Differ peers → map (λ v. v.peer) vs ≡ peers → E (cond b (noted_idle ls) (ls ++ turn_line ∷ flat_map visit_lines vs)) ≡ E ls ++ turned vs ∷ []
  turn_by ls vs true e differ each = idle_noted ls ∙ ap (λ ws. E ls ++ turned ws ∷ []) (ap (map (visit_in [])) (sym each) ∙ idle_is vs e)
  turn_by ls vs false e differ each =
      entries-more peers script ls (turn_line ∷ flat_map visit_lines vs) (turn_in peers (flat_map visit_lines vs) ∷ []) (read-turn peers script (flat_map visit_lines vs) (visits_all vs))
      ∙ ap (λ ws. E ls ++ turned ws ∷ []) (ap (map (visit_in (flat_map visit_lines vs))) (sym each) ∙ visits_back vs (subst Differ (sym each) differ))

  pub turn_noted : (ls : List Line) (vs : List Visit) → Differ peers → map (λ v. v.peer) vs ≡ peers → E (noted ls (turned vs)) ≡ E ls ++ turned vs ∷ []
  turn_noted ls vs differ each = turn_by ls vs (list_all is_idle vs) refl differ each

  module _ (one_word : (v w : Refusal) → same_word v w ≡ true → v ≡ w) where
    spin_by : (word : Refusal) (ls : List Line) (o : Option ℕ) → spinning word (slice_get ls (length ls - 1)) ≡ o → E (with_spin word o ls) ≡ E ls ++ idle_turn peers ∷ again word ∷ []
    spin_by word ls None e = entries-more peers script ls (spin_line 1 word ∷ []) (idle_turn peers ∷ again word ∷ []) refl
    spin_by word ls (Some n) e =
        let at = spinning-tells one_word word (slice_get ls (length ls - 1)) n e in
        let front = take (length ls - 1) ls in
        ap E (last_set ls (spin_line n word) (spin_line (n + 1) word) at)
        ∙ once_more front n (idle_turn peers ∷ again word ∷ []) (spin_line n word) (spin_line (n + 1) word) refl refl
        ∙ ap (λ ys. E ys ++ idle_turn peers ∷ again word ∷ []) (sym (last_split ls (spin_line n word) at))

    again_by : (word : Refusal) (ls : List Line) (b : Bool) → is_one_idle (slice_get ls (length ls - 1)) ≡ b → E (cond b (noted_spin word (take (length ls - 1) ls)) (ls ++ again_line word ∷ [])) ≡ E ls ++ again word ∷ []
    again_by word ls true e =
        let front = take (length ls - 1) ls in
        let split = last_split ls (idle_line 1) (one_idle-tells (slice_get ls (length ls - 1)) e) in
        let whole : E ls ≡ E front ++ idle_turn peers ∷ [] = ap E split ∙ entries-more peers script front (idle_line 1 ∷ []) (idle_turn peers ∷ []) refl in
        spin_by word front (spinning word (slice_get front (length front - 1))) refl
        ∙ sym (append_assoc (E front) (idle_turn peers ∷ []) (again word ∷ []))
        ∙ ap (λ ys. ys ++ again word ∷ []) (sym whole)
    again_by word ls false e = entries-more peers script ls (again_line word ∷ []) (again word ∷ []) refl

    pub again_noted : (word : Refusal) (ls : List Line) → E (noted_again word ls) ≡ E ls ++ again word ∷ []
    again_noted word ls = again_by word ls (is_one_idle (slice_get ls (length ls - 1))) refl
