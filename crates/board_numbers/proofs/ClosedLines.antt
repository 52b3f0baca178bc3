-- What closes dropped, by the lines of a journal: what idle turns and tries join changes nothing, and the answer of a call follows the
-- frames that the call put.
use Rattle.std.proofs.Common.{◌≡◌, ℕ, suc, ◌+◌, ◌-◌, ◌^◌, Bool, true, false, cond, ltb, List, [], ◌∷◌, ◌++◌, length, map, take, drop, flat_map, Option, Some, None, slice_get, refl, sym, ap, ap₂, ◌∙◌, arith, drop-cons, take-append-drop, length-append}
use Rattle.std.proofs.Math.Seq.{drop-length}
use Rattle.std.specs.Prelude.{◌==◌, ◌&&◌, slice_set}
use Rattle.std.specs.List.{list_all, AllByRecursion}
use Rattle.std.proofs.lemmas.Option.{slice_get_within, get_or_from_slice_get}
use Rattle.mc_base.specs.declared.refusal.Refusal.{Refusal}
use Rattle.board_model.specs.Journal.{turned, put, again, waits, called, PlainAnswer, Visit, Taken, Line, idle_line, again_line, spin_line, turn_line, back_line, put_line, see_line, take_line, wait_line, call_line, is_idle, looked, taken_line, visit_lines, joinable, with_idle, noted_idle, spinning, with_spin, noted_spin, is_one_idle, noted}
use Rattle.board_model.specs.Words.{same_word}
use Rattle.board_model.specs.Tallies.{number_told}
use Rattle.board_model.proofs.MessageAlls.{all-append}
use Rattle.board_numbers.specs.Items.{closes_channel, is_close_put, told_in, closing_last, closed_after}

module _ (o n : ℕ) where
  abbrev pub closing : List Line → Bool
  closing ls = closing_last o n false ls

  abbrev pub closed_in : List Line → ℕ
  closed_in ls = closed_after o n false ls

  pub closed-append : (b : Bool) (xs ys : List Line) → closed_after o n b (xs ++ ys) ≡ closed_after o n b xs + closed_after o n (closing_last o n b xs) ys
  closed-append b [] ys = omega arith
  closed-append b (x ∷ xs) ys = omega (arith, closed-append (is_close_put o n x) xs ys)

  pub closing-append : (b : Bool) (xs ys : List Line) → closing_last o n b (xs ++ ys) ≡ closing_last o n (closing_last o n b xs) ys
  closing-append b [] ys = refl
  closing-append b (x ∷ xs) ys = closing-append (is_close_put o n x) xs ys

  -- a line that tells no number and closes nothing
  pub record IsMute (l : Line) : Type 0 where
    pub closes : is_close_put o n l ≡ false
    pub tells : told_in l ≡ 0

  zero_if : (b : Bool) (k : ℕ) → k ≡ 0 → cond b k 0 ≡ 0
  zero_if true k is = is
  zero_if false k is = refl

  pub mute-closed : (b : Bool) (ls : List Line) → AllByRecursion IsMute ls → closed_after o n b ls ≡ 0
  mute-closed b [] all = refl
  mute-closed b (l ∷ ls) all = omega (arith, zero_if b (told_in l) all.0.tells, mute-closed (is_close_put o n l) ls all.1)

  pub mute-last : (ls : List Line) → AllByRecursion IsMute ls → closing_last o n false ls ≡ false
  mute-last [] all = refl
  mute-last (l ∷ ls) all = ap (λ b. closing_last o n b ls) all.0.closes ∙ mute-last ls all.1

  -- lines that end with a mute one
  module _ (front : List Line) (x : Line) (mute : IsMute x) where
    pub end-closed : closed_in (front ++ x ∷ []) ≡ closed_in front
    end-closed = omega (arith, closed-append false front (x ∷ []), mute-closed (closing front) (x ∷ []) (mute, tt))

    pub end-closing : closing (front ++ x ∷ []) ≡ false
    end-closing = closing-append false front (x ∷ []) ∙ mute.closes

  -- the lines before the last
  last_split : (lines : List Line) (x : Line) → slice_get lines (length lines - 1) ≡ Some x → lines ≡ take (length lines - 1) lines ++ x ∷ []
  last_split lines x at =
      let last = length lines - 1 in
      let within = slice_get_within lines last x at in
      let all : suc last ≡ length lines = omega (arith, within) in
      let one : drop last lines ≡ x ∷ [] = drop-cons lines last x within ∙ ap₂ (λ (y : Line) (ys : List Line). y ∷ ys) (get_or_from_slice_get lines last x x at) (ap (λ (k : ℕ). drop k lines) all ∙ drop-length lines) in
      sym (take-append-drop last lines) ∙ ap (λ (ys : List Line). take last lines ++ ys) one

  set_last : (front : List Line) (x y : Line) → slice_set (front ++ x ∷ []) (length front) y ≡ front ++ y ∷ []
  set_last [] x y = refl
  set_last (f ∷ front) x y = ap (λ ls. f ∷ ls) (set_last front x y)

  -- what an entry leaves
  record Leaves (lines lines' : List Line) : Type 0 where
    closed : closed_in lines' ≡ closed_in lines
    last : closing lines' ≡ false

  leaves_with : (lines : List Line) (x : Line) → IsMute x → Leaves lines (lines ++ x ∷ [])
  leaves_with lines x mute = record { closed = end-closed lines x mute; last = end-closing lines x mute }

  leaves_front : (lines : List Line) (x y : Line) → slice_get lines (length lines - 1) ≡ Some x → IsMute x → IsMute y → Leaves lines (slice_set lines (length lines - 1) y)
  leaves_front lines x y at mute other =
      let front = take (length lines - 1) lines in
      let split = last_split lines x at in
      let count : length lines - 1 ≡ length front = omega (arith, ap (λ (ls : List Line). length ls) split, length-append front (x ∷ [])) in
      let set : slice_set lines (length lines - 1) y ≡ front ++ y ∷ [] = ap₂ (λ (ls : List Line) (k : ℕ). slice_set ls k y) split count ∙ set_last front x y in
      record {
        closed = ap closed_in set ∙ (end-closed front y other ∙ (sym (end-closed front x mute) ∙ ap closed_in (sym split)));
        last = ap closing set ∙ end-closing front y other;
      }

  idle_mute : (k : ℕ) → IsMute (idle_line k)
  idle_mute k = record { closes = refl; tells = refl }

  spin_mute : (k : ℕ) (w : Refusal) → IsMute (spin_line k w)
  spin_mute k w = record { closes = refl; tells = refl }

  again_mute : (w : Refusal) → IsMute (again_line w)
  again_mute w = record { closes = refl; tells = refl }

  -- ---- idle turns

  joinable_if : (b : Bool) (m k : ℕ) → cond b (Some m) None ≡ Some k → Some (idle_line m) ≡ Some (idle_line k)
  joinable_if true m k e = let same : m ≡ k = cc in ap (λ j. Some (idle_line j)) same
  joinable_if false m k e = absurd cc

  joinable_tells : (x : Option Line) (k : ℕ) → joinable x ≡ Some k → x ≡ Some (idle_line k)
  joinable_tells None k e = absurd cc
  joinable_tells (Some (idle_line m)) k e = joinable_if (ltb m (2 ^ 64 - 1)) m k e
  joinable_tells (Some (again_line w)) k e = absurd cc
  joinable_tells (Some (spin_line j w)) k e = absurd cc
  joinable_tells (Some turn_line) k e = absurd cc
  joinable_tells (Some (back_line p j)) k e = absurd cc
  joinable_tells (Some (put_line p f)) k e = absurd cc
  joinable_tells (Some (see_line p j)) k e = absurd cc
  joinable_tells (Some (take_line p f w)) k e = absurd cc
  joinable_tells (Some (wait_line j)) k e = absurd cc
  joinable_tells (Some (call_line j a)) k e = absurd cc

  idle_leaves : (lines : List Line) (x : Option ℕ) → joinable (slice_get lines (length lines - 1)) ≡ x → Leaves lines (with_idle x lines)
  idle_leaves lines None e = leaves_with lines (idle_line 1) (idle_mute 1)
  idle_leaves lines (Some k) e = leaves_front lines (idle_line k) (idle_line (k + 1)) (joinable_tells (slice_get lines (length lines - 1)) k e) (idle_mute k) (idle_mute (k + 1))

  -- ---- tries

  spin_if : (b : Bool) (m k : ℕ) (v : Refusal) → cond b (Some m) None ≡ Some k → (w : Refusal) × (Some (spin_line m v) ≡ Some (spin_line k w))
  spin_if true m k v e = let same : m ≡ k = cc in (v, ap (λ j. Some (spin_line j v)) same)
  spin_if false m k v e = absurd cc

  spinning_tells : (word : Refusal) (x : Option Line) (k : ℕ) → spinning word x ≡ Some k → (w : Refusal) × (x ≡ Some (spin_line k w))
  spinning_tells word None k e = absurd cc
  spinning_tells word (Some (idle_line m)) k e = absurd cc
  spinning_tells word (Some (again_line w)) k e = absurd cc
  spinning_tells word (Some (spin_line m v)) k e = spin_if (same_word v word && ltb m (2 ^ 64 - 1)) m k v e
  spinning_tells word (Some turn_line) k e = absurd cc
  spinning_tells word (Some (back_line p j)) k e = absurd cc
  spinning_tells word (Some (put_line p f)) k e = absurd cc
  spinning_tells word (Some (see_line p j)) k e = absurd cc
  spinning_tells word (Some (take_line p f w)) k e = absurd cc
  spinning_tells word (Some (wait_line j)) k e = absurd cc
  spinning_tells word (Some (call_line j a)) k e = absurd cc

  spin_leaves : (word : Refusal) (lines : List Line) (x : Option ℕ) → spinning word (slice_get lines (length lines - 1)) ≡ x → Leaves lines (with_spin word x lines)
  spin_leaves word lines None e = leaves_with lines (spin_line 1 word) (spin_mute 1 word)
  spin_leaves word lines (Some k) e =
      let t = spinning_tells word (slice_get lines (length lines - 1)) k e in
      leaves_front lines (spin_line k t.0) (spin_line (k + 1) word) t.1 (spin_mute k t.0) (spin_mute (k + 1) word)

  one_idle_tells : (x : Option Line) → is_one_idle x ≡ true → (k : ℕ) × (x ≡ Some (idle_line k))
  one_idle_tells None e = absurd cc
  one_idle_tells (Some (idle_line k)) e = (k, refl)
  one_idle_tells (Some (again_line w)) e = absurd cc
  one_idle_tells (Some (spin_line k w)) e = absurd cc
  one_idle_tells (Some turn_line) e = absurd cc
  one_idle_tells (Some (back_line p k)) e = absurd cc
  one_idle_tells (Some (put_line p f)) e = absurd cc
  one_idle_tells (Some (see_line p k)) e = absurd cc
  one_idle_tells (Some (take_line p f w)) e = absurd cc
  one_idle_tells (Some (wait_line k)) e = absurd cc
  one_idle_tells (Some (call_line k a)) e = absurd cc

  again_by : (word : Refusal) (lines : List Line) (b : Bool) → is_one_idle (slice_get lines (length lines - 1)) ≡ b → Leaves lines (cond b (noted_spin word (take (length lines - 1) lines)) (lines ++ again_line word ∷ []))
  again_by word lines false e = leaves_with lines (again_line word) (again_mute word)
  again_by word lines true e =
      let front = take (length lines - 1) lines in
      let idle = one_idle_tells (slice_get lines (length lines - 1)) e in
      let spun = spin_leaves word front (spinning word (slice_get front (length front - 1))) refl in
      record { closed = spun.closed ∙ (sym (end-closed front (idle_line idle.0) (idle_mute idle.0)) ∙ ap closed_in (sym (last_split lines (idle_line idle.0) idle.1))); last = spun.last }

  -- ---- entries

  pub again-closed : (word : Refusal) (lines : List Line) → closed_in (noted lines (again word)) ≡ closed_in lines
  again-closed word lines = (again_by word lines (is_one_idle (slice_get lines (length lines - 1))) refl).closed

  pub again-closing : (word : Refusal) (lines : List Line) → closing (noted lines (again word)) ≡ false
  again-closing word lines = (again_by word lines (is_one_idle (slice_get lines (length lines - 1))) refl).last

  turned_by : (lines : List Line) (vs : List Visit) (b : Bool) → AllByRecursion IsMute (flat_map visit_lines vs) → Leaves lines (cond b (noted_idle lines) (lines ++ turn_line ∷ flat_map visit_lines vs))
  turned_by lines vs true mute = idle_leaves lines (joinable (slice_get lines (length lines - 1))) refl
  turned_by lines vs false mute =
      let all : AllByRecursion IsMute (turn_line ∷ flat_map visit_lines vs) = (record { closes = refl; tells = refl }, mute) in
      record {
        closed = omega (arith, closed-append false lines (turn_line ∷ flat_map visit_lines vs), mute-closed (closing lines) (turn_line ∷ flat_map visit_lines vs) all);
        last = closing-append false lines (turn_line ∷ flat_map visit_lines vs) ∙ mute-last (flat_map visit_lines vs) mute;
      }

  -- the lines of a turn, none of whose owed frames closes the channel
  abbrev pub OwesNone : Visit → Type 0
  OwesNone v = AllByRecursion (λ f. closes_channel n f ≡ false) v.owed

  off_and : (a b : Bool) → b ≡ false → (a && b) ≡ false
  off_and true b off = off
  off_and false b off = refl

  looked_mute : (b : Bool) (l : Line) → IsMute l → AllByRecursion IsMute (cond b [] (l ∷ []))
  looked_mute true l mute = tt
  looked_mute false l mute = (mute, tt)

  puts_mute : (p : ℕ) (fs : List (List ℕ)) → AllByRecursion (λ f. closes_channel n f ≡ false) fs → AllByRecursion IsMute (map (put_line p) fs)
  puts_mute p [] none = tt
  puts_mute p (f ∷ fs) none = (record { closes = off_and (p == o) (closes_channel n f) none.0; tells = refl }, puts_mute p fs none.1)

  takes_mute : (p : ℕ) (ts : List Taken) → AllByRecursion IsMute (map (taken_line p) ts)
  takes_mute p [] = tt
  takes_mute p (t ∷ ts) = (record { closes = refl; tells = refl }, takes_mute p ts)

  visit_mute : (v : Visit) → OwesNone v → AllByRecursion IsMute (visit_lines v)
  visit_mute v none =
      all-append IsMute (looked (back_line v.peer) v.back) (map (put_line v.peer) v.owed ++ (looked (see_line v.peer) v.see ++ map (taken_line v.peer) v.takes)) (looked_mute (v.back == 0) (back_line v.peer v.back) (record { closes = refl; tells = refl }))
      (all-append IsMute (map (put_line v.peer) v.owed) (looked (see_line v.peer) v.see ++ map (taken_line v.peer) v.takes) (puts_mute v.peer v.owed none)
      (all-append IsMute (looked (see_line v.peer) v.see) (map (taken_line v.peer) v.takes) (looked_mute (v.see == 0) (see_line v.peer v.see) (record { closes = refl; tells = refl })) (takes_mute v.peer v.takes)))

  visits_mute : (vs : List Visit) → AllByRecursion OwesNone vs → AllByRecursion IsMute (flat_map visit_lines vs)
  visits_mute [] none = tt
  visits_mute (v ∷ vs) none = all-append IsMute (visit_lines v) (flat_map visit_lines vs) (visit_mute v none.0) (visits_mute vs none.1)

  pub turned-closed : (lines : List Line) (vs : List Visit) → AllByRecursion OwesNone vs → closed_in (noted lines (turned vs)) ≡ closed_in lines
  turned-closed lines vs none = (turned_by lines vs (list_all is_idle vs) (visits_mute vs none)).closed

  pub turned-closing : (lines : List Line) (vs : List Visit) → AllByRecursion OwesNone vs → closing (noted lines (turned vs)) ≡ false
  turned-closing lines vs none = (turned_by lines vs (list_all is_idle vs) (visits_mute vs none)).last

  pub put-closed : (lines : List Line) (p : ℕ) (f : List ℕ) → closed_in (noted lines (put p f)) ≡ closed_in lines
  put-closed lines p f = omega (arith, closed-append false lines (put_line p f ∷ []), zero_if (closing lines) 0 refl)

  pub put-closing : (lines : List Line) (p : ℕ) (f : List ℕ) → closing (noted lines (put p f)) ≡ is_close_put o n (put_line p f)
  put-closing lines p f = closing-append false lines (put_line p f ∷ [])

  wait_mute : (k : ℕ) → IsMute (wait_line k)
  wait_mute k = record { closes = refl; tells = refl }

  pub waits-closed : (lines : List Line) (k : ℕ) → closed_in (noted lines (waits k)) ≡ closed_in lines
  waits-closed lines k = end-closed lines (wait_line k) (wait_mute k)

  pub waits-closing : (lines : List Line) (k : ℕ) → closing (noted lines (waits k)) ≡ false
  waits-closing lines k = end-closing lines (wait_line k) (wait_mute k)

  pub called-closed : (lines : List Line) (k : ℕ) (a : PlainAnswer) → closed_in (noted lines (called k a)) ≡ closed_in lines + cond (closing lines) (number_told a) 0
  called-closed lines k a = omega (arith, closed-append false lines (call_line k a ∷ []))

  pub called-closing : (lines : List Line) (k : ℕ) (a : PlainAnswer) → closing (noted lines (called k a)) ≡ false
  called-closing lines k a = closing-append false lines (call_line k a ∷ [])
