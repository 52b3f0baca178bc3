-- Reading lines back, one part after the other.
use Rattle.std.proofs.Common.{◌≡◌, ℕ, zero, suc, ◌+◌, ◌-◌, Bool, true, false, cond, List, [], ◌∷◌, ◌++◌, length, map, refl, sym, ap, ◌∙◌, arith, append_assoc, append-nil}
use Rattle.std.specs.Prelude.{nat_lt}
use Rattle.std.specs.List.{AllByRecursion}
use Rattle.board_model.specs.declared.scenario.CallLine.{CallLine}
use Rattle.board_model.specs.Journal.{PlainEntry, put, again, called, Line, idle_line, again_line, spin_line, turn_line, back_line, put_line, see_line, take_line, wait_line, call_line}
use Rattle.board_model.specs.Unjoined.{times, Tail, tail, with_line, read_onto, entries_in, idle_turn, turn_in, puts_of, line_numbered}

-- n + 1 times
times-suc : {A : Type 0} (n : ℕ) (xs : List A) → times (suc n) xs ≡ times n xs ++ xs
times-suc zero xs = append-nil xs
times-suc (suc n) xs = ap (λ ys. xs ++ ys) (times-suc n xs) ∙ sym (append_assoc xs (times n xs) xs)

pub times-more : {A : Type 0} (n : ℕ) (xs : List A) → times (n + 1) xs ≡ times n xs ++ xs
times-more n xs = let one : n + 1 ≡ suc n = omega arith in ap (λ k. times k xs) one ∙ times-suc n xs

-- the frames that a call puts, each with its peer, as lines and as entries
abbrev pub put_lines : List (ℕ × List ℕ) → List Line
put_lines ps = map (λ p. put_line p.0 p.1) ps

abbrev pub put_entries : List (ℕ × List ℕ) → List PlainEntry
put_entries ps = map (λ p. put p.0 p.1) ps

-- a line that stands in a turn
abbrev pub IsOfTurn : Line → Type 0
IsOfTurn (back_line p n) = Unit {0}
IsOfTurn (put_line p frame) = Unit {0}
IsOfTurn (see_line p n) = Unit {0}
IsOfTurn (take_line p frame fate) = Unit {0}
IsOfTurn other = ⊥

-- the same with more entries behind
abbrev pub more : Tail → List PlainEntry → Tail
more t es = record t { entries = t.entries ++ es }

module _ (peers : List ℕ) (lines : List CallLine) where
  pub read-append : (xs ys : List Line) (t : Tail) → read_onto peers lines (xs ++ ys) t ≡ read_onto peers lines xs (read_onto peers lines ys t)
  read-append [] ys t = refl
  read-append (x ∷ xs) ys t = ap (with_line peers lines x) (read-append xs ys t)

  with_line-more : (l : Line) (t : Tail) (es : List PlainEntry) → with_line peers lines l (more t es) ≡ more (with_line peers lines l t) es
  with_line-more (idle_line n) t es = ap (tail 0 []) (sym (append_assoc (times n (idle_turn peers ∷ [])) t.entries es))
  with_line-more (again_line word) t es = refl
  with_line-more (spin_line n word) t es = ap (tail 0 []) (sym (append_assoc (times n (idle_turn peers ∷ again word ∷ [])) t.entries es))
  with_line-more turn_line t es = refl
  with_line-more (back_line p n) t es = refl
  with_line-more (put_line p frame) t es = go (nat_lt 0 t.due)
    where
      go : (b : Bool) → cond b (tail (t.due - 1) t.behind (put p frame ∷ (t.entries ++ es))) (tail 0 (put_line p frame ∷ t.behind) (t.entries ++ es)) ≡ more (cond b (tail (t.due - 1) t.behind (put p frame ∷ t.entries)) (tail 0 (put_line p frame ∷ t.behind) t.entries)) es
      go true = refl
      go false = refl
  with_line-more (see_line p n) t es = refl
  with_line-more (take_line p frame fate) t es = refl
  with_line-more (call_line k a) t es = refl
  with_line-more (wait_line k) t es = refl

  read-more : (xs : List Line) (t : Tail) (es : List PlainEntry) → read_onto peers lines xs (more t es) ≡ more (read_onto peers lines xs t) es
  read-more [] t es = refl
  read-more (x ∷ xs) t es = ap (with_line peers lines x) (read-more xs t es) ∙ with_line-more x (read_onto peers lines xs t) es

  -- where lines leave nothing open, their entries stand behind those of the lines in front
  pub entries-more : (xs ys : List Line) (es : List PlainEntry) → read_onto peers lines ys (tail 0 [] []) ≡ tail 0 [] es → entries_in peers lines (xs ++ ys) ≡ entries_in peers lines xs ++ es
  entries-more xs ys es e = ap (λ (t : Tail). t.entries) (read-append xs ys (tail 0 [] []) ∙ ap (read_onto peers lines xs) e ∙ read-more xs (tail 0 [] []) es)

  -- the put lines of a call
  read-puts : (ps : List (ℕ × List ℕ)) (k : ℕ) (es : List PlainEntry) → read_onto peers lines (put_lines ps) (tail (k + length ps) [] es) ≡ tail k [] (put_entries ps ++ es)
  read-puts [] k es = ap (λ n. tail n [] es) (omega arith)
  read-puts (p ∷ ps) k es =
      let shift : k + suc (length ps) ≡ suc k + length ps = omega arith in
      let some : nat_lt 0 (suc k) ≡ true = grind arith in
      let less : suc k - 1 ≡ k = omega arith in
      ap (λ n. with_line peers lines (put_line p.0 p.1) (read_onto peers lines (put_lines ps) (tail n [] es))) shift
      ∙ ap (with_line peers lines (put_line p.0 p.1)) (read-puts ps (suc k) es)
      ∙ rw (some, less) refl

  pub read-called : (ps : List (ℕ × List ℕ)) (k : ℕ) (a : _) → length ps ≡ puts_of (line_numbered lines k) a → read_onto peers lines (put_lines ps ++ call_line k a ∷ []) (tail 0 [] []) ≡ tail 0 [] (put_entries ps ++ called k a ∷ [])
  read-called ps k a e =
      let due : puts_of (line_numbered lines k) a ≡ 0 + length ps = sym e ∙ omega arith in
      read-append (put_lines ps) (call_line k a ∷ []) (tail 0 [] [])
      ∙ ap (λ n. read_onto peers lines (put_lines ps) (tail n [] (called k a ∷ []))) due
      ∙ read-puts ps 0 (called k a ∷ [])

  -- the lines of a turn
  read-turn_lines : (xs behind : List Line) (es : List PlainEntry) → AllByRecursion IsOfTurn xs → read_onto peers lines xs (tail 0 behind es) ≡ tail 0 (xs ++ behind) es
  read-turn_lines [] behind es all = refl
  read-turn_lines (back_line p n ∷ xs) behind es all = ap (with_line peers lines (back_line p n)) (read-turn_lines xs behind es all.1)
  read-turn_lines (put_line p frame ∷ xs) behind es all = ap (with_line peers lines (put_line p frame)) (read-turn_lines xs behind es all.1)
  read-turn_lines (see_line p n ∷ xs) behind es all = ap (with_line peers lines (see_line p n)) (read-turn_lines xs behind es all.1)
  read-turn_lines (take_line p frame fate ∷ xs) behind es all = ap (with_line peers lines (take_line p frame fate)) (read-turn_lines xs behind es all.1)
  read-turn_lines (idle_line n ∷ xs) behind es all = absurd all.0
  read-turn_lines (again_line w ∷ xs) behind es all = absurd all.0
  read-turn_lines (spin_line n w ∷ xs) behind es all = absurd all.0
  read-turn_lines (turn_line ∷ xs) behind es all = absurd all.0
  read-turn_lines (call_line k a ∷ xs) behind es all = absurd all.0
  read-turn_lines (wait_line k ∷ xs) behind es all = absurd all.0

  pub read-turn : (xs : List Line) → AllByRecursion IsOfTurn xs → read_onto peers lines (turn_line ∷ xs) (tail 0 [] []) ≡ tail 0 [] (turn_in peers xs ∷ [])
  read-turn xs all = ap (with_line peers lines turn_line) (read-turn_lines xs [] [] all) ∙ ap (λ ys. tail 0 [] (turn_in peers ys ∷ [])) (append-nil xs)
