-- What the lines of a visit count: those of the frames that it puts, and those of the frames that it takes.
use Rattle.std.proofs.Common.{◌≡◌, ℕ, ◌+◌, Bool, true, false, cond, List, [], ◌∷◌, ◌++◌, map, refl, ◌∙◌, arith}
use Rattle.std.specs.Prelude.{count_by, ◌==◌}
use Rattle.board_model.specs.Journal.{Visit, Line, back_line, put_line, see_line, taken_line, looked, visit_lines}
use Rattle.board_model.proofs.MessageBest.{count-cons}
use Rattle.board_model.proofs.ListsCounts.{count-append}

-- ---- lists

pub count-map : {A B : Type 0} (test : B → Bool) (f : A → B) (xs : List A) → count_by test (map f xs) ≡ count_by (λ x. test (f x)) xs
count-map test f [] = refl
count-map test f (x ∷ xs) = omega (arith, count-map test f xs, count-cons test (f x) (map f xs), count-cons (λ y. test (f y)) x xs)

none_more : (b : Bool) (n : ℕ) → b ≡ false → n ≡ 0 → cond b 1 0 + n ≡ 0
none_more true n never e = absurd cc
none_more false n never e = omega arith

pub count-never : {A : Type 0} (test : A → Bool) (never : (x : A) → test x ≡ false) (xs : List A) → count_by test xs ≡ 0
count-never test never [] = refl
count-never test never (x ∷ xs) = count-cons test x xs ∙ none_more (test x) (count_by test xs) (never x) (count-never test never xs)

-- ---- the lines of a visit

looked_none : (b : Bool) (test : Line → Bool) (l : Line) → test l ≡ false → count_by test (cond b [] (l ∷ [])) ≡ 0
looked_none true test l never = refl
looked_none false test l never = count-cons test l [] ∙ none_more (test l) 0 never refl

looked_count : (test : Line → Bool) (line : ℕ → Line) (n : ℕ) → ((m : ℕ) → test (line m) ≡ false) → count_by test (looked line n) ≡ 0
looked_count test line n never = looked_none (n == 0) test (line n) (never n)

pub visit_lines_count : (test : Line → Bool) (v : Visit) → ((p n : ℕ) → test (back_line p n) ≡ false) → ((p n : ℕ) → test (see_line p n) ≡ false) →
    count_by test (visit_lines v) ≡ count_by (λ f. test (put_line v.peer f)) v.owed + count_by (λ t. test (taken_line v.peer t)) v.takes
visit_lines_count test v no_back no_see =
    let backs = looked (back_line v.peer) v.back in
    let owed = map (put_line v.peer) v.owed in
    let sees = looked (see_line v.peer) v.see in
    let takes = map (taken_line v.peer) v.takes in
    omega (
      arith,
      count-append test backs (owed ++ (sees ++ takes)),
      count-append test owed (sees ++ takes),
      count-append test sees takes,
      looked_count test (back_line v.peer) v.back (no_back v.peer),
      looked_count test (see_line v.peer) v.see (no_see v.peer),
      count-map test (put_line v.peer) v.owed,
      count-map test (taken_line v.peer) v.takes,
    )
