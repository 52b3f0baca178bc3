-- Deeds with buffers' numbers for names are those of a journal by new names: the name of a place is the number of the buffer of the frame there.
use Rattle.std.proofs.Common.{◌≡◌, ℕ, zero, suc, Bool, true, false, cond, List, [], ◌∷◌, ◌++◌, length, map, Option, None, Some, refl, ap, ap₂, sym, ◌∙◌, subst, arith, append_assoc, append-nil, length-append, eq-eqb}
use Rattle.std.specs.Prelude.{◌==◌, slice_index, option_to_list}
use Rattle.std.specs.List.{AllByRecursion}
use Rattle.mc_base.specs.declared.fate.Fate.{Fate}
use Rattle.board_model.specs.Deeds.{Deed, looks_back, puts_owed, looks_ahead, takes, calls}
use Rattle.board_model.proofs.DeedRuns.{taken_by, count_taken, IsNamed, AreNamed}
use Rattle.board_model.proofs.DeedTraffic.{count-join}
use Rattle.board_model.proofs.RenamedDeeds.{renamed_deed}
use Rattle.lane_images.specs.DeedMoves.{nameless_deed, IsNumbered}
use Rattle.lane_images.proofs.NewNames.{new_name}

-- the names of the frames that are taken from a peer
abbrev pub named_in : ℕ → Deed → List ℕ
named_in p (takes q name frame word) = cond (q == p) (option_to_list name) []
named_in p other = []

abbrev pub all_named : ℕ → List Deed → List ℕ
all_named p [] = []
all_named p (d ∷ ds) = named_in p d ++ all_named p ds

abbrev pub name_at : List Deed → ℕ → ℕ → ℕ
name_at all p place = slice_index (all_named p all) place

all_named-append : (p : ℕ) (xs ys : List Deed) → all_named p (xs ++ ys) ≡ all_named p xs ++ all_named p ys
all_named-append p [] ys = refl
all_named-append p (x ∷ xs) ys = ap (λ ns. named_in p x ++ ns) (all_named-append p xs ys) ∙ sym (append_assoc (named_in p x) (all_named p xs) (all_named p ys))

index-there : (xs ys : List ℕ) (n k : ℕ) → length xs ≡ k → slice_index (xs ++ n ∷ ys) k ≡ n
index-there [] ys n zero e = refl
index-there [] ys n (suc k) e = absurd (omega (arith, e))
index-there (x ∷ xs) ys n zero e = absurd (omega (arith, e))
index-there (x ∷ xs) ys n (suc k) e = index-there xs ys n k (omega (arith, e))

-- a deed by a new name, which takes a frame where the other does
record Renames (g : ℕ → ℕ → ℕ) (d x : Deed) : Type 0 where
  is : d ≡ renamed_deed (new_name g) x
  counts : (q : ℕ) → length (named_in q d) ≡ taken_by q x

one_or_none : (b : Bool) (n : ℕ) → length (cond b (n ∷ []) []) ≡ cond b 1 0
one_or_none true n = refl
one_or_none false n = refl

-- one that takes no frame
abbrev IsNoTake : Deed → Type 0
IsNoTake (takes p name frame word) = ⊥
IsNoTake other = Unit {0}

same-deed : (d x : Deed) → IsNoTake x → nameless_deed d ≡ x → d ≡ x
same-deed (takes p name frame word) x quiet e = absurd (subst IsNoTake (sym e) quiet)
same-deed (looks_back p c) x quiet e = e
same-deed (puts_owed p f) x quiet e = e
same-deed (looks_ahead p c) x quiet e = e
same-deed (calls node call a) x quiet e = e

module _ (all : List Deed) where
  renames-take : (done rest : List Deed) (before : List Deed) (d : Deed) (p : ℕ) (name : Option ℕ) (frame : List ℕ) (word : Fate) → all ≡ done ++ d ∷ rest → ((q : ℕ) → length (all_named q done) ≡ count_taken q before)
      → IsNumbered d → nameless_deed d ≡ takes p None frame word → name ≡ Some (count_taken p before) → Renames (name_at all) d (takes p name frame word)
  renames-take done rest before (looks_back q c) p name frame word is many numbered same named = absurd cc
  renames-take done rest before (puts_owed q f) p name frame word is many numbered same named = absurd cc
  renames-take done rest before (looks_ahead q c) p name frame word is many numbered same named = absurd cc
  renames-take done rest before (calls node call a) p name frame word is many numbered same named = absurd cc
  renames-take done rest before (takes q None f w) p name frame word is many numbered same named = absurd cc
  renames-take done rest before (takes q (Some n) f w) p name frame word is many numbered same named =
      let peer : q ≡ p = cc in let frames : f ≡ frame = cc in let words : w ≡ word = cc in
      let number : slice_index (all_named p all) (count_taken p before) ≡ n =
      ap (λ ds. slice_index (all_named p ds) (count_taken p before)) is
      ∙ (ap (λ ns. slice_index ns (count_taken p before)) (all_named-append p done (takes q (Some n) f w ∷ rest)
      ∙ ap (λ (b : Bool). all_named p done ++ (cond b (n ∷ []) [] ++ all_named p rest)) (eq-eqb q p peer))
      ∙ index-there (all_named p done) (all_named p rest) n (count_taken p before) (many p)) in
      record {
        is = (λ i. takes (peer i) (Some (sym number i)) (frames i) (words i)) ∙ ap (λ (o : Option ℕ). takes p (new_name (name_at all) p o) frame word) (sym named);
        counts = λ r. one_or_none (q == r) n ∙ ap (λ (k : ℕ). cond {A = ℕ} (k == r) 1 0) peer;
      }

  renames : (done rest : List Deed) (before : List Deed) (d x : Deed) → all ≡ done ++ d ∷ rest → ((q : ℕ) → length (all_named q done) ≡ count_taken q before)
      → IsNumbered d → nameless_deed d ≡ nameless_deed x → IsNamed before x → Renames (name_at all) d x
  renames done rest before d (takes p name frame word) is many numbered same named = renames-take done rest before d p name frame word is many numbered same named
  renames done rest before d (looks_back p c) is many numbered same named = let e = same-deed d (looks_back p c) tt same in record { is = e; counts = λ q. ap (λ y. length (named_in q y)) e }
  renames done rest before d (puts_owed p f) is many numbered same named = let e = same-deed d (puts_owed p f) tt same in record { is = e; counts = λ q. ap (λ y. length (named_in q y)) e }
  renames done rest before d (looks_ahead p c) is many numbered same named = let e = same-deed d (looks_ahead p c) tt same in record { is = e; counts = λ q. ap (λ y. length (named_in q y)) e }
  renames done rest before d (calls node call a) is many numbered same named = let e = same-deed d (calls node call a) tt same in record { is = e; counts = λ q. ap (λ y. length (named_in q y)) e }

  pub renamed-are : (done ds before xs : List Deed) → all ≡ done ++ ds → ((q : ℕ) → length (all_named q done) ≡ count_taken q before) → AllByRecursion IsNumbered ds → map nameless_deed ds ≡ map nameless_deed xs → AreNamed before xs
      → ds ≡ map (renamed_deed (new_name (name_at all))) xs
  renamed-are done [] before [] is many numbered same named = refl
  renamed-are done [] before (x ∷ xs) is many numbered same named = absurd cc
  renamed-are done (d ∷ ds) before [] is many numbered same named = absurd cc
  renamed-are done (d ∷ ds) before (x ∷ xs) is many numbered same named =
      let head : nameless_deed d ≡ nameless_deed x = cc in let tail : map nameless_deed ds ≡ map nameless_deed xs = cc in
      let r = renames done ds before d x is many numbered.0 head named.0 in
      ap₂ (λ (y : Deed) (ys : List Deed). y ∷ ys) r.is
      (renamed-are (done ++ d ∷ []) ds (before ++ x ∷ []) xs (is ∙ sym (append_assoc done (d ∷ []) ds))
      (λ q.
      let m = many q in let c = r.counts q in let a = ap (λ ns. length ns) (all_named-append q done (d ∷ [])) in let l = length-append (all_named q done) (named_in q d ++ []) in
      let n = ap (λ ns. length ns) (append-nil (named_in q d)) in let j = count-join q before (x ∷ []) in omega (arith, m, c, a, l, n, j))
      numbered.1 tail named.1)
