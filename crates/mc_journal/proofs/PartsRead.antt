-- What follows where a reader of parts gives a value, and that it gives the value that is written.
use Rattle.std.proofs.Common.{◌≡◌, ℕ, ◌^◌, ◌<◌, ◌≤◌, Bool, true, false, cond, List, [], ◌∷◌, ◌++◌, Option, Some, None, bytes_eq, refl, sym, ap, ap₂, subst, ◌∙◌, arith, eqb-true}
use Rattle.std.specs.Prelude.{decimal, not, ◌==◌, option_map}
use Rattle.std.specs.List.{list_all}
use Rattle.std.proofs.lemmas.Bool.{and_parts, and_from}
use Rattle.std.proofs.lemmas.Bool.Decides.{nat_tests}
use Rattle.std.proofs.lemmas.Slice.Eq.{bytes_eq-Decides}
use Rattle.board_model.specs.FileWords.{is_digit, number_of}
use Rattle.board_model.proofs.WordDecimals.{number_of-decimal, decimal-digits}
use Rattle.board_model.specs.Numerals.{is_other}
use Rattle.mc_journal.specs.Readers.{onto_first, cut_at, both, or_else, only, pair_by, pair_in}
use Rattle.mc_journal.proofs.Cuts.{cut-found, cut-not}

-- ---- what was read

pub if_gives : {A : Type 0} (b : Bool) (o p : Option A) (P : A → Type 0) → (b ≡ true → (a : A) → o ≡ Some a → P a) → (b ≡ false → (a : A) → p ≡ Some a → P a) → (a : A) → cond b o p ≡ Some a → P a
if_gives true o p P this other a e = this refl a e
if_gives false o p P this other a e = other refl a e

pub map_gives : {A B : Type 0} (make : A → B) (o : Option A) (P : B → Type 0) → ((a : A) → o ≡ Some a → P (make a)) → (b : B) → option_map make o ≡ Some b → P b
map_gives make None P each b e = absurd cc
map_gives make (Some a) P each b e =
    let same : make a ≡ b = cc in
    subst P same (each a refl)

pub both_give : {A B C : Type 0} (make : A → B → C) (o : Option A) (p : Option B) (P : C → Type 0) → ((a : A) (b : B) → o ≡ Some a → p ≡ Some b → P (make a b)) → (c : C) → both make o p ≡ Some c → P c
both_give make None p P each c e = absurd cc
both_give make (Some a) None P each c e = absurd cc
both_give make (Some a) (Some b) P each c e =
    let same : make a b ≡ c = cc in
    subst P same (each a b refl refl)

pub or_gives : {A : Type 0} (o p : Option A) (P : A → Type 0) → ((a : A) → o ≡ Some a → P a) → ((a : A) → p ≡ Some a → P a) → (a : A) → or_else o p ≡ Some a → P a
or_gives (Some x) p P this other a e = this a e
or_gives None p P this other a e = other a e

pub only_gives : {A : Type 0} (test : A → Bool) (o : Option A) (a : A) → only test o ≡ Some a → (test a ≡ true) × (o ≡ Some a)
only_gives test None a e = absurd cc
only_gives test (Some x) a e = go (test x) refl e
  where
    go : (t : Bool) → test x ≡ t → cond t (Some x) None ≡ Some a → (test a ≡ true) × (Some x ≡ Some a)
    go true is e = let same : x ≡ a = cc in (ap test (sym same) ∙ is, e)
    go false is e = absurd cc

cut_more : (b : ℕ) (o : Option (List ℕ × List ℕ)) (c : ℕ) (bs : List ℕ) (x : List ℕ × List ℕ) → ((y : List ℕ × List ℕ) → o ≡ Some y → bs ≡ y.0 ++ c ∷ y.1) → onto_first b o ≡ Some x → b ∷ bs ≡ x.0 ++ c ∷ x.1
cut_more b None c bs x h e = absurd cc
cut_more b (Some y) c bs x h e =
    let same : ◌≡◌ {A = List ℕ × List ℕ} (b ∷ y.0, y.1) x = cc in
    ap (λ (xs : List ℕ). b ∷ xs) (h y refl) ∙ ap (λ (z : List ℕ × List ℕ). z.0 ++ c ∷ z.1) same

pub cut-is : (c : ℕ) (text : List ℕ) (x : List ℕ × List ℕ) → cut_at c text ≡ Some x → text ≡ x.0 ++ c ∷ x.1
cut-is c [] x e = absurd cc
cut-is c (b ∷ bs) x e = go (b == c) refl e (λ y is. cut-is c bs y is)
  where
    go : (t : Bool) → (b == c) ≡ t → cond t (Some ([], bs)) (onto_first b (cut_at c bs)) ≡ Some x → ((y : List ℕ × List ℕ) → cut_at c bs ≡ Some y → bs ≡ y.0 ++ c ∷ y.1) → b ∷ bs ≡ x.0 ++ c ∷ x.1
    go true is e rest =
        let same : ◌≡◌ {A = List ℕ × List ℕ} ([], bs) x = cc in
        ap (λ (y : ℕ). y ∷ bs) (eqb-true b c is) ∙ ap (λ (z : List ℕ × List ℕ). z.0 ++ c ∷ z.1) same
    go false is e rest = cut_more b (cut_at c bs) c bs x rest e

pub pair_gives : {A B C : Type 0} (first : List ℕ → Option A) (second : List ℕ → Option B) (make : A → B → C) (P : C → List ℕ → Type 0)
    → ((u v : List ℕ) (a : A) (b : B) → first u ≡ Some a → second v ≡ Some b → P (make a b) (u ++ 32 ∷ v)) → (text : List ℕ) (c : C) → pair_in first second make text ≡ Some c → P c text
pair_gives {C = C} first second make P each text c e = go (cut_at 32 text) refl e
  where
    go : (o : Option (List ℕ × List ℕ)) → cut_at 32 text ≡ o → pair_by first second make o ≡ Some c → P c text
    go None is e = absurd cc
    go (Some x) is e =
        subst (P c) (sym (cut-is 32 text x is)) (both_give make (first x.0) (second x.1) (λ (d : C). P d (x.0 ++ 32 ∷ x.1)) (λ a b h k. each x.0 x.1 a b h k) c e)

-- ---- what is written

no_blank : (ds : List ℕ) → list_all is_digit ds ≡ true → list_all (is_other 32) ds ≡ true
no_blank [] h = refl
no_blank (d ∷ ds) h =
    let p = and_parts (is_digit d) (list_all is_digit ds) h in
    and_from (is_other 32 d) (list_all (is_other 32) ds) (digit_other d p.0) (no_blank ds p.1)
  where
    digit_other : (b : ℕ) → is_digit b ≡ true → is_other 32 b ≡ true
    digit_other b h = let low : 48 ≤ b = grind (arith, nat_tests) in let differs : (b == 32) ≡ false = grind (arith, nat_tests) in ap not differs

-- a number is one word
pub decimal-alone : (n : ℕ) → n < 2 ^ 64 → list_all (is_other 32) (decimal n) ≡ true
decimal-alone n small = no_blank (decimal n) (decimal-digits n small)

pub decimal-cut : (n : ℕ) → n < 2 ^ 64 → cut_at 32 (decimal n) ≡ None
decimal-cut n small = cut-not 32 (decimal n) (decimal-alone n small)

-- and no word that is no number
pub decimal-no_word : (w : List ℕ) (n : ℕ) → n < 2 ^ 64 → number_of w ≡ None → bytes_eq (decimal n) w ≡ false
decimal-no_word w n small none = go (bytes_eq (decimal n) w) refl
  where
    go : (t : Bool) → bytes_eq (decimal n) w ≡ t → t ≡ false
    go true is =
        let read = sym (number_of-decimal n small) ∙ ap number_of ((bytes_eq-Decides (decimal n) w).0 is) ∙ none in
        absurd cc
    go false is = refl

pub pair_read : {A B C : Type 0} (first : List ℕ → Option A) (second : List ℕ → Option B) (make : A → B → C) (u v : List ℕ) (a : A) (b : B)
    → list_all (is_other 32) u ≡ true → first u ≡ Some a → second v ≡ Some b → pair_in first second make (u ++ 32 ∷ v) ≡ Some (make a b)
pair_read first second make u v a b alone h k = ap (pair_by first second make) (cut-found 32 u v alone) ∙ ap₂ (both make) h k
