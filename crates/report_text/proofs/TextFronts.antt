-- The text of lines, and the lines of a text, parted at a line.
use Rattle.std.proofs.Common.{◌≡◌, ◌⊎◌, ℕ, zero, suc, ◌+◌, ◌-◌, ◌≤◌, max, Bool, true, false, cond, List, [], ◌∷◌, ◌++◌, length, take, drop, Option, Some, None, refl, sym, ap, subst, ◌∙◌, arith, inl, inr, append_assoc, append-nil}
use Rattle.std.specs.Prelude.{◌==◌, bytes_eq}
use Rattle.std.proofs.Math.ListN.{length-append}
use Rattle.std.proofs.lemmas.Bool.Decides.{nat_tests, same_from_decides}
use Rattle.std.proofs.lemmas.Slice.Eq.{bytes_eq-Decides}
use Rattle.std.proofs.lemmas.List.{append_cancel_right}
use Rattle.std.proofs.Math.Seq.{take-append_seam, drop-append_seam}
use Rattle.board_model.specs.FileLines.{onto_first}
use Rattle.mc_journal.specs.Readers.{cut_at}
use Rattle.mc_journal.specs.Readers.{onto_first as onto_cut}
use Rattle.report_text.specs.TextLines.{first_other, lines_in, moved}
use Rattle.report_text.specs.ScenarioPart.{is_journal, begins_journal, front_lines, behind_front, text_of}
use Rattle.report_text.specs.Texts.{longest, longest_line}
use Rattle.report_text.proofs.TextCuts.{cut-again, lines-cut, lines-some, lines-uncut, uncut-behind}

-- ---- lines

abbrev pub Ended : List ℕ → Type 0
Ended l = (x : List ℕ) × (cut_at 10 x ≡ None) × (l ≡ x ++ 10 ∷ [])

abbrev Unended : List ℕ → Type 0
Unended l = (b : ℕ) × (bs : List ℕ) × (cut_at 10 l ≡ None) × (l ≡ b ∷ bs)

-- each ends with its newline, but for the last, which may have none
abbrev pub AreLines : List (List ℕ) → Type 0
AreLines [] = Unit {0}
AreLines (l ∷ ls) = (Ended l × AreLines ls) ⊎ (Unended l × (ls ≡ []))

onto_none : (b : ℕ) (x : List ℕ) → (b == 10) ≡ false → cut_at 10 x ≡ None → cut_at 10 (b ∷ x) ≡ None
onto_none b x other none = ap (λ t. cond t (Some ([], x)) (onto_cut b (cut_at 10 x))) other ∙ ap (onto_cut b) none

onto-are : (b : ℕ) (ls : List (List ℕ)) → (b == 10) ≡ false → AreLines ls → AreLines (onto_first b ls)
onto-are b [] other are = inr ((b, [], onto_none b [] other refl, refl), refl)
onto-are b (l ∷ ls) other are = elim are as (λ _. AreLines (onto_first b (l ∷ ls))) [
  | inl e ↦ inl ((b ∷ e.0.0, onto_none b e.0.0 other e.0.1, ap (λ xs. b ∷ xs) e.0.2), e.1)
  | inr u ↦ inr ((b, l, onto_none b l other u.0.2, refl), u.1)
]

pub lines-are : (text : List ℕ) → AreLines (lines_in text)
lines-are [] = tt
lines-are (b ∷ bs) = go (b == 10) refl (lines-are bs)
  where
    go : (t : Bool) → (b == 10) ≡ t → AreLines (lines_in bs) → AreLines (cond t ((10 ∷ []) ∷ lines_in bs) (onto_first b (lines_in bs)))
    go true is are = inl (([], refl, refl), are)
    go false is are = onto-are b (lines_in bs) is are

pub cut-ended : (x r : List ℕ) → cut_at 10 x ≡ None → cut_at 10 (x ++ 10 ∷ r) ≡ Some (x, r)
cut-ended [] r none = refl
cut-ended (b ∷ bs) r none = go (b == 10) none (λ h. cut-ended bs r h)
  where
    go : (t : Bool) → cond t (Some ([], bs)) (onto_cut b (cut_at 10 bs)) ≡ None → (cut_at 10 bs ≡ None → cut_at 10 (bs ++ 10 ∷ r) ≡ Some (bs, r)) → cond t (Some ([], bs ++ 10 ∷ r)) (onto_cut b (cut_at 10 (bs ++ 10 ∷ r))) ≡ Some (b ∷ bs, r)
    go true none h = absurd cc
    go false none h = ap (onto_cut b) (h (uncut-behind b (cut_at 10 bs) none))

-- lines are those of their text
pub lines-back : (ls : List (List ℕ)) → AreLines ls → lines_in (text_of ls) ≡ ls
lines-back [] are = refl
lines-back (l ∷ ls) are = elim are as (λ _. lines_in (text_of (l ∷ ls)) ≡ l ∷ ls) [
  | inl e ↦
      let x = e.0.0 in
      let text : text_of (l ∷ ls) ≡ x ++ 10 ∷ text_of ls = ap (λ (k : List ℕ). k ++ text_of ls) e.0.2 ∙ append_assoc x (10 ∷ []) (text_of ls) in
      ap lines_in text
      ∙ lines-cut (x ++ 10 ∷ text_of ls) (x, text_of ls) (cut-ended x (text_of ls) e.0.1)
      ∙ ap (λ (k : List ℕ). k ∷ lines_in (text_of ls)) (sym e.0.2)
      ∙ ap (λ (ks : List (List ℕ)). l ∷ ks) (lines-back ls e.1)
  | inr u ↦
      let whole : text_of (l ∷ ls) ≡ l = ap (λ (ks : List (List ℕ)). l ++ text_of ks) u.1 ∙ append-nil l in
      let none : cut_at 10 (u.0.0 ∷ u.0.1) ≡ None = ap (cut_at 10) (sym u.0.3) ∙ u.0.2 in
      ap lines_in (whole ∙ u.0.3)
      ∙ lines-uncut u.0.0 u.0.1 none
      ∙ ap (λ (k : List ℕ). k ∷ []) (sym u.0.3)
      ∙ ap (λ (ks : List (List ℕ)). l ∷ ks) (sym u.1)
]

text-onto : (b : ℕ) (ls : List (List ℕ)) → text_of (onto_first b ls) ≡ b ∷ text_of ls
text-onto b [] = refl
text-onto b (l ∷ ls) = refl

pub text-back : (text : List ℕ) → text_of (lines_in text) ≡ text
text-back [] = refl
text-back (b ∷ bs) = go (b == 10) refl (text-back bs)
  where
    go : (t : Bool) → (b == 10) ≡ t → text_of (lines_in bs) ≡ bs → text_of (cond t ((10 ∷ []) ∷ lines_in bs) (onto_first b (lines_in bs))) ≡ b ∷ bs
    go true is h = let ten : 10 ≡ b = grind (arith, nat_tests) in ap (λ xs. 10 ∷ xs) h ∙ ap (λ k. k ∷ bs) ten
    go false is h = text-onto b (lines_in bs) ∙ ap (λ xs. b ∷ xs) h

-- ---- the front of lines

front-are : (ls : List (List ℕ)) → AreLines ls → AreLines (front_lines ls)
front-are [] are = tt
front-are (l ∷ ls) are = go (begins_journal l) (λ h. front-are ls h) are
  where
    go : (t : Bool) → (AreLines ls → AreLines (front_lines ls)) → AreLines (l ∷ ls) → AreLines (cond t [] (l ∷ front_lines ls))
    go true h are = tt
    go false h are = elim are as (λ _. AreLines (l ∷ front_lines ls)) [
      | inl e ↦ inl (e.0, h e.1)
      | inr u ↦ inr (u.0, ap front_lines u.1)
    ]

behind-are : (ls : List (List ℕ)) → AreLines ls → AreLines (behind_front ls)
behind-are [] are = tt
behind-are (l ∷ ls) are = go (begins_journal l) (λ h. behind-are ls h) are
  where
    go : (t : Bool) → (AreLines ls → AreLines (behind_front ls)) → AreLines (l ∷ ls) → AreLines (cond t (l ∷ ls) (behind_front ls))
    go true h are = are
    go false h are = elim are as (λ _. AreLines (behind_front ls)) [
      | inl e ↦ h e.1
      | inr u ↦ subst (λ (ks : List (List ℕ)). AreLines (behind_front ks)) (sym u.1) tt
    ]

front-text : (ls : List (List ℕ)) → text_of (front_lines ls) ++ text_of (behind_front ls) ≡ text_of ls
front-text [] = refl
front-text (l ∷ ls) = go (begins_journal l) (front-text ls)
  where
    go : (t : Bool) → text_of (front_lines ls) ++ text_of (behind_front ls) ≡ text_of ls → text_of (cond t [] (l ∷ front_lines ls)) ++ text_of (cond t (l ∷ ls) (behind_front ls)) ≡ l ++ text_of ls
    go true h = refl
    go false h = append_assoc l (text_of (front_lines ls)) (text_of (behind_front ls)) ∙ ap (λ xs. l ++ xs) h

-- the text parted behind its front
pub record IsParted (text : List ℕ) (n : ℕ) : Type 0 where
  pub front : lines_in (take n text) ≡ front_lines (lines_in text)
  pub behind : lines_in (drop n text) ≡ behind_front (lines_in text)

pub parted : (text : List ℕ) (n : ℕ) → n ≡ length (text_of (front_lines (lines_in text))) → IsParted text n
parted text n is =
    let f = text_of (front_lines (lines_in text)) in
    let b = text_of (behind_front (lines_in text)) in
    let whole : text ≡ f ++ b = sym (front-text (lines_in text) ∙ text-back text) in
    let are = lines-are text in
    record {
      front = ap (λ k. lines_in (take k text)) is ∙ ap (λ (t : List ℕ). lines_in (take (length f) t)) whole ∙ ap lines_in (take-append_seam f b) ∙ lines-back (front_lines (lines_in text)) (front-are (lines_in text) are);
      behind = ap (λ k. lines_in (drop k text)) is ∙ ap (λ (t : List ℕ). lines_in (drop (length f) t)) whole ∙ ap lines_in (drop-append_seam f b) ∙ lines-back (behind_front (lines_in text)) (behind-are (lines_in text) are);
    }

-- ---- the first lines

take-none : (k : ℕ) → take {A = List ℕ} k [] ≡ []
take-none zero = refl
take-none (suc k) = refl

first-are : (n : ℕ) (ls : List (List ℕ)) → AreLines ls → AreLines (take n ls)
first-are zero ls are = tt
first-are (suc n) [] are = tt
first-are (suc n) (l ∷ ls) are = elim are as (λ _. AreLines (take (suc n) (l ∷ ls))) [
  | inl e ↦ inl (e.0, first-are n ls e.1)
  | inr u ↦ inr (u.0, ap (take n) u.1 ∙ take-none n)
]

first-text : (n : ℕ) (ls : List (List ℕ)) → text_of (take n ls) ++ text_of (drop n ls) ≡ text_of ls
first-text zero ls = refl
first-text (suc n) [] = refl
first-text (suc n) (l ∷ ls) = append_assoc l (text_of (take n ls)) (text_of (drop n ls)) ∙ ap (λ xs. l ++ xs) (first-text n ls)

pub first-lines : (text : List ℕ) (n k : ℕ) → k ≡ length (text_of (take n (lines_in text))) → lines_in (take k text) ≡ take n (lines_in text)
first-lines text n k is =
    let f = text_of (take n (lines_in text)) in
    let b = text_of (drop n (lines_in text)) in
    let whole : text ≡ f ++ b = sym (first-text n (lines_in text) ∙ text-back text) in
    ap (λ j. lines_in (take j text)) is ∙ ap (λ (t : List ℕ). lines_in (take (length f) t)) whole ∙ ap lines_in (take-append_seam f b) ∙ lines-back (take n (lines_in text)) (first-are n (lines_in text) (lines-are text))

pub lines-behind : (text : List ℕ) (n k : ℕ) → k ≡ length (text_of (take n (lines_in text))) → drop k text ≡ text_of (drop n (lines_in text))
lines-behind text n k is =
    let f = text_of (take n (lines_in text)) in
    let b = text_of (drop n (lines_in text)) in
    let whole : text ≡ f ++ b = sym (first-text n (lines_in text) ∙ text-back text) in
    ap (λ j. drop j text) is ∙ ap (λ (t : List ℕ). drop (length f) t) whole ∙ drop-append_seam f b

-- ---- whether a line begins a journal, before its newline and with it

ended-none : (x : List ℕ) → cut_at 32 x ≡ None → cut_at 32 (x ++ 10 ∷ []) ≡ None
ended-none [] none = refl
ended-none (b ∷ bs) none = go (b == 32) none (λ h. ended-none bs h)
  where
    go : (t : Bool) → cond t (Some ([], bs)) (onto_cut b (cut_at 32 bs)) ≡ None → (cut_at 32 bs ≡ None → cut_at 32 (bs ++ 10 ∷ []) ≡ None) → cond t (Some ([], bs ++ 10 ∷ [])) (onto_cut b (cut_at 32 (bs ++ 10 ∷ []))) ≡ None
    go true none h = absurd cc
    go false none h = ap (onto_cut b) (h (uncut-behind b (cut_at 32 bs) none))

ended-some : (x : List ℕ) (y : List ℕ × List ℕ) → cut_at 32 x ≡ Some y → cut_at 32 (x ++ 10 ∷ []) ≡ Some (y.0, y.1 ++ 10 ∷ [])
ended-some [] y e = absurd cc
ended-some (b ∷ bs) y e = go (b == 32) e (λ z h. ended-some bs z h)
  where
    more : (o : Option (List ℕ × List ℕ)) → ((z : List ℕ × List ℕ) → o ≡ Some z → cut_at 32 (bs ++ 10 ∷ []) ≡ Some (z.0, z.1 ++ 10 ∷ [])) → onto_cut b o ≡ Some y → onto_cut b (cut_at 32 (bs ++ 10 ∷ [])) ≡ Some (y.0, y.1 ++ 10 ∷ [])
    more None h e = absurd cc
    more (Some z) h e =
        let same : ◌≡◌ {A = List ℕ × List ℕ} (b ∷ z.0, z.1) y = cc in
        ap (onto_cut b) (h z refl) ∙ ap (λ (w : List ℕ × List ℕ). Some (w.0, w.1 ++ 10 ∷ [])) same

    go : (t : Bool) → cond t (Some ([], bs)) (onto_cut b (cut_at 32 bs)) ≡ Some y → ((z : List ℕ × List ℕ) → cut_at 32 bs ≡ Some z → cut_at 32 (bs ++ 10 ∷ []) ≡ Some (z.0, z.1 ++ 10 ∷ [])) → cond t (Some ([], bs ++ 10 ∷ [])) (onto_cut b (cut_at 32 (bs ++ 10 ∷ []))) ≡ Some (y.0, y.1 ++ 10 ∷ [])
    go true e h =
        let same : ◌≡◌ {A = List ℕ × List ℕ} ([], bs) y = cc in
        ap (λ (w : List ℕ × List ℕ). Some (w.0, w.1 ++ 10 ∷ [])) same
    go false e h = more (cut_at 32 bs) h e

begins-ended : (x : List ℕ) → begins_journal (x ++ 10 ∷ []) ≡ begins_journal x
begins-ended x = go (cut_at 32 x) refl
  where
    go : (o : Option (List ℕ × List ℕ)) → cut_at 32 x ≡ o → begins_journal (x ++ 10 ∷ []) ≡ begins_journal x
    go None e = ap is_journal (ended-none x e ∙ sym e)
    go (Some y) e = ap is_journal (ended-some x y e) ∙ sym (ap is_journal e)

pub front-cut : (text : List ℕ) (x : List ℕ × List ℕ) → cut_at 10 text ≡ Some x → front_lines (lines_in text) ≡ cond (begins_journal x.0) [] ((x.0 ++ 10 ∷ []) ∷ front_lines (lines_in x.1))
front-cut text x e = ap front_lines (lines-cut text x e) ∙ ap (λ t. cond t [] ((x.0 ++ 10 ∷ []) ∷ front_lines (lines_in x.1))) (begins-ended x.0)

pub front-uncut : (text : List ℕ) → cut_at 10 text ≡ None → (length text == 0) ≡ false → front_lines (lines_in text) ≡ cond (begins_journal text) [] (text ∷ [])
front-uncut [] none some = absurd (let e : (0 == 0) ≡ true = refl in cc)
front-uncut (b ∷ bs) none some = ap front_lines (lines-uncut b bs none)

-- ---- the first line that differs

pub other-cut : (f g : List ℕ) (x y : List ℕ × List ℕ) → cut_at 10 f ≡ Some x → cut_at 10 g ≡ Some y → first_other (lines_in f) (lines_in g) ≡ cond (bytes_eq (x.0 ++ 10 ∷ []) (y.0 ++ 10 ∷ [])) (moved 1 (first_other (lines_in x.1) (lines_in y.1))) (Some 0)
other-cut f g x y e h = ap (λ ls. first_other ls (lines_in g)) (lines-cut f x e) ∙ ap (first_other ((x.0 ++ 10 ∷ []) ∷ lines_in x.1)) (lines-cut g y h)

same-ended : (x y : List ℕ) → bytes_eq (x ++ 10 ∷ []) (y ++ 10 ∷ []) ≡ bytes_eq x y
same-ended x y =
    same_from_decides (bytes_eq (x ++ 10 ∷ []) (y ++ 10 ∷ [])) (bytes_eq x y)
    (λ e. append_cancel_right x y (10 ∷ []) ((bytes_eq-Decides (x ++ 10 ∷ []) (y ++ 10 ∷ [])).0 e), λ e. (bytes_eq-Decides (x ++ 10 ∷ []) (y ++ 10 ∷ [])).1 (ap (λ (z : List ℕ). z ++ 10 ∷ []) e))
    (bytes_eq-Decides x y)

pub other-line : (f g : List ℕ) (x y : List ℕ × List ℕ) → cut_at 10 f ≡ Some x → cut_at 10 g ≡ Some y → first_other (lines_in f) (lines_in g) ≡ cond (bytes_eq x.0 y.0) (moved 1 (first_other (lines_in x.1) (lines_in y.1))) (Some 0)
other-line f g x y e h = other-cut f g x y e h ∙ ap (λ t. cond t (moved 1 (first_other (lines_in x.1) (lines_in y.1))) (Some 0)) (same-ended x.0 y.0)

differ : (f g : List ℕ) → (f ≡ g → ⊥) → bytes_eq f g ≡ false
differ f g apart = go (bytes_eq f g) refl
  where
    go : (t : Bool) → bytes_eq f g ≡ t → t ≡ false
    go true is = absurd (apart ((bytes_eq-Decides f g).0 is))
    go false is = refl

-- lines that begin unlike texts
other-texts : (f g : List ℕ) → cut_at 10 f ≡ None → first_other (lines_in f) (lines_in g) ≡ cond (bytes_eq f g) None (Some 0)
other-texts [] [] none = refl
other-texts [] (d ∷ ds) none = go (lines_in (d ∷ ds)) (lines-some (d ∷ ds) (grind (arith, nat_tests)))
  where
    go : (ls : List (List ℕ)) → (length ls == 0) ≡ false → first_other [] ls ≡ Some 0
    go [] some = absurd (let e : (0 == 0) ≡ true = refl in cc)
    go (l ∷ ls) some = refl
other-texts (b ∷ bs) g none = ap (λ ls. first_other ls (lines_in g)) (lines-uncut b bs none) ∙ behind (cut_at 10 g) refl
  where
    behind : (o : Option (List ℕ × List ℕ)) → cut_at 10 g ≡ o → first_other ((b ∷ bs) ∷ []) (lines_in g) ≡ cond (bytes_eq (b ∷ bs) g) None (Some 0)
    behind (Some y) h =
        let apart : bytes_eq (b ∷ bs) (y.0 ++ 10 ∷ []) ≡ false = differ (b ∷ bs) (y.0 ++ 10 ∷ []) (λ e. let k : ◌≡◌ {A = Option (List ℕ × List ℕ)} None (Some (y.0, [])) = sym none ∙ ap (cut_at 10) e ∙ cut-again 10 g y [] h in absurd cc) in
        let other : bytes_eq (b ∷ bs) g ≡ false = differ (b ∷ bs) g (λ e. let k : ◌≡◌ {A = Option (List ℕ × List ℕ)} None (Some y) = sym none ∙ ap (cut_at 10) e ∙ h in absurd cc) in
        ap (first_other ((b ∷ bs) ∷ [])) (lines-cut g y h)
        ∙ ap (λ t. cond t (moved 1 (first_other [] (lines_in y.1))) (Some 0)) apart
        ∙ sym (ap (λ t. cond t None (Some 0)) other)
    behind None h = last g h
      where
        last : (g : List ℕ) → cut_at 10 g ≡ None → first_other ((b ∷ bs) ∷ []) (lines_in g) ≡ cond (bytes_eq (b ∷ bs) g) None (Some 0)
        last [] h = sym (ap (λ t. cond t None (Some 0)) (differ (b ∷ bs) [] (λ e. absurd cc)))
        last (d ∷ ds) h = ap (first_other ((b ∷ bs) ∷ [])) (lines-uncut d ds h)

bytes_eq-sym : (x y : List ℕ) → bytes_eq x y ≡ bytes_eq y x
bytes_eq-sym x y = same_from_decides (bytes_eq x y) (bytes_eq y x) (λ e. sym ((bytes_eq-Decides x y).0 e), λ e. (bytes_eq-Decides x y).1 (sym e)) (bytes_eq-Decides y x)

other-sym : (ls ms : List (List ℕ)) → first_other ls ms ≡ first_other ms ls
other-sym [] [] = refl
other-sym [] (m ∷ ms) = refl
other-sym (l ∷ ls) [] = refl
other-sym (l ∷ ls) (m ∷ ms) =
    ap (λ t. cond t (moved 1 (first_other ls ms)) (Some 0)) (bytes_eq-sym l m)
    ∙ ap (λ o. cond (bytes_eq m l) (moved 1 o) (Some 0)) (other-sym ls ms)

pub other-front : (f g : List ℕ) → cut_at 10 f ≡ None → first_other (lines_in f) (lines_in g) ≡ cond (bytes_eq f g) None (Some 0)
other-front f g none = other-texts f g none

pub other-back : (f g : List ℕ) → cut_at 10 g ≡ None → first_other (lines_in f) (lines_in g) ≡ cond (bytes_eq f g) None (Some 0)
other-back f g none = other-sym (lines_in f) (lines_in g) ∙ other-texts g f none ∙ ap (λ t. cond t None (Some 0)) (bytes_eq-sym g f)

-- ---- sizes

behind-longest : (ls : List (List ℕ)) → longest (behind_front ls) ≤ longest ls
behind-longest [] = omega arith
behind-longest (l ∷ ls) = go (begins_journal l) (behind-longest ls)
  where
    go : (t : Bool) → longest (behind_front ls) ≤ longest ls → longest (cond t (l ∷ ls) (behind_front ls)) ≤ max (length l) (longest ls)
    go true h = omega arith
    go false h = omega (arith, h)

pub longest-behind : (text behind : List ℕ) → lines_in behind ≡ behind_front (lines_in text) → longest_line behind ≤ longest_line text
longest-behind text behind e = let below = behind-longest (lines_in text) in let same : longest_line behind ≡ longest (behind_front (lines_in text)) = ap longest e in omega (arith, below, same)

size-more : (x : List ℕ) (ls : List (List ℕ)) → length (text_of ((x ++ 10 ∷ []) ∷ ls)) ≡ (length x + 1) + length (text_of ls)
size-more x ls =
    let one = length-append (x ++ 10 ∷ []) (text_of ls) in
    let two = length-append x (10 ∷ []) in
    omega (arith, one, two)

pub front-none : (text : List ℕ) (x : List ℕ × List ℕ) → cut_at 10 text ≡ Some x → begins_journal x.0 ≡ true → front_lines (lines_in text) ≡ []
front-none text x e is = front-cut text x e ∙ ap (λ t. cond t [] ((x.0 ++ 10 ∷ []) ∷ front_lines (lines_in x.1))) is

pub record IsLonger (bytes lines line behind-bytes behind-lines : ℕ) : Type 0 where
  pub more_bytes : bytes ≡ (line + 1) + behind-bytes
  pub more_lines : lines ≡ behind-lines + 1

pub front-more : (text : List ℕ) (x : List ℕ × List ℕ) → cut_at 10 text ≡ Some x → begins_journal x.0 ≡ false
    → IsLonger (length (text_of (front_lines (lines_in text)))) (length (front_lines (lines_in text))) (length x.0) (length (text_of (front_lines (lines_in x.1)))) (length (front_lines (lines_in x.1)))
front-more text x e is =
    let more : front_lines (lines_in text) ≡ (x.0 ++ 10 ∷ []) ∷ front_lines (lines_in x.1) = front-cut text x e ∙ ap (λ t. cond t [] ((x.0 ++ 10 ∷ []) ∷ front_lines (lines_in x.1))) is in
    let lines : length (front_lines (lines_in text)) ≡ length ((x.0 ++ 10 ∷ []) ∷ front_lines (lines_in x.1)) = ap (λ ls. length ls) more in
    record {
      more_bytes = ap (λ ls. length (text_of ls)) more ∙ size-more x.0 (front_lines (lines_in x.1));
      more_lines = omega (arith, lines);
    }

pub front-last : (text : List ℕ) → cut_at 10 text ≡ None → (length text == 0) ≡ false → begins_journal text ≡ true → front_lines (lines_in text) ≡ []
front-last text none some is = front-uncut text none some ∙ ap (λ t. cond t [] (text ∷ [])) is

pub front-rest : (text : List ℕ) → cut_at 10 text ≡ None → (length text == 0) ≡ false → begins_journal text ≡ false → front_lines (lines_in text) ≡ text ∷ []
front-rest text none some is = front-uncut text none some ∙ ap (λ t. cond t [] (text ∷ [])) is

pub first-cut : (n : ℕ) (text : List ℕ) (x : List ℕ × List ℕ) → cut_at 10 text ≡ Some x → (n == 0) ≡ false → length (text_of (take n (lines_in text))) ≡ (length x.0 + 1) + length (text_of (take (n - 1) (lines_in x.1)))
first-cut zero text x e some = absurd (let z : (0 == 0) ≡ true = refl in cc)
first-cut (suc n) text x e some =
    let less : suc n - 1 ≡ n = omega arith in
    ap (λ ls. length (text_of (take (suc n) ls))) (lines-cut text x e)
    ∙ size-more x.0 (take n (lines_in x.1))
    ∙ ap (λ k. (length x.0 + 1) + length (text_of (take k (lines_in x.1)))) (sym less)

pub first-uncut : (n : ℕ) (text : List ℕ) → cut_at 10 text ≡ None → (n == 0) ≡ false → length (text_of (take n (lines_in text))) ≡ length text
first-uncut zero text e some = absurd (let z : (0 == 0) ≡ true = refl in cc)
first-uncut (suc n) [] e some = refl
first-uncut (suc n) (b ∷ bs) e some =
    ap (λ ls. length (text_of (take (suc n) ls))) (lines-uncut b bs e)
    ∙ ap (λ ls. length ((b ∷ bs) ++ text_of ls)) (take-none n)
    ∙ ap (λ t. length t) (append-nil (b ∷ bs))

pub moved-cond : (n : ℕ) (t : Bool) → moved n (cond t None (Some 0)) ≡ cond t None (Some n)
moved-cond n true = refl
moved-cond n false = ap Some (omega arith)
