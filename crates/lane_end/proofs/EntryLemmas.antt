-- How often numbers stand in the entries of a ring, and what is left where numbers are struck out.
use Rattle.std.proofs.Common.{◌≡◌, ℕ, ◌+◌, ◌<◌, ◌≤◌, Bool, true, false, cond, List, [], ◌∷◌, ◌++◌, length, take, drop, sym, refl, ap, ◌∙◌, arith}
use Rattle.std.specs.Prelude.{◌==◌}
use Rattle.std.proofs.lemmas.List.{map-append, length-map, take-append-drop, drop-append-le}
use Rattle.shared_words.specs.Entry.{Entry, number_of, times}
use Rattle.shared_words.specs.Places.{starts_with}
use Rattle.shared_words.specs.Way.{other}
use Rattle.shared_words.specs.declared.view.Role.{Role}
use Rattle.shared_words.specs.declared.view.Role.TheVariants.{Driver, Device}
use Rattle.lane_end.specs.Numbers.{often}
use Rattle.lane_end.specs.ReceiverContract.{without}
use Rattle.lane_end.specs.Entries.{numbers_in}
use Rattle.lane_end.specs.Opened.{taken_before, written_before}
use Rattle.lane_end.specs.RingReceiver.{struck}
use Rattle.lane_end.proofs.CountLemmas.{tick, tick-same, often-append, often-without, length-without}

pub times-often : (x : ℕ) (es : List Entry) → times x es ≡ often x (numbers_in es)
times-often x [] = refl
times-often x (e ∷ es) = ap (λ (n : ℕ). (cond (number_of e == x) 1 0) + n) (times-often x es)

pub numbers-length : (es : List Entry) → length (numbers_in es) ≡ length es
numbers-length es = length-map es number_of

pub numbers-append : (es fs : List Entry) → numbers_in (es ++ fs) ≡ numbers_in es ++ numbers_in fs
numbers-append es fs = map-append number_of es fs

-- of entries, the first n and the rest
pub times-split : (x n : ℕ) (es : List Entry) → times x es ≡ times x (take n es) + often x (numbers_in (drop n es))
times-split x n es =
    let all = ap (λ (l : List Entry). often x (numbers_in l)) (sym (take-append-drop n es)) in
    let both = ap (often x) (numbers-append (take n es) (drop n es)) in
    let parts = often-append x (numbers_in (take n es)) (numbers_in (drop n es)) in
    let whole = times-often x es in let front = times-often x (take n es) in
    omega (arith, all, both, parts, whole, front)

pub numbers-drop-more : (n : ℕ) (es : List Entry) (e : Entry) → n ≤ length es → drop n (es ++ e ∷ []) ≡ drop n es ++ e ∷ []
numbers-drop-more n es e within = drop-append-le n es (e ∷ []) within

-- the half that receives had written, at the opening, as many as it began with
pub written-start : (role : Role) (size : ℕ) → written_before role size ≡ starts_with role size
written-start Driver size = refl
written-start Device size = refl

-- and the half that sends had taken as many
pub taken-other : (role : Role) (size : ℕ) → written_before (other role) size ≡ taken_before role size
taken-other Driver size = refl
taken-other Device size = refl

-- the numbers of a list stand in another, each as often
abbrev pub AreAmong : List ℕ → List ℕ → Type 0
AreAmong gs ns = (x : ℕ) → often x gs ≤ often x ns

among-rest : (g : ℕ) (gs ns : List ℕ) → AreAmong (g ∷ gs) ns → (0 < often g ns) × AreAmong gs (without g ns)
among-rest g gs ns a =
    let one : tick g g ≡ 1 = tick-same g g refl in
    let there : 0 < often g ns = let h = a g in omega (arith, h, one) in
    (there, λ x. let h = a x in let w = often-without x g ns there in omega (arith, h, w))

pub often-struck : (gs ns : List ℕ) → AreAmong gs ns → (x : ℕ) → often x (struck gs ns) + often x gs ≡ often x ns
often-struck [] ns a x = omega arith
often-struck (g ∷ gs) ns a x = let r = among-rest g gs ns a in let h = often-struck gs (without g ns) r.1 x in let w = often-without x g ns r.0 in omega (arith, h, w)

pub length-struck : (gs ns : List ℕ) → AreAmong gs ns → length (struck gs ns) + length gs ≡ length ns
length-struck [] ns a = omega arith
length-struck (g ∷ gs) ns a = let r = among-rest g gs ns a in let h = length-struck gs (without g ns) r.1 in let w = length-without g ns r.0 in omega (arith, h, w)

without-more : (g : ℕ) (ns ms : List ℕ) → 0 < often g ns → without g (ns ++ ms) ≡ without g ns ++ ms
without-more g [] ms l = absurd (omega arith)
without-more g (n ∷ ns) ms l = elim (n == g) as (λ b. (n == g) ≡ b → cond b (ns ++ ms) (n ∷ without g (ns ++ ms)) ≡ cond b ns (n ∷ without g ns) ++ ms) [
  | true ↦ λ e. refl
  | false ↦ λ e. let none : tick n g ≡ 0 = ap (λ (b : Bool). cond b 1 0) e in ap (λ (l : List ℕ). n ∷ l) (without-more g ns ms (omega (arith, none)))
] refl

-- numbers that came later stay behind the others
pub struck-more : (gs ns ms : List ℕ) → AreAmong gs ns → struck gs (ns ++ ms) ≡ struck gs ns ++ ms
struck-more [] ns ms a = refl
struck-more (g ∷ gs) ns ms a = let r = among-rest g gs ns a in ap (struck gs) (without-more g ns ms r.0) ∙ struck-more gs (without g ns) ms r.1

-- one number more is struck
pub struck-last : (gs : List ℕ) (g : ℕ) (ns : List ℕ) → struck (gs ++ g ∷ []) ns ≡ without g (struck gs ns)
struck-last [] g ns = refl
struck-last (h ∷ gs) g ns = struck-last gs g (without h ns)
