-- Texts that are met by lines that are due, one after the other.
use Rattle.std.proofs.Common.{◌≡◌, ℕ, zero, suc, ◌+◌, ◌-◌, ◌<◌, Bool, true, false, cond, List, [], ◌∷◌, ◌++◌, length, take, map, Option, Some, None, refl, sym, ap, ◌∙◌, arith, append_assoc, append-nil, length-append}
use Rattle.std.specs.Prelude.{◌==◌, bytes_eq}
use Rattle.std.proofs.lemmas.Bool.Decides.{nat_tests}
use Rattle.std.proofs.lemmas.Slice.Eq.{bytes_eq-Decides}
use Rattle.std.proofs.lemmas.List.{map-append, length-map}
use Rattle.board_model.specs.Journal.{Line}
use Rattle.board_model.specs.Report.{line_text}
use Rattle.report_text.specs.TextLines.{lines_in, first_other, moved}
use Rattle.report_text.specs.StepPass.{other_than}
use Rattle.report_check.specs.Meeting.{LinesLeft, AreMet, IsMissed, Meets, place_at_end, place_after, IsOtherText}
use Rattle.report_text.proofs.TextCuts.{lines-some}

-- ---- one line

taken-one : (count : ℕ) (l : List ℕ) (ls ms : List (List ℕ)) → 0 < count → ls ≡ l ∷ ms → take count ls ≡ l ∷ take (count - 1) ms
taken-one zero l ls ms some e = absurd (omega arith)
taken-one (suc n) l ls ms some e = let less : n ≡ suc n - 1 = omega arith in ap (take (suc n)) e ∙ ap (λ k. l ∷ take k ms) less

pub met-one : (count place : ℕ) (line : Line) (text rest : List ℕ) → 0 < count → lines_in text ≡ line_text line ∷ lines_in rest → AreMet (record { texts = take count (lines_in text); place = place }) (record { texts = take (count - 1) (lines_in rest); place = place + 1 }) (line ∷ [])
met-one count place line text rest some e = record {
  texts = taken-one count (line_text line) (lines_in text) (lines_in rest) some e;
  place = refl;
}

moved-none : (o : Option ℕ) → moved 1 o ≡ Some 0 → ⊥
moved-none None e = absurd cc
moved-none (Some n) e = let same : 1 + n ≡ 0 = cc in absurd (omega arith)

cut-other : (count : ℕ) (l : List ℕ) (ls more : List (List ℕ)) → first_other ls (l ∷ more) ≡ Some 0 → first_other (take count ls) (l ∷ more) ≡ Some 0
cut-other zero l ls more e = refl
cut-other (suc n) l [] more e = refl
cut-other (suc n) l (k ∷ ks) more e = go (bytes_eq k l) e
  where
    go : (b : Bool) → cond b (moved 1 (first_other ks more)) (Some 0) ≡ Some 0 → cond b (moved 1 (first_other (take n ks) more)) (Some 0) ≡ Some 0
    go true e = absurd (moved-none (first_other ks more) e)
    go false e = refl

pub missed-one : (count place : ℕ) (line : Line) (text : List ℕ) → IsOtherText (line_text line) (lines_in text) → IsMissed (record { texts = take count (lines_in text); place = place }) (record { texts = take count (lines_in text); place = place }) (line ∷ [])
missed-one count place line text other = record {
  place = λ more. ap (moved place) (cut-other count (line_text line) (lines_in text) (map line_text more) (other (map line_text more))) ∙ ap Some (omega arith);
}

pub missed-none : (count place : ℕ) (line : Line) (text : List ℕ) → count ≡ 0 → IsMissed (record { texts = take count (lines_in text); place = place }) (record { texts = take count (lines_in text); place = place }) (line ∷ [])
missed-none count place line text e = record { place = λ more. ap (λ n. moved place (first_other (take n (lines_in text)) (line_text line ∷ map line_text more))) e ∙ ap Some (omega arith) }

-- ---- lines one after the other

moved-zero : (o : Option ℕ) → moved 0 o ≡ o
moved-zero None = refl
moved-zero (Some n) = ap Some (omega arith)

moved-twice : (place : ℕ) (o : Option ℕ) → moved place (moved 1 o) ≡ moved (place + 1) o
moved-twice place None = refl
moved-twice place (Some n) = ap Some (omega arith)

-- nothing is due
pub meets-nothing : (l : LinesLeft) → Meets l l [] true
meets-nothing l = record { texts = refl; place = omega arith }

other-behind : (ds ts es : List (List ℕ)) (place : ℕ) → moved place (first_other (ds ++ ts) (ds ++ es)) ≡ moved (place + length ds) (first_other ts es)
other-behind [] ts es place = let same : place ≡ place + 0 = omega arith in ap (λ n. moved n (first_other ts es)) same
other-behind (d ∷ ds) ts es place =
    ap (λ t. moved place (cond t (moved 1 (first_other (ds ++ ts) (ds ++ es))) (Some 0))) ((bytes_eq-Decides d d).1 refl)
    ∙ (moved-twice place (first_other (ds ++ ts) (ds ++ es))
    ∙ (other-behind ds ts es (place + 1)
    ∙ (let same : place + 1 + length ds ≡ place + length (d ∷ ds) = omega arith in ap (λ n. moved n (first_other ts es)) same)))

-- where these were met, those behind them are compared with the texts that are left
met-behind : (old new : LinesLeft) (due more : List Line) → AreMet old new due → moved old.place (first_other old.texts (map line_text (due ++ more))) ≡ moved new.place (first_other new.texts (map line_text more))
met-behind old new due more met =
    ap (λ ts. moved old.place (first_other ts (map line_text (due ++ more)))) met.texts
    ∙ (ap (λ ds. moved old.place (first_other (map line_text due ++ new.texts) ds)) (map-append line_text due more)
    ∙ (other-behind (map line_text due) new.texts (map line_text more) old.place
    ∙ ap (λ n. moved n (first_other new.texts (map line_text more))) (ap (λ n. old.place + n) (length-map due line_text) ∙ sym met.place)))

-- lines that are met, and those behind them
pub meets-then : (old mid new : LinesLeft) (due next : List Line) (is : Bool) → Meets old mid due true → Meets mid new next is → Meets old new (due ++ next) is
meets-then old mid new due next true first met = record {
  texts = first.texts ∙ (ap (λ ts. map line_text due ++ ts) met.texts ∙ (sym (append_assoc (map line_text due) (map line_text next) new.texts) ∙ ap (λ ts. ts ++ new.texts) (sym (map-append line_text due next))));
  place = omega (arith, first.place, met.place, length-append due next);
}
meets-then old mid new due next false first missed = record {
  place = λ more.
      ap (λ ds. moved old.place (first_other old.texts (map line_text ds))) (append_assoc due next more)
      ∙ (met-behind old mid due (next ++ more) first ∙ missed.place more);
}

-- what would follow one that is missed does not matter
pub meets-missed : (old new : LinesLeft) (due next : List Line) → Meets old new due false → Meets old new (due ++ next) false
meets-missed old new due next missed = record {
  place = λ more. ap (λ ds. moved old.place (first_other old.texts (map line_text ds))) (append_assoc due next more) ∙ missed.place (next ++ more);
}

-- ---- all lines of a part

-- where all that are due were compared, the first that differs is the one that is missed, or the first behind those that are met
pub other-found : (texts : List (List ℕ)) (new : LinesLeft) (due : List Line) (is : Bool) → Meets (record { texts = texts; place = 0 }) new due is → other_than due texts ≡ place_after new is
other-found texts new due true met =
    sym (moved-zero (first_other texts (map line_text due)))
    ∙ (ap (λ ds. moved 0 (first_other texts (map line_text ds))) (sym (append-nil due))
    ∙ (met-behind (record { texts = texts; place = 0 }) new due [] met ∙ go new.texts))
  where
    go : (ts : List (List ℕ)) → moved new.place (first_other ts []) ≡ cond (length ts == 0) None (Some new.place)
    go [] = refl
    go (t ∷ ts) =
        let none : (length (t ∷ ts) == 0) ≡ false = grind (arith, nat_tests) in
        let same : new.place + 0 ≡ new.place = omega arith in
        ap Some same ∙ sym (ap (λ b. cond b None (Some new.place)) none)
other-found texts new due false missed =
    sym (moved-zero (first_other texts (map line_text due)))
    ∙ (ap (λ ds. moved 0 (first_other texts (map line_text ds))) (sym (append-nil due)) ∙ missed.place [])

-- ---- the end of a text

pub end-none : (count place : ℕ) (text : List ℕ) → count ≡ 0 → None ≡ place_at_end (record { texts = take count (lines_in text); place = place })
end-none count place text e = sym (ap (λ n. cond (length (take n (lines_in text)) == 0) None (Some place)) e)

pub end-empty : (count place : ℕ) (text : List ℕ) → text ≡ [] → None ≡ place_at_end (record { texts = take count (lines_in text); place = place })
end-empty count place text e = sym (ap (λ (t : List ℕ). cond (length (take count (lines_in t)) == 0) None (Some place)) e ∙ ap (λ n. cond (n == 0) None (Some place)) (none count))
  where
    none : (n : ℕ) → length {A = List ℕ} (take n []) ≡ 0
    none zero = refl
    none (suc n) = refl

pub end-some : (count place : ℕ) (text : List ℕ) → 0 < count → (length text == 0) ≡ false → Some place ≡ place_at_end (record { texts = take count (lines_in text); place = place })
end-some zero place text some e = absurd (omega arith)
end-some (suc n) place text some e = go (lines_in text) (lines-some text e)
  where
    go : (ls : List (List ℕ)) → (length ls == 0) ≡ false → Some place ≡ cond (length (take (suc n) ls) == 0) None (Some place)
    go [] e = absurd cc
    go (l ∷ ls) e =
        let none : (length (l ∷ take n ls) == 0) ≡ false = grind (arith, nat_tests) in
        sym (ap (λ b. cond b None (Some place)) none)
