-- Lists of keys: what a removal leaves of them.
use Rattle.std.proofs.Common.{◌≡◌, ◌≢◌, ℕ, zero, suc, ◌<◌, not, List, [], ◌∷◌, ◌++◌, length, filter, get_or, eqb, inl, inr, refl, sym, ap, ◌∙◌, arith, remove, position, IsSome, Some}
use Rattle.std.specs.List.{AllByRecursion, position_or_len}
use Rattle.std.proofs.lemmas.Bool.{cases_eq, eq-eqb, ne_eqb, eqb-true, lt-ltb}
use Rattle.std.proofs.lemmas.List.Quantifiers.{position-Some}
use Rattle.request_set.specs.InSet.{Differ, Among}

-- the keys but one
abbrev pub without : ℕ → List ℕ → List ℕ
without key order = filter (λ other. not (eqb other key)) order

pub All-push : (P : ℕ → Type 0) (order : List ℕ) (key : ℕ) → AllByRecursion P order → P key → AllByRecursion P (order ++ key ∷ [])
All-push P [] key all here = (here, tt)
All-push P (first ∷ rest) key all here = (all.0, All-push P rest key all.1 here)

pub All-weaker : (P Q : ℕ → Type 0) → ((key : ℕ) → P key → Q key) → (order : List ℕ) → AllByRecursion P order → AllByRecursion Q order
All-weaker P Q weaker [] all = tt
All-weaker P Q weaker (first ∷ rest) all = (weaker first all.0, All-weaker P Q weaker rest all.1)

All-at : (P : ℕ → Type 0) (order : List ℕ) (i d : ℕ) → AllByRecursion P order → i < length order → P (get_or order i d)
All-at P [] i d all within = absurd (omega arith)
All-at P (first ∷ rest) zero d all within = all.0
All-at P (first ∷ rest) (suc i) d all within = All-at P rest i d all.1 (omega arith)

pub Differ-push : (order : List ℕ) (key : ℕ) → Differ order → AllByRecursion (λ other. other ≢ key) order → Differ (order ++ key ∷ [])
Differ-push [] key differ others = (tt, tt)
Differ-push (first ∷ rest) key differ others =
    (All-push (λ other. other ≢ first) rest key differ.0 (λ same. others.0 (sym same)), Differ-push rest key differ.1 others.1)

pub Among-push : (order : List ℕ) (key : ℕ) → Among key (order ++ key ∷ [])
Among-push [] key = inl refl
Among-push (first ∷ rest) key = inr (Among-push rest key)

pub Among-before : (order : List ℕ) (last key : ℕ) → Among key order → Among key (order ++ last ∷ [])
Among-before [] last key among = absurd among
Among-before (first ∷ rest) last key among = elim among [ inl here ↦ inl here | inr later ↦ inr (Among-before rest last key later) ]

-- ---- one key less

drop-key : (key first : ℕ) (rest : List ℕ) → first ≡ key → without key (first ∷ rest) ≡ without key rest
drop-key key first rest same = rw (eq-eqb first key same) refl

keep-key : (key first : ℕ) (rest : List ℕ) → first ≢ key → without key (first ∷ rest) ≡ first ∷ without key rest
keep-key key first rest differs = rw (ne_eqb first key differs) refl

pub without-none : (key : ℕ) (order : List ℕ) → AllByRecursion (λ other. other ≢ key) order → without key order ≡ order
without-none key [] others = refl
without-none key (first ∷ rest) others = keep-key key first rest others.0 ∙ ap (λ ks. first ∷ ks) (without-none key rest others.1)

pub remove-without : (key : ℕ) (order : List ℕ) (i : ℕ) → Differ order → i < length order → get_or order i key ≡ key → remove order i ≡ without key order
remove-without key [] i differ within read = absurd (omega arith)
remove-without key (first ∷ rest) zero differ within read =
    let others : AllByRecursion (λ other. other ≢ key) rest = All-weaker (λ other. other ≢ first) (λ other. other ≢ key) (λ other differs same. differs (same ∙ sym read)) rest differ.0 in
    sym (drop-key key first rest read ∙ without-none key rest others)
remove-without key (first ∷ rest) (suc i) differ within read =
    let later : get_or rest i key ≢ first = All-at (λ other. other ≢ first) rest i key differ.0 (omega arith) in
    let differs : first ≢ key = λ same. later (read ∙ sym same) in
    ap (λ ks. first ∷ ks) (remove-without key rest i differ.1 (omega arith) read) ∙ sym (keep-key key first rest differs)

pub All-without : (P : ℕ → Type 0) (key : ℕ) (order : List ℕ) → AllByRecursion P order → AllByRecursion P (without key order)
All-without P key [] all = tt
All-without P key (first ∷ rest) all =
    elim (cases_eq first key) [
      | inl same ↦ rw (drop-key key first rest same) (All-without P key rest all.1)
      | inr differs ↦ rw (keep-key key first rest differs) (all.0, All-without P key rest all.1)
    ]

pub Differ-without : (key : ℕ) (order : List ℕ) → Differ order → Differ (without key order)
Differ-without key [] differ = tt
Differ-without key (first ∷ rest) differ =
    elim (cases_eq first key) [
      | inl same ↦ rw (drop-key key first rest same) (Differ-without key rest differ.1)
      | inr differs ↦ rw (keep-key key first rest differs) (All-without (λ other. other ≢ first) key rest differ.0, Differ-without key rest differ.1)
    ]

pub Among-without : (key other : ℕ) (order : List ℕ) → other ≢ key → Among other order → Among other (without key order)
Among-without key other [] differs among = absurd among
Among-without key other (first ∷ rest) differs among =
    elim (cases_eq first key) [
      | inl same ↦ rw (drop-key key first rest same) (elim among [ inl here ↦ absurd (differs (sym here ∙ same)) | inr later ↦ Among-without key other rest differs later ])
      | inr apart ↦ rw (keep-key key first rest apart) (elim among [ inl here ↦ inl here | inr later ↦ inr (Among-without key other rest differs later) ])
    ]

-- the keys that are left are none of them the key
pub without-others : (key : ℕ) (order : List ℕ) → AllByRecursion (λ other. other ≢ key) (without key order)
without-others key [] = tt
without-others key (first ∷ rest) =
    elim (cases_eq first key) [
      | inl same ↦ rw (drop-key key first rest same) (without-others key rest)
      | inr differs ↦ rw (keep-key key first rest differs) (differs, without-others key rest)
    ]

-- ---- the place of a key

within-among : (key : ℕ) (order : List ℕ) → Among key order → position_or_len (λ k. eqb k key) order < length order
within-among key [] among = absurd among
within-among key (first ∷ rest) among =
    elim (cases_eq first key) [
      | inl same ↦ rw (eq-eqb first key same) (omega arith)
      | inr differs ↦
          let later = within-among key rest (elim among [ inl here ↦ absurd (differs here) | inr there ↦ there ]) in
          rw (ne_eqb first key differs) (omega arith)
    ]

pub position-among : (key : ℕ) (order : List ℕ) → Among key order → IsSome (position (λ k. eqb k key) order)
position-among key order among = rw (lt-ltb (position_or_len (λ k. eqb k key) order) (length order) (within-among key order among)) refl

-- the removal at the place of a key leaves the others
pub removed-without : (key : ℕ) (order : List ℕ) (i : ℕ) → Differ order → position (λ k. eqb k key) order ≡ Some i → remove order i ≡ without key order
removed-without key order i differ found =
    let place = position-Some (λ k. eqb k key) order i key found in
    remove-without key order i differ place.0 (eqb-true (get_or order i key) key place.1)
