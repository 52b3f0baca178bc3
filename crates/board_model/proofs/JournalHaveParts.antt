-- Every plain journal is written by parts.
use Rattle.std.proofs.Common.{◌≡◌, ◌⊎◌, ℕ, ◌+◌, ◌-◌, ◌^◌, ◌<◌, Bool, true, false, ◌&&◌, cond, List, [], ◌∷◌, ◌++◌, length, map, Option, Some, None, refl, sym, ap, subst, ◌∙◌, arith, append_assoc, append-nil, inl, inr}
use Rattle.std.specs.Prelude.{nat_lt}
use Rattle.std.specs.List.{list_all, flat_map, AllByRecursion}
use Rattle.std.proofs.lemmas.Bool.Decides.{nat_tests}
use Rattle.std.proofs.lemmas.List.{map_push, length_push}
use Rattle.mc_base.specs.declared.refusal.Refusal.{Refusal}
use Rattle.board_model.specs.declared.scenario.CallLine.{CallLine}
use Rattle.board_model.specs.Scenario.{script}
use Rattle.board_model.specs.Words.{same_word}
use Rattle.board_model.specs.Journal.{Visit, PlainEntry, turned, put, again, waits, called, Line, idle_line, again_line, spin_line, turn_line, back_line, put_line, see_line, take_line, wait_line, call_line, visit_lines, is_idle, joinable, spinning, is_one_idle, joined}
use Rattle.board_model.specs.Unjoined.{times, idle_turn, visit_in}
use Rattle.board_model.specs.JournalParts.{Part, idles, spins, tries, turn_of, wait_of, call_of, part_lines, part_entries, last_line, StandsBehind, StandBehind}
use Rattle.board_model.specs.JournalLaws.{JournalsHaveParts}
use Rattle.board_model.proofs.JournalReading.{IsOfTurn, put_entries, times-more}
use Rattle.board_model.proofs.JournalVisits.{visits_all, idle_is, flat-append}
use Rattle.board_model.proofs.JournalJoins.{spinning-tells, one_idle-tells}
use Rattle.board_model.proofs.WordsRead.{one_word}
use Rattle.board_model.proofs.JournalPartsJoined.{last-is, parts_are_joined}
use Rattle.board_model.proofs.ListsJoined.{joinable-tells}
use Rattle.board_model.specs.JournalForm.{IsFrom}

flat-push : {X Y : Type 0} (f : X → List Y) (xs : List X) (x : X) → flat_map f (xs ++ x ∷ []) ≡ flat_map f xs ++ f x
flat-push f xs x = flat-append f xs (x ∷ []) ∙ ap (λ ys. flat_map f xs ++ ys) (append-nil (f x))

-- the last part
last_part : (ps : List Part) → (ps ≡ []) ⊎ ((qs : List Part) × (p : Part) × (ps ≡ qs ++ p ∷ []))
last_part [] = inl refl
last_part (p ∷ ps) = elim (last_part ps) [
  | inl none ↦ inr ([], p, ap (λ xs. p ∷ xs) none)
  | inr more ↦ inr (p ∷ more.0, more.1, ap (λ xs. p ∷ xs) more.2)
]

-- ---- the last line of a part

abbrev IsJoin : Line → Type 0
IsJoin (idle_line n) = Unit {0}
IsJoin (spin_line n w) = Unit {0}
IsJoin other = ⊥

abbrev part_of : Line → Part
part_of (idle_line n) = idles n
part_of (spin_line n w) = spins n w
part_of other = idles 0

turn_no_join : (l : Line) → IsOfTurn l → IsJoin l → ⊥
turn_no_join (back_line p n) h j = j
turn_no_join (put_line p f) h j = j
turn_no_join (see_line p n) h j = j
turn_no_join (take_line p f w) h j = j
turn_no_join (idle_line n) h j = h
turn_no_join (again_line w) h j = h
turn_no_join (spin_line n w) h j = h
turn_no_join turn_line h j = h
turn_no_join (call_line k a) h j = h
turn_no_join (wait_line k) h j = h

last_apart : (ls : List Line) (y : Line) (xs : List Line) (l : Line) → (IsJoin y → ⊥) → AllByRecursion IsOfTurn xs → last_line (ls ++ y ∷ xs) ≡ Some l → IsJoin l → ⊥
last_apart ls y [] l apart all e join = let same : y ≡ l = some_is y l (sym (last-is ls y) ∙ e) in apart (subst IsJoin (sym same) join)
  where
    some_is : (a b : Line) → Some a ≡ Some b → a ≡ b
    some_is a b e = cc
last_apart ls y (x ∷ xs) l apart all e join = last_apart (ls ++ y ∷ []) x xs l (turn_no_join x all.0) all.1 (ap last_line (append_assoc ls (y ∷ []) (x ∷ xs)) ∙ e) join

line_is : (a b : Line) → Some a ≡ Some b → a ≡ b
line_is a b e = cc

part_is : (p : Part) (ls : List Line) (l : Line) → last_line (ls ++ part_lines p) ≡ Some l → IsJoin l → p ≡ part_of l
part_is (idles n) ls l e join = ap part_of (line_is (idle_line n) l (sym (last-is ls (idle_line n)) ∙ e))
part_is (spins n w) ls l e join = ap part_of (line_is (spin_line n w) l (sym (last-is ls (spin_line n w)) ∙ e))
part_is (tries w) ls l e join = absurd (subst IsJoin (sym (line_is (again_line w) l (sym (last-is ls (again_line w)) ∙ e))) join)
part_is (turn_of vs) ls l e join = absurd (last_apart ls turn_line (flat_map visit_lines vs) l (λ h. h) (visits_all vs) e join)
part_is (wait_of k) ls l e join = absurd (subst IsJoin (sym (line_is (wait_line k) l (sym (last-is ls (wait_line k)) ∙ e))) join)
part_is (call_of qs k a) ls l e join =
    let put_all = map (λ q. put_line q.0 q.1) qs in
    absurd (subst IsJoin (sym (line_is (call_line k a) l (sym (last-is (ls ++ put_all) (call_line k a)) ∙ ap last_line (append_assoc ls put_all (call_line k a ∷ [])) ∙ e))) join)

-- the part that a line which others join stands for is the last
joins_last : (ps : List Part) (l : Line) → last_line (flat_map part_lines ps) ≡ Some l → IsJoin l → (qs : List Part) × (ps ≡ qs ++ part_of l ∷ [])
joins_last ps l e join = elim (last_part ps) [
  | inl none ↦ absurd (nothing (sym (ap (λ xs. last_line (flat_map part_lines xs)) none) ∙ e))
  | inr more ↦
      let p = part_is more.1 (flat_map part_lines more.0) l (ap last_line (sym (ap (flat_map part_lines) more.2 ∙ flat-push part_lines more.0 more.1)) ∙ e) join in
      (more.0, more.2 ∙ ap (λ q. more.0 ++ q ∷ []) p)
]
  where
    nothing : None ≡ Some l → ⊥
    nothing e = absurd cc

-- ---- parts that stand

stand-push : (ls : List Line) (ps : List Part) (p : Part) → StandBehind ls ps → StandsBehind (ls ++ flat_map part_lines ps) p → StandBehind ls (ps ++ p ∷ [])
stand-push ls [] p h one = (subst (λ xs. StandsBehind xs p) (append-nil ls) one, tt)
stand-push ls (q ∷ qs) p h one = (h.0, stand-push (ls ++ part_lines q) qs p h.1 (subst (λ xs. StandsBehind xs p) (sym (append_assoc ls (part_lines q) (flat_map part_lines qs))) one))

stand-parts : (ls : List Line) (ps : List Part) (p : Part) → StandBehind ls (ps ++ p ∷ []) → StandBehind ls ps × StandsBehind (ls ++ flat_map part_lines ps) p
stand-parts ls [] p h = (tt, subst (λ xs. StandsBehind xs p) (sym (append-nil ls)) h.0)
stand-parts ls (q ∷ qs) p h =
    let rest = stand-parts (ls ++ part_lines q) qs p h.1 in
    ((h.0, rest.0), subst (λ xs. StandsBehind xs p) (append_assoc ls (part_lines q) (flat_map part_lines qs)) rest.1)

joinable_small : (o : Option Line) (n : ℕ) → joinable o ≡ Some n → n < 2 ^ 64 - 1
joinable_small None n e = absurd cc
joinable_small (Some (idle_line m)) n e = go (nat_lt m (2 ^ 64 - 1)) refl e
  where
    go : (b : Bool) → nat_lt m (2 ^ 64 - 1) ≡ b → cond b (Some m) None ≡ Some n → n < 2 ^ 64 - 1
    go true is e = let same : m ≡ n = cc in let lt : m < 2 ^ 64 - 1 = grind (arith, nat_tests) in omega (arith, same, lt)
    go false is e = absurd cc
joinable_small (Some (again_line w)) n e = absurd cc
joinable_small (Some (spin_line k w)) n e = absurd cc
joinable_small (Some turn_line) n e = absurd cc
joinable_small (Some (back_line p k)) n e = absurd cc
joinable_small (Some (put_line p f)) n e = absurd cc
joinable_small (Some (see_line p k)) n e = absurd cc
joinable_small (Some (take_line p f w)) n e = absurd cc
joinable_small (Some (call_line k a)) n e = absurd cc
joinable_small (Some (wait_line k)) n e = absurd cc

spinning_small : (w : Refusal) (o : Option Line) (n : ℕ) → spinning w o ≡ Some n → n < 2 ^ 64 - 1
spinning_small w None n e = absurd cc
spinning_small w (Some (spin_line m v)) n e = go (same_word v w) (nat_lt m (2 ^ 64 - 1)) refl e
  where
    go : (a b : Bool) → nat_lt m (2 ^ 64 - 1) ≡ b → cond (a && b) (Some m) None ≡ Some n → n < 2 ^ 64 - 1
    go true true is e = let same : m ≡ n = cc in let lt : m < 2 ^ 64 - 1 = grind (arith, nat_tests) in omega (arith, same, lt)
    go true false is e = absurd cc
    go false b is e = absurd cc
spinning_small w (Some (idle_line m)) n e = absurd cc
spinning_small w (Some (again_line v)) n e = absurd cc
spinning_small w (Some turn_line) n e = absurd cc
spinning_small w (Some (back_line p k)) n e = absurd cc
spinning_small w (Some (put_line p f)) n e = absurd cc
spinning_small w (Some (see_line p k)) n e = absurd cc
spinning_small w (Some (take_line p f v)) n e = absurd cc
spinning_small w (Some (call_line k a)) n e = absurd cc
spinning_small w (Some (wait_line k)) n e = absurd cc

module _ (peers : List ℕ) where
  -- the parts of what was done so far
  record Told (done : List PlainEntry) : Type 0 where
    parts : List Part
    stand : StandBehind [] parts
    tells : flat_map (part_entries peers) parts ≡ done

  one_part : (done : List PlainEntry) (t : Told done) (p : Part) → StandsBehind (flat_map part_lines t.parts) p → Told (done ++ part_entries peers p)
  one_part done t p h = record { parts = t.parts ++ p ∷ []; stand = stand-push [] t.parts p t.stand h; tells = flat-push (part_entries peers) t.parts p ∙ ap (λ es. es ++ part_entries peers p) t.tells }

  -- the last part counts one more of what it stands for
  one_more : (done xs : List PlainEntry) (t : Told done) (qs : List Part) (p q : Part) (n : ℕ) → t.parts ≡ qs ++ p ∷ [] → part_entries peers p ≡ times n xs → part_entries peers q ≡ times (n + 1) xs → (StandsBehind (flat_map part_lines qs) p → StandsBehind (flat_map part_lines qs) q) → Told (done ++ xs)
  one_more done xs t qs p q n is was now stands =
      let both = stand-parts [] qs p (subst (StandBehind []) is t.stand) in
      let old : done ≡ flat_map (part_entries peers) qs ++ times n xs = sym t.tells ∙ ap (flat_map (part_entries peers)) is ∙ flat-push (part_entries peers) qs p ∙ ap (λ es. flat_map (part_entries peers) qs ++ es) was in
      record {
        parts = qs ++ q ∷ [];
        stand = stand-push [] qs q both.0 (stands both.1);
        tells =
            flat-push (part_entries peers) qs q
            ∙ ap (λ es. flat_map (part_entries peers) qs ++ es) (now ∙ times-more n xs)
            ∙ sym (append_assoc (flat_map (part_entries peers) qs) (times n xs) xs)
            ∙ ap (λ es. es ++ xs) (sym old);
      }

  one_idle : (done : List PlainEntry) → Told done → Told (done ++ idle_turn peers ∷ [])
  one_idle done t = go (joinable (last_line (flat_map part_lines t.parts))) refl
    where
      go : (o : Option ℕ) → joinable (last_line (flat_map part_lines t.parts)) ≡ o → Told (done ++ idle_turn peers ∷ [])
      go None e = one_part done t (idles 1) ((omega arith, omega arith), e)
      go (Some n) e =
          let at = joins_last t.parts (idle_line n) (joinable-tells (last_line (flat_map part_lines t.parts)) n e) tt in
          let small = joinable_small (last_line (flat_map part_lines t.parts)) n e in
          one_more done (idle_turn peers ∷ []) t at.0 (idles n) (idles (n + 1)) n at.1 refl refl (λ h. ((omega arith, omega (arith, small)), h.1))

  -- a try behind an idle turn that joins nothing
  one_spin : (word : Refusal) (done : List PlainEntry) (t : Told done) → joinable (last_line (flat_map part_lines t.parts)) ≡ None → Told (done ++ idle_turn peers ∷ again word ∷ [])
  one_spin word done t none = go (spinning word (last_line (flat_map part_lines t.parts))) refl
    where
      go : (o : Option ℕ) → spinning word (last_line (flat_map part_lines t.parts)) ≡ o → Told (done ++ idle_turn peers ∷ again word ∷ [])
      go None e = one_part done t (spins 1 word) ((omega arith, omega arith), none, e)
      go (Some n) e =
          let at = joins_last t.parts (spin_line n word) (spinning-tells one_word word (last_line (flat_map part_lines t.parts)) n e) tt in
          let small = spinning_small word (last_line (flat_map part_lines t.parts)) n e in
          one_more done (idle_turn peers ∷ again word ∷ []) t at.0 (spins n word) (spins (n + 1) word) n at.1 refl refl (λ h. ((omega arith, omega (arith, small)), h.1, h.2))

  -- a call that is made again takes the idle turn before it along
  one_again : (word : Refusal) (done : List PlainEntry) → Told done → Told (done ++ again word ∷ [])
  one_again word done t = go (is_one_idle (last_line (flat_map part_lines t.parts))) refl
    where
      go : (b : Bool) → is_one_idle (last_line (flat_map part_lines t.parts)) ≡ b → Told (done ++ again word ∷ [])
      go false e = one_part done t (tries word) e
      go true e =
          let at = joins_last t.parts (idle_line 1) (one_idle-tells (last_line (flat_map part_lines t.parts)) e) tt in
          let qs = at.0 in
          let both = stand-parts [] qs (idles 1) (subst (StandBehind []) at.1 t.stand) in
          let before : Told (flat_map (part_entries peers) qs) = record { parts = qs; stand = both.0; tells = refl } in
          let whole : flat_map (part_entries peers) qs ++ (idle_turn peers ∷ again word ∷ []) ≡ done ++ again word ∷ [] =
          sym (append_assoc (flat_map (part_entries peers) qs) (idle_turn peers ∷ []) (again word ∷ []))
          ∙ ap (λ es. es ++ again word ∷ []) (sym (flat-push (part_entries peers) qs (idles 1)) ∙ ap (flat_map (part_entries peers)) (sym at.1) ∙ t.tells) in
          subst Told whole (one_spin word (flat_map (part_entries peers) qs) before both.1.1)

  one_turn : (done : List PlainEntry) → Told done → (vs : List Visit) → map (λ v. v.peer) vs ≡ peers → Told (done ++ turned vs ∷ [])
  one_turn done t vs each = go (list_all is_idle vs) refl
    where
      go : (b : Bool) → list_all is_idle vs ≡ b → Told (done ++ turned vs ∷ [])
      go true e = subst (λ ws. Told (done ++ turned ws ∷ [])) (ap (map (visit_in [])) (sym each) ∙ idle_is vs e) (one_idle done t)
      go false e = one_part done t (turn_of vs) e

  none_pend : (pend : List (ℕ × List ℕ)) → length pend ≡ 0 → pend ≡ []
  none_pend [] e = refl
  none_pend (p ∷ ps) e = absurd (omega arith)

  module _ (lines : List CallLine) where
    -- nothing stands yet that no call has answered for
    apart : (done es : List PlainEntry) (pend : List (ℕ × List ℕ)) → length pend ≡ 0 → Told (done ++ ([] ++ es)) → Told (done ++ (put_entries pend ++ es))
    apart done es pend none t = subst (λ ps. Told (done ++ (put_entries ps ++ es))) (sym (none_pend pend none)) t

    all_told : (done : List PlainEntry) → Told done → (pend : List (ℕ × List ℕ)) (es : List PlainEntry) → IsFrom peers lines (length pend) es → Told (done ++ (put_entries pend ++ es))
    all_told done t pend [] h = apart done [] pend h (subst Told (sym (append-nil done)) t)
    all_told done t pend (turned vs ∷ es) h =
        apart done (turned vs ∷ es) pend h.0 (subst Told (append_assoc done (turned vs ∷ []) es) (all_told (done ++ turned vs ∷ []) (one_turn done t vs h.1) [] es h.2))
    all_told done t pend (put p frame ∷ es) h =
        let push : List (ℕ × List ℕ) = pend ++ (p, frame) ∷ [] in
        let as_entries : put_entries push ++ es ≡ put_entries pend ++ put p frame ∷ es = ap (λ xs. xs ++ es) (map_push (λ (q : ℕ × List ℕ). put q.0 q.1) pend (p, frame)) ∙ append_assoc (put_entries pend) (put p frame ∷ []) es in
        subst (λ xs. Told (done ++ xs)) as_entries (all_told done t push es (subst (λ n. IsFrom peers lines n es) (sym (length_push pend (p, frame))) h))
    all_told done t pend (again word ∷ es) h =
        apart done (again word ∷ es) pend h.0 (subst Told (append_assoc done (again word ∷ []) es) (all_told (done ++ again word ∷ []) (one_again word done t) [] es h.1))
    all_told done t pend (waits k ∷ es) h =
        apart done (waits k ∷ es) pend h.0 (subst Told (append_assoc done (waits k ∷ []) es) (all_told (done ++ waits k ∷ []) (one_part done t (wait_of k) tt) [] es h.1))
    all_told done t pend (called k a ∷ es) h =
        let whole : (done ++ (put_entries pend ++ called k a ∷ [])) ++ es ≡ done ++ (put_entries pend ++ called k a ∷ es) = append_assoc done (put_entries pend ++ called k a ∷ []) es ∙ ap (λ xs. done ++ xs) (append_assoc (put_entries pend) (called k a ∷ []) es) in
        subst Told whole (all_told (done ++ (put_entries pend ++ called k a ∷ [])) (one_part done t (call_of pend k a) tt) [] es h.1)

pub journals_have_parts : JournalsHaveParts
journals_have_parts peers script es form =
    let t = all_told peers script [] (record { parts = []; stand = tt; tells = refl }) [] es form in
    (t.parts, t.stand, t.tells, ap joined (sym t.tells) ∙ parts_are_joined peers t.parts t.stand)
