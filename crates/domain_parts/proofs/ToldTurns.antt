-- The lines of a turn's visits, one after the other and all together.
use Rattle.std.proofs.Common.{◌≡◌, ℕ, Bool, true, false, List, [], ◌∷◌, ◌++◌, length, map, refl, sym, ap, ◌∙◌, arith, append_assoc}
use Rattle.std.specs.Prelude.{not, ◌&&◌, ◌==◌, if◌then◌else◌}
use Rattle.std.specs.List.{flat_map, list_all}
use Rattle.std.proofs.lemmas.Bool.{and_parts, eqb-true}
use Rattle.std.proofs.lemmas.List.{append-nil}
use Rattle.board_model.specs.Journal.{Line, Visit, Taken, turn_line, back_line, put_line, see_line, taken_line, looked, visit_lines, is_idle}
use Rattle.domain_parts.specs.Beginning.{told_of, has_begun, told_of_all, has_begun_after}

-- ---- one visit more

pub told-last : (begun : Bool) (vs : List Visit) (v : Visit) → told_of_all begun (vs ++ v ∷ []) ≡ told_of_all begun vs ++ told_of (has_begun_after begun vs) v
told-last begun [] v = append-nil (told_of begun v)
told-last begun (w ∷ vs) v =
    ap (λ (ls : List Line). told_of begun w ++ ls) (told-last (has_begun begun w) vs v)
    ∙ sym (append_assoc (told_of begun w) (told_of_all (has_begun begun w) vs) (told_of (has_begun_after (has_begun begun w) vs) v))

pub begun-last : (begun : Bool) (vs : List Visit) (v : Visit) → has_begun_after begun (vs ++ v ∷ []) ≡ has_begun (has_begun_after begun vs) v
begun-last begun [] v = refl
begun-last begun (w ∷ vs) v = begun-last (has_begun begun w) vs v

-- ---- all visits of a turn

pub none-in : {X : Type 0} (xs : List X) → (length xs == 0) ≡ true → xs ≡ []
none-in [] e = refl
none-in (x ∷ xs) e = let is = eqb-true (length (x ∷ xs)) 0 e in absurd (omega (arith, is))

-- an idle visit has no lines
pub idle-lines : (v : Visit) → is_idle v ≡ true → visit_lines v ≡ []
idle-lines v idle =
    let first = and_parts (v.back == 0) (length v.owed == 0 && (v.see == 0 && length v.takes == 0)) idle in
    let second = and_parts (length v.owed == 0) (v.see == 0 && length v.takes == 0) first.1 in
    let third = and_parts (v.see == 0) (length v.takes == 0) second.1 in
    ap (λ (n : ℕ). looked (back_line v.peer) n ++ (map (put_line v.peer) v.owed ++ (looked (see_line v.peer) v.see ++ map (taken_line v.peer) v.takes))) (eqb-true v.back 0 first.0)
    ∙ ap (λ (fs : List (List ℕ)). map (put_line v.peer) fs ++ (looked (see_line v.peer) v.see ++ map (taken_line v.peer) v.takes)) (none-in v.owed second.0)
    ∙ ap (λ (n : ℕ). looked (see_line v.peer) n ++ map (taken_line v.peer) v.takes) (eqb-true v.see 0 third.0)
    ∙ ap (λ (ts : List Taken). map (taken_line v.peer) ts) (none-in v.takes third.1)

-- a turn has begun
told-one : (v : Visit) → told_of true v ≡ visit_lines v
told-one v = go (is_idle v) refl
  where
    go : (b : Bool) → is_idle v ≡ b → (if b then [] else [] ++ visit_lines v) ≡ visit_lines v
    go true e = sym (idle-lines v e)
    go false e = refl

told-rest : (vs : List Visit) → told_of_all true vs ≡ flat_map visit_lines vs
told-rest [] = refl
told-rest (v ∷ vs) = ap (λ (ls : List Line). ls ++ told_of_all true vs) (told-one v) ∙ ap (λ (ls : List Line). visit_lines v ++ ls) (told-rest vs)

begun-rest : (vs : List Visit) → has_begun_after true vs ≡ true
begun-rest [] = refl
begun-rest (v ∷ vs) = begun-rest vs

-- the lines of a turn: its own first, unless all visits are idle
pub turn-told : (vs : List Visit) → told_of_all false vs ≡ (if list_all is_idle vs then [] else turn_line ∷ flat_map visit_lines vs)
turn-told [] = refl
turn-told (v ∷ vs) = go (is_idle v) refl (turn-told vs)
  where
    go : (b : Bool) → is_idle v ≡ b → told_of_all false vs ≡ (if list_all is_idle vs then [] else turn_line ∷ flat_map visit_lines vs)
        → (if b then [] else turn_line ∷ visit_lines v) ++ told_of_all (not b) vs ≡ (if b && list_all is_idle vs then [] else turn_line ∷ (visit_lines v ++ flat_map visit_lines vs))
    go true e all = all ∙ ap (λ (ls : List Line). if list_all is_idle vs then [] else turn_line ∷ (ls ++ flat_map visit_lines vs)) (sym (idle-lines v e))
    go false e all = ap (λ (ls : List Line). turn_line ∷ (visit_lines v ++ ls)) (told-rest vs)

pub turn-begun : (vs : List Visit) → has_begun_after false vs ≡ not (list_all is_idle vs)
turn-begun [] = refl
turn-begun (v ∷ vs) = go (is_idle v) refl (turn-begun vs)
  where
    go : (b : Bool) → is_idle v ≡ b → has_begun_after false vs ≡ not (list_all is_idle vs) → has_begun_after (not b) vs ≡ not (b && list_all is_idle vs)
    go true e all = all
    go false e all = begun-rest vs
