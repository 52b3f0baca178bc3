-- The visits of a turn are read back from its lines.
use Rattle.std.proofs.Common.{◌≡◌, ℕ, ◌+◌, Bool, true, false, ◌&&◌, cond, List, [], ◌∷◌, ◌++◌, length, map, sum_by, refl, sym, ap, ap₂, ◌∙◌, arith, append_assoc, append-nil, eqb-true, eq-eqb, ne_eqb}
use Rattle.std.specs.Prelude.{◌==◌}
use Rattle.std.specs.List.{AllByRecursion, flat_map, list_all}
use Rattle.std.proofs.lemmas.Bool.{and_parts}
use Rattle.std.proofs.lemmas.List.Sums.{sum_by-cons, sum_by-append}
use Rattle.board_model.specs.LinkedBoard.{Differ}
use Rattle.board_model.specs.Journal.{Taken, taken, Visit, Line, back_line, put_line, see_line, is_idle, looked, taken_line, visit_lines}
use Rattle.board_model.specs.Unjoined.{back_in, owed_in, see_in, takes_in, visit_in}
use Rattle.board_model.proofs.JournalReading.{IsOfTurn}
use Rattle.board_model.proofs.ListsJoined.{none_of}

-- ---- all lines of visits are of a turn

all-append : (xs ys : List Line) → AllByRecursion IsOfTurn xs → AllByRecursion IsOfTurn ys → AllByRecursion IsOfTurn (xs ++ ys)
all-append [] ys a b = b
all-append (x ∷ xs) ys a b = (a.0, all-append xs ys a.1 b)

looked_all : (line : ℕ → Line) (n : ℕ) → IsOfTurn (line n) → AllByRecursion IsOfTurn (looked line n)
looked_all line n h = go (n == 0)
  where
    go : (b : Bool) → AllByRecursion IsOfTurn (cond b [] (line n ∷ []))
    go true = tt
    go false = (h, tt)

puts_all : (p : ℕ) (fs : List (List ℕ)) → AllByRecursion IsOfTurn (map (put_line p) fs)
puts_all p [] = tt
puts_all p (f ∷ fs) = (tt, puts_all p fs)

takes_all : (p : ℕ) (ts : List Taken) → AllByRecursion IsOfTurn (map (taken_line p) ts)
takes_all p [] = tt
takes_all p (t ∷ ts) = (tt, takes_all p ts)

visit_all : (v : Visit) → AllByRecursion IsOfTurn (visit_lines v)
visit_all v =
    all-append (looked (back_line v.peer) v.back) (map (put_line v.peer) v.owed ++ (looked (see_line v.peer) v.see ++ map (taken_line v.peer) v.takes)) (looked_all (back_line v.peer) v.back tt)
    (all-append (map (put_line v.peer) v.owed) (looked (see_line v.peer) v.see ++ map (taken_line v.peer) v.takes) (puts_all v.peer v.owed)
    (all-append (looked (see_line v.peer) v.see) (map (taken_line v.peer) v.takes) (looked_all (see_line v.peer) v.see tt) (takes_all v.peer v.takes)))

pub visits_all : (vs : List Visit) → AllByRecursion IsOfTurn (flat_map visit_lines vs)
visits_all [] = tt
visits_all (v ∷ vs) = all-append (visit_lines v) (flat_map visit_lines vs) (visit_all v) (visits_all vs)

-- ---- the visit of lines in front and lines behind

abbrev both : Visit → Visit → Visit
both v w = record { peer = v.peer; back = v.back + w.back; owed = v.owed ++ w.owed; see = v.see + w.see; takes = v.takes ++ w.takes }

same_visit : (p : ℕ) {a b : ℕ} {c d : List (List ℕ)} {e f : ℕ} {g h : List Taken} → a ≡ b → c ≡ d → e ≡ f → g ≡ h → (let v : Visit = record { peer = p; back = a; owed = c; see = e; takes = g } in v) ≡ record { peer = p; back = b; owed = d; see = f; takes = h }
same_visit p x y z w = cc

pub flat-append : {X Y : Type 0} (f : X → List Y) (xs ys : List X) → flat_map f (xs ++ ys) ≡ flat_map f xs ++ flat_map f ys
flat-append f [] ys = refl
flat-append f (x ∷ xs) ys = ap (λ zs. f x ++ zs) (flat-append f xs ys) ∙ sym (append_assoc (f x) (flat_map f xs) (flat_map f ys))

visit-append : (xs ys : List Line) (p : ℕ) → visit_in (xs ++ ys) p ≡ both (visit_in xs p) (visit_in ys p)
visit-append xs ys p = same_visit p (sum_by-append (back_in p) xs ys) (flat-append (owed_in p) xs ys) (sum_by-append (see_in p) xs ys) (flat-append (takes_in p) xs ys)

-- a visit's own lines
abbrev no_visit : ℕ → Visit
no_visit p = visit_in [] p

-- each part by itself
sum-looked : (f : Line → ℕ) (line : ℕ → Line) (n : ℕ) → sum_by f (looked line n) ≡ cond (n == 0) 0 (f (line n))
sum-looked f line n = go (n == 0)
  where
    go : (b : Bool) → sum_by f (cond b [] (line n ∷ [])) ≡ cond b 0 (f (line n))
    go true = refl
    go false = sum_by-cons f (line n) [] ∙ omega arith

flat-looked : {Y : Type 0} (f : Line → List Y) (line : ℕ → Line) (n : ℕ) → f (line n) ≡ [] → flat_map f (looked line n) ≡ []
flat-looked {Y} f line n none = go (n == 0)
  where
    go : (b : Bool) → flat_map f (cond b [] (line n ∷ [])) ≡ []
    go true = refl
    go false = ap (λ ys. ys ++ []) none

sum-none : {X : Type 0} (f : Line → ℕ) (line : X → Line) (xs : List X) → ((x : X) → f (line x) ≡ 0) → sum_by f (map line xs) ≡ 0
sum-none f line [] none = refl
sum-none f line (x ∷ xs) none = sum_by-cons f (line x) (map line xs) ∙ omega (arith, none x, sum-none f line xs none)

flat-none : {X Y : Type 0} (f : Line → List Y) (line : X → Line) (xs : List X) → ((x : X) → f (line x) ≡ []) → flat_map f (map line xs) ≡ []
flat-none f line [] none = refl
flat-none f line (x ∷ xs) none = ap₂ (λ ys zs. ys ++ zs) (none x) (flat-none f line xs none)

flat-own : {X Y : Type 0} (f : Line → List Y) (line : X → Line) (y : X → Y) (xs : List X) → ((x : X) → f (line x) ≡ y x ∷ []) → flat_map f (map line xs) ≡ map y xs
flat-own f line y [] own = refl
flat-own f line y (x ∷ xs) own = ap₂ (λ ys zs. ys ++ zs) (own x) (flat-own f line y xs own)

map-same : {X : Type 0} (xs : List X) → map (λ (x : X). x) xs ≡ xs
map-same [] = refl
map-same (x ∷ xs) = ap (λ ys. x ∷ ys) (map-same xs)

zero_else : (b : Bool) → ◌≡◌ {A = ℕ} (cond b 0 0) 0
zero_else true = refl
zero_else false = refl

-- the four parts of a visit's lines, at a peer p: b says whether it is the visit's own
module _ (v : Visit) (p : ℕ) where
  back_part : visit_in (looked (back_line v.peer) v.back) p ≡ record { peer = p; back = cond (v.back == 0) 0 (cond (v.peer == p) v.back 0); owed = []; see = 0; takes = [] }
  back_part = same_visit p (sum-looked (back_in p) (back_line v.peer) v.back) (flat-looked (owed_in p) (back_line v.peer) v.back refl) (sum-looked (see_in p) (back_line v.peer) v.back ∙ zero_else (v.back == 0)) (flat-looked (takes_in p) (back_line v.peer) v.back refl)

  see_part : visit_in (looked (see_line v.peer) v.see) p ≡ record { peer = p; back = 0; owed = []; see = cond (v.see == 0) 0 (cond (v.peer == p) v.see 0); takes = [] }
  see_part = same_visit p (sum-looked (back_in p) (see_line v.peer) v.see ∙ zero_else (v.see == 0)) (flat-looked (owed_in p) (see_line v.peer) v.see refl) (sum-looked (see_in p) (see_line v.peer) v.see) (flat-looked (takes_in p) (see_line v.peer) v.see refl)

  own_if : (n : ℕ) → cond (n == 0) 0 n ≡ n
  own_if n = go (n == 0) refl
    where
      go : (b : Bool) → (n == 0) ≡ b → cond b 0 n ≡ n
      go true e = sym (eqb-true n 0 e)
      go false e = refl

  own_parts : (v.peer == p) ≡ true → visit_in (visit_lines v) p ≡ record v { peer = p }
  own_parts own =
      let puts : visit_in (map (put_line v.peer) v.owed) p ≡ record { peer = p; back = 0; owed = v.owed; see = 0; takes = [] } = same_visit p (sum-none (back_in p) (put_line v.peer) v.owed (λ f. refl)) (flat-own (owed_in p) (put_line v.peer) (λ f. f) v.owed (λ f. ap (λ b. cond b (f ∷ []) []) own) ∙ map-same v.owed) (sum-none (see_in p) (put_line v.peer) v.owed (λ f. refl)) (flat-none (takes_in p) (put_line v.peer) v.owed (λ f. refl)) in
      let takes : visit_in (map (taken_line v.peer) v.takes) p ≡ record { peer = p; back = 0; owed = []; see = 0; takes = v.takes } = same_visit p (sum-none (back_in p) (taken_line v.peer) v.takes (λ t. refl)) (flat-none (owed_in p) (taken_line v.peer) v.takes (λ t. refl)) (sum-none (see_in p) (taken_line v.peer) v.takes (λ t. refl)) (flat-own (takes_in p) (taken_line v.peer) (λ t. t) v.takes (λ t. ap (λ b. cond b (taken t.frame t.fate ∷ []) []) own) ∙ map-same v.takes) in
      let back : cond (v.back == 0) 0 (cond (v.peer == p) v.back 0) ≡ v.back = ap (λ b. cond (v.back == 0) 0 (cond b v.back 0)) own ∙ own_if v.back in
      let see : cond (v.see == 0) 0 (cond (v.peer == p) v.see 0) ≡ v.see = ap (λ b. cond (v.see == 0) 0 (cond b v.see 0)) own ∙ own_if v.see in
      visit-append (looked (back_line v.peer) v.back) (map (put_line v.peer) v.owed ++ (looked (see_line v.peer) v.see ++ map (taken_line v.peer) v.takes)) p
      ∙ ap₂ both back_part (visit-append (map (put_line v.peer) v.owed) (looked (see_line v.peer) v.see ++ map (taken_line v.peer) v.takes) p ∙ ap₂ both puts (visit-append (looked (see_line v.peer) v.see) (map (taken_line v.peer) v.takes) p ∙ ap₂ both see_part takes))
      ∙ same_visit p (omega (arith, back)) (append-nil v.owed) (omega (arith, see)) refl

  other_parts : (v.peer == p) ≡ false → visit_in (visit_lines v) p ≡ no_visit p
  other_parts other =
      let puts : visit_in (map (put_line v.peer) v.owed) p ≡ no_visit p = same_visit p (sum-none (back_in p) (put_line v.peer) v.owed (λ f. refl)) (flat-none (owed_in p) (put_line v.peer) v.owed (λ f. ap (λ b. cond b (f ∷ []) []) other)) (sum-none (see_in p) (put_line v.peer) v.owed (λ f. refl)) (flat-none (takes_in p) (put_line v.peer) v.owed (λ f. refl)) in
      let takes : visit_in (map (taken_line v.peer) v.takes) p ≡ no_visit p = same_visit p (sum-none (back_in p) (taken_line v.peer) v.takes (λ t. refl)) (flat-none (owed_in p) (taken_line v.peer) v.takes (λ t. refl)) (sum-none (see_in p) (taken_line v.peer) v.takes (λ t. refl)) (flat-none (takes_in p) (taken_line v.peer) v.takes (λ t. ap (λ b. cond b (taken t.frame t.fate ∷ []) []) other)) in
      let back : cond (v.back == 0) 0 (cond (v.peer == p) v.back 0) ≡ 0 = ap (λ b. cond (v.back == 0) 0 (cond b v.back 0)) other ∙ zero_else (v.back == 0) in
      let see : cond (v.see == 0) 0 (cond (v.peer == p) v.see 0) ≡ 0 = ap (λ b. cond (v.see == 0) 0 (cond b v.see 0)) other ∙ zero_else (v.see == 0) in
      visit-append (looked (back_line v.peer) v.back) (map (put_line v.peer) v.owed ++ (looked (see_line v.peer) v.see ++ map (taken_line v.peer) v.takes)) p
      ∙ ap₂ both back_part (visit-append (map (put_line v.peer) v.owed) (looked (see_line v.peer) v.see ++ map (taken_line v.peer) v.takes) p ∙ ap₂ both puts (visit-append (looked (see_line v.peer) v.see) (map (taken_line v.peer) v.takes) p ∙ ap₂ both see_part takes))
      ∙ same_visit p (omega (arith, back)) refl (omega (arith, see)) refl

-- ---- all visits

own_visit : (v : Visit) → visit_in (visit_lines v) v.peer ≡ v
own_visit v = own_parts v v.peer (eq-eqb v.peer v.peer refl)

others_none : (p : ℕ) (vs : List Visit) → AllByRecursion (λ m. m ≡ p → ⊥) (map (λ v. v.peer) vs) → visit_in (flat_map visit_lines vs) p ≡ no_visit p
others_none p [] all = refl
others_none p (v ∷ vs) all = visit-append (visit_lines v) (flat_map visit_lines vs) p ∙ ap₂ both (other_parts v p (ne_eqb v.peer p all.0)) (others_none p vs all.1)

none_right : (v : Visit) (p : ℕ) → both v (no_visit p) ≡ v
none_right v p = same_visit v.peer (omega arith) (append-nil v.owed) (omega arith) (append-nil v.takes)

none_left : (v : Visit) → both (no_visit v.peer) v ≡ v
none_left v = same_visit v.peer (omega arith) refl (omega arith) refl

behind : (v : Visit) (vs : List Visit) (ps : List ℕ) → AllByRecursion (λ m. m ≡ v.peer → ⊥) ps → map (visit_in (visit_lines v ++ flat_map visit_lines vs)) ps ≡ map (visit_in (flat_map visit_lines vs)) ps
behind v vs [] all = refl
behind v vs (p ∷ ps) all =
    ap₂ (λ (w : Visit) (ws : List Visit). w ∷ ws)
    (visit-append (visit_lines v) (flat_map visit_lines vs) p ∙ ap (λ w. both w (visit_in (flat_map visit_lines vs) p)) (other_parts v p (ne_eqb v.peer p (λ e. all.0 (sym e)))) ∙ none_left (visit_in (flat_map visit_lines vs) p))
    (behind v vs ps all.1)

pub visits_back : (vs : List Visit) → Differ (map (λ v. v.peer) vs) → map (visit_in (flat_map visit_lines vs)) (map (λ v. v.peer) vs) ≡ vs
visits_back [] differ = refl
visits_back (v ∷ vs) differ =
    ap₂ (λ (w : Visit) (ws : List Visit). w ∷ ws)
    (visit-append (visit_lines v) (flat_map visit_lines vs) v.peer ∙ ap₂ both (own_visit v) (others_none v.peer vs differ.0) ∙ none_right v v.peer)
    (behind v vs (map (λ w. w.peer) vs) differ.0 ∙ visits_back vs differ.1)

-- ---- an idle turn

idle_none : (v : Visit) → is_idle v ≡ true → v ≡ no_visit v.peer
idle_none v e =
    let back = and_parts (v.back == 0) (length v.owed == 0 && (v.see == 0 && length v.takes == 0)) e in
    let owed = and_parts (length v.owed == 0) (v.see == 0 && length v.takes == 0) back.1 in
    let seen = and_parts (v.see == 0) (length v.takes == 0) owed.1 in
    same_visit v.peer (eqb-true v.back 0 back.0) (none_of v.owed owed.0) (eqb-true v.see 0 seen.0) (none_of v.takes seen.1)

pub idle_is : (vs : List Visit) → list_all is_idle vs ≡ true → map (visit_in []) (map (λ v. v.peer) vs) ≡ vs
idle_is [] e = refl
idle_is (v ∷ vs) e =
    let parts = and_parts (is_idle v) (list_all is_idle vs) e in
    ap₂ (λ (w : Visit) (ws : List Visit). w ∷ ws) (sym (idle_none v parts.0)) (idle_is vs parts.1)
