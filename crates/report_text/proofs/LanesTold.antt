-- What the lines of a journal say of a lane is what its entries do there.
use Rattle.std.proofs.Common.{◌≡◌, ℕ, zero, suc, ◌+◌, Bool, true, false, cond, List, [], ◌∷◌, ◌++◌, map, filter, sum, sum_by, refl, sym, ap, ap₂, ◌∙◌, arith, append-nil, eqb-true}
use Rattle.std.specs.Prelude.{◌==◌}
use Rattle.std.specs.List.{flat_map}
use Rattle.std.proofs.lemmas.List.{map-append}
use Rattle.std.proofs.lemmas.List.Concat.{flat_map-append}
use Rattle.std.proofs.lemmas.List.Sums.{sum_by-append, sum_by-cons}
use Rattle.board_model.specs.Journal.{Taken, Visit, PlainAnswer, PlainEntry, turned, again, Line, back_line, put_line, see_line, looked, taken_line, visit_lines}
use Rattle.board_model.specs.Unjoined.{times, idle_turn, visit_in}
use Rattle.board_model.specs.JournalParts.{Part, idles, spins, tries, turn_of, wait_of, call_of, part_lines, part_entries}
use Rattle.board_model.specs.Traffic.{visits_to, puts_in, takes_in, put_to, takes_from, taken_from, backs_in, back_looks}
use Rattle.report_text.specs.LaneLines.{LaneLine, came_back, puts, shows, takes, nothing, lane_of, back_in, put_in}

-- the frames that a line says were taken from a peer, and how many it says were shown
abbrev pub frame_in : ℕ → LaneLine → List (List ℕ)
frame_in p (takes peer frame) = cond (peer == p) (frame ∷ []) []
frame_in p other = []

abbrev pub see_in : ℕ → LaneLine → ℕ
see_in p (shows peer n) = cond (peer == p) n 0
see_in p other = 0

abbrev pub lanes : List Line → List LaneLine
lanes ls = map lane_of ls

-- ---- lists that lines and entries tell alike

none-looked : {A : Type 0} (f : LaneLine → List A) (line : ℕ → Line) (n : ℕ) → f (lane_of (line n)) ≡ [] → flat_map f (lanes (looked line n)) ≡ []
none-looked {A = A} f line n none = go (n == 0)
  where
    go : (b : Bool) → flat_map f (lanes (cond b [] (line n ∷ []))) ≡ []
    go true = refl
    go false = ap (λ ys. ys ++ []) none

-- a visit's lines, by what they say of a peer
module _ (p : ℕ) (v : Visit) where
  abbrev own : Bool
  own = v.peer == p

  puts-put : (b : Bool) → (v.peer == p) ≡ b → (fs : List (List ℕ)) → flat_map (put_in p) (lanes (map (put_line v.peer) fs)) ≡ cond b fs []
  puts-put true is [] = refl
  puts-put false is [] = refl
  puts-put true is (f ∷ fs) = ap₂ (λ xs ys. xs ++ ys) (ap (λ b. cond b (f ∷ []) []) is) (puts-put true is fs)
  puts-put false is (f ∷ fs) = ap₂ (λ xs ys. xs ++ ys) (ap (λ b. cond b (f ∷ []) []) is) (puts-put false is fs)

  takes-put : (ts : List Taken) → flat_map (put_in p) (lanes (map (taken_line v.peer) ts)) ≡ []
  takes-put [] = refl
  takes-put (t ∷ ts) = takes-put ts

  puts-taken : (fs : List (List ℕ)) → flat_map (frame_in p) (lanes (map (put_line v.peer) fs)) ≡ []
  puts-taken [] = refl
  puts-taken (f ∷ fs) = puts-taken fs

  takes-taken : (b : Bool) → (v.peer == p) ≡ b → (ts : List Taken) → flat_map (frame_in p) (lanes (map (taken_line v.peer) ts)) ≡ cond b (map (λ t. t.frame) ts) []
  takes-taken true is [] = refl
  takes-taken false is [] = refl
  takes-taken true is (t ∷ ts) = ap₂ (λ xs ys. xs ++ ys) (ap (λ b. cond b (t.frame ∷ []) []) is) (takes-taken true is ts)
  takes-taken false is (t ∷ ts) = ap₂ (λ xs ys. xs ++ ys) (ap (λ b. cond b (t.frame ∷ []) []) is) (takes-taken false is ts)

  -- the four parts of a visit
  in-parts : {A : Type 0} (f : LaneLine → List A) (a b c d : List A) → flat_map f (lanes (looked (back_line v.peer) v.back)) ≡ a → flat_map f (lanes (map (put_line v.peer) v.owed)) ≡ b → flat_map f (lanes (looked (see_line v.peer) v.see)) ≡ c → flat_map f (lanes (map (taken_line v.peer) v.takes)) ≡ d → flat_map f (lanes (visit_lines v)) ≡ a ++ (b ++ (c ++ d))
  in-parts {A = A} f a b c d x y z w =
      let backs : List Line = looked (back_line v.peer) v.back in
      let owed : List Line = map (put_line v.peer) v.owed in
      let sees : List Line = looked (see_line v.peer) v.see in
      let taken : List Line = map (taken_line v.peer) v.takes in
      both backs (owed ++ (sees ++ taken)) x (both owed (sees ++ taken) y (both sees taken z w))
    where
      both : (xs ys : List Line) → {g h : List A} → flat_map f (lanes xs) ≡ g → flat_map f (lanes ys) ≡ h → flat_map f (lanes (xs ++ ys)) ≡ g ++ h
      both xs ys m n = ap (flat_map f) (map-append lane_of xs ys) ∙ flat_map-append f (lanes xs) (lanes ys) ∙ ap₂ (λ us vs. us ++ vs) m n

  visit-put : (b : Bool) → (v.peer == p) ≡ b → flat_map (put_in p) (lanes (visit_lines v)) ≡ cond b v.owed []
  visit-put b is =
      in-parts (put_in p) [] (cond b v.owed []) [] [] (none-looked (put_in p) (back_line v.peer) v.back refl) (puts-put b is v.owed) (none-looked (put_in p) (see_line v.peer) v.see refl) (takes-put v.takes)
      ∙ append-nil (cond b v.owed [])

  visit-taken : (b : Bool) → (v.peer == p) ≡ b → flat_map (frame_in p) (lanes (visit_lines v)) ≡ cond b (map (λ t. t.frame) v.takes) []
  visit-taken b is = in-parts (frame_in p) [] [] [] (cond b (map (λ t. t.frame) v.takes) []) (none-looked (frame_in p) (back_line v.peer) v.back refl) (puts-taken v.owed) (none-looked (frame_in p) (see_line v.peer) v.see refl) (takes-taken b is v.takes)

  -- buffers that came back
  puts-back : (fs : List (List ℕ)) → sum_by (back_in p) (lanes (map (put_line v.peer) fs)) ≡ 0
  puts-back [] = refl
  puts-back (f ∷ fs) = omega (arith, sum_by-cons (back_in p) (puts v.peer f) (lanes (map (put_line v.peer) fs)), puts-back fs)

  takes-back : (ts : List Taken) → sum_by (back_in p) (lanes (map (taken_line v.peer) ts)) ≡ 0
  takes-back [] = refl
  takes-back (t ∷ ts) = omega (arith, sum_by-cons (back_in p) (takes v.peer t.frame) (lanes (map (taken_line v.peer) ts)), takes-back ts)

  looked-back : (n : ℕ) → sum_by (back_in p) (lanes (looked (back_line v.peer) n)) ≡ cond (v.peer == p) n 0
  looked-back n = go (n == 0) refl
    where
      none : (b : Bool) → ◌≡◌ {A = ℕ} 0 (cond b 0 0)
      none true = refl
      none false = refl

      go : (b : Bool) → (n == 0) ≡ b → sum_by (back_in p) (lanes (cond b [] (back_line v.peer n ∷ []))) ≡ cond (v.peer == p) n 0
      go true is = none (v.peer == p) ∙ ap (λ m. cond (v.peer == p) m 0) (sym (eqb-true n 0 is))
      go false is = sum_by-cons (back_in p) (came_back v.peer n) [] ∙ omega arith

  looked-see : (n : ℕ) → sum_by (back_in p) (lanes (looked (see_line v.peer) n)) ≡ 0
  looked-see n = go (n == 0)
    where
      go : (b : Bool) → sum_by (back_in p) (lanes (cond b [] (see_line v.peer n ∷ []))) ≡ 0
      go true = refl
      go false = sum_by-cons (back_in p) (shows v.peer n) [] ∙ omega arith

  visit-back : sum_by (back_in p) (lanes (visit_lines v)) ≡ cond (v.peer == p) v.back 0
  visit-back =
      let backs : List Line = looked (back_line v.peer) v.back in
      let owed : List Line = map (put_line v.peer) v.owed in
      let sees : List Line = looked (see_line v.peer) v.see in
      let taken : List Line = map (taken_line v.peer) v.takes in
      omega (
        arith,
        both backs (owed ++ (sees ++ taken)),
        both owed (sees ++ taken),
        both sees taken,
        looked-back v.back,
        puts-back v.owed,
        looked-see v.see,
        takes-back v.takes,
      )
    where
      both : (xs ys : List Line) → sum_by (back_in p) (lanes (xs ++ ys)) ≡ sum_by (back_in p) (lanes xs) + sum_by (back_in p) (lanes ys)
      both xs ys = ap (sum_by (back_in p)) (map-append lane_of xs ys) ∙ sum_by-append (back_in p) (lanes xs) (lanes ys)

-- ---- a turn

abbrev to_peer : ℕ → Visit → Bool
to_peer p v = v.peer == p

turn-put : (p : ℕ) (vs : List Visit) → flat_map (put_in p) (lanes (flat_map visit_lines vs)) ≡ puts_in p (turned vs)
turn-put p [] = refl
turn-put p (v ∷ vs) =
    ap (flat_map (put_in p)) (map-append lane_of (visit_lines v) (flat_map visit_lines vs)) ∙ flat_map-append (put_in p) (lanes (visit_lines v)) (lanes (flat_map visit_lines vs))
    ∙ go (v.peer == p) refl (turn-put p vs)
  where
    go : (b : Bool) → (v.peer == p) ≡ b → flat_map (put_in p) (lanes (flat_map visit_lines vs)) ≡ puts_in p (turned vs) → flat_map (put_in p) (lanes (visit_lines v)) ++ flat_map (put_in p) (lanes (flat_map visit_lines vs)) ≡ flat_map (λ w. w.owed) (cond b (v ∷ visits_to p vs) (visits_to p vs))
    go true is rest = ap₂ (λ xs ys. xs ++ ys) (visit-put p v true is) rest
    go false is rest = ap₂ (λ xs ys. xs ++ ys) (visit-put p v false is) rest

turn-taken : (p : ℕ) (vs : List Visit) → flat_map (frame_in p) (lanes (flat_map visit_lines vs)) ≡ map (λ t. t.frame) (takes_in p (turned vs))
turn-taken p [] = refl
turn-taken p (v ∷ vs) =
    ap (flat_map (frame_in p)) (map-append lane_of (visit_lines v) (flat_map visit_lines vs)) ∙ flat_map-append (frame_in p) (lanes (visit_lines v)) (lanes (flat_map visit_lines vs))
    ∙ go (v.peer == p) refl (turn-taken p vs)
  where
    go : (b : Bool) → (v.peer == p) ≡ b → flat_map (frame_in p) (lanes (flat_map visit_lines vs)) ≡ map (λ t. t.frame) (takes_in p (turned vs)) → flat_map (frame_in p) (lanes (visit_lines v)) ++ flat_map (frame_in p) (lanes (flat_map visit_lines vs)) ≡ map (λ t. t.frame) (flat_map (λ w. w.takes) (cond b (v ∷ visits_to p vs) (visits_to p vs)))
    go true is rest = ap₂ (λ xs ys. xs ++ ys) (visit-taken p v true is) rest ∙ sym (map-append (λ (t : Taken). t.frame) v.takes (flat_map (λ w. w.takes) (visits_to p vs)))
    go false is rest = ap₂ (λ xs ys. xs ++ ys) (visit-taken p v false is) rest

turn-back : (p : ℕ) (vs : List Visit) → sum_by (back_in p) (lanes (flat_map visit_lines vs)) ≡ sum (backs_in p (turned vs))
turn-back p [] = refl
turn-back p (v ∷ vs) =
    ap (sum_by (back_in p)) (map-append lane_of (visit_lines v) (flat_map visit_lines vs)) ∙ sum_by-append (back_in p) (lanes (visit_lines v)) (lanes (flat_map visit_lines vs))
    ∙ go (v.peer == p) (visit-back p v) (turn-back p vs)
  where
    go : (b : Bool) → sum_by (back_in p) (lanes (visit_lines v)) ≡ cond b v.back 0 → sum_by (back_in p) (lanes (flat_map visit_lines vs)) ≡ sum (backs_in p (turned vs)) → sum_by (back_in p) (lanes (visit_lines v)) + sum_by (back_in p) (lanes (flat_map visit_lines vs)) ≡ sum (map (λ w. w.back) (cond b (v ∷ visits_to p vs) (visits_to p vs)))
    go true one rest = omega (arith, one, rest, sum_by-cons (λ (x : ℕ). x) v.back (backs_in p (turned vs)))
    go false one rest = omega (arith, one, rest)

-- ---- parts, of which those that stand for many say nothing

-- what idle turns and tries do at a peer
pub none-idle : (p : ℕ) (qs : List ℕ) → visits_to p (map (visit_in []) qs) ≡ map (visit_in []) (filter (λ q. q == p) qs)
none-idle p [] = refl
none-idle p (q ∷ qs) = go (q == p) (none-idle p qs)
  where
    go : (b : Bool) → visits_to p (map (visit_in []) qs) ≡ map (visit_in []) (filter (λ k. k == p) qs) → cond b (visit_in [] q ∷ visits_to p (map (visit_in []) qs)) (visits_to p (map (visit_in []) qs)) ≡ map (visit_in []) (cond b (q ∷ filter (λ k. k == p) qs) (filter (λ k. k == p) qs))
    go true rest = ap (λ vs. visit_in [] q ∷ vs) rest
    go false rest = rest

none-put : (qs : List ℕ) → flat_map (λ v. v.owed) (map (visit_in []) qs) ≡ []
none-put [] = refl
none-put (q ∷ qs) = none-put qs

none-taken : (qs : List ℕ) → flat_map (λ v. v.takes) (map (visit_in []) qs) ≡ []
none-taken [] = refl
none-taken (q ∷ qs) = none-taken qs

none-back : (qs : List ℕ) → sum (map (λ v. v.back) (map (visit_in []) qs)) ≡ 0
none-back [] = refl
none-back (q ∷ qs) = omega (arith, sum_by-cons (λ (x : ℕ). x) 0 (map (λ v. v.back) (map (visit_in []) qs)), none-back qs)

idle-put : (p : ℕ) (qs : List ℕ) → puts_in p (idle_turn qs) ≡ []
idle-put p qs = ap (flat_map (λ v. v.owed)) (none-idle p qs) ∙ none-put (filter (λ q. q == p) qs)

pub idle-taken : (p : ℕ) (qs : List ℕ) → takes_in p (idle_turn qs) ≡ []
idle-taken p qs = ap (flat_map (λ v. v.takes)) (none-idle p qs) ∙ none-taken (filter (λ q. q == p) qs)

idle-back : (p : ℕ) (qs : List ℕ) → sum (backs_in p (idle_turn qs)) ≡ 0
idle-back p qs = ap (λ vs. sum (map (λ v. v.back) vs)) (none-idle p qs) ∙ none-back (filter (λ q. q == p) qs)

-- what is collected of entries in a row that say nothing
none-times : {A : Type 0} (f : PlainEntry → List A) (xs : List PlainEntry) (n : ℕ) → flat_map f xs ≡ [] → flat_map f (times n xs) ≡ []
none-times f xs zero none = refl
none-times f xs (suc n) none = flat_map-append f xs (times n xs) ∙ ap₂ (λ us vs. us ++ vs) none (none-times f xs n none)

two-none : {A : Type 0} (f : PlainEntry → List A) (e d : PlainEntry) → f e ≡ [] → f d ≡ [] → flat_map f (e ∷ d ∷ []) ≡ []
two-none f e d x y = ap₂ (λ us vs. us ++ (vs ++ [])) x y

one-none : {A : Type 0} (f : PlainEntry → List A) (e : PlainEntry) → f e ≡ [] → flat_map f (e ∷ []) ≡ []
one-none f e x = ap (λ us. us ++ []) x

module _ (peers : List ℕ) (p : ℕ) where
  call-put : (ps : List (ℕ × List ℕ)) (k : ℕ) (a : PlainAnswer) → flat_map (put_in p) (lanes (part_lines (call_of ps k a))) ≡ put_to p (part_entries peers (call_of ps k a))
  call-put [] k a = refl
  call-put (q ∷ ps) k a = ap (λ xs. cond (q.0 == p) (q.1 ∷ []) [] ++ xs) (call-put ps k a)

  call-taken : (ps : List (ℕ × List ℕ)) (k : ℕ) (a : PlainAnswer) → flat_map (frame_in p) (lanes (part_lines (call_of ps k a))) ≡ taken_from p (part_entries peers (call_of ps k a))
  call-taken [] k a = refl
  call-taken (q ∷ ps) k a = call-taken ps k a

  call-back : (ps : List (ℕ × List ℕ)) (k : ℕ) (a : PlainAnswer) → sum_by (back_in p) (lanes (part_lines (call_of ps k a))) ≡ sum (back_looks p (part_entries peers (call_of ps k a)))
  call-back [] k a = sum_by-cons (back_in p) nothing [] ∙ omega arith
  call-back (q ∷ ps) k a = omega (arith, sum_by-cons (back_in p) (puts q.0 q.1) (lanes (part_lines (call_of ps k a))), call-back ps k a)

  part-put : (part : Part) → flat_map (put_in p) (lanes (part_lines part)) ≡ put_to p (part_entries peers part)
  part-put (idles n) = sym (none-times (puts_in p) (idle_turn peers ∷ []) n (one-none (puts_in p) (idle_turn peers) (idle-put p peers)))
  part-put (spins n w) = sym (none-times (puts_in p) (idle_turn peers ∷ again w ∷ []) n (two-none (puts_in p) (idle_turn peers) (again w) (idle-put p peers) refl))
  part-put (tries w) = refl
  part-put (turn_of vs) = turn-put p vs ∙ sym (append-nil (puts_in p (turned vs)))
  part-put (wait_of k) = refl
  part-put (call_of ps k a) = call-put ps k a

  part-taken : (part : Part) → flat_map (frame_in p) (lanes (part_lines part)) ≡ taken_from p (part_entries peers part)
  part-taken (idles n) = sym (ap (map (λ t. t.frame)) (none-times (takes_in p) (idle_turn peers ∷ []) n (one-none (takes_in p) (idle_turn peers) (idle-taken p peers))))
  part-taken (spins n w) = sym (ap (map (λ t. t.frame)) (none-times (takes_in p) (idle_turn peers ∷ again w ∷ []) n (two-none (takes_in p) (idle_turn peers) (again w) (idle-taken p peers) refl)))
  part-taken (tries w) = refl
  part-taken (turn_of vs) = turn-taken p vs ∙ sym (ap (map (λ t. t.frame)) (append-nil (takes_in p (turned vs))))
  part-taken (wait_of k) = refl
  part-taken (call_of ps k a) = call-taken ps k a

  sum-append : (xs ys : List ℕ) → sum (xs ++ ys) ≡ sum xs + sum ys
  sum-append xs ys = sum_by-append (λ x. x) xs ys

  back-times : (xs : List PlainEntry) (n : ℕ) → sum (back_looks p xs) ≡ 0 → sum (back_looks p (times n xs)) ≡ 0
  back-times xs zero none = refl
  back-times xs (suc n) none = ap sum (flat_map-append (backs_in p) xs (times n xs)) ∙ omega (arith, sum-append (back_looks p xs) (back_looks p (times n xs)), none, back-times xs n none)

  sum-nil : (xs : List ℕ) → sum (xs ++ []) ≡ sum xs
  sum-nil xs = ap sum (append-nil xs)

  part-back : (part : Part) → sum_by (back_in p) (lanes (part_lines part)) ≡ sum (back_looks p (part_entries peers part))
  part-back (idles n) = sum_by-cons (back_in p) nothing [] ∙ omega (arith, back-times (idle_turn peers ∷ []) n (sum-nil (backs_in p (idle_turn peers)) ∙ idle-back p peers))
  part-back (spins n w) = sum_by-cons (back_in p) nothing [] ∙ omega (arith, back-times (idle_turn peers ∷ again w ∷ []) n (sum-nil (backs_in p (idle_turn peers)) ∙ idle-back p peers))
  part-back (tries w) = sum_by-cons (back_in p) nothing [] ∙ omega arith
  part-back (turn_of vs) = omega (arith, sum_by-cons (back_in p) nothing (lanes (flat_map visit_lines vs)), turn-back p vs, sum-nil (backs_in p (turned vs)))
  part-back (wait_of k) = sum_by-cons (back_in p) nothing [] ∙ omega arith
  part-back (call_of ps k a) = call-back ps k a

  pub parts-put : (ps : List Part) → flat_map (put_in p) (lanes (flat_map part_lines ps)) ≡ put_to p (flat_map (part_entries peers) ps)
  parts-put [] = refl
  parts-put (x ∷ ps) =
      ap (flat_map (put_in p)) (map-append lane_of (part_lines x) (flat_map part_lines ps)) ∙ flat_map-append (put_in p) (lanes (part_lines x)) (lanes (flat_map part_lines ps))
      ∙ ap₂ (λ us vs. us ++ vs) (part-put x) (parts-put ps)
      ∙ sym (flat_map-append (puts_in p) (part_entries peers x) (flat_map (part_entries peers) ps))

  pub parts-taken : (ps : List Part) → flat_map (frame_in p) (lanes (flat_map part_lines ps)) ≡ taken_from p (flat_map (part_entries peers) ps)
  parts-taken [] = refl
  parts-taken (x ∷ ps) =
      ap (flat_map (frame_in p)) (map-append lane_of (part_lines x) (flat_map part_lines ps)) ∙ flat_map-append (frame_in p) (lanes (part_lines x)) (lanes (flat_map part_lines ps))
      ∙ ap₂ (λ us vs. us ++ vs) (part-taken x) (parts-taken ps)
      ∙ sym (map-append (λ (t : Taken). t.frame) (takes_from p (part_entries peers x)) (takes_from p (flat_map (part_entries peers) ps)))
      ∙ sym (ap (map (λ t. t.frame)) (flat_map-append (takes_in p) (part_entries peers x) (flat_map (part_entries peers) ps)))

  pub parts-back : (ps : List Part) → sum_by (back_in p) (lanes (flat_map part_lines ps)) ≡ sum (back_looks p (flat_map (part_entries peers) ps))
  parts-back [] = refl
  parts-back (x ∷ ps) =
      ap (sum_by (back_in p)) (map-append lane_of (part_lines x) (flat_map part_lines ps)) ∙ sum_by-append (back_in p) (lanes (part_lines x)) (lanes (flat_map part_lines ps))
      ∙ ap₂ (λ (m n : ℕ). m + n) (part-back x) (parts-back ps)
      ∙ sym (ap sum (flat_map-append (backs_in p) (part_entries peers x) (flat_map (part_entries peers) ps)) ∙ sum-append (back_looks p (part_entries peers x)) (back_looks p (flat_map (part_entries peers) ps)))
