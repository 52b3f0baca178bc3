-- Lanes in which the third pass finds nothing wrong fit together.
use Rattle.std.proofs.Common.{◌≡◌, ℕ, zero, suc, ◌+◌, ◌<◌, ◌≤◌, Bool, true, false, cond, List, [], ◌∷◌, ◌++◌, length, map, filter, drop, sum_by, Option, Some, None, refl, sym, ap, subst, ◌∙◌, arith, append_assoc, length-append, eqb-true}
use Rattle.std.specs.Prelude.{nat_le, slice_get, ◌==◌}
use Rattle.std.specs.List.{flat_map}
use Rattle.std.proofs.lemmas.Bool.Decides.{nat_tests}
use Rattle.std.proofs.lemmas.List.Sums.{sum_by-append, sum_by-cons}
use Rattle.std.proofs.lemmas.Slice.Eq.{bytes_eq-Decides}
use Rattle.mc_base.specs.declared.refusal.Refusal.{Refusal}
use Rattle.board_model.specs.declared.scenario.Scenario.{Scenario}
use Rattle.board_model.specs.Journal.{Taken, Visit, PlainAnswer, PlainEntry, turned, again, Line, back_line, put_line, see_line, looked, taken_line, visit_lines}
use Rattle.board_model.specs.Unjoined.{times, idle_turn, visit_in}
use Rattle.board_model.specs.JournalParts.{Part, idles, spins, tries, turn_of, wait_of, call_of, part_lines, part_entries}
use Rattle.board_model.specs.Traffic.{visits_to, takes_in}
use Rattle.board_model.specs.Board.{SeeAtMost, SeesAtMost}
use Rattle.report_text.specs.JournalRead.{JournalText}
use Rattle.report_text.specs.LaneLines.{LaneLine, came_back, puts, shows, takes, nothing, back_in, taken_in}
use Rattle.report_text.specs.LinkPass.{gives_back, frames_put, taken_before, back_before, is_frame, fits, link_place}
use Rattle.report_text.proofs.NothingWrong.{none-next}
use Rattle.report_text.proofs.LanesTold.{frame_in, see_in, lanes, none-idle, idle-taken}

-- ---- no more frames are shown than there are

module _ (p most : ℕ) where
  abbrev pub Shows : ℕ → List LaneLine → Type 0
  Shows k [] = k ≤ most
  Shows k (l ∷ ls) = (see_in p l + k ≤ most) × Shows (k + taken_in p l) ls

  abbrev pub Sh : ℕ → List Line → Type 0
  Sh k ls = Shows k (lanes ls)

  low : (k : ℕ) (ls : List LaneLine) → Shows k ls → k ≤ most
  low k [] h = h
  low k (l ∷ ls) h = let first = h.0 in omega (arith, first)

  as-many : (k n : ℕ) (ls : List LaneLine) → n ≡ 0 → Shows (k + n) ls → Shows k ls
  as-many k n ls none h = subst (λ m. Shows m ls) (omega (arith, none)) h

  over-back : (q n k : ℕ) (ys : List Line) → Sh k (looked (back_line q) n ++ ys) → Sh k ys
  over-back q n k ys = go (n == 0)
    where
      go : (b : Bool) → Sh k (cond b [] (back_line q n ∷ []) ++ ys) → Sh k ys
      go true h = h
      go false h = as-many k 0 (lanes ys) refl h.1

  over-puts : (q k : ℕ) (fs : List (List ℕ)) (ys : List Line) → Sh k (map (put_line q) fs ++ ys) → Sh k ys
  over-puts q k [] ys h = h
  over-puts q k (f ∷ fs) ys h = over-puts q k fs ys (as-many k 0 (lanes (map (put_line q) fs ++ ys)) refl h.1)

  over-see : (q n k : ℕ) (ys : List Line) → Sh k (looked (see_line q) n ++ ys) → (cond (q == p) n 0 + k ≤ most) × Sh k ys
  over-see q n k ys = go (n == 0) refl
    where
      none : (b : Bool) → ◌≡◌ {A = ℕ} (cond b 0 0) 0
      none true = refl
      none false = refl

      go : (b : Bool) → (n == 0) ≡ b → Sh k (cond b [] (see_line q n ∷ []) ++ ys) → (cond (q == p) n 0 + k ≤ most) × Sh k ys
      go true is h = let le = low k (lanes ys) h in (omega (arith, le, ap (λ m. cond (q == p) m 0) (eqb-true n 0 is), none (q == p)), h)
      go false is h = (h.0, as-many k 0 (lanes ys) refl h.1)

  over-takes : (q : ℕ) (b : Bool) → (q == p) ≡ b → (ts : List Taken) (k : ℕ) (ys : List Line) → Sh k (map (taken_line q) ts ++ ys) → Sh (k + cond b (length ts) 0) ys
  over-takes q true is [] k ys h = subst (λ m. Sh m ys) (omega arith) h
  over-takes q false is [] k ys h = subst (λ m. Sh m ys) (omega arith) h
  over-takes q true is (t ∷ ts) k ys h =
      let one : Sh (k + 1) (map (taken_line q) ts ++ ys) = subst (λ m. Shows (k + m) (lanes (map (taken_line q) ts ++ ys))) (ap (λ b. cond b 1 0) is) h.1 in
      subst (λ m. Sh m ys) (omega arith) (over-takes q true is ts (k + 1) ys one)
  over-takes q false is (t ∷ ts) k ys h = over-takes q false is ts k ys (as-many k (cond (q == p) 1 0) (lanes (map (taken_line q) ts ++ ys)) (ap (λ b. cond b 1 0) is) h.1)

  over-visit : (v : Visit) (b : Bool) → (v.peer == p) ≡ b → (k : ℕ) (ys : List Line) → Sh k (visit_lines v ++ ys) → (cond b v.see 0 + k ≤ most) × Sh (k + cond b (length v.takes) 0) ys
  over-visit v b is k ys h =
      let backs : List Line = looked (back_line v.peer) v.back in
      let owed : List Line = map (put_line v.peer) v.owed in
      let sees : List Line = looked (see_line v.peer) v.see in
      let taken : List Line = map (taken_line v.peer) v.takes in
      let apart : visit_lines v ++ ys ≡ backs ++ (owed ++ (sees ++ (taken ++ ys))) =
      append_assoc backs (owed ++ (sees ++ taken)) ys ∙ ap (λ xs. backs ++ xs) (append_assoc owed (sees ++ taken) ys ∙ ap (λ xs. owed ++ xs) (append_assoc sees taken ys)) in
      let one = over-back v.peer v.back k (owed ++ (sees ++ (taken ++ ys))) (subst (Sh k) apart h) in
      let two = over-puts v.peer k v.owed (sees ++ (taken ++ ys)) one in
      let three = over-see v.peer v.see k (taken ++ ys) two in
      (subst (λ c. cond c v.see 0 + k ≤ most) is three.0, over-takes v.peer b is v.takes k ys three.1)

  over-turn : (vs : List Visit) (k : ℕ) (ys : List Line) → Sh k (flat_map visit_lines vs ++ ys) → SeeAtMost most k (visits_to p vs) × Sh (k + length (takes_in p (turned vs))) ys
  over-turn [] k ys h = (tt, subst (λ m. Sh m ys) (omega arith) h)
  over-turn (v ∷ vs) k ys h = go (v.peer == p) refl (λ m g. over-turn vs m ys g)
    where
      first : Sh k (visit_lines v ++ (flat_map visit_lines vs ++ ys))
      first = subst (Sh k) (append_assoc (visit_lines v) (flat_map visit_lines vs) ys) h

      go : (b : Bool) → (v.peer == p) ≡ b → ((m : ℕ) → Sh m (flat_map visit_lines vs ++ ys) → SeeAtMost most m (visits_to p vs) × Sh (m + length (takes_in p (turned vs))) ys)
          → SeeAtMost most k (cond b (v ∷ visits_to p vs) (visits_to p vs)) × Sh (k + length (flat_map (λ w. w.takes) (cond b (v ∷ visits_to p vs) (visits_to p vs)))) ys
      go true is rest =
          let one = over-visit v true is k (flat_map visit_lines vs ++ ys) first in
          let more = rest (k + length v.takes) one.1 in
          ((one.0, more.0), subst (λ m. Sh m ys) (omega (arith, length-append v.takes (takes_in p (turned vs)))) more.1)
      go false is rest =
          let one = over-visit v false is k (flat_map visit_lines vs ++ ys) first in
          rest k (as-many k 0 (lanes (flat_map visit_lines vs ++ ys)) refl one.1)

  -- ---- parts

  see-idle : (qs : List ℕ) (k : ℕ) → k ≤ most → SeeAtMost most k (map (visit_in []) qs)
  see-idle [] k le = tt
  see-idle (q ∷ qs) k le = (omega (arith, le), see-idle qs (k + 0) (omega (arith, le)))

  sees-idle : (qs : List ℕ) (k : ℕ) (es : List PlainEntry) → k ≤ most → SeesAtMost p most k es → SeesAtMost p most k (idle_turn qs ∷ es)
  sees-idle qs k es le h = (
    subst (SeeAtMost most k) (sym (none-idle p qs)) (see-idle (filter (λ q. q == p) qs) k le),
    subst (λ m. SeesAtMost p most m es) (omega (arith, ap length (idle-taken p qs))) h,
  )

  sees-idles : (qs : List ℕ) (n k : ℕ) (es : List PlainEntry) → k ≤ most → SeesAtMost p most k es → SeesAtMost p most k (times n (idle_turn qs ∷ []) ++ es)
  sees-idles qs zero k es le h = h
  sees-idles qs (suc n) k es le h = sees-idle qs k (times n (idle_turn qs ∷ []) ++ es) le (sees-idles qs n k es le h)

  sees-spins : (qs : List ℕ) (w : Refusal) (n k : ℕ) (es : List PlainEntry) → k ≤ most → SeesAtMost p most k es → SeesAtMost p most k (times n (idle_turn qs ∷ again w ∷ []) ++ es)
  sees-spins qs w zero k es le h = h
  sees-spins qs w (suc n) k es le h = sees-idle qs k (again w ∷ (times n (idle_turn qs ∷ again w ∷ []) ++ es)) le (sees-spins qs w n k es le h)

  call-shows : (qs : List ℕ) (ps : List (ℕ × List ℕ)) (number : ℕ) (a : PlainAnswer) (k : ℕ) (ys : List Line) (es : List PlainEntry) → Sh k (part_lines (call_of ps number a) ++ ys) → ((m : ℕ) → Sh m ys → SeesAtMost p most m es) → SeesAtMost p most k (part_entries qs (call_of ps number a) ++ es)
  call-shows qs [] number a k ys es h rest = rest k (as-many k 0 (lanes ys) refl h.1)
  call-shows qs (x ∷ ps) number a k ys es h rest = call-shows qs ps number a k ys es (as-many k 0 (lanes (part_lines (call_of ps number a) ++ ys)) refl h.1) rest

  part-shows : (qs : List ℕ) (x : Part) (k : ℕ) (ys : List Line) (es : List PlainEntry) → Sh k (part_lines x ++ ys) → ((m : ℕ) → Sh m ys → SeesAtMost p most m es) → SeesAtMost p most k (part_entries qs x ++ es)
  part-shows qs (idles n) k ys es h rest = let same = as-many k 0 (lanes ys) refl h.1 in sees-idles qs n k es (low k (lanes ys) same) (rest k same)
  part-shows qs (spins n w) k ys es h rest = let same = as-many k 0 (lanes ys) refl h.1 in sees-spins qs w n k es (low k (lanes ys) same) (rest k same)
  part-shows qs (tries w) k ys es h rest = rest k (as-many k 0 (lanes ys) refl h.1)
  part-shows qs (turn_of vs) k ys es h rest =
      let turn = over-turn vs k ys (as-many k 0 (lanes (flat_map visit_lines vs ++ ys)) refl h.1) in
      (turn.0, rest (k + length (takes_in p (turned vs))) turn.1)
  part-shows qs (wait_of n) k ys es h rest = rest k (as-many k 0 (lanes ys) refl h.1)
  part-shows qs (call_of ps number a) k ys es h rest = call-shows qs ps number a k ys es h rest

  pub parts-show : (qs : List ℕ) (ps : List Part) (k : ℕ) → Sh k (flat_map part_lines ps) → SeesAtMost p most k (flat_map (part_entries qs) ps)
  parts-show qs [] k h = tt
  parts-show qs (x ∷ ps) k h = part-shows qs x k (flat_map part_lines ps) (flat_map (part_entries qs) ps) h (λ m g. parts-show qs ps m g)

-- ---- what the third pass finds, line by line

got-below : {A : Type 0} (xs : List A) (n : ℕ) (x : A) → slice_get xs n ≡ Some x → (n < length xs) × (drop n xs ≡ x ∷ drop (suc n) xs)
got-below [] n x e = absurd cc
got-below {A = A} (y ∷ ys) zero x e = (omega arith, ap (λ z. z ∷ ys) (some-is y x e))
  where
    some-is : (a b : A) → Some a ≡ Some b → a ≡ b
    some-is a b e = cc
got-below (y ∷ ys) (suc n) x e = let rest = got-below ys n x e in let less = rest.0 in (omega (arith, less), rest.1)

frame-is : (frame : List ℕ) (o : Option (List ℕ)) → is_frame frame o ≡ true → o ≡ Some frame
frame-is frame None e = absurd cc
frame-is frame (Some x) e = ap Some (sym ((bytes_eq-Decides frame x).0 e))

module _ (s : Scenario) (js : List JournalText) (d p : ℕ) where
  abbrev put_there : List (List ℕ)
  put_there = frames_put js p d

  abbrev most_back : ℕ
  most_back = gives_back s js p d

  -- of a line, where so many frames were taken and so many buffers came back before it
  record Fit (k b see take back : ℕ) (frames : List (List ℕ)) : Type 0 where
    sees : see + k ≤ length put_there
    takes_few : k + take ≤ length put_there
    backs : b + back ≤ most_back
    next : drop k put_there ≡ frames ++ drop (k + take) put_there

  pub record Linked (k b : ℕ) (ls : List LaneLine) : Type 0 where
    pub shown : Shows p (length put_there) k ls
    pub others : List (List ℕ)
    pub taken : drop k put_there ≡ flat_map (frame_in p) ls ++ others
    pub back : sum_by (back_in p) ls + b ≤ most_back

  same-drop : (k : ℕ) → drop k put_there ≡ drop (k + 0) put_there
  same-drop k = ap (λ n. drop n put_there) (omega arith)

  fit-line : (before : List LaneLine) (l : LaneLine) (k b : ℕ) → k ≡ taken_before p before → b ≡ back_before p before → k ≤ length put_there → b ≤ most_back → fits s js d before l ≡ true → Fit k b (see_in p l) (taken_in p l) (back_in p l) (frame_in p l)
  fit-line before (takes q f) k b k_is b_is few less e = go (q == p) refl
    where
      go : (own : Bool) → (q == p) ≡ own → Fit k b 0 (cond own 1 0) 0 (cond own (f ∷ []) [])
      go true is =
          let same : q ≡ p = eqb-true q p is in
          let got : slice_get put_there k ≡ Some f = ap (slice_get put_there) k_is ∙ frame-is f (slice_get put_there (taken_before p before)) (subst (λ n. is_frame f (slice_get (frames_put js n d) (taken_before n before)) ≡ true) same e) in
          let at = got-below put_there k f got in
          let below = at.0 in
          let more : suc k ≡ k + 1 = omega arith in
          record { sees = omega (arith, few); takes_few = omega (arith, below); backs = omega (arith, less); next = at.1 ∙ ap (λ n. f ∷ drop n put_there) more }
      go false is = record { sees = omega (arith, few); takes_few = omega (arith, few); backs = omega (arith, less); next = same-drop k }
  fit-line before (shows q n) k b k_is b_is few less e = go (q == p) refl
    where
      go : (own : Bool) → (q == p) ≡ own → Fit k b (cond own n 0) 0 0 []
      go true is =
          let same : q ≡ p = eqb-true q p is in
          let test : nat_le (n + taken_before p before) (length put_there) ≡ true = subst (λ m. nat_le (n + taken_before m before) (length (frames_put js m d)) ≡ true) same e in
          let le : n + taken_before p before ≤ length put_there = grind (arith, nat_tests) in
          record { sees = omega (arith, le, k_is); takes_few = omega (arith, few); backs = omega (arith, less); next = same-drop k }
      go false is = record { sees = omega (arith, few); takes_few = omega (arith, few); backs = omega (arith, less); next = same-drop k }
  fit-line before (came_back q n) k b k_is b_is few less e = go (q == p) refl
    where
      go : (own : Bool) → (q == p) ≡ own → Fit k b 0 0 (cond own n 0) []
      go true is =
          let same : q ≡ p = eqb-true q p is in
          let test : nat_le (n + back_before p before) most_back ≡ true = subst (λ m. nat_le (n + back_before m before) (gives_back s js m d) ≡ true) same e in
          let le : n + back_before p before ≤ most_back = grind (arith, nat_tests) in
          record { sees = omega (arith, few); takes_few = omega (arith, few); backs = omega (arith, le, b_is); next = same-drop k }
      go false is = record { sees = omega (arith, few); takes_few = omega (arith, few); backs = omega (arith, less); next = same-drop k }
  fit-line before (puts q f) k b k_is b_is few less e = record { sees = omega (arith, few); takes_few = omega (arith, few); backs = omega (arith, less); next = same-drop k }
  fit-line before nothing k b k_is b_is few less e = record { sees = omega (arith, few); takes_few = omega (arith, few); backs = omega (arith, less); next = same-drop k }

  pub link-lines : (ls before : List LaneLine) (k b : ℕ) → k ≡ taken_before p before → b ≡ back_before p before → k ≤ length put_there → b ≤ most_back → link_place s js d before ls ≡ None → Linked k b ls
  link-lines [] before k b k_is b_is few less e = record { shown = few; others = drop k put_there; taken = refl; back = omega (arith, less) }
  link-lines (l ∷ ls) before k b k_is b_is few less e =
      let one = none-next (fits s js d before l) (link_place s js d (before ++ l ∷ []) ls) 0 e in
      let fit = fit-line before l k b k_is b_is few less one.0 in
      let taken_is : k + taken_in p l ≡ taken_before p (before ++ l ∷ []) = omega (arith, k_is, sum_by-append (taken_in p) before (l ∷ []), sum_by-cons (taken_in p) l [], none (taken_in p)) in
      let back_is : b + back_in p l ≡ back_before p (before ++ l ∷ []) = omega (arith, b_is, sum_by-append (back_in p) before (l ∷ []), sum_by-cons (back_in p) l [], none (back_in p)) in
      let rest = link-lines ls (before ++ l ∷ []) (k + taken_in p l) (b + back_in p l) taken_is back_is fit.takes_few fit.backs one.1 in
      let back = rest.back in
      record {
        shown = (fit.sees, rest.shown);
        others = rest.others;
        taken = fit.next ∙ ap (λ xs. frame_in p l ++ xs) rest.taken ∙ sym (append_assoc (frame_in p l) (flat_map (frame_in p) ls) rest.others);
        back = omega (arith, back, sum_by-cons (back_in p) l ls);
      }
    where
      none : (f : LaneLine → ℕ) → sum_by f [] ≡ 0
      none f = refl
