-- What the lines of one peer have to fit, one after the other, holds where it does of what the entries do there.
use Rattle.std.proofs.Common.{◌≡◌, ℕ, zero, suc, ◌+◌, ◌≤◌, Bool, true, false, cond, List, [], ◌∷◌, ◌++◌, length, map, drop, sum, Some, refl, sym, ap, subst, ◌∙◌, arith, append_assoc, length-append, drop-drop, eqb-true}
use Rattle.std.specs.Prelude.{slice_get, ◌==◌}
use Rattle.std.specs.List.{AllByRecursion, flat_map}
use Rattle.std.proofs.lemmas.List.{map-append, length-map}
use Rattle.std.proofs.lemmas.List.Sums.{sum_by-append, sum_by-cons}
use Rattle.board_model.specs.Board.{SeeAtMost, SeesAtMost}
use Rattle.board_model.specs.Journal.{Taken, Visit, PlainEntry, turned, put, again, waits, called, Line, back_line, put_line, see_line, looked, taken_line}
use Rattle.board_model.specs.Traffic.{visits_to, takes_in, takes_from, taken_from, backs_in, back_looks}
use Rattle.report_text.specs.LaneLines.{LaneLine, came_back, puts, shows, takes, nothing, lane_of, back_in, taken_in}
use Rattle.report_text.proofs.LanesTold.{lanes}
use Rattle.report_laws.proofs.PeerLines.{of_peer, visit_lanes, done_at, IsUnvisited}

-- ---- the lines of a visit, part by part

pub lanes-apart : (v : Visit) (ys : List LaneLine) → visit_lanes v ++ ys ≡ lanes (looked (back_line v.peer) v.back) ++ (lanes (map (put_line v.peer) v.owed) ++ (lanes (looked (see_line v.peer) v.see) ++ (lanes (map (taken_line v.peer) v.takes) ++ ys)))
lanes-apart v ys =
    let backs : List Line = looked (back_line v.peer) v.back in
    let owed : List Line = map (put_line v.peer) v.owed in
    let sees : List Line = looked (see_line v.peer) v.see in
    let taken : List Line = map (taken_line v.peer) v.takes in
    one backs (owed ++ (sees ++ taken)) ys
    ∙ ap (λ (xs : List LaneLine). lanes backs ++ xs) (one owed (sees ++ taken) ys
    ∙ ap (λ (xs : List LaneLine). lanes owed ++ xs) (one sees taken ys))
  where
    one : (xs zs : List Line) (ys : List LaneLine) → lanes (xs ++ zs) ++ ys ≡ lanes xs ++ (lanes zs ++ ys)
    one xs zs ys = ap (λ (us : List LaneLine). us ++ ys) (map-append lane_of xs zs) ∙ append_assoc (lanes xs) (lanes zs) ys

-- ---- the third pass: the frames that the peer put, and how many buffers it gives back; so many frames were taken before, and so many
-- buffers came back

module _ (frames : List (List ℕ)) (given : ℕ) where
  abbrev pub Follows : ℕ → ℕ → List LaneLine → Type 0
  Follows k b [] = Unit {0}
  Follows k b (takes q frame ∷ ls) = (slice_get frames k ≡ Some frame) × Follows (k + 1) b ls
  Follows k b (shows q n ∷ ls) = (n + k ≤ length frames) × Follows k b ls
  Follows k b (came_back q n ∷ ls) = (n + b ≤ given) × Follows k (b + n) ls
  Follows k b (puts q frame ∷ ls) = Follows k b ls
  Follows k b (nothing ∷ ls) = Follows k b ls

  same-counts : (k l b c : ℕ) (ls : List LaneLine) → k ≡ l → b ≡ c → Follows k b ls → Follows l c ls
  same-counts k l b c ls taken back h = subst (λ n. Follows l n ls) back (subst (λ n. Follows n b ls) taken h)

  -- behind a line
  pub behind-line : (p : ℕ) (l : LaneLine) (k b : ℕ) (ys : List LaneLine) → Follows k b (of_peer p l ++ ys) → Follows (k + taken_in p l) (b + back_in p l) ys
  behind-line p (takes q frame) k b ys = go (q == p)
    where
      go : (own : Bool) → Follows k b (cond own (takes q frame ∷ []) [] ++ ys) → Follows (k + cond own 1 0) (b + 0) ys
      go true h = same-counts (k + 1) (k + 1) b (b + 0) ys refl (omega arith) h.1
      go false h = same-counts k (k + 0) b (b + 0) ys (omega arith) (omega arith) h
  behind-line p (shows q n) k b ys = go (q == p)
    where
      go : (own : Bool) → Follows k b (cond own (shows q n ∷ []) [] ++ ys) → Follows (k + 0) (b + 0) ys
      go true h = same-counts k (k + 0) b (b + 0) ys (omega arith) (omega arith) h.1
      go false h = same-counts k (k + 0) b (b + 0) ys (omega arith) (omega arith) h
  behind-line p (came_back q n) k b ys = go (q == p)
    where
      go : (own : Bool) → Follows k b (cond own (came_back q n ∷ []) [] ++ ys) → Follows (k + 0) (b + cond own n 0) ys
      go true h = same-counts k (k + 0) (b + n) (b + n) ys (omega arith) refl h.1
      go false h = same-counts k (k + 0) b (b + 0) ys (omega arith) (omega arith) h
  behind-line p (puts q frame) k b ys = go (q == p)
    where
      go : (own : Bool) → Follows k b (cond own (puts q frame ∷ []) [] ++ ys) → Follows (k + 0) (b + 0) ys
      go true h = same-counts k (k + 0) b (b + 0) ys (omega arith) (omega arith) h
      go false h = same-counts k (k + 0) b (b + 0) ys (omega arith) (omega arith) h
  behind-line p nothing k b ys = λ h. same-counts k (k + 0) b (b + 0) ys (omega arith) (omega arith) h

  -- ---- a visit

  follow-backs : (q n k b : ℕ) (ys : List LaneLine) → n + b ≤ given → Follows k (b + n) ys → Follows k b (lanes (looked (back_line q) n) ++ ys)
  follow-backs q n k b ys le h = go (n == 0) refl
    where
      go : (own : Bool) → (n == 0) ≡ own → Follows k b (lanes (cond own [] (back_line q n ∷ [])) ++ ys)
      go true is = same-counts k k (b + n) b ys refl (omega (arith, eqb-true n 0 is)) h
      go false is = (le, h)

  follow-puts : (q k b : ℕ) (fs : List (List ℕ)) (ys : List LaneLine) → Follows k b ys → Follows k b (lanes (map (put_line q) fs) ++ ys)
  follow-puts q k b [] ys h = h
  follow-puts q k b (f ∷ fs) ys h = follow-puts q k b fs ys h

  follow-see : (q n k b : ℕ) (ys : List LaneLine) → n + k ≤ length frames → Follows k b ys → Follows k b (lanes (looked (see_line q) n) ++ ys)
  follow-see q n k b ys le h = go (n == 0)
    where
      go : (own : Bool) → Follows k b (lanes (cond own [] (see_line q n ∷ [])) ++ ys)
      go true = h
      go false = (le, h)

  first-is : (n : ℕ) (xs : List (List ℕ)) (x : List ℕ) (rest : List (List ℕ)) → drop n xs ≡ x ∷ rest → slice_get xs n ≡ Some x
  first-is zero [] x rest e = absurd cc
  first-is zero (y ∷ ys) x rest e = let same : y ≡ x = cc in ap Some same
  first-is (suc n) [] x rest e = absurd cc
  first-is (suc n) (y ∷ ys) x rest e = first-is n ys x rest e

  follow-takes : (q : ℕ) (ts : List Taken) (k b : ℕ) (ys : List LaneLine) (rest : List (List ℕ)) → drop k frames ≡ map (λ t. t.frame) ts ++ rest → Follows (k + length ts) b ys → Follows k b (lanes (map (taken_line q) ts) ++ ys)
  follow-takes q [] k b ys rest at h = same-counts (k + 0) k b b ys (omega arith) refl h
  follow-takes q (t ∷ ts) k b ys rest at h = (
    first-is k frames t.frame (map (λ t. t.frame) ts ++ rest) at,
    follow-takes q ts (k + 1) b ys rest (sym (drop-drop 1 k frames) ∙ ap (drop 1) at) (same-counts (k + length (t ∷ ts)) (k + 1 + length ts) b b ys (omega arith) refl h),
  )

  follow-visit : (v : Visit) (k b : ℕ) (ys : List LaneLine) (rest : List (List ℕ)) → drop k frames ≡ map (λ t. t.frame) v.takes ++ rest → v.see + k ≤ length frames → v.back + b ≤ given → Follows (k + length v.takes) (b + v.back) ys → Follows k b (visit_lanes v ++ ys)
  follow-visit v k b ys rest at sees back h =
      let q : ℕ = v.peer in
      let four : List LaneLine = lanes (map (taken_line q) v.takes) ++ ys in
      let three : List LaneLine = lanes (looked (see_line q) v.see) ++ four in
      subst (Follows k b) (sym (lanes-apart v ys))
      (follow-backs q v.back k b (lanes (map (put_line q) v.owed) ++ three) back
      (follow-puts q k (b + v.back) v.owed three
      (follow-see q v.see k (b + v.back) four sees
      (follow-takes q v.takes k (b + v.back) ys rest at h))))

  -- what is left behind the first of what was put
  left-behind : (k : ℕ) (xs rest : List (List ℕ)) → drop k frames ≡ xs ++ rest → drop (k + length xs) frames ≡ rest
  left-behind k [] rest at = ap (λ n. drop n frames) (omega arith) ∙ at
  left-behind k (x ∷ xs) rest at = ap (λ n. drop n frames) (omega arith) ∙ left-behind (k + 1) xs rest (sym (drop-drop 1 k frames) ∙ ap (drop 1) at)

  follow-visits : (vs : List Visit) (k b : ℕ) (ys : List LaneLine) (rest : List (List ℕ)) → drop k frames ≡ map (λ t. t.frame) (flat_map (λ v. v.takes) vs) ++ rest → SeeAtMost (length frames) k vs
      → sum (map (λ v. v.back) vs) + b ≤ given → Follows (k + length (flat_map (λ v. v.takes) vs)) (b + sum (map (λ v. v.back) vs)) ys → Follows k b (flat_map visit_lanes vs ++ ys)
  follow-visits [] k b ys rest at sees back h = same-counts (k + 0) k (b + 0) b ys (omega arith) (omega arith) h
  follow-visits (v ∷ vs) k b ys rest at sees back h =
      let others : List Taken = flat_map (λ w. w.takes) vs in
      let backs : ℕ = sum (map (λ w. w.back) vs) in
      let apart : drop k frames ≡ map (λ t. t.frame) v.takes ++ (map (λ t. t.frame) others ++ rest) =
      at ∙ ap (λ (xs : List (List ℕ)). xs ++ rest) (map-append (λ (t : Taken). t.frame) v.takes others) ∙ append_assoc (map (λ t. t.frame) v.takes) (map (λ t. t.frame) others) rest in
      let added : sum (map (λ w. w.back) (v ∷ vs)) ≡ v.back + backs = sum_by-cons (λ (x : ℕ). x) v.back (map (λ w. w.back) vs) in
      let behind : drop (k + length v.takes) frames ≡ map (λ t. t.frame) others ++ rest =
      ap (λ n. drop (k + n) frames) (sym (length-map v.takes (λ t. t.frame))) ∙ left-behind k (map (λ t. t.frame) v.takes) (map (λ t. t.frame) others ++ rest) apart in
      subst (Follows k b) (sym (append_assoc (visit_lanes v) (flat_map visit_lanes vs) ys))
      (follow-visit v k b (flat_map visit_lanes vs ++ ys) (map (λ t. t.frame) others ++ rest) apart sees.0 (omega (arith, back, added))
      (follow-visits vs (k + length v.takes) (b + v.back) ys rest behind sees.1 (omega (arith, back, added))
      (same-counts (k + length (v.takes ++ others)) (k + length v.takes + length others) (b + sum (map (λ w. w.back) (v ∷ vs))) (b + v.back + backs) ys (omega (arith, length-append v.takes others)) (omega (arith, added)) h)))

  -- ---- entries

  module _ (p : ℕ) where
    pub follow-entries : (es : List PlainEntry) (k b : ℕ) (rest : List (List ℕ)) → drop k frames ≡ taken_from p es ++ rest → SeesAtMost p (length frames) k es → sum (back_looks p es) + b ≤ given → Follows k b (flat_map (done_at p) es)
    follow-entries [] k b rest at sees back = tt
    follow-entries (turned vs ∷ es) k b rest at sees back =
        let here : List Taken = takes_in p (turned vs) in
        let apart : drop k frames ≡ map (λ t. t.frame) here ++ (taken_from p es ++ rest) =
        at ∙ ap (λ (xs : List (List ℕ)). xs ++ rest) (map-append (λ (t : Taken). t.frame) here (takes_from p es)) ∙ append_assoc (map (λ t. t.frame) here) (taken_from p es) rest in
        let added : sum (back_looks p (turned vs ∷ es)) ≡ sum (backs_in p (turned vs)) + sum (back_looks p es) = sum_by-append (λ (x : ℕ). x) (backs_in p (turned vs)) (back_looks p es) in
        let behind : drop (k + length here) frames ≡ taken_from p es ++ rest = ap (λ n. drop (k + n) frames) (sym (length-map here (λ t. t.frame))) ∙ left-behind k (map (λ t. t.frame) here) (taken_from p es ++ rest) apart in
        follow-visits (visits_to p vs) k b (flat_map (done_at p) es) (taken_from p es ++ rest) apart sees.0 (omega (arith, back, added))
        (follow-entries es (k + length here) (b + sum (backs_in p (turned vs))) rest behind sees.1 (omega (arith, back, added)))
    follow-entries (put q frame ∷ es) k b rest at sees back = go (q == p) (follow-entries es k b rest at sees back)
      where
        go : (own : Bool) → Follows k b (flat_map (done_at p) es) → Follows k b (cond own (puts q frame ∷ []) [] ++ flat_map (done_at p) es)
        go true h = h
        go false h = h
    follow-entries (again w ∷ es) k b rest at sees back = follow-entries es k b rest at sees back
    follow-entries (waits n ∷ es) k b rest at sees back = follow-entries es k b rest at sees back
    follow-entries (called n a ∷ es) k b rest at sees back = follow-entries es k b rest at sees back

    -- of one that is not visited, nothing is asked
    pub follow-unvisited : (es : List PlainEntry) (k b : ℕ) → AllByRecursion (IsUnvisited p) es → Follows k b (flat_map (done_at p) es)
    follow-unvisited [] k b none = tt
    follow-unvisited (turned vs ∷ es) k b none = subst (λ ws. Follows k b (flat_map visit_lanes ws ++ flat_map (done_at p) es)) (sym none.0) (follow-unvisited es k b none.1)
    follow-unvisited (put q frame ∷ es) k b none = go (q == p) (follow-unvisited es k b none.1)
      where
        go : (own : Bool) → Follows k b (flat_map (done_at p) es) → Follows k b (cond own (puts q frame ∷ []) [] ++ flat_map (done_at p) es)
        go true h = h
        go false h = h
    follow-unvisited (again w ∷ es) k b none = follow-unvisited es k b none.1
    follow-unvisited (waits n ∷ es) k b none = follow-unvisited es k b none.1
    follow-unvisited (called n a ∷ es) k b none = follow-unvisited es k b none.1
