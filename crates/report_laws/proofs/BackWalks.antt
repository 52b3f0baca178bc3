-- No buffer comes back too early by the lines of one peer where none does by what the entries send there.
use Rattle.std.proofs.Common.{◌≡◌, ℕ, ◌+◌, ◌<◌, Bool, true, false, cond, List, [], ◌∷◌, ◌++◌, length, map, drop, take, refl, sym, ap, subst, ◌∙◌, arith, append_assoc, append-nil, length-append, drop-drop, eqb-true}
use Rattle.std.specs.Prelude.{◌==◌}
use Rattle.std.specs.List.{AllByRecursion, flat_map}
use Rattle.std.proofs.lemmas.List.Concat.{flat_map-append}
use Rattle.std.proofs.lemmas.List.Sums.{sum_by_push}
use Rattle.board_model.specs.Journal.{Taken, Visit, PlainEntry, turned, put, again, waits, called, back_line, put_line, see_line, looked, taken_line}
use Rattle.board_model.specs.Traffic.{visits_to}
use Rattle.ring_numbers.specs.BoardRings.{put_of, sent_at, sent_to}
use Rattle.ring_numbers.specs.InTime.{ComeBackLater}
use Rattle.ring_numbers.specs.SenderNumbers.{Sending, comes_back}
use Rattle.report_text.specs.LaneLines.{LaneLine, came_back, puts, shows, takes, nothing, back_in, put_in}
use Rattle.report_text.specs.LinkPass.{back_before}
use Rattle.report_text.proofs.LanesTold.{lanes}
use Rattle.report_laws.proofs.LaneWalks.{lanes-apart}
use Rattle.report_laws.proofs.PeerLines.{of_peer, visit_lanes, done_at, IsUnvisited}

-- the places that are left before a line, and how many frames are put before it
abbrev pub left : (ℕ → List ℕ) → ℕ → List LaneLine → List ℕ
left given p before = drop (back_before p before) (given p)

abbrev pub put_before : ℕ → List LaneLine → ℕ
put_before p before = length (flat_map (put_in p) before)

-- and behind it
pub left-behind : (given : ℕ → List ℕ) (p : ℕ) (before : List LaneLine) (l : LaneLine) → drop (back_in p l) (left given p before) ≡ left given p (before ++ l ∷ [])
left-behind given p before l = drop-drop (back_in p l) (back_before p before) (given p) ∙ ap (λ n. drop n (given p)) (sym (sum_by_push (back_in p) before l))

pub put-behind : (p : ℕ) (before : List LaneLine) (l : LaneLine) → put_before p before + length (put_in p l) ≡ put_before p (before ++ l ∷ [])
put-behind p before l =
    sym (ap length (flat_map-append (put_in p) before (l ∷ []) ∙ ap (λ (fs : List (List ℕ)). flat_map (put_in p) before ++ fs) (append-nil (put_in p l))) ∙ length-append (flat_map (put_in p) before) (put_in p l))

-- these are the places of the frames whose buffers are given back and did not come back yet, and so many frames were put
abbrev pub BackLater : List ℕ → ℕ → List LaneLine → Type 0
BackLater given count [] = Unit {0}
BackLater given count (came_back q n ∷ ls) = AllByRecursion (λ place. place < count) (take n given) × BackLater (drop n given) count ls
BackLater given count (puts q frame ∷ ls) = BackLater given (count + 1) ls
BackLater given count (shows q n ∷ ls) = BackLater given count ls
BackLater given count (takes q frame ∷ ls) = BackLater given count ls
BackLater given count (nothing ∷ ls) = BackLater given count ls

-- behind a line
pub behind-back : (p : ℕ) (l : LaneLine) (given : List ℕ) (count : ℕ) (ys : List LaneLine) → BackLater given count (of_peer p l ++ ys) → BackLater (drop (back_in p l) given) (count + length (put_in p l)) ys
behind-back p (came_back q n) given count ys = go (q == p)
  where
    go : (own : Bool) → BackLater given count (cond own (came_back q n ∷ []) [] ++ ys) → BackLater (drop (cond own n 0) given) (count + 0) ys
    go true h = subst (λ k. BackLater (drop n given) k ys) (omega arith) h.1
    go false h = subst (λ k. BackLater given k ys) (omega arith) h
behind-back p (puts q frame) given count ys = go (q == p)
  where
    go : (own : Bool) → BackLater given count (cond own (puts q frame ∷ []) [] ++ ys) → BackLater given (count + length (cond own (frame ∷ []) [])) ys
    go true h = h
    go false h = subst (λ k. BackLater given k ys) (omega arith) h
behind-back p (shows q n) given count ys = go (q == p)
  where
    go : (own : Bool) → BackLater given count (cond own (shows q n ∷ []) [] ++ ys) → BackLater given (count + 0) ys
    go true h = subst (λ k. BackLater given k ys) (omega arith) h
    go false h = subst (λ k. BackLater given k ys) (omega arith) h
behind-back p (takes q frame) given count ys = go (q == p)
  where
    go : (own : Bool) → BackLater given count (cond own (takes q frame ∷ []) [] ++ ys) → BackLater given (count + 0) ys
    go true h = subst (λ k. BackLater given k ys) (omega arith) h
    go false h = subst (λ k. BackLater given k ys) (omega arith) h
behind-back p nothing given count ys = λ h. subst (λ k. BackLater given k ys) (omega arith) h

-- ---- a visit

-- what is sent later, and the lines for it
abbrev Later : List Sending → List LaneLine → Type 0
Later es ys = (given : List ℕ) (count : ℕ) → ComeBackLater given count es → BackLater given count ys

later-see : (q n : ℕ) (given : List ℕ) (count : ℕ) (ys : List LaneLine) → BackLater given count ys → BackLater given count (lanes (looked (see_line q) n) ++ ys)
later-see q n given count ys h = go (n == 0)
  where
    go : (b : Bool) → BackLater given count (lanes (cond b [] (see_line q n ∷ [])) ++ ys)
    go true = h
    go false = h

later-takes : (q : ℕ) (ts : List Taken) (given : List ℕ) (count : ℕ) (ys : List LaneLine) → BackLater given count ys → BackLater given count (lanes (map (taken_line q) ts) ++ ys)
later-takes q [] given count ys h = h
later-takes q (t ∷ ts) given count ys h = later-takes q ts given count ys h

later-puts : (q : ℕ) (fs : List (List ℕ)) (es : List Sending) (ys : List LaneLine) → Later es ys → Later (map put_of fs ++ es) (lanes (map (put_line q) fs) ++ ys)
later-puts q [] es ys later = later
later-puts q (f ∷ fs) es ys later = λ given count h. later-puts q fs es ys later given (count + 1) h

later-backs : (q n : ℕ) (es : List Sending) (ys : List LaneLine) → Later es ys → Later (comes_back n ∷ es) (lanes (looked (back_line q) n) ++ ys)
later-backs q n es ys later given count h = go (n == 0) refl
  where
    go : (b : Bool) → (n == 0) ≡ b → BackLater given count (lanes (cond b [] (back_line q n ∷ [])) ++ ys)
    go true is = later given count (subst (λ k. ComeBackLater (drop k given) count es) (eqb-true n 0 is) h.1)
    go false is = (h.0, later (drop n given) count h.1)

later-visit : (v : Visit) (es : List Sending) (ys : List LaneLine) → Later es ys → Later (sent_at v ++ es) (visit_lanes v ++ ys)
later-visit v es ys later given count h =
    let q : ℕ = v.peer in
    let four : List LaneLine = lanes (map (taken_line q) v.takes) ++ ys in
    let three : List LaneLine = lanes (looked (see_line q) v.see) ++ four in
    subst (BackLater given count) (sym (lanes-apart v ys))
    (later-backs q v.back (map put_of v.owed ++ es) (lanes (map (put_line q) v.owed) ++ three)
    (later-puts q v.owed es three (λ g c k. later-see q v.see g c four (later-takes q v.takes g c ys (later g c k))))
    given count h)

later-visits : (vs : List Visit) (es : List Sending) (ys : List LaneLine) → Later es ys → Later (flat_map sent_at vs ++ es) (flat_map visit_lanes vs ++ ys)
later-visits [] es ys later = later
later-visits (v ∷ vs) es ys later = λ given count h.
    subst (BackLater given count) (sym (append_assoc (visit_lanes v) (flat_map visit_lanes vs) ys))
    (later-visit v (flat_map sent_at vs ++ es) (flat_map visit_lanes vs ++ ys) (later-visits vs es ys later) given count
    (subst (ComeBackLater given count) (append_assoc (sent_at v) (flat_map sent_at vs) es) h))

-- ---- entries

module _ (p : ℕ) where
  pub later-entries : (es : List PlainEntry) → Later (sent_to p es) (flat_map (done_at p) es)
  later-entries [] = λ given count h. tt
  later-entries (turned vs ∷ es) = later-visits (visits_to p vs) (sent_to p es) (flat_map (done_at p) es) (later-entries es)
  later-entries (put q frame ∷ es) = go (q == p) (later-entries es)
    where
      go : (own : Bool) → Later (sent_to p es) (flat_map (done_at p) es) → Later (cond own (put_of frame ∷ []) [] ++ sent_to p es) (cond own (puts q frame ∷ []) [] ++ flat_map (done_at p) es)
      go true later = λ given count h. later given (count + 1) h
      go false later = later
  later-entries (again w ∷ es) = later-entries es
  later-entries (waits n ∷ es) = later-entries es
  later-entries (called n a ∷ es) = later-entries es

  -- of one that is not visited, nothing is asked
  pub later-unvisited : (es : List PlainEntry) (given : List ℕ) (count : ℕ) → AllByRecursion (IsUnvisited p) es → BackLater given count (flat_map (done_at p) es)
  later-unvisited [] given count none = tt
  later-unvisited (turned vs ∷ es) given count none = subst (λ ws. BackLater given count (flat_map visit_lanes ws ++ flat_map (done_at p) es)) (sym none.0) (later-unvisited es given count none.1)
  later-unvisited (put q frame ∷ es) given count none = go (q == p) (λ n. later-unvisited es given n none.1)
    where
      go : (own : Bool) → ((n : ℕ) → BackLater given n (flat_map (done_at p) es)) → BackLater given count (cond own (puts q frame ∷ []) [] ++ flat_map (done_at p) es)
      go true rest = rest (count + 1)
      go false rest = rest count
  later-unvisited (again w ∷ es) given count none = later-unvisited es given count none.1
  later-unvisited (waits n ∷ es) given count none = later-unvisited es given count none.1
  later-unvisited (called n a ∷ es) given count none = later-unvisited es given count none.1
