-- What the lines of a journal say of one peer, in their order, is what its entries do there. Only peers are visited.
use Rattle.std.proofs.Common.{◌≡◌, ℕ, zero, suc, Bool, true, false, cond, List, [], ◌∷◌, ◌++◌, map, filter, refl, sym, ap, ap₂, subst, ◌∙◌, append-nil}
use Rattle.std.specs.Prelude.{◌==◌}
use Rattle.std.specs.List.{AllByRecursion, flat_map}
use Rattle.std.proofs.lemmas.List.{map-append}
use Rattle.std.proofs.lemmas.List.Concat.{flat_map-append}
use Rattle.mc_base.specs.declared.refusal.Refusal.{Refusal}
use Rattle.board_model.specs.declared.scenario.CallLine.{CallLine}
use Rattle.board_model.specs.declared.scenario.Scenario.{Scenario}
use Rattle.board_model.specs.Scenario.{script}
use Rattle.board_model.specs.LinkedBoard.{IsLinkedBoard}
use Rattle.board_model.specs.Journal.{Taken, Visit, PlainAnswer, PlainEntry, turned, put, again, waits, called, Line, back_line, put_line, see_line, looked, taken_line, visit_lines}
use Rattle.board_model.specs.Unjoined.{times, idle_turn, visit_in, peers_of}
use Rattle.board_model.specs.JournalParts.{Part, idles, spins, tries, turn_of, wait_of, call_of, part_lines, part_entries}
use Rattle.board_model.specs.Step.{RunState, after}
use Rattle.board_model.specs.Run.{start}
use Rattle.board_model.specs.Traffic.{visits_to}
use Rattle.board_model.proofs.MessageAlls.{all-append}
use Rattle.report_text.specs.JournalRead.{JournalText, lines_of_texts}
use Rattle.report_text.specs.LaneLines.{LaneLine, came_back, puts, shows, takes, nothing, lane_of, lane_lines}
use Rattle.report_text.specs.LinkPass.{journal_told}
use Rattle.report_text.specs.RightRuns.{with_answers, journal_due}
use Rattle.report_text.specs.StepPass.{parts_of}
use Rattle.report_text.proofs.EntriesTold.{unjoined-is}
use Rattle.report_text.proofs.LanesTold.{lanes, none-idle}
use Rattle.report_text.proofs.RunsTold.{IsRight, told-parts}
use Rattle.report_text.proofs.StepsDue.{Fits}

-- a line, where it speaks of this peer
abbrev pub of_peer : ℕ → LaneLine → List LaneLine
of_peer p (came_back q n) = cond (q == p) (came_back q n ∷ []) []
of_peer p (puts q frame) = cond (q == p) (puts q frame ∷ []) []
of_peer p (shows q n) = cond (q == p) (shows q n ∷ []) []
of_peer p (takes q frame) = cond (q == p) (takes q frame ∷ []) []
of_peer p nothing = []

-- the lines of a visit, and those of an entry that speak of this peer
abbrev pub visit_lanes : Visit → List LaneLine
visit_lanes v = lanes (visit_lines v)

abbrev pub done_at : ℕ → PlainEntry → List LaneLine
done_at p (turned vs) = flat_map visit_lanes (visits_to p vs)
done_at p (put q frame) = cond (q == p) (puts q frame ∷ []) []
done_at p (again w) = []
done_at p (waits k) = []
done_at p (called k a) = []

-- ---- a visit: all its lines speak of its peer

abbrev IsOf : ℕ → Bool → Line → Type 0
IsOf p own l = of_peer p (lane_of l) ≡ cond own (lane_of l ∷ []) []

all-of : (p : ℕ) (own : Bool) (ls : List Line) → AllByRecursion (IsOf p own) ls → flat_map (of_peer p) (lanes ls) ≡ cond own (lanes ls) []
all-of p true [] all = refl
all-of p false [] all = refl
all-of p true (l ∷ ls) all = ap₂ (λ (xs ys : List LaneLine). xs ++ ys) all.0 (all-of p true ls all.1)
all-of p false (l ∷ ls) all = ap₂ (λ (xs ys : List LaneLine). xs ++ ys) all.0 (all-of p false ls all.1)

module _ (p : ℕ) where
  looked-of : (own : Bool) (line : ℕ → Line) (n : ℕ) → IsOf p own (line n) → AllByRecursion (IsOf p own) (looked line n)
  looked-of own line n is = go (n == 0)
    where
      go : (b : Bool) → AllByRecursion (IsOf p own) (cond b [] (line n ∷ []))
      go true = tt
      go false = (is, tt)

  puts-of : (q : ℕ) (fs : List (List ℕ)) → AllByRecursion (IsOf p (q == p)) (map (put_line q) fs)
  puts-of q [] = tt
  puts-of q (f ∷ fs) = (refl, puts-of q fs)

  takes-of : (q : ℕ) (ts : List Taken) → AllByRecursion (IsOf p (q == p)) (map (taken_line q) ts)
  takes-of q [] = tt
  takes-of q (t ∷ ts) = (refl, takes-of q ts)

  visit-of : (v : Visit) → AllByRecursion (IsOf p (v.peer == p)) (visit_lines v)
  visit-of v =
      let own : Bool = v.peer == p in
      let sees : List Line = looked (see_line v.peer) v.see in
      let taken : List Line = map (taken_line v.peer) v.takes in
      all-append (IsOf p own) (looked (back_line v.peer) v.back) (map (put_line v.peer) v.owed ++ (sees ++ taken)) (looked-of own (back_line v.peer) v.back refl)
      (all-append (IsOf p own) (map (put_line v.peer) v.owed) (sees ++ taken) (puts-of v.peer v.owed)
      (all-append (IsOf p own) sees taken (looked-of own (see_line v.peer) v.see refl) (takes-of v.peer v.takes)))

  -- ---- a turn

  peer-append : (xs ys : List Line) → flat_map (of_peer p) (lanes (xs ++ ys)) ≡ flat_map (of_peer p) (lanes xs) ++ flat_map (of_peer p) (lanes ys)
  peer-append xs ys = ap (flat_map (of_peer p)) (map-append lane_of xs ys) ∙ flat_map-append (of_peer p) (lanes xs) (lanes ys)

  turn-done : (vs : List Visit) → flat_map (of_peer p) (lanes (flat_map visit_lines vs)) ≡ done_at p (turned vs)
  turn-done [] = refl
  turn-done (v ∷ vs) =
      peer-append (visit_lines v) (flat_map visit_lines vs)
      ∙ ap₂ (λ (xs ys : List LaneLine). xs ++ ys) (all-of p (v.peer == p) (visit_lines v) (visit-of v)) (turn-done vs)
      ∙ go (v.peer == p)
    where
      go : (b : Bool) → cond b (visit_lanes v) [] ++ flat_map visit_lanes (visits_to p vs) ≡ flat_map visit_lanes (cond b (v ∷ visits_to p vs) (visits_to p vs))
      go true = refl
      go false = refl

  idles-none : (qs : List ℕ) → flat_map visit_lanes (map (visit_in []) qs) ≡ []
  idles-none [] = refl
  idles-none (q ∷ qs) = idles-none qs

  idle-none : (qs : List ℕ) → done_at p (idle_turn qs) ≡ []
  idle-none qs = ap (flat_map visit_lanes) (none-idle p qs) ∙ idles-none (filter (λ q. q == p) qs)

  -- ---- parts

  times-none : (xs : List PlainEntry) (n : ℕ) → flat_map (done_at p) xs ≡ [] → [] ≡ flat_map (done_at p) (times n xs)
  times-none xs zero none = refl
  times-none xs (suc n) none = sym (flat_map-append (done_at p) xs (times n xs) ∙ ap₂ (λ (us vs : List LaneLine). us ++ vs) none (sym (times-none xs n none)))

  call-done : (peers : List ℕ) (ps : List (ℕ × List ℕ)) (k : ℕ) (a : PlainAnswer) → flat_map (of_peer p) (lanes (part_lines (call_of ps k a))) ≡ flat_map (done_at p) (part_entries peers (call_of ps k a))
  call-done peers [] k a = refl
  call-done peers (q ∷ ps) k a = ap (λ (us : List LaneLine). cond (q.0 == p) (puts q.0 q.1 ∷ []) [] ++ us) (call-done peers ps k a)

  part-done : (peers : List ℕ) (x : Part) → flat_map (of_peer p) (lanes (part_lines x)) ≡ flat_map (done_at p) (part_entries peers x)
  part-done peers (idles n) = times-none (idle_turn peers ∷ []) n (ap (λ (us : List LaneLine). us ++ []) (idle-none peers))
  part-done peers (spins n w) = times-none (idle_turn peers ∷ again w ∷ []) n (ap (λ (us : List LaneLine). us ++ []) (idle-none peers))
  part-done peers (tries w) = refl
  part-done peers (turn_of vs) = turn-done vs ∙ sym (append-nil (done_at p (turned vs)))
  part-done peers (wait_of k) = refl
  part-done peers (call_of ps k a) = call-done peers ps k a

  parts-done : (peers : List ℕ) (xs : List Part) → flat_map (of_peer p) (lanes (flat_map part_lines xs)) ≡ flat_map (done_at p) (flat_map (part_entries peers) xs)
  parts-done peers [] = refl
  parts-done peers (x ∷ xs) =
      peer-append (part_lines x) (flat_map part_lines xs)
      ∙ ap₂ (λ (us vs : List LaneLine). us ++ vs) (part-done peers x) (parts-done peers xs)
      ∙ sym (flat_map-append (done_at p) (part_entries peers x) (flat_map (part_entries peers) xs))

  -- answers change nothing
  done-answers : (lines : List CallLine) (r : RunState) (es : List PlainEntry) → flat_map (done_at p) (with_answers lines r es) ≡ flat_map (done_at p) es
  done-answers lines r [] = refl
  done-answers lines r (turned vs ∷ es) = ap (λ (xs : List LaneLine). done_at p (turned vs) ++ xs) (done-answers lines (after lines r (turned vs)) es)
  done-answers lines r (put q f ∷ es) = ap (λ (xs : List LaneLine). done_at p (put q f) ++ xs) (done-answers lines (after lines r (put q f)) es)
  done-answers lines r (again w ∷ es) = done-answers lines (after lines r (again w)) es
  done-answers lines r (waits k ∷ es) = done-answers lines (after lines r (waits k)) es
  done-answers lines r (called k a ∷ es) = done-answers lines (after lines r (called k a)) es

  -- ---- one that is no peer is not visited

  abbrev pub IsUnvisited : PlainEntry → Type 0
  IsUnvisited (turned vs) = visits_to p vs ≡ []
  IsUnvisited other = Unit {0}

  not-visited : (qs : List ℕ) (vs : List Visit) → AllByRecursion (λ q. (q == p) ≡ false) qs → map (λ v. v.peer) vs ≡ qs → visits_to p vs ≡ []
  not-visited qs [] none same = refl
  not-visited [] (v ∷ vs) none same = absurd cc
  not-visited (q ∷ qs) (v ∷ vs) none same =
      let first : v.peer ≡ q = cc in
      let rest : map (λ w. w.peer) vs ≡ qs = cc in
      ap (λ b. cond b (v ∷ visits_to p vs) (visits_to p vs)) (ap (λ n. n == p) first ∙ none.0) ∙ not-visited qs vs none.1 rest

  idle-peers : (qs : List ℕ) → map (λ v. v.peer) (map (visit_in []) qs) ≡ qs
  idle-peers [] = refl
  idle-peers (q ∷ qs) = ap (λ ns. q ∷ ns) (idle-peers qs)

  module _ (qs : List ℕ) (none : AllByRecursion (λ q. (q == p) ≡ false) qs) where
    idle-unvisited : IsUnvisited (idle_turn qs)
    idle-unvisited = not-visited qs (map (visit_in []) qs) none (idle-peers qs)

    idles-unvisited : (n : ℕ) → AllByRecursion IsUnvisited (times n (idle_turn qs ∷ []))
    idles-unvisited zero = tt
    idles-unvisited (suc n) = (idle-unvisited, idles-unvisited n)

    spins-unvisited : (w : Refusal) (n : ℕ) → AllByRecursion IsUnvisited (times n (idle_turn qs ∷ again w ∷ []))
    spins-unvisited w zero = tt
    spins-unvisited w (suc n) = (idle-unvisited, (tt, spins-unvisited w n))

    part-unvisited : (x : Part) → Fits qs x → AllByRecursion IsUnvisited (part_entries qs x)
    part-unvisited (idles n) fits = idles-unvisited n
    part-unvisited (spins n w) fits = spins-unvisited w n
    part-unvisited (tries w) fits = (tt, tt)
    part-unvisited (turn_of vs) fits = (not-visited qs vs none fits, tt)
    part-unvisited (wait_of k) fits = (tt, tt)
    part-unvisited (call_of ps k a) fits = go ps
      where
        go : (ps : List (ℕ × List ℕ)) → AllByRecursion IsUnvisited (part_entries qs (call_of ps k a))
        go [] = (tt, tt)
        go (q ∷ ps) = (tt, go ps)

    parts-unvisited : (xs : List Part) → AllByRecursion (Fits qs) xs → AllByRecursion IsUnvisited (flat_map (part_entries qs) xs)
    parts-unvisited [] fits = tt
    parts-unvisited (x ∷ xs) fits = all-append IsUnvisited (part_entries qs x) (flat_map (part_entries qs) xs) (part-unvisited x fits.0) (parts-unvisited xs fits.1)

  answers-unvisited : (lines : List CallLine) (r : RunState) (es : List PlainEntry) → AllByRecursion IsUnvisited es → AllByRecursion IsUnvisited (with_answers lines r es)
  answers-unvisited lines r [] all = tt
  answers-unvisited lines r (turned vs ∷ es) all = (all.0, answers-unvisited lines (after lines r (turned vs)) es all.1)
  answers-unvisited lines r (put q f ∷ es) all = (tt, answers-unvisited lines (after lines r (put q f)) es all.1)
  answers-unvisited lines r (again w ∷ es) all = (tt, answers-unvisited lines (after lines r (again w)) es all.1)
  answers-unvisited lines r (waits k ∷ es) all = (tt, answers-unvisited lines (after lines r (waits k)) es all.1)
  answers-unvisited lines r (called k a ∷ es) all = (tt, answers-unvisited lines (after lines r (called k a)) es all.1)

-- ---- a journal in which the first pass finds each line at its place

module _ (s : Scenario) (board : IsLinkedBoard s) (j : JournalText) (right : IsRight s board j) (p : ℕ) where
  abbrev peers : List ℕ
  peers = peers_of s j.line

  abbrev told : List PlainEntry
  told = (journal_told s j).entries

  told-is : told ≡ flat_map (part_entries peers) (parts_of s j)
  told-is = unjoined-is s j.line (lines_of_texts j.texts)

  pub lines-done : flat_map (of_peer p) (lane_lines j) ≡ flat_map (done_at p) (journal_due s j).entries
  lines-done =
      ap (λ ls. flat_map (of_peer p) (lanes ls)) (told-parts s board j right).lines
      ∙ parts-done p peers (parts_of s j)
      ∙ sym (ap (flat_map (done_at p)) told-is)
      ∙ sym (done-answers p (script s j.line.domain) (start s j.line) told)

  pub unvisited : AllByRecursion (λ q. (q == p) ≡ false) peers → AllByRecursion (IsUnvisited p) (journal_due s j).entries
  unvisited none =
      answers-unvisited p (script s j.line.domain) (start s j.line) told
      (subst (AllByRecursion (IsUnvisited p)) (sym told-is) (parts-unvisited p peers none (parts_of s j) (told-parts s board j right).fits))
