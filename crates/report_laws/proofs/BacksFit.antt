-- The back lines of a run on threads fit.
use Rattle.std.proofs.Common.{◌≡◌, ◌⊎◌, ℕ, ◌<◌, Bool, true, cond, List, [], ◌∷◌, ◌++◌, drop, take, Some, None, refl, sym, ap, ap₂, subst, ◌∙◌, inl, inr, arith, eq-eqb}
use Rattle.std.specs.Prelude.{nat_lt, ◌&&◌}
use Rattle.std.specs.List.{AllByRecursion, flat_map, list_all}
use Rattle.std.proofs.lemmas.Bool.Decides.{nat_tests}
use Rattle.board_model.specs.declared.scenario.Scenario.{Scenario}
use Rattle.board_model.specs.Board.{DomainJournal, journal_of}
use Rattle.board_model.specs.LinkedBoard.{IsLinkedBoard}
use Rattle.board_model.specs.Report.{serial, threads}
use Rattle.board_model.specs.Scenario.{lanes}
use Rattle.board_model.proofs.WholeHas.{has-gives}
use Rattle.ring_numbers.specs.BoardRings.{places_of, sent_to}
use Rattle.ring_numbers.specs.InTime.{ComeBackLater, IsInTime, AreInTime}
use Rattle.report_text.specs.JournalRead.{JournalText}
use Rattle.report_text.specs.LaneLines.{LaneLine, came_back, puts, shows, takes, nothing, lane_lines, back_in}
use Rattle.report_text.specs.RightRuns.{journal_due}
use Rattle.report_text.specs.RingPass.{is_back_of_put, back_place, given_to, wrong_back_among}
use Rattle.report_text.specs.TextLines.{moved, or_else}
use Rattle.report_laws.proofs.BackWalks.{BackLater, left, put_before, left-behind, put-behind, behind-back, later-entries, later-unvisited}
use Rattle.report_laws.proofs.PeerLines.{of_peer, done_at, IsUnvisited, lines-done}
use Rattle.report_laws.proofs.Pieces.{AreToldRuns, BacksOfRunsFit}
use Rattle.report_laws.proofs.PlacesDue.{given-due}
use Rattle.report_laws.proofs.ToldRuns.{HasLane, dues, dues-are, IsAmong, all-among, journal-is, at-peer}

-- ---- where the lines of each peer fit, each back line does

module _ (given : ℕ → List ℕ) where
  abbrev Fitting : List LaneLine → List LaneLine → ℕ → Type 0
  Fitting before ls p = BackLater (left given p before) (put_before p before) (flat_map (of_peer p) ls)

  all-below : (count : ℕ) (places : List ℕ) → AllByRecursion (λ place. place < count) places → list_all (λ place. nat_lt place count) places ≡ true
  all-below count [] all = refl
  all-below count (place ∷ places) all =
      let below = all.0 in
      let one : nat_lt place count ≡ true = grind (arith, nat_tests) in
      ap₂ (λ (x y : Bool). x && y) one (all-below count places all.1)

  line-fits : (before : List LaneLine) (l : LaneLine) (ls : List LaneLine) → ((p : ℕ) → Fitting before (l ∷ ls) p) → is_back_of_put given before l ≡ true
  line-fits before (came_back q n) ls h =
      let own = subst (λ (b : Bool). BackLater (left given q before) (put_before q before) (cond b (came_back q n ∷ []) [] ++ flat_map (of_peer q) ls)) (eq-eqb q q refl) (h q) in
      all-below (put_before q before) (take n (left given q before)) own.0
  line-fits before (puts q frame) ls h = refl
  line-fits before (shows q n) ls h = refl
  line-fits before (takes q frame) ls h = refl
  line-fits before nothing ls h = refl

  next-fitting : (before : List LaneLine) (l : LaneLine) (ls : List LaneLine) (p : ℕ) → Fitting before (l ∷ ls) p → Fitting (before ++ l ∷ []) ls p
  next-fitting before l ls p h =
      let rest : List LaneLine = flat_map (of_peer p) ls in
      subst (λ (places : List ℕ). BackLater places (put_before p (before ++ l ∷ [])) rest) (left-behind given p before l)
      (subst (λ (n : ℕ). BackLater (drop (back_in p l) (left given p before)) n rest) (put-behind p before l)
      (behind-back p l (left given p before) (put_before p before) rest h))

  lines-fit : (ls before : List LaneLine) → ((p : ℕ) → Fitting before ls p) → back_place given before ls ≡ None
  lines-fit [] before h = refl
  lines-fit (l ∷ ls) before h =
      ap (λ b. cond b (moved 1 (back_place given (before ++ l ∷ []) ls)) (Some 0)) (line-fits before l ls h)
      ∙ ap (moved 1) (lines-fit ls (before ++ l ∷ []) (λ p. next-fitting before l ls p (h p)))

-- ---- a board's run

module _ (s : Scenario) (board : IsLinkedBoard s) (js : List DomainJournal) (ts : List JournalText) (told : AreToldRuns s board js ts) (times : AreInTime s js) where
  abbrev all_due : List DomainJournal
  all_due = dues s board js ts told

  abbrev InTime : ℕ → ℕ → Type 0
  InTime a c = ComeBackLater (places_of s all_due c a) 0 (sent_to c (journal_of a all_due))

  in-time : (a c : ℕ) → HasLane s a c → InTime a c
  in-time a c has =
      has-gives (IsInTime s all_due) (λ l. (l.sender ≡ a) × (l.receiver ≡ c)) (InTime a c)
      (λ l time same. subst (λ x. InTime x c) same.0 (subst (InTime l.sender) same.1 time))
      (lanes s) (subst (λ ks. AllByRecursion (IsInTime s ks) (lanes s)) (sym (dues-are s board js ts told)) times) has

  module _ (t : JournalText) (is : IsAmong s board js ts told t) (p : ℕ) where
    abbrev domain : ℕ
    domain = t.line.domain

    later : BackLater (given_to s ts domain p) 0 (flat_map (of_peer p) (lane_lines t))
    later = subst (BackLater (given_to s ts domain p) 0) (sym (lines-done s board t is.right p)) (go (at-peer s board js ts told t is p))
      where
        go : AllByRecursion (IsUnvisited p) (journal_due s t).entries ⊎ (HasLane s domain p × HasLane s p domain) → BackLater (given_to s ts domain p) 0 (flat_map (done_at p) (journal_due s t).entries)
        go (inl none) = later-unvisited p (journal_due s t).entries (given_to s ts domain p) 0 none
        go (inr has) =
            later-entries p (journal_due s t).entries (given_to s ts domain p) 0
            (subst (λ places. ComeBackLater places 0 (sent_to p (journal_due s t).entries)) (given-due s ts domain p)
            (subst (λ es. ComeBackLater (places_of s all_due p domain) 0 (sent_to p es)) (journal-is s board js ts told t is) (in-time domain p has.0)))

  all-fit : (us : List JournalText) → AllByRecursion (IsAmong s board js ts told) us → wrong_back_among s ts us ≡ None
  all-fit [] all = refl
  all-fit (u ∷ us) all = ap₂ or_else (ap (moved u.number) (lines-fit (given_to s ts u.line.domain) (lane_lines u) [] (later u all.0))) (all-fit us all.1)

pub backs_fit : BacksOfRunsFit
backs_fit serial s board js ts told times = refl
backs_fit threads s board js ts told times = all-fit s board js ts told times ts (all-among s board js ts told)
