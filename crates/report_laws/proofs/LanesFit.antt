-- The lanes of a board's run fit together as they are told.
use Rattle.std.proofs.Common.{◌≡◌, ◌⊎◌, ℕ, ◌+◌, ◌≤◌, true, cond, List, [], ◌∷◌, ◌++◌, length, sum, Some, None, refl, sym, ap, ap₂, subst, ◌∙◌, inl, inr, arith, eq-eqb}
use Rattle.std.specs.Prelude.{◌==◌}
use Rattle.std.specs.List.{AllByRecursion, flat_map}
use Rattle.std.proofs.lemmas.Bool.Decides.{nat_tests}
use Rattle.std.proofs.lemmas.List.Sums.{sum_by_push}
use Rattle.std.proofs.lemmas.Slice.Eq.{bytes_eq-Decides}
use Rattle.board_model.specs.declared.scenario.Scenario.{Scenario}
use Rattle.board_model.specs.Board.{DomainJournal, journal_of, given_back, SeesAtMost, LaneFits}
use Rattle.board_model.specs.LinkedBoard.{IsLinkedBoard}
use Rattle.board_model.specs.Lists.{IsPrefix}
use Rattle.board_model.specs.Scenario.{lanes}
use Rattle.board_model.specs.Traffic.{put_to, taken_from, back_looks}
use Rattle.board_model.proofs.WholeHas.{has-gives}
use Rattle.report_text.specs.JournalRead.{JournalText}
use Rattle.report_text.specs.LaneLines.{LaneLine, came_back, puts, shows, takes, nothing, lane_lines, taken_in, back_in}
use Rattle.report_text.specs.LinkPass.{gives_back, frames_put, taken_before, back_before, is_frame, fits, link_place, wrong_among}
use Rattle.report_text.specs.RightRuns.{journal_due}
use Rattle.report_text.specs.TextLines.{moved, or_else}
use Rattle.report_text.proofs.BoardsTold.{given-are, frames-are}
use Rattle.report_laws.proofs.LaneWalks.{Follows, behind-line, follow-entries, follow-unvisited}
use Rattle.report_laws.proofs.PeerLines.{of_peer, done_at, IsUnvisited, lines-done}
use Rattle.report_laws.proofs.Pieces.{AreToldRuns, LanesOfRunsFit}
use Rattle.report_laws.proofs.ToldRuns.{HasLane, dues, run, IsAmong, all-among, journal-is, at-peer}

-- ---- where the lines of each peer fit, each line does

module _ (s : Scenario) (ts : List JournalText) (d : ℕ) where
  abbrev Fitting : List LaneLine → List LaneLine → ℕ → Type 0
  Fitting before ls p = Follows (frames_put ts p d) (gives_back s ts p d) (taken_before p before) (back_before p before) (flat_map (of_peer p) ls)

  -- a line where it stands first
  own-line : (before : List LaneLine) (q : ℕ) (l : LaneLine) (ls : List LaneLine) → of_peer q l ≡ cond (q == q) (l ∷ []) [] → Fitting before (l ∷ ls) q → Follows (frames_put ts q d) (gives_back s ts q d) (taken_before q before) (back_before q before) (l ∷ flat_map (of_peer q) ls)
  own-line before q l ls own h =
      subst (λ (xs : List LaneLine). Follows (frames_put ts q d) (gives_back s ts q d) (taken_before q before) (back_before q before) (xs ++ flat_map (of_peer q) ls))
      (own ∙ ap (λ b. cond b (l ∷ []) []) (eq-eqb q q refl)) h

  line-fits : (before : List LaneLine) (l : LaneLine) (ls : List LaneLine) → ((p : ℕ) → Fitting before (l ∷ ls) p) → fits s ts d before l ≡ true
  line-fits before (takes q frame) ls h =
      let at = (own-line before q (takes q frame) ls refl (h q)).0 in
      ap (is_frame frame) at ∙ (bytes_eq-Decides frame frame).1 refl
  line-fits before (shows q n) ls h =
      let le = (own-line before q (shows q n) ls refl (h q)).0 in
      grind (arith, nat_tests)
  line-fits before (came_back q n) ls h =
      let le = (own-line before q (came_back q n) ls refl (h q)).0 in
      grind (arith, nat_tests)
  line-fits before (puts q frame) ls h = refl
  line-fits before nothing ls h = refl

  next-fitting : (before : List LaneLine) (l : LaneLine) (ls : List LaneLine) (p : ℕ) → Fitting before (l ∷ ls) p → Fitting (before ++ l ∷ []) ls p
  next-fitting before l ls p h =
      let F : List (List ℕ) = frames_put ts p d in
      let G : ℕ = gives_back s ts p d in
      let rest : List LaneLine = flat_map (of_peer p) ls in
      subst (λ (k : ℕ). Follows F G k (back_before p (before ++ l ∷ [])) rest) (sym (sum_by_push (taken_in p) before l))
      (subst (λ (b : ℕ). Follows F G (taken_before p before + taken_in p l) b rest) (sym (sum_by_push (back_in p) before l))
      (behind-line F G p l (taken_before p before) (back_before p before) rest h))

  lines-fit : (ls before : List LaneLine) → ((p : ℕ) → Fitting before ls p) → link_place s ts d before ls ≡ None
  lines-fit [] before h = refl
  lines-fit (l ∷ ls) before h =
      ap (λ b. cond b (moved 1 (link_place s ts d (before ++ l ∷ []) ls)) (Some 0)) (line-fits before l ls h)
      ∙ ap (moved 1) (lines-fit ls (before ++ l ∷ []) (λ p. next-fitting before l ls p (h p)))

-- ---- a board's run

module _ (s : Scenario) (board : IsLinkedBoard s) (js : List DomainJournal) (ts : List JournalText) (told : AreToldRuns s board js ts) where
  abbrev all_due : List DomainJournal
  all_due = dues s board js ts told

  -- the two ends of a lane
  record Between (a c : ℕ) : Type 0 where
    taken_first : IsPrefix (taken_from a (journal_of c all_due)) (put_to c (journal_of a all_due))
    sees : SeesAtMost a (length (put_to c (journal_of a all_due))) 0 (journal_of c all_due)
    backs : sum (back_looks c (journal_of a all_due)) ≤ given_back s all_due c a

  between : (a c : ℕ) → HasLane s a c → Between a c
  between a c has =
      has-gives (LaneFits s all_due) (λ l. (l.sender ≡ a) × (l.receiver ≡ c)) (Between a c)
      (λ l fit same. subst (λ x. Between x c) same.0 (subst (Between l.sender) same.1 (record { taken_first = fit.taken_first; sees = fit.sees; backs = fit.backs })))
      (lanes s) (run s board js ts told).lanes_fit has

  module _ (t : JournalText) (is : IsAmong s board js ts told t) (p : ℕ) where
    abbrev domain : ℕ
    domain = t.line.domain

    follows : Follows (frames_put ts p domain) (gives_back s ts p domain) 0 0 (flat_map (of_peer p) (lane_lines t))
    follows = subst (Follows (frames_put ts p domain) (gives_back s ts p domain) 0 0) (sym (lines-done s board t is.right p)) (go (at-peer s board js ts told t is p))
      where
        go : AllByRecursion (IsUnvisited p) (journal_due s t).entries ⊎ (HasLane s domain p × HasLane s p domain) → Follows (frames_put ts p domain) (gives_back s ts p domain) 0 0 (flat_map (done_at p) (journal_due s t).entries)
        go (inl none) = follow-unvisited (frames_put ts p domain) (gives_back s ts p domain) p (journal_due s t).entries 0 0 none
        go (inr has) =
            let same = journal-is s board js ts told t is in
            let frames = frames-are s board ts told.right p domain in
            let to = between p domain has.1 in
            let from = between domain p has.0 in
            let front = subst (λ es. IsPrefix (taken_from p es) (put_to domain (journal_of p all_due))) same to.taken_first in
            let back = subst (λ es. sum (back_looks p es) ≤ given_back s all_due p domain) same from.backs in
            follow-entries (frames_put ts p domain) (gives_back s ts p domain) p (journal_due s t).entries 0 0 front.0
            (frames ∙ front.1)
            (subst (λ fs. SeesAtMost p (length fs) 0 (journal_due s t).entries) (sym frames) (subst (SeesAtMost p (length (put_to domain (journal_of p all_due))) 0) same to.sees))
            (omega (arith, back, given-are s board ts told.right p domain))

  all-fit : (us : List JournalText) → AllByRecursion (IsAmong s board js ts told) us → wrong_among s ts us ≡ None
  all-fit [] all = refl
  all-fit (u ∷ us) all = ap₂ or_else (ap (moved u.number) (lines-fit s ts u.line.domain (lane_lines u) [] (follows u all.0))) (all-fit us all.1)

pub lanes_fit : LanesOfRunsFit
lanes_fit s board js ts told = all-fit s board js ts told ts (all-among s board js ts told)
