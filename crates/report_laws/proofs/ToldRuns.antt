-- The journals of a board's run as they are told: each is found by its domain, and a peer that it visits has a lane to it and one from it.
use Rattle.std.proofs.Common.{◌≡◌, ◌⊎◌, ℕ, false, List, [], ◌∷◌, map, Option, Some, None, option_map, find, refl, sym, ap, ap₂, subst, ◌∙◌, inl, inr, eqb-true}
use Rattle.std.specs.Prelude.{◌==◌}
use Rattle.std.specs.List.{AllByRecursion}
use Rattle.board_model.specs.declared.scenario.DomainLine.{DomainLine}
use Rattle.board_model.specs.declared.scenario.Scenario.{Scenario}
use Rattle.board_model.specs.Board.{DomainJournal, journal_in, journal_of, IsBoardRun}
use Rattle.board_model.specs.LinkedBoard.{Differ, IsLinkedBoard}
use Rattle.board_model.specs.Scenario.{Neighbour, neighbours, lanes, rising}
use Rattle.board_model.proofs.ListsApart.{all-map, all-unmap, differ-found}
use Rattle.board_model.proofs.MessageAlls.{all-found, found-passes, none-passes}
use Rattle.board_model.proofs.PlaceBoards.{rising_differ}
use Rattle.board_model.proofs.WholeHas.{Has}
use Rattle.board_model.proofs.WholeJoined.{Joined, joined_back, joined_found, neighbours_join, rising_told, has_lane}
use Rattle.report_text.specs.JournalRead.{JournalText}
use Rattle.report_text.specs.RightRuns.{journal_due}
use Rattle.report_text.proofs.BoardsTold.{found-mapped}
use Rattle.report_text.proofs.RunsTold.{IsRight}
use Rattle.report_laws.proofs.Pieces.{HaveRightSteps, AreToldRuns}
use Rattle.report_laws.proofs.PeerLines.{IsUnvisited, unvisited}

lines-same : (s : Scenario) (ts : List JournalText) → map (λ d. d.line) (map (journal_due s) ts) ≡ map (λ t. t.line) ts
lines-same s [] = refl
lines-same s (t ∷ ts) = ap (λ ls. t.line ∷ ls) (lines-same s ts)

domains-same : (ts : List JournalText) → map (λ d. d.domain) (map (λ t. t.line) ts) ≡ map (λ t. t.line.domain) ts
domains-same [] = refl
domains-same (t ∷ ts) = ap (λ ns. t.line.domain ∷ ns) (domains-same ts)

-- there is a lane from one domain to another
abbrev pub HasLane : Scenario → ℕ → ℕ → Type 0
HasLane s from to = Has (λ l. (l.sender ≡ from) × (l.receiver ≡ to)) (lanes s)

module _ (s : Scenario) (board : IsLinkedBoard s) (js : List DomainJournal) (ts : List JournalText) (told : AreToldRuns s board js ts) where
  abbrev pub dues : List DomainJournal
  dues = map (journal_due s) ts

  pub dues-are : dues ≡ js
  dues-are = go js ts told.steps
    where
      go : (ks : List DomainJournal) (us : List JournalText) → HaveRightSteps s ks us → map (journal_due s) us ≡ ks
      go [] [] steps = refl
      go [] (u ∷ us) steps = absurd steps
      go (k ∷ ks) [] steps = absurd steps
      go (k ∷ ks) (u ∷ us) steps = ap₂ (λ x xs. x ∷ xs) steps.0.journal (go ks us steps.1)

  pub run : IsBoardRun s dues
  run = subst (IsBoardRun s) (sym dues-are) told.run

  lines-are : map (λ t. t.line) ts ≡ rising s
  lines-are = sym (lines-same s ts) ∙ run.each_domain

  -- ---- a journal among them

  pub record IsAmong (t : JournalText) : Type 0 where
    pub right : IsRight s board t
    pub line : find (λ d. d.domain == t.line.domain) (rising s) ≡ Some t.line
    pub found : find (λ u. u.line.domain == t.line.domain) ts ≡ Some t

  pub all-among : AllByRecursion IsAmong ts
  all-among =
      let each = differ-found (λ (d : DomainLine). d.domain) (rising s) (rising_differ s board) in
      let differ : Differ (map (λ t. t.line.domain) ts) = subst Differ (sym (ap (map (λ d. d.domain)) lines-are) ∙ domains-same ts) (rising_differ s board) in
      go ts told.right
      (all-unmap (λ (d : DomainLine). find (λ e. e.domain == d.domain) (rising s) ≡ Some d) (λ (t : JournalText). t.line) ts (subst (AllByRecursion (λ (d : DomainLine). find (λ e. e.domain == d.domain) (rising s) ≡ Some d)) (sym lines-are) each))
      (differ-found (λ (t : JournalText). t.line.domain) ts differ)
    where
      go : (us : List JournalText) → AllByRecursion (IsRight s board) us → AllByRecursion (λ t. find (λ d. d.domain == t.line.domain) (rising s) ≡ Some t.line) us → AllByRecursion (λ t. find (λ u. u.line.domain == t.line.domain) ts ≡ Some t) us → AllByRecursion IsAmong us
      go [] rights lines founds = tt
      go (u ∷ us) rights lines founds = (record { right = rights.0; line = lines.0; found = founds.0 }, go us rights.1 lines.1 founds.1)

  module _ (t : JournalText) (is : IsAmong t) where
    pub journal-is : journal_of t.line.domain dues ≡ (journal_due s t).entries
    journal-is = ap journal_in (found-mapped (journal_due s) (λ u. refl) t.line.domain ts ∙ ap (option_map (journal_due s)) is.found)

    -- ---- a peer is one that it does not visit, or at the other end of two lanes

    pub at-peer : (p : ℕ) → AllByRecursion (IsUnvisited p) (journal_due s t).entries ⊎ (HasLane s t.line.domain p × HasLane s p t.line.domain)
    at-peer p = go (find (λ n. n.number == p) (neighbours s t.line)) refl
      where
        go : (o : Option Neighbour) → find (λ n. n.number == p) (neighbours s t.line) ≡ o → AllByRecursion (IsUnvisited p) (journal_due s t).entries ⊎ (HasLane s t.line.domain p × HasLane s p t.line.domain)
        go None none = inl (unvisited s board t is.right p (all-map (λ q. (q == p) ≡ false) (λ (n : Neighbour). n.number) (neighbours s t.line) (none-passes (λ n. n.number == p) (neighbours s t.line) none)))
        go (Some n) found =
            let d : ℕ = t.line.domain in
            let number : n.number ≡ p = eqb-true n.number p (found-passes (λ m. m.number == p) (neighbours s t.line) n found) in
            let among : Has (λ e. e ≡ t.line) s.domains = all-found (λ c. Has (λ e. e ≡ c) s.domains) (λ c. c.domain == d) (rising s) t.line (rising_told s) is.line in
            let joined : Joined s d p n.size = subst (λ q. Joined s d q n.size) number (all-found (λ m. Joined s d m.number m.size) (λ m. m.number == p) (neighbours s t.line) n (neighbours_join s t.line among) found) in
            let back : Joined s p d n.size = joined_back s d p n.size joined in
            let other = joined_found s board p d n.size back in
            let is-peer : other.0.domain ≡ p = eqb-true other.0.domain p (found-passes (λ e. e.domain == p) (rising s) other.0 other.1) in
            inr (has_lane s board d p n.size t.line is.line refl joined, has_lane s board p d n.size other.0 other.1 is-peer back)
