-- What a domain takes from another is a front of what that one put, deed by deed.
use Rattle.std.proofs.Common.{◌≡◌, ◌⊎◌, inl, inr, ℕ, List, [], ◌++◌, flat_map, sym, ap, ◌∙◌, subst}
use Rattle.std.specs.List.{AllByRecursion}
use Rattle.board_model.specs.declared.scenario.Scenario.{Scenario}
use Rattle.board_model.specs.Lists.{IsPrefix}
use Rattle.board_model.specs.Scenario.{Lane, lanes}
use Rattle.board_model.specs.LinkedBoard.{IsLinkedBoard}
use Rattle.board_model.specs.Traffic.{put_to, taken_from}
use Rattle.board_model.specs.Board.{DomainJournal, journal_in, journal_of, LaneFits, IsBoardRun}
use Rattle.board_model.specs.Deeds.{along}
use Rattle.board_model.specs.JournalDeeds.{deeds_of, opened}
use Rattle.board_model.proofs.BoardsLanes.{lane_between, lane-found}
use Rattle.board_model.proofs.ChannelBoard.{JournalRun}
use Rattle.board_model.proofs.ChannelLaw.{each_runs}
use Rattle.board_model.proofs.DeedRuns.{puts_by, takes_by}
use Rattle.board_model.proofs.HonestBoard.{OnBoard, each_on_board}
use Rattle.board_model.proofs.MessageAlls.{all-found, all-with}
use Rattle.board_model.proofs.WholeJoined.{Joined, joined_back}

module _ (s : Scenario) (js : List DomainJournal) (board : IsLinkedBoard s) (run : IsBoardRun s js) where
  abbrev pub IsPlaced : DomainJournal → Type 0
  IsPlaced j = JournalRun s j × OnBoard s js board run j

  front_same : (xs us ys vs : List (List ℕ)) → xs ≡ us → ys ≡ vs → IsPrefix xs ys → IsPrefix us vs
  front_same xs us ys vs one other front = (front.0, sym other ∙ (front.1 ∙ ap (λ zs. zs ++ front.0) one))

  taken_front : (j : DomainJournal) → IsPlaced j → (q : ℕ) → IsPrefix (taken_from q j.entries) (put_to j.line.domain (journal_of q js))
  taken_front j on q = go (on.0.from q)
    where
      go : (flat_map (takes_by q) (deeds_of s j) ≡ []) ⊎ ((size : ℕ) × Joined s j.line.domain q size) → IsPrefix (taken_from q j.entries) (put_to j.line.domain (journal_of q js))
      go (inl none) = (put_to j.line.domain (journal_of q js), ap (λ fs. fs ++ put_to j.line.domain (journal_of q js)) (sym (on.0.takes q ∙ none)))
      go (inr (size, joined)) =
          let l : Lane = record { sender = q; receiver = j.line.domain; size = size } in
          let fits : LaneFits s js l = all-found (LaneFits s js) (lane_between q j.line.domain) (lanes s) l run.lanes_fit (lane-found s board q j.line.domain size (joined_back s j.line.domain q size joined)) in
          subst (λ o. IsPrefix (taken_from q (journal_in o)) (put_to j.line.domain (journal_of q js))) on.1.found fits.taken_first

  -- what one domain takes from another, deed by deed
  pub deeds-front : (j k : DomainJournal) → IsPlaced j → IsPlaced k → IsPrefix (flat_map (takes_by k.line.domain) (deeds_of s j)) (along (puts_by j.line.domain) (opened s k) (deeds_of s k))
  deeds-front j k at on =
      front_same (taken_from k.line.domain j.entries) _ (put_to j.line.domain (journal_of k.line.domain js)) _ (at.0.takes k.line.domain) (ap (λ x. put_to j.line.domain (journal_in x)) on.1.found ∙ on.0.puts j.line.domain) (taken_front j at k.line.domain)

  pub each_placed : AllByRecursion IsPlaced js
  each_placed = all-with (JournalRun s) (OnBoard s js board run) IsPlaced (λ j r on. (r, on)) js (each_runs s js board run) (each_on_board s js board run)
