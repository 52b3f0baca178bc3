-- The law of channels: every channel of a board run is kept, and each receiver's close tells how many items of its channel it drops.
use Rattle.board_model.proofs.PartLaw.{from_peer}
use Rattle.std.proofs.Common.{◌≡◌, ◌⊎◌, inl, inr, ℕ, Bool, true, false, List, [], ◌∷◌, ◌++◌, find, flat_map, Option, None, Some, refl, sym, ◌∙◌, subst}
use Rattle.std.specs.Prelude.{◌==◌}
use Rattle.std.specs.List.{AllByRecursion}
use Rattle.std.proofs.lemmas.Bool.{eqb-true, eq-eqb}
use Rattle.std.proofs.lemmas.List.{append_assoc}
use Rattle.board_model.specs.declared.scenario.DomainLine.{DomainLine}
use Rattle.board_model.specs.declared.scenario.Scenario.{Scenario}
use Rattle.board_model.specs.Answer.{holds, words_of}
use Rattle.board_model.specs.Scenario.{Neighbour, neighbours}
use Rattle.board_model.specs.LinkedBoard.{IsLinkedBoard}
use Rattle.board_model.specs.Board.{DomainJournal, IsBoardRun}
use Rattle.board_model.specs.ChannelLaws.{EveryChannelIsKept, ChannelsEndWhereNamed}
use Rattle.board_model.specs.Channels.{ClosesTellDropped}
use Rattle.board_model.specs.Deeds.{Deed, looks_back, puts_owed, looks_ahead, takes, calls, after_deeds}
use Rattle.board_model.specs.JournalDeeds.{deeds_of, opened, left_in}
use Rattle.board_model.proofs.ChannelBoard.{JournalRun, channel_kept, ends_where_named}
use Rattle.board_model.proofs.DeedJoins.{after-join}
use Rattle.board_model.proofs.DeedRuns.{frames_if, takes_by}
use Rattle.board_model.proofs.HearingCloses.{run_closes}
use Rattle.board_model.proofs.HonestBoard.{may_know, OnBoard, each_on_board, moment, moment_far, once_holds}
use Rattle.board_model.proofs.HonestPosts.{posts_read}
use Rattle.board_model.proofs.KeptReach.{reach}
use Rattle.board_model.proofs.KeptLanes.{IsOnce, IsFrom}
use Rattle.board_model.proofs.KeptSends.{FitsDeed}
use Rattle.board_model.proofs.KeptTells.{numbers_of}
use Rattle.board_model.proofs.ListsApart.{all-map, all-unmap}
use Rattle.board_model.proofs.MessageAlls.{none-passes, all-found, all-weaken, all-with, found-passes}
use Rattle.board_model.proofs.SendingDeeds.{ReadsDeed, AllRead}
use Rattle.board_model.proofs.WholeHas.{Has}
use Rattle.board_model.proofs.WholeJoined.{Joined, neighbours_join, rising_told}
use Rattle.board_model.proofs.OrderLookups.{none_holds}

-- no frame is taken from a domain that is none of these
none_from : (ns : List ℕ) (q : ℕ) → (IsOnce ns q → ⊥) → (ds : List Deed) → AllByRecursion (IsFrom ns) ds → flat_map (takes_by q) ds ≡ []
none_from ns q away [] from = refl
none_from ns q away (takes p name frame word ∷ ds) from = go (p == q) refl (none_from ns q away ds from.1)
  where
    go : (b : Bool) → (p == q) ≡ b → flat_map (takes_by q) ds ≡ [] → frames_if b (frame ∷ []) ++ flat_map (takes_by q) ds ≡ []
    go true is later = absurd (away (subst (IsOnce ns) (eqb-true p q is) from.0))
    go false is later = later
none_from ns q away (looks_back p count ∷ ds) from = none_from ns q away ds from.1
none_from ns q away (puts_owed p frame ∷ ds) from = none_from ns q away ds from.1
none_from ns q away (looks_ahead p count ∷ ds) from = none_from ns q away ds from.1
none_from ns q away (calls node call a ∷ ds) from = none_from ns q away ds from.1

module _ (s : Scenario) (js : List DomainJournal) (board : IsLinkedBoard s) (run : IsBoardRun s js) where
  -- the letters of each call are read back
  reads_along : (j : DomainJournal) → OnBoard s js board run j → (before after : List Deed) → deeds_of s j ≡ before ++ after → AllByRecursion FitsDeed after → AllRead (after_deeds (opened s j) before) after
  reads_along j on before [] is fits = tt
  reads_along j on before (d ∷ after) is fits = (
    one d fits.0,
    subst (λ t. AllRead t after) (after-join (opened s j) before (d ∷ [])) (reads_along j on (before ++ d ∷ []) after (is ∙ sym (append_assoc before (d ∷ []) after)) fits.1),
  )
    where
      one : (e : Deed) → FitsDeed e → ReadsDeed (after_deeds (opened s j) before) e
      one (calls node call a) fit = λ none. posts_read (left_in s j).endpoints_given (may_know s js board run) (numbers_of s j.line) (reach s js board run) (after_deeds (opened s j) before) (moment s js board run j on before (d ∷ after) is) (moment_far s js board run j on before (d ∷ after) is) node call fit.1 (none_holds (holds (after_deeds (opened s j) before) node call) (words_of call) none)
      one (looks_back p count) fit = tt
      one (puts_owed p frame) fit = tt
      one (looks_ahead p count) fit = tt
      one (takes p name frame word) fit = tt

  -- frames are taken from domains alone that have a lane
  from_lane : (j : DomainJournal) → OnBoard s js board run j → Has (λ e. e ≡ j.line) s.domains → (q : ℕ) → (flat_map (takes_by q) (deeds_of s j) ≡ []) ⊎ ((size : ℕ) × Joined s j.line.domain q size)
  from_lane j on told q = go (find (λ n. n.number == q) (neighbours s j.line)) refl
    where
      go : (x : Option Neighbour) → find (λ n. n.number == q) (neighbours s j.line) ≡ x → (flat_map (takes_by q) (deeds_of s j) ≡ []) ⊎ ((size : ℕ) × Joined s j.line.domain q size)
      go (Some n) found = inr (n.size, subst (λ k. Joined s j.line.domain k n.size) (eqb-true n.number q (found-passes (λ k. k.number == q) (neighbours s j.line) n found)) (all-found (λ k. Joined s j.line.domain k.number k.size) (λ k. k.number == q) (neighbours s j.line) n (neighbours_join s j.line told) found))
      go None none = inl (none_from (numbers_of s j.line) q (λ once.
          let away : (q == q) ≡ false = once_holds (λ m. (m == q) ≡ false) q (numbers_of s j.line) (all-map (λ m. (m == q) ≡ false) (λ (n : Neighbour). n.number) (neighbours s j.line) (none-passes (λ k. k.number == q) (neighbours s j.line) none)) once in
          let same : (q == q) ≡ true = eq-eqb q q refl in
          absurd cc) (deeds_of s j) on.deeds.from)

  each_line : AllByRecursion (λ j. Has (λ e. e ≡ j.line) s.domains) js
  each_line = all-unmap (λ (d : DomainLine). Has (λ e. e ≡ d) s.domains) (λ (j : DomainJournal). j.line) js (subst (AllByRecursion (λ d. Has (λ e. e ≡ d) s.domains)) (sym run.each_domain) (rising_told s))

  pub each_runs : AllByRecursion (JournalRun s) js
  each_runs = all-with (OnBoard s js board run) (λ j. Has (λ e. e ≡ j.line) s.domains) (JournalRun s) runs js (each_on_board s js board run) each_line
    where
      runs : (j : DomainJournal) → OnBoard s js board run j → Has (λ e. e ≡ j.line) s.domains → JournalRun s j
      runs j on told = record {
        may = on.told.run.may;
        puts = on.told.puts;
        takes = on.told.takes;
        few = on.deeds.few;
        read = reads_along j on [] (deeds_of s j) refl on.deeds.fit;
        from = from_lane j on told;
        known = λ q. (from_peer s js board run j on told q).known;
      }

  pub closes-tell-dropped : AllByRecursion (ClosesTellDropped s) js
  closes-tell-dropped = all-weaken (OnBoard s js board run) (ClosesTellDropped s) (λ j on. run_closes j.line.domain j.line.nodes (neighbours s j.line) (deeds_of s j) on.told.run.may on.deeds.few) js (each_on_board s js board run)

pub every-channel-is-kept : EveryChannelIsKept
every-channel-is-kept s js board run owner number = channel_kept s js board run number (each_runs s js board run) owner

pub channels-end-where-named : ChannelsEndWhereNamed
channels-end-where-named s js board run owner number = ends_where_named s js board run number (each_runs s js board run) owner
