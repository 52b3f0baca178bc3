-- On a board of linked domains the lines of the journals tell how many messages were accepted and dropped, and are in the ring.
-- Those that were taken are the rest.
use Rattle.std.proofs.Common.{◌≡◌, ℕ, ◌+◌, ◌-◌, ◌≤◌, List, [], ◌∷◌, None, length, map, filter, sum_by, refl, sym, ap, ◌∙◌, subst, arith}
use Rattle.std.specs.Prelude.{count_by}
use Rattle.std.specs.List.{flat_map}
use Rattle.std.proofs.lemmas.List.{length-append, length-map}
use Rattle.std.proofs.lemmas.List.Elements.{filter-append}
use Rattle.board_model.specs.declared.scenario.Scenario.{Scenario}
use Rattle.board_model.specs.Scenario.{script, neighbours}
use Rattle.board_model.specs.LinkedBoard.{IsLinkedBoard}
use Rattle.board_model.specs.Journal.{joined}
use Rattle.board_model.specs.Run.{start, left_by}
use Rattle.board_model.specs.State.{Item, Endpoint, DomainState, queued_items}
use Rattle.board_model.specs.Traffic.{put_to}
use Rattle.board_model.specs.Board.{DomainJournal, IsBoardRun}
use Rattle.board_model.specs.JournalDeeds.{deeds_of, opened, left_in}
use Rattle.board_model.specs.Messages.{message_of, is_message_item, accepted_in, accepted, queued_at, queued_in, messages_queued, messages_in_ring, carries_message}
use Rattle.board_model.specs.Drops.{dropped_in, dropped}
use Rattle.board_model.specs.Takings.{messages_taken}
use Rattle.board_model.specs.Tallies.{is_sent_line, is_brought_line, is_lost_line, deleted_in}
use Rattle.board_model.specs.Unnamed.{unnamed_end, unnamed_item}
use Rattle.board_model.proofs.RunDeeds.{AllAllowed, allowed-all}
use Rattle.board_model.proofs.ListsCounts.{count-every}
use Rattle.board_model.proofs.ListsMapped.{filter-mapped}
use Rattle.board_model.proofs.MessageAlls.{all-weaken}
use Rattle.board_model.proofs.MessageOnce.{total, total-each, total-same, length-joined}
use Rattle.board_model.proofs.OrderLaws.{run_queues}
use Rattle.board_model.proofs.PlaceBoards.{neighbours_differ}
use Rattle.board_model.proofs.HonestRuns.{anything, sound_opening}
use Rattle.board_model.proofs.PartLaw.{journal_closed, kept_along}
use Rattle.board_model.proofs.KeptBoard.{Placed, all_placed, brought, journal-accepted, accepted-parts, no-message-lost}
use Rattle.board_model.proofs.KeptLanes.{passing}
use Rattle.board_model.proofs.KeptLines.{any, said_frames}
use Rattle.board_model.proofs.KeptSent.{AreOn, run_on, sent-told}
use Rattle.board_model.proofs.KeptTells.{numbers_of}
use Rattle.board_model.proofs.KeptTold.{never-stray, brought-deeds, brought-told, lost-deeds, lost-told}

-- the numbers that lines tell, of one journal and of all
abbrev pub sent : DomainJournal → ℕ
sent j = count_by is_sent_line (joined j.entries)

abbrev pub came : DomainJournal → ℕ
came j = count_by is_brought_line (joined j.entries)

abbrev pub lost : Scenario → DomainJournal → ℕ
lost s j = count_by is_lost_line (joined j.entries) + sum_by (deleted_in (script s j.line.domain)) (joined j.entries)

pub record NumbersTold (s : Scenario) (js : List DomainJournal) : Type 0 where
  pub accepts : length (accepted s js) ≡ total sent js
  pub drops_some : length (dropped s js) ≡ total (lost s) js
  pub in_ring : length (messages_in_ring s js) ≡ total sent js - total came js
  pub takes_rest : length (messages_taken s js) ≡ length (accepted s js) - length (dropped s js) - length (messages_queued s js) - length (messages_in_ring s js)
  -- the messages that are queued are the items in queues that came on no channel
  pub queues : length (messages_queued s js) ≡ total (λ j. length (filter is_message_item (queued_items (left_by s j.line j.entries).state))) js
  -- what was brought was sent
  pub brings : total came js ≤ total sent js

-- ---- what is queued

queued_each : (d : ℕ) (es : List Endpoint) → length (flat_map (queued_at d) es) ≡ length (filter is_message_item (flat_map (λ e. e.queue) (map unnamed_end es)))
queued_each d [] = refl
queued_each d (e ∷ es) =
    let later : List Item = flat_map (λ (x : Endpoint). x.queue) (map unnamed_end es) in
    omega (
      arith,
      length-append (queued_at d e) (flat_map (queued_at d) es),
      ap (λ (is : List Item). length is) (filter-append is_message_item (map unnamed_item e.queue) later),
      length-append (filter is_message_item (map unnamed_item e.queue)) (filter is_message_item later),
      ap (λ (is : List Item). length is) (filter-mapped unnamed_item is_message_item is_message_item (λ i. refl) e.queue),
      length-map (filter is_message_item e.queue) (message_of d e.address),
      length-map (filter is_message_item e.queue) unnamed_item,
      queued_each d es,
    )

module _ (s : Scenario) (js : List DomainJournal) (board : IsLinkedBoard s) (run : IsBoardRun s js) where
  abbrev On : DomainJournal → Type 0
  On j = Placed s js board run j

  allowed : (j : DomainJournal) → On j → AllAllowed (script s j.line.domain) (start s j.line) j.entries
  allowed j on = allowed-all (script s j.line.domain) (start s j.line) (left_by s j.line j.entries) j.entries on.0.is_run.steps

  journal_sent : (j : DomainJournal) → On j → length (accepted_in s j) ≡ sent j
  journal_sent j on =
      let d : ℕ = j.line.domain in
      let ns : List ℕ = numbers_of s j.line in
      let made : ℕ = (left_in s j).endpoints_given in
      let lines_sent = sent-told ns j.entries (λ q. subst (AreOn ns q) (sym (on.0.told.puts q)) (run_on made ns (neighbours_differ s board j.line) q (opened s j) (deeds_of s j) on.0.told.run.may (omega arith) (sound_opening made anything d j.line.nodes (neighbours s j.line)))) in
      sym (count-every (accepted_in s j))
      ∙ (journal-accepted s js board run any j on
      ∙ (total-same (λ n. passing any d n (put_to n j.entries)) (λ n. count_by carries_message (put_to n j.entries)) (λ n. said_frames d n None (put_to n j.entries) (journal_closed s js board run j on.0 n).smooth) ns
      ∙ sym lines_sent))

  journal_brought : (j : DomainJournal) → On j → brought s js board run any j ≡ came j
  journal_brought j on = brought-deeds j.line.domain (opened s j) (deeds_of s j) on.0.told.run.may (never-stray (opened s j) [] (deeds_of s j) (kept_along s js board run j on.0 on.1 [] (deeds_of s j) refl on.0.told.run.may)) ∙ brought-told (script s j.line.domain) [] (start s j.line) j.entries

  journal_lost : (j : DomainJournal) → On j → length (dropped_in s j) ≡ lost s j
  journal_lost j on =
      sym (count-every (dropped_in s j)) ∙ (lost-deeds j.line.domain (opened s j) (deeds_of s j) (run_queues j.line.domain j.line.nodes (neighbours s j.line) (deeds_of s j) on.0.told.run on.0.deeds.few) on.0.told.run.may ∙ lost-told (script s j.line.domain) [] (start s j.line) j.entries (allowed j on))

  journal_queued : (j : DomainJournal) → On j → length (queued_in s j) ≡ length (filter is_message_item (queued_items (left_by s j.line j.entries).state))
  journal_queued j on = queued_each j.line.domain (left_in s j).endpoints ∙ ap (λ (t : DomainState). length (filter is_message_item (queued_items t))) (sym on.0.told.state)

  each : (f g : DomainJournal → ℕ) → ((j : DomainJournal) → On j → f j ≡ g j) → total f js ≡ total g js
  each f g same = total-each f g js (all-weaken On (λ j. f j ≡ g j) same js (all_placed s js board run))

  pub numbers-told : NumbersTold s js
  numbers-told =
      let accepts : length (accepted s js) ≡ total sent js = length-joined (accepted_in s) js ∙ each (λ j. length (accepted_in s j)) sent journal_sent in
      let brings : total (brought s js board run any) js ≡ total came js = each (brought s js board run any) came journal_brought in
      let parts = accepted-parts s js board run any in
      record {
        accepts = accepts;
        drops_some = length-joined (dropped_in s) js ∙ each (λ j. length (dropped_in s j)) (lost s) journal_lost;
        in_ring = omega (arith, accepts, brings, parts, count-every (accepted s js), count-every (messages_in_ring s js));
        takes_rest = omega (arith, no-message-lost s js board run any, count-every (accepted s js), count-every (messages_taken s js), count-every (dropped s js), count-every (messages_queued s js), count-every (messages_in_ring s js));
        queues = length-joined (queued_in s) js ∙ each (λ j. length (queued_in s j)) (λ j. length (filter is_message_item (queued_items (left_by s j.line j.entries).state))) journal_queued;
        brings = omega (arith, accepts, brings, parts, count-every (accepted s js));
      }
