-- On a board of linked domains each message that a log received is one that some log sent to its domain.
use Rattle.std.proofs.Common.{◌≡◌, ℕ, Bool, true, List, length, take, filter, find, Option, Some, None, Contains, refl, sym, ap, ◌∙◌, subst, arith}
use Rattle.std.specs.Prelude.{◌==◌, ◌&&◌, bytes_eq}
use Rattle.std.specs.List.{AllByRecursion}
use Rattle.std.proofs.lemmas.Bool.{eqb-true, eq-eqb, and_parts}
use Rattle.std.proofs.lemmas.Slice.Eq.{bytes_eq-Decides}
use Rattle.board_model.specs.declared.scenario.Scenario.{Scenario}
use Rattle.board_model.specs.Scenario.{neighbours}
use Rattle.board_model.specs.LinkedBoard.{IsLinkedBoard}
use Rattle.board_model.specs.Messages.{Message, accepted_by, accepted_in, accepted}
use Rattle.board_model.specs.Takings.{is_message_taking, taken_message, takings_by, takings_in, taken_in, messages_taken}
use Rattle.board_model.specs.Run.{IsDomainRun}
use Rattle.board_model.specs.Board.{DomainJournal, IsBoardRun}
use Rattle.board_model.specs.JournalDeeds.{deeds_of, opened}
use Rattle.board_model.specs.Logs.{log_of}
use Rattle.board_model.proofs.HonestBoard.{IsFound, each_found}
use Rattle.board_model.proofs.KeptBoard.{no-message-lost}
use Rattle.board_model.proofs.MessageAlls.{all-found, all-weaken, all-with, found-passes}
use Rattle.board_model.proofs.OrderLaws.{AllQueues, run_queues}
use Rattle.board_model.proofs.OrderRuns.{few}
use Rattle.board_model.proofs.RunDeeds.{deeds_run}
use Rattle.board_model.proofs.WholeHas.{Has, has-weaken, has-gives, has-map, has-joined}
use Rattle.call_logs.specs.LogMessages.{MessageReceived, messages_sent, messages_received}
use Rattle.call_logs.specs.MessageDeeds.{sent_in, received_in, log_in, log_at, WasSent}
use Rattle.call_logs.proofs.ListsHad.{contained_has, has_in, has_one, has_filtered, has_at, has_counted, counted_has, each_has}
use Rattle.call_logs.proofs.LogsCollected.{has_messages}
use Rattle.call_logs.proofs.TakenBy.{IsTaken, IsSent, received_are_taken, accepted_are_sent}

-- ---- of one domain

-- a message that was taken, and of which this was returned
record IsReceived (d : ℕ) (m : MessageReceived) (x : Message) : Type 0 where
  here : x.receiver ≡ d
  whole : m.size ≡ length x.content
  first : m.bytes ≡ take m.max x.content

module _ (s : Scenario) (j : DomainJournal) (board : IsLinkedBoard s) (run : IsDomainRun s j.line j.entries) where
  queues : AllQueues (opened s j) (deeds_of s j)
  queues = run_queues j.line.domain j.line.nodes (neighbours s j.line) (deeds_of s j) (deeds_run s j board run) (few s j board run)

  as_message : (m : MessageReceived) → Has (IsTaken m) (takings_in s j) → Has (IsReceived j.line.domain m) (taken_in s j)
  as_message m h =
      has-map (IsReceived j.line.domain m) (taken_message j.line.domain) (filter is_message_taking (takings_in s j))
      (has_filtered (λ t. IsReceived j.line.domain m (taken_message j.line.domain t)) is_message_taking (takings_in s j)
      (has-weaken (IsTaken m) (λ t. IsReceived j.line.domain m (taken_message j.line.domain t) × (is_message_taking t ≡ true))
      (λ t is. (record { here = refl; whole = is.gives.whole; first = is.gives.first }, is.message)) (takings_in s j) h))

  log_received : AllByRecursion (λ m. Has (IsReceived j.line.domain m) (taken_in s j)) (messages_received (log_of s j))
  log_received =
      subst (AllByRecursion (λ m. Has (IsReceived j.line.domain m) (taken_in s j))) (has_messages s j run).receives
      (all-weaken (λ m. Has (IsTaken m) (takings_in s j)) (λ m. Has (IsReceived j.line.domain m) (taken_in s j)) as_message _
      (each_has IsTaken received_in takings_by received_are_taken (opened s j) (deeds_of s j) (deeds_run s j board run).may queues))

  log_sent : AllByRecursion (λ x. Has (IsSent x) (messages_sent (log_of s j))) (accepted_in s j)
  log_sent =
      subst (λ ms. AllByRecursion (λ x. Has (IsSent x) ms) (accepted_in s j)) (has_messages s j run).sends
      (each_has IsSent (accepted_by j.line.domain) sent_in (λ t e may sound. accepted_are_sent j.line.domain t e) (opened s j) (deeds_of s j) (deeds_run s j board run).may queues)

-- ---- of a board

abbrev is_like : Message → Message → Bool
is_like x y = y.receiver == x.receiver && bytes_eq y.content x.content

like_self : (x : Message) → is_like x x ≡ true
like_self x = rw (eq-eqb x.receiver x.receiver refl, (bytes_eq-Decides x.content x.content).1 refl) refl

module _ (s : Scenario) (js : List DomainJournal) (board : IsLinkedBoard s) (run : IsBoardRun s js) where
  -- a message that was taken was accepted
  accepted_like : (x : Message) → Has (λ y. y ≡ x) (messages_taken s js) → Has (λ y. is_like x y ≡ true) (accepted s js)
  accepted_like x h =
      counted_has (is_like x) (accepted s js)
      (omega (
        arith,
        has_counted (is_like x) (messages_taken s js) (has-weaken (λ y. y ≡ x) (λ y. is_like x y ≡ true) (λ y is. subst (λ z. is_like x z ≡ true) (sym is) (like_self x)) (messages_taken s js) h),
        no-message-lost s js board run (is_like x),
      ))

  module _ (d : ℕ) (m : MessageReceived) (x : Message) (is : IsReceived d m x) where
    by_sent : (j : DomainJournal) → IsFound js j → Has (IsSent x) (messages_sent (log_of s j)) → WasSent s js d m
    by_sent j found h =
        let one = has_one (IsSent x) (messages_sent (log_of s j)) h in
        record {
          sender = j.line.domain;
          sent = one.0;
          is_sent = subst (λ o. Contains (messages_sent (log_in s o)) one.0) (sym found) one.1;
          reaches = one.2.reaches ∙ is.here;
          whole = is.whole ∙ ap length (sym one.2.content);
          first = is.first ∙ ap (take m.max) (sym one.2.content);
        }

    by_accepted : (j : DomainJournal) → IsDomainRun s j.line j.entries × IsFound js j → Has (λ y. is_like x y ≡ true) (accepted_in s j) → WasSent s js d m
    by_accepted j known h = by_sent j known.1 (has-gives (λ y. Has (IsSent y) (messages_sent (log_of s j))) (λ y. is_like x y ≡ true) (Has (IsSent x) (messages_sent (log_of s j))) same (accepted_in s j) (log_sent s j board known.0) h)
      where
        same : (y : Message) → Has (IsSent y) (messages_sent (log_of s j)) → is_like x y ≡ true → Has (IsSent x) (messages_sent (log_of s j))
        same y sent like =
            let parts = and_parts (y.receiver == x.receiver) (bytes_eq y.content x.content) like in
            has-weaken (IsSent y) (IsSent x) (λ k to. record { reaches = to.reaches ∙ eqb-true y.receiver x.receiver parts.0; content = to.content ∙ (bytes_eq-Decides y.content x.content).0 parts.1 }) (messages_sent (log_of s j)) sent

    by_taken : Has (λ y. y ≡ x) (messages_taken s js) → WasSent s js d m
    by_taken h =
        has-gives (λ j. IsDomainRun s j.line j.entries × IsFound js j) (λ j. Has (λ y. is_like x y ≡ true) (accepted_in s j)) (WasSent s js d m) by_accepted js
        (all-with (λ j. IsDomainRun s j.line j.entries) (IsFound js) (λ j. IsDomainRun s j.line j.entries × IsFound js j) (λ j a b. (a, b)) js run.domain_runs (each_found s js board run))
        (has_in (λ y. is_like x y ≡ true) (accepted_in s) js (accepted_like x h))

  -- a journal of the board, and the number of its domain
  module _ (d : ℕ) (j : DomainJournal) (found : find (λ k. k.line.domain == d) js ≡ Some j) where
    number_is : j.line.domain ≡ d
    number_is = eqb-true j.line.domain d (found-passes (λ k. k.line.domain == d) js j found)

    one : (m : MessageReceived) → Has (IsReceived j.line.domain m) (taken_in s j) → WasSent s js d m
    one m h =
        let x = has_one (IsReceived j.line.domain m) (taken_in s j) h in
        by_taken d m x.0 (record { here = x.2.here ∙ number_is; whole = x.2.whole; first = x.2.first })
        (has-joined (λ y. y ≡ x.0) (taken_in s) js (has_at (λ k. Has (λ y. y ≡ x.0) (taken_in s k)) (λ k. k.line.domain == d) js j found (contained_has x.0 (taken_in s j) x.1)))

    all_sent : AllByRecursion (WasSent s js d) (messages_received (log_of s j))
    all_sent =
        all-weaken (λ m. Has (IsReceived j.line.domain m) (taken_in s j)) (WasSent s js d) one (messages_received (log_of s j))
        (log_received s j board (all-found (λ k. IsDomainRun s k.line k.entries) (λ k. k.line.domain == d) js j run.domain_runs found))

  pub was_sent : (d : ℕ) → AllByRecursion (WasSent s js d) (messages_received (log_at s js d))
  was_sent d = go (find (λ j. j.line.domain == d) js) refl
    where
      go : (o : Option DomainJournal) → find (λ j. j.line.domain == d) js ≡ o → AllByRecursion (WasSent s js d) (messages_received (log_in s o))
      go None found = tt
      go (Some j) found = all_sent d j found
