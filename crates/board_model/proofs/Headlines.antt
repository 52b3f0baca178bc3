-- The headline, from its parts.
use Rattle.std.proofs.Common.{List}
use Rattle.std.specs.List.{AllByRecursion}
use Rattle.board_model.specs.declared.scenario.Scenario.{Scenario}
use Rattle.board_model.specs.LinkedBoard.{IsLinkedBoard}
use Rattle.board_model.specs.Run.{IsDomainRun}
use Rattle.board_model.specs.Board.{DomainJournal, IsBoardRun}
use Rattle.board_model.specs.Channels.{items_left}
use Rattle.board_model.specs.MessageOrder.{ReceivesBest, TestsTellTaken, DeletesTellDropped, AvailableTellQueued, CancelledTookNothing}
use Rattle.board_model.specs.Replied.{TestsTellSaid}
use Rattle.board_model.specs.Headline.{Headline}
use Rattle.board_model.proofs.ChannelLaw.{every-channel-is-kept, closes-tell-dropped}
use Rattle.board_model.proofs.KeptBoard.{no-message-lost}
use Rattle.board_model.proofs.MessageAlls.{all-weaken}
use Rattle.board_model.proofs.OrderRuns.{receives_best, tests_tell_taken, deletes_tell_dropped, available_tell_queued, cancelled_took_nothing}
use Rattle.board_model.proofs.NamesHad.{lookups_tell_had}
use Rattle.board_model.proofs.PlaceCounts.{every_lane}
use Rattle.board_model.proofs.RepliedRuns.{tests_tell_said}

pub linked_headline : (s : Scenario) (js : List DomainJournal) → IsLinkedBoard s → IsBoardRun s js → Headline s js
linked_headline s js board run =
    let each : (P : DomainJournal → Type 0) → ((j : DomainJournal) → IsDomainRun s j.line j.entries → P j) → AllByRecursion P js = λ P law. all-weaken (λ j. IsDomainRun s j.line j.entries) P law js run.domain_runs in
    record {
      channel_prefix = λ sender channel. (items_left s js sender channel, (every-channel-is-kept s js board run sender channel).kept);
      best_first = each (ReceivesBest s) (λ j is. receives_best s j board is);
      tests_tell_taken = each (TestsTellTaken s) (λ j is. tests_tell_taken s j board is);
      tests_tell_said = each (TestsTellSaid s) (λ j is. tests_tell_said s j board is);
      lookups_tell_had = lookups_tell_had s js board run;
      available_tell_queued = each (AvailableTellQueued s) (λ j is. available_tell_queued s j board is);
      deletes_tell_dropped = each (DeletesTellDropped s) (λ j is. deletes_tell_dropped s j board is);
      cancelled_nothing = each (CancelledTookNothing s) (λ j is. cancelled_took_nothing s j board is);
      closes_tell_dropped = closes-tell-dropped s js board run;
      items_kept = λ sender channel. (every-channel-is-kept s js board run sender channel).kept;
      items_arrive = λ sender channel. (every-channel-is-kept s js board run sender channel).arrive;
      dropped_or_queued = λ sender channel. (every-channel-is-kept s js board run sender channel).dropped_or_queued;
      messages_kept = no-message-lost s js board run;
      buffers_kept = every_lane s js board run;
    }
