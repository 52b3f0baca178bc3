use Rattle.std.proofs.Common.{◌≡◌, ◌≤◌, ◌++◌, length}
use Rattle.std.specs.List.{flat_map}
use Rattle.board_model.proofs.StateEnds.{Ends}
use Rattle.report_text.specs.Texts.{longest_line}
use Rattle.report_events.specs.Events.{event_happenings, text_happenings}
use Rattle.report_events.proofs.events.add_journal.Given as goal

abbrev pub decreases-loop-entry : goal.decreases-loop-entry
decreases-loop-entry l = length l.rest

abbrev pub invariant-loop-entry : goal.invariant-loop-entry
invariant-loop-entry l = record {
  state : Ends l.replay.state;
  fits : longest_line l.rest ≤ length l.room;
  all : flat_map event_happenings l.events.items ++ text_happenings l.reading.domain.now.journal.domain l.rest
      ≡ flat_map event_happenings l.initial.events.items ++ text_happenings l.reading.domain.now.journal.domain l.reading.domain.now.journal.text.now;
}
