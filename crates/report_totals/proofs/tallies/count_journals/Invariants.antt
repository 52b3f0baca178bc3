use Rattle.std.proofs.Common.{map, take}
use Rattle.board_numbers.specs.ItemCounts.{EachWith, IsCountedBy}
use Rattle.board_numbers.proofs.EachLemmas.{EachSoFar}
use Rattle.report_totals.specs.EndedJournals.{ended_by}
use Rattle.report_totals.specs.JournalTallies.{TellsTally}
use Rattle.report_totals.proofs.tallies.count_journals.Given as goal

abbrev pub invariant-loop-domain : goal.invariant-loop-domain
invariant-loop-domain l = record {
  items : EachWith (IsCountedBy (map ended_by l.domains) (take l.domain-index (map ended_by l.domains))) (map ended_by l.domains) l.items.items;
  tallies : EachSoFar TellsTally l.domain-index l.domains l.tallies.items;
}
