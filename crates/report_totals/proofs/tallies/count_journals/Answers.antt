use Rattle.std.proofs.Common.{◌+◌, List, map, sym, subst, take}
use Rattle.board_numbers.specs.declared.items.ItemCounts.{ItemCounts}
use Rattle.board_numbers.specs.ItemCounts.{CountsLines, EachWith, IsCountedBy}
use Rattle.board_numbers.proofs.EachLemmas.{EachSoFar, each-then, mapped-read, mapped-within, so-far-more, written-back}
use Rattle.board_numbers.proofs.ItemCountLemmas.{counted-more}
use Rattle.report_totals.specs.EndedJournals.{ended_by}
use Rattle.report_totals.specs.JournalTallies.{TellsTally}
use Rattle.report_totals.proofs.tallies.count_journals.Goals as goal

pub loop-domain-preserved : goal.loop-domain-preserved
loop-domain-preserved c =
    let ds = c.args.domains.now in
    let es = map ended_by ds in
    let i = c.loop-domain.domain-index in
    let d = c.domain-item.result in
    let within = c.loop-domain-test.true in
    let old = c.loop-domain.items.items in
    let new = c.tally_of.new.items in
    let counts = CountsLines (ended_by d).number (ended_by d).lines in
    let counted : EachWith counts old new = subst (λ (xs : List ItemCounts). EachWith counts xs new) c.deref_mut.ensures.value c.in_ok-tally.ensures.items in
    record {
      items =
          subst (EachWith (IsCountedBy es (take (i + 1) es)) es) (sym (written-back c.loop-domain.items.len c.deref_mut.result.now old new (sym c.deref_mut.ensures.len) c.deref_mut.ensures.value counted.many))
          (each-then (IsCountedBy es (take i es)) counts (IsCountedBy es (take (i + 1) es)) (counted-more es i (ended_by d) (mapped-within ended_by ds i within) (mapped-read ended_by ds i d within c.domain-item.is)) es old new c.loop-domain.invariant.items counted);
      tallies =
          subst (EachSoFar TellsTally (i + 1) ds) (sym c.in_ok-append.ensures)
          (so-far-more TellsTally i ds c.loop-domain.tallies.items d c.in_ok-tally.tally within c.domain-item.is c.in_ok-tally.ensures.tally c.loop-domain.invariant.tallies);
    }
