use Rattle.std.proofs.Common.{arith}
use Rattle.mc_journal.specs.Entry.{line_of_entry}
use Rattle.report_totals.proofs.CountedLemmas.{counts-same, deleted-same, items-same}
use Rattle.report_totals.proofs.CountingLemmas.{one-counted, all-counted}
use Rattle.report_totals.proofs.counting.count_entries.Goals as goal

pub loop-entry-preserved : goal.loop-entry-preserved
loop-entry-preserved c =
    let i = c.loop-entry.invariant in
    record {
      counted = one-counted c.args.own c.args.deletes.now c.args.text.now c.loop-entry.rest.now c.in-Some.after.now c.args.all.now c.loop-entry.all c.count_items-closing.new.all c.loop-entry.counts c.count_entry.new.self
          c.loop-entry.deleted c.deleted_by.result c.saturating_add-deleted.result c.loop-entry.closing c.count_items-closing.result (line_of_entry c.in-Some.entry)
          i.counted c.in-Some.ensures.lines c.in-Some.ensures.shorter c.count_entry.ensures c.deleted_by.ensures (omega (arith, c.saturating_add-deleted.ensures)) c.count_items-closing.ensures.counted c.count_items-closing.ensures.closes;
      fits = omega (arith, i.fits, c.in-Some.ensures.fits);
    }

pub returns-clause-counts : goal.returns-clause-counts
returns-clause-counts c lines is =
    let h = c.loop-entry.invariant.counted in
    counts-same h.lines lines (all-counted c.args.own c.args.deletes.now c.args.text.now c.loop-entry.rest.now c.args.all.now c.loop-entry.all c.loop-entry.counts c.loop-entry.deleted c.loop-entry.closing h c.in_default.ensures.lines lines is) c.loop-entry.counts h.counted

pub returns-clause-deleted : goal.returns-clause-deleted
returns-clause-deleted c lines is =
    let h = c.loop-entry.invariant.counted in
    deleted-same h.lines lines (all-counted c.args.own c.args.deletes.now c.args.text.now c.loop-entry.rest.now c.args.all.now c.loop-entry.all c.loop-entry.counts c.loop-entry.deleted c.loop-entry.closing h c.in_default.ensures.lines lines is) c.args.deletes.now c.loop-entry.deleted h.dropped

pub returns-clause-items : goal.returns-clause-items
returns-clause-items c lines is =
    let h = c.loop-entry.invariant.counted in
    items-same h.lines lines (all-counted c.args.own c.args.deletes.now c.args.text.now c.loop-entry.rest.now c.args.all.now c.loop-entry.all c.loop-entry.counts c.loop-entry.deleted c.loop-entry.closing h c.in_default.ensures.lines lines is) c.args.own c.args.all.now c.loop-entry.all h.items
