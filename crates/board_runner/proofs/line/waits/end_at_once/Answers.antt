use Rattle.std.proofs.Common.{ap, ◌∙◌, sym, arith, refl}
use Rattle.std.specs.Prelude.{not}
use Rattle.mc_journal.specs.Entry.{plain_answer}
use Rattle.board_runner.proofs.WaitLemmas.{wait-drops}
use Rattle.board_runner.proofs.line.waits.end_at_once.Goals as goal

pub note_called-requires-clause-count : goal.note_called-requires-clause-count
note_called-requires-clause-count c = let kept = c.in_ok-made.ensures in omega (arith, c.requires.count, kept.number)

pub note_called-requires-clause-drops : goal.note_called-requires-clause-drops
note_called-requires-clause-drops c = let kept = c.in_ok-made.ensures in omega (arith, c.requires.drops, kept.number, kept.dropped)

pub note_called-requires-clause-bytes_fit : goal.note_called-requires-clause-bytes_fit
note_called-requires-clause-bytes_fit c = c.in_ok-made.ensures.made.bytes_fit

pub note_called-requires-clause-drops_fit : goal.note_called-requires-clause-drops_fit
note_called-requires-clause-drops_fit c = let none = wait-drops c.args.line.now.call (plain_answer c.in_ok-made.made.answer) c.requires.waits in omega (arith, none)

pub returns-then-has_timed_out : goal.returns-then-has_timed_out
returns-then-has_timed_out c = record {
  made = c.in_ok-made.made;
  waited_to = c.wait_for.new.station;
  waits = c.in_ok-made.ensures;
  ends = ap not (sym c.if-has_timed_out.true ∙ c.has_timed_out.ensures);
  notes = refl;
}

pub returns : goal.returns
returns c = record {
  made = c.in_ok-made.made;
  waited_to = c.wait_for.new.station;
  waits = c.in_ok-made.ensures;
  ends = ap not (sym c.if-has_timed_out.false ∙ c.has_timed_out.ensures);
  notes = c.in_ok-note_called.ensures;
}
