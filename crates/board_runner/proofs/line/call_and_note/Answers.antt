use Rattle.std.proofs.Common.{rules, sym, subst}
use Rattle.board_runner.specs.Carried.{StayCarriedWhere}
use Rattle.board_runner.specs.Near.{RunDomain}
use Rattle.board_runner.proofs.QuietLemmas.{idle-where, quiet-where}
use Rattle.board_runner.proofs.line.call_and_note.Goals as goal

pub returns-in_ok-note_again-in-Some-clause-tries : goal.returns-in_ok-note_again-in-Some-clause-tries
returns-in_ok-note_again-in-Some-clause-tries c = record {
  made = c.in_ok-made.made;
  called_to = c.call_line.new.station;
  makes = c.in_ok-made.ensures;
  again_is = search rules;
  notes = search rules;
  idle = idle-where c.args.line.now c.args.station.now c.call_line.new.station c.in_ok-made.made c.is_quiet-is_quiet.result c.in_ok-made.ensures c.is_quiet-is_quiet.ensures;
}

pub returns-in_ok-note_called-in_default-clause-tries : goal.returns-in_ok-note_called-in_default-clause-tries
returns-in_ok-note_called-in_default-clause-tries c = record {
  made = c.in_ok-made.made;
  called_to = c.call_line.new.station;
  makes = c.in_ok-made.ensures;
  again_is = search rules;
  notes = search rules;
  idle = idle-where c.args.line.now c.args.station.now c.call_line.new.station c.in_ok-made.made c.is_quiet-is_quiet.result c.in_ok-made.ensures c.is_quiet-is_quiet.ensures;
}

pub returns-in_ok-note_again-in-Some-clause-quiet : goal.returns-in_ok-note_again-in-Some-clause-quiet
returns-in_ok-note_again-in-Some-clause-quiet c = quiet-where c.args.line.now c.args.station.now c.call_line.new.station c.in_ok-made.made c.is_quiet-is_quiet.result c.in_ok-made.ensures c.is_quiet-is_quiet.ensures

-- noting the answer leaves the domain as it is
pub returns-in_ok-note_called-in_default-clause-quiet : goal.returns-in_ok-note_called-in_default-clause-quiet
returns-in_ok-note_called-in_default-clause-quiet c =
    subst (λ (d : RunDomain). StayCarriedWhere c.is_quiet-is_quiet.result c.args.station.now.domain.ends d.ends) (sym c.in_ok-note_called-in_default.ensures.domain)
    (quiet-where c.args.line.now c.args.station.now c.call_line.new.station c.in_ok-made.made c.is_quiet-is_quiet.result c.in_ok-made.ensures c.is_quiet-is_quiet.ensures)
