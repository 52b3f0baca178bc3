use Rattle.std.proofs.Common.{subst, sym, ◌∙◌, ◌≡◌}
use Rattle.std.specs.Prelude.{Ok}
use Rattle.scenario_lang.specs.Reading.{Answers, call_line_in}
use Rattle.scenario_lang.specs.Parts.{read_parts}
use Rattle.scenario_lang.proofs.LabelledLines.{line_label, line_right}
use Rattle.scenario_lang.proofs.above.Above.tell_call.Goals as goal

pub add-requires-clause-label : goal.add-requires-clause-label
add-requires-clause-label c =
    let read : call_line_in (read_parts c.in_ok-parts.parts) ≡ Ok c.in_ok-line.line = subst (λ r. Answers (λ line. line) r (call_line_in (read_parts c.in_ok-parts.parts))) c.in_ok-line.was c.call_line.ensures in
    line_label (read_parts c.in_ok-parts.parts) c.in_ok-line.line read

pub add-requires-clause-gives : goal.add-requires-clause-gives
add-requires-clause-gives c =
    let read : call_line_in (read_parts c.in_ok-parts.parts) ≡ Ok c.in_ok-line.line = subst (λ r. Answers (λ line. line) r (call_line_in (read_parts c.in_ok-parts.parts))) c.in_ok-line.was c.call_line.ensures in
    line_right c.args.self.now.told (read_parts c.in_ok-parts.parts) c.in_ok-line.line read (rw c.row_of-row.ensures.labelled at (sym c.is_told_wrong.ensures ∙ c.if-is_told_wrong.false))
