use Rattle.std.proofs.Common.{[], refl, sym, subst, ◌∙◌}
use Rattle.std.specs.List.{flat_map}
use Rattle.board_model.specs.Journal.{visit_lines}
use Rattle.report_text.specs.StepPass.{due_visits, idle_visits}
use Rattle.report_check.specs.Meeting.{LinesLeft, Meets}
use Rattle.report_check.specs.NamedStates.{GoesOn, plain, turn_deeds}
use Rattle.report_check.proofs.IdleTurns.{none-met, idle-due}
use Rattle.report_check.proofs.run.Run.is_idle.Goals as goal

pub turn-requires : goal.turn-requires
turn-requires c = record { peers = c.requires.peers; room = c.told_idle-told.ensures.short _ }

pub returns-clause-idle : goal.returns-clause-idle
returns-clause-idle c =
    let state = plain c.args.self.now.state in
    let peers = c.args.peers.now in
    let met = (c.in_ok-is.ensures [] c.told_idle-told.ensures.told c.requires.known).lines in
    let met-none = subst (λ (l : LinesLeft). Meets l c.turn.new.lines (flat_map visit_lines (due_visits state (idle_visits peers))) c.in_ok-is.is') c.new-lines.ensures met in
    none-met [] c.turn.new.lines (flat_map visit_lines (due_visits state (idle_visits peers))) c.in_ok-is.is' refl met-none

pub returns-clause-deeds : goal.returns-clause-deeds
returns-clause-deeds c is =
    let state = plain c.args.self.now.state in
    let peers = c.args.peers.now in
    let none = sym (returns-clause-idle c) ∙ is in
    subst (λ vs. GoesOn c.args.self.now.state c.turn.new.state (turn_deeds vs)) (idle-due state peers none) ((c.in_ok-is.ensures [] c.told_idle-told.ensures.told c.requires.known).state is)
