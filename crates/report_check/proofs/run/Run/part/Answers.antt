use Rattle.std.proofs.Common.{◌∷◌, map, take, ap, ◌∙◌}
use Rattle.board_model.specs.Journal.{turn_line}
use Rattle.board_model.specs.Unjoined.{visit_in}
use Rattle.report_text.specs.JournalRead.{lines_of_texts}
use Rattle.report_text.specs.StepPass.{due_lines, other_than}
use Rattle.report_text.specs.TextLines.{lines_in}
use Rattle.report_check.specs.Meeting.{LinesLeft}
use Rattle.report_check.specs.Runs.{script_of}
use Rattle.report_check.proofs.PartHeads.{if-ok, on-ok, try-word, try-leads, turn-place-is, turn-leads, wait-number, wait-leads, call-number, call-answer, call-leads}
use Rattle.report_check.proofs.run.Run.part.Goals as goal

pub returns-in-Again-clause-run : goal.returns-in-Again-clause-run
returns-in-Again-clause-run g c p heads =
    let texts = take c.args.part.lines (lines_in c.args.text.text.now) in
    let script = script_of c.args.self.now in
    on-ok _ _ c.tries.result
    (λ place at none. try-leads c.args.peers.now script g.r (lines_of_texts texts) texts c.args.self.now c.tries.new.self p c.args.part.head heads c.in-Again.is at)
    (c.tries.ensures.run (try-word c.args.peers.now script g.r (lines_of_texts texts) texts c.args.self.now c.tries.new.self p c.args.part.head heads c.in-Again.is))

pub returns-in-Turn-clause-place : goal.returns-in-Turn-clause-place
returns-in-Turn-clause-place g c p heads =
    let texts = take c.args.part.lines (lines_in c.args.text.text.now) in
    let ls = lines_of_texts texts in
    if-ok _ _ c.turns.result
    (λ place e. turn-place-is c.args.peers.now (script_of c.args.self.now) g.r ls texts c.args.self.now c.turns.new.self p c.args.part.head heads c.in-Turn.is place (e ∙ ap (λ (l : LinesLeft). other_than (turn_line ∷ due_lines g.r (map (visit_in ls) c.args.peers.now)) l.texts) c.new-lines.ensures))
    (c.turns.ensures.place ls c.read_told-told.ensures.told)

pub returns-in-Turn-clause-run : goal.returns-in-Turn-clause-run
returns-in-Turn-clause-run g c p heads =
    let texts = take c.args.part.lines (lines_in c.args.text.text.now) in
    let ls = lines_of_texts texts in
    if-ok _ _ c.turns.result
    (λ place at none. turn-leads c.args.peers.now (script_of c.args.self.now) g.r ls texts c.args.self.now c.turns.new.self p c.args.part.head heads c.in-Turn.is (at none))
    (c.turns.ensures.run ls c.read_told-told.ensures.told)

pub returns-in-Wait-clause-run : goal.returns-in-Wait-clause-run
returns-in-Wait-clause-run g c p heads =
    let texts = take c.args.part.lines (lines_in c.args.text.text.now) in
    let script = script_of c.args.self.now in
    on-ok _ _ c.waits.result
    (λ place at none. wait-leads c.args.peers.now script g.r (lines_of_texts texts) texts c.args.self.now c.waits.new.self p c.args.part.head heads c.in-Wait.is at)
    (c.waits.ensures.run (wait-number c.args.peers.now script g.r (lines_of_texts texts) texts c.args.self.now c.waits.new.self p c.args.part.head heads c.in-Wait.is))

pub returns-clause-run : goal.returns-clause-run
returns-clause-run g c p heads =
    let texts = take c.args.part.lines (lines_in c.args.text.text.now) in
    let script = script_of c.args.self.now in
    let number = call-number c.args.peers.now script g.r (lines_of_texts texts) texts c.args.self.now c.calls.new.self p c.args.part.head heads c.in-Call.is in
    let answer = call-answer c.args.peers.now script g.r (lines_of_texts texts) texts c.args.self.now c.calls.new.self p c.args.part.head heads c.in-Call.is in
    if-ok _ _ c.calls.result
    (λ place at none. call-leads c.args.peers.now script g.r (lines_of_texts texts) texts c.args.self.now c.calls.new.self p c.args.part.head heads c.in-Call.is (at none))
    (c.calls.ensures.run number answer)
