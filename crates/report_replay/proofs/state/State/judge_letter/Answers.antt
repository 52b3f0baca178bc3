use Rattle.std.proofs.Common.{ap, sym, subst, ◌∙◌}
use Rattle.mc_base.specs.Letter.{connect, msg, plain_letter, saying_of}
use Rattle.mc_base.specs.Reading.{says_so}
use Rattle.board_model.specs.TakenFrames.{first_row, row_of}
use Rattle.report_replay.specs.Ends.{came_in, item_by}
use Rattle.report_replay.specs.Verdicts.{Follows, Judges, known_of}
use Rattle.report_replay.proofs.Letters.{Others, is-whole, to-a-message, to-an-end, whole-row}
use Rattle.report_replay.proofs.state.State.judge_letter.Goals as goal

pub returns-in-Connect : goal.returns-in-Connect
returns-in-Connect c = λ names.
    let s = c.args.self.now in
    let w = c.args.way in
    subst (λ l. Follows w.peer (known_of s w.peer) (item_by w names (plain_letter l)) (row_of s w.peer (came_in names) (says_so w.source w.destination (saying_of l))) c.judge_connect.result) (sym c.in-Connect.is)
    (c.judge_connect.ensures (item_by w names (connect c.in-Connect.channel c.in-Connect.kind)))

pub returns-in-Msg : goal.returns-in-Msg
returns-in-Msg c = λ names.
    let s = c.args.self.now in
    let w = c.args.way in
    let known = known_of s w.peer in
    let item = item_by w names (msg c.in-Msg.priority c.in-Msg.bytes.now) in
    subst (λ l. Judges w.peer known (item_by w names (plain_letter l)) (row_of s w.peer (came_in names) (says_so w.source w.destination (saying_of l))) c.judge_message.result) (sym c.in-Msg.is)
    (subst (λ rs. Judges w.peer known item (first_row rs) c.judge_message.result) (to-a-message s w names c.in-Msg.priority c.in-Msg.bytes.now) (c.judge_message.ensures item))

pub returns-in_default : goal.returns-in_default
returns-in_default c = λ names.
    let s = c.args.self.now in
    let w = c.args.way in
    let l = c.args.letter.now in
    let item = item_by w names (plain_letter l) in
    let others : Others s w l = (c.in_default.not-Connect, c.in_default.not-Msg, c.in_default.not-MsgPart, c.in_default.not-PacketPart) in
    subst (λ r. Judges w.peer (known_of s w.peer) item r c.judge_at_end.result) (ap first_row (to-an-end s w names l others) ∙ sym (whole-row s w names l (is-whole s w l others))) (c.judge_at_end.ensures item)
