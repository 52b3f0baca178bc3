use Rattle.std.proofs.Common.{ap, sym, subst, ◌∙◌, option_map}
use Rattle.board_model.specs.Answer.{refusal}
use Rattle.board_model.specs.Labels.{call_of}
use Rattle.board_model.specs.Unnamed.{no_names, unnamed}
use Rattle.report_replay.specs.Puts.{FitsFrame}
use Rattle.report_check.proofs.NamedCalls.{call-named}
use Rattle.report_check.specs.Runs.{FitsLine, script_of}
use Rattle.report_check.proofs.FitLines.{fits-call}
use Rattle.board_model.proofs.RenamedCalls.{refusal-renamed}
use Rattle.board_model.proofs.MessageAlls.{all-at}
use Rattle.report_check.proofs.run.Run.next_call.Goals as goal

pub returns-clause-call : goal.returns-clause-call
returns-clause-call g c =
    let s = c.args.self.now.state.state in
    let line = c.in_ok-line.line.now in
    let call = c.call_of-call.ensures g.ls c.requires ∙ sym (call-named g.ls s line.call) in
    record { call = call; refusal = c.refusal-refusal.ensures ∙ (ap (refusal s line.node) call ∙ sym (refusal-renamed no_names s line.node (call_of g.ls (unnamed s) line.call))) }

pub returns-clause-fits : goal.returns-clause-fits
returns-clause-fits g c fits =
    let line = c.in_ok-line.line.now in
    let at = sym c.next_line.ensures ∙ ap (option_map _) c.in_ok-line.was in
    subst FitsFrame (sym (c.call_of-call.ensures g.ls c.requires)) (fits-call g.ls c.args.self.now.state.state line.call (all-at (λ l. FitsLine l.call) (script_of c.args.self.now) c.args.self.now.called line fits at))
