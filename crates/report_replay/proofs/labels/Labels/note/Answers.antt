use Rattle.std.proofs.Common.{◌∙◌, ℕ, option_map, ap, sym}
use Rattle.arrayvec.specs.ArrayVec.{ArrayVec}
use Rattle.board_model.specs.Scenario.{label_in}
use Rattle.board_model.specs.Labels.{call_of, success_packet, success_request}
use Rattle.report_replay.specs.PlainCalls.{plain_call}
use Rattle.report_replay.proofs.SerialsHeld.{copied-map, held_with, lending_held, not_refused}
use Rattle.report_replay.proofs.labels.Labels.note.Goals as goal

pub returns : goal.returns
returns c = λ ls held.
    let s = c.args.state.now in
    let line = c.args.line.now in
    let old = c.args.self.now in
    let call = plain_call c.args.call.now in
    let same = c.requires.call ls held in
    let own = copied-map (λ (l : ArrayVec ℕ). l.items) c.as_ref.result ∙ ap (option_map (λ (l : ArrayVec ℕ). l.items)) c.as_ref.ensures.value in
    let lends = c.lending_label-lending.ensures ∙ lending_held old ls s line.call (label_in line) held in
    let asked = c.request_of_success.ensures ∙ sym (not_refused s line.node call (call_of ls s line.call) (success_request s) same c.requires.succeeds) in
    let lent = c.packet_of_success.ensures ∙ sym (not_refused s line.node call (call_of ls s line.call) (success_packet s) same c.requires.succeeds) in
    record {
      requests = held_with old.requests c.hold.new.serials ls.requests _ _ _ _ own asked held.requests c.in_ok-hold.ensures;
      packets = held_with old.packets c.hold-2.new.serials ls.packets _ _ _ _ lends lent held.packets c.in_ok-hold-2.ensures;
    }
