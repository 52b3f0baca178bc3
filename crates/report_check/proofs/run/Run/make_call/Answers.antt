use Rattle.std.proofs.Common.{◌≡◌, ℕ, ◌+◌, [], ◌∷◌, None, refl, subst, ap, ap₂, sym, ◌∙◌, option_and_then}
use Rattle.board_model.specs.CallChanges.{effect}
use Rattle.board_model.specs.Deeds.{calls}
use Rattle.board_model.specs.DomainCall.{DomainCall}
use Rattle.board_model.specs.Labels.{Labels}
use Rattle.board_model.specs.State.{DomainState, place_of_packet, place_of_request}
use Rattle.board_model.specs.Step.{RunState, call_at, effect_of_line, labels_of_line}
use Rattle.report_replay.specs.HeldLabels.{HoldLabels}
use Rattle.report_replay.specs.PlainCalls.{plain_call}
use Rattle.report_check.specs.NamedStates.{GoesOn, plain}
use Rattle.report_check.specs.Runs.{seen}
use Rattle.report_check.proofs.FitLines.{calls-same}
use Rattle.report_check.proofs.NamedCalls.{call-named, labels-named, next-refusal, none-is, refused-goes}
use Rattle.report_check.proofs.run.Run.make_call.Goals as goal

abbrev run_at : DomainState → Labels → ℕ → RunState
run_at s ls called = record { state = s; lines_called = called + 1; calls_made = 0; labels = ls; put_since_turn = None; waited = None }

pub note-requires-clause-call : goal.note-requires-clause-call
note-requires-clause-call g c ls held =
    let state = c.args.self.now.state.state in
    c.requires.1.1.0.call
    ∙ (call-named g.ls state c.args.next.line.now.call
    ∙ calls-same g.ls ls state state
    (λ label. ap (option_and_then (place_of_request state)) (sym (c.requires.0.requests label) ∙ held.requests label))
    (λ label. ap (option_and_then (place_of_packet state)) (sym (c.requires.0.packets label) ∙ held.packets label))
    c.args.next.line.now.call)

pub note-requires-clause-succeeds : goal.note-requires-clause-succeeds
note-requires-clause-succeeds g c =
    let state = c.args.self.now.state.state in
    let line = c.args.next.line.now in
    sym (next-refusal state (plain c.args.self.now.state) line.node (plain_call c.args.next.call) (call_at (seen c.args.self.now g.ls) line) refl c.requires.1.1.0.call c.args.next.refusal c.requires.1.1.0.refusal)
    ∙ none-is c.args.next.refusal c.if-is_none.ensures

pub returns-in_ok-succeed-clause-labels : goal.returns-in_ok-succeed-clause-labels
returns-in_ok-succeed-clause-labels g c = subst (HoldLabels c.note.new.self) (sym (labels-named g.ls c.args.self.now.state.state c.args.next.line.now)) (c.in_ok-note.ensures g.ls c.requires.0)

pub returns-in_ok-succeed-clause-run : goal.returns-in_ok-succeed-clause-run
returns-in_ok-succeed-clause-run g c k a =
    let old = c.args.self.now in
    let line = c.args.next.line.now in
    let at = seen old g.ls in
    let state : plain c.succeed.new.self ≡ _ = (c.in_ok-succeed.ensures a).plain ∙ (ap (effect (plain old.state) line.node) c.requires.1.1.0.call ∙ ap (λ o. effect_of_line o at) (sym c.requires.1.0)) in
    let labels = ap (λ o. labels_of_line o at) (sym c.requires.1.0) in
    ap₂ (λ (s : DomainState) (ls : Labels). run_at s ls old.called) state labels

pub returns-in_ok-succeed-clause-deeds : goal.returns-in_ok-succeed-clause-deeds
returns-in_ok-succeed-clause-deeds g c a =
    subst (λ (k : DomainCall). GoesOn c.args.self.now.state c.succeed.new.self (calls c.args.next.line.now.node k a ∷ [])) c.requires.1.1.0.call (c.in_ok-succeed.ensures a)

pub returns-else-is_none-clause-deeds : goal.returns-else-is_none-clause-deeds
returns-else-is_none-clause-deeds g c a = refused-goes c.args.self.now.state c.args.next.line.now.node (call_at (seen c.args.self.now g.ls) c.args.next.line.now) c.args.next.refusal c.requires.1.1.0.refusal c.if-is_none.ensures a
