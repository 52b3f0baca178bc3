use Rattle.std.proofs.Common.{◌∷◌, map, sym, ap, subst, ◌∙◌, append-nil}
use Rattle.std.specs.List.{flat_map}
use Rattle.board_model.specs.Journal.{turn_line, visit_lines}
use Rattle.board_model.specs.State.{DomainState}
use Rattle.board_model.specs.Deeds.{after_deeds}
use Rattle.board_model.specs.Unjoined.{visit_in}
use Rattle.report_text.specs.StepPass.{due_visits, other_than}
use Rattle.report_check.specs.Doing.{HasPeers}
use Rattle.report_check.specs.declared.run.Run.{Run}
use Rattle.report_check.specs.NamedStates.{GoesOn, plain, turn_deeds}
use Rattle.report_check.specs.declared.named_state.NamedState.{NamedState}
use Rattle.report_check.proofs.TurnSteps.{turn-made}
use Rattle.report_check.proofs.CallLines.{found-at}
use Rattle.report_check.proofs.RunSteps.{state-seen, turn-after, met-none}
use Rattle.report_check.proofs.run.Run.turns.Goals as goal

pub returns-clause-place : goal.returns-clause-place
returns-clause-place g c ls told =
    let state = ap (λ (x : Run). plain x.state) c.note_turns.ensures ∙ state-seen c.args.self.now g.r c.requires.0 in
    let known = subst (λ (s : DomainState). HasPeers s c.args.peers.now) (sym state) c.requires.1.1.1.0 in
    c.place_after.ensures
    ∙ (found-at _ _ _ c.in_ok-met.met c.requires.1.1.1.1 (c.in_ok-met.ensures.lines ls told known)
    ∙ ap (λ (s : DomainState). other_than (turn_line ∷ flat_map visit_lines (due_visits s (map (visit_in ls) c.args.peers.now))) c.args.lines.now.texts) state)

pub returns-clause-run : goal.returns-clause-run
returns-clause-run g c ls told none =
    let old = c.args.self.now in
    let one = c.note_turns.new.self in
    let vs = map (visit_in ls) c.args.peers.now in
    let state = ap (λ (x : Run). plain x.state) c.note_turns.ensures ∙ state-seen old g.r c.requires.0 in
    let known = subst (λ (s : DomainState). HasPeers s c.args.peers.now) (sym state) c.requires.1.1.1.0 in
    let met = met-none _ c.in_ok-met.met (sym c.place_after.ensures ∙ none) in
    let goes = subst (λ (s : DomainState). GoesOn one.state c.meets_turn.new.state (turn_deeds (due_visits s vs))) state (c.in_ok-met.ensures.state ls told known met) in
    let from = subst (λ (z : NamedState). GoesOn z c.meets_turn.new.state (turn_deeds (due_visits g.r.state vs))) (ap (λ (x : Run). x.state) c.note_turns.ensures) goes in
    let leads = goes.plain ∙ (ap (λ (s : DomainState). after_deeds s (turn_deeds (due_visits g.r.state vs))) state ∙ turn-made g.r.state (due_visits g.r.state vs)) in
    record {
      at = turn-after old one g.r c.meets_turn.new.state (due_visits g.r.state vs) c.requires.0 c.note_turns.ensures leads;
      deeds = subst (GoesOn old.state c.meets_turn.new.state) (sym (append-nil (turn_deeds (due_visits g.r.state vs)))) from;
    }
