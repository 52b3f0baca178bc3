use Rattle.std.proofs.Common.{◌≡◌, List, map, ap, subst, ◌∙◌, arith}
use Rattle.board_model.specs.Scenario.{Neighbour}
use Rattle.board_model.specs.State.{opening}
use Rattle.board_model.specs.Unnamed.{unnamed}
use Rattle.report_text.specs.Texts.{neighbours_of}
use Rattle.report_text.specs.declared.board.Numbered.{Numbered}
use Rattle.report_check.specs.NamedStates.{plain}
use Rattle.report_check.specs.PartsWalked.{IsPartsWalked}
use Rattle.report_check.specs.Runs.{begun, script_of}
use Rattle.report_check.proofs.RunSteps.{state-seen}
use Rattle.report_check.proofs.WayParts.{texts-few}
use Rattle.report_check.proofs.WalkFound.{first_way, way-begins, right-unfinished, right-whole}
use Rattle.report_check.proofs.steps.walk.Goals as goal

pub returns-then-lines_left-gt0 : goal.returns-then-lines_left-gt0
returns-then-lines_left-gt0 c =
    let run = c.new-run.result in
    let text = c.args.journal.text.now in
    let peers = c.deref-4.result.now in
    let script = script_of run in
    let near = neighbours_of c.in_ok-found.found.items in
    let numbers = c.deref-4.ensures.value ∙ (c.in_ok-peers.ensures ∙ ap (λ (ns : List Numbered). map (λ (n : Neighbour). n.number) (neighbours_of ns)) c.deref-3.ensures.value) in
    let lines = c.new-run.ensures.script ∙ (ap (λ ls. map (λ l. l.now) ls) c.deref-2.ensures.value ∙ c.in_ok-script.ensures) in
    let opens = c.in_ok-state.ensures ∙ ap (λ (ns : List Numbered). opening c.args.line.domain c.args.line.nodes (neighbours_of ns)) c.deref.ensures.value in
    let state = state-seen run (begun (unnamed c.in_ok-state.state)) c.new-run.ensures.at ∙ ap unnamed opens in
    let way = first_way peers script (plain run.state) text in
    let h = way-begins c.args.scenario.now c.args.line c.args.journal near peers script (plain run.state) c.requires.lawful c.requires.order c.in_ok-found.ensures numbers lines state in
    let found = subst (IsPartsWalked peers way text run c.walk_parts.new.run) c.in-Right.is c.in_ok-place.ensures.found in
    let same : script_of c.walk_parts.new.run ≡ script = ap (λ s. map (λ l. l.now) s.now) c.in_ok-place.ensures.script in
    right-unfinished peers script text way h run c.walk_parts.new.run c.in-Right.lines c.lines_left.result c.in-Right.behind.now found same c.lines_left.ensures (omega arith)

pub returns : goal.returns
returns c =
    let run = c.new-run.result in
    let text = c.args.journal.text.now in
    let peers = c.deref-4.result.now in
    let script = script_of run in
    let near = neighbours_of c.in_ok-found.found.items in
    let numbers = c.deref-4.ensures.value ∙ (c.in_ok-peers.ensures ∙ ap (λ (ns : List Numbered). map (λ (n : Neighbour). n.number) (neighbours_of ns)) c.deref-3.ensures.value) in
    let lines = c.new-run.ensures.script ∙ (ap (λ ls. map (λ l. l.now) ls) c.deref-2.ensures.value ∙ c.in_ok-script.ensures) in
    let opens = c.in_ok-state.ensures ∙ ap (λ (ns : List Numbered). opening c.args.line.domain c.args.line.nodes (neighbours_of ns)) c.deref.ensures.value in
    let state = state-seen run (begun (unnamed c.in_ok-state.state)) c.new-run.ensures.at ∙ ap unnamed opens in
    let way = first_way peers script (plain run.state) text in
    let h = way-begins c.args.scenario.now c.args.line c.args.journal near peers script (plain run.state) c.requires.lawful c.requires.order c.in_ok-found.ensures numbers lines state in
    let found = subst (IsPartsWalked peers way text run c.walk_parts.new.run) c.in-Right.is c.in_ok-place.ensures.found in
    let same : script_of c.walk_parts.new.run ≡ script = ap (λ s. map (λ l. l.now) s.now) c.in_ok-place.ensures.script in
    right-whole peers script text way h run c.walk_parts.new.run c.in-Right.lines c.lines_left.result c.in-Right.behind.now found same c.lines_left.ensures (omega arith) c.in_ok-state.state (opens ∙ ap (opening c.args.line.domain c.args.line.nodes) c.in_ok-found.ensures) c.new-run.ensures.done (omega (arith, texts-few text, c.requires.short.count)) _ _ c.into_state-state.ensures.state c.into_state-state.ensures.given
