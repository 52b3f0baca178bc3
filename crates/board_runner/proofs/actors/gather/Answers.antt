use Rattle.std.proofs.Common.{◌≡◌, List, [], ◌∷◌, ◌++◌, rules, sym, ap, ◌∙◌}
use Rattle.std.proofs.lemmas.List.{map-append}
use Rattle.board_model.specs.declared.scenario.CallLine.{CallLine}
use Rattle.board_runner.specs.declared.acting.Acted.{Acted}
use Rattle.board_runner.specs.declared.station.Station.{Station}
use Rattle.board_runner.proofs.ActorJobLemmas.{lines-more}
use Rattle.board_runner.proofs.actors.gather.Goals as goal

pub loop-left-preserved : goal.loop-left-preserved
loop-left-preserved g c =
    let before = c.loop-left.yielded in
    let left = c.in-Some.left in
    let i = c.loop-left.invariant in
    record {
      lines = c.in_ok-add_lines.ensures ∙ ap (λ (ls : List CallLine). ls ++ left.lines.items) i.lines ∙ sym (lines-more before left);
      stations = c.in_ok-append.ensures ∙ ap (λ (sts : List Station). sts ++ left.station ∷ []) i.stations ∙ sym (map-append (λ (x : Acted _). x.station) before (left ∷ []));
      actors = c.in_ok-append-2.ensures ∙ ap (λ xs. xs ++ left.actor ∷ []) i.actors ∙ sym (map-append (λ (x : Acted _). x.actor) before (left ∷ []));
    }
