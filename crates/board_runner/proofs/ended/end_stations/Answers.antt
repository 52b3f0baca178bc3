use Rattle.std.proofs.Common.{List, [], ◌∷◌, ◌++◌, map, sym, ap, ◌∙◌, subst}
use Rattle.std.specs.List.{AllByRecursion}
use Rattle.std.proofs.lemmas.List.{map-append}
use Rattle.board_model.specs.Journal.{Line}
use Rattle.mc_journal.specs.Written.{Written}
use Rattle.domain_core.specs.Carrying.{AnyLink}
use Rattle.board_runner.specs.declared.station.Station.{Station}
use Rattle.board_runner.specs.declared.wires.Wire.{Wire}
use Rattle.board_runner.specs.Ended.{HasRings, IsOverRings, WiresEnd, wire_of, wires_left}
use Rattle.board_runner.proofs.EndedLemmas.{left-more}
use Rattle.board_runner.proofs.ended.end_stations.Goals as goal

pub end_links-requires : goal.end_links-requires
end_links-requires c =
    subst (AllByRecursion IsOverRings) (sym c.into_links-ends.ensures) ((subst (AllByRecursion HasRings) c.in-Some.ensures.steps.0 c.loop-station.invariant.over).0)

pub loop-station-preserved : goal.loop-station-preserved
loop-station-preserved c =
    let st = c.in-Some.station in
    let before = c.loop-station.yielded in
    record {
      told =
          ap (map (λ (j : Written). j.lines)) c.in_ok-add.ensures ∙ map-append (λ (j : Written). j.lines) c.loop-station.journals (st.journal ∷ [])
          ∙ ap (λ (ls : List (List Line)). ls ++ st.journal.lines ∷ []) c.loop-station.invariant.told
          ∙ sym (map-append (λ (x : Station). x.journal.lines) before (st ∷ []));
      ended =
          subst (λ (ws : List Wire). WiresEnd ws c.end_links.new.ended.items) (sym (left-more before st))
          (subst (λ (ls : List AnyLink). WiresEnd (wires_left before ++ map (wire_of st.domain_number) ls) c.end_links.new.ended.items) c.into_links-ends.ensures
          (c.in_ok-end_links.ensures (wires_left before) c.loop-station.invariant.ended));
      over = (subst (AllByRecursion HasRings) c.in-Some.ensures.steps.0 c.loop-station.invariant.over).1;
    }
