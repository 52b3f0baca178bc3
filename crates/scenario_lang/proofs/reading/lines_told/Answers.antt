use Rattle.std.proofs.Common.{sym, subst, ◌∙◌, ◌≡◌, arith, rules}
use Rattle.std.specs.Prelude.{Ok}
use Rattle.board_model.specs.Language.{told_by}
use Rattle.scenario_lang.specs.Reading.{Answers, Fails}
use Rattle.scenario_lang.specs.Telling.{line_told}
use Rattle.scenario_lang.proofs.TellingLemmas.{line_more, text_stops}
use Rattle.scenario_lang.proofs.reading.lines_told.Goals as goal

pub loop-rest-preserved : goal.loop-rest-preserved
loop-rest-preserved c =
    let read : line_told c.loop-rest.above.told c.first_line.result.0.now ≡ Ok c.tell_line.new.self.told = search rules in
    record {
      told = sym (line_more c.loop-rest.number c.loop-rest.above.told c.tell_line.new.self.told c.first_line.result.0.now _ _ c.first_line.ensures.line read) ∙ c.loop-rest.invariant.told;
      keeps = search rules;
      numbered = omega (arith, c.first_line.ensures.shorter, c.loop-rest.invariant.numbered);
    }

pub returns-in-Err-clause-refused : goal.returns-in-Err-clause-refused
returns-in-Err-clause-refused c =
    let stopped : Fails c.in-Err.fault (line_told c.loop-rest.above.told c.first_line.result.0.now) = subst (λ r. Answers (λ _. c.tell_line.new.self.told) r (line_told c.loop-rest.above.told c.first_line.result.0.now)) c.in-Err.is c.tell_line.ensures.told in
    rw c.at_line.ensures
    (text_stops c.in-Err.fault c.loop-rest.number c.loop-rest.above.told c.first_line.result.0.now _ _ (told_by c.args.text.now) stopped c.first_line.ensures.line c.loop-rest.invariant.told)
