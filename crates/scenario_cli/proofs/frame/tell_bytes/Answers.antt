use Rattle.std.proofs.Common.{◌≡◌, ◌∙◌, List, ℕ, Some, sym, ap₂}
use Rattle.scenario_cli.specs.declared.form.Form.TheVariants.{Frame}
use Rattle.scenario_cli.specs.WrongText.{wrong_line}
use Rattle.scenario_cli.specs.FrameText.{frame_wrong, wrong_in}
use Rattle.scenario_cli.specs.Content.{content_line}
use Rattle.scenario_cli.specs.Answers.{good, bad}
use Rattle.scenario_cli.proofs.FaultPlaces.{wrong_of, nothing_wrong}
use Rattle.scenario_cli.proofs.FrameLines.{spelled_wrong, tells_right, some_wrong, none_wrong}
use Rattle.scenario_cli.proofs.Telling.{write-tells}
use Rattle.scenario_cli.proofs.frame.tell_bytes.Goals as goal

pub returns-in-Ok : goal.returns-in-Ok
returns-in-Ok g c = λ text none spelled.
    let right = tells_right text c.args.frame.now (content_line c.in-Ok.content) none spelled (nothing_wrong c.args.frame.now c.in-Ok.ensures.fault) c.in-Ok.ensures.sound in
    write-tells g.K.Sink c.args.output.now c.write_right.new.sink (content_line c.in-Ok.content) Frame good text right (some_wrong text right.sound) c.write_right.result c.after_write.result c.after_write.ensures.whole c.after_write.ensures.failed
    (record { bytes = c.write_right.ensures.bytes; cause = c.write_right.ensures.cause; room = c.write_right.ensures.room; last = c.write_right.ensures.few_writes_at_err })

pub returns-in-Err : goal.returns-in-Err
returns-in-Err g c = λ text none spelled.
    let line = wrong_line c.place_of-place.result c.fault_word.result.now in
    let told : frame_wrong c.args.frame.now ≡ Some line = wrong_of c.args.frame.now c.in-Err.fault c.in-Err.ensures.fault ∙ ap₂ (λ (n : ℕ) (w : List ℕ). Some (wrong_line n w)) (sym c.place_of-place.ensures) (sym c.fault_word.ensures) in
    let wrong : wrong_in text ≡ Some line = spelled_wrong text c.args.frame.now none spelled ∙ told in
    write-tells g.K.Sink c.args.output.now c.write_wrong.new.sink line Frame bad text wrong (none_wrong text line wrong) c.write_wrong.result c.after_write-in-Err.result c.after_write-in-Err.ensures.whole c.after_write-in-Err.ensures.failed
    (record { bytes = c.write_wrong.ensures.bytes; cause = c.write_wrong.ensures.cause; room = c.write_wrong.ensures.room; last = c.write_wrong.ensures.few_writes_at_err })
