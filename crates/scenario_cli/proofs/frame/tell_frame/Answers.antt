use Rattle.std.proofs.Common.{◌≡◌, ◌∙◌, Some}
use Rattle.std.specs.Prelude.{codes}
use Rattle.scenario_cli.specs.declared.form.Form.TheVariants.{Frame}
use Rattle.scenario_cli.specs.WrongText.{wrong_line}
use Rattle.scenario_cli.specs.FrameText.{wrong_in}
use Rattle.scenario_cli.specs.Answers.{bad}
use Rattle.scenario_cli.proofs.FrameLines.{hex_wrong, none_wrong}
use Rattle.scenario_cli.proofs.Telling.{write-tells, memory-tells}
use Rattle.scenario_cli.proofs.frame.tell_frame.Goals as goal

pub returns-in-Ok : goal.returns-in-Ok
returns-in-Ok g c = c.tell_bytes.ensures c.args.text.now c.in-Ok.ensures.sound (c.deref.ensures.value ∙ c.in-Ok.ensures.bytes)

pub returns-in-Err-At : goal.returns-in-Err-At
returns-in-Err-At g c =
    let line = wrong_line c.in-Err-At.place (codes "hex") in
    let told : wrong_in c.args.text.now ≡ Some line = hex_wrong c.args.text.now c.in-Err-At.place (rw c.in-Err-At.field-0-is at c.in-Err-At.ensures.fault) in
    write-tells g.K.Sink c.args.output.now c.write_wrong.new.sink line Frame bad c.args.text.now told (none_wrong c.args.text.now line told) c.write_wrong.result c.after_write.result c.after_write.ensures.whole c.after_write.ensures.failed
    (record { bytes = c.write_wrong.ensures.bytes; cause = c.write_wrong.ensures.cause; room = c.write_wrong.ensures.room; last = c.write_wrong.ensures.few_writes_at_err })

pub returns-in-Err-NoMemory : goal.returns-in-Err-NoMemory
returns-in-Err-NoMemory g c = memory-tells _ _ _ _
