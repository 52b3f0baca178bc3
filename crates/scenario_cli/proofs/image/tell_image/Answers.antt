use Rattle.std.proofs.Common.{◌≡◌, refl, sym, ◌∙◌, ℕ, Ok, Err}
use Rattle.std.specs.Prelude.{Result}
use Rattle.ring_trace.specs.declared.checking.ImageInfo.{ImageInfo}
use Rattle.ring_trace.specs.declared.checking.ImageFault.{ImageFault}
use Rattle.scenario_cli.specs.declared.form.Form.TheVariants.{Ring}
use Rattle.scenario_cli.specs.ImageText.{image_line, image_fault_line}
use Rattle.scenario_cli.specs.Answers.{good, bad}
use Rattle.scenario_cli.proofs.Telling.{write-tells}
use Rattle.scenario_cli.proofs.image.tell_image.Goals as goal

either : (r : Result ImageInfo (ℕ × ImageFault)) (info : ImageInfo) (fault : ℕ × ImageFault) → r ≡ Ok info → r ≡ Err fault → ⊥
either r info fault ok err = let both : Ok info ≡ Err fault = sym ok ∙ err in absurd cc

pub returns-in-Ok : goal.returns-in-Ok
returns-in-Ok g c =
    let is = sym c.in-Ok.ensures in
    write-tells g.K.Sink c.args.output.now c.write_info.new.sink (image_line c.in-Ok.info) Ring good c.args.image.now (record { info = c.in-Ok.info; is = is; written = refl }) (λ err. either _ c.in-Ok.info err.0 is err.1) c.write_info.result c.after_write.result c.after_write.ensures.whole c.after_write.ensures.failed
    (record { bytes = c.write_info.ensures.bytes; cause = c.write_info.ensures.cause; room = c.write_info.ensures.room; last = c.write_info.ensures.few_writes_at_err })

pub returns-in-Err : goal.returns-in-Err
returns-in-Err g c =
    let fault : ℕ × ImageFault = (c.in-Err.place, c.in-Err.fault) in
    let is = sym c.in-Err.ensures in
    let bytes = rw c.image_fault_word.ensures at c.write_wrong-written.ensures.bytes in
    let room = rw c.image_fault_word.ensures at c.write_wrong-written.ensures.room in
    let last = rw c.image_fault_word.ensures at c.write_wrong-written.ensures.few_writes_at_err in
    write-tells g.K.Sink c.args.output.now c.write_wrong-written.new.sink (image_fault_line fault) Ring bad c.args.image.now (record { fault = fault; is = is; written = refl }) (λ ok. either _ ok.0 fault ok.1 is) c.write_wrong-written.result c.after_write-in-Err.result c.after_write-in-Err.ensures.whole c.after_write-in-Err.ensures.failed
    (record { bytes = bytes; cause = c.write_wrong-written.ensures.cause; room = room; last = last })
