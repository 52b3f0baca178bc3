use Rattle.std.proofs.Common.{◌≡◌, ◌∙◌, ◌==◌, ℕ, true, false, ap, subst, refl, rules, tests}
use Rattle.std.specs.Prelude.{option_map}
use Rattle.mc_base.specs.Fault.{payload_faults}
use Rattle.mc_base.specs.FaultRow.{first_fault, widened}
use Rattle.mc_base.specs.Frame.{IsFrame}
use Rattle.mc_base.specs.Letter.{saying_of}
use Rattle.mc_base.specs.LetterFaults.{letter_faults}
use Rattle.mc_base.specs.Announcement.{announcement_faults}
use Rattle.mc_base.specs.declared.fault.Fault.TheVariants as fault_of
use Rattle.mc_base.proofs.FaultRows.{first_fault-widened}
use Rattle.scenario_cli.specs.FrameText.{of_letter, of_announcement}
use Rattle.scenario_cli.proofs.frame.content.payload_content.Goals as goal

pub returns-in-Ok-clause-sound : goal.returns-in-Ok-clause-sound
returns-in-Ok-clause-sound c = λ bytes is.
    let f = c.args.frame in
    let ns = c.in-Ok.ns in
    of_announcement f.src f.payload.now ns.name.items ns.addr ns.create (subst (λ (d : ℕ). IsFrame bytes f.src d f.payload.now) c.if-dst-eq-NAME_SERVICE_ADDRESS.true is) c.in-Ok.ensures.sound refl

pub returns-in-Err-clause-fault : goal.returns-in-Err-clause-fault
returns-in-Err-clause-fault c =
    let payload = c.args.frame.payload.now in
    let same : (c.args.frame.dst == 53) ≡ true = search (rules, tests) in
    let names : payload_faults c.args.frame.dst payload ≡ widened fault_of.Ns (announcement_faults payload) = rw same refl in
    ap first_fault names ∙ first_fault-widened fault_of.Ns (announcement_faults payload) ∙ ap (option_map fault_of.Ns) c.in-Err.ensures.fault

pub returns-in-Ok-read_letter-clause-sound : goal.returns-in-Ok-read_letter-clause-sound
returns-in-Ok-read_letter-clause-sound c = λ bytes is.
    let f = c.args.frame in
    of_letter f.src f.dst f.payload.now (saying_of c.in-Ok-read_letter.letter) is c.if-dst-eq-NAME_SERVICE_ADDRESS.false c.in-Ok-read_letter.ensures.sound refl

pub returns-in-Err-read_letter-clause-fault : goal.returns-in-Err-read_letter-clause-fault
returns-in-Err-read_letter-clause-fault c =
    let payload = c.args.frame.payload.now in
    let other : (c.args.frame.dst == 53) ≡ false = search (rules, tests) in
    let letters : payload_faults c.args.frame.dst payload ≡ widened fault_of.Letter (letter_faults payload) = rw other refl in
    ap first_fault letters ∙ first_fault-widened fault_of.Letter (letter_faults payload) ∙ ap (option_map fault_of.Letter) c.in-Err-read_letter.ensures.fault
