use Rattle.std.proofs.Common.{sym, ◌∙◌}
use Rattle.mc_base.specs.Reading.{is_faulty, announces, says_so}
use Rattle.mc_base.specs.Letter.{saying_of}
use Rattle.mc_base.proofs.Readings.{fault-read}
use Rattle.name_service.proofs.FramesRead.{no_fault_said}
use Rattle.name_service.proofs.said.fault_of.Goals as goal

pub returns-in-Faulty : goal.returns-in-Faulty
returns-in-Faulty c = fault-read c.args.frame.now (is_faulty c.in-Faulty.fault) c.in-Faulty.ensures

pub returns-in-Announces : goal.returns-in-Announces
returns-in-Announces c =
    let ns = c.in-Announces.field-0 in
    fault-read c.args.frame.now (announces ns.name.items ns.addr ns.create) c.in-Announces.ensures

pub returns-in-Sends : goal.returns-in-Sends
returns-in-Sends c =
    let said = saying_of c.in-Sends.letter in
    sym (no_fault_said c.in-Sends.src c.in-Sends.dst said) ∙ fault-read c.args.frame.now (says_so c.in-Sends.src c.in-Sends.dst said) c.in-Sends.ensures
