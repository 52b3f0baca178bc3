use Rattle.scenario_cli.proofs.top.with_text.Goals as goal

pub returns-in-Run : goal.returns-in-Run
returns-in-Run g c = rw c.in-Run.is c.run_text.ensures

pub returns-in-SerialRun : goal.returns-in-SerialRun
returns-in-SerialRun g c = rw c.in-SerialRun.is c.run_text-in-SerialRun.ensures

pub returns-in-Check : goal.returns-in-Check
returns-in-Check g c = rw c.in-Check.is c.tell_report.ensures

pub returns-in-Frame : goal.returns-in-Frame
returns-in-Frame g c = rw c.in-Frame.is c.tell_frame.ensures

pub returns-in-Ring : goal.returns-in-Ring
returns-in-Ring g c = rw c.in-Ring.is c.tell_image.ensures

pub tell_report-requires : goal.tell_report-requires
tell_report-requires g c = rw c.in-Check.is at c.requires

pub tell_image-requires : goal.tell_image-requires
tell_image-requires g c = rw c.in-Ring.is at c.requires
