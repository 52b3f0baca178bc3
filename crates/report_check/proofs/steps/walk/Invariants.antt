use Rattle.report_check.specs.NextParts.{parts_from}
use Rattle.report_check.specs.NamedStates.{plain}
use Rattle.report_check.specs.Runs.{begun, script_of}
use Rattle.report_check.proofs.steps.walk.Given as goal

abbrev pub ghost-walk_parts : goal.ghost-walk_parts
ghost-walk_parts a = record { first = begun (plain a.run.now.state); parts = parts_from a.peers.now (script_of a.run.now) a.text.text.now }
