use Rattle.std.specs.Prelude.{◌-◌, unwrap_or}
use Rattle.report_check.specs.Runs.{calls_more, is_done_at, script_of, turns_made}
use Rattle.report_check.proofs.run.Run.spins.Given as goal

abbrev pub ghost-note_turns : goal.ghost-note_turns
ghost-note_turns g a = g.r.labels

abbrev pub ghost-place : goal.ghost-place
ghost-place g a = calls_more (unwrap_or a.times 1 - 1) (turns_made (is_done_at (script_of a.self.now) g.r) 1 g.r)
