use Rattle.std.proofs.Common.{ap, ◌∙◌}
use Rattle.std.specs.Prelude.{option_map}
use Rattle.report_text.specs.LaneLines.{lane_of}
use Rattle.report_check.specs.ToldTurns.{frame_on}
use Rattle.report_check.proofs.told_turn.told_frame.Goals as goal

pub frame_of-requires : goal.frame_of-requires
frame_of-requires c = record { digits = c.in-Some.ensures.digits; room = c.in-Some.ensures.few _ c.requires }

pub returns-in-Some : goal.returns-in-Some
returns-in-Some c = c.frame_of.ensures ∙ ap (λ o. frame_on (option_map lane_of o)) c.in-Some.ensures.line

pub returns-in-None : goal.returns-in-None
returns-in-None c = ap (λ o. frame_on (option_map lane_of o)) c.in-None.ensures.line
