use Rattle.std.proofs.Common.{take}
use Rattle.report_replay.specs.Dealt.{AddsFor}
use Rattle.report_replay.proofs.frame_names.FrameNames.add_all.Given as goal

abbrev pub invariant-loop-name : goal.invariant-loop-name
invariant-loop-name l = AddsFor l.peer (take l.name-index l.names) l.initial.self l.self
