use Rattle.std.proofs.Common.{take}
use Rattle.report_replay.specs.Naming.{AddsItems}
use Rattle.report_replay.proofs.frame_names.FrameNames.add_items.Given as goal

abbrev pub invariant-loop-item : goal.invariant-loop-item
invariant-loop-item l = AddsItems (take l.item-index l.items) l.initial.self l.self
