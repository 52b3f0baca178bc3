use Rattle.std.proofs.Common.{take}
use Rattle.std.specs.List.{flat_map}
use Rattle.outer_io.specs.Puts.{Puts}
use Rattle.board_model.specs.Report.{channel_text}
use Rattle.board_numbers.proofs.number_lines.put_channels.Given as goal

abbrev pub invariant-loop-channel : goal.invariant-loop-channel
invariant-loop-channel g l = Puts g.K.Sink l.initial.out l.out (flat_map channel_text (take l.channel-index l.channels))
