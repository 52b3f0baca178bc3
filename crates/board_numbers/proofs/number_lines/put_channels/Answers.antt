use Rattle.std.proofs.Common.{get_or, refl}
use Rattle.board_model.specs.declared.totals.ChannelTotals.{ChannelTotals}
use Rattle.board_model.specs.Report.{channel_text}
use Rattle.outer_io.proofs.Writing.{puts_nothing, puts_item}
use Rattle.board_numbers.proofs.number_lines.put_channels.Goals as goal

pub loop-channel-init : goal.loop-channel-init
loop-channel-init g c = puts_nothing g.K.Sink c.args.out.now

pub loop-channel-preserved : goal.loop-channel-preserved
loop-channel-preserved g c =
    let none : ChannelTotals = record { owner = 0; number = 0; totals = record { accepted = 0; taken = 0; dropped = 0; queued = 0; ring = 0 } } in
    puts_item g.K.Sink _ _ _ channel_text c.args.channels.now c.loop-channel.channel-index (get_or c.args.channels.now c.loop-channel.channel-index none) none c.loop-channel-test.true refl c.loop-channel.invariant c.put_channel.ensures
