use Rattle.std.proofs.Common.{rules}
use Rattle.board_model.specs.RingImage.{device_writes, driver_writes, start_image}
use Rattle.ring_trace.proofs.SideWrites.{all_then}
use Rattle.ring_numbers.specs.RingLists.{offered, returned}
use Rattle.ring_numbers.proofs.image.image_left.Goals as goal

pub returns : goal.returns
returns c =
    let then = all_then (start_image c.args.size c.args.queue) (driver_writes c.args.size (offered c.args.size c.args.queue c.args.used.now c.args.given.now)) (device_writes c.args.size (returned c.args.queue c.args.used.now c.args.given.now)) in
    search (rules, then)
