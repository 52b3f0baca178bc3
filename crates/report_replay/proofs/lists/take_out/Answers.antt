use Rattle.std.proofs.Common.{◌<◌, ◌≤◌, length, arith}
use Rattle.report_replay.proofs.Removed.{taken-within, taken-past, got-within, got-past}
use Rattle.report_replay.proofs.lists.take_out.Goals as goal

pub returns-then-place-len-clause-rest : goal.returns-then-place-len-clause-rest
returns-then-place-len-clause-rest g c =
    let within : c.in_ok-place.place < length c.args.list.now.items = omega (arith, c.args.list.now.ok.0) in
    taken-within c.args.place c.in_ok-place.place c.args.list.now.items c.remove.new.self.items c.in_ok-place.was within c.remove.ensures.items

pub returns-then-place-len-clause-item : goal.returns-then-place-len-clause-item
returns-then-place-len-clause-item g c =
    let within : c.in_ok-place.place < length c.args.list.now.items = omega (arith, c.args.list.now.ok.0) in
    got-within c.args.place c.in_ok-place.place c.args.list.now.items c.remove.result c.in_ok-place.was within c.remove.ensures.value

pub returns-else-place-len-clause-rest : goal.returns-else-place-len-clause-rest
returns-else-place-len-clause-rest g c =
    let past : length c.args.list.now.items ≤ c.in_ok-place.place = omega (arith, c.args.list.now.ok.0) in
    taken-past c.args.place c.in_ok-place.place c.args.list.now.items c.in_ok-place.was past

pub returns-else-place-len-clause-item : goal.returns-else-place-len-clause-item
returns-else-place-len-clause-item g c =
    let past : length c.args.list.now.items ≤ c.in_ok-place.place = omega (arith, c.args.list.now.ok.0) in
    got-past c.args.place c.in_ok-place.place c.args.list.now.items c.in_ok-place.was past
