use Rattle.std.proofs.Common.{take}
use Rattle.std.specs.List.{flat_map}
use Rattle.outer_io.specs.Puts.{Puts}
use Rattle.picture_text.specs.Objects.{more_member}
use Rattle.picture_text.proofs.json.put_all_more.Given as goal

abbrev pub invariant-loop-member : goal.invariant-loop-member
invariant-loop-member g l = Puts g.K.Sink l.initial.out l.out (flat_map more_member (take l.member-index l.members))
