use Rattle.std.proofs.Common.{refl}
use Rattle.outer_io.proofs.Writing.{puts_nothing, puts_item}
use Rattle.picture_text.specs.Objects.{more_member}
use Rattle.picture_text.proofs.json.put_all_more.Goals as goal

pub loop-member-init : goal.loop-member-init
loop-member-init g c = puts_nothing g.K.Sink c.args.out.now

pub loop-member-preserved : goal.loop-member-preserved
loop-member-preserved g c =
    puts_item g.K.Sink _ _ _ more_member c.args.members.now c.loop-member.member-index _ _ c.loop-member-test.true refl c.loop-member.invariant c.put_more.ensures
