use Rattle.std.proofs.Common.{◌≡◌, List, [], ◌∷◌, length, ◌<◌, refl, sym, subst, arith}
use Rattle.outer_io.specs.Puts.{Puts}
use Rattle.outer_io.proofs.Writing.{puts_then, puts_nothing}
use Rattle.picture_text.specs.Objects.{members_text}
use Rattle.picture_text.specs.declared.json.Member.{Member}
use Rattle.picture_text.proofs.MembersFront.{members_front, members_none}
use Rattle.picture_text.proofs.json.put_members.Goals as goal

pub returns-in_default : goal.returns-in_default
returns-in_default g c =
    subst (λ t. Puts g.K.Sink c.args.out.now c.args.out.now t) (members_none c.args.members.now c.in_default.len_below) (puts_nothing g.K.Sink c.args.out.now)

pub returns-in-len1-up : goal.returns-in-len1-up
returns-in-len1-up g c =
    subst (λ t. Puts g.K.Sink c.args.out.now c.put_all_more.new.out t) (members_front c.args.members.now _ (omega (arith, c.in-len1-up.len_at_least)))
    (puts_then _ _ _ _ _ _ c.put_member.ensures c.put_all_more.ensures)
