use Rattle.std.proofs.Common.{refl}
use Rattle.outer_io.proofs.Writing.{puts_then}
use Rattle.picture_text.specs.Objects.{line_of_object, object, object_text}
use Rattle.picture_text.proofs.PieceSteps.{piece_alone}
use Rattle.picture_text.proofs.json.put_object.Goals as goal

pub returns-clause-exact : goal.returns-clause-exact
unfolding object_text
returns-clause-exact g c =
    let phase = rw c.phase_word.ensures at c.put-2.ensures in
    puts_then _ _ _ _ _ _ c.put.ensures (puts_then _ _ _ _ _ _ phase (puts_then _ _ _ _ _ _ c.put-3.ensures
    (puts_then _ _ _ _ _ _ c.put_all_more.ensures (puts_then _ _ _ _ _ _ c.put-4.ensures (puts_then _ _ _ _ _ _ c.put_args.ensures c.put-5.ensures)))))

pub returns-clause-object : goal.returns-clause-object
returns-clause-object g c =
    piece_alone object_text line_of_object g.K.Sink _ _ (object c.args.phase c.args.line c.args.members.now c.args.args.now) _ refl (returns-clause-exact g c)
