use Rattle.std.proofs.Common.{refl}
use Rattle.outer_io.proofs.Writing.{puts_then}
use Rattle.picture_text.specs.Markup.{element, line_shown, markup}
use Rattle.picture_text.proofs.PieceSteps.{piece_alone}
use Rattle.picture_text.proofs.svg.put_element.Goals as goal

pub returns-clause-exact : goal.returns-clause-exact
unfolding markup
returns-clause-exact g c =
    let opened = rw c.tag_word.ensures at c.put-2.ensures in
    let look = rw c.look_word.ensures at c.put-4.ensures in
    let closed = rw c.tag_word-2.ensures at c.put-8.ensures in
    puts_then _ _ _ _ _ _ c.put.ensures (puts_then _ _ _ _ _ _ opened (puts_then _ _ _ _ _ _ c.put-3.ensures
    (puts_then _ _ _ _ _ _ look (puts_then _ _ _ _ _ _ c.put-5.ensures (puts_then _ _ _ _ _ _ c.put_line_mark.ensures
    (puts_then _ _ _ _ _ _ c.put_numbers.ensures (puts_then _ _ _ _ _ _ c.put-6.ensures (puts_then _ _ _ _ _ _ c.put_xml.ensures
    (puts_then _ _ _ _ _ _ c.put-7.ensures (puts_then _ _ _ _ _ _ closed c.put-9.ensures))))))))))

pub returns-clause-element : goal.returns-clause-element
returns-clause-element g c =
    piece_alone markup line_shown g.K.Sink _ _ (element c.args.shape c.args.numbers.now c.args.content.now) _ refl (returns-clause-exact g c)
