use Rattle.outer_io.proofs.Writing.{puts_nothing, puts_then}
use Rattle.scenario_lang.proofs.canonical.put_argument.Goals as goal

pub returns-in_default : goal.returns-in_default
returns-in_default g c = rw c.in_default.is (puts_nothing g.K.Sink c.args.out.now)

pub returns-in-Number : goal.returns-in-Number
returns-in-Number g c = rw (c.in-Some.is, c.in-Number.is) (puts_then _ _ _ _ _ _ c.put.ensures c.put_number.ensures)

pub returns-in-Name : goal.returns-in-Name
returns-in-Name g c = rw (c.in-Some.is, c.in-Name.is) (puts_then _ _ _ _ _ _ c.put.ensures c.put_name.ensures)

pub returns-in-Content : goal.returns-in-Content
returns-in-Content g c = rw (c.in-Some.is, c.in-Content.is) (puts_then _ _ _ _ _ _ c.put.ensures c.put_hex.ensures)

pub returns-in-ChannelKind : goal.returns-in-ChannelKind
returns-in-ChannelKind g c =
    let word = rw c.kind_word.ensures at c.put-in-ChannelKind.ensures in
    rw (c.in-Some.is, c.in-ChannelKind.is) (puts_then _ _ _ _ _ _ c.put.ensures word)

pub returns-in-Label : goal.returns-in-Label
returns-in-Label g c = rw (c.in-Some.is, c.in-Label.is) (puts_then _ _ _ _ _ _ c.put.ensures c.put-in-Label.ensures)

pub returns-in-Labels : goal.returns-in-Labels
returns-in-Labels g c = rw (c.in-Some.is, c.in-Labels.is) (puts_then _ _ _ _ _ _ c.put.ensures c.put_labels.ensures)
