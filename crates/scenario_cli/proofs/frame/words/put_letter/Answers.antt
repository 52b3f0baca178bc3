use Rattle.scenario_cli.proofs.frame.words.put_letter.Goals as goal

pub returns-in-PacketPart : goal.returns-in-PacketPart
returns-in-PacketPart g c = rw c.in-PacketPart.is c.put_part-in-PacketPart.ensures
