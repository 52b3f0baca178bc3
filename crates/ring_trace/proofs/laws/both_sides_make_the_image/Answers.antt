use Rattle.ring_trace.proofs.BothSides.{both_sides}
use Rattle.ring_trace.proofs.laws.both_sides_make_the_image.Goals as goal

pub returns : goal.returns
returns c = both_sides
