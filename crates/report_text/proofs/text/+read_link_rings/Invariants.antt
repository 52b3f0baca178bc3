use Rattle.std.proofs.Common.{length}
use Rattle.report_text.proofs.text.+read_link_rings.Given as goal

abbrev pub decreases-read_link_rings : goal.decreases-read_link_rings
decreases-read_link_rings l = length l.links.now
