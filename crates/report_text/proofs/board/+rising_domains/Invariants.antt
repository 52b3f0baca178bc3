use Rattle.std.proofs.Common.{length}
use Rattle.report_text.proofs.board.+rising_domains.Given as goal

abbrev pub decreases-rising_domains : goal.decreases-rising_domains
decreases-rising_domains l = length l.lines.now
