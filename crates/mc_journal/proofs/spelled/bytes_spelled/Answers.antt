use Rattle.std.proofs.Common.{◌≡◌, sym, ap}
use Rattle.mc_journal.specs.Spelled.{bytes_or_none}
use Rattle.mc_journal.proofs.spelled.bytes_spelled.Goals as goal

pub returns : goal.returns
returns c = sym (ap bytes_or_none c.decode_lower.ensures)
