use Rattle.std.proofs.Common.{◌≡◌, ◌++◌, List, map}
use Rattle.board_model.specs.SerialRun.{Station, journal_left}
use Rattle.board_model.specs.Totals.{numbers_to, totals_of_channel}
use Rattle.board_numbers.specs.EndedDomains.{EndAs}
use Rattle.board_numbers.specs.Tallied.{RanBoard}
use Rattle.board_numbers.proofs.channels.add_channels.Given as goal

abbrev pub invariant-loop-before : goal.invariant-loop-before
invariant-loop-before g l = (ts : List Station) → RanBoard l._scenario ts → EndAs ts (map g.D.EndedDomain.ended l.domains) → l.channels ≡ l.initial.channels ++ map (totals_of_channel l._scenario (map journal_left ts) l.owner) (numbers_to l.before)
