use Rattle.std.proofs.Common.{◌≡◌, List, map, take, flat_map}
use Rattle.board_model.specs.SerialRun.{Station, journal_left}
use Rattle.board_model.specs.Totals.{totals_of_owner}
use Rattle.board_numbers.specs.EndedDomains.{EndAs}
use Rattle.board_numbers.specs.Tallied.{RanBoard}
use Rattle.board_numbers.proofs.channels.channels_of.Given as goal

abbrev pub invariant-loop-at : goal.invariant-loop-at
invariant-loop-at g l = (ts : List Station) → RanBoard l._scenario ts → EndAs ts (map g.D.EndedDomain.ended l.domains) → l.channels ≡ flat_map (totals_of_owner l._scenario (map journal_left ts)) (take l.at (map journal_left ts))
