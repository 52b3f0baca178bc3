use Rattle.std.proofs.Common.{take}
use Rattle.mc_journal.specs.EntryText.{AreBytes}
use Rattle.mc_journal.proofs.laws.look_at.Given as goal

abbrev pub invariant-loop-at : goal.invariant-loop-at
invariant-loop-at l = AreBytes (take l.at l.bytes)
