use Rattle.std.proofs.Common.{◌≡◌, ◌*◌, ◌&&◌, length, drop}
use Rattle.mc_journal.proofs.PairsSpelled.{same_pairs}
use Rattle.mc_journal.proofs.spelled.spells.Given as goal

abbrev pub invariant-loop-i : goal.invariant-loop-i
invariant-loop-i l = record {
  so_far : (l.all && same_pairs (drop (2 * l.i) l.digits) (drop l.i l.bytes)) ≡ same_pairs l.digits l.bytes;
  size : length l.digits ≡ 2 * length l.bytes;
}
