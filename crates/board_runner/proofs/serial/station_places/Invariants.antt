use Rattle.std.proofs.Common.{◌≡◌, ℕ, ◌<◌, length, count_by}
use Rattle.std.specs.Prelude.{nat_lt, slice_index}
use Rattle.board_runner.proofs.serial.station_places.Given as goal

abbrev pub invariant-loop-number : goal.invariant-loop-number
invariant-loop-number l = record {
  eight : length l.places ≡ 8;
  places : (n : ℕ) → n < l.number → slice_index l.places n ≡ count_by (λ d. nat_lt d.domain n) l.domains;
}
