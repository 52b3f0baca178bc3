use Rattle.std.proofs.Common.{drop}
use Rattle.scenario_cli.proofs.HexLemmas.{Reading}
use Rattle.scenario_cli.proofs.hex.read_hex.Given as goal

abbrev pub invariant-loop-place : goal.invariant-loop-place
invariant-loop-place l = Reading l.text l.bytes.items (drop l.place l.text) l.place l.high
