use Rattle.std.proofs.Common.{◌≡◌, take}
use Rattle.scenario_lang.proofs.numerals.label_from.Given as goal

abbrev pub invariant-loop-byte : goal.invariant-loop-byte
invariant-loop-byte l = l.label.items ≡ take l.byte-index l.word
