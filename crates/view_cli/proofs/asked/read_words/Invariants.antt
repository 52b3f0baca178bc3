use Rattle.std.proofs.Common.{◌≡◌, Some, length}
use Rattle.view_cli.specs.Asked.{words_read}
use Rattle.view_cli.specs.Words.{words_of}
use Rattle.view_cli.proofs.asked.read_words.Given as goal

abbrev pub decreases-loop-rest : goal.decreases-loop-rest
decreases-loop-rest l = length l.rest

abbrev pub invariant-loop-rest : goal.invariant-loop-rest
invariant-loop-rest l = words_read (Some l.reading) (words_of l.rest) ≡ words_read (Some l.initial.reading) (words_of l.initial.rest)
