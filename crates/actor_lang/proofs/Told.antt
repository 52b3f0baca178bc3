-- What is told behind lines that are read.
use Rattle.std.specs.Prelude.{List, ◌++◌, Result, Ok, Err}
use Rattle.actor_lang.specs.InputFaults.{RefusedInput}

abbrev pub told_after : {A : Type 0} → List A → Result (List A) RefusedInput → Result (List A) RefusedInput
told_after read (Err r) = Err r
told_after read (Ok rest) = Ok (read ++ rest)
